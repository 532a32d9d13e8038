use Rattle.std.proofs.Common.{◌≡◌, ◌==◌, List, ℕ, sym, ap, ◌∙◌}
use Rattle.std.specs.Prelude.{Some, None}
use Rattle.std.specs.List.{position}
use Rattle.sk_neighbours.proofs.Holding.{key_taken, key_absent, key_within}
use Rattle.sk_neighbours.proofs.index.drop_key.Goals as goal

pub remove-requires : goal.remove-requires
remove-requires c =
    let found : position (λ (j : ℕ). j == c.args.key) c.args.keys.now ≡ Some c.in-Some.place =
    ap (λ (l : List ℕ). position (λ (j : ℕ). j == c.args.key) l) (sym c.as_slice.ensures) ∙ sym c.first_place.ensures ∙ c.in-Some.is in
    key_within c.args.key c.args.keys.now c.in-Some.place found

pub returns-in-Some : goal.returns-in-Some
returns-in-Some c =
    let found : position (λ (j : ℕ). j == c.args.key) c.args.keys.now ≡ Some c.in-Some.place =
    ap (λ (l : List ℕ). position (λ (j : ℕ). j == c.args.key) l) (sym c.as_slice.ensures) ∙ sym c.first_place.ensures ∙ c.in-Some.is in
    c.remove.ensures ∙ key_taken c.args.key c.args.keys.now c.requires c.in-Some.place found

pub returns-in_default : goal.returns-in_default
returns-in_default c =
    let none : position (λ (j : ℕ). j == c.args.key) c.args.keys.now ≡ None =
    ap (λ (l : List ℕ). position (λ (j : ℕ). j == c.args.key) l) (sym c.as_slice.ensures) ∙ sym c.first_place.ensures ∙ c.in_default.is in
    key_absent c.args.key c.args.keys.now none
