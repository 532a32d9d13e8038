-- New values of constraints, and old ones back.
use Rattle.std.proofs.Common.{◌≡◌, ◌==◌, Bool, true, false, cond, List, refl, ap, sym, ◌∙◌, arith}
use Rattle.std.specs.Prelude.{Contains, map}
use Rattle.std.proofs.lemmas.Bool.Decides.{nat_tests}
use Rattle.sk_base.specs.declared.ConId.{ConId}
use Rattle.sk_base.specs.declared.Constraint.{Constraint}
use Rattle.sk_base.specs.declared.Rule.{Rule}
use Rattle.sk_base.specs.Rising.{IsRising}
use Rattle.sk_base.specs.Numbering.{con_number}
use Rattle.sk_base.proofs.Unions.{rising_apart}
use Rattle.sk_edits.specs.Changes.{with_item}
use Rattle.sk_edits.specs.Edits.{changed, constraint_number}
use Rattle.sk_edits.proofs.Places.{map_alike, map_undone}

module _ (k : ConId) (change : Rule → Rule) (old : Constraint) (cs : List Constraint) (rises : IsRising constraint_number cs) (old_in : Contains cs old) (is : old.number ≡ k) where
  is_old : (x : Constraint) → Contains cs x → (x.number.0 == k.0) ≡ true → x ≡ old
  is_old x x_in here =
      let level : x.number.0 ≡ k.0 = grind (arith, nat_tests) in
      rising_apart constraint_number cs rises x old x_in old_in (level ∙ sym (ap con_number is))

  -- the changed constraint in the place of the old one
  pub set_one : with_item constraint_number (record { number = k; rule = change old.rule }) cs ≡ map (changed k change) cs
  set_one = map_alike _ (changed k change) cs (λ x x_in. told x x_in (x.number.0 == k.0) refl)
    where
      told : (x : Constraint) → Contains cs x → (t : Bool) → (x.number.0 == k.0) ≡ t
          → cond t (record { number = k; rule = change old.rule }) x ≡ record { number = x.number; rule = cond t (change x.rule) x.rule }
      told x x_in true here = (let same = is_old x x_in here in let number : x.number ≡ k = ap (λ (c : Constraint). c.number) same ∙ is in let rule : x.rule ≡ old.rule = ap (λ (c : Constraint). c.rule) same in cc)
      told x x_in false here = refl

  -- the old one back in its place
  pub set_back : with_item constraint_number old (map (changed k change) cs) ≡ cs
  set_back = map_undone _ (changed k change) cs (λ x x_in. told x x_in (x.number.0 == k.0) refl (x.number.0 == old.number.0) (ap (λ (j : ConId). x.number.0 == j.0) is))
    where
      told : (x : Constraint) → Contains cs x → (t : Bool) → (x.number.0 == k.0) ≡ t → (v : Bool) → v ≡ (x.number.0 == k.0)
          → cond v old (record { number = x.number; rule = cond t (change x.rule) x.rule }) ≡ x
      told x x_in true here true same = sym (is_old x x_in here)
      told x x_in true here false same = cc
      told x x_in false here true same = cc
      told x x_in false here false same = refl
