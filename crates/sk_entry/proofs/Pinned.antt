-- The pins of a block, three words each.
use Rattle.std.proofs.Common.{◌≡◌, ℕ, ◌<◌, ◌≤◌, Bool, true, false, cond, List, [], ◌∷◌, length, map, Option, Some, Result, Ok, Err, IsErr, IsErrAnd, MatchResult, refl, sym, subst, arith}
use Rattle.sk_lines.specs.declared.Word.{Word}
use Rattle.sk_lines.specs.Words.{StandInOrder}
use Rattle.sk_lines.specs.declared.Code.{Code}
use Rattle.sk_lines.specs.declared.EntryError.{EntryError}
use Rattle.sk_lines.specs.declared.EntryError.TheVariants.{Refused, NoMemory}
use Rattle.sk_lines.specs.Refusals.{IsRefusal}
use Rattle.sk_lines.specs.FirstCode.{coded}
use Rattle.sk_entry.specs.PinLines.{pins_in}
use Rattle.sk_lines.proofs.WordPlaces.{word_within}

-- fewer than three words are no pin
pub none_left : {X : Type 0} (bytes : X → List ℕ) (words : List X) → length words < 3 → pins_in (map bytes words) ≡ []
none_left bytes [] few = refl
none_left bytes (a ∷ []) few = refl
none_left bytes (a ∷ b ∷ []) few = refl
none_left bytes (a ∷ b ∷ c ∷ words) few = absurd (omega arith)

refused_before : (t : Bool) (code : Code) (rest : Option Code) (e : EntryError) → IsRefusal (coded t code) e → IsRefusal (cond t (Some code) rest) e
refused_before true code rest e is = is
refused_before false code rest (Refused c) is = cc
refused_before false code rest NoMemory is = tt

-- a refusal by the first test is that of the whole table
pub refused_by_first : {X : Type 0} (r : Result X EntryError) (e : EntryError) (fine : X → Type 0) (t : Bool) (code : Code) (rest : Option Code) → IsErr r × IsErrAnd r (λ x. x ≡ e) → IsRefusal (coded t code) e → MatchResult r fine (IsRefusal (cond t (Some code) rest))
refused_by_first (Ok x) e fine t code rest refused is = (let never : false ≡ true = refused.0 in absurd (cc))
refused_by_first (Err d) e fine t code rest refused is = subst (IsRefusal (cond t (Some code) rest)) (sym refused.1) (refused_before t code rest e is)

-- the word lies within the line
abbrev pub LiesWithin : Word → ℕ → Type 0
LiesWithin word to = (word.start ≤ word.end) × (word.end ≤ to)

pub first_three : (from : ℕ) (words : List Word) (to : ℕ) (a b c : Word) (more : List Word) → words ≡ a ∷ b ∷ c ∷ more → StandInOrder from words to → LiesWithin a to × LiesWithin b to × LiesWithin c to
first_three from words to a b c more is order =
    let stand = subst (λ (ws : List Word). StandInOrder from ws to) is order in
    let p = word_within from (a ∷ b ∷ c ∷ more) to stand 0 a (omega arith) in
    let q = word_within from (a ∷ b ∷ c ∷ more) to stand 1 a (omega arith) in
    let r = word_within from (a ∷ b ∷ c ∷ more) to stand 2 a (omega arith) in
    ((omega (arith, p), p.1), (omega (arith, q), q.1), (omega (arith, r), r.1))
