-- What stands behind a name.
use Rattle.std.proofs.Common.{◌≡◌, ◌==◌, ◌+◌, ℕ, Bool, true, false, ◌&&◌, cond, List, [], ◌∷◌, length, take, drop, refl, ap, sym, ◌∙◌, nat_eq}
use Rattle.std.specs.Prelude.{Option, None, Some, IfSome, IfNone, MatchOption}
use lib.Pointwise.{pointwise}
use Rattle.sk_request.specs.Asking.{behind}

-- the name is what a word begins with
abbrev pub front_is : List ℕ → List ℕ → Bool
front_is name word = pointwise nat_eq (take (length name) word) name

by_test : (t more : Bool) (rest : Option (List ℕ)) (value : List ℕ) → rest ≡ cond more (Some value) None → cond t rest None ≡ cond (t && more) (Some value) None
by_test true more rest value is = is
by_test false more rest value is = refl

behind_is : (name word : List ℕ) → behind name word ≡ cond (front_is name word) (Some (drop (length name) word)) None
behind_is [] word = refl
behind_is (b ∷ name) [] = refl
behind_is (b ∷ name) (c ∷ word) = by_test (c == b) (front_is name word) (behind name word) (drop (length name) word) (behind_is name word)

behind_some : (name word value : List ℕ) → front_is name word ≡ true → value ≡ drop (length name) word → behind name word ≡ Some value
behind_some name word value front is = behind_is name word ∙ ap (λ t. cond t (Some (drop (length name) word)) None) front ∙ ap Some (sym is)

behind_none : (name word : List ℕ) → front_is name word ≡ false → behind name word ≡ None
behind_none name word other = behind_is name word ∙ ap (λ t. cond t (Some (drop (length name) word)) None) other

-- what a search for the name finds
pub found_behind : {X : Type 0} (now : X → List ℕ) (name word : List ℕ) (r : Option X)
    → MatchOption r (front_is name word ≡ false) (λ x. (front_is name word ≡ true) × (now x ≡ drop (length name) word) × (length (now x) + length name ≡ length word))
    → IfSome r (λ x. behind name word ≡ Some (now x)) × IfNone r (behind name word ≡ None)
found_behind now name word None other = (tt, behind_none name word other)
found_behind now name word (Some x) (front, is, long) = (behind_some name word (now x) front is, tt)
