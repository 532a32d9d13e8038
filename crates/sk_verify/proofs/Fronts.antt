-- What holds of each item of a front of a list, and the first item of which it doesn't.
use Rattle.std.proofs.Common.{◌≡◌, inl, inr, ℕ, ◌+◌, ◌<◌, ◌≤◌, List, [], ◌∷◌, ◌++◌, length, get_or, take, drop, sym, subst, ap, ◌∙◌, arith}
use Rattle.std.specs.Prelude.{Contains}
use Rattle.std.proofs.lemmas.List.{take_more, take_all, at_drop_more, take-append-drop}
use Rattle.std.proofs.lemmas.List.Elements.{Contains-append_cases}
use Rattle.sk_base.proofs.Members.{contains_none, contains_one}
use Rattle.sk_tolerance.specs.First.{IsFirst}

module _ {X : Type 0} (P : X → Type 0) where
  abbrev pub AllOf : List X → Type 0
  AllOf xs = (x : X) → Contains xs x → P x

  pub all_none : AllOf []
  all_none x h = absurd (contains_none x h)

  pub all_more : (xs : List X) (i : ℕ) (d : X) → i < length xs → AllOf (take i xs) → P (get_or xs i d) → AllOf (take (i + 1) xs)
  all_more xs i d inside before here = subst AllOf (sym (take_more xs i d inside)) (λ x h. elim (Contains-append_cases (take i xs) (get_or xs i d ∷ []) x h) [
    | inl early ↦ before x early
    | inr late ↦ subst P (contains_one (get_or xs i d) x late) here
  ])

  pub all_there : (xs : List X) (i : ℕ) → length xs ≤ i → AllOf (take i xs) → AllOf xs
  all_there xs i over all = subst AllOf (take_all i xs over) all

  -- the first of which it doesn't hold
  pub first_here : (xs : List X) (i : ℕ) (d : X) → i < length xs → AllOf (take i xs) → ¬ P (get_or xs i d) → IsFirst (λ x. ¬ P x) xs (get_or xs i d)
  first_here xs i d inside before not = record {
    before = take i xs;
    after = drop (i + 1) xs;
    parts = sym (take-append-drop i xs) ∙ at_drop_more (λ rest. take i xs ++ rest) xs i d inside;
    has = not;
    none_before = λ y h refuses. refuses (before y h);
  }

-- a list of one item
pub one_alone : {X : Type 0} (xs : List X) (x : X) → length xs ≡ 1 → x ≡ get_or xs 0 x → xs ≡ x ∷ []
one_alone [] x one is = absurd (omega arith)
one_alone (y ∷ []) x one is = ap (λ z. z ∷ []) (sym is)
one_alone (y ∷ z ∷ zs) x one is = absurd (omega arith)
