-- What passes a test among finitely many items, listed in a strict order.
use Rattle.std.proofs.Common.{◌≡◌, ◌⊎◌, inl, inr, ℕ, ◌<◌, List, [], ◌∷◌, ◌++◌, sym, ◌∙◌, subst}
use Rattle.std.specs.Prelude.{Contains, AllPairs, map, ◌↔◌}
use Rattle.std.proofs.lemmas.List.Elements.{Contains-append_left, Contains-append_right, Contains-append_cases}
use Rattle.sk_base.proofs.Members.{contains_none, contains_head, contains_later, contains_one, contains_cases, contains_mapped, mapped_from}
use Rattle.sk_base.proofs.Pairs.{pairs_none, pairs_tail, pairs_head, pairs_cons}
use Rattle.sk_base.proofs.Unions.{which}
use Rattle.sk_base.proofs.Deciding.{Decided}

-- items that their number tells are in a strict order
pub number_tells : {X : Type 0} (number : X → ℕ) → ((x y : X) → number x ≡ number y → x ≡ y) → (x y : X) → (number x < number y) ⊎ ((x ≡ y) ⊎ (number y < number x))
number_tells number exact x y =
    elim (which (number x) (number y)) [ inl less ↦ inl less | inr (inl same) ↦ inr (inl (exact x y same)) | inr (inr more) ↦ inr (inr more) ]

module _ {X : Type 0} (R : X → X → Type 0) (tells : (x y : X) → R x y ⊎ ((x ≡ y) ⊎ R y x)) (chain : (x y z : X) → R x y → R y z → R x z) where
  -- the list with an item put in
  inserted : (x : X) (ys : List X) → AllPairs R ys → (zs : List X) × AllPairs R zs × ((z : X) → Contains zs z ↔ ((x ≡ z) ⊎ Contains ys z))
  inserted x [] r = (
    x ∷ [],
    pairs_cons R x [] (pairs_none R) (λ y h. absurd (contains_none y h)),
    λ z. ((λ h. inl (contains_one x z h)), (λ h. elim h [ inl is ↦ subst (λ w. Contains (x ∷ []) w) is (contains_head x []) | inr within ↦ absurd (contains_none z within) ])),
  )
  inserted x (y ∷ ys) r =
      elim (tells x y) [
        | inl before ↦ (
          x ∷ y ∷ ys,
          pairs_cons R x (y ∷ ys) r (λ z h. elim (contains_cases y ys z h) [ inl is ↦ subst (λ w. R x w) is before | inr later ↦ chain x y z before (pairs_head R y ys r z later) ]),
          λ z. (
            (λ h. contains_cases x (y ∷ ys) z h),
            (λ h. elim h [ inl is ↦ subst (λ w. Contains (x ∷ y ∷ ys) w) is (contains_head x (y ∷ ys)) | inr within ↦ contains_later x (y ∷ ys) z within ]),
          ),
        )
        | inr (inl same) ↦ (
          y ∷ ys,
          r,
          λ z. (
            (λ h. inr h),
            (λ h. elim h [ inl is ↦ subst (λ w. Contains (y ∷ ys) w) (sym same ∙ is) (contains_head y ys) | inr within ↦ within ]),
          ),
        )
        | inr (inr after) ↦ (
            let rest = inserted x ys (pairs_tail R y ys r) in (
              y ∷ rest.0,
              pairs_cons R y rest.0 rest.1 (λ z h. elim ((rest.2 z).0 h) [ inl is ↦ subst (λ w. R y w) is after | inr within ↦ pairs_head R y ys r z within ]),
              λ z. (
                (λ h. elim (contains_cases y rest.0 z h) [
                  | inl is ↦ inr (subst (λ w. Contains (y ∷ ys) w) is (contains_head y ys))
                  | inr later ↦ elim ((rest.2 z).0 later) [ inl is ↦ inl is | inr within ↦ inr (contains_later y ys z within) ]
                ]),
                (λ h. elim h [
                  | inl is ↦ contains_later y rest.0 z ((rest.2 z).1 (inl is))
                  | inr within ↦ elim (contains_cases y ys z within) [
                    | inl is ↦ subst (λ w. Contains (y ∷ rest.0) w) is (contains_head y rest.0)
                    | inr later ↦ contains_later y rest.0 z ((rest.2 z).1 (inr later))
                  ]
                ]),
              ),
            ))
      ]

  pub selected : (P : X → Type 0) → ((x : X) → Decided (P x)) → (xs : List X) → (ys : List X) × AllPairs R ys × ((z : X) → Contains ys z ↔ (Contains xs z × P z))
  selected P decide [] = ([], pairs_none R, λ z. ((λ h. absurd (contains_none z h)), (λ h. absurd (contains_none z h.0))))
  selected P decide (x ∷ xs) =
      let rest = selected P decide xs in
      elim (decide x) [
        | inl passes ↦ (
            let more = inserted x rest.0 rest.1 in (
              more.0,
              more.1,
              λ z. (
                (λ h. elim ((more.2 z).0 h) [
                  | inl is ↦ (subst (λ w. Contains (x ∷ xs) w) is (contains_head x xs), subst (λ w. P w) is passes)
                  | inr within ↦ (contains_later x xs z ((rest.2 z).0 within).0, ((rest.2 z).0 within).1)
                ]),
                (λ h. (more.2 z).1 (elim (contains_cases x xs z h.0) [
                  | inl is ↦ inl is
                  | inr later ↦ inr ((rest.2 z).1 (later, h.1))
                ])),
              ),
            ))
        | inr fails ↦ (
          rest.0,
          rest.1,
          λ z. (
            (λ h. (contains_later x xs z ((rest.2 z).0 h).0, ((rest.2 z).0 h).1)),
            (λ h. elim (contains_cases x xs z h.0) [
              | inl is ↦ absurd (fails (subst (λ w. P w) (sym is) h.1))
              | inr later ↦ (rest.2 z).1 (later, h.1)
            ]),
          ),
        )
      ]

module _ {X Y Z : Type 0} (f : X → Y → Z) where
  -- what f makes of each item of the one list with each of the other
  pub times : List X → List Y → List Z
  times [] ys = []
  times (x ∷ xs) ys = map (f x) ys ++ times xs ys

  pub in_times : (xs : List X) (ys : List Y) (x : X) (y : Y) → Contains xs x → Contains ys y → Contains (times xs ys) (f x y)
  unfolding times
  in_times [] ys x y x_in y_in = absurd (contains_none x x_in)
  in_times (w ∷ xs) ys x y x_in y_in =
      elim (contains_cases w xs x x_in) [
        | inl is ↦ Contains-append_left (map (f w) ys) (times xs ys) (f x y) (subst (λ v. Contains (map (f w) ys) (f v y)) is (contains_mapped (f w) ys y y_in))
        | inr later ↦ Contains-append_right (map (f w) ys) (times xs ys) (f x y) (in_times xs ys x y later y_in)
      ]

  pub from_times : (xs : List X) (ys : List Y) (z : Z) → Contains (times xs ys) z → (x : X) × (y : Y) × (f x y ≡ z)
  unfolding times
  from_times [] ys z h = absurd (contains_none z h)
  from_times (w ∷ xs) ys z h =
      elim (Contains-append_cases (map (f w) ys) (times xs ys) z h) [
        | inl here ↦ (let found = mapped_from (f w) ys z here in (w, found.0, found.2))
        | inr later ↦ from_times xs ys z later
      ]
