-- How long unions are.
use Rattle.std.proofs.Common.{◌≡◌, ◌≢◌, inl, inr, ℕ, ◌+◌, ◌<◌, ◌≤◌, List, [], ◌∷◌, length, ap, sym, subst, ◌∙◌, arith}
use Rattle.std.specs.Prelude.{Contains}
use Rattle.sk_base.specs.Rising.{IsRising, put, union}
use Rattle.sk_base.proofs.Members.{contains_none, contains_head, contains_later, contains_cases}
use Rattle.sk_base.proofs.Unions.{which, put_first, put_same, put_later, rising_tail, rising_below, rising_union, union_right, union_cases}

module _ {X : Type 0} (number : X → ℕ) where
  put_at_most : (x : X) (ys : List X) → length (put number x ys) ≤ length ys + 1
  unfolding put
  put_at_most x [] = omega arith
  put_at_most x (y ∷ ys) =
      elim (which (number x) (number y)) [
        | inl first ↦ rw (put_first number x y ys first) (omega arith)
        | inr (inl same) ↦ rw (put_same number x y ys same) (omega arith)
        | inr (inr later) ↦ rw (put_later number x y ys later) (let rest = put_at_most x ys in omega arith)
      ]

  -- what is there already is not put again
  put_there : (x : X) (ys : List X) → IsRising number ys → Contains ys x → put number x ys ≡ ys
  put_there x [] r h = absurd (contains_none x h)
  put_there x (y ∷ ys) r h =
      elim (contains_cases y ys x h) [
        | inl here ↦ put_same number x y ys (ap number (sym here))
        | inr later ↦ put_later number x y ys (rising_below number y ys r x later) ∙ ap (λ zs. y ∷ zs) (put_there x ys (rising_tail number y ys r) later)
      ]

module _ {X : Type 0} (number : X → ℕ) (exact : (x y : X) → number x ≡ number y → x ≡ y) where
  -- what is not there is put
  put_new : (x : X) (ys : List X) → ¬ Contains ys x → length (put number x ys) ≡ length ys + 1
  unfolding put
  put_new x [] h = omega arith
  put_new x (y ∷ ys) h =
      elim (which (number x) (number y)) [
        | inl first ↦ rw (put_first number x y ys first) (omega arith)
        | inr (inl same) ↦ absurd (h (subst (λ z. Contains (y ∷ ys) z) (sym (exact x y same)) (contains_head y ys)))
        | inr (inr later) ↦ rw (put_later number x y ys later) (let rest = put_new x ys (λ i. h (contains_later y ys x i)) in omega arith)
      ]

  pub union_at_most : (xs ys : List X) → length (union number xs ys) ≤ length xs + length ys
  unfolding union
  union_at_most [] ys = omega arith
  union_at_most (x ∷ xs) ys = (let rest = union_at_most xs ys in let one = put_at_most number x (union number xs ys) in omega arith)

  pub union_shares_one : (xs ys : List X) → IsRising number ys → (a : X) → Contains xs a → Contains ys a → length (union number xs ys) + 1 ≤ length xs + length ys
  unfolding union
  union_shares_one [] ys r a a_x a_y = absurd (contains_none a a_x)
  union_shares_one (x ∷ xs) ys r a a_x a_y =
      elim (contains_cases x xs a a_x) [
        | inl here ↦ (
            let there : Contains (union number xs ys) x = union_right number xs ys x (subst (λ z. Contains ys z) (sym here) a_y) in
            rw (put_there number x (union number xs ys) (rising_union number xs ys r) there) (let rest = union_at_most xs ys in omega arith))
        | inr later ↦ (
            let rest = union_shares_one xs ys r a later a_y in
            let one = put_at_most number x (union number xs ys) in omega arith)
      ]

  pub union_shares_two : (xs ys : List X) → IsRising number ys → (a b : X) → a ≢ b → Contains xs a → Contains xs b → Contains ys a → Contains ys b → length (union number xs ys) + 2 ≤ length xs + length ys
  unfolding union
  union_shares_two [] ys r a b differ a_x b_x a_y b_y = absurd (contains_none a a_x)
  union_shares_two (x ∷ xs) ys r a b differ a_x b_x a_y b_y =
      elim (contains_cases x xs a a_x) [
        | inl a_here ↦ elim (contains_cases x xs b b_x) [
          | inl b_here ↦ absurd (differ (sym a_here ∙ b_here))
          | inr b_later ↦ (
              let there : Contains (union number xs ys) x = union_right number xs ys x (subst (λ z. Contains ys z) (sym a_here) a_y) in
              rw (put_there number x (union number xs ys) (rising_union number xs ys r) there) (let rest = union_shares_one xs ys r b b_later b_y in omega arith))
        ]
        | inr a_later ↦ elim (contains_cases x xs b b_x) [
          | inl b_here ↦ (
              let there : Contains (union number xs ys) x = union_right number xs ys x (subst (λ z. Contains ys z) (sym b_here) b_y) in
              rw (put_there number x (union number xs ys) (rising_union number xs ys r) there) (let rest = union_shares_one xs ys r a a_later a_y in omega arith))
          | inr b_later ↦ (
              let rest = union_shares_two xs ys r a b differ a_later b_later a_y b_y in
              let one = put_at_most number x (union number xs ys) in omega arith)
        ]
      ]

  pub union_shares_three : (xs ys : List X) → IsRising number ys → (a b c : X) → a ≢ b → b ≢ c → c ≢ a → Contains xs a → Contains xs b → Contains xs c → Contains ys a → Contains ys b → Contains ys c → length (union number xs ys) + 3 ≤ length xs + length ys
  unfolding union
  union_shares_three [] ys r a b c a_b b_c c_a a_x b_x c_x a_y b_y c_y = absurd (contains_none a a_x)
  union_shares_three (x ∷ xs) ys r a b c a_b b_c c_a a_x b_x c_x a_y b_y c_y =
      elim (contains_cases x xs a a_x) [
        | inl a_here ↦ elim (contains_cases x xs b b_x) [
          | inl b_here ↦ absurd (a_b (sym a_here ∙ b_here))
          | inr b_later ↦ elim (contains_cases x xs c c_x) [
            | inl c_here ↦ absurd (c_a (sym c_here ∙ a_here))
            | inr c_later ↦ first_too a a_here a_y (union_shares_two xs ys r b c b_c b_later c_later b_y c_y)
          ]
        ]
        | inr a_later ↦ elim (contains_cases x xs b b_x) [
          | inl b_here ↦ elim (contains_cases x xs c c_x) [
            | inl c_here ↦ absurd (b_c (sym b_here ∙ c_here))
            | inr c_later ↦ first_too b b_here b_y (union_shares_two xs ys r c a c_a c_later a_later c_y a_y)
          ]
          | inr b_later ↦ elim (contains_cases x xs c c_x) [
            | inl c_here ↦ first_too c c_here c_y (union_shares_two xs ys r a b a_b a_later b_later a_y b_y)
            | inr c_later ↦ (
                let rest = union_shares_three xs ys r a b c a_b b_c c_a a_later b_later c_later a_y b_y c_y in
                let one = put_at_most number x (union number xs ys) in omega arith)
          ]
        ]
      ]
    where
      first_too : (z : X) → x ≡ z → Contains ys z → length (union number xs ys) + 2 ≤ length xs + length ys → length (union number (x ∷ xs) ys) + 3 ≤ length (x ∷ xs) + length ys
      first_too z here z_y rest =
          let there : Contains (union number xs ys) x = union_right number xs ys x (subst (λ w. Contains ys w) (sym here) z_y) in
          rw (put_there number x (union number xs ys) (rising_union number xs ys r) there) (omega arith)

  pub union_apart : (xs ys : List X) → IsRising number xs → ((z : X) → Contains xs z → ¬ Contains ys z) → length (union number xs ys) ≡ length xs + length ys
  unfolding union
  union_apart [] ys r apart = omega arith
  union_apart (x ∷ xs) ys r apart =
      let rest = union_apart xs ys (rising_tail number x xs r) (λ z h. apart z (contains_later x xs z h)) in
      let one = put_new x (union number xs ys) (λ h. elim (union_cases number xs ys x h) [
        | inl left ↦ (let below : number x < number x = rising_below number x xs r x left in absurd (omega arith))
        | inr right ↦ apart x (contains_head x xs) right
      ]) in
      omega arith
