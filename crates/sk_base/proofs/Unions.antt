-- What a union holds, that it rises, and that rising lists with the same items are the same.
use Rattle.std.proofs.Common.{◌≡◌, ◌≢◌, ◌⊎◌, inl, inr, ℕ, zero, suc, ◌+◌, ◌<◌, ◌≤◌, List, [], ◌∷◌, ◌++◌, length, get_or, ap, sym, subst, ◌∙◌, arith, take, drop, append_assoc, add-one, drop-cons, ◌-◌}
use Rattle.std.specs.Prelude.{Contains, AllPairs}
use Rattle.std.proofs.lemmas.Bool.Decides.{nat_tests}
use Rattle.sk_base.specs.Rising.{IsRising, put, union}
use Rattle.sk_base.proofs.Members.{contains_none, contains_head, contains_later, contains_cases}
use Rattle.sk_base.proofs.Pairs.{pairs_none, pairs_tail, pairs_head, pairs_cons, pairs_same}
use Rattle.std.proofs.lemmas.List.{drop_all, take_all, append-nil, length-drop}

module _ {X : Type 0} (number : X → ℕ) where
  pub rising_none : IsRising number []
  rising_none = pairs_none (λ x y. number x < number y)

  pub rising_tail : (x : X) (xs : List X) → IsRising number (x ∷ xs) → IsRising number xs
  rising_tail = pairs_tail (λ x y. number x < number y)

  pub rising_below : (x : X) (xs : List X) → IsRising number (x ∷ xs) → (y : X) → Contains xs y → number x < number y
  rising_below = pairs_head (λ x y. number x < number y)

  pub rising_cons : (x : X) (xs : List X) → IsRising number xs → ((y : X) → Contains xs y → number x < number y) → IsRising number (x ∷ xs)
  rising_cons = pairs_cons (λ x y. number x < number y)

  pub rising_one : (x : X) → IsRising number (x ∷ [])
  rising_one x = rising_cons x [] rising_none (λ y h. absurd (contains_none y h))

  pub rising_differ : (xs : List X) → IsRising number xs → AllPairs (λ (x y : X). x ≢ y) xs
  rising_differ xs r i j d i_j j_in same = (let less = r i j d i_j j_in in let level = ap number same in absurd (omega arith))

  -- rising lists with the same items are the same
  pub rising_same : (xs ys : List X) → IsRising number xs → IsRising number ys → ((z : X) → Contains xs z → Contains ys z) → ((z : X) → Contains ys z → Contains xs z) → xs ≡ ys
  rising_same = pairs_same (λ x y. number x < number y) (λ x h. absurd (omega arith)) (λ x y h g. absurd (omega arith))

  -- no two items of a rising list have the same number
  pub rising_apart : (xs : List X) → IsRising number xs → (x y : X) → Contains xs x → Contains xs y → number x ≡ number y → x ≡ y
  rising_apart [] r x y x_in y_in same = absurd (contains_none x x_in)
  rising_apart (z ∷ xs) r x y x_in y_in same =
      elim (contains_cases z xs x x_in) [
        | inl x_here ↦ elim (contains_cases z xs y y_in) [
          | inl y_here ↦ sym x_here ∙ y_here
          | inr y_later ↦ (let above : number z < number y = rising_below z xs r y y_later in
              let level : number z ≡ number x = ap number x_here in absurd (omega arith))
        ]
        | inr x_later ↦ elim (contains_cases z xs y y_in) [
          | inl y_here ↦ (let above : number z < number x = rising_below z xs r x x_later in
              let level : number z ≡ number y = ap number y_here in absurd (omega arith))
          | inr y_later ↦ rising_apart xs (rising_tail z xs r) x y x_later y_later same
        ]
      ]

pub which : (a b : ℕ) → (a < b) ⊎ ((a ≡ b) ⊎ (b < a))
which a b = grind arith

module _ {X : Type 0} (number : X → ℕ) where
  pub put_first : (x y : X) (ys : List X) → number x < number y → put number x (y ∷ ys) ≡ x ∷ y ∷ ys
  unfolding put
  put_first x y ys h = grind (arith, nat_tests)

  pub put_same : (x y : X) (ys : List X) → number x ≡ number y → put number x (y ∷ ys) ≡ y ∷ ys
  unfolding put
  put_same x y ys h = grind (arith, nat_tests)

  pub put_later : (x y : X) (ys : List X) → number y < number x → put number x (y ∷ ys) ≡ y ∷ put number x ys
  unfolding put
  put_later x y ys h = grind (arith, nat_tests)

  pub contains_put_other : (x : X) (ys : List X) (z : X) → Contains ys z → Contains (put number x ys) z
  contains_put_other x [] z h = absurd (contains_none z h)
  contains_put_other x (y ∷ ys) z h =
      elim (which (number x) (number y)) [
        | inl first ↦ rw (put_first x y ys first) (contains_later x (y ∷ ys) z h)
        | inr (inl same) ↦ rw (put_same x y ys same) h
        | inr (inr later) ↦ rw (put_later x y ys later) (elim (contains_cases y ys z h) [
          | inl here ↦ subst (λ w. Contains (y ∷ put number x ys) w) here (contains_head y (put number x ys))
          | inr rest ↦ contains_later y (put number x ys) z (contains_put_other x ys z rest)
        ])
      ]

  pub contains_put_cases : (x : X) (ys : List X) (z : X) → Contains (put number x ys) z → (x ≡ z) ⊎ Contains ys z
  unfolding put
  contains_put_cases x [] z h = contains_cases x [] z h
  contains_put_cases x (y ∷ ys) z h =
      elim (which (number x) (number y)) [
        | inl first ↦ contains_cases x (y ∷ ys) z (rw (put_first x y ys first) at h)
        | inr (inl same) ↦ inr (rw (put_same x y ys same) at h)
        | inr (inr later) ↦ elim (contains_cases y (put number x ys) z (rw (put_later x y ys later) at h)) [
          | inl here ↦ inr (subst (λ w. Contains (y ∷ ys) w) here (contains_head y ys))
          | inr rest ↦ elim (contains_put_cases x ys z rest) [
            | inl put_here ↦ inl put_here
            | inr among ↦ inr (contains_later y ys z among)
          ]
        ]
      ]

  pub rising_put : (x : X) (ys : List X) → IsRising number ys → IsRising number (put number x ys)
  unfolding put
  rising_put x [] r = rising_cons number x [] r (λ y h. absurd (contains_none y h))
  rising_put x (y ∷ ys) r =
      elim (which (number x) (number y)) [
        | inl first ↦ rw (put_first x y ys first) (rising_cons number x (y ∷ ys) r (λ z h.
            elim (contains_cases y ys z h) [
              | inl here ↦ subst (λ w. number x < number w) here first
              | inr rest ↦ (let above : number y < number z = rising_below number y ys r z rest in omega arith)
            ]))
        | inr (inl same) ↦ rw (put_same x y ys same) r
        | inr (inr later) ↦ rw (put_later x y ys later) (rising_cons number y (put number x ys) (rising_put x ys (rising_tail number y ys r)) (λ z h.
            elim (contains_put_cases x ys z h) [
              | inl here ↦ subst (λ w. number y < number w) here later
              | inr rest ↦ rising_below number y ys r z rest
            ]))
      ]

  pub rising_union : (xs ys : List X) → IsRising number ys → IsRising number (union number xs ys)
  unfolding union
  rising_union [] ys r = r
  rising_union (x ∷ xs) ys r = rising_put x (union number xs ys) (rising_union xs ys r)

  pub union_right : (xs ys : List X) (z : X) → Contains ys z → Contains (union number xs ys) z
  unfolding union
  union_right [] ys z h = h
  union_right (x ∷ xs) ys z h = contains_put_other x (union number xs ys) z (union_right xs ys z h)

  pub union_cases : (xs ys : List X) (z : X) → Contains (union number xs ys) z → Contains xs z ⊎ Contains ys z
  unfolding union
  union_cases [] ys z h = inr h
  union_cases (x ∷ xs) ys z h =
      elim (contains_put_cases x (union number xs ys) z h) [
        | inl here ↦ inl (subst (λ w. Contains (x ∷ xs) w) here (contains_head x xs))
        | inr rest ↦ elim (union_cases xs ys z rest) [
          | inl left ↦ inl (contains_later x xs z left)
          | inr right ↦ inr right
        ]
      ]

  -- an item whose number none has is put in
  put_in : (x : X) (ys : List X) → ((y : X) → Contains ys y → number x ≢ number y) → Contains (put number x ys) x
  unfolding put
  put_in x [] other = contains_head x []
  put_in x (y ∷ ys) other =
      elim (which (number x) (number y)) [
        | inl first ↦ rw (put_first x y ys first) (contains_head x (y ∷ ys))
        | inr (inl same) ↦ absurd (other y (contains_head y ys) same)
        | inr (inr later) ↦ rw (put_later x y ys later) (contains_later y (put number x ys) x (put_in x ys (λ z h. other z (contains_later y ys z h))))
      ]

  -- where no two have the same number, a union has all of the first
  pub union_of_apart : (xs ys : List X) → IsRising number xs → ((x y : X) → Contains xs x → Contains ys y → number x ≢ number y) → (z : X) → Contains xs z → Contains (union number xs ys) z
  unfolding union
  union_of_apart [] ys rise apart z h = absurd (contains_none z h)
  union_of_apart (x ∷ xs) ys rise apart z h =
      elim (contains_cases x xs z h) [
        | inl here ↦ subst (λ w. Contains (put number x (union number xs ys)) w) here (put_in x (union number xs ys) (λ y y_in same.
            elim (union_cases xs ys y y_in) [
              | inl left ↦ (let below : number x < number y = rising_below number x xs rise y left in absurd (omega arith))
              | inr right ↦ apart x y (contains_head x xs) right same
            ]))
        | inr later ↦ contains_put_other x (union number xs ys) z
            (union_of_apart xs ys (rising_tail number x xs rise) (λ a b a_in b_in. apart a b (contains_later x xs a a_in) b_in) z later)
      ]

module _ {X : Type 0} (number : X → ℕ) (exact : (x y : X) → number x ≡ number y → x ≡ y) where
  pub contains_put : (x : X) (ys : List X) → Contains (put number x ys) x
  unfolding put
  contains_put x [] = contains_head x []
  contains_put x (y ∷ ys) =
      elim (which (number x) (number y)) [
        | inl first ↦ rw (put_first number x y ys first) (contains_head x (y ∷ ys))
        | inr (inl same) ↦ rw (put_same number x y ys same) (subst (λ w. Contains (y ∷ ys) w) (sym (exact x y same)) (contains_head y ys))
        | inr (inr later) ↦ rw (put_later number x y ys later) (contains_later y (put number x ys) x (contains_put x ys))
      ]

  pub union_left : (xs ys : List X) (z : X) → Contains xs z → Contains (union number xs ys) z
  unfolding union
  union_left [] ys z h = absurd (contains_none z h)
  union_left (x ∷ xs) ys z h =
      elim (contains_cases x xs z h) [
        | inl here ↦ subst (λ w. Contains (put number x (union number xs ys)) w) here (contains_put x (union number xs ys))
        | inr rest ↦ contains_put_other number x (union number xs ys) z (union_left xs ys z rest)
      ]

module _ {X : Type 0} (number : X → ℕ) (exact : (x y : X) → number x ≡ number y → x ≡ y) where
  -- a rising list that has what is in either is the union
  pub union_is : (xs ys all : List X) → IsRising number ys → IsRising number all → ((z : X) → Contains xs z → Contains all z) → ((z : X) → Contains ys z → Contains all z) → ((z : X) → Contains all z → Contains xs z ⊎ Contains ys z) → union number xs ys ≡ all
  union_is xs ys all ys_rise all_rises left right from =
      rising_same number (union number xs ys) all (rising_union number xs ys ys_rise) all_rises
      (λ z h. elim (union_cases number xs ys z h) [ inl l ↦ left z l | inr r ↦ right z r ])
      (λ z h. elim (from z h) [ inl l ↦ union_left number exact xs ys z l | inr r ↦ union_right number xs ys z r ])

  pub union_none : (xs : List X) → IsRising number xs → union number xs [] ≡ xs
  union_none xs r = union_is xs [] xs (rising_none number) r (λ z h. h) (λ z h. absurd (contains_none z h)) (λ z h. inl h)

  -- the least of both comes first
  union_first : (x : X) (xs ys : List X) → IsRising number (x ∷ xs) → IsRising number ys → ((z : X) → Contains ys z → number x < number z) → union number (x ∷ xs) ys ≡ x ∷ union number xs ys
  union_first x xs ys r s below =
      union_is (x ∷ xs) ys (x ∷ union number xs ys) s
      (rising_cons number x (union number xs ys) (rising_union number xs ys s) (λ z h.
      elim (union_cases number xs ys z h) [ inl l ↦ rising_below number x xs r z l | inr g ↦ below z g ]))
      (λ z h. elim (contains_cases x xs z h) [
        | inl here ↦ subst (λ w. Contains (x ∷ union number xs ys) w) here (contains_head x (union number xs ys))
        | inr later ↦ contains_later x (union number xs ys) z (union_left number exact xs ys z later)
      ])
      (λ z h. contains_later x (union number xs ys) z (union_right number xs ys z h))
      (λ z h. elim (contains_cases x (union number xs ys) z h) [
        | inl here ↦ inl (subst (λ w. Contains (x ∷ xs) w) here (contains_head x xs))
        | inr later ↦ elim (union_cases number xs ys z later) [ inl l ↦ inl (contains_later x xs z l) | inr g ↦ inr g ]
      ])

  union_second : (y : X) (xs ys : List X) → IsRising number xs → IsRising number (y ∷ ys) → ((z : X) → Contains xs z → number y < number z) → union number xs (y ∷ ys) ≡ y ∷ union number xs ys
  union_second y xs ys r s below =
      union_is xs (y ∷ ys) (y ∷ union number xs ys) s
      (rising_cons number y (union number xs ys) (rising_union number xs ys (rising_tail number y ys s)) (λ z h.
      elim (union_cases number xs ys z h) [ inl l ↦ below z l | inr g ↦ rising_below number y ys s z g ]))
      (λ z h. contains_later y (union number xs ys) z (union_left number exact xs ys z h))
      (λ z h. elim (contains_cases y ys z h) [
        | inl here ↦ subst (λ w. Contains (y ∷ union number xs ys) w) here (contains_head y (union number xs ys))
        | inr later ↦ contains_later y (union number xs ys) z (union_right number xs ys z later)
      ])
      (λ z h. elim (contains_cases y (union number xs ys) z h) [
        | inl here ↦ inr (subst (λ w. Contains (y ∷ ys) w) here (contains_head y ys))
        | inr later ↦ elim (union_cases number xs ys z later) [ inl l ↦ inl l | inr g ↦ inr (contains_later y ys z g) ]
      ])

  union_both : (x : X) (xs ys : List X) → IsRising number (x ∷ xs) → IsRising number (x ∷ ys) → union number (x ∷ xs) (x ∷ ys) ≡ x ∷ union number xs ys
  union_both x xs ys r s =
      union_is (x ∷ xs) (x ∷ ys) (x ∷ union number xs ys) s
      (rising_cons number x (union number xs ys) (rising_union number xs ys (rising_tail number x ys s)) (λ z h.
      elim (union_cases number xs ys z h) [ inl l ↦ rising_below number x xs r z l | inr g ↦ rising_below number x ys s z g ]))
      (λ z h. elim (contains_cases x xs z h) [
        | inl here ↦ subst (λ w. Contains (x ∷ union number xs ys) w) here (contains_head x (union number xs ys))
        | inr later ↦ contains_later x (union number xs ys) z (union_left number exact xs ys z later)
      ])
      (λ z h. elim (contains_cases x ys z h) [
        | inl here ↦ subst (λ w. Contains (x ∷ union number xs ys) w) here (contains_head x (union number xs ys))
        | inr later ↦ contains_later x (union number xs ys) z (union_right number xs ys z later)
      ])
      (λ z h. elim (contains_cases x (union number xs ys) z h) [
        | inl here ↦ inl (subst (λ w. Contains (x ∷ xs) w) here (contains_head x xs))
        | inr later ↦ elim (union_cases number xs ys z later) [ inl l ↦ inl (contains_later x xs z l) | inr g ↦ inr (contains_later x ys z g) ]
      ])

  pub rising_drop : (i : ℕ) (xs : List X) → IsRising number xs → IsRising number (drop i xs)
  rising_drop zero xs r = r
  rising_drop (suc i) [] r = r
  rising_drop (suc i) (x ∷ xs) r = rising_drop i xs (rising_tail number x xs r)

  -- so far all is made, and the rest of both is left: the next one is moved over
  module _ (xs ys all : List X) (i j : ℕ) (x y : X) (i_in : i < length xs) (j_in : j < length ys)
      (x_is : get_or xs i x ≡ x) (y_is : get_or ys j y ≡ y)
      (xs_rise : IsRising number xs) (ys_rise : IsRising number ys) where
    x_rest : drop i xs ≡ x ∷ drop (i + 1) xs
    x_rest = rw add-one (drop-cons xs i x i_in ∙ ap (λ z. z ∷ drop (suc i) xs) x_is)

    y_rest : drop j ys ≡ y ∷ drop (j + 1) ys
    y_rest = rw add-one (drop-cons ys j y j_in ∙ ap (λ z. z ∷ drop (suc j) ys) y_is)

    x_rises : IsRising number (x ∷ drop (i + 1) xs)
    x_rises = subst (λ zs. IsRising number zs) x_rest (rising_drop i xs xs_rise)

    y_rises : IsRising number (y ∷ drop (j + 1) ys)
    y_rises = subst (λ zs. IsRising number zs) y_rest (rising_drop j ys ys_rise)

    pub moves_first : number x < number y → all ++ union number (drop i xs) (drop j ys) ≡ (all ++ x ∷ []) ++ union number (drop (i + 1) xs) (drop j ys)
    moves_first less =
        let front : union number (drop i xs) (drop j ys) ≡ x ∷ union number (drop (i + 1) xs) (drop j ys) =
        ap (λ zs. union number zs (drop j ys)) x_rest
        ∙ union_first x (drop (i + 1) xs) (drop j ys) x_rises (rising_drop j ys ys_rise) (λ z h.
        elim (contains_cases y (drop (j + 1) ys) z (subst (λ zs. Contains zs z) y_rest h)) [
          | inl here ↦ subst (λ w. number x < number w) here less
          | inr later ↦ (let above : number y < number z = rising_below number y (drop (j + 1) ys) y_rises z later in omega arith)
        ]) in
        ap (λ zs. all ++ zs) front ∙ sym (append_assoc all (x ∷ []) (union number (drop (i + 1) xs) (drop j ys)))

    pub moves_second : number y < number x → all ++ union number (drop i xs) (drop j ys) ≡ (all ++ y ∷ []) ++ union number (drop i xs) (drop (j + 1) ys)
    moves_second less =
        let front : union number (drop i xs) (drop j ys) ≡ y ∷ union number (drop i xs) (drop (j + 1) ys) =
        ap (λ zs. union number (drop i xs) zs) y_rest
        ∙ union_second y (drop i xs) (drop (j + 1) ys) (rising_drop i xs xs_rise) y_rises (λ z h.
        elim (contains_cases x (drop (i + 1) xs) z (subst (λ zs. Contains zs z) x_rest h)) [
          | inl here ↦ subst (λ w. number y < number w) here less
          | inr later ↦ (let above : number x < number z = rising_below number x (drop (i + 1) xs) x_rises z later in omega arith)
        ]) in
        ap (λ zs. all ++ zs) front ∙ sym (append_assoc all (y ∷ []) (union number (drop i xs) (drop (j + 1) ys)))

    pub moves_both : number x ≡ number y → all ++ union number (drop i xs) (drop j ys) ≡ (all ++ y ∷ []) ++ union number (drop (i + 1) xs) (drop (j + 1) ys)
    moves_both level =
        let x_to_y : drop i xs ≡ y ∷ drop (i + 1) xs = x_rest ∙ ap (λ z. z ∷ drop (i + 1) xs) (exact x y level) in
        let front : union number (drop i xs) (drop j ys) ≡ y ∷ union number (drop (i + 1) xs) (drop (j + 1) ys) =
        ap (λ zs. union number zs (drop j ys)) x_to_y
        ∙ ap (λ zs. union number (y ∷ drop (i + 1) xs) zs) y_rest
        ∙ union_both y (drop (i + 1) xs) (drop (j + 1) ys) (subst (λ zs. IsRising number zs) x_to_y (rising_drop i xs xs_rise)) y_rises in
        ap (λ zs. all ++ zs) front ∙ sym (append_assoc all (y ∷ []) (union number (drop (i + 1) xs) (drop (j + 1) ys)))

  rest_of : (xs : List X) (i : ℕ) → take (length xs - i) (drop i xs) ≡ drop i xs
  rest_of xs i = take_all (length xs - i) (drop i xs) (omega (arith, length-drop i xs))

  -- at the end of one of them, the rest of the other is what is left
  pub ends_at : (xs ys all : List X) (i j : ℕ) → IsRising number xs → (length xs ≤ i) ⊎ (length ys ≤ j) → (all ++ take (length xs - i) (drop i xs)) ++ take (length ys - j) (drop j ys) ≡ all ++ union number (drop i xs) (drop j ys)
  unfolding union
  ends_at xs ys all i j r (inl over) =
      let none : drop i xs ≡ [] = drop_all i xs over in
      rw (rest_of xs i, rest_of ys j, none, append-nil)
  ends_at xs ys all i j r (inr over) =
      let none : drop j ys ≡ [] = drop_all j ys over in
      rw (rest_of xs i, rest_of ys j, none, append-nil, union_none (drop i xs) (rising_drop i xs r))
