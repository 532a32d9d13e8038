-- Three different elements by rising number are the three in one of six orders.
use Rattle.std.proofs.Common.{◌≡◌, ◌≢◌, ◌⊎◌, inl, inr, ◌<◌, ◌≤◌, List, [], ◌∷◌, refl, ap, sym, subst, ◌∙◌, arith}
use Rattle.sk_base.specs.declared.Elem.{Elem}
use Rattle.sk_base.specs.Numbering.{elem_number, elem_exact}
use Rattle.sk_base.specs.Rising.{put}
use Rattle.sk_base.proofs.Unions.{which, put_first, put_later}
use Rattle.sk_tree.specs.ByNumber.{by_number}

put_none : (x : Elem) → put elem_number x [] ≡ x ∷ []
unfolding put
put_none x = refl

-- where an element is put among two
pub put_before : (a x y : Elem) → a.0 < x.0 → put elem_number a (x ∷ y ∷ []) ≡ a ∷ x ∷ y ∷ []
put_before a x y below = put_first elem_number a x (y ∷ []) below

pub put_between : (a x y : Elem) → x.0 < a.0 → a.0 < y.0 → put elem_number a (x ∷ y ∷ []) ≡ x ∷ a ∷ y ∷ []
put_between a x y above below = put_later elem_number a x (y ∷ []) above ∙ ap (λ zs. x ∷ zs) (put_first elem_number a y [] below)

pub put_behind : (a x y : Elem) → x.0 < a.0 → y.0 < a.0 → put elem_number a (x ∷ y ∷ []) ≡ x ∷ y ∷ a ∷ []
put_behind a x y above behind =
    put_later elem_number a x (y ∷ []) above ∙ ap (λ zs. x ∷ zs) (put_later elem_number a y [] behind ∙ ap (λ zs. y ∷ zs) (put_none a))

pub put_two : (b c : Elem) → b.0 < c.0 → put elem_number b (c ∷ []) ≡ b ∷ c ∷ []
put_two b c below = put_first elem_number b c [] below

pub put_two_back : (b c : Elem) → c.0 < b.0 → put elem_number b (c ∷ []) ≡ c ∷ b ∷ []
put_two_back b c above = put_later elem_number b c [] above ∙ ap (λ zs. c ∷ zs) (put_none b)

-- of different elements, the one that isn't below is above
pub above_of : (x y : Elem) → x ≢ y → y.0 ≤ x.0 → y.0 < x.0
above_of x y differ most = elim (which x.0 y.0) [
  | inl below ↦ absurd (omega arith)
  | inr (inl same) ↦ absurd (differ (elem_exact x y same))
  | inr (inr above) ↦ above
]

pub other_than : (a b c low high : Elem) → a ≢ b → c ≢ a → ((low ≡ b) × (high ≡ c)) ⊎ ((low ≡ c) × (high ≡ b)) → (a ≢ low) × (a ≢ high)
other_than a b c low high a_b c_a (inl is) = ((λ e. a_b (e ∙ is.0)), (λ e. c_a (sym (e ∙ is.1))))
other_than a b c low high a_b c_a (inr is) = ((λ e. c_a (sym (e ∙ is.0))), (λ e. a_b (e ∙ is.1)))

pub by_number_of : (a b c low high : Elem) (zs : List Elem) → put elem_number b (c ∷ []) ≡ low ∷ high ∷ [] → put elem_number a (low ∷ high ∷ []) ≡ zs → by_number a b c ≡ zs
by_number_of a b c low high zs pair is =
    subst (λ ys. put elem_number a (put elem_number b ys) ≡ zs) (sym (put_none c)) (subst (λ ys. put elem_number a ys ≡ zs) (sym pair) is)

-- an element is put before two others, between them or behind them
module _ (P : List Elem → Type 0) (a x y : Elem) (not_x : a ≢ x) (not_y : a ≢ y) (first : P (a ∷ x ∷ y ∷ [])) (middle : P (x ∷ a ∷ y ∷ [])) (last : P (x ∷ y ∷ a ∷ [])) where
  put_among : P (put elem_number a (x ∷ y ∷ []))
  put_among = elim (which (elem_number a) (elem_number x)) [
    | inl before ↦ subst P (sym (put_first elem_number a x (y ∷ []) before)) first
    | inr (inl same) ↦ absurd (not_x (elem_exact a x same))
    | inr (inr after) ↦ subst P (sym (put_later elem_number a x (y ∷ []) after)) (elim (which (elem_number a) (elem_number y)) [
      | inl before ↦ subst (λ zs. P (x ∷ zs)) (sym (put_first elem_number a y [] before)) middle
      | inr (inl same) ↦ absurd (not_y (elem_exact a y same))
      | inr (inr behind) ↦ subst (λ zs. P (x ∷ zs)) (sym (put_later elem_number a y [] behind)) (subst (λ zs. P (x ∷ y ∷ zs)) (sym (put_none a)) last)
    ])
  ]

-- what holds in each order holds by number
pub record InEachOrder (P : List Elem → Type 0) (a b c : Elem) : Type 0 where
  pub abc : P (a ∷ b ∷ c ∷ [])
  pub acb : P (a ∷ c ∷ b ∷ [])
  pub bac : P (b ∷ a ∷ c ∷ [])
  pub bca : P (b ∷ c ∷ a ∷ [])
  pub cab : P (c ∷ a ∷ b ∷ [])
  pub cba : P (c ∷ b ∷ a ∷ [])

pub by_number_some : (P : List Elem → Type 0) (a b c : Elem) → a ≢ b → b ≢ c → c ≢ a → InEachOrder P a b c → P (by_number a b c)
by_number_some P a b c a_b b_c c_a each =
    subst (λ zs. P (put elem_number a (put elem_number b zs))) (sym (put_none c)) (elim (which (elem_number b) (elem_number c)) [
      | inl before ↦ subst (λ zs. P (put elem_number a zs)) (sym (put_first elem_number b c [] before))
          (put_among P a b c a_b (λ e. c_a (sym e)) each.abc each.bac each.bca)
      | inr (inl same) ↦ absurd (b_c (elem_exact b c same))
      | inr (inr after) ↦ subst (λ zs. P (put elem_number a zs)) (sym (put_later elem_number b c [] after))
          (subst (λ zs. P (put elem_number a (c ∷ zs))) (sym (put_none b))
          (put_among P a c b (λ e. c_a (sym e)) a_b each.acb each.cab each.cba))
    ])

-- what three have, they have by number
abbrev AreThree : (Elem → Type 0) → List Elem → Type 0
AreThree Q (x ∷ y ∷ z ∷ []) = Q x × Q y × Q z
AreThree Q _ = ⊥

pub by_number_each : (Q : Elem → Type 0) (a b c : Elem) → a ≢ b → b ≢ c → c ≢ a → Q a → Q b → Q c → (p q r : Elem) → by_number a b c ≡ p ∷ q ∷ r ∷ [] → Q p × Q q × Q r
by_number_each Q a b c a_b b_c c_a qa qb qc p q r is =
    subst (λ xs. AreThree Q xs) is (by_number_some (λ xs. AreThree Q xs) a b c a_b b_c c_a (record {
      abc = (qa, qb, qc);
      acb = (qa, qc, qb);
      bac = (qb, qa, qc);
      bca = (qb, qc, qa);
      cab = (qc, qa, qb);
      cba = (qc, qb, qa);
    }))
