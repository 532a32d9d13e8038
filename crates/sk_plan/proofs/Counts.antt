-- How many items of a list pass a test.
use Rattle.std.proofs.Common.{◌≡◌, ◌≢◌, ◌⊎◌, inl, inr, ℕ, ◌+◌, ◌≤◌, Bool, true, false, cond, List, [], ◌∷◌, length, refl, ap, sym, subst, ◌∙◌, arith}
use Rattle.std.specs.Prelude.{Contains, AllPairs, count_by, sum_by, ◌&&◌}
use Rattle.std.proofs.lemmas.List.Sums.{sum_by-cons}
use Rattle.sk_family.specs.Body.{Start}
use Rattle.sk_rules.specs.Excess.{weight, weight_where}
use Rattle.sk_rules.proofs.SummedWeights.{weighs_one, weighs_more}
use Rattle.sk_base.proofs.Members.{contains_head, contains_later}
use Rattle.sk_base.proofs.Unions.{which}
use Rattle.sk_base.proofs.Pairs.{pairs_tail, pairs_head}

-- true counts as one
abbrev pub bit : Bool → ℕ
bit b = cond b 1 0

within_bit : (a b : Bool) → (a ≡ true → b ≡ true) → bit a ≤ bit b
within_bit false b h = omega arith
within_bit true b h = rw (h refl) (omega arith)

two_bits : (a b w : Bool) → (a ≡ true → w ≡ true) → (b ≡ true → w ≡ true) → bit a + bit b ≤ bit w + bit (a && b)
two_bits false false w p q = omega arith
two_bits false true w p q = rw (q refl) (omega arith)
two_bits true false w p q = rw (p refl) (omega arith)
two_bits true true w p q = rw (p refl) (omega arith)

three_bits : (a b c w : Bool) → (a ≡ true → w ≡ true) → (b ≡ true → w ≡ true) → (c ≡ true → w ≡ true) → (bit a + bit b) + bit c ≤ bit w + (bit (a && b) + (bit (b && c) + bit (c && a)))
three_bits false false false w p q r = omega arith
three_bits false false true w p q r = rw (r refl) (omega arith)
three_bits false true false w p q r = rw (q refl) (omega arith)
three_bits false true true w p q r = rw (q refl) (omega arith)
three_bits true false false w p q r = rw (p refl) (omega arith)
three_bits true false true w p q r = rw (p refl) (omega arith)
three_bits true true false w p q r = rw (p refl) (omega arith)
three_bits true true true w p q r = rw (p refl) (omega arith)

-- what counts where one test passes, counts where one of three does
pub one_of_three : (a b c d : Bool) (w : ℕ) → (a ≡ true → (b ≡ true) ⊎ ((c ≡ true) ⊎ (d ≡ true))) → cond a w 0 ≤ cond b w 0 + (cond c w 0 + cond d w 0)
one_of_three false b c d w h = omega arith
one_of_three true b c d w h =
    elim (h refl) [
      | inl e ↦ rw e (omega arith)
      | inr (inl e) ↦ rw e (omega arith)
      | inr (inr e) ↦ rw e (omega arith)
    ]

-- what is owned where it is not nothing counts whole
pub if_owned : (a : Bool) (w : ℕ) → (w ≢ 0 → a ≡ true) → w ≤ cond a w 0
if_owned true w h = omega arith
if_owned false w h = elim (which w 0) [ inl never ↦ omega arith | inr (inl none) ↦ omega arith | inr (inr some) ↦ absurd (let never : false ≡ true = h (λ e. omega arith) in cc) ]

module _ {X : Type 0} where
  pub sum_within : (f h : X → ℕ) (xs : List X) → ((y : X) → Contains xs y → f y ≤ h y) → sum_by f xs ≤ sum_by h xs
  sum_within f h [] less = omega arith
  sum_within f h (x ∷ xs) less =
      let f_more = sum_by-cons f x xs in
      let h_more = sum_by-cons h x xs in
      let one = less x (contains_head x xs) in
      let rest = sum_within f h xs (λ y y_in. less y (contains_later x xs y y_in)) in
      omega arith

  pub sum_spread : (f h k l : X → ℕ) (xs : List X) → ((y : X) → Contains xs y → f y ≤ h y + (k y + l y)) → sum_by f xs ≤ sum_by h xs + (sum_by k xs + sum_by l xs)
  sum_spread f h k l [] less = omega arith
  sum_spread f h k l (x ∷ xs) less =
      let f_more = sum_by-cons f x xs in
      let h_more = sum_by-cons h x xs in
      let k_more = sum_by-cons k x xs in
      let l_more = sum_by-cons l x xs in
      let one = less x (contains_head x xs) in
      let rest = sum_spread f h k l xs (λ y y_in. less y (contains_later x xs y y_in)) in
      omega arith

  sum_none : (p : X → Bool) (w : X → ℕ) (xs : List X) → ((y : X) → Contains xs y → p y ≡ true → ⊥) → sum_by (λ y. cond (p y) (w y) 0) xs ≡ 0
  sum_none p w [] h = refl
  sum_none p w (x ∷ xs) h =
      let more = sum_by-cons (λ y. cond (p y) (w y) 0) x xs in
      let one = nothing (p x) (w x) (h x (contains_head x xs)) in
      let rest = sum_none p w xs (λ y y_in. h y (contains_later x xs y y_in)) in
      omega arith
    where
      nothing : (b : Bool) (n : ℕ) → (b ≡ true → ⊥) → cond b n 0 ≡ 0
      nothing true n h = absurd (h refl)
      nothing false n h = refl

  -- where only z can pass, and stands once, no more than it counts
  pub sum_single : (p : X → Bool) (w : X → ℕ) (z : X) (xs : List X) → AllPairs (λ x y. x ≢ y) xs → ((y : X) → Contains xs y → p y ≡ true → y ≡ z) → sum_by (λ y. cond (p y) (w y) 0) xs ≤ w z
  sum_single p w z [] distinct only = omega arith
  sum_single p w z (x ∷ xs) distinct only =
      let more = sum_by-cons (λ y. cond (p y) (w y) 0) x xs in
      let rest = sum_single p w z xs (pairs_tail (λ u v. u ≢ v) x xs distinct) (λ y y_in. only y (contains_later x xs y y_in)) in
      let all = told (p x) refl rest in
      omega arith
    where
      told : (b : Bool) → p x ≡ b → sum_by (λ y. cond (p y) (w y) 0) xs ≤ w z → cond (p x) (w x) 0 + sum_by (λ y. cond (p y) (w y) 0) xs ≤ w z
      told true passes rest =
          let here : x ≡ z = only x (contains_head x xs) passes in
          let none = sum_none p w xs (λ y y_in y_passes. pairs_head (λ u v. u ≢ v) x xs distinct y y_in (here ∙ sym (only y (contains_later x xs y y_in) y_passes))) in
          let level = ap w here in
          let one : cond (p x) (w x) 0 ≡ w x = ap (λ b. cond b (w x) 0) passes in
          omega arith
      told false fails rest =
          let one : cond (p x) (w x) 0 ≡ 0 = ap (λ b. cond b (w x) 0) fails in
          omega arith

  count_cons : (p : X → Bool) (x : X) (xs : List X) → count_by p (x ∷ xs) ≡ bit (p x) + count_by p xs
  count_cons p x xs = sum_by-cons (λ y. cond (p y) 1 0) x xs

  pub count_within : (p q : X → Bool) (xs : List X) → ((y : X) → Contains xs y → p y ≡ true → q y ≡ true) → count_by p xs ≤ count_by q xs
  count_within p q [] h = omega arith
  count_within p q (x ∷ xs) h =
      rw (count_cons p x xs, count_cons q x xs) (
      let rest = count_within p q xs (λ y y_in. h y (contains_later x xs y y_in)) in
      let one = within_bit (p x) (q x) (h x (contains_head x xs)) in omega arith)

  pub count_two : (a b w : X → Bool) (xs : List X) → ((y : X) → a y ≡ true → w y ≡ true) → ((y : X) → b y ≡ true → w y ≡ true) → count_by a xs + count_by b xs ≤ count_by w xs + count_by (λ y. a y && b y) xs
  count_two a b w [] p q = omega arith
  count_two a b w (x ∷ xs) p q =
      rw (count_cons a x xs, count_cons b x xs, count_cons w x xs, count_cons (λ y. a y && b y) x xs) (
      let rest = count_two a b w xs p q in
      let one = two_bits (a x) (b x) (w x) (p x) (q x) in omega arith)

  pub count_three : (a b c w : X → Bool) (xs : List X) → ((y : X) → a y ≡ true → w y ≡ true) → ((y : X) → b y ≡ true → w y ≡ true) → ((y : X) → c y ≡ true → w y ≡ true) → (count_by a xs + count_by b xs) + count_by c xs ≤ count_by w xs + (count_by (λ y. a y && b y) xs + (count_by (λ y. b y && c y) xs + count_by (λ y. c y && a y) xs))
  count_three a b c w [] p q r = omega arith
  count_three a b c w (x ∷ xs) p q r =
      rw (count_cons a x xs, count_cons b x xs, count_cons c x xs, count_cons w x xs, count_cons (λ y. a y && b y) x xs, count_cons (λ y. b y && c y) x xs, count_cons (λ y. c y && a y) x xs) (
      let rest = count_three a b c w xs p q r in
      let one = three_bits (a x) (b x) (c x) (w x) (p x) (q x) (r x) in omega arith)

  pub count_none : (p : X → Bool) (xs : List X) → ((y : X) → Contains xs y → p y ≡ true → ⊥) → count_by p xs ≡ 0
  count_none p [] h = refl
  count_none p (x ∷ xs) h =
      rw (count_cons p x xs) (
      let rest = count_none p xs (λ y y_in. h y (contains_later x xs y y_in)) in
      let one = none_bit (p x) (h x (contains_head x xs)) in omega arith)
    where
      none_bit : (b : Bool) → (b ≡ true → ⊥) → bit b ≡ 0
      none_bit false h = refl
      none_bit true h = absurd (h refl)

  -- where only z can pass, and stands once
  pub count_single : (p : X → Bool) (z : X) (xs : List X) → AllPairs (λ x y. x ≢ y) xs → ((y : X) → Contains xs y → p y ≡ true → y ≡ z) → (count_by p xs ≡ 0) ⊎ ((count_by p xs ≡ 1) × Contains xs z × (p z ≡ true))
  count_single p z [] distinct only = inl refl
  count_single p z (x ∷ xs) distinct only =
      told (p x) refl (count_single p z xs (pairs_tail (λ v w. v ≢ w) x xs distinct) (λ y y_in. only y (contains_later x xs y y_in)))
    where
      told : (b : Bool) → p x ≡ b → (count_by p xs ≡ 0) ⊎ ((count_by p xs ≡ 1) × Contains xs z × (p z ≡ true)) → (count_by p (x ∷ xs) ≡ 0) ⊎ ((count_by p (x ∷ xs) ≡ 1) × Contains (x ∷ xs) z × (p z ≡ true))
      told true passes rest =
          let here : x ≡ z = only x (contains_head x xs) passes in
          let none = count_none p xs (λ y y_in y_passes. pairs_head (λ v w. v ≢ w) x xs distinct y y_in (here ∙ sym (only y (contains_later x xs y y_in) y_passes))) in
          let more = count_cons p x xs in
          let one : bit (p x) ≡ 1 = ap bit passes in
          inr (omega arith, subst (λ w. Contains (x ∷ xs) w) here (contains_head x xs), subst (λ w. p w ≡ true) here passes)
      told false fails rest =
          let more = count_cons p x xs in
          let one : bit (p x) ≡ 0 = ap bit fails in
          elim rest [
            | inl none ↦ inl (omega arith)
            | inr found ↦ inr (let was = found.0 in omega arith, contains_later x xs z found.1, found.2)
          ]

  pub count_all : (p : X → Bool) (xs : List X) → ((y : X) → Contains xs y → p y ≡ true) → count_by p xs ≡ length xs
  count_all p [] h = refl
  count_all p (x ∷ xs) h =
      let rest = count_all p xs (λ y y_in. h y (contains_later x xs y y_in)) in
      let more = count_cons p x xs in
      let one : bit (p x) ≡ 1 = ap bit (h x (contains_head x xs)) in
      omega arith

-- what passes a test weighs no more together than what all weigh by a greater measure
pub whole_weight : (p : Start → Bool) (w : Start → ℕ) (ss : List Start) → ((s : Start) → Contains ss s → p s ≡ true → weight s ≤ w s) → weight_where p ss ≤ sum_by w ss
whole_weight p w [] less = omega arith
whole_weight p w (s ∷ ss) less =
    let more = weighs_more p s ss in
    let all = sum_by-cons w s ss in
    let rest = whole_weight p w ss (λ t h. less t (contains_later s ss t h)) in
    let one = told (p s) (less s (contains_head s ss)) rest in
    omega arith
  where
    told : (b : Bool) → (b ≡ true → weight s ≤ w s) → weight_where p ss ≤ sum_by w ss → weighs_one b s (weight_where p ss) ≤ w s + sum_by w ss
    told true h rest = (let here = h refl in omega arith)
    told false h rest = omega arith
