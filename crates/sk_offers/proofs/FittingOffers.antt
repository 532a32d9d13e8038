-- Offers that are read fit the board.
use Rattle.std.proofs.Common.{◌≡◌, refl, ℕ, ◌+◌, ◌*◌, ◌≤◌, Bool, true, false, cond, List, [], ◌∷◌, arith}
use Rattle.std.specs.Prelude.{All, Some, None, ◌==◌, nat_le}
use Rattle.std.specs.Char.{digit_value}
use Rattle.std.specs.Str.Parse.{digits_value, digits_value_after}
use Rattle.std.proofs.lemmas.List.Elements.{All-nil, All-cons}
use Rattle.std.proofs.lemmas.Bool.Decides.{nat_tests}
use Rattle.sk_base.specs.Millimetres.{is_digits, at_most}
use Rattle.sk_base.proofs.Decimals.{is_digits_all, digit_at}
use Rattle.sk_lines.specs.Lines.{lines_in}
use Rattle.sk_offers.specs.OfferLines.{worker_of, IsOfferOf, AreOffersOf, offered, FitsBoard}
use Rattle.sk_offers.specs.OfferReading.{ReadsOffers}
use Rattle.sk_offers.specs.declared.offer_line.OfferLine.{OfferLine}

some_after : (n : ℕ) (cs : List ℕ) → 1 ≤ n → 1 ≤ digits_value_after 10 n cs
some_after n [] some = some
some_after n (c ∷ cs) some = some_after (n * 10 + digit_value c) cs (omega (arith, some))

-- digits that don't begin with a zero aren't 0
not_zero : (b : ℕ) (bs : List ℕ) → is_digits 2 (b ∷ bs) ≡ true → (b == 48) ≡ false → 1 ≤ digits_value 10 (b ∷ bs)
not_zero b bs digits other =
    let all = (is_digits_all 2 (b ∷ bs) digits).0 in
    let first = digit_at (b ∷ bs) 0 all (omega arith) in
    let above : 1 ≤ digit_value b = grind (arith, nat_tests) in
    some_after (0 * 10 + digit_value b) bs (omega (arith, above))

worker_fits : (word : List ℕ) (w : ℕ) → worker_of word ≡ Some w → (1 ≤ w) × (w ≤ 64)
worker_fits [] w is = absurd (cc)
worker_fits (b ∷ bs) w is = by (b == 48) refl (is_digits 2 (b ∷ bs)) refl is
  where
    at_limit : (v : ℕ) → 1 ≤ v → (fits : Bool) → nat_le v 64 ≡ fits → cond fits (Some v) None ≡ Some w → (1 ≤ w) × (w ≤ 64)
    at_limit v some true fits is = let same : v ≡ w = cc in (omega (arith, some, same), grind (arith, nat_tests))
    at_limit v some false fits is = absurd (cc)

    by : (zero : Bool) → (b == 48) ≡ zero → (digits : Bool) → is_digits 2 (b ∷ bs) ≡ digits → at_most 64 (cond zero None (cond digits (Some (digits_value 10 (b ∷ bs))) None)) ≡ Some w → (1 ≤ w) × (w ≤ 64)
    by true is_zero digits are is = absurd (cc)
    by false is_zero false are is = absurd (cc)
    by false is_zero true are is = at_limit (digits_value 10 (b ∷ bs)) (not_zero b bs are is_zero) (nat_le (digits_value 10 (b ∷ bs)) 64) refl is

offer_fits : (words : List (List ℕ)) (o : OfferLine) → IsOfferOf words o → FitsBoard o
offer_fits [] o of = absurd of
offer_fits (worker ∷ names) o (worker_is, merge_is) = let fits = worker_fits worker o.worker worker_is in (fits.0, fits.1, merge_is.falls)

all_fit : (words : List (List (List ℕ))) (os : List OfferLine) → AreOffersOf words os → All (λ o. FitsBoard o) os
all_fit [] [] are = All-nil (λ (o : OfferLine). FitsBoard o)
all_fit [] (o ∷ os) are = absurd are
all_fit (w ∷ ws) [] are = absurd are
all_fit (w ∷ ws) (o ∷ os) (here, more) = All-cons (λ (z : OfferLine). FitsBoard z) o os (offer_fits w o here) (all_fit ws os more)

pub read_fit : (bytes : List ℕ) (os : List OfferLine) → ReadsOffers bytes os → All (λ o. FitsBoard o) os
read_fit bytes os reads = all_fit (offered (lines_in bytes)) os reads.in_order
