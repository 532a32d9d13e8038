-- A value says one thing at most.
use Rattle.std.proofs.Common.{◌≡◌, ℕ, ◌≤◌, ◌<◌, List, ◌∷◌, refl, sym, ap, ◌∙◌, subst, arith, lit≤, lit<}
use Rattle.std.specs.Fmt.{decimal}
use Rattle.std.specs.Str.Parse.{AllDigits}
use Rattle.std.specs.Char.{digit_value}
use Rattle.std.proofs.lemmas.Fmt.{decimal_injective, decimal_is_IsNumeral}
use Rattle.sk_close_by_order.specs.declared.Order.{Order}
use Rattle.sk_close_by_order.specs.declared.Order.TheVariants.{First, Last, Stride}
use Rattle.sk_place.specs.declared.FrameBy.{FrameBy}
use Rattle.sk_place.specs.declared.FrameBy.TheVariants.{Base, Drawn}
use Rattle.sk_place.specs.declared.PlaceBy.{PlaceBy}
use Rattle.sk_place.specs.declared.PlaceBy.TheVariants.{Boxes, Points}
use Rattle.sk_request.specs.declared.bits.Bits.{Bits}
use Rattle.sk_request.specs.declared.bits.Bits.TheVariants.{Sixteen, TwentySeven, ThirtyEight}
use Rattle.sk_request.specs.Asking.{IsNumber, IsOrder, IsBits, IsLimit, IsPlace, IsFrame, IsSize}
use Rattle.sk_request.proofs.CommandWords.{other_letter}

pub one_number : (least most : ℕ) (value : List ℕ) (one other : ℕ) → most < 10000000 → IsNumber least most value one → IsNumber least most value other → one ≡ other
one_number least most value one other few first second =
    decimal_injective one other (omega (arith, few, first.2)) (omega (arith, few, second.2)) (sym first.0 ∙ second.0)

-- no number is spelled with such a first byte
no_letter : (c k : ℕ) (rest : List ℕ) → 10 ≤ digit_value c → k ≤ 65535 → c ∷ rest ≡ decimal k → ⊥
no_letter c k rest letter few is =
    let numeral = decimal_is_IsNumeral k (omega (arith, few)) in
    let digits = subst (λ bytes. AllDigits 10 bytes) (sym is) numeral.0.1 in
    omega (arith, letter, digits.0)

pub one_order : (value : List ℕ) (one other : Order) → IsOrder value one → IsOrder value other → one ≡ other
one_order value First First first second = refl
one_order value First Last first second = cc
one_order value First (Stride k) first second = absurd (no_letter 102 k _ (lit≤ tt) second.2 (sym first ∙ second.0))
one_order value Last First first second = cc
one_order value Last Last first second = refl
one_order value Last (Stride k) first second = absurd (no_letter 108 k _ (lit≤ tt) second.2 (sym first ∙ second.0))
one_order value (Stride k) First first second = absurd (no_letter 102 k _ (lit≤ tt) first.2 (sym second ∙ first.0))
one_order value (Stride k) Last first second = absurd (no_letter 108 k _ (lit≤ tt) first.2 (sym second ∙ first.0))
one_order value (Stride k) (Stride j) first second = ap Stride (one_number 0 65535 value k j (omega arith) first second)

pub one_bits : (value : List ℕ) (one other : Bits) → IsBits value one → IsBits value other → one ≡ other
one_bits value Sixteen Sixteen first second = refl
one_bits value Sixteen TwentySeven first second = absurd (other_letter 49 50 _ _ (lit< tt) (sym first ∙ second))
one_bits value Sixteen ThirtyEight first second = absurd (other_letter 49 51 _ _ (lit< tt) (sym first ∙ second))
one_bits value TwentySeven Sixteen first second = absurd (other_letter 49 50 _ _ (lit< tt) (sym second ∙ first))
one_bits value TwentySeven TwentySeven first second = refl
one_bits value TwentySeven ThirtyEight first second = absurd (other_letter 50 51 _ _ (lit< tt) (sym first ∙ second))
one_bits value ThirtyEight Sixteen first second = absurd (other_letter 49 51 _ _ (lit< tt) (sym second ∙ first))
one_bits value ThirtyEight TwentySeven first second = absurd (other_letter 50 51 _ _ (lit< tt) (sym second ∙ first))
one_bits value ThirtyEight ThirtyEight first second = refl

pub one_place : (value : List ℕ) (one other : PlaceBy) → IsPlace value one → IsPlace value other → one ≡ other
one_place value Boxes Boxes first second = refl
one_place value Boxes Points first second = absurd (other_letter 98 112 _ _ (lit< tt) (sym first ∙ second))
one_place value Points Boxes first second = absurd (other_letter 98 112 _ _ (lit< tt) (sym second ∙ first))
one_place value Points Points first second = refl

pub one_frame : (value : List ℕ) (one other : FrameBy) → IsFrame value one → IsFrame value other → one ≡ other
one_frame value Base Base first second = refl
one_frame value Base Drawn first second = absurd (other_letter 98 100 _ _ (lit< tt) (sym first ∙ second))
one_frame value Drawn Base first second = absurd (other_letter 98 100 _ _ (lit< tt) (sym second ∙ first))
one_frame value Drawn Drawn first second = refl

pub one_limit : (value : List ℕ) (one other : ℕ) → IsLimit value one → IsLimit value other → one ≡ other
one_limit value one other first second = one_number 1 1000000 value one other (omega arith) first second

pub one_size : (value : List ℕ) (one other : ℕ) → IsSize value one → IsSize value other → one ≡ other
one_size value one other first second = one_number 3 1000 value one other (omega arith) first second
