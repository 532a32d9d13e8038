-- A ratio that is written is read again.
use Rattle.std.proofs.Common.{◌≡◌, ◌≢◌, ℕ, suc, ◌≤◌, true, false, nat_le, nat_eq, ◌∷◌, ◌++◌, Some, is_none, refl, sym, ap, ◌∙◌, arith, ℤ, pos, negsuc}
use Rattle.std.specs.Fmt.{decimal}
use Rattle.std.specs.Option.{option_map}
use Rattle.std.proofs.Math.Seq.{take-append_seam}
use Rattle.std.proofs.lemmas.Bool.Decides.{nat_tests}
use Rattle.std.proofs.lemmas.Int.{ints}
use Rattle.std.proofs.lemmas.Fmt.{decimal_is_IsNumeral}
use Rattle.sk_base.specs.declared.Ratio.{Ratio}
use Rattle.sk_base.specs.Bounds.{IsWithin, IsFromTo}
use Rattle.sk_base.specs.Millimetres.{has_sign, with_sign}
use Rattle.sk_base.specs.SoundSketch.{IsSoundRatio}
use Rattle.sk_base.specs.Spelling.{magnitude, whole_text}
use Rattle.sk_text.proofs.ReadBack.{digits_of-decimal, unsigned, LacksDigits, found_behind, drop_behind}
use Rattle.sk_lines.specs.Quantities.{is_slash, part_of_ratio, parts_round, unsigned_ratio, ratio_of, ratio, is_zero}
use Rattle.sk_entry.specs.CanonicalLines.{ratio_text}
use Rattle.sk_lang.proofs.Written.{magnitude_within, IsWritten, ratio_written}

slash_lacks_digits : LacksDigits is_slash
slash_lacks_digits c small = grind (arith, nat_tests)

part_back : (n : ℕ) → n ≤ 10000 → part_of_ratio (decimal n) ≡ Some n
part_back n few =
    let test : nat_le n 10000 ≡ true = grind (arith, nat_tests) in
    rw (digits_of-decimal 5 n (omega arith) (omega arith) (omega arith)) (rw test refl)

parts_back : (n m : ℕ) → n ≤ 10000 → m ≤ 10000 → unsigned_ratio (decimal n ++ 47 ∷ decimal m) ≡ Some (n, m)
parts_back n m few small =
    let numeral = decimal_is_IsNumeral n (omega arith) in
    let place = found_behind is_slash slash_lacks_digits (decimal n) 47 (decimal m) numeral.0.1 refl in
    ap (parts_round (decimal n ++ 47 ∷ decimal m)) place ∙ rw (take-append_seam, drop_behind, part_back n few, part_back m small) refl

-- what the text of a ratio is read as
pub record IsReadAsRatio (p q : ℤ) : Type 0 where
  pub second : ℕ
  pub second_is : q ≡ pos second
  pub few : second ≤ 10000
  pub parts : ratio_of (whole_text p ++ 47 ∷ whole_text q) ≡ Some (magnitude p, second)
  pub sign : with_sign (has_sign (whole_text p ++ 47 ∷ whole_text q)) (magnitude p) ≡ p

ratio_by : (p : ℤ) (m : ℕ) → magnitude p ≤ 10000 → m ≤ 10000 → IsReadAsRatio p (pos m)
ratio_by (pos n) m few small =
    let numeral = decimal_is_IsNumeral n (omega arith) in
    let plain = unsigned (decimal n) (47 ∷ decimal m) numeral.0 in
    record { second = m; second_is = refl; few = small; parts = rw plain.1 (parts_back n m few small); sign = rw plain.0 refl }
ratio_by (negsuc n) m few small = record { second = m; second_is = refl; few = small; parts = parts_back (suc n) m few small; sign = refl }

pub ratio_again : (p q : ℤ) → IsWithin 10000 p → IsFromTo 0 10000 q → IsReadAsRatio p q
ratio_again p (pos m) within from_to = let high = from_to.1 in ratio_by p m (magnitude_within 10000 p within) (omega (arith, ints))
ratio_again p (negsuc m) within from_to = let low = from_to.0 in absurd (omega (arith, ints))

not_zero : (p : ℤ) → p ≢ pos 0 → nat_eq (magnitude p) 0 ≡ false
not_zero (pos n) other = let some : n ≡ 0 → ⊥ = λ zero. other (ap pos zero) in grind (arith, nat_tests)
not_zero (negsuc n) other = grind (arith, nat_tests)

pub ratio_tests : (r : Ratio) → IsSoundRatio r → (is_none (ratio_of (ratio_text r)) ≡ false) × (is_zero (option_map (λ parts. parts.0) (ratio_of (ratio_text r))) ≡ false)
ratio_tests r sound = let back = ratio_again r.p r.q sound.1 sound.2 in rw back.parts (refl, not_zero r.p sound.0)

pub ratio_back : (r : Ratio) → IsSoundRatio r → ratio (ratio_text r) ≡ r
ratio_back r sound =
    let back = ratio_again r.p r.q sound.1 sound.2 in
    let made : ℤ → ℤ → Ratio = λ p q. record { p = p; q = q } in
    rw back.parts (ap (λ (p : ℤ). made p (pos back.second)) back.sign ∙ ap (λ (q : ℤ). made r.p q) (sym back.second_is))

pub ratio_text_written : (r : Ratio) → IsSoundRatio r → IsWritten (ratio_text r)
ratio_text_written r sound =
    let back = ratio_again r.p r.q sound.1 sound.2 in
    rw back.second_is (ratio_written r.p back.second (magnitude_within 10000 r.p sound.1) back.few)
