-- No more than 64 lines of flips are read.
use Rattle.std.proofs.Common.{◌≡◌, ℕ, ◌≤◌, Bool, true, false, List, [], ◌∷◌, ◌++◌, length, map, None, refl, subst, arith, length-append}
use Rattle.std.specs.Prelude.{codes, bytes_eq, nat_le, nat_lt, if◌then◌else◌}
use Rattle.std.specs.List.{list_any}
use Rattle.std.proofs.lemmas.Bool.Decides.{nat_tests}
use Rattle.sk_base.specs.declared.Name.{Name}
use Rattle.sk_lines.specs.Words.{words_in}
use Rattle.sk_lines.specs.declared.Code.TheVariants.{E3, E4, E10, E21}
use Rattle.sk_lines.specs.ClusterWords.{has_twins}
use Rattle.sk_lines.specs.ByteCodes.{byte_rows}
use Rattle.sk_lines.specs.EndLine.{end_rows}
use Rattle.sk_lines.specs.FirstCode.{first_code}
use Rattle.sk_lines.specs.LineCodes.{along, HaveNone, LeadTo}
use Rattle.sk_lines.specs.Lines.{lines_in}
use Rattle.sk_lines.proofs.FirstCodes.{none_behind}
use Rattle.sk_flips.specs.declared.flip_line.Place.{Place}
use Rattle.sk_flips.specs.declared.flip_line.Place.TheVariants.{Among, Past}
use Rattle.sk_flips.specs.declared.flip_line.SoFar.{SoFar}
use Rattle.sk_flips.specs.FlipLines.{step_named, is_no_step, flip_rows, rows_at, added_at, word_rows, code_of, with_line}
use Rattle.sk_flips.specs.FlipReading.{nothing_yet, Adds}
use Rattle.sk_flips.proofs.FlipsSoFar.{all_said}

-- a line of flips has no code only where fewer than 64 stand
has_room : (b : Bool) → first_code ((b, E21) ∷ []) ≡ None → b ≡ false
has_room true is = cc
has_room false is = refl

room_left : (flips : List (List Name)) (rest : List (List ℕ)) (names : List Name) → first_code (flip_rows flips rest) ≡ None → length (flips ++ names ∷ []) ≤ 64
room_left flips rest names clean =
    let last =
    none_behind ((nat_lt 16 (length rest), E3) ∷ (list_any is_no_step rest, E4) ∷ (has_twins (map step_named rest), E10) ∷ []) ((nat_le 64 (length flips), E21) ∷ []) clean in
    let room : nat_le 64 (length flips) ≡ false = has_room (nat_le 64 (length flips)) last in
    let size = length-append flips (names ∷ []) in
    grind (arith, nat_tests, room, size)

few_at : (place : Place) (flips : List (List Name)) (words : List (List ℕ)) → length flips ≤ 64 → first_code (rows_at place flips words) ≡ None → length (added_at place flips words).flips ≤ 64
few_at place flips [] few clean = few
few_at Past flips (first ∷ rest) few clean = few
few_at Among flips (first ∷ rest) few clean = by (bytes_eq first (codes "flip")) clean
  where
    by : (b : Bool) → first_code (if b then flip_rows flips rest else end_rows first rest) ≡ None
        → length (let made : SoFar = if b then record { place = Among; flips = flips ++ map step_named rest ∷ [] } else record { place = Past; flips = flips } in made.flips) ≤ 64
    by true is = room_left flips rest (map step_named rest) is
    by false is = few

few_along : (lines : List (List ℕ)) (so_far : SoFar) → length so_far.flips ≤ 64 → HaveNone code_of with_line so_far lines → length (along with_line so_far lines).flips ≤ 64
few_along [] so_far few clean = few
few_along (line ∷ lines) so_far few clean =
    few_along lines (with_line so_far line) (few_at so_far.place so_far.flips (words_in line) few (none_behind (byte_rows line) (word_rows so_far (words_in line)) clean.0)) clean.1

-- nor in all that was read
pub few_read : (bytes : List ℕ) (so_far : SoFar) → LeadTo Adds nothing_yet (lines_in bytes) so_far → length so_far.flips ≤ 64
few_read bytes so_far led =
    let all = all_said (lines_in bytes) so_far led in
    subst (λ (z : SoFar). length z.flips ≤ 64) all.1 (few_along (lines_in bytes) nothing_yet (omega arith) all.0)
