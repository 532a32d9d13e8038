-- How many lines a text has round the `end` of its sketch.
use Rattle.std.proofs.Common.{ℕ, ◌+◌, ◌≤◌, List, length, take, drop, arith, length-drop}
use Rattle.std.proofs.lemmas.List.{length-take-le}
use Rattle.sk_lang.specs.declared.front.Front.{Front}
use Rattle.sk_lang.specs.Front.{ReadsFront}
use Rattle.sk_lines.specs.Lines.{lines_in}
use Rattle.sk_lines.proofs.LineCounts.{few_lines}

-- the lines of the front and those behind it are no more than the bytes
pub few_behind : (bytes : List ℕ) (front : Front) → ReadsFront bytes front → front.lines + length (lines_in (drop front.used bytes)) ≤ length bytes
few_behind bytes front reads =
    let before = few_lines (take front.used bytes) in
    let behind = few_lines (drop front.used bytes) in
    let taken = length-take-le front.used bytes reads.within in
    omega (arith, before, behind, taken, length-drop front.used bytes, reads.count, reads.within)
