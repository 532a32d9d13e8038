-- The check report.
use Rattle.std.specs.Prelude.{ℕ, ◌+◌, if◌then◌else◌, nat_lt, List, [], ◌∷◌, ◌++◌, length, codes}
use Rattle.std.specs.Fmt.{decimal}
use Rattle.sk_base.specs.declared.Sketch.{Sketch}
use Rattle.sk_base.specs.ElementNames.{names_of}
use Rattle.sk_verdict.specs.declared.Verdict.{Verdict}
use Rattle.sk_verdict.specs.declared.Verdict.TheVariants.{Well, Over, Several}
use Rattle.sk_verdict.specs.declared.Part.{Part}
use Rattle.sk_verdict.specs.declared.Judgement.{Judgement}

abbrev pub verdict_word : Verdict → List ℕ
verdict_word Well = codes "well"
verdict_word Over = codes "over"
verdict_word Several = codes "open"

-- a part is over where it holds more than is due
abbrev pub part_word : Part → List ℕ
part_word p = if nat_lt p.due p.held then codes "over" else codes "sound"

abbrev pub part_head : ℕ → Part → List ℕ
part_head number p =
    codes "part " ++ (decimal number ++ (codes " " ++ (part_word p ++ (codes " elements " ++ (decimal (length p.elements)
    ++ (codes " held " ++ (decimal p.held ++ (codes " due " ++ (decimal p.due ++ codes " :")))))))))

abbrev pub part_line : Sketch → ℕ → Part → List ℕ
part_line s number p = (part_head number p ++ names_of s p.elements) ++ 10 ∷ []

-- a line for each part, with numbers from this one on
abbrev pub part_lines : Sketch → ℕ → List Part → List ℕ
part_lines s number [] = []
part_lines s number (p ∷ parts) = part_line s number p ++ part_lines s (number + 1) parts

-- the two lines before the parts where they are told one by one
abbrev pub parts_head : Judgement → List ℕ
parts_head j = codes "verdict " ++ (verdict_word j.verdict ++ (codes "\nparts " ++ (decimal (length j.parts) ++ codes "\n")))

-- the four lines before those of the parts
abbrev pub check_head : Sketch → Judgement → List ℕ
check_head s j =
    codes "verdict " ++ (verdict_word j.verdict ++ (codes "\nelements " ++ (decimal (length s.elements)
    ++ (codes "\nconstraints " ++ (decimal (length s.constraints) ++ (codes "\nparts " ++ (decimal (length j.parts) ++ codes "\n")))))))

-- the check report
abbrev pub check_report : Sketch → Judgement → List ℕ
check_report s j = check_head s j ++ part_lines s 1 j.parts
