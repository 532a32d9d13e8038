-- The lines of parts, one after another.
use Rattle.std.proofs.Common.{◌≡◌, ℕ, ◌+◌, ◌<◌, List, ◌∷◌, ◌++◌, length, get_or, drop, ap, sym, ◌∙◌}
use Rattle.std.proofs.lemmas.List.{drop_more, append_assoc}
use Rattle.sk_base.specs.declared.Sketch.{Sketch}
use Rattle.sk_verdict.specs.declared.Part.{Part}
use Rattle.sk_report.specs.CheckReport.{part_line, part_lines}

pub next_part_line : (s : Sketch) (parts : List Part) (i : ℕ) (p : Part) (before after all : List ℕ) → i < length parts → p ≡ get_or parts i p
    → after ≡ before ++ part_line s (i + 1) p → before ++ part_lines s (i + 1) (drop i parts) ≡ all
    → after ++ part_lines s (i + 1 + 1) (drop (i + 1) parts) ≡ all
next_part_line s parts i p before after all within is put so_far =
    let here : drop i parts ≡ p ∷ drop (i + 1) parts = drop_more parts i p within ∙ ap (λ z. z ∷ drop (i + 1) parts) (sym is) in
    ap (λ zs. zs ++ part_lines s (i + 1 + 1) (drop (i + 1) parts)) put
    ∙ append_assoc before (part_line s (i + 1) p) (part_lines s (i + 1 + 1) (drop (i + 1) parts))
    ∙ ap (λ zs. before ++ part_lines s (i + 1) zs) (sym here) ∙ so_far
