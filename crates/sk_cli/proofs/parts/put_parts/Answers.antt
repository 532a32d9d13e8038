use Rattle.std.proofs.Common.{◌≡◌, ◌+◌, ◌++◌, ℕ, List, subst}
use Rattle.sk_verdict.specs.declared.Part.{Part}
use Rattle.sk_report.specs.CheckReport.{part_line}
use Rattle.sk_cli.specs.PartsReport.{IsBelowPart}
use Rattle.sk_cli.proofs.PartsTold.{put_more}
use Rattle.sk_cli.proofs.parts.put_parts.Goals as goal

pub loop-i-preserved : goal.loop-i-preserved
loop-i-preserved c =
    let part = c.index-parts-i.result in
    let put : (below : List ℕ) × IsBelowPart c.args.request c.args.s.now part below × (c.put_part.new.text ≡ c.loop-i.text ++ (part_line c.args.s.now (c.loop-i.i + 1) part ++ below)) = c.in_ok-put_part.ensures in
    let at = subst (λ (p : Part). (below : List ℕ) × IsBelowPart c.args.request c.args.s.now p below × (c.put_part.new.text ≡ c.loop-i.text ++ (part_line c.args.s.now (c.loop-i.i + 1) p ++ below))) c.index-parts-i.is put in
    put_more c.args.request c.args.s.now c.args.parts.now c.loop-i.i part c.loop-i-test.true c.args.text.now c.loop-i.text c.put_part.new.text at.0 c.loop-i.invariant at.1 at.2
