use Rattle.std.proofs.Common.{◌+◌, [], get_or, take, refl, sym, subst, arith}
use Rattle.std.proofs.lemmas.List.Elements.{Contains-get_or}
use Rattle.sk_base.specs.declared.ConId.{ConId}
use Rattle.sk_report.specs.ExcessReport.{off_line}
use Rattle.sk_cli.specs.ExcessReport.{AreOffsTold}
use Rattle.sk_answers.proofs.OffLines.{put_line}
use Rattle.sk_cli.proofs.excess.offs_text.Goals as goal

abbrev any_number : ConId
any_number = record { 0 = 0 }

pub put_one_off-requires-clause-there : goal.put_one_off-requires-clause-there
put_one_off-requires-clause-there c = c.requires.there (get_or c.args.left.now c.loop-number.number-index any_number) (Contains-get_or c.args.left.now c.loop-number.number-index any_number (omega arith))

pub loop-number-preserved : goal.loop-number-preserved
loop-number-preserved c =
    let i = c.loop-number.number-index in
    let (lines, told, is) = put_line (off_line c.args.own.now c.args.limit) c.args.own.now c.args.at.now c.args.left.now i any_number c.loop-number-test.true [] c.loop-number.text c.put_one_off.new.text
    (c.loop-number.text, c.loop-number.invariant, refl) c.in_ok-put_one_off.ensures in
    subst (λ text. AreOffsTold c.args.limit c.args.own.now c.args.at.now (take (i + 1) c.args.left.now) text) (sym is) told
