use Rattle.std.proofs.Common.{get_or, subst, arith}
use Rattle.std.proofs.lemmas.List.Elements.{Contains-get_or}
use Rattle.sk_base.specs.declared.ConId.{ConId}
use Rattle.sk_base.specs.declared.Graph.{Graph}
use Rattle.sk_why.specs.Because.{FollowsFrom}
use Rattle.sk_why.proofs.ReasonsTold.{put_reason}
use Rattle.sk_why.proofs.text.reasons_text.Goals as goal

abbrev any_number : ConId
any_number = record { 0 = 0 }

pub put_reasons-requires-clause-there : goal.put_reasons-requires-clause-there
put_reasons-requires-clause-there c = c.requires.there (get_or c.args.left.now c.loop-number.number-index any_number) (Contains-get_or c.args.left.now c.loop-number.number-index any_number (omega arith))

pub loop-number-preserved : goal.loop-number-preserved
loop-number-preserved c =
    let number = get_or c.args.left.now c.loop-number.number-index any_number in
    let (reasons, follows, is) = c.in_ok-put_reasons.ensures in
    put_reason c.args.own.now c.args.left.now c.args.left.now c.loop-number.number-index any_number c.loop-number-test.true c.loop-number.text c.put_reasons.new.text c.loop-number.invariant
    (reasons, subst (λ (g : Graph). FollowsFrom g c.args.left.now number reasons) c.requires.graph (follows c.args.left.now c.requires.kept), is)
