use Rattle.std.proofs.Common.{◌≡◌, ◌∙◌, ◌-◌, min, length, arith}
use Rattle.std.proofs.lemmas.Bool.Decides.{nat_tests}
use Rattle.sk_live_lines.proofs.TurnEnds.{kept_more, kept_now}
use Rattle.sk_live_lines.proofs.hearing.Hearing.keep.Goals as goal

pub returns-clause-ok : goal.returns-clause-ok
returns-clause-ok c =
    let least : c.min.result ≡ min (202 - length c.self.inside.kept) (length c.args.bytes.now) = grind (arith, nat_tests, c.min.ensures, c.len-room.ensures) in
    let more = kept_more c.self.inside.kept c.args.bytes.now c.min.result c.self.invariant least in
    kept_now c.args.self.now c.self.inside.kept c.put.new.self c.args.bytes.now c.self.inside.taken c.self.view_is (c.in_ok-put.ensures.ok ∙ more)
