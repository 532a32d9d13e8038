use Rattle.sk_complete.proofs.Extending.{extends_same}
use Rattle.sk_complete.proofs.draft.Draft.of.Goals as goal

pub returns : goal.returns
returns c = extends_same c.args.s.now c.in_ok-sketch.sketch c.in_ok-sketch.ensures c.requires
