use Rattle.std.proofs.Common.{refl}
use Rattle.sk_base.proofs.Searches.{on_ok}
use Rattle.sk_answers.proofs.OffLines.{numbered, off_there}
use Rattle.sk_answers.proofs.measure.put_one.Goals as goal

pub returns : goal.returns
returns c =
    let s = c.args.s.now in
    let x = c.args.constraint.now in
    on_ok c.put_measured.result c.put_measured.ensures
    (λ is. (c.off-by.result, off_there c.args.at.now s c.args.g.now x.number x c.off-by.result c.requires.graph (numbered s c.requires.sound x c.requires.there x.number refl) c.off-by.ensures.off c.off-by.ensures.turned, is))
