use Rattle.sk_verify.proofs.Corners.{keeps_exactly}
use Rattle.sk_verify.proofs.keeping.is_kept.Goals as goal

pub returns-then-is_among : goal.returns-then-is_among
returns-then-is_among c =
    keeps_exactly c.args.family.now c.in-Some.ensures.sound c.args.names.now c.args.kept c.in-Some.cluster.now c.in-Some.ensures.some (c.is_among.ensures.decides.0 c.if-is_among.true) _ c.is_preferred_to_all.ensures
