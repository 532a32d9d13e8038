use Rattle.std.proofs.Common.{subst, sym}
use Rattle.sk_family.specs.Clusters.{Clusters}
use Rattle.sk_verify.specs.Stepping.{HasRoom}
use Rattle.sk_verify.proofs.Leading.{IsAt, at_start, room_at_start}
use Rattle.sk_verify.proofs.stepping.family_after.Goals as goal

pub loop-step-init : goal.loop-step-init
loop-step-init c = record {
  at = subst (λ (f : Clusters). IsAt c.args.s.now c.args.g.now c.args.steps.now 0 f) (sym c.in_ok-family.ensures.clusters) (at_start c.args.s.now c.args.g.now c.args.steps.now);
  room = subst (λ (f : Clusters). HasRoom f) (sym c.in_ok-family.ensures.clusters) (room_at_start c.args.g.now c.requires.sound);
}
