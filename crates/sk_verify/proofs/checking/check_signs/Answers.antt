use Rattle.std.proofs.Common.{subst, sym}
use Rattle.sk_base.specs.declared.Graph.{Graph}
use Rattle.sk_measure.specs.Placing.{PlacesExactly}
use Rattle.sk_tree.specs.declared.Plan.{Plan}
use Rattle.sk_tree.specs.LegalPlan.{IsLegalPlan}
use Rattle.sk_verify.proofs.Complete.{told_exactly}
use Rattle.sk_verify.proofs.Claimed.{legal_claimed}
use Rattle.sk_verify.proofs.checking.check_signs.Goals as goal

pub first_turned-requires-clause-placed : goal.first_turned-requires-clause-placed
first_turned-requires-clause-placed c =
    subst (λ (h : Graph). PlacesExactly h c.args.claim.now.at) c.requires.graph
    (told_exactly c.args.s.now c.args.g.now c.requires.graph c.requires.sound c.args.claim.now c.requires.fits c.requires.met.complete.told)

pub first_turned-requires-clause-plan : goal.first_turned-requires-clause-plan
first_turned-requires-clause-plan c =
    subst (λ (h : Graph). IsLegalPlan h c.in_ok-plan.plan) c.requires.graph
    (subst (λ (p : Plan). IsLegalPlan c.args.g.now p) (sym c.in_ok-plan.ensures) (legal_claimed c.args.s.now c.args.g.now c.args.claim.now c.requires.met.complete.joined))
