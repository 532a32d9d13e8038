use Rattle.std.proofs.Common.{sym, subst}
use Rattle.sk_tree.specs.declared.Plan.{Plan}
use Rattle.sk_tree.specs.LegalPlan.{IsLegalPlan}
use Rattle.sk_tolerance.specs.declared.Wanted.TheVariants.{Chosen}
use Rattle.sk_solve.specs.contracts.alternative.turning.{G-type}
use Rattle.sk_solve.specs.Placements.{IsPlacement}
use Rattle.sk_flips.proofs.FlippedPlans.{flipped_is_legal}
use Rattle.sk_solve.proofs.InTurn.{is_alternative}
use Rattle.sk_solve.proofs.alternative.turning.Goals as goal

pub placed_on-requires-clause-legal : goal.placed_on-requires-clause-legal
placed_on-requires-clause-legal g c =
    subst (λ (plan : Plan). IsLegalPlan c.args.g.now plan) (sym c.in-Ok.ensures.flipped) (flipped_is_legal c.args.g.now c.args.names.now c.args.p.now c.requires.legal)

pub returns-in_ok-placed_on-in-Ok : goal.returns-in_ok-placed_on-in-Ok
returns-in_ok-placed_on-in-Ok g c =
    rw c.alternative_of.ensures (is_alternative _ c.args.placing g.G.Grid.BITS c.args.limit c.args.s.now c.args.p.now c.args.names.now c.in_ok-placed_on-in-Ok.field-0
    (c.in-Ok.ensures.chosen, subst (λ (plan : Plan). IsPlacement Chosen (G-type g.row.G) c.args.placing g.G.Grid.BITS c.args.limit c.args.s.now plan c.in_ok-placed_on-in-Ok.field-0) c.in-Ok.ensures.flipped c.in_ok-placed_on-in-Ok.ensures.placement))
