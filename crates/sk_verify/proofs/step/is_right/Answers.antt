use Rattle.std.proofs.Common.{subst}
use Rattle.sk_base.specs.declared.Graph.{Graph}
use Rattle.sk_tolerance.proofs.Comparisons.{corners_at}
use Rattle.sk_tree.specs.LegalPlan.{IsLegalStep}
use Rattle.sk_verify.proofs.step.is_right.Goals as goal

pub has_drawn_choice-requires-clause-corners : goal.has_drawn_choice-requires-clause-corners
has_drawn_choice-requires-clause-corners c =
    corners_at c.args.s.now c.requires.sketch c.args.family.now c.args.step.now
    (subst (λ (g : Graph). IsLegalStep g c.args.family.now c.args.step.now) c.requires.graph (c.is_legal.ensures.0 c.if-is_legal.true))
