use Rattle.std.proofs.Common.{subst, sym, List}
use Rattle.sk_base.specs.declared.ConId.{ConId}
use Rattle.sk_rules.specs.Excess.{AreConstraints}
use Rattle.sk_plan.proofs.Finished.{numbers_are_constraints}
use Rattle.sk_plan.proofs.judging.holds_what_is_due.Goals as goal

pub weight_of-requires-clause-constraints : goal.weight_of-requires-clause-constraints
weight_of-requires-clause-constraints c =
    subst (λ (ks : List ConId). AreConstraints c.args.graph.now ks) (sym c.requires.all) (numbers_are_constraints c.args.graph.now c.requires.sound)
