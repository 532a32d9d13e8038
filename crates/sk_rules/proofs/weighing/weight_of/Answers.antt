use Rattle.std.proofs.Common.{◌∙◌, List, ap, sym}
use Rattle.std.specs.Prelude.{sum_by}
use Rattle.std.proofs.lemmas.List.{take_all}
use Rattle.sk_base.specs.declared.ConId.{ConId}
use Rattle.sk_family.specs.Starting.{start_with}
use Rattle.sk_rules.specs.Excess.{weight}
use Rattle.sk_rules.proofs.WeighedGraphs.{weighs_each}
use Rattle.sk_rules.proofs.weighing.weight_of.Goals as goal

pub returns-clause-weight : goal.returns-clause-weight
returns-clause-weight c =
    c.loop-number.invariant.so_far
    ∙ ap (λ (ks : List ConId). sum_by (λ (k : ConId). weight (start_with c.args.graph.now k)) ks) (take_all c.loop-number.number-index c.args.numbers.now c.loop-number-test.false)
    ∙ sym (weighs_each c.args.graph.now c.requires.sound.edges_rise c.args.numbers.now c.requires.constraints.rise c.requires.constraints.there)
