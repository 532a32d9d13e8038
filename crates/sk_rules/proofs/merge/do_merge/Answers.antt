use Rattle.std.proofs.Common.{◌<◌, length, subst, sym}
use Rattle.sk_family.specs.Clusters.{Clusters, bodies}
use Rattle.sk_base.proofs.Searches.{on_ok}
use Rattle.sk_family.specs.declared.Merge.{Merge}
use Rattle.sk_family.specs.declared.Merge.TheVariants.{Two, Three}
use Rattle.sk_family.specs.Merges.{Falls}
use Rattle.sk_rules.specs.Merges.{Holds}
use Rattle.sk_rules.specs.Reach.{Step}
use Rattle.sk_rules.proofs.Merging.{can_be_replaced, merge_steps, merge_lessens}
use Rattle.sk_rules.proofs.merge.do_merge.Goals as goal

pub replace-requires-clause-from : goal.replace-requires-clause-from
replace-requires-clause-from c =
    can_be_replaced c.args.graph.now c.args.family.now (Two c.in-Two.x c.in-Two.y)
    (subst (λ (m : Merge). Falls m) c.in-Two.is c.requires.falls)
    (subst (λ (m : Merge). Holds c.args.graph.now c.args.family.now m) c.in-Two.is c.requires.holds)

pub returns-in-Two-clause-step : goal.returns-in-Two-clause-step
returns-in-Two-clause-step c = on_ok c.replace.result c.replace.ensures.ok (λ is.
    subst (λ (n : Clusters). Step c.args.graph.now (bodies c.args.family.now) (bodies n)) (sym is)
    (merge_steps c.args.graph.now c.args.family.now c.replace.ensures.was_sound (Two c.in-Two.x c.in-Two.y)
    (subst (λ (m : Merge). Falls m) c.in-Two.is c.requires.falls)
    (subst (λ (m : Merge). Holds c.args.graph.now c.args.family.now m) c.in-Two.is c.requires.holds)))

pub replace-requires-in-Three-clause-from : goal.replace-requires-in-Three-clause-from
replace-requires-in-Three-clause-from c =
    can_be_replaced c.args.graph.now c.args.family.now (Three c.in-Three.x c.in-Three.y c.in-Three.z)
    (subst (λ (m : Merge). Falls m) c.in-Three.is c.requires.falls)
    (subst (λ (m : Merge). Holds c.args.graph.now c.args.family.now m) c.in-Three.is c.requires.holds)

pub returns-in-Three-clause-step : goal.returns-in-Three-clause-step
returns-in-Three-clause-step c = on_ok c.replace-in-Three.result c.replace-in-Three.ensures.ok (λ is.
    subst (λ (n : Clusters). Step c.args.graph.now (bodies c.args.family.now) (bodies n)) (sym is)
    (merge_steps c.args.graph.now c.args.family.now c.replace-in-Three.ensures.was_sound (Three c.in-Three.x c.in-Three.y c.in-Three.z)
    (subst (λ (m : Merge). Falls m) c.in-Three.is c.requires.falls)
    (subst (λ (m : Merge). Holds c.args.graph.now c.args.family.now m) c.in-Three.is c.requires.holds)))

pub returns-in-Two-clause-fewer : goal.returns-in-Two-clause-fewer
returns-in-Two-clause-fewer c = on_ok c.replace.result c.replace.ensures.ok (λ is.
    subst (λ (n : Clusters). length n.live < length c.args.family.now.live) (sym is)
    (merge_lessens c.args.graph.now c.args.family.now c.replace.ensures.was_sound (Two c.in-Two.x c.in-Two.y)
    (subst (λ (m : Merge). Falls m) c.in-Two.is c.requires.falls)
    (subst (λ (m : Merge). Holds c.args.graph.now c.args.family.now m) c.in-Two.is c.requires.holds)))

pub returns-in-Three-clause-fewer : goal.returns-in-Three-clause-fewer
returns-in-Three-clause-fewer c = on_ok c.replace-in-Three.result c.replace-in-Three.ensures.ok (λ is.
    subst (λ (n : Clusters). length n.live < length c.args.family.now.live) (sym is)
    (merge_lessens c.args.graph.now c.args.family.now c.replace-in-Three.ensures.was_sound (Three c.in-Three.x c.in-Three.y c.in-Three.z)
    (subst (λ (m : Merge). Falls m) c.in-Three.is c.requires.falls)
    (subst (λ (m : Merge). Holds c.args.graph.now c.args.family.now m) c.in-Three.is c.requires.holds)))
