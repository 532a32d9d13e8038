use Rattle.std.proofs.Common.{◌≢◌, sym, subst, ap, ◌∙◌, List}
use Rattle.std.specs.Prelude.{AllPairs, Contains}
use Rattle.sk_family.specs.declared.Cluster.{Cluster}
use Rattle.sk_family.specs.Clusters.{bodies}
use Rattle.sk_rules.proofs.NormalForm.{normal_same}
use Rattle.sk_verdict.specs.Building.{AreOfClusters}
use Rattle.sk_verdict.specs.Judging.{verdict_on}
use Rattle.sk_verdict.proofs.Normals.{cluster_enough, cluster_owned, elements_differ}
use Rattle.sk_verdict.proofs.Judgements.{the_clusters, all_parts, none_single, all_held, over_exactly, judgement_moves}
use Rattle.sk_verdict.proofs.judgement.judge.Goals as goal

pub parts_of-requires-clause-enough : goal.parts_of-requires-clause-enough
parts_of-requires-clause-enough c d d_in =
    cluster_enough c.args.graph.now c.args.family.now c.requires.sound c.requires.normal c.clusters.ensures.sound d (subst (λ (cs : List Cluster). Contains cs d) c.clusters.ensures.live d_in)

pub parts_of-requires-clause-owned : goal.parts_of-requires-clause-owned
parts_of-requires-clause-owned c d d_in =
    cluster_owned c.args.graph.now c.args.family.now c.requires.sound c.requires.normal c.clusters.ensures.sound d (subst (λ (cs : List Cluster). Contains cs d) c.clusters.ensures.live d_in)

pub parts_of-requires-clause-differ : goal.parts_of-requires-clause-differ
parts_of-requires-clause-differ c =
    subst (λ (cs : List Cluster). AllPairs (λ (x y : Cluster). x.elements ≢ y.elements) cs) (sym c.clusters.ensures.live)
    (elements_differ c.args.graph.now c.args.family.now c.requires.sound c.requires.normal c.clusters.ensures.sound)

pub add_lone-requires-clause-no_single : goal.add_lone-requires-clause-no_single
add_lone-requires-clause-no_single c =
    none_single c.args.graph.now c.args.family.now c.requires.sound c.requires.normal c.in_ok-parts.parts
    (the_clusters c.args.graph.now c.args.family.now c.requires.sound c.requires.normal c.clusters.ensures.sound c.in_ok-parts.parts
    (subst (λ (cs : List Cluster). AreOfClusters c.args.graph.now cs c.in_ok-parts.parts) c.clusters.ensures.live c.in_ok-parts.ensures))

pub returns-clause-judgement : goal.returns-clause-judgement
returns-clause-judgement c =
    let clusters = the_clusters c.args.graph.now c.args.family.now c.requires.sound c.requires.normal c.clusters.ensures.sound c.in_ok-parts.parts
    (subst (λ (cs : List Cluster). AreOfClusters c.args.graph.now cs c.in_ok-parts.parts) c.clusters.ensures.live c.in_ok-parts.ensures) in
    record {
      parts = all_parts c.args.graph.now c.args.family.now c.in_ok-parts.parts c.add_lone.new.parts clusters c.in_ok-add_lone.ensures;
      in_order = c.in_ok-add_lone.ensures.in_order;
      verdict = c.verdict_of.ensures ∙ ap verdict_on c.as_slice.ensures;
    }

pub returns-clause-enough : goal.returns-clause-enough
returns-clause-enough c =
    all_held c.args.graph.now c.args.family.now c.requires.sound c.requires.normal
    (record { verdict = c.verdict_of.result; parts = c.add_lone.new.parts }) (returns-clause-judgement c)

pub returns-clause-over : goal.returns-clause-over
returns-clause-over c = over_exactly (record { verdict = c.verdict_of.result; parts = c.add_lone.new.parts }) (returns-clause-judgement c).verdict

pub returns-clause-whichever : goal.returns-clause-whichever
returns-clause-whichever c other normal =
    judgement_moves c.args.graph.now (bodies c.args.family.now) other (record { verdict = c.verdict_of.result; parts = c.add_lone.new.parts })
    (normal_same c.args.graph.now (bodies c.args.family.now) other c.requires.sound.edges_rise c.requires.normal normal) (returns-clause-judgement c)
