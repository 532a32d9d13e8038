use Rattle.std.proofs.Common.{◌∙◌, ap, sym, subst, []}
use Rattle.sk_base.specs.declared.Name.TheVariants.{Con}
use Rattle.sk_family.specs.declared.cluster.Cluster.{Cluster}
use Rattle.sk_family.specs.Clusters.{body_of}
use Rattle.sk_family.proofs.Wholes.{MakesSoFar, makes_nothing, makes_more, makes_whole}
use Rattle.sk_family.proofs.family.whole_of.Goals as goal

pub loop-part-init : goal.loop-part-init
loop-part-init c = record {
  name = ap (λ (d : Cluster). d.name) c.empty-whole.ensures;
  makes = subst (λ (d : Cluster). MakesSoFar c.args.from.now c.args.clusters.now [] (body_of d)) (sym c.empty-whole.ensures) (makes_nothing c.args.from.now c.args.clusters.now);
}

pub loop-part-preserved : goal.loop-part-preserved
loop-part-preserved c = record {
  name = c.in_ok-add_named.ensures.name ∙ c.loop-part.invariant.name;
  makes = makes_more c.args.from.now c.args.clusters.now c.requires.by_name c.requires.rise c.loop-part.part-index (Con 0) c.loop-part-test.true (body_of c.loop-part.whole) (body_of c.add_named.new.whole)
      c.loop-part.invariant.makes c.in_ok-add_named.ensures.body;
}

pub add_named-requires-clause-rises : goal.add_named-requires-clause-rises
add_named-requires-clause-rises c = c.loop-part.invariant.makes.rises

pub returns : goal.returns
returns c = makes_whole c.args.from.now c.args.clusters.now c.requires.by_name c.requires.rise c.loop-part.part-index c.loop-part-test.false c.loop-part.whole c.args.name c.loop-part.invariant.name c.loop-part.invariant.makes
