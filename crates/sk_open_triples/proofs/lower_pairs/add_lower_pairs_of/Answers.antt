use Rattle.std.proofs.Common.{List, get_or, subst, sym}
use Rattle.std.proofs.lemmas.List.Elements.{Contains-get_or}
use Rattle.sk_triangles.specs.Growing.{GrowsBy}
use Rattle.sk_triangles.proofs.Growing.{grows_start, grows_step, grows_end, grows_one}
use Rattle.sk_open_triples.specs.OpenRows.{HasLowerPair}
use Rattle.sk_open_triples.specs.declared.lower_pairs.LowerPair.{LowerPair}
use Rattle.sk_open_triples.proofs.Handing.{one_pairs}
use Rattle.sk_open_triples.proofs.lower_pairs.add_lower_pairs_of.Goals as goal

pub loop-merge-init : goal.loop-merge-init
loop-merge-init c = grows_start HasLowerPair c.args.found.now c.args.all.now

pub lower_pair_of-requires : goal.lower_pair_of-requires
lower_pair_of-requires c = c.requires (get_or c.args.found.now c.loop-merge.merge-index _) (Contains-get_or c.args.found.now c.loop-merge.merge-index _ c.loop-merge-test.true)

pub loop-merge-preserved : goal.loop-merge-preserved
loop-merge-preserved c =
    let m = get_or c.args.found.now c.loop-merge.merge-index _ in
    grows_step HasLowerPair c.args.found.now c.args.all.now c.loop-merge.all c.push.new.self c.loop-merge.merge-index _ c.loop-merge-test.true c.loop-merge.invariant
    (subst (λ (l : List LowerPair). GrowsBy (HasLowerPair m) c.loop-merge.all l) (sym c.in_ok-push.ensures.ok)
    (grows_one (HasLowerPair m) c.loop-merge.all c.lower_pair_of.result c.lower_pair_of.ensures (λ p has. one_pairs m p c.lower_pair_of.result has c.lower_pair_of.ensures)))

pub returns : goal.returns
returns c = grows_end HasLowerPair c.args.found.now c.args.all.now c.loop-merge.all c.loop-merge.merge-index c.loop-merge-test.false c.loop-merge.invariant
