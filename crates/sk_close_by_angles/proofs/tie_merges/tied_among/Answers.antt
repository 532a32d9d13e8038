use Rattle.std.proofs.Common.{◌≡◌, List, [], sym, subst}
use Rattle.std.specs.Prelude.{AllPairs}
use Rattle.sk_base.specs.declared.Name.{Name}
use Rattle.sk_base.specs.declared.Name.TheVariants.{Con}
use Rattle.sk_base.specs.ClusterNames.{IsBelow}
use Rattle.sk_base.proofs.Pairs.{pairs_none}
use Rattle.sk_triangles.specs.Growing.{GrowsBy, FromSome}
use Rattle.sk_triangles.proofs.Growing.{grows_start, grows_step, grows_end}
use Rattle.sk_close_by_angles.specs.TieMerges.{IsTiedTo}
use Rattle.sk_close_by_angles.proofs.Finding.{adds_grows, told_among, order_step}
use Rattle.sk_close_by_angles.proofs.tie_merges.tied_among.Goals as goal

pub loop-other-init : goal.loop-other-init
loop-other-init c = record {
  exactly = λ g are. (
      let kind : Name → Name → Type 0 = λ n m. IsTiedTo g c.args.family.now c.args.cluster.now n × (m ≡ n) in
      subst (λ (l : List Name). GrowsBy (FromSome kind []) [] l) (sym c.new-tied.ensures.items) (grows_start kind c.args.others.now []));
  in_order = λ rise. subst (λ (l : List Name). AllPairs IsBelow l) (sym c.new-tied.ensures.items) (pairs_none IsBelow);
}

pub loop-other-preserved : goal.loop-other-preserved
loop-other-preserved c =
    let f = c.args.family.now in
    let a = c.args.cluster.now in
    let others = c.args.others.now in
    let i = c.loop-other.other-index in
    let so_far = c.loop-other.invariant in
    let old = c.loop-other.tied.items in
    let new = c.add_if_tied.new.tied.items in
    record {
      exactly = λ g are. grows_step (λ (n m : Name). IsTiedTo g f a n × (m ≡ n)) others [] old new i (Con 0) c.loop-other-test.true (so_far.exactly g are)
          (adds_grows _ old new _ (c.in_ok-add_if_tied.ensures g are));
      in_order = λ rise. (
          let (g, are) = c.requires.classes in
          order_step (λ n. IsTiedTo g f a n) _ others i (Con 0) c.loop-other-test.true rise old new (so_far.exactly g are) (c.in_ok-add_if_tied.ensures g are) (so_far.in_order rise));
    }

pub returns-clause-exactly : goal.returns-clause-exactly
returns-clause-exactly c g are =
    let kind : Name → Name → Type 0 = λ n m. IsTiedTo g c.args.family.now c.args.cluster.now n × (m ≡ n) in
    told_among (λ n. IsTiedTo g c.args.family.now c.args.cluster.now n) c.args.others.now c.loop-other.tied.items
    (grows_end kind c.args.others.now [] c.loop-other.tied.items c.loop-other.other-index c.loop-other-test.false (c.loop-other.invariant.exactly g are))
