use Rattle.std.proofs.Common.{◌≡◌, ◌+◌, ◌<◌, ◌++◌, List, [], ◌∷◌, length, get_or, take, ap, sym, subst, ◌∙◌, arith}
use Rattle.std.specs.Prelude.{Contains, map}
use Rattle.sk_base.specs.declared.ConId.{ConId}
use Rattle.sk_family.specs.Body.{Start, starts}
use Rattle.sk_family.specs.Clusters.{Clusters, start_of}
use Rattle.sk_family.specs.Starting.{any_start}
use Rattle.sk_family.proofs.GraphStarts.{starts_rise}
use Rattle.sk_spare.specs.Sparing.{IsSpare}
use Rattle.sk_spare.proofs.Deciding.{AreSpareOf, as_many, start_there, with_it, without_it, all_decided, not_told}
use Rattle.sk_spare.proofs.LeavingOut.{spare_is_over}
use Rattle.sk_spare.proofs.spares.spare.Goals as goal
use Rattle.sk_spare.proofs.spares.spare.Goals.{then-is_among+in_ok-push, else-is_among}

pub number_of-number-requires : goal.number_of-number-requires
number_of-number-requires c = (
  get_or (starts c.args.graph.now) c.loop-start.start-index any_start,
  start_there c.args.graph.now c.clusters-start-items.result.now (c.clusters-start-items.ensures.live ∙ ap (λ (f : Clusters). f.live) c.in_ok-starts.ensures.clusters)
      c.loop-start.start-index c.start-item.result c.loop-start-test.true c.start-item.is,
)

pub loop-start-preserved : goal.loop-start-preserved
loop-start-preserved c =
    let g = c.args.graph.now in
    let i = c.loop-start.start-index in
    let are : c.clusters-start-items.result.now ≡ map start_of (starts g) = c.clusters-start-items.ensures.live ∙ ap (λ (f : Clusters). f.live) c.in_ok-starts.ensures.clusters in
    let number = c.number_of-number.result in
    let this : Start = get_or (starts g) i any_start in
    let is : c.number_of-number.result ≡ this.number = c.number_of-number.ensures this (start_there g c.clusters-start-items.result.now are i c.start-item.result c.loop-start-test.true c.start-item.is) in
    let within : i < length (starts g) = (let many = as_many g c.clusters-start-items.result.now are in let below = c.loop-start-test.true in omega arith) in
    elim c.if-is_among.branch [
      | then-is_among+in_ok-push w ↦ subst (λ (ks : List ConId). AreSpareOf g (take (i + 1) (starts g)) ks) (sym (w.spares-is ∙ w.in_ok-push.ensures.ok))
          (subst (λ (k : ConId). AreSpareOf g (take (i + 1) (starts g)) (c.loop-start.spares ++ k ∷ [])) (sym is)
          (with_it g (starts g) i c.loop-start.spares c.loop-start.invariant within any_start (starts_rise g c.requires.edges_rise)
          (subst (λ (k : ConId). IsSpare g k) is ((c.in_ok-found.ensures number).0 (subst (λ (ks : List ConId). Contains ks number) c.as_slice.ensures (c.is_among.ensures.decides.0 w.if-is_among.true))))))
      | else-is_among w ↦ subst (λ (ks : List ConId). AreSpareOf g (take (i + 1) (starts g)) ks) (sym w.spares-is)
          (without_it g (starts g) i c.loop-start.spares c.loop-start.invariant within any_start
          (subst (λ (k : ConId). ¬ IsSpare g k) is (λ s. not_told c.is_among.result c.is_among.ensures.decides w.if-is_among.false (subst (λ (ks : List ConId). Contains ks number) (sym c.as_slice.ensures) ((c.in_ok-found.ensures number).1 s)))))
    ]

pub returns-clause-spares : goal.returns-clause-spares
returns-clause-spares c =
    let g = c.args.graph.now in
    let are : c.clusters-start-items.result.now ≡ map start_of (starts g) = c.clusters-start-items.ensures.live ∙ ap (λ (f : Clusters). f.live) c.in_ok-starts.ensures.clusters in
    record {
      exactly = all_decided g c.requires c.loop-start.start-index c.loop-start.spares
          (let many = as_many g c.clusters-start-items.result.now are in omega (arith, c.loop-start-test.false, many))
          c.loop-start.invariant;
      rise = c.loop-start.invariant.rise;
    }

pub returns-clause-over : goal.returns-clause-over
returns-clause-over c k f x k_in own = spare_is_over c.args.graph.now f k x c.requires own (((returns-clause-spares c).exactly k).0 k_in)
