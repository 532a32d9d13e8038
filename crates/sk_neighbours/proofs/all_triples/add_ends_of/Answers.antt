use Rattle.std.proofs.Common.{subst, List}
use Rattle.sk_base.specs.declared.Elem.{Elem}
use Rattle.sk_triangles.specs.Growing.{GrowsBy, FromSome}
use Rattle.sk_triangles.proofs.Growing.{grows_start, grows_step, grows_end}
use Rattle.sk_triangles.specs.Ends.{EndsAmong}
use Rattle.sk_neighbours.proofs.all_triples.add_ends_of.Goals as goal

pub loop-c-init : goal.loop-c-init
loop-c-init c = grows_start (λ e. EndsAmong c.args.r.now.name e c.args.r.now.elements) c.as_slice-c-items.result.now c.args.ends.now

pub loop-c-preserved : goal.loop-c-preserved
loop-c-preserved c =
    grows_step (λ e. EndsAmong c.args.r.now.name e c.args.r.now.elements) c.as_slice-c-items.result.now c.args.ends.now c.loop-c.ends c.add_ends_from.new.ends c.loop-c.c-index (record { 0 = 0 }) c.loop-c-test.true c.loop-c.invariant c.in_ok-add_ends_from.ensures

pub returns : goal.returns
returns c =
    subst (λ (xs : List Elem). GrowsBy (FromSome (λ e. EndsAmong c.args.r.now.name e c.args.r.now.elements) xs) c.args.ends.now c.loop-c.ends) c.as_slice-c-items.ensures
    (grows_end (λ e. EndsAmong c.args.r.now.name e c.args.r.now.elements) c.as_slice-c-items.result.now c.args.ends.now c.loop-c.ends c.loop-c.c-index c.loop-c-test.false c.loop-c.invariant)
