use Rattle.std.proofs.Common.{List, subst}
use Rattle.std.specs.Prelude.{Contains}
use Rattle.sk_family.specs.declared.Merge.{Merge}
use Rattle.sk_triangles.specs.Growing.{GrowsBy}
use Rattle.sk_neighbours.specs.Triples.{TriplesOf}
use Rattle.sk_close_any_order.specs.Settling.{IsAny}
use Rattle.sk_close_any_order.proofs.Settled.{any_found}
use Rattle.sk_close_any_order.proofs.any_order.merge_of.Goals as goal

pub returns : goal.returns
returns c =
    any_found c.args.index.now c.args.x.now c.in_default.ensures c.add_triples_of.new.all
    (subst (λ (l : List Merge). GrowsBy (TriplesOf c.args.index.now c.args.x.now) l c.add_triples_of.new.all) c.new-all.ensures c.in_ok-add_triples_of.ensures)
    c.first_of.result
    (subst (λ (l : List Merge). IsAny (Contains l) c.first_of.result) c.as_slice.ensures c.first_of.ensures)
