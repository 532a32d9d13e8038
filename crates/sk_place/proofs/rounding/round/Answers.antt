use Rattle.std.proofs.Common.{◌∙◌, take, ap, sym, subst, List as Items}
use Rattle.std.specs.Prelude.{All}
use Rattle.std.proofs.lemmas.List.Elements.{All-push}
use Rattle.sk_base.specs.declared.Spot.{Spot}
use Rattle.sk_base.specs.Places.{IsBounded}
use Rattle.std.proofs.lemmas.List.{take_all}
use Rattle.sk_place.specs.Clusters.{nodes_of}
use Rattle.sk_place.specs.Rounding.{nodes_at}
use Rattle.sk_place.proofs.Midpoints.{round_more, kept_nodes}
use Rattle.sk_place.proofs.rounding.round.Goals as goal

pub loop-b-preserved : goal.loop-b-preserved
loop-b-preserved g c =
    let bounded : Spot → Type 0 = λ spot. IsBounded spot.at in
    record {
      value = c.in_ok-push.ensures.ok
          ∙ round_more g.G.Grid.BITS c.as_slice-b-items.result.now c.loop-b.b-index c.b-item.result c.loop-b.spots c.rounded_box.result c.loop-b-test.true c.b-item.is
          c.loop-b.invariant.value c.rounded_box.ensures.value;
      bounded = subst (λ (spots : Items Spot). All bounded spots) (sym c.in_ok-push.ensures.ok)
          (All-push bounded c.loop-b.spots (record { elem = c.b-item.result.elem; at = c.rounded_box.result }) c.loop-b.invariant.bounded c.rounded_box.ensures.bounded);
    }

pub returns-clause-nodes : goal.returns-clause-nodes
returns-clause-nodes g c =
    let items = c.as_slice-b-items.result.now in
    ap nodes_at c.loop-b.invariant.value
    ∙ kept_nodes g.G.Grid.BITS (take c.loop-b.b-index items)
    ∙ ap nodes_of (take_all c.loop-b.b-index items c.loop-b-test.false ∙ c.as_slice-b-items.ensures.boxes)
