use Rattle.std.proofs.Common.{◌≡◌, List, [], sym, subst}
use Rattle.sk_base.specs.declared.Elem.{Elem}
use Rattle.sk_base.specs.declared.Kind.TheVariants.{Point}
use Rattle.sk_base.specs.SoundGraph.{HasNode}
use Rattle.sk_triangles.specs.Growing.{GrowsBy, FromSome}
use Rattle.sk_triangles.proofs.Growing.{grows_start, grows_step, grows_end}
use Rattle.sk_close_by_angles.proofs.Finding.{adds_grows, told_among}
use Rattle.sk_close_by_angles.proofs.tie_merges.points_among.Goals as goal

pub loop-elem-init : goal.loop-elem-init
loop-elem-init c =
    let kind : Elem → Elem → Type 0 = λ e d. HasNode c.args.graph.now e Point × (d ≡ e) in
    subst (λ (l : List Elem). GrowsBy (FromSome kind []) [] l) (sym c.new-points.ensures) (grows_start kind c.args.elements.now [])

pub loop-elem-preserved : goal.loop-elem-preserved
loop-elem-preserved c =
    let kind : Elem → Elem → Type 0 = λ e d. HasNode c.args.graph.now e Point × (d ≡ e) in
    grows_step kind c.args.elements.now [] c.loop-elem.points c.add_if_point.new.points c.loop-elem.elem-index (record { 0 = 0 }) c.loop-elem-test.true c.loop-elem.invariant
    (adds_grows _ c.loop-elem.points c.add_if_point.new.points _ c.in_ok-add_if_point.ensures)

pub returns : goal.returns
returns c =
    let kind : Elem → Elem → Type 0 = λ e d. HasNode c.args.graph.now e Point × (d ≡ e) in
    told_among (λ e. HasNode c.args.graph.now e Point) c.args.elements.now c.loop-elem.points
    (grows_end kind c.args.elements.now [] c.loop-elem.points c.loop-elem.elem-index c.loop-elem-test.false c.loop-elem.invariant)
