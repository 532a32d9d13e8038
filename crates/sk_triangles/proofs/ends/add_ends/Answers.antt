use Rattle.std.proofs.Common.{◌≡◌, get_or, sym, subst, refl, List}
use Rattle.sk_base.specs.declared.Elem.{Elem}
use Rattle.sk_triangles.specs.Growing.{GrowsBy}
use Rattle.sk_triangles.proofs.Growing.{grows_start, grows_step, grows_end, grows_one}
use Rattle.sk_triangles.specs.declared.ends.End.{End}
use Rattle.sk_triangles.specs.Ends.{end_of}
use Rattle.sk_triangles.proofs.ends.add_ends.Goals as goal

pub loop-elem-init : goal.loop-elem-init
loop-elem-init c = grows_start (λ d x. x ≡ end_of c.args.name c.args.corner d) c.args.elements.now c.args.ends.now

pub loop-elem-preserved : goal.loop-elem-preserved
loop-elem-preserved c =
    let kind : Elem → End → Type 0 = λ d x. x ≡ end_of c.args.name c.args.corner d in
    let d : Elem = get_or c.args.elements.now c.loop-elem.elem-index (record { 0 = 0 }) in
    grows_step kind c.args.elements.now c.args.ends.now c.loop-elem.ends c.push.new.self c.loop-elem.elem-index (record { 0 = 0 }) c.loop-elem-test.true c.loop-elem.invariant
    (subst (λ (new : List End). GrowsBy (kind d) c.loop-elem.ends new) (sym c.in_ok-push.ensures.ok) (grows_one (kind d) c.loop-elem.ends (end_of c.args.name c.args.corner d) refl (λ x is. is)))

pub returns : goal.returns
returns c =
    grows_end (λ d x. x ≡ end_of c.args.name c.args.corner d) c.args.elements.now c.args.ends.now c.loop-elem.ends c.loop-elem.elem-index c.loop-elem-test.false c.loop-elem.invariant
