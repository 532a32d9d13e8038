use Rattle.std.proofs.Common.{sym, subst, ap, rules, arith}
use Rattle.std.proofs.lemmas.List.Elements.{Contains-get_or}
use Rattle.sk_base.specs.declared.Element.{Element}
use Rattle.sk_base.specs.SoundSketch.{IsSoundShape}
use Rattle.sk_base.proofs.Searches.{refused}
use Rattle.sk_verify.specs.AsClaimed.{IsTold}
use Rattle.sk_verify.proofs.Fronts.{all_more, all_there, first_here}
use Rattle.sk_verify.proofs.told.first_untold.Goals as goal

pub is_told-requires : goal.is_told-requires
is_told-requires c = subst (λ (x : Element). IsSoundShape x.shape) (sym c.element-item.is)
    (c.requires _ (Contains-get_or c.args.elements.now c.loop-element.element-index c.element-item.result c.loop-element-test.true))

pub returns-then-not-is_told : goal.returns-then-not-is_told
returns-then-not-is_told c =
    let not : ¬ IsTold c.args.claim.now c.element-item.result = refused (rw c.if-not-is_told.true at c.is_told.ensures.1) in (
      _,
      first_here (IsTold c.args.claim.now) c.args.elements.now c.loop-element.element-index c.element-item.result c.loop-element-test.true c.loop-element.invariant
          (subst (λ (x : Element). ¬ IsTold c.args.claim.now x) c.element-item.is not),
      sym (ap (λ (x : Element). x.number) c.element-item.is),
    )

pub loop-element-preserved : goal.loop-element-preserved
loop-element-preserved c =
    all_more (IsTold c.args.claim.now) c.args.elements.now c.loop-element.element-index c.element-item.result c.loop-element-test.true c.loop-element.invariant
    (subst (IsTold c.args.claim.now) c.element-item.is (c.is_told.ensures.0 (search rules)))

pub returns : goal.returns
returns c = all_there (IsTold c.args.claim.now) c.args.elements.now c.loop-element.element-index (omega arith) c.loop-element.invariant
