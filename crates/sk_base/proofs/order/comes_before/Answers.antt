use Rattle.std.proofs.Common.{◌∙◌, refl, sym, ap}
use Rattle.std.specs.Ordering.{is_lt}
use Rattle.sk_base.specs.ElementOrder.{comes_before}
use Rattle.sk_base.proofs.Filters.{same_tests}
use Rattle.sk_base.proofs.ListOrder.{less_is_before, before_is_less, lt_is_less, computed_before, before_computed}
use Rattle.sk_base.proofs.order.comes_before.Goals as goal

pub returns-clause-decides : goal.returns-clause-decides
returns-clause-decides c = (
  (λ t. less_is_before _ (λ x y. refl) c.args.xs.now c.args.ys.now (sym c.cmp.ensures ∙ lt_is_less c.cmp.result (sym c.is_lt.ensures ∙ t))),
  (λ h. c.is_lt.ensures ∙ ap is_lt (c.cmp.ensures ∙ before_is_less _ (λ x y. refl) c.args.xs.now c.args.ys.now h)),
)

pub returns-clause-computed : goal.returns-clause-computed
returns-clause-computed c =
    let tells = returns-clause-decides c in
    same_tests c.is_lt.result (comes_before c.args.xs.now c.args.ys.now) (λ t. before_computed c.args.xs.now c.args.ys.now (tells.0 t)) (λ t. tells.1 (computed_before c.args.xs.now c.args.ys.now t))
