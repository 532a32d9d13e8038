use Rattle.std.proofs.Common.{rules, ◌≡◌, sym}
use Rattle.std.specs.Ordering.{is_lt}
use Rattle.std.proofs.lemmas.Fn.{always_returns_same}
use Rattle.sk_family.proofs.Sorting.{two_in_any_order, HaveOtherNames, comes_before, before_orders, sorted_rises}
use Rattle.sk_family.proofs.start.put_in_order.Goals as goal

pub returns-clause-rise : goal.returns-clause-rise
returns-clause-rise c =
    sorted_rises _
    (two_in_any_order HaveOtherNames (λ a b h e. h (sym e)) _ _ c.sort_unstable_by.ensures.permutation c.requires)
    (c.sort_unstable_by.ensures.sorted comes_before before_orders
    (always_returns_same _ (λ a r. is_lt r ≡ comes_before a.0.now a.1.0.now) _ (λ a r f k. search rules)))
