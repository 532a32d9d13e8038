use Rattle.std.proofs.Common.{rules, ◌≡◌, ◌==◌}
use Rattle.std.proofs.lemmas.Fn.{always_returns_same, dedup_same}
use Rattle.sk_family.proofs.Once.{numbers_same, numbers_rise}
use Rattle.sk_family.proofs.order.in_order.Goals as goal

pub returns-clause-same : goal.returns-clause-same
returns-clause-same g c =
    let once = dedup_same _ (λ x y. g.T.Numbered.number x == g.T.Numbered.number y) _ (λ x y b f' x' y' k. search rules) _ _ c.dedup_by_key.ensures.filtered in
    rw (c.in_ok-extend.ensures.ok, c.new-list.ensures, c.as_slice.ensures.value) (numbers_same g.T.Numbered.number g.met.T.Numbered.exact _ _ _ c.in_ok-sort_by_key.ensures.permutation once)

pub returns-clause-rises : goal.returns-clause-rises
returns-clause-rises g c =
    let once = dedup_same _ (λ x y. g.T.Numbered.number x == g.T.Numbered.number y) _ (λ x y b f' x' y' k. search rules) _ _ c.dedup_by_key.ensures.filtered in
    rw (c.in_ok-extend.ensures.ok, c.new-list.ensures, c.as_slice.ensures.value)
    (numbers_rise g.T.Numbered.number g.met.T.Numbered.exact _ _ _ c.in_ok-sort_by_key.ensures.permutation once
    (c.in_ok-sort_by_key.ensures.sorted g.T.Numbered.number (always_returns_same _ (λ a r. r ≡ g.T.Numbered.number a.0.now) _ (λ a r f k. search rules))))
