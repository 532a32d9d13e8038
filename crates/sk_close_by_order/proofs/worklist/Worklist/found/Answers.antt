use Rattle.std.proofs.Common.{inl, inr, List, subst}
use Rattle.sk_base.proofs.Members.{contains_none}
use Rattle.sk_family.specs.declared.Merge.{Merge}
use Rattle.sk_triangles.specs.Growing.{GrowsBy}
use Rattle.sk_close_by_order.specs.Heirs.{IsFound}
use Rattle.sk_close_by_order.proofs.worklist.Worklist.found.Goals as goal

pub returns-clause-found : goal.returns-clause-found
returns-clause-found c g follows m =
    let w = c.args.self.now in
    let grows = subst (λ (l : List Merge). GrowsBy (IsFound w.index g c.args.family.now w.covered w.heir w.fresh) l c.add_uncovered.new.all) c.new-found.ensures (c.in_ok-add_uncovered.ensures.grows g follows) in (
      (λ h. elim ((grows m).0 h) [ inl none ↦ absurd (contains_none m none) | inr is ↦ is ]),
      (λ is. (grows m).1 (inr is)),
    )
