use Rattle.std.proofs.Common.{subst, sym}
use Rattle.sk_family.specs.Clusters.{IsWithin}
use Rattle.sk_close_by_order.proofs.Inheriting.{heir_of_merge}
use Rattle.sk_close_by_order.proofs.worklist.Worklist.grown.Goals as goal

pub returns-then-add_fresh-clause-heir : goal.returns-then-add_fresh-clause-heir
returns-then-add_fresh-clause-heir c g follows =
    let w = c.heir_in.new.self in
    let f = c.args.family.now in
    let base = c.in_ok-base.base in
    let within = subst (λ n. IsWithin f n) (sym c.heir_in.ensures.same.covered) follows.knows.covered_within in
    heir_of_merge g f c.add_fresh.ensures.sound w.covered within w.kept w.gone base w.fresh c.add_fresh.new.fresh (c.in_ok-base.ensures.heir g follows)
    c.args.merge (c.add_fresh.ensures.live c.if-add_fresh.true) c.in_ok-base.ensures.named (c.add_fresh.ensures.on c.if-add_fresh.true) (c.in_ok-base.ensures.core g follows) c.next_step.result c.next_step.ensures
