use Rattle.std.proofs.Common.{sym, subst, List}
use Rattle.sk_triangles.specs.Growing.{GrowsBy}
use Rattle.sk_triangles.proofs.Growing.{grows_one}
use Rattle.sk_family.specs.declared.Merge.{Merge}
use Rattle.sk_neighbours.specs.Walked.{Meets}
use Rattle.sk_neighbours.proofs.Walked.{one_triple, placed_apart}
use Rattle.sk_neighbours.proofs.meeting.add_meet.Goals as goal

pub triple_of-requires : goal.triple_of-requires
triple_of-requires c = placed_apart c.args.third c.args.end.name c.args.z (c.is_placed.ensures.0 c.if-is_placed.true)

pub returns-in_ok-push : goal.returns-in_ok-push
returns-in_ok-push c =
    let kind = Meets c.args.third c.args.x c.args.z c.args.end in
    subst (λ (new : List Merge). GrowsBy kind c.args.all.now new) (sym c.in_ok-push.ensures.ok)
    (grows_one kind c.args.all.now c.triple_of.result (c.is_placed.ensures.0 c.if-is_placed.true, c.triple_of.ensures)
    (λ m (placed, m_is). one_triple c.args.x c.args.end.name c.args.z m c.triple_of.result m_is c.triple_of.ensures))
