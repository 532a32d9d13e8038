use Rattle.std.proofs.Common.{sym}
use Rattle.sk_base.proofs.Searches.{on_ok}
use Rattle.sk_triangles.proofs.Growing.{grows_same}
use Rattle.sk_triangles.specs.Walk.{JoinedBy}
use Rattle.sk_triangles.proofs.walk.add_join.Goals as goal

pub visit-requires : goal.visit-requires
visit-requires g c =
    let (p_x, q_x) = c.is_other_than.ensures.0 c.if-is_other_than.true in
    ((λ e. p_x (sym e)), c.requires, q_x)

pub returns-in_ok-visit : goal.returns-in_ok-visit
returns-in_ok-visit g c =
    let (p_x, q_x) = c.is_other_than.ensures.0 c.if-is_other_than.true in
    let keeps = g.V.Visitor.keeps c.args.visitor.now in
    grows_same (keeps c.args.end.name c.args.p c.args.q) (JoinedBy keeps c.args.p c.args.q c.args.end) c.args.all.now c.visit.new.all
    (λ m. ((λ is. (p_x, q_x, is)), (λ (p_apart, q_apart, is). is))) c.in_ok-visit.ensures
