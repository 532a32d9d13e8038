use Rattle.std.proofs.Common.{◌∙◌, ap, sym, subst, refl}
use Rattle.sk_base.specs.declared.Graph.{Graph}
use Rattle.sk_family.specs.Body.{initial_bodies}
use Rattle.sk_family.specs.Clusters.{bodies}
use Rattle.sk_rules.specs.Reach.{Reach}
use Rattle.sk_graph.specs.SketchGraph.{graph_of}
use Rattle.sk_plan.specs.Judged.{IsTheJudgement}
use Rattle.sk_open_triples.proofs.Outcomes.{on_err}
use Rattle.sk_session.specs.State.{State, EndsBy, HasBegunBy, IsHeldUp}
use Rattle.sk_session.specs.Past.{edits_of}
use Rattle.sk_session.specs.Replies.{Checks}
use Rattle.sk_session.specs.declared.reply.Reply.TheVariants as reply
use Rattle.sk_session.proofs.Closings.{begun_at_end, begun_there}
use Rattle.sk_session.proofs.Consistency.{consistent_merged}
use Rattle.sk_session.proofs.session.Session.check.Goals as goal

pub close-requires-clause-rises : goal.close-requires-clause-rises
close-requires-clause-rises c = c.in_ok-graph.ensures.sound.edges_rise

pub close-requires-clause-begun : goal.close-requires-clause-begun
close-requires-clause-begun c =
    subst (λ (g : Graph). Reach g (initial_bodies g) (bodies c.self.inside.family)) (sym c.in_ok-graph.ensures.graph) c.self.invariant.reached

pub invariant_of-self : goal.invariant_of-self
invariant_of-self c = rw c.take_graph.ensures.same c.self.invariant

pub invariant_of-self-in_err-close : goal.invariant_of-self-in_err-close
invariant_of-self-in_err-close c =
    let k = c.self.invariant in
    rw c.take_graph.ensures.same
    (consistent_merged c.self.inside.done c.self.inside.reduced c.self.inside.next_elem c.self.inside.next_con c.self.inside.count c.self.inside.family c.close.new.family k
    c.close.ensures.sound c.close.ensures.room
    (subst (λ (g : Graph). Reach g (bodies c.self.inside.family) (bodies c.close.new.family)) c.in_ok-graph.ensures.graph c.close.ensures.reached))

pub invariant_of-self-in_err-judgement : goal.invariant_of-self-in_err-judgement
invariant_of-self-in_err-judgement c =
    let k = c.self.invariant in
    rw c.take_graph.ensures.same
    (consistent_merged c.self.inside.done c.self.inside.reduced c.self.inside.next_elem c.self.inside.next_con c.self.inside.count c.self.inside.family c.close.new.family k
    c.close.ensures.sound c.close.ensures.room
    (subst (λ (g : Graph). Reach g (bodies c.self.inside.family) (bodies c.close.new.family)) c.in_ok-graph.ensures.graph c.close.ensures.reached))

pub invariant_of-self-2 : goal.invariant_of-self-2
invariant_of-self-2 c =
    let k = c.self.invariant in
    rw (c.keep_graph.ensures, c.take_graph.ensures.same)
    (consistent_merged c.self.inside.done c.self.inside.reduced c.self.inside.next_elem c.self.inside.next_con c.self.inside.count c.self.inside.family c.close.new.family k
    c.close.ensures.sound c.close.ensures.room
    (subst (λ (g : Graph). Reach g (bodies c.self.inside.family) (bodies c.close.new.family)) c.in_ok-graph.ensures.graph c.close.ensures.reached))

pub returns-in_err-graph-clause-err : goal.returns-in_err-graph-clause-err
returns-in_err-graph-clause-err c =
    on_err c.from_residual.result
    (subst (λ (x : State). IsHeldUp x (record { order = c.self.inside.order; closing = c.self.inside.closing; edits = edits_of c.self.inside.done; count = c.self.inside.count; family = c.self.inside.family })) c.self.view_is
    (record { else_same = record { order = refl; edits = refl; count = refl }; closing = refl; begun = begun_there _ _ _ _ }))

pub returns-in_err-close-clause-err : goal.returns-in_err-close-clause-err
returns-in_err-close-clause-err c =
    let graph = c.in_ok-graph.ensures.graph ∙ ap graph_of c.self.invariant.sketch_is in
    let f = c.self.inside.family in
    let n = c.close.new.family in
    let begun = subst (λ (g : Graph). HasBegunBy c.self.inside.closing c.self.inside.order g f n) graph c.in_err-close.ensures.err in
    on_err c.from_residual-in_err-close.result
    (subst (λ (x : State). IsHeldUp x (record { order = c.self.inside.order; closing = c.self.inside.closing; edits = edits_of c.self.inside.done; count = c.self.inside.count; family = n })) c.self.view_is
    (record { else_same = record { order = refl; edits = refl; count = refl }; closing = refl; begun = begun }))

pub returns-in_err-judgement-clause-err : goal.returns-in_err-judgement-clause-err
returns-in_err-judgement-clause-err c =
    let graph = c.in_ok-graph.ensures.graph ∙ ap graph_of c.self.invariant.sketch_is in
    let f = c.self.inside.family in
    let n = c.close.new.family in
    let ends = subst (λ (g : Graph). EndsBy c.self.inside.closing c.self.inside.order g f n) graph c.in_ok-close.ensures.ends in
    on_err c.from_residual-in_err-judgement.result
    (subst (λ (x : State). IsHeldUp x (record { order = c.self.inside.order; closing = c.self.inside.closing; edits = edits_of c.self.inside.done; count = c.self.inside.count; family = n })) c.self.view_is
    (record { else_same = record { order = refl; edits = refl; count = refl }; closing = refl; begun = begun_at_end c.self.inside.closing c.self.inside.order _ f n ends }))

pub returns-clause-ok : goal.returns-clause-ok
returns-clause-ok c =
    let graph = c.in_ok-graph.ensures.graph ∙ ap graph_of c.self.invariant.sketch_is in
    let f = c.self.inside.family in
    let n = c.close.new.family in
    let ends = subst (λ (g : Graph). EndsBy c.self.inside.closing c.self.inside.order g f n) graph c.in_ok-close.ensures.ends in
    let judged : IsTheJudgement c.in_ok-graph.graph c.in_ok-judgement.judgement =
    record { normal = bodies n; is_normal = c.in_ok-close.ensures.normal; every = c.in_ok-judgement.ensures.whichever } in
    subst (λ (x : State). Checks x (reply.Checked c.in_ok-judgement.judgement) (record { order = c.self.inside.order; closing = c.self.inside.closing; edits = edits_of c.self.inside.done; count = c.self.inside.count; family = n })) c.self.view_is (
      c.in_ok-judgement.judgement,
      refl,
      subst (λ (g : Graph). IsTheJudgement g c.in_ok-judgement.judgement) graph judged,
      record { else_same = record { order = refl; edits = refl; count = refl }; closing = refl; ends = ends },
    )
