use Rattle.std.proofs.Common.{◌≡◌, ◌<◌, ◌++◌, ap, sym, subst, ◌∙◌, length, arith}
use Rattle.std.proofs.lemmas.List.{length-map}
use Rattle.sk_base.specs.declared.Graph.{Graph}
use Rattle.sk_base.specs.SoundGraph.{IsSoundGraph}
use Rattle.sk_family.specs.Clusters.{bodies}
use Rattle.sk_rules.specs.Reach.{IsNormal}
use Rattle.sk_graph.specs.SketchGraph.{graph_of, node_of}
use Rattle.sk_offers.specs.Offering.{Table, starting_table}
use Rattle.sk_plan.specs.Judged.{IsTheJudgement}
use Rattle.sk_answers.specs.OffersReport.{AreAnswered}
use Rattle.sk_answers.proofs.Answering.{answered_graph}
use Rattle.sk_answers.proofs.offers.report.Goals as goal

-- the finished graph is that of the sketch
same_graph : (c : goal.After-judge-arg-2-1) → c.in_ok-finished.finished.graph ≡ c.in_ok-reduce.field-0
same_graph c =
    c.in_ok-finished.ensures.graph
    ∙ answered_graph c.in_ok-board.board c.args.offers.now c.answers.new.board c.in_ok-text.text c.in_ok-text.ensures
    ∙ ap (λ (t : Table). t.graph) c.in_ok-board.ensures

pub judge-requires-clause-sound : goal.judge-requires-clause-sound
judge-requires-clause-sound c = subst (λ (g : Graph). IsSoundGraph g) (sym (same_graph c)) c.in_ok-reduce.ensures.sound

pub judge-requires-clause-some : goal.judge-requires-clause-some
judge-requires-clause-some c =
    subst (λ (g : Graph). 0 < length g.nodes) (sym (same_graph c ∙ c.in_ok-reduce.ensures.graph))
    (omega (arith, length-map c.args.sketch.now.elements node_of, c.requires.some))

pub returns : goal.returns
returns c =
    let s = c.args.sketch.now in
    let j = c.in_ok-judgement.judgement in
    let finished = c.in_ok-finished.finished in
    let on_board : finished.graph ≡ graph_of s =
    c.in_ok-finished.ensures.graph
    ∙ answered_graph c.in_ok-board.board c.args.offers.now c.answers.new.board c.in_ok-text.text c.in_ok-text.ensures
    ∙ ap (λ (t : Table). t.graph) c.in_ok-board.ensures
    ∙ c.in_ok-reduce.ensures.graph in
    let start : c.in_ok-board.board ≡ starting_table (graph_of s) =
    c.in_ok-board.ensures ∙ ap starting_table c.in_ok-reduce.ensures.graph in
    let normal : IsNormal finished.graph (bodies finished.family) =
    subst (λ (g : Graph). IsNormal g (bodies finished.family)) (sym c.in_ok-finished.ensures.graph) c.in_ok-finished.ensures.normal in
    record {
      board = c.answers.new.board;
      lines = c.in_ok-text.text;
      judgement = j;
      answered = subst (λ (t : Table). AreAnswered t c.args.offers.now c.answers.new.board c.in_ok-text.text) start c.in_ok-text.ensures;
      judged = subst (λ (g : Graph). IsTheJudgement g j) on_board
          (record { normal = bodies finished.family; is_normal = normal; every = c.in_ok-judgement.ensures.whichever });
      is = c.in_ok-put.ensures.ok ∙ ap (λ bytes. c.in_ok-text.text ++ bytes) (c.as_bytes.ensures ∙ c.in_ok-check_text.ensures);
    }
