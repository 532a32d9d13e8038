use Rattle.std.proofs.Common.{◌≡◌, List, ◌++◌, sym, subst}
use Rattle.sk_family.specs.Clusters.{bodies, initial_clusters}
use Rattle.sk_rules.specs.declared.Taken.{Taken}
use Rattle.sk_rules.specs.Reach.{IsTheOnlyNormal}
use Rattle.sk_rules.specs.Taking.{Leads}
use Rattle.sk_offers.specs.Offering.{Table}
use Rattle.sk_offers.proofs.Boards.{leads_on}
use Rattle.sk_offers.proofs.board.Board.finish.Goals as goal

pub returns-clause-only : goal.returns-clause-only
returns-clause-only g c =
    subst (λ (t : Table). IsTheOnlyNormal t.graph (bodies c.close_family.new.family)) c.board.view_is
    (c.in_ok-picked.ensures.only c.board.invariant.graph.edges_rise c.board.invariant.reached)

pub returns-clause-leads : goal.returns-clause-leads
returns-clause-leads g c =
    let graph = c.board.inside.graph in
    let end = c.close_family.new.family in
    let on : Leads graph (initial_clusters graph) (c.board.inside.taken ++ c.in_ok-picked.picked) end =
    leads_on graph (initial_clusters graph) c.board.inside.family end c.board.inside.taken c.in_ok-picked.picked c.board.invariant.leads c.in_ok-picked.ensures.leads in
    let taken : c.extend.new.self ≡ c.board.inside.taken ++ c.in_ok-picked.picked = rw (sym c.as_slice.ensures) c.in_ok-extend.ensures.ok in
    subst (λ (t : Table). Leads t.graph (initial_clusters t.graph) c.extend.new.self end) c.board.view_is
    (subst (λ (ts : List Taken). Leads graph (initial_clusters graph) ts end) (sym taken) on)
