use Rattle.std.proofs.Common.{◌≡◌, ◌+◌, List, [], ◌∷◌, ◌++◌, take, sym, ap, subst, ◌∙◌, arith}
use Rattle.std.proofs.lemmas.List.{take_more}
use Rattle.sk_base.specs.declared.Name.{Name}
use Rattle.sk_solve.specs.contracts.alternative.each.{G-type}
use Rattle.sk_solve.specs.declared.alternative.Alternative.{Alternative}
use Rattle.sk_solve.specs.Alternatives.{AreAlternatives}
use Rattle.sk_solve.proofs.InTurn.{alternatives_more}
use Rattle.sk_solve.proofs.alternative.each.Goals as goal

pub loop-names-preserved : goal.loop-names-preserved
loop-names-preserved g c =
    let before : List (List Name) = take c.loop-names.names-index c.args.lists.now in
    let names : List Name = c.names-item.result in
    let more : take (c.loop-names.names-index + 1) c.args.lists.now ≡ before ++ names ∷ [] =
    take_more c.args.lists.now c.loop-names.names-index names (omega arith) ∙ ap (λ (here : List Name). before ++ here ∷ []) (sym c.names-item.is) in
    subst (λ (lists : List (List Name)). AreAlternatives (G-type g.row.G) c.args.placing g.G.Grid.BITS c.args.limit c.args.s.now c.args.p.now lists c.push.new.self) (sym more)
    (subst (λ (found : List Alternative). AreAlternatives (G-type g.row.G) c.args.placing g.G.Grid.BITS c.args.limit c.args.s.now c.args.p.now (before ++ names ∷ []) found) (sym c.in_ok-push.ensures.ok)
    (alternatives_more (G-type g.row.G) c.args.placing g.G.Grid.BITS c.args.limit c.args.s.now c.args.p.now before c.loop-names.alternatives names c.in_ok-turning.field-0 c.loop-names.invariant c.in_ok-turning.ensures))
