use Rattle.std.proofs.Common.{◌≡◌, ap, sym, subst, ◌∙◌}
use Rattle.sk_base.specs.declared.ConId.{ConId}
use Rattle.sk_base.proofs.Searches.{on_ok}
use Rattle.sk_family.specs.Body.{Start}
use Rattle.sk_family.specs.Starts.{HasStart, IsFree}
use Rattle.sk_family.proofs.GraphStarts.{found_start, with_edge, with_block, with_none}
use Rattle.sk_spare.proofs.trial.adopt_start.Goals as goal

pub unreachable-requires : goal.unreachable-requires
unreachable-requires c =
    let there = c.requires.there in
    with_none c.args.graph.now c.requires.sound.edges_rise c.args.number (sym c.in-None.ensures) (sym c.in-None-block.ensures) there.0 there.1 there.2

pub adopt-requires-clause-free : goal.adopt-requires-clause-free
adopt-requires-clause-free c =
    let (s, s_in, s_is) = c.requires.there in
    let g = c.args.graph.now in
    let same = with_edge g c.requires.sound.edges_rise c.args.number c.in-Some.edge.now (sym c.in-Some.ensures) in
    let number : c.in-Some.edge.now.id ≡ c.args.number = ap (λ (t : Start). t.number) (sym same ∙ found_start g c.requires.sound.edges_rise s c.args.number s_in s_is) ∙ s_is in
    subst (λ (k : ConId). IsFree c.args.family.now k) (sym number) c.requires.free

pub adopt_block-requires-clause-free : goal.adopt_block-requires-clause-free
adopt_block-requires-clause-free c =
    let (s, s_in, s_is) = c.requires.there in
    let g = c.args.graph.now in
    let same = with_block g c.requires.sound.edges_rise c.args.number c.requires.sound.blocks_rise (sym c.in-None.ensures) c.in-Some-block.block.now (sym c.in-Some-block.ensures) s s_in s_is in
    let number : c.in-Some-block.block.now.id ≡ c.args.number = ap (λ (t : Start). t.number) (sym same ∙ found_start g c.requires.sound.edges_rise s c.args.number s_in s_is) ∙ s_is in
    subst (λ (k : ConId). IsFree c.args.family.now k) (sym number) c.requires.free

pub returns-in-Some-clause-ok : goal.returns-in-Some-clause-ok
returns-in-Some-clause-ok c =
    let same = with_edge c.args.graph.now c.requires.sound.edges_rise c.args.number c.in-Some.edge.now (sym c.in-Some.ensures) in
    on_ok c.adopt.result c.adopt.ensures.ok (λ has. subst (λ (t : Start). HasStart t c.args.family.now c.adopt.new.self) (sym same) has)

pub returns-in-Some-block-clause-ok : goal.returns-in-Some-block-clause-ok
returns-in-Some-block-clause-ok c =
    let (s, s_in, s_is) = c.requires.there in
    let same = with_block c.args.graph.now c.requires.sound.edges_rise c.args.number c.requires.sound.blocks_rise (sym c.in-None.ensures) c.in-Some-block.block.now (sym c.in-Some-block.ensures) s s_in s_is in
    on_ok c.adopt_block.result c.adopt_block.ensures.ok (λ has. subst (λ (t : Start). HasStart t c.args.family.now c.adopt_block.new.self) (sym same) has)
