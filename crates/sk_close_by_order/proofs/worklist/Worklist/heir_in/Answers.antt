use Rattle.std.proofs.Common.{subst}
use Rattle.std.specs.Prelude.{Option}
use Rattle.std.proofs.lemmas.List.Elements.{Contains-append_left, Contains-append_right}
use Rattle.sk_family.specs.Merges.{names_of}
use Rattle.sk_open_triples.specs.declared.Heir.{Heir}
use Rattle.sk_close_by_order.specs.Heirs.{IsHeirOf}
use Rattle.sk_close_by_order.proofs.Inheriting.{heir_of_all}
use Rattle.sk_close_by_order.proofs.worklist.Worklist.heir_in.Goals as goal

pub returns-in_ok-core-in-None-clause-heir : goal.returns-in_ok-core-in-None-clause-heir
returns-in_ok-core-in-None-clause-heir c g follows =
    let w = c.args.self.now in
    let (gone_is, clear_is, covered_is) = c.keeps_all.ensures c.if-keeps_all.true in
    let (core, core_is) = c.in_ok-core-in-None.ensures.live in
    heir_of_all g c.args.family.now c.in_ok-core-in-None.ensures.sound w.clear w.covered w.kept w.gone c.new.result c.in_ok-core-in-None.field-0.now.name core core_is
    gone_is clear_is covered_is c.new.ensures follows.knows

pub returns-in_ok-core-in-None-clause-core : goal.returns-in_ok-core-in-None-clause-core
returns-in_ok-core-in-None-clause-core c g follows = Contains-append_right c.args.self.now.gone (names_of c.args.merge) c.in_ok-core-in-None.field-0.now.name c.in_ok-core-in-None.ensures.named

pub returns-then-has_name-clause-core : goal.returns-then-has_name-clause-core
returns-then-has_name-clause-core c g follows =
    let w = c.args.self.now in
    let (_, _, core) = subst (λ (o : Option Heir). IsHeirOf g c.args.family.now w.covered w.kept w.gone o w.fresh) c.in-Some.is follows.heirs in
    Contains-append_left w.gone (names_of c.args.merge) c.in-Some.heir.core core
