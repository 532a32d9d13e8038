use Rattle.std.proofs.Common.{List, subst, sym, arith}
use Rattle.std.specs.Prelude.{Contains}
use Rattle.std.proofs.lemmas.List.{take_all}
use Rattle.std.proofs.lemmas.List.Elements.{Contains-get_or}
use Rattle.sk_base.specs.declared.Constraint.{Constraint}
use Rattle.sk_tolerance.specs.First.{IsFirst}
use Rattle.sk_tolerance.specs.Turns.{senses, constraint_signs, AllAsDrawn, IsTurned}
use Rattle.sk_tolerance.proofs.Comparisons.{as_drawn_more, turned_there}
use Rattle.sk_tolerance.proofs.turned.turned_constraint.Goals as goal

pub turned_sense-requires-clause-rule : goal.turned_sense-requires-clause-rule
turned_sense-requires-clause-rule c =
    let constraint : Constraint = c.constraint-item.result in
    c.requires.rules constraint (subst (λ (x : Constraint). Contains c.args.constraints.now x) (sym c.constraint-item.is) (Contains-get_or c.args.constraints.now c.loop-constraint.constraint-index constraint (omega arith)))

pub returns-in-Some : goal.returns-in-Some
returns-in-Some c =
    turned_there (λ (x : Constraint). senses c.args.s.now c.args.p.now x.number x.rule) c.args.constraints.now c.loop-constraint.constraint-index c.constraint-item.result (omega arith) c.in-Some.turned c.loop-constraint.invariant
    (subst (λ (x : Constraint). IsFirst IsTurned (senses c.args.s.now c.args.p.now x.number x.rule) c.in-Some.turned) c.constraint-item.is c.in-Some.ensures)

pub loop-constraint-preserved : goal.loop-constraint-preserved
loop-constraint-preserved c =
    as_drawn_more (λ (x : Constraint). senses c.args.s.now c.args.p.now x.number x.rule) c.args.constraints.now c.loop-constraint.constraint-index c.constraint-item.result (omega arith) c.loop-constraint.invariant
    (subst (λ (x : Constraint). AllAsDrawn (senses c.args.s.now c.args.p.now x.number x.rule)) c.constraint-item.is c.in_default.ensures)

pub returns : goal.returns
returns c = subst (λ (xs : List Constraint). AllAsDrawn (constraint_signs c.args.s.now c.args.p.now xs)) (take_all c.loop-constraint.constraint-index c.args.constraints.now (omega arith)) c.loop-constraint.invariant
