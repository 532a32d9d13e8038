use Rattle.std.proofs.Common.{List, subst}
use Rattle.std.specs.Prelude.{Contains, Some}
use Rattle.sk_base.specs.declared.Node.{Node}
use Rattle.sk_tolerance.specs.Tolerances.{normals, constraints, everything, AllHold, IsFirstBeyond}
use Rattle.sk_tolerance.specs.Telling.{IsSearched}
use Rattle.sk_tolerance.proofs.Passings.{beyond_appended, searched_behind, none_exactly, some_first}
use Rattle.sk_tolerance.proofs.beyond.passed.Goals as goal

pub line_beyond-requires : goal.line_beyond-requires
line_beyond-requires c = λ n h. c.requires.placed.nodes n (subst (λ (xs : List Node). Contains xs n) c.as_slice.ensures h)

-- a line is found
found : (c : goal.In-Some) → IsFirstBeyond c.args.p.now (everything c.args.g.now) c.args.limit c.in-Some.beyond
found c = beyond_appended c.args.p.now c.args.limit _ _ c.in-Some.beyond (rw c.as_slice.ensures at c.in-Some.ensures)

pub returns-in-Some-clause-none : goal.returns-in-Some-clause-none
returns-in-Some-clause-none c = none_exactly c.args.p.now c.args.limit (everything c.args.g.now) (Some c.in-Some.beyond) (found c)

pub returns-in-Some-clause-some : goal.returns-in-Some-clause-some
returns-in-Some-clause-some c = found c

-- no line is found
searched : (c : goal.After-constraint_beyond) → IsSearched c.args.p.now (everything c.args.g.now) c.args.limit c.constraint_beyond.result
searched c =
    let lines : AllHold c.args.p.now (normals c.args.g.now.nodes) c.args.limit = rw c.as_slice.ensures at c.in-None.ensures in
    searched_behind c.args.p.now c.args.limit (normals c.args.g.now.nodes) (constraints c.args.g.now) c.constraint_beyond.result lines c.constraint_beyond.ensures

pub returns-in-None-clause-none : goal.returns-in-None-clause-none
returns-in-None-clause-none c = none_exactly c.args.p.now c.args.limit (everything c.args.g.now) c.constraint_beyond.result (searched c)

pub returns-in-None-clause-some : goal.returns-in-None-clause-some
returns-in-None-clause-some c = some_first c.args.p.now c.args.limit (everything c.args.g.now) c.constraint_beyond.result (searched c)
