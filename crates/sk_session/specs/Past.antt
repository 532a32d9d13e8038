-- An edit that stands, and what it took away or changed.
use Rattle.std.specs.Prelude.{◌≡◌, List, map, Contains}
use Rattle.sk_base.specs.declared.Sketch.{Sketch}
use Rattle.sk_edits.specs.declared.Edit.{Edit}
use Rattle.sk_edits.specs.declared.Edit.TheVariants as edit
use Rattle.sk_session.specs.declared.done.Done.{Done}
use Rattle.sk_session.specs.declared.done.Done.TheVariants as past
use Rattle.sk_edits.specs.Edits.{applied}
use Rattle.sk_edits.specs.Making.{CanMake}

abbrev pub edit_of : Done → Edit
edit_of (past.Element e) = edit.Element e
edit_of (past.Constraint c) = edit.Constraint c
edit_of (past.Dropped c) = edit.Dropped c.number
edit_of (past.Length len c) = edit.Length c.number len
edit_of (past.Turned ratio c) = edit.Turned c.number ratio
edit_of (past.Erased e) = edit.Erased e.number

abbrev pub edits_of : List Done → List Edit
edits_of done = map edit_of done

-- what the edit took away or changed stood so in the sketch before
abbrev pub Stood : Done → Sketch → Type 0
Stood (past.Element e) s = Unit {0}
Stood (past.Constraint c) s = Unit {0}
Stood (past.Dropped c) s = Contains s.constraints c
Stood (past.Length len c) s = Contains s.constraints c
Stood (past.Turned ratio c) s = Contains s.constraints c
Stood (past.Erased e) s = Contains s.elements e

-- the edit, made in the sketch before, led to the sketch after
pub record LeadsTo (d : Done) (before after : Sketch) : Type 0 where
  pub can : CanMake (edit_of d) before
  pub stood : Stood d before
  pub is : after ≡ applied (edit_of d) before
