-- Which edits can be made in a sketch.
use Rattle.std.specs.Prelude.{◌≡◌, ◌<◌, ⊤, Contains}
use Rattle.sk_base.specs.declared.Elem.{Elem}
use Rattle.sk_base.specs.declared.ConId.{ConId}
use Rattle.sk_base.specs.declared.Element.{Element}
use Rattle.sk_base.specs.declared.Constraint.{Constraint}
use Rattle.sk_base.specs.declared.Sketch.{Sketch}
use Rattle.sk_base.specs.SoundSketch.{IsSoundSketch, IsSoundRule, IsSoundRatio, IsLength}
use Rattle.sk_graph.specs.Naming.{named_by}
use Rattle.sk_edits.specs.declared.edit.Edit.{Edit}
use Rattle.sk_edits.specs.declared.edit.Edit.TheVariants as edit
use Rattle.sk_edits.specs.Edits.{applied}

-- the sketch has a constraint, or an element, of that number
abbrev pub HasConstraint : Sketch → ConId → Type 0
HasConstraint s k = (c : Constraint) × Contains s.constraints c × (c.number ≡ k)

abbrev pub HasElement : Sketch → Elem → Type 0
HasElement s x = (e : Element) × Contains s.elements e × (e.number ≡ x)

-- no constraint names the element
abbrev pub IsUnused : Sketch → Elem → Type 0
IsUnused s x = (c : Constraint) → Contains s.constraints c → ¬ Contains (named_by c.rule) x

-- what is new has a number above all others; what is changed or removed is there; what is erased isn't named
abbrev pub IsPossible : Edit → Sketch → Type 0
IsPossible (edit.Element e) s = (x : Element) → Contains s.elements x → x.number.0 < e.number.0
IsPossible (edit.Constraint c) s = IsSoundRule s c.rule × ((x : Constraint) → Contains s.constraints x → x.number.0 < c.number.0)
IsPossible (edit.Dropped k) s = HasConstraint s k
IsPossible (edit.Length k len) s = IsLength len × HasConstraint s k
IsPossible (edit.Turned k ratio) s = IsSoundRatio ratio × HasConstraint s k
IsPossible (edit.Erased x) s = HasElement s x × IsUnused s x

-- a new length or ratio is one that a sound sketch may have
abbrev pub HasSoundValue : Edit → Type 0
HasSoundValue (edit.Length k len) = IsLength len
HasSoundValue (edit.Turned k ratio) = IsSoundRatio ratio
HasSoundValue _ = ⊤

-- the edit is possible, and the sketch is sound before and after
pub record CanMake (e : Edit) (s : Sketch) : Type 0 where
  pub possible : IsPossible e s
  pub sound : IsSoundSketch s
  pub stays_sound : IsSoundSketch (applied e s)
