-- What a session keeps beside the edits that stand.
use Rattle.std.specs.Prelude.{◌≡◌, ℕ, ◌+◌, ◌-◌, ◌*◌, ◌≤◌, List, [], ◌∷◌, ◌++◌, length}
use Rattle.sk_base.specs.declared.Sketch.{Sketch}
use Rattle.sk_base.specs.SoundSketch.{IsSoundSketch}
use Rattle.sk_family.specs.Clusters.{Clusters, IsSound}
use Rattle.sk_edits.specs.declared.Edit.{Edit}
use Rattle.sk_edits.specs.declared.Edit.TheVariants as edit
use Rattle.sk_session.specs.declared.done.Done.{Done}
use Rattle.sk_edits.specs.Edits.{sketch_of, next_element, next_constraint}
use Rattle.sk_session.specs.Past.{edit_of, edits_of, Stood}
use Rattle.sk_edits.specs.Making.{CanMake}
use Rattle.sk_session.specs.Following.{IsReachedIn}

-- a new number is the next one
abbrev pub Gives : Edit → List Edit → Type 0
Gives (edit.Element e) before = e.number.0 ≡ next_element before
Gives (edit.Constraint c) before = c.number.0 ≡ next_constraint before
Gives _ before = Unit {0}

-- the next numbers behind an edit
abbrev pub element_after : Edit → ℕ → ℕ
element_after (edit.Element e) n = n + 1
element_after _ n = n

abbrev pub constraint_after : Edit → ℕ → ℕ
constraint_after (edit.Constraint c) n = n + 1
constraint_after _ n = n

-- and before it
abbrev pub element_before : Edit → ℕ → ℕ
element_before (edit.Element e) n = n - 1
element_before _ n = n

abbrev pub constraint_before : Edit → ℕ → ℕ
constraint_before (edit.Constraint c) n = n - 1
constraint_before _ n = n

-- the edit could be made behind those before it, and what stood before is kept
pub record IsMade (before : List Edit) (d : Done) : Type 0 where
  pub can : CanMake (edit_of d) (sketch_of before)
  pub given : Gives (edit_of d) before
  pub stood : Stood d (sketch_of before)

-- each of them
abbrev pub AllMade : List Edit → List Done → Type 0
AllMade before [] = Unit {0}
AllMade before (d ∷ ds) = IsMade before d × AllMade (before ++ edit_of d ∷ []) ds

-- the sketch, the next numbers and the kept family are those of the standing edits
pub record IsConsistent (done : List Done) (sketch : Sketch) (next_elem next_con count : ℕ) (family : Clusters) : Type 0 where
  pub made : AllMade [] done
  pub sketch_is : sketch ≡ sketch_of (edits_of done)
  pub elem_is : next_elem ≡ next_element (edits_of done)
  pub con_is : next_con ≡ next_constraint (edits_of done)
  pub few_elem : next_elem ≤ count + 1
  pub few_con : next_con ≤ count + 1
  pub few : count ≤ 1000000
  pub sound : IsSoundSketch sketch
  pub family_sound : IsSound family
  pub reached : IsReachedIn sketch family
  pub room : family.next_step + length family.live ≤ 4000 * count + 1
