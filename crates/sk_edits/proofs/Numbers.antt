-- No number is given again while the edit that gave it stands.
use Rattle.std.proofs.Common.{inl, inr, ℕ, ◌<◌, ◌≤◌, ◌==◌, List, [], ◌∷◌, subst, arith}
use Rattle.std.specs.Prelude.{Contains, map, fold, max, not}
use Rattle.std.proofs.lemmas.List.Elements.{Contains-push_cases}
use Rattle.sk_base.specs.declared.ConId.{ConId}
use Rattle.sk_base.specs.declared.Rule.{Rule}
use Rattle.sk_base.specs.declared.Element.{Element}
use Rattle.sk_base.specs.declared.Constraint.{Constraint}
use Rattle.sk_base.specs.declared.Sketch.{Sketch}
use Rattle.sk_base.proofs.Members.{contains_none, filtered_from, mapped_from}
use Rattle.sk_edits.specs.declared.edit.Edit.{Edit}
use Rattle.sk_edits.specs.declared.edit.Edit.TheVariants as edit
use Rattle.sk_entry.specs.Growth.{empty_sketch}
use Rattle.sk_edits.specs.Edits.{applied, changed, with_length, with_ratio, sketch_of, element_given, constraint_given, next_element, next_constraint}

-- no element, and no constraint, has a number above n
abbrev ElementsUpTo : ℕ → Sketch → Type 0
ElementsUpTo n s = (x : Element) → Contains s.elements x → x.number.0 ≤ n

abbrev ConstraintsUpTo : ℕ → Sketch → Type 0
ConstraintsUpTo n s = (x : Constraint) → Contains s.constraints x → x.number.0 ≤ n

element_up_to : (e : Edit) (s : Sketch) (n : ℕ) → ElementsUpTo n s → ElementsUpTo (max n (element_given e)) (applied e s)
element_up_to (edit.Element y) s n below x x_in =
    elim (Contains-push_cases s.elements y x x_in) [
      | inl old ↦ (let was = below x old in omega (arith, was))
      | inr is ↦ subst (λ (z : Element). z.number.0 ≤ max n y.number.0) is (omega arith)
    ]
element_up_to (edit.Constraint c) s n below x x_in = (let was = below x x_in in omega (arith, was))
element_up_to (edit.Dropped k) s n below x x_in = (let was = below x x_in in omega (arith, was))
element_up_to (edit.Length k len) s n below x x_in = (let was = below x x_in in omega (arith, was))
element_up_to (edit.Turned k ratio) s n below x x_in = (let was = below x x_in in omega (arith, was))
element_up_to (edit.Erased y) s n below x x_in = (let was = below x (filtered_from (λ (z : Element). not (z.number.0 == y.0)) s.elements x x_in).0 in omega (arith, was))

changed_up_to : (n m : ℕ) (k : ConId) (change : Rule → Rule) (cs : List Constraint) → n ≤ m → ((x : Constraint) → Contains cs x → x.number.0 ≤ n) → (x : Constraint) → Contains (map (changed k change) cs) x → x.number.0 ≤ m
changed_up_to n m k change cs le below x x_in =
    let was = mapped_from (changed k change) cs x x_in in
    subst (λ (z : Constraint). z.number.0 ≤ m) was.2 (let old = below was.0 was.1 in omega (arith, old))

constraint_up_to : (e : Edit) (s : Sketch) (n : ℕ) → ConstraintsUpTo n s → ConstraintsUpTo (max n (constraint_given e)) (applied e s)
constraint_up_to (edit.Element y) s n below x x_in = (let was = below x x_in in omega (arith, was))
constraint_up_to (edit.Constraint c) s n below x x_in =
    elim (Contains-push_cases s.constraints c x x_in) [
      | inl old ↦ (let was = below x old in omega (arith, was))
      | inr is ↦ subst (λ (z : Constraint). z.number.0 ≤ max n c.number.0) is (omega arith)
    ]
constraint_up_to (edit.Dropped k) s n below x x_in = (let was = below x (filtered_from (λ (z : Constraint). not (z.number.0 == k.0)) s.constraints x x_in).0 in omega (arith, was))
constraint_up_to (edit.Length k len) s n below x x_in = changed_up_to n (max n 0) k (with_length len) s.constraints (omega arith) below x x_in
constraint_up_to (edit.Turned k ratio) s n below x x_in = changed_up_to n (max n 0) k (with_ratio ratio) s.constraints (omega arith) below x x_in
constraint_up_to (edit.Erased y) s n below x x_in = (let was = below x x_in in omega (arith, was))

elements_up_to : (edits : List Edit) (s : Sketch) (n : ℕ) → ElementsUpTo n s → ElementsUpTo (fold (λ m e. max m (element_given e)) n edits) (fold (λ t e. applied e t) s edits)
elements_up_to [] s n below = below
elements_up_to (e ∷ edits) s n below = elements_up_to edits (applied e s) (max n (element_given e)) (element_up_to e s n below)

constraints_up_to : (edits : List Edit) (s : Sketch) (n : ℕ) → ConstraintsUpTo n s → ConstraintsUpTo (fold (λ m e. max m (constraint_given e)) n edits) (fold (λ t e. applied e t) s edits)
constraints_up_to [] s n below = below
constraints_up_to (e ∷ edits) s n below = constraints_up_to edits (applied e s) (max n (constraint_given e)) (constraint_up_to e s n below)

pub elements_below : (edits : List Edit) (x : Element) → Contains (sketch_of edits).elements x → x.number.0 < next_element edits
elements_below edits x x_in = (let most = elements_up_to edits empty_sketch 0 (λ y h. absurd (contains_none y h)) x x_in in omega (arith, most))

pub constraints_below : (edits : List Edit) (x : Constraint) → Contains (sketch_of edits).constraints x → x.number.0 < next_constraint edits
constraints_below edits x x_in = (let most = constraints_up_to edits empty_sketch 0 (λ y h. absurd (contains_none y h)) x x_in in omega (arith, most))
