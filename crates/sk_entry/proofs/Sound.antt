-- A text that is read is read as a sound sketch.
use Rattle.std.proofs.Common.{◌≡◌, ◌≢◌, ℕ, ◌<◌, Bool, true, false, not, ◌||◌, nat_le, List, [], ◌∷◌, length, map, Option, Some, None, is_none, refl, subst, arith, IsTrue}
use Rattle.std.specs.Prelude.{All}
use Rattle.std.specs.Ordering.{int_eq}
use Rattle.std.proofs.lemmas.Bool.Decides.{nat_tests, Decides-int_eq}
use Rattle.sk_base.specs.declared.Elem.{Elem}
use Rattle.sk_base.specs.declared.ConId.{ConId}
use Rattle.sk_base.specs.declared.Element.{Element}
use Rattle.sk_base.specs.declared.Constraint.{Constraint}
use Rattle.sk_base.specs.declared.Shape.{Shape}
use Rattle.sk_base.specs.declared.Shape.TheVariants as shape
use Rattle.sk_base.specs.declared.Rule.{Rule}
use Rattle.sk_base.specs.declared.Rule.TheVariants as rule
use Rattle.sk_base.specs.declared.Sketch.{Sketch}
use Rattle.sk_base.specs.Labels.{is_name}
use Rattle.sk_base.specs.SoundSketch.{IsSoundSketch, IsSoundShape, IsSoundRule, MayBeApart, MayLieOn, MayBeTangent, AreCircles, AreLines, MayNest}
use Rattle.sk_lines.specs.declared.Version.{Version}
use Rattle.sk_lines.specs.declared.Keyword.{Keyword}
use Rattle.sk_lines.specs.declared.Keyword.TheVariants.{Point, Line, Circle, Distance, On, Tangent, Outside, Inside, Angle, Block}
use Rattle.sk_entry.specs.declared.entry.Entry.{Entry}
use Rattle.sk_entry.specs.declared.entry.Entry.TheVariants as entry
use Rattle.sk_entry.specs.Kinds.{takes}
use Rattle.sk_entry.specs.Named.{element_named, number_named}
use Rattle.sk_lines.specs.Quantities.{um, ratio}
use Rattle.sk_entry.specs.Conditions.{kinds_fit, radii_equal}
use Rattle.sk_base.specs.Drawn.{radius_of}
use Rattle.sk_entry.specs.Meaning.{entry_made, pin_asked, added}
use Rattle.sk_entry.specs.PinLines.{pins_in}
use Rattle.sk_entry.specs.Entry.{entry_code, IsEntryOf}
use Rattle.sk_entry.proofs.BlockSound.{block_sound}
use Rattle.sk_lines.proofs.LineWords.{BeginsLine}
use Rattle.sk_entry.proofs.Passing.{Passes}
use Rattle.sk_entry.proofs.Declaring.{first_of_two, free_from, declares_by}
use Rattle.sk_lines.proofs.Amounts.{coordinate_within, length_from_to, ratio_sound}
use Rattle.sk_entry.proofs.Fitting.{may_be_apart, may_lie_on, may_be_tangent, are_circles, are_lines, may_nest}
use Rattle.sk_entry.proofs.Growing.{with_element_sound, with_constraint_sound, may_join, differ}

-- numbers that are above those of the sketch
pub record AreAbove (s : Sketch) (elem : Elem) (con : ConId) : Type 0 where
  pub elements : All (λ (x : Element). x.number.0 < elem.0) s.elements
  pub constraints : All (λ (x : Constraint). x.number.0 < con.0) s.constraints

name_from : (t : Bool) → not t ≡ false → IsTrue t
name_from true is = refl
name_from false is = cc

-- with what a line without a code declares
abbrev pub Grows : Sketch → Entry → Type 0
Grows s said = IsSoundSketch (added s (Some said))

said_is : (s : Sketch) (told said : Entry) → Some told ≡ Some said → Grows s told → Grows s said
said_is s told said is grown = let same : told ≡ said = cc in subst (Grows s) same grown

with_shape : (s : Sketch) (k : Keyword) (name : List ℕ) (rest : List (List ℕ)) (elem : Elem) (shape : Shape) → IsSoundSketch s → All (λ (x : Element). x.number.0 < elem.0) s.elements
    → not (is_name name) ≡ false → element_named s name ≡ None → nat_le 2000 (length s.elements) ≡ false → IsSoundShape shape
    → Grows s (entry.Element (record { number = elem; label = name; shape = shape }))
with_shape s k name rest elem shape sound above name_is free room shape_is =
    let e : Element = record { number = elem; label = name; shape = shape } in
    with_element_sound s e sound (record { above = above; name = name_from (is_name name) name_is; free = free; room = grind (arith, nat_tests); shape = shape_is })

pub grow_point : (s : Sketch) (rest : List (List ℕ)) (elem : Elem) (con : ConId) (said : Entry) → IsSoundSketch s → AreAbove s elem con → Passes s Point rest → entry_made s Point rest elem con ≡ Some said → Grows s said
grow_point s (name ∷ x ∷ y ∷ []) elem con said sound above p made =
    said_is s _ said made (with_shape s Point name (x ∷ y ∷ []) elem (shape.Point (um x) (um y)) sound above.elements (first_of_two _ _ p.names).0 (free_from s name name (first_of_two _ _ p.free).0 refl) p.elements (coordinate_within x, coordinate_within y))
grow_point s _ elem con said sound above p made = cc

pub grow_line : (s : Sketch) (rest : List (List ℕ)) (elem : Elem) (con : ConId) (said : Entry) → IsSoundSketch s → AreAbove s elem con → Passes s Line rest → entry_made s Line rest elem con ≡ Some said → Grows s said
grow_line s (name ∷ x1 ∷ y1 ∷ x2 ∷ y2 ∷ []) elem con said sound above p made =
    said_is s _ said made (with_shape s Line name (x1 ∷ y1 ∷ x2 ∷ y2 ∷ []) elem (shape.Line (um x1) (um y1) (um x2) (um y2)) sound above.elements (first_of_two _ _ p.names).0 (free_from s name name (first_of_two _ _ p.free).0 refl) p.elements
    (coordinate_within x1, coordinate_within y1, coordinate_within x2, coordinate_within y2, differ (um x1) (um y1) (um x2) (um y2) p.flat))
grow_line s _ elem con said sound above p made = cc

pub grow_circle : (s : Sketch) (rest : List (List ℕ)) (elem : Elem) (con : ConId) (said : Entry) → IsSoundSketch s → AreAbove s elem con → Passes s Circle rest → entry_made s Circle rest elem con ≡ Some said → Grows s said
grow_circle s (name ∷ x ∷ y ∷ r ∷ []) elem con said sound above p made =
    let bad = (first_of_two _ _ (first_of_two _ _ (first_of_two _ _ p.numbers).1).1).0 in
    let zero = (first_of_two _ _ (first_of_two _ _ p.zeros).0).0 in
    said_is s _ said made (with_shape s Circle name (x ∷ y ∷ r ∷ []) elem (shape.Circle (um x) (um y) (um r)) sound above.elements (first_of_two _ _ p.names).0 (free_from s name name (first_of_two _ _ p.free).0 refl) p.elements
    (coordinate_within x, coordinate_within y, length_from_to r bad zero))
grow_circle s _ elem con said sound above p made = cc

-- two names that are known, of elements whose kinds are taken
record AreTaken (s : Sketch) (k : Keyword) (u v : List ℕ) : Type 0 where
  first : Element
  second : Element
  first_is : element_named s u ≡ Some first
  second_is : element_named s v ≡ Some second
  taken : takes k first.shape second.shape ≡ true

true_from : (t : Bool) → not t ≡ false → t ≡ true
true_from true is = refl
true_from false is = cc

taken_by : (s : Sketch) (k : Keyword) (u v : List ℕ) (e f : Option Element) → element_named s u ≡ e → element_named s v ≡ f → is_none e ≡ false → is_none f ≡ false → not (kinds_fit k e f) ≡ false → AreTaken s k u v
taken_by s k u v None f u_is v_is known_u known_v fit = cc
taken_by s k u v (Some e) None u_is v_is known_u known_v fit = cc
taken_by s k u v (Some e) (Some f) u_is v_is known_u known_v fit = record { first = e; second = f; first_is = u_is; second_is = v_is; taken = true_from (takes k e.shape f.shape) fit }

are_taken : (s : Sketch) (k : Keyword) (u v : List ℕ) (more : Bool) → (is_none (element_named s u) || (is_none (element_named s v) || more)) ≡ false → not (kinds_fit k (element_named s u) (element_named s v)) ≡ false → AreTaken s k u v
are_taken s k u v more known fit =
    let first = first_of_two _ _ known in
    let second = first_of_two _ _ first.1 in
    taken_by s k u v (element_named s u) (element_named s v) refl refl first.0 second.0 fit

with_rule : (s : Sketch) (con : ConId) (rule : Rule) → IsSoundSketch s → All (λ (x : Constraint). x.number.0 < con.0) s.constraints → nat_le 4000 (length s.constraints) ≡ false → IsSoundRule s rule
    → Grows s (entry.Constraint (record { number = con; rule = rule }))
with_rule s con rule sound above room rule_is =
    let c : Constraint = record { number = con; rule = rule } in
    with_constraint_sound s c sound (record { above = above; room = grind (arith, nat_tests); rule = rule_is })

pub grow_distance : (s : Sketch) (rest : List (List ℕ)) (elem : Elem) (con : ConId) (said : Entry) → IsSoundSketch s → AreAbove s elem con → Passes s Distance rest → entry_made s Distance rest elem con ≡ Some said → Grows s said
grow_distance s (u ∷ v ∷ len ∷ []) elem con said sound above p made =
    let t = are_taken s Distance u v _ p.known p.kinds in
    let fit = may_be_apart t.first.shape t.second.shape t.taken in
    let bad = (first_of_two _ _ p.numbers).0 in
    let zero = (first_of_two _ _ (first_of_two _ _ p.zeros).0).0 in
    said_is s _ said made (with_rule s con (rule.Distance (number_named s u) (number_named s v) (um len)) sound above.constraints p.constraints (may_join s MayBeApart u v t.first t.second sound t.first_is t.second_is p.same fit, length_from_to len bad zero))
grow_distance s _ elem con said sound above p made = cc

pub grow_on : (s : Sketch) (rest : List (List ℕ)) (elem : Elem) (con : ConId) (said : Entry) → IsSoundSketch s → AreAbove s elem con → Passes s On rest → entry_made s On rest elem con ≡ Some said → Grows s said
grow_on s (u ∷ v ∷ []) elem con said sound above p made =
    let t = are_taken s On u v _ p.known p.kinds in
    let fit = may_lie_on t.first.shape t.second.shape t.taken in
    said_is s _ said made (with_rule s con (rule.On (number_named s u) (number_named s v)) sound above.constraints p.constraints (may_join s MayLieOn u v t.first t.second sound t.first_is t.second_is p.same fit))
grow_on s _ elem con said sound above p made = cc

pub grow_tangent : (s : Sketch) (rest : List (List ℕ)) (elem : Elem) (con : ConId) (said : Entry) → IsSoundSketch s → AreAbove s elem con → Passes s Tangent rest → entry_made s Tangent rest elem con ≡ Some said → Grows s said
grow_tangent s (u ∷ v ∷ []) elem con said sound above p made =
    let t = are_taken s Tangent u v _ p.known p.kinds in
    let fit = may_be_tangent t.first.shape t.second.shape t.taken in
    said_is s _ said made (with_rule s con (rule.Tangent (number_named s u) (number_named s v)) sound above.constraints p.constraints (may_join s MayBeTangent u v t.first t.second sound t.first_is t.second_is p.same fit))
grow_tangent s _ elem con said sound above p made = cc

pub grow_outside : (s : Sketch) (rest : List (List ℕ)) (elem : Elem) (con : ConId) (said : Entry) → IsSoundSketch s → AreAbove s elem con → Passes s Outside rest → entry_made s Outside rest elem con ≡ Some said → Grows s said
grow_outside s (u ∷ v ∷ []) elem con said sound above p made =
    let t = are_taken s Outside u v _ p.known p.kinds in
    let fit = are_circles t.first.shape t.second.shape t.taken in
    said_is s _ said made (with_rule s con (rule.Outside (number_named s u) (number_named s v)) sound above.constraints p.constraints (may_join s AreCircles u v t.first t.second sound t.first_is t.second_is p.same fit))
grow_outside s _ elem con said sound above p made = cc

other_radii : (u v : Option Element) (e f : Element) → u ≡ Some e → v ≡ Some f → radii_equal u v ≡ false → radius_of e.shape ≢ radius_of f.shape
other_radii u v e f u_is v_is apart same =
    let equal = (Decides-int_eq (radius_of e.shape) (radius_of f.shape)).1 same in
    let known : int_eq (radius_of e.shape) (radius_of f.shape) ≡ false = rw (u_is, v_is) at apart in cc

pub grow_inside : (s : Sketch) (rest : List (List ℕ)) (elem : Elem) (con : ConId) (said : Entry) → IsSoundSketch s → AreAbove s elem con → Passes s Inside rest → entry_made s Inside rest elem con ≡ Some said → Grows s said
grow_inside s (u ∷ v ∷ []) elem con said sound above p made =
    let t = are_taken s Inside u v _ p.known p.kinds in
    let fit = may_nest t.first.shape t.second.shape t.taken (other_radii (element_named s u) (element_named s v) t.first t.second t.first_is t.second_is p.zeros) in
    said_is s _ said made (with_rule s con (rule.Inside (number_named s u) (number_named s v)) sound above.constraints p.constraints (may_join s MayNest u v t.first t.second sound t.first_is t.second_is p.same fit))
grow_inside s _ elem con said sound above p made = cc

pub grow_angle : (s : Sketch) (rest : List (List ℕ)) (elem : Elem) (con : ConId) (said : Entry) → IsSoundSketch s → AreAbove s elem con → Passes s Angle rest → entry_made s Angle rest elem con ≡ Some said → Grows s said
grow_angle s (l ∷ m ∷ word ∷ []) elem con said sound above p made =
    let t = are_taken s Angle l m _ p.known p.kinds in
    let fit = are_lines t.first.shape t.second.shape t.taken in
    let bad = (first_of_two _ _ p.numbers).0 in
    let zero = (first_of_two _ _ (first_of_two _ _ p.zeros).0).0 in
    said_is s _ said made (with_rule s con (rule.Angle (number_named s l) (number_named s m) (ratio word)) sound above.constraints p.constraints (may_join s AreLines l m t.first t.second sound t.first_is t.second_is p.same fit, ratio_sound word bad zero))
grow_angle s _ elem con said sound above p made = cc

grow_block : (v : Version) (s : Sketch) (rest : List (List ℕ)) (elem : Elem) (con : ConId) (said : Entry) → IsSoundSketch s → AreAbove s elem con → BeginsLine v Block rest → Passes s Block rest → entry_made s Block rest elem con ≡ Some said → Grows s said
grow_block v s [] elem con said sound above begins p made = cc
grow_block v s (first ∷ rest) elem con said sound above begins p made =
    let pins = map (pin_asked s) (pins_in (first ∷ rest)) in
    said_is s _ said made (with_rule s con (rule.Block pins) sound above.constraints p.constraints (block_sound v s (first ∷ rest) sound begins p))

-- a sound sketch stays sound with what a line without a code declares
pub grows : (v : Version) (s : Sketch) (k : Keyword) (rest : List (List ℕ)) (elem : Elem) (con : ConId) (said : Entry) → IsSoundSketch s → AreAbove s elem con → BeginsLine v k rest → Passes s k rest → entry_made s k rest elem con ≡ Some said → Grows s said
grows v s Point rest elem con said sound above begins = grow_point s rest elem con said sound above
grows v s Line rest elem con said sound above begins = grow_line s rest elem con said sound above
grows v s Circle rest elem con said sound above begins = grow_circle s rest elem con said sound above
grows v s Distance rest elem con said sound above begins = grow_distance s rest elem con said sound above
grows v s On rest elem con said sound above begins = grow_on s rest elem con said sound above
grows v s Tangent rest elem con said sound above begins = grow_tangent s rest elem con said sound above
grows v s Outside rest elem con said sound above begins = grow_outside s rest elem con said sound above
grows v s Inside rest elem con said sound above begins = grow_inside s rest elem con said sound above
grows v s Angle rest elem con said sound above begins = grow_angle s rest elem con said sound above
grows v s Block rest elem con said sound above begins = grow_block v s rest elem con said sound above begins

-- a sound sketch stays sound with what a line says
pub says_sound : (v : Version) (s : Sketch) (line : List ℕ) (elem : Elem) (con : ConId) (said : Entry) → IsSoundSketch s → AreAbove s elem con → entry_code v s line ≡ None → IsEntryOf v s line elem con said → Grows s said
says_sound v s line elem con (entry.Element e) sound above clean is =
    let d = declares_by v s line elem con (entry.Element e) clean is refl in grows v s d.keyword d.rest elem con (entry.Element e) sound above d.begins d.passes d.made
says_sound v s line elem con (entry.Constraint c) sound above clean is =
    let d = declares_by v s line elem con (entry.Constraint c) clean is refl in grows v s d.keyword d.rest elem con (entry.Constraint c) sound above d.begins d.passes d.made
says_sound v s line elem con entry.Blank sound above clean is = sound
says_sound v s line elem con (entry.Other words) sound above clean is = sound
