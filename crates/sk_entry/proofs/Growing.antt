-- A sound sketch with one more sound element or constraint is sound.
use Rattle.std.proofs.Common.{◌≡◌, ◌≢◌, ℕ, ◌<◌, Bool, false, ◌&&◌, nat_eq, List, [], ◌∷◌, length, Option, Some, None, refl, sym, ap, ◌∙◌, arith, bytes_eq, IsTrue}
use Rattle.std.specs.Prelude.{All, Contains}
use Rattle.std.specs.List.{find}
use Rattle.std.specs.Option.{option_map, option_or}
use Rattle.std.specs.Ordering.{int_eq}
use Rattle.std.proofs.lemmas.Bool.{and_from}
use Rattle.std.proofs.lemmas.Bool.Decides.{Decides-int_eq}
use Rattle.std.proofs.lemmas.List.{length_push}
use Rattle.std.proofs.lemmas.List.Folds.{find-append}
use Rattle.std.proofs.lemmas.List.Elements.{All-nil, All-push, All-weaker, All-contains}
use Rattle.sk_base.specs.declared.Elem.{Elem}
use Rattle.sk_base.specs.declared.Element.{Element}
use Rattle.sk_base.specs.declared.Constraint.{Constraint}
use Rattle.sk_base.specs.declared.Shape.{Shape}
use Rattle.sk_base.specs.declared.Um.{Um}
use Rattle.sk_base.specs.declared.Rule.{Rule}
use Rattle.sk_base.specs.declared.Rule.TheVariants.{Distance, On, Tangent, Outside, Inside, Angle, Block}
use Rattle.sk_base.specs.declared.Sketch.{Sketch}
use Rattle.sk_base.specs.Labels.{is_name}
use Rattle.sk_base.specs.Drawn.{element_of, shape_of}
use Rattle.sk_base.specs.SoundSketch.{IsSoundSketch, IsSoundShape, IsSoundRule, BothFit, MayJoin, MayBeApart, MayLieOn, MayBeTangent, AreCircles, AreLines, MayNest}
use Rattle.sk_base.proofs.Pairs.{pairs_none, pairs_push}
use Rattle.sk_entry.specs.Growth.{empty_sketch, with_element, with_constraint}
use Rattle.sk_entry.specs.Named.{element_named, number_named}
use Rattle.sk_base.proofs.Finding.{found_in, none_found, found_rising}
use Rattle.sk_entry.proofs.BlockLines.{block_still, block_also}
use Rattle.sk_lines.proofs.Finding.{same_bytes, equal_bytes}

pub empty_sound : IsSoundSketch empty_sketch
empty_sound = record {
  elements_rise = pairs_none (λ (x y : Element). x.number.0 < y.number.0);
  constraints_rise = pairs_none (λ (x y : Constraint). x.number.0 < y.number.0);
  labels_are_names = All-nil (λ (x : Element). IsTrue (is_name x.label));
  labels_differ = pairs_none (λ (x y : Element). x.label ≢ y.label);
  few_elements = omega arith;
  few_constraints = omega arith;
  shapes_sound = All-nil (λ (x : Element). IsSoundShape x.shape);
  rules_sound = All-nil (λ (x : Constraint). IsSoundRule empty_sketch x.rule);
}

-- what is drawn stays drawn
drawn_still : (s : Sketch) (e : Element) (u : Elem) (shape : Shape) → shape_of s u ≡ Some shape → shape_of (with_element s e) u ≡ Some shape
drawn_still s e u shape is = ap (option_map (λ (x : Element). x.shape)) (find-append with_number s.elements (e ∷ [])) ∙ by (element_of s u) is
  where
    with_number : Element → Bool
    with_number x = nat_eq x.number.0 u.0

    by : (o : Option Element) → option_map (λ (x : Element). x.shape) o ≡ Some shape → option_map (λ (x : Element). x.shape) (option_or o (find with_number (e ∷ []))) ≡ Some shape
    by None same = cc
    by (Some x) same = same

both_still : (fits : Shape → Shape → Type 0) (a b c d : Option Shape) → ((x : Shape) → a ≡ Some x → c ≡ Some x) → ((x : Shape) → b ≡ Some x → d ≡ Some x) → BothFit fits a b → BothFit fits c d
both_still fits None b c d left right fit = absurd fit
both_still fits (Some u) None c d left right fit = absurd fit
both_still fits (Some u) (Some v) c d left right fit = rw (left u refl, right v refl) fit

joins_still : (s : Sketch) (e : Element) (fits : Shape → Shape → Type 0) (u v : Elem) → MayJoin s fits u v → MayJoin (with_element s e) fits u v
joins_still s e fits u v joins =
    (joins.0, both_still fits (shape_of s u) (shape_of s v) (shape_of (with_element s e) u) (shape_of (with_element s e) v) (drawn_still s e u) (drawn_still s e v) joins.1)

rule_still : (s : Sketch) (e : Element) (rule : Rule) → IsSoundRule s rule → IsSoundRule (with_element s e) rule
rule_still s e (Distance u v len) sound = (joins_still s e MayBeApart u v sound.0, sound.1)
rule_still s e (On u v) sound = joins_still s e MayLieOn u v sound
rule_still s e (Tangent u v) sound = joins_still s e MayBeTangent u v sound
rule_still s e (Outside u v) sound = joins_still s e AreCircles u v sound
rule_still s e (Inside u v) sound = joins_still s e MayNest u v sound
rule_still s e (Angle l m ratio) sound = (joins_still s e AreLines l m sound.0, sound.1)
rule_still s e (Block pins) sound = block_still s e pins sound

-- a new element
pub record IsNewElement (s : Sketch) (e : Element) : Type 0 where
  pub above : All (λ (x : Element). x.number.0 < e.number.0) s.elements
  pub name : IsTrue (is_name e.label)
  pub free : element_named s e.label ≡ None
  pub room : length s.elements < 2000
  pub shape : IsSoundShape e.shape

other_label : (s : Sketch) (e x : Element) → element_named s e.label ≡ None → Contains s.elements x → x.label ≢ e.label
other_label s e x free among same =
    let fails = none_found (λ (y : Element). bytes_eq e.label y.label) s.elements free x among in
    let equal = equal_bytes e.label x.label (sym same) in cc

pub with_element_sound : (s : Sketch) (e : Element) → IsSoundSketch s → IsNewElement s e → IsSoundSketch (with_element s e)
with_element_sound s e sound new =
    let one_more = length_push s.elements e in
    record {
      elements_rise = pairs_push (λ (x y : Element). x.number.0 < y.number.0) s.elements e sound.elements_rise (λ x among. All-contains (λ (y : Element). y.number.0 < e.number.0) s.elements x new.above among);
      constraints_rise = sound.constraints_rise;
      labels_are_names = All-push (λ (x : Element). IsTrue (is_name x.label)) s.elements e sound.labels_are_names new.name;
      labels_differ = pairs_push (λ (x y : Element). x.label ≢ y.label) s.elements e sound.labels_differ (λ x among. other_label s e x new.free among);
      few_elements = let room = new.room in omega arith;
      few_constraints = sound.few_constraints;
      shapes_sound = All-push (λ (x : Element). IsSoundShape x.shape) s.elements e sound.shapes_sound new.shape;
      rules_sound = All-weaker (λ (x : Constraint). IsSoundRule s x.rule) (λ (x : Constraint). IsSoundRule (with_element s e) x.rule) (λ x. rule_still s e x.rule) s.constraints sound.rules_sound;
    }

rule_also : (s : Sketch) (c : Constraint) (rule : Rule) → IsSoundRule s rule → IsSoundRule (with_constraint s c) rule
rule_also s c (Distance u v len) sound = sound
rule_also s c (On u v) sound = sound
rule_also s c (Tangent u v) sound = sound
rule_also s c (Outside u v) sound = sound
rule_also s c (Inside u v) sound = sound
rule_also s c (Angle l m ratio) sound = sound
rule_also s c (Block pins) sound = block_also s c pins sound

-- a new constraint
pub record IsNewConstraint (s : Sketch) (c : Constraint) : Type 0 where
  pub above : All (λ (x : Constraint). x.number.0 < c.number.0) s.constraints
  pub room : length s.constraints < 4000
  pub rule : IsSoundRule s c.rule

pub with_constraint_sound : (s : Sketch) (c : Constraint) → IsSoundSketch s → IsNewConstraint s c → IsSoundSketch (with_constraint s c)
with_constraint_sound s c sound new =
    let one_more = length_push s.constraints c in
    let also : (x : Constraint) → IsSoundRule s x.rule → IsSoundRule (with_constraint s c) x.rule = λ x. rule_also s c x.rule in
    record {
      elements_rise = sound.elements_rise;
      constraints_rise = pairs_push (λ (x y : Constraint). x.number.0 < y.number.0) s.constraints c sound.constraints_rise (λ x among. All-contains (λ (y : Constraint). y.number.0 < c.number.0) s.constraints x new.above among);
      labels_are_names = sound.labels_are_names;
      labels_differ = sound.labels_differ;
      few_elements = sound.few_elements;
      few_constraints = let room = new.room in omega arith;
      shapes_sound = sound.shapes_sound;
      rules_sound = All-push (λ (x : Constraint). IsSoundRule (with_constraint s c) x.rule) s.constraints c (All-weaker (λ (x : Constraint). IsSoundRule s x.rule) (λ (x : Constraint). IsSoundRule (with_constraint s c) x.rule) also s.constraints sound.rules_sound) (also c new.rule);
    }

-- the element that has a name is the one of its number
pub drawn_named : (s : Sketch) (name : List ℕ) (e : Element) → IsSoundSketch s → element_named s name ≡ Some e → element_of s e.number ≡ Some e
drawn_named s name e sound is =
    found_rising (λ (x : Element). x.number.0) s.elements sound.elements_rise e (found_in (λ (x : Element). bytes_eq name x.label) s.elements e is).0

-- places are two where a coordinate differs
pub differ : (x1 y1 x2 y2 : Um) → (int_eq x1.0 x2.0 && int_eq y1.0 y2.0) ≡ false → ¬ ((x1 ≡ x2) × (y1 ≡ y2))
differ x1 y1 x2 y2 flat same =
    let x = (Decides-int_eq x1.0 x2.0).1 (ap (λ (u : Um). u.0) same.0) in
    let y = (Decides-int_eq y1.0 y2.0).1 (ap (λ (u : Um). u.0) same.1) in
    let both = and_from (int_eq x1.0 x2.0) (int_eq y1.0 y2.0) x y in absurd (cc)

-- elements of different names have different numbers
pub numbers_apart : (s : Sketch) (u v : List ℕ) (e f : Element) → IsSoundSketch s → element_named s u ≡ Some e → element_named s v ≡ Some f → bytes_eq u v ≡ false → e.number ≢ f.number
numbers_apart s u v e f sound u_is v_is other same =
    let e_of = drawn_named s u e sound u_is in
    let f_of = drawn_named s v f sound v_is in
    let u_name = same_bytes u e.label (found_in (λ (x : Element). bytes_eq u x.label) s.elements e u_is).1 in
    let v_name = same_bytes v f.label (found_in (λ (x : Element). bytes_eq v x.label) s.elements f v_is).1 in
    let one : Some e ≡ Some f = sym e_of ∙ ap (element_of s) same ∙ f_of in
    let element : e ≡ f = cc in
    let equal = equal_bytes u v (u_name ∙ ap (λ (x : Element). x.label) element ∙ sym v_name) in cc

-- two elements of different names may be joined where their shapes fit
pub may_join : (s : Sketch) (fits : Shape → Shape → Type 0) (u v : List ℕ) (e f : Element) → IsSoundSketch s → element_named s u ≡ Some e → element_named s v ≡ Some f → bytes_eq u v ≡ false → fits e.shape f.shape → MayJoin s fits (number_named s u) (number_named s v)
may_join s fits u v e f sound u_is v_is other fit =
    let e_of = drawn_named s u e sound u_is in
    let f_of = drawn_named s v f sound v_is in
    rw (u_is, v_is) (numbers_apart s u v e f sound u_is v_is other, rw (e_of, f_of) fit)
