-- Lines without a code say edits that can be made.
use Rattle.std.proofs.Common.{◌≡◌, ℕ, ◌==◌, false, cond, List, [], ◌∷◌, Option, Some, None, Ok, Err, is_none, refl, ap, sym, subst, ◌∙◌, arith}
use Rattle.std.specs.Prelude.{Contains, not, unwrap_or, bytes_eq}
use Rattle.std.specs.List.{list_any}
use Rattle.std.specs.Option.{option_map}
use Rattle.std.proofs.lemmas.List.Elements.{All-contains, Contains-push}
use Rattle.std.proofs.lemmas.Bool.Decides.{nat_tests}
use Rattle.sk_base.specs.declared.Elem.{Elem}
use Rattle.sk_base.specs.declared.ConId.{ConId}
use Rattle.sk_base.specs.declared.Element.{Element}
use Rattle.sk_base.specs.declared.Constraint.{Constraint}
use Rattle.sk_base.specs.declared.Rule.{Rule}
use Rattle.sk_base.specs.declared.Rule.TheVariants as rule
use Rattle.sk_base.specs.declared.Sketch.{Sketch}
use Rattle.sk_base.specs.Labels.{is_name}
use Rattle.sk_base.specs.Numbering.{con_exact, is_elem}
use Rattle.sk_base.specs.SoundSketch.{IsSoundSketch, IsSoundRule, IsLength, IsSoundRatio}
use Rattle.sk_base.proofs.Filters.{none_passes}
use Rattle.sk_base.proofs.Finding.{found_in}
use Rattle.sk_lines.specs.declared.Code.{Code}
use Rattle.sk_lines.specs.declared.Code.TheVariants.{E4, E6, E8, E9, S1, S2}
use Rattle.sk_lines.specs.Quantities.{is_zero, length_of, ratio_of, um, ratio}
use Rattle.sk_lines.specs.FirstCode.{first_code}
use Rattle.sk_entry.specs.Named.{element_named, number_named}
use Rattle.sk_entry.specs.NumberedConstraint.{constraint_of}
use Rattle.sk_base.proofs.Tables.{passed}
use Rattle.sk_base.proofs.Numbers.{found_elem}
use Rattle.sk_graph.specs.Naming.{named_by}
use Rattle.sk_edits.specs.declared.command.Change.{Change}
use Rattle.sk_edits.specs.declared.command.Change.TheVariants.{Drop, Set, Erase}
use Rattle.sk_edits.specs.declared.edit.Edit.{Edit}
use Rattle.sk_edits.specs.declared.edit.Edit.TheVariants as edit
use Rattle.sk_edits.specs.Commands.{number_of, id_of, rule_with, is_used, value_rows, setting, change_rows, edit_made, from_made}
use Rattle.sk_edits.specs.Edits.{applied, sketch_of, next_element, next_constraint}
use Rattle.sk_edits.specs.Making.{CanMake, HasConstraint, HasElement, HasSoundValue}
use Rattle.sk_graph.proofs.Drawing.{rule_alike}
use Rattle.sk_edits.proofs.Drawing.{drop_sound, length_set_sound, ratio_set_sound, erase_sound}
use Rattle.sk_edits.proofs.Numbers.{elements_below, constraints_below}

pub can_declare : (edits : List Edit) (e : Element) → e.number.0 ≡ next_element edits → IsSoundSketch (sketch_of edits) → IsSoundSketch (applied (edit.Element e) (sketch_of edits)) → CanMake (edit.Element e) (sketch_of edits)
can_declare edits e is was_sound sound = record {
  possible = λ x x_in. (let below = elements_below edits x x_in in omega arith);
  sound = was_sound;
  stays_sound = sound;
}

pub can_constrain : (edits : List Edit) (c : Constraint) → c.number.0 ≡ next_constraint edits → IsSoundSketch (sketch_of edits) → IsSoundSketch (applied (edit.Constraint c) (sketch_of edits)) → CanMake (edit.Constraint c) (sketch_of edits)
can_constrain edits c is was_sound sound =
    let s = sketch_of edits in
    let t = applied (edit.Constraint c) s in
    record {
      possible = (
        rule_alike t s c.rule (λ u named. refl) (All-contains (λ (x : Constraint). IsSoundRule t x.rule) t.constraints c sound.rules_sound (Contains-push s.constraints c)),
        λ x x_in. (let below = constraints_below edits x x_in in omega arith),
      );
      sound = was_sound;
      stays_sound = sound;
    }

some_of : {X : Type 0} (o : Option X) → is_none o ≡ false → (x : X) × (o ≡ Some x)
some_of None is = absurd (cc)
some_of (Some x) is = (x, refl)

has_numbered : (s : Sketch) (k : ConId) (c : Constraint) → constraint_of s k ≡ Some c → HasConstraint s k
has_numbered s k c is =
    let found = found_in (λ (x : Constraint). x.number.0 == k.0) s.constraints c is in
    let passes = found.1 in
    let level : c.number.0 ≡ k.0 = grind (arith, nat_tests) in
    (c, found.0, con_exact c.number k level)

-- where no constraint passes the test, none names the element
unused : (x : Elem) (cs : List Constraint) → list_any (λ (c : Constraint). is_elem (named_by c.rule) x) cs ≡ false → (c : Constraint) → Contains cs c → ¬ Contains (named_by c.rule) x
unused x cs none c c_in named =
    let fails = none_passes (λ (y : Constraint). is_elem (named_by y.rule) x) cs none c c_in in
    let found = found_elem (named_by c.rule) x named in absurd (cc)

has_named : (s : Sketch) (name : List ℕ) (e : Element) → element_named s name ≡ Some e → HasElement s (number_named s name)
has_named s name e is =
    let found = found_in (λ (x : Element). bytes_eq name x.label) s.elements e is in
    let number : number_named s name ≡ e.number = ap (λ (o : Option Element). unwrap_or (option_map (λ (x : Element). x.number) o) (record { 0 = 0 })) is in
    (e, found.0, sym number)

-- what a new value without a code sets can be set, where the value is sound
can_set : (s : Sketch) → IsSoundSketch s → (k : ConId) → HasConstraint s k → (r : Option Rule) (value : List ℕ) → first_code (value_rows r value) ≡ None
    → (e : Edit) × (setting r k value ≡ Some e) × (HasSoundValue e → CanMake e s)
can_set s sound k has (Some (rule.Distance u v old)) value clean =
    (edit.Length k (um value), refl, λ fine. record { possible = (fine, has); sound = sound; stays_sound = length_set_sound s k (um value) fine sound })
can_set s sound k has (Some (rule.Angle l m old)) value clean =
    (edit.Turned k (ratio value), refl, λ fine. record { possible = (fine, has); sound = sound; stays_sound = ratio_set_sound s k (ratio value) fine sound })
can_set s sound k has (Some (rule.On u v)) value clean = absurd (cc)
can_set s sound k has (Some (rule.Tangent u v)) value clean = absurd (cc)
can_set s sound k has (Some (rule.Outside u v)) value clean = absurd (cc)
can_set s sound k has (Some (rule.Inside u v)) value clean = absurd (cc)
can_set s sound k has (Some (rule.Block pins)) value clean = absurd (cc)
can_set s sound k has None value clean = absurd (cc)

-- a change without a code says an edit that can be made, where its value is sound
pub can_change : (s : Sketch) → IsSoundSketch s → (change : Change) (rest : List (List ℕ)) → first_code (change_rows s change rest) ≡ None
    → (e : Edit) × (edit_made s change rest ≡ Some e) × (HasSoundValue e → CanMake e s)
can_change s sound Drop [] clean = absurd (cc)
can_change s sound Drop (number ∷ []) clean =
    let k = id_of number in
    let one = passed (is_none (number_of number)) E8 (cond (is_none (constraint_of s k)) (Some S1) None) clean in
    let two = passed (is_none (constraint_of s k)) S1 None one.1 in
    let found = some_of (constraint_of s k) two.0 in
    (edit.Dropped k, refl, λ fine. record { possible = has_numbered s k found.0 found.1; sound = sound; stays_sound = drop_sound s k sound })
can_change s sound Drop (number ∷ more ∷ rest) clean = absurd (cc)
can_change s sound Set [] clean = absurd (cc)
can_change s sound Set (number ∷ []) clean = absurd (cc)
can_change s sound Set (number ∷ value ∷ []) clean =
    let k = id_of number in
    let one = passed (is_none (number_of number)) E8 (cond (is_none (constraint_of s k)) (Some S1) (first_code (value_rows (rule_with s k) value))) clean in
    let two = passed (is_none (constraint_of s k)) S1 (first_code (value_rows (rule_with s k) value)) one.1 in
    let found = some_of (constraint_of s k) two.0 in
    can_set s sound k (has_numbered s k found.0 found.1) (rule_with s k) value two.1
can_change s sound Set (number ∷ value ∷ more ∷ rest) clean = absurd (cc)
can_change s sound Erase [] clean = absurd (cc)
can_change s sound Erase (name ∷ []) clean =
    let x = number_named s name in
    let one = passed (not (is_name name)) E4 (cond (is_none (element_named s name)) (Some E6) (cond (is_used s x) (Some S2) None)) clean in
    let two = passed (is_none (element_named s name)) E6 (cond (is_used s x) (Some S2) None) one.1 in
    let three = passed (is_used s x) S2 None two.1 in
    let found = some_of (element_named s name) two.0 in
    let free = unused x s.constraints three.0 in
    (edit.Erased x, refl, λ fine. record { possible = (has_named s name found.0 found.1, free); sound = sound; stays_sound = erase_sound s x free sound })
can_change s sound Erase (name ∷ more ∷ rest) clean = absurd (cc)

-- what a length and a ratio without a code stand for
pub record SoundQuantities : Type 0 where
  pub length : (word : List ℕ) → is_none (length_of word) ≡ false → is_zero (length_of word) ≡ false → IsLength (um word)
  pub ratio : (word : List ℕ) → is_none (ratio_of word) ≡ false → is_zero (option_map (λ parts. parts.0) (ratio_of word)) ≡ false → IsSoundRatio (ratio word)

module _ (quantities : SoundQuantities) where
  value_as : (e d : Edit) → Some d ≡ Some e → HasSoundValue d → HasSoundValue e
  value_as e d is fine = let same : d ≡ e = cc in subst HasSoundValue same fine

  value_set : (r : Option Rule) (k : ConId) (value : List ℕ) (e : Edit) → first_code (value_rows r value) ≡ None → setting r k value ≡ Some e → HasSoundValue e
  value_set (Some (rule.Distance u v old)) k value e clean is =
      let one = passed (is_none (length_of value)) E8 (cond (is_zero (length_of value)) (Some E9) None) clean in
      let two = passed (is_zero (length_of value)) E9 None one.1 in
      value_as e (edit.Length k (um value)) is (quantities.length value one.0 two.0)
  value_set (Some (rule.Angle l m old)) k value e clean is =
      let one = passed (is_none (ratio_of value)) E8 (cond (is_zero (option_map (λ parts. parts.0) (ratio_of value))) (Some E9) None) clean in
      let two = passed (is_zero (option_map (λ parts. parts.0) (ratio_of value))) E9 None one.1 in
      value_as e (edit.Turned k (ratio value)) is (quantities.ratio value one.0 two.0)
  value_set (Some (rule.On u v)) k value e clean is = absurd (cc)
  value_set (Some (rule.Tangent u v)) k value e clean is = absurd (cc)
  value_set (Some (rule.Outside u v)) k value e clean is = absurd (cc)
  value_set (Some (rule.Inside u v)) k value e clean is = absurd (cc)
  value_set (Some (rule.Block pins)) k value e clean is = absurd (cc)
  value_set None k value e clean is = absurd (cc)

  -- a change without a code has a sound value
  pub sound_value : (s : Sketch) (change : Change) (rest : List (List ℕ)) (e : Edit) → first_code (change_rows s change rest) ≡ None → edit_made s change rest ≡ Some e → HasSoundValue e
  sound_value s Drop (number ∷ []) e clean is = value_as e (edit.Dropped (id_of number)) is tt
  sound_value s Set (number ∷ value ∷ []) e clean is =
      let k = id_of number in
      let one = passed (is_none (number_of number)) E8 (cond (is_none (constraint_of s k)) (Some S1) (first_code (value_rows (rule_with s k) value))) clean in
      let two = passed (is_none (constraint_of s k)) S1 (first_code (value_rows (rule_with s k) value)) one.1 in
      value_set (rule_with s k) k value e two.1 is
  sound_value s Erase (name ∷ []) e clean is = value_as e (edit.Erased (number_named s name)) is tt
  sound_value s change rest e clean is = absurd (cc)

-- what was made came without a code
pub from_ok : (code : Option Code) (made : Option Edit) (e : Edit) → Ok e ≡ from_made code made → (code ≡ None) × (made ≡ Some e)
from_ok (Some code) made e is = absurd (cc)
from_ok None (Some d) e is = (refl, let same : e ≡ d = cc in ap Some (sym same))
from_ok None None e is = absurd (cc)

-- what wasn't made came with the code
pub from_err : (s : Sketch) → IsSoundSketch s → (change : Change) (rest : List (List ℕ)) (code : Code) → Err code ≡ from_made (first_code (change_rows s change rest)) (edit_made s change rest) → first_code (change_rows s change rest) ≡ Some code
from_err s sound change rest code is = told (first_code (change_rows s change rest)) refl is
  where
    told : (o : Option Code) → first_code (change_rows s change rest) ≡ o → Err code ≡ from_made o (edit_made s change rest) → first_code (change_rows s change rest) ≡ Some code
    told (Some d) here is = (let same : code ≡ d = cc in here ∙ ap Some (sym same))
    told None here is =
        let made = can_change s sound change rest here in
        let never : Err code ≡ Ok made.0 = is ∙ ap (λ m. from_made None m) made.1 in
        absurd (cc)
