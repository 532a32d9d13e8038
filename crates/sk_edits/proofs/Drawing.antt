-- What edits leave of the drawing: the elements that rules name, and so the rules.
use Rattle.std.proofs.Common.{◌≡◌, ◌≢◌, ◌<◌, ◌==◌, Bool, true, false, cond, List, [], ◌∷◌, get_or, refl, ap, sym, subst, ◌∙◌, arith}
use Rattle.std.specs.Prelude.{Contains, IsTrue, Some, find, map, not}
use Rattle.sk_base.specs.Labels.{is_name}
use Rattle.std.proofs.lemmas.Bool.Decides.{nat_tests}
use Rattle.std.proofs.lemmas.List.{length-map}
use Rattle.std.proofs.lemmas.List.Filters.{length-filter_both}
use Rattle.std.proofs.lemmas.List.Elements.{All-filter, All-map, All-weaker, Contains-get_or}
use Rattle.sk_base.specs.declared.Elem.{Elem}
use Rattle.sk_base.specs.declared.ConId.{ConId}
use Rattle.sk_base.specs.declared.Um.{Um}
use Rattle.sk_base.specs.declared.Ratio.{Ratio}
use Rattle.sk_base.specs.declared.Element.{Element}
use Rattle.sk_base.specs.declared.Constraint.{Constraint}
use Rattle.sk_base.specs.declared.Rule.{Rule}
use Rattle.sk_base.specs.declared.Rule.TheVariants as rule
use Rattle.sk_base.specs.declared.Sketch.{Sketch}
use Rattle.sk_base.specs.Numbering.{elem_exact}
use Rattle.sk_base.specs.SoundSketch.{IsSoundSketch, IsSoundRule, IsSoundShape, IsSoundRatio, IsLength}
use Rattle.sk_base.proofs.Pairs.{pairs_map, pairs_filter}
use Rattle.sk_graph.specs.Naming.{named_by}
use Rattle.sk_graph.proofs.Drawing.{DrawnAlike, rule_alike}
use Rattle.sk_edits.specs.declared.edit.Edit.TheVariants as edit
use Rattle.sk_edits.specs.Edits.{applied, changed, with_length, with_ratio, element_number}
use Rattle.sk_edits.specs.Changes.{without}
use Rattle.sk_edits.specs.Making.{IsUnused}

-- without another element
found_without : (xs : List Element) (x u : Elem) → u ≢ x → find (λ (y : Element). y.number.0 == u.0) (without element_number x.0 xs) ≡ find (λ (y : Element). y.number.0 == u.0) xs
found_without [] x u differ = refl
found_without (y ∷ xs) x u differ = told (y.number.0 == x.0) refl (found_without xs x u differ)
  where
    told : (t : Bool) → (y.number.0 == x.0) ≡ t → find (λ (z : Element). z.number.0 == u.0) (without element_number x.0 xs) ≡ find (λ (z : Element). z.number.0 == u.0) xs
        → find (λ (z : Element). z.number.0 == u.0) (cond (not t) (y ∷ without element_number x.0 xs) (without element_number x.0 xs)) ≡ find (λ (z : Element). z.number.0 == u.0) (y ∷ xs)
    told true is rest =
        let level : y.number.0 ≡ x.0 = grind (arith, nat_tests) in
        let apart : u.0 ≢ x.0 = λ same. differ (elem_exact u x same) in
        let other : (y.number.0 == u.0) ≡ false = grind (arith, nat_tests) in
        rest ∙ sym (rw other)
    told false is rest = ap (λ o. cond (y.number.0 == u.0) (Some y) o) rest

pub drawn_without : (s : Sketch) (x : Elem) (r : Rule) → ¬ Contains (named_by r) x → DrawnAlike s (applied (edit.Erased x) s) r
drawn_without s x r free u named = found_without s.elements x u (λ same. free (subst (λ y. Contains (named_by r) y) same named))

-- where the elements are the same, all is drawn alike
pub drawn_same : (s : Sketch) (cs : List Constraint) (r : Rule) → DrawnAlike s (record { elements = s.elements; constraints = cs }) r
drawn_same s cs r u named = refl

length_sound : (s : Sketch) (len : Um) (r : Rule) → IsLength len → IsSoundRule s r → IsSoundRule s (with_length len r)
length_sound s len (rule.Distance u v old) fine sound = (sound.0, fine)
length_sound s len (rule.On u v) fine sound = sound
length_sound s len (rule.Tangent u v) fine sound = sound
length_sound s len (rule.Outside u v) fine sound = sound
length_sound s len (rule.Inside u v) fine sound = sound
length_sound s len (rule.Angle l m ratio) fine sound = sound
length_sound s len (rule.Block pins) fine sound = sound

ratio_sound : (s : Sketch) (ratio : Ratio) (r : Rule) → IsSoundRatio ratio → IsSoundRule s r → IsSoundRule s (with_ratio ratio r)
ratio_sound s ratio (rule.Distance u v old) fine sound = sound
ratio_sound s ratio (rule.On u v) fine sound = sound
ratio_sound s ratio (rule.Tangent u v) fine sound = sound
ratio_sound s ratio (rule.Outside u v) fine sound = sound
ratio_sound s ratio (rule.Inside u v) fine sound = sound
ratio_sound s ratio (rule.Angle l m old) fine sound = (sound.0, fine)
ratio_sound s ratio (rule.Block pins) fine sound = sound

changed_sound : (s : Sketch) (k : ConId) (change : Rule → Rule) → ((r : Rule) → IsSoundRule s r → IsSoundRule s (change r)) → (c : Constraint) → IsSoundRule s c.rule → IsSoundRule s (changed k change c).rule
changed_sound s k change keeps c sound = told (c.number.0 == k.0)
  where
    told : (t : Bool) → IsSoundRule s (cond t (change c.rule) c.rule)
    told true = keeps c.rule sound
    told false = sound

-- changed rules leave the sketch sound
rules_changed : (s : Sketch) (k : ConId) (change : Rule → Rule) → IsSoundSketch s → ((r : Rule) → IsSoundRule s r → IsSoundRule s (change r)) → IsSoundSketch (record { elements = s.elements; constraints = map (changed k change) s.constraints })
rules_changed s k change sound keeps =
    let t : Sketch = record { elements = s.elements; constraints = map (changed k change) s.constraints } in
    record {
      elements_rise = sound.elements_rise;
      constraints_rise = pairs_map (λ (x y : Constraint). x.number.0 < y.number.0) (changed k change) s.constraints sound.constraints_rise;
      labels_are_names = sound.labels_are_names;
      labels_differ = sound.labels_differ;
      few_elements = sound.few_elements;
      few_constraints = rw length-map sound.few_constraints;
      shapes_sound = sound.shapes_sound;
      rules_sound = All-map (λ (x : Constraint). IsSoundRule t x.rule) (changed k change) s.constraints
          (All-weaker (λ (x : Constraint). IsSoundRule s x.rule) (λ (x : Constraint). IsSoundRule t (changed k change x).rule)
          (λ x fine. rule_alike s t (changed k change x).rule (drawn_same s t.constraints (changed k change x).rule) (changed_sound s k change keeps x fine)) s.constraints sound.rules_sound);
    }

-- an edit other than a line leaves a sound sketch sound
pub drop_sound : (s : Sketch) (k : ConId) → IsSoundSketch s → IsSoundSketch (applied (edit.Dropped k) s)
drop_sound s k sound =
    let t : Sketch = applied (edit.Dropped k) s in
    record {
      elements_rise = sound.elements_rise;
      constraints_rise = pairs_filter (λ (x y : Constraint). x.number.0 < y.number.0) (λ (c : Constraint). not (c.number.0 == k.0)) s.constraints sound.constraints_rise;
      labels_are_names = sound.labels_are_names;
      labels_differ = sound.labels_differ;
      few_elements = sound.few_elements;
      few_constraints = (let both = length-filter_both (λ (c : Constraint). c.number.0 == k.0) (λ (c : Constraint). not (c.number.0 == k.0)) (λ c. refl) s.constraints in let few = sound.few_constraints in omega arith);
      shapes_sound = sound.shapes_sound;
      rules_sound = All-filter (λ (c : Constraint). not (c.number.0 == k.0)) (λ (x : Constraint). IsSoundRule t x.rule) s.constraints
          (All-weaker (λ (x : Constraint). IsSoundRule s x.rule) (λ (x : Constraint). IsSoundRule t x.rule) (λ x fine. rule_alike s t x.rule (drawn_same s t.constraints x.rule) fine) s.constraints sound.rules_sound);
    }

pub length_set_sound : (s : Sketch) (k : ConId) (len : Um) → IsLength len → IsSoundSketch s → IsSoundSketch (applied (edit.Length k len) s)
length_set_sound s k len fine sound = rules_changed s k (with_length len) sound (λ r. length_sound s len r fine)

pub ratio_set_sound : (s : Sketch) (k : ConId) (ratio : Ratio) → IsSoundRatio ratio → IsSoundSketch s → IsSoundSketch (applied (edit.Turned k ratio) s)
ratio_set_sound s k ratio fine sound = rules_changed s k (with_ratio ratio) sound (λ r. ratio_sound s ratio r fine)

pub erase_sound : (s : Sketch) (x : Elem) → IsUnused s x → IsSoundSketch s → IsSoundSketch (applied (edit.Erased x) s)
erase_sound s x unused sound =
    let t : Sketch = applied (edit.Erased x) s in
    let p : Element → Bool = λ (e : Element). not (e.number.0 == x.0) in
    record {
      elements_rise = pairs_filter (λ (y z : Element). y.number.0 < z.number.0) p s.elements sound.elements_rise;
      constraints_rise = sound.constraints_rise;
      labels_are_names = All-filter p (λ (y : Element). IsTrue (is_name y.label)) s.elements sound.labels_are_names;
      labels_differ = pairs_filter (λ (y z : Element). y.label ≢ z.label) p s.elements sound.labels_differ;
      few_elements = (let both = length-filter_both (λ (e : Element). e.number.0 == x.0) p (λ e. refl) s.elements in let few = sound.few_elements in omega arith);
      few_constraints = sound.few_constraints;
      shapes_sound = All-filter p (λ (y : Element). IsSoundShape y.shape) s.elements sound.shapes_sound;
      rules_sound = λ i d i_in. (
          let c = get_or s.constraints i d in
          let free = unused c (Contains-get_or s.constraints i d i_in) in
          rule_alike s t c.rule (drawn_without s x c.rule free) (sound.rules_sound i d i_in));
    }
