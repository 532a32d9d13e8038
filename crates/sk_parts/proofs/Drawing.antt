-- The own sketch of a part draws its elements as the whole sketch does, so it is sound.
use Rattle.std.proofs.Common.{◌≡◌, ◌≢◌, inl, inr, ℕ, ◌<◌, ◌==◌, Bool, true, false, cond, List, [], ◌∷◌, get_or, refl, ap, sym, subst, ◌∙◌, arith}
use Rattle.std.specs.Prelude.{Contains, IsTrue, Some, All, find, filter, not}
use Rattle.std.specs.List.{list_all}
use Rattle.std.proofs.lemmas.Bool.Decides.{nat_tests}
use Rattle.std.proofs.lemmas.List.Filters.{length-filter_both}
use Rattle.std.proofs.lemmas.List.Elements.{All-contains, All-filter, Contains-get_or}
use Rattle.std.proofs.lemmas.Bool.{and_parts}
use Rattle.sk_base.specs.declared.Elem.{Elem}
use Rattle.sk_base.specs.declared.Element.{Element}
use Rattle.sk_base.specs.declared.Constraint.{Constraint}
use Rattle.sk_base.specs.declared.Sketch.{Sketch}
use Rattle.sk_base.specs.Labels.{is_name}
use Rattle.sk_base.specs.Drawn.{element_of}
use Rattle.sk_base.specs.Numbering.{is_elem, elem_exact}
use Rattle.sk_base.specs.SoundSketch.{IsSoundSketch, IsSoundRule, IsSoundShape}
use Rattle.sk_base.proofs.Numbers.{elem_found, found_elem}
use Rattle.sk_base.proofs.Pairs.{pairs_filter}
use Rattle.sk_base.proofs.Members.{contains_none, contains_head, contains_later, contains_cases, filtered_from}
use Rattle.sk_graph.specs.Naming.{named_by}
use Rattle.sk_graph.proofs.Drawing.{rule_alike}
use Rattle.sk_parts.specs.OwnSketch.{has_element, lies_among, part_sketch}

-- what a test that lets an item pass keeps, is found as before
find_filtered : {X : Type 0} (p q : X → Bool) → ((x : X) → p x ≡ true → q x ≡ true) → (xs : List X) → find p (filter q xs) ≡ find p xs
find_filtered p q passes [] = refl
find_filtered p q passes (x ∷ xs) = told (q x) refl (find_filtered p q passes xs)
  where
    told : (t : Bool) → q x ≡ t → find p (filter q xs) ≡ find p xs → find p (cond t (x ∷ filter q xs) (filter q xs)) ≡ find p (x ∷ xs)
    told true is rest = ap (λ o. cond (p x) (Some x) o) rest
    told false is rest = rest ∙ sym (fails (p x) refl)
      where
        fails : (b : Bool) → p x ≡ b → cond b (Some x) (find p xs) ≡ find p xs
        fails true here = absurd (let never : true ≡ false = sym (passes x here) ∙ is in cc)
        fails false here = refl

-- whether all of these are among those, and what that tells
pub all_among : (xs es : List Elem) → list_all (is_elem xs) es ≡ true → (e : Elem) → Contains es e → Contains xs e
all_among xs [] passes e h = absurd (contains_none e h)
all_among xs (d ∷ es) passes e h =
    let both = and_parts (is_elem xs d) (list_all (is_elem xs) es) passes in
    elim (contains_cases d es e h) [
      | inl here ↦ elem_found xs e (subst (λ z. is_elem xs z ≡ true) here both.0)
      | inr later ↦ all_among xs es both.1 e later
    ]

pub among_all : (xs es : List Elem) → ((e : Elem) → Contains es e → Contains xs e) → list_all (is_elem xs) es ≡ true
among_all xs [] within = refl
among_all xs (d ∷ es) within = rw (found_elem xs d (within d (contains_head d es))) (among_all xs es (λ e h. within e (contains_later d es e h)))

module _ (s : Sketch) (xs : List Elem) where
  -- the part's elements are drawn as they were
  pub element_stays : (e : Elem) → Contains xs e → element_of (part_sketch s xs) e ≡ element_of s e
  element_stays e e_in =
      find_filtered (λ (x : Element). x.number.0 == e.0) (has_element xs)
      (λ x same. (let number : x.number.0 ≡ e.0 = numbered x.number.0 e.0 same in
      subst (λ d. is_elem xs d ≡ true) (sym (elem_exact x.number e number)) (found_elem xs e e_in)))
      s.elements
    where
      numbered : (a b : ℕ) → (a == b) ≡ true → a ≡ b
      numbered a b same = grind (arith, nat_tests)

  -- and each of its rules is sound
  pub rule_stays : (c : Constraint) → lies_among xs c ≡ true → IsSoundRule s c.rule → IsSoundRule (part_sketch s xs) c.rule
  rule_stays c among sound = rule_alike s (part_sketch s xs) c.rule (λ u named. element_stays u (all_among xs (named_by c.rule) among u named)) sound

each_rule : (s t : Sketch) (p : Constraint → Bool) → ((c : Constraint) → p c ≡ true → IsSoundRule s c.rule → IsSoundRule t c.rule) → (cs : List Constraint) → All (λ (c : Constraint). IsSoundRule s c.rule) cs → All (λ (c : Constraint). IsSoundRule t c.rule) (filter p cs)
each_rule s t p stays cs all k d below =
    let kept = filtered_from p cs (get_or (filter p cs) k d) (Contains-get_or (filter p cs) k d below) in
    stays (get_or (filter p cs) k d) kept.1 (All-contains (λ (c : Constraint). IsSoundRule s c.rule) cs (get_or (filter p cs) k d) all kept.0)

-- the own sketch is sound
pub part_is_sound : (s : Sketch) (xs : List Elem) → IsSoundSketch s → IsSoundSketch (part_sketch s xs)
part_is_sound s xs sound = record {
  elements_rise = pairs_filter (λ (x y : Element). x.number.0 < y.number.0) (has_element xs) s.elements sound.elements_rise;
  constraints_rise = pairs_filter (λ (x y : Constraint). x.number.0 < y.number.0) (lies_among xs) s.constraints sound.constraints_rise;
  labels_are_names = All-filter (has_element xs) (λ (x : Element). IsTrue (is_name x.label)) s.elements sound.labels_are_names;
  labels_differ = pairs_filter (λ (x y : Element). x.label ≢ y.label) (has_element xs) s.elements sound.labels_differ;
  few_elements = (let both = length-filter_both (has_element xs) (λ (x : Element). not (has_element xs x)) (λ x. refl) s.elements in let few = sound.few_elements in omega arith);
  few_constraints = (let both = length-filter_both (lies_among xs) (λ (c : Constraint). not (lies_among xs c)) (λ c. refl) s.constraints in let few = sound.few_constraints in omega arith);
  shapes_sound = All-filter (has_element xs) (λ (x : Element). IsSoundShape x.shape) s.elements sound.shapes_sound;
  rules_sound = each_rule s (part_sketch s xs) (lies_among xs) (λ c among fine. rule_stays s xs c among fine) s.constraints sound.rules_sound;
}
