-- A constraint that is written is read again.
use Rattle.std.proofs.Common.{◌≡◌, ◌≢◌, inl, inr, ℕ, ◌+◌, ◌<◌, false, nat_le, nat_eq, List, [], ◌∷◌, ◌++◌, length, Option, Some, None, refl, sym, ap, ◌∙◌, arith, codes, bytes_eq, IsTrue}
use Rattle.std.specs.Prelude.{Contains}
use Rattle.std.specs.Option.{option_map}
use Rattle.std.proofs.lemmas.Bool.Decides.{nat_tests}
use Rattle.std.proofs.lemmas.List.Elements.{All-contains}
use Rattle.sk_base.specs.declared.Elem.{Elem}
use Rattle.sk_base.specs.declared.ConId.{ConId}
use Rattle.sk_base.specs.declared.Um.{Um}
use Rattle.sk_base.specs.declared.Ratio.{Ratio}
use Rattle.sk_base.specs.declared.Element.{Element}
use Rattle.sk_base.specs.declared.Constraint.{Constraint}
use Rattle.sk_base.specs.declared.Shape.{Shape}
use Rattle.sk_base.specs.declared.Rule.{Rule}
use Rattle.sk_base.specs.declared.Rule.TheVariants as rule
use Rattle.sk_base.specs.declared.Sketch.{Sketch}
use Rattle.sk_base.specs.Drawn.{element_of}
use Rattle.sk_base.specs.Labels.{is_name}
use Rattle.sk_base.specs.Numbering.{elem_exact}
use Rattle.sk_base.specs.SoundSketch.{IsSoundSketch, IsSoundRule, BothFit, MayJoin, MayBeApart, MayLieOn, MayBeTangent, AreCircles, AreLines, MayNest}
use Rattle.sk_base.proofs.Pairs.{pairs_tell}
use Rattle.sk_base.specs.Spelling.{mm_text, spaced}
use Rattle.sk_lines.specs.declared.Version.{Version}
use Rattle.sk_lines.specs.declared.Keyword.TheVariants.{Distance, On, Tangent, Outside, Inside, Angle}
use Rattle.sk_lang.specs.declared.progress.Progress.{Progress}
use Rattle.sk_lang.specs.declared.progress.Progress.TheVariants.{Within}
use Rattle.sk_entry.specs.Named.{element_named, number_named}
use Rattle.sk_lines.specs.Quantities.{um, ratio as ratio_in}
use Rattle.sk_lang.specs.Codes.{code_of}
use Rattle.sk_lang.specs.Progress.{progress_after}
use Rattle.sk_entry.specs.CanonicalLines.{rule_words, ratio_text}
use Rattle.sk_lang.specs.Renumbered.{elements_from, place_of, rule_renumbered, constraints_from}
use Rattle.sk_base.proofs.Finding.{found_in}
use Rattle.sk_entry.proofs.Fitting.{takes_apart, takes_on, takes_tangent, takes_outside, takes_angle, takes_inside}
use Rattle.sk_entry.proofs.Passing.{Passes, passes_to}
use Rattle.sk_lines.proofs.SolidLines.{IsLineOf, literal, name_spelled}
use Rattle.sk_lang.proofs.Written.{mm_written, magnitude_within, written_line}
use Rattle.sk_lang.proofs.RatioBack.{ratio_tests, ratio_back, ratio_text_written}
use Rattle.sk_lang.proofs.Again.{shared, code_by_words, progress_by_words, found_again, coordinate_back, length_within, length_back, um_back}
use Rattle.sk_lines.proofs.Finding.{different_bytes}

-- two elements that a rule joins
record AreJoined (s : Sketch) (fits : Shape → Shape → Type 0) (u v : Elem) : Type 0 where
  first : Element
  second : Element
  first_is : element_of s u ≡ Some first
  second_is : element_of s v ≡ Some second
  fit : fits first.shape second.shape
  first_name : IsTrue (is_name first.label)
  second_name : IsTrue (is_name second.label)
  apart : bytes_eq first.label second.label ≡ false

numbered : (s : Sketch) (u : Elem) (e : Element) → element_of s u ≡ Some e → e.number.0 ≡ u.0
numbered s u e is = let passes = (found_in (λ (x : Element). nat_eq x.number.0 u.0) s.elements e is).1 in grind (arith, nat_tests)

pub among : (s : Sketch) (u : Elem) (e : Element) → element_of s u ≡ Some e → Contains s.elements e
among s u e is = (found_in (λ (x : Element). nat_eq x.number.0 u.0) s.elements e is).0

pub labels_apart : (s : Sketch) (u v : Elem) (e f : Element) → IsSoundSketch s → u ≢ v → element_of s u ≡ Some e → element_of s v ≡ Some f → e.label ≢ f.label
labels_apart s u v e f sound other u_is v_is =
    elim (pairs_tell (λ (x y : Element). x.label ≢ y.label) s.elements sound.labels_differ e f (among s u e u_is) (among s v f v_is)) [
      | inl same ↦ absurd (other (elem_exact u v (sym (numbered s u e u_is) ∙ ap (λ (x : Element). x.number.0) same ∙ numbered s v f v_is)))
      | inr (inl left) ↦ left
      | inr (inr right) ↦ (λ same. right (sym same))
    ]

joined_by : (s : Sketch) (fits : Shape → Shape → Type 0) (u v : Elem) (e f : Option Element) → IsSoundSketch s → u ≢ v → element_of s u ≡ e → element_of s v ≡ f → BothFit fits (option_map (λ (x : Element). x.shape) e) (option_map (λ (x : Element). x.shape) f) → AreJoined s fits u v
joined_by s fits u v None f sound other u_is v_is fit = absurd fit
joined_by s fits u v (Some e) None sound other u_is v_is fit = absurd fit
joined_by s fits u v (Some e) (Some f) sound other u_is v_is fit = record {
  first = e;
  second = f;
  first_is = u_is;
  second_is = v_is;
  fit = fit;
  first_name = All-contains (λ (x : Element). IsTrue (is_name x.label)) s.elements e sound.labels_are_names (among s u e u_is);
  second_name = All-contains (λ (x : Element). IsTrue (is_name x.label)) s.elements f sound.labels_are_names (among s v f v_is);
  apart = different_bytes e.label f.label (labels_apart s u v e f sound other u_is v_is);
}

joined : (s : Sketch) (fits : Shape → Shape → Type 0) (u v : Elem) → IsSoundSketch s → MayJoin s fits u v → AreJoined s fits u v
joined s fits u v sound may = joined_by s fits u v (element_of s u) (element_of s v) sound may.0 refl refl may.1

-- what was read so far: all elements, and some constraints
abbrev pub rules_so_far : Sketch → List Constraint → Sketch
rules_so_far s done = record { elements = elements_from 1 s.elements; constraints = constraints_from s 1 done }

pub again_named : (s : Sketch) (done : List Constraint) (u : Elem) (e : Element) → IsSoundSketch s → element_of s u ≡ Some e → element_named (rules_so_far s done) e.label ≡ Some (let again : Element = record e { number = place_of s u } in again)
again_named s done u e sound is = found_again u 1 s.elements e sound.labels_differ is

pub again_numbered : (s : Sketch) (done : List Constraint) (u : Elem) (e : Element) → IsSoundSketch s → element_of s u ≡ Some e → number_named (rules_so_far s done) e.label ≡ place_of s u
again_numbered s done u e sound is = rw (again_named s done u e sound is) refl

pub length_rules : (s : Sketch) (n : ℕ) (done : List Constraint) → length (constraints_from s n done) ≡ length done
length_rules s n [] = refl
length_rules s n (c ∷ done) = let rest = length_rules s (n + 1) done in omega arith

abbrev made : Sketch → ℕ → Rule → Constraint
made s n rule = record { number = record { 0 = n }; rule = rule }

rules_push : (s : Sketch) (n : ℕ) (done : List Constraint) (c : Constraint) → constraints_from s n (done ++ c ∷ []) ≡ constraints_from s n done ++ made s (n + length done) (rule_renumbered s c.rule) ∷ []
rules_push s n [] c = let none : n ≡ n + 0 = omega arith in ap (λ (m : ℕ). made s m (rule_renumbered s c.rule) ∷ []) none
rules_push s n (d ∷ done) c =
    let count : n + 1 + length done ≡ n + length (d ∷ done) = omega arith in
    ap (λ (cs : List Constraint). made s n (rule_renumbered s d.rule) ∷ cs) (rules_push s (n + 1) done c ∙ ap (λ (m : ℕ). constraints_from s (n + 1) done ++ made s m (rule_renumbered s c.rule) ∷ []) count)

-- one more constraint
pub ruled : (v : Version) (s : Sketch) (done : List Constraint) (number : ConId) (asked read : Rule) → read ≡ rule_renumbered s asked
    → Within v (record { elements = elements_from 1 s.elements; constraints = constraints_from s 1 done ++ made s (length (constraints_from s 1 done) + 1) read ∷ [] }) ≡ Within v (rules_so_far s (done ++ record { number = number; rule = asked } ∷ []))
ruled v s done number asked read same =
    let count : length (constraints_from s 1 done) + 1 ≡ 1 + length done = let len = length_rules s 1 done in omega arith in
    let c : Constraint = record { number = number; rule = asked } in
    let with_rules : List Constraint → Progress = λ cs. Within v (record { elements = elements_from 1 s.elements; constraints = cs }) in
    ap (λ (m : ℕ). with_rules (constraints_from s 1 done ++ made s m read ∷ [])) count
    ∙ ap (λ (r : Rule). with_rules (constraints_from s 1 done ++ made s (1 + length done) r ∷ [])) same
    ∙ ap with_rules (sym (rules_push s 1 done c))

pub room_left : (s : Sketch) (done : List Constraint) → length done < 4000 → nat_le 4000 (length (constraints_from s 1 done)) ≡ false
room_left s done few = let len = length_rules s 1 done in grind (arith, nat_tests)

-- the line of a constraint is read as that constraint, with the next number
abbrev pub IsRuleAgain : Version → Sketch → List Constraint → ConId → Rule → List (List ℕ) → Type 0
IsRuleAgain v s done number asked words =
    IsLineOf (spaced words) words
    × (code_of (Within v (rules_so_far s done)) (spaced words) ≡ None)
    × (progress_after (Within v (rules_so_far s done)) (spaced words) ≡ Within v (rules_so_far s (done ++ record { number = number; rule = asked } ∷ [])))

-- the names of two joined elements, read again
record AreNamedAgain (s : Sketch) (done : List Constraint) (u v : Elem) (e f : Element) : Type 0 where
  first : element_named (rules_so_far s done) e.label ≡ Some (record e { number = place_of s u })
  second : element_named (rules_so_far s done) f.label ≡ Some (record f { number = place_of s v })
  first_number : number_named (rules_so_far s done) e.label ≡ place_of s u
  second_number : number_named (rules_so_far s done) f.label ≡ place_of s v

named_again : (s : Sketch) (done : List Constraint) (fits : Shape → Shape → Type 0) (u v : Elem) (j : AreJoined s fits u v) → IsSoundSketch s → AreNamedAgain s done u v j.first j.second
named_again s done fits u v j sound = record {
  first = again_named s done u j.first sound j.first_is;
  second = again_named s done v j.second sound j.second_is;
  first_number = again_numbered s done u j.first sound j.first_is;
  second_number = again_numbered s done v j.second sound j.second_is;
}

pub distance_again : (version : Version) (s : Sketch) (done : List Constraint) (number : ConId) (u v : Elem) (len : Um) → IsSoundSketch s → IsSoundRule s (rule.Distance u v len) → length done < 4000 → IsRuleAgain version s done number (rule.Distance u v len) (rule_words s (rule.Distance u v len))
distance_again version s done number u v len sound is few =
    let j = joined s MayBeApart u v sound is.0 in
    let so_far = rules_so_far s done in
    let fit = takes_apart j.first.shape j.second.shape j.fit in
    let n = named_again s done MayBeApart u v j sound in
    let back = coordinate_back len (length_within len is.1) in
    let tests = length_back len is.1 back in
    let rest = j.first.label ∷ j.second.label ∷ mm_text len.0 ∷ [] in
    let words = codes "distance" ∷ rest in
    let w : IsLineOf (spaced words) words = written_line (codes "distance") rest (literal (codes "distance") 16 (omega arith) (omega arith) refl, (name_spelled j.first.label j.first_name, (name_spelled j.second.label j.second_name, (mm_written len.0 (magnitude_within 1000000000 len.0 (length_within len is.1)), tt)))) (omega arith) in
    let passes : Passes so_far Distance rest = record {
      radius = refl;
      count = refl;
      names = rw (j.first_name, j.second_name) refl;
      free = refl;
      known = rw (n.first, n.second) refl;
      kinds = rw (n.first, n.second, fit) refl;
      numbers = rw tests.0 refl;
      zeros = rw tests.1 refl;
      same = j.apart;
      flat = refl;
      elements = refl;
      constraints = room_left s done few;
    } in
    let value = um_back len back in
    let read : rule.Distance (number_named so_far j.first.label) (number_named so_far j.second.label) (um (mm_text len.0)) ≡ rule.Distance (place_of s u) (place_of s v) len = rw (n.first_number, n.second_number, value) refl in
    rw (j.first_is, j.second_is)
    (w, code_by_words version so_far (spaced words) (codes "distance") rest Distance w (shared version (codes "distance") Distance refl refl) (passes_to so_far Distance rest passes), progress_by_words version so_far (spaced words) (codes "distance") rest Distance w (shared version (codes "distance") Distance refl refl) ∙ ruled version s done number (rule.Distance u v len) (rule.Distance (number_named so_far j.first.label) (number_named so_far j.second.label) (um (mm_text len.0))) read)

pub on_again : (version : Version) (s : Sketch) (done : List Constraint) (number : ConId) (u v : Elem) → IsSoundSketch s → IsSoundRule s (rule.On u v) → length done < 4000 → IsRuleAgain version s done number (rule.On u v) (rule_words s (rule.On u v))
on_again version s done number u v sound is few =
    let j = joined s MayLieOn u v sound is in
    let so_far = rules_so_far s done in
    let fit = takes_on j.first.shape j.second.shape j.fit in
    let n = named_again s done MayLieOn u v j sound in
    let rest = j.first.label ∷ j.second.label ∷ [] in
    let words = codes "on" ∷ rest in
    let w : IsLineOf (spaced words) words = written_line (codes "on") rest (literal (codes "on") 16 (omega arith) (omega arith) refl, (name_spelled j.first.label j.first_name, (name_spelled j.second.label j.second_name, tt))) (omega arith) in
    let passes : Passes so_far On rest = record {
      radius = refl;
      count = refl;
      names = rw (j.first_name, j.second_name) refl;
      free = refl;
      known = rw (n.first, n.second) refl;
      kinds = rw (n.first, n.second, fit) refl;
      numbers = refl;
      zeros = refl;
      same = j.apart;
      flat = refl;
      elements = refl;
      constraints = room_left s done few;
    } in
    let read : rule.On (number_named so_far j.first.label) (number_named so_far j.second.label) ≡ rule.On (place_of s u) (place_of s v) = rw (n.first_number, n.second_number) refl in
    rw (j.first_is, j.second_is)
    (w, code_by_words version so_far (spaced words) (codes "on") rest On w (shared version (codes "on") On refl refl) (passes_to so_far On rest passes), progress_by_words version so_far (spaced words) (codes "on") rest On w (shared version (codes "on") On refl refl) ∙ ruled version s done number (rule.On u v) (rule.On (number_named so_far j.first.label) (number_named so_far j.second.label)) read)

pub tangent_again : (version : Version) (s : Sketch) (done : List Constraint) (number : ConId) (u v : Elem) → IsSoundSketch s → IsSoundRule s (rule.Tangent u v) → length done < 4000 → IsRuleAgain version s done number (rule.Tangent u v) (rule_words s (rule.Tangent u v))
tangent_again version s done number u v sound is few =
    let j = joined s MayBeTangent u v sound is in
    let so_far = rules_so_far s done in
    let fit = takes_tangent j.first.shape j.second.shape j.fit in
    let n = named_again s done MayBeTangent u v j sound in
    let rest = j.first.label ∷ j.second.label ∷ [] in
    let words = codes "tangent" ∷ rest in
    let w : IsLineOf (spaced words) words = written_line (codes "tangent") rest (literal (codes "tangent") 16 (omega arith) (omega arith) refl, (name_spelled j.first.label j.first_name, (name_spelled j.second.label j.second_name, tt))) (omega arith) in
    let passes : Passes so_far Tangent rest = record {
      radius = refl;
      count = refl;
      names = rw (j.first_name, j.second_name) refl;
      free = refl;
      known = rw (n.first, n.second) refl;
      kinds = rw (n.first, n.second, fit) refl;
      numbers = refl;
      zeros = refl;
      same = j.apart;
      flat = refl;
      elements = refl;
      constraints = room_left s done few;
    } in
    let read : rule.Tangent (number_named so_far j.first.label) (number_named so_far j.second.label) ≡ rule.Tangent (place_of s u) (place_of s v) = rw (n.first_number, n.second_number) refl in
    rw (j.first_is, j.second_is)
    (w, code_by_words version so_far (spaced words) (codes "tangent") rest Tangent w (shared version (codes "tangent") Tangent refl refl) (passes_to so_far Tangent rest passes), progress_by_words version so_far (spaced words) (codes "tangent") rest Tangent w (shared version (codes "tangent") Tangent refl refl) ∙ ruled version s done number (rule.Tangent u v) (rule.Tangent (number_named so_far j.first.label) (number_named so_far j.second.label)) read)

pub outside_again : (version : Version) (s : Sketch) (done : List Constraint) (number : ConId) (u v : Elem) → IsSoundSketch s → IsSoundRule s (rule.Outside u v) → length done < 4000 → IsRuleAgain version s done number (rule.Outside u v) (rule_words s (rule.Outside u v))
outside_again version s done number u v sound is few =
    let j = joined s AreCircles u v sound is in
    let so_far = rules_so_far s done in
    let fit = takes_outside j.first.shape j.second.shape j.fit in
    let n = named_again s done AreCircles u v j sound in
    let rest = j.first.label ∷ j.second.label ∷ [] in
    let words = codes "outside" ∷ rest in
    let w : IsLineOf (spaced words) words = written_line (codes "outside") rest (literal (codes "outside") 16 (omega arith) (omega arith) refl, (name_spelled j.first.label j.first_name, (name_spelled j.second.label j.second_name, tt))) (omega arith) in
    let passes : Passes so_far Outside rest = record {
      radius = refl;
      count = refl;
      names = rw (j.first_name, j.second_name) refl;
      free = refl;
      known = rw (n.first, n.second) refl;
      kinds = rw (n.first, n.second, fit) refl;
      numbers = refl;
      zeros = refl;
      same = j.apart;
      flat = refl;
      elements = refl;
      constraints = room_left s done few;
    } in
    let read : rule.Outside (number_named so_far j.first.label) (number_named so_far j.second.label) ≡ rule.Outside (place_of s u) (place_of s v) = rw (n.first_number, n.second_number) refl in
    rw (j.first_is, j.second_is)
    (w, code_by_words version so_far (spaced words) (codes "outside") rest Outside w (shared version (codes "outside") Outside refl refl) (passes_to so_far Outside rest passes), progress_by_words version so_far (spaced words) (codes "outside") rest Outside w (shared version (codes "outside") Outside refl refl) ∙ ruled version s done number (rule.Outside u v) (rule.Outside (number_named so_far j.first.label) (number_named so_far j.second.label)) read)

pub inside_again : (version : Version) (s : Sketch) (done : List Constraint) (number : ConId) (u v : Elem) → IsSoundSketch s → IsSoundRule s (rule.Inside u v) → length done < 4000 → IsRuleAgain version s done number (rule.Inside u v) (rule_words s (rule.Inside u v))
inside_again version s done number u v sound is few =
    let j = joined s MayNest u v sound is in
    let so_far = rules_so_far s done in
    let fit = takes_inside j.first.shape j.second.shape j.fit in
    let n = named_again s done MayNest u v j sound in
    let rest = j.first.label ∷ j.second.label ∷ [] in
    let words = codes "inside" ∷ rest in
    let w : IsLineOf (spaced words) words = written_line (codes "inside") rest (literal (codes "inside") 16 (omega arith) (omega arith) refl, (name_spelled j.first.label j.first_name, (name_spelled j.second.label j.second_name, tt))) (omega arith) in
    let passes : Passes so_far Inside rest = record {
      radius = refl;
      count = refl;
      names = rw (j.first_name, j.second_name) refl;
      free = refl;
      known = rw (n.first, n.second) refl;
      kinds = rw (n.first, n.second, fit.0) refl;
      numbers = refl;
      zeros = rw (n.first, n.second, fit.1) refl;
      same = j.apart;
      flat = refl;
      elements = refl;
      constraints = room_left s done few;
    } in
    let read : rule.Inside (number_named so_far j.first.label) (number_named so_far j.second.label) ≡ rule.Inside (place_of s u) (place_of s v) = rw (n.first_number, n.second_number) refl in
    rw (j.first_is, j.second_is)
    (w, code_by_words version so_far (spaced words) (codes "inside") rest Inside w (shared version (codes "inside") Inside refl refl) (passes_to so_far Inside rest passes), progress_by_words version so_far (spaced words) (codes "inside") rest Inside w (shared version (codes "inside") Inside refl refl) ∙ ruled version s done number (rule.Inside u v) (rule.Inside (number_named so_far j.first.label) (number_named so_far j.second.label)) read)

pub angle_again : (version : Version) (s : Sketch) (done : List Constraint) (number : ConId) (l m : Elem) (ratio : Ratio) → IsSoundSketch s → IsSoundRule s (rule.Angle l m ratio) → length done < 4000 → IsRuleAgain version s done number (rule.Angle l m ratio) (rule_words s (rule.Angle l m ratio))
angle_again version s done number l m ratio sound is few =
    let j = joined s AreLines l m sound is.0 in
    let so_far = rules_so_far s done in
    let fit = takes_angle j.first.shape j.second.shape j.fit in
    let n = named_again s done AreLines l m j sound in
    let tests = ratio_tests ratio is.1 in
    let rest = j.first.label ∷ j.second.label ∷ ratio_text ratio ∷ [] in
    let words = codes "angle" ∷ rest in
    let w : IsLineOf (spaced words) words = written_line (codes "angle") rest (literal (codes "angle") 16 (omega arith) (omega arith) refl, (name_spelled j.first.label j.first_name, (name_spelled j.second.label j.second_name, (ratio_text_written ratio is.1, tt)))) (omega arith) in
    let passes : Passes so_far Angle rest = record {
      radius = refl;
      count = refl;
      names = rw (j.first_name, j.second_name) refl;
      free = refl;
      known = rw (n.first, n.second) refl;
      kinds = rw (n.first, n.second, fit) refl;
      numbers = rw tests.0 refl;
      zeros = rw tests.1 refl;
      same = j.apart;
      flat = refl;
      elements = refl;
      constraints = room_left s done few;
    } in
    let value = ratio_back ratio is.1 in
    let read : rule.Angle (number_named so_far j.first.label) (number_named so_far j.second.label) (ratio_in (ratio_text ratio)) ≡ rule.Angle (place_of s l) (place_of s m) ratio = rw (n.first_number, n.second_number, value) refl in
    rw (j.first_is, j.second_is)
    (w, code_by_words version so_far (spaced words) (codes "angle") rest Angle w (shared version (codes "angle") Angle refl refl) (passes_to so_far Angle rest passes), progress_by_words version so_far (spaced words) (codes "angle") rest Angle w (shared version (codes "angle") Angle refl refl) ∙ ruled version s done number (rule.Angle l m ratio) (rule.Angle (number_named so_far j.first.label) (number_named so_far j.second.label) (ratio_in (ratio_text ratio))) read)
