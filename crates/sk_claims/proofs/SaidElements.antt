-- An element of a sketch is found by the name that is written for it.
use Rattle.std.proofs.Common.{◌≡◌, ◌≢◌, inl, inr, ℕ, true, false, not, pos, List, [], ◌∷◌, Option, Some, is_none, IsTrue, bytes_eq, refl, sym, ap, subst, ◌∙◌}
use Rattle.std.specs.Prelude.{AllPairs, Contains, find, unwrap_or}
use Rattle.std.specs.Option.{option_map}
use Rattle.std.proofs.lemmas.List.Elements.{All-contains}
use Rattle.sk_base.specs.declared.Elem.{Elem}
use Rattle.sk_base.specs.declared.Element.{Element}
use Rattle.sk_base.specs.declared.Shape.{Shape}
use Rattle.sk_base.specs.declared.Shape.TheVariants.{Point}
use Rattle.sk_base.specs.declared.Sketch.{Sketch}
use Rattle.sk_base.specs.Drawn.{element_of}
use Rattle.sk_base.specs.ElementNames.{name_of}
use Rattle.sk_base.specs.Labels.{is_name}
use Rattle.sk_base.specs.SoundSketch.{IsSoundSketch, IsSoundShape}
use Rattle.sk_base.proofs.Finding.{found_rising}
use Rattle.sk_base.proofs.Members.{contains_none, contains_cases}
use Rattle.sk_base.proofs.Pairs.{pairs_head, pairs_tail}
use Rattle.sk_graph.specs.SketchGraph.{drawn_as}
use Rattle.sk_claims.specs.ClaimLines.{is_no_name, is_unknown}
use Rattle.sk_claims.specs.ClaimText.{IsDeclared}
use Rattle.sk_entry.specs.Named.{element_named, number_named}
use Rattle.sk_lines.proofs.Finding.{different_bytes, equal_bytes}

-- where labels differ, an element is the first that has its label
found_by_label : (es : List Element) → AllPairs (λ (x y : Element). x.label ≢ y.label) es → (x : Element) → Contains es x → find (λ (y : Element). bytes_eq x.label y.label) es ≡ Some x
found_by_label [] differ x there = absurd (contains_none x there)
found_by_label (y ∷ es) differ x there =
    elim (contains_cases y es x there) [
      | inl same ↦ (
          let equal : bytes_eq x.label y.label ≡ true = equal_bytes x.label y.label (ap (λ (z : Element). z.label) (sym same)) in
          rw equal (ap (λ (z : Element). Some z) same))
      | inr later ↦ (
          let apart : y.label ≢ x.label = pairs_head (λ (a b : Element). a.label ≢ b.label) y es differ x later in
          let other : bytes_eq x.label y.label ≡ false = different_bytes x.label y.label (λ e. apart (sym e)) in
          rw other (found_by_label es (pairs_tail (λ (a b : Element). a.label ≢ b.label) y es differ) x later))
    ]

-- the word is the name of that element
pub record IsCalled (s : Sketch) (e : Elem) (word : List ℕ) : Type 0 where
  pub element : Element
  pub named : element_named s word ≡ Some element
  pub number : element.number ≡ e
  pub drawn : element.shape ≡ drawn_as s e
  pub sound : IsSoundShape element.shape
  pub spelled : IsTrue (is_name word)

-- the element is found by its number
pub found_so : (s : Sketch) → IsSoundSketch s → (x : Element) → Contains s.elements x → element_of s x.number ≡ Some x
found_so s sound x there = found_rising (λ (y : Element). y.number.0) s.elements sound.elements_rise x there

shape_there : Option Element → Shape
shape_there o = unwrap_or (option_map (λ (y : Element). y.shape) o) (Point (record { 0 = pos 0 }) (record { 0 = pos 0 }))

pub drawn_so : (s : Sketch) → IsSoundSketch s → (e : Elem) (x : Element) → Contains s.elements x → x.number ≡ e → x.shape ≡ drawn_as s e
unfolding shape_there
drawn_so s sound e x there is = subst (λ (n : Elem). x.shape ≡ drawn_as s n) is (sym (ap shape_there (found_so s sound x there)))

pub called : (s : Sketch) → IsSoundSketch s → (e : Elem) → IsDeclared s e → IsCalled s e (name_of s e)
called s sound e (x, there, is) = subst (λ (n : Elem). IsCalled s n (name_of s n)) is own
  where
    label : name_of s x.number ≡ x.label
    label = ap (λ (o : Option Element). unwrap_or (option_map (λ (y : Element). y.label) o) []) (found_so s sound x there)

    own : IsCalled s x.number (name_of s x.number)
    own = subst (λ (word : List ℕ). IsCalled s x.number word) (sym label) (record {
      element = x;
      named = found_by_label s.elements sound.labels_differ x there;
      number = refl;
      drawn = drawn_so s sound x.number x there refl;
      sound = All-contains (λ (y : Element). IsSoundShape y.shape) s.elements x sound.shapes_sound there;
      spelled = All-contains (λ (y : Element). IsTrue (is_name y.label)) s.elements x sound.labels_are_names there;
    })

module _ (s : Sketch) (e : Elem) (word : List ℕ) (is : IsCalled s e word) where
  pub no_wrong_name : is_no_name word ≡ false
  no_wrong_name = ap not is.spelled

  pub known : is_unknown s word ≡ false
  known = ap is_none is.named

  pub its_number : number_named s word ≡ e
  its_number = ap (λ (o : Option Element). unwrap_or (option_map (λ (y : Element). y.number) o) (record { 0 = 0 })) is.named ∙ is.number
