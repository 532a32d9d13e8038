-- How the elements of a sound sketch are drawn, and that they are placed so.
use Rattle.std.proofs.Common.{◌≡◌, ◌==◌, List, get_or, pos, refl, sym, subst, arith}
use Rattle.std.specs.Prelude.{Contains, Option, None, Some, IsSome, unwrap_or}
use Rattle.std.specs.Option.{option_map}
use Rattle.std.proofs.lemmas.Bool.Decides.{nat_tests}
use Rattle.sk_base.specs.declared.Elem.{Elem}
use Rattle.sk_base.specs.declared.Element.{Element}
use Rattle.sk_base.specs.declared.Kind.TheVariants as kinds
use Rattle.sk_base.specs.declared.Pin.{Pin}
use Rattle.sk_base.specs.declared.Placed.{Placed}
use Rattle.sk_base.specs.declared.Shape.{Shape}
use Rattle.sk_base.specs.declared.Shape.TheVariants.{Point, Line, Circle}
use Rattle.sk_base.specs.declared.Sketch.{Sketch}
use Rattle.sk_base.specs.Drawn.{element_of, shape_of, IsLine, HasCentre}
use Rattle.sk_base.specs.Numbering.{elem_exact}
use Rattle.sk_base.specs.SoundSketch.{IsCentred, IsSoundBlock}
use Rattle.sk_base.proofs.Finding.{found_in}
use Rattle.sk_base.proofs.Members.{contains_mapped}
use Rattle.sk_graph.specs.SketchGraph.{kind_of, node_of, drawn_as, graph_of}
use Rattle.sk_measure.specs.Placing.{IsPlacedAs, AreMeasurable, PlacesExactly}
use Rattle.sk_tolerance.specs.Telling.{IsDrawnPoint, IsDrawnLine}

-- the element of the sketch that is drawn so
pub record IsDrawnBy (s : Sketch) (e : Elem) (shape : Shape) : Type 0 where
  pub element : Element
  pub inside : Contains s.elements element
  pub number : element.number.0 ≡ e.0
  pub drawn : shape ≡ element.shape

pub drawn_by : (s : Sketch) (e : Elem) → IsSome (shape_of s e) → IsDrawnBy s e (drawn_as s e)
drawn_by s e drawn = at (element_of s e) refl drawn
  where
    at : (o : Option Element) → element_of s e ≡ o → IsSome (option_map (λ (x : Element). x.shape) o) → IsDrawnBy s e (unwrap_or (option_map (λ (x : Element). x.shape) o) (Point (record { 0 = pos 0 }) (record { 0 = pos 0 })))
    at None is some = absurd (cc)
    at (Some x) is some = (
        let found = found_in (λ (y : Element). y.number.0 == e.0) s.elements x is in
        record { element = x; inside = found.0; number = grind (arith, nat_tests, found.1); drawn = refl })

module _ (s : Sketch) (p : Placed) (exactly : PlacesExactly (graph_of s) p) (e : Elem) where
  placed_as : IsSome (shape_of s e) → IsPlacedAs p e (kind_of (drawn_as s e))
  placed_as drawn =
      let by = drawn_by s e drawn in
      let there = exactly.nodes (node_of by.element) (contains_mapped node_of s.elements by.element by.inside) in
      subst (λ (x : Elem). IsPlacedAs p x (kind_of (drawn_as s e))) (elem_exact by.element.number e by.number)
      (subst (λ (shape : Shape). IsPlacedAs p by.element.number (kind_of shape)) (sym by.drawn) there)

  centre_kind : (shape : Shape) → HasCentre shape → IsPlacedAs p e (kind_of shape) → IsPlacedAs p e kinds.Point
  centre_kind (Point x y) centre h = h
  centre_kind (Line x1 y1 x2 y2) centre h = absurd centre
  centre_kind (Circle x y r) centre h = h

  line_kind : (shape : Shape) → IsLine shape → IsPlacedAs p e (kind_of shape) → IsPlacedAs p e kinds.Line
  line_kind (Point x y) line h = absurd line
  line_kind (Line x1 y1 x2 y2) line h = h
  line_kind (Circle x y r) line h = absurd line

  pub placed_point : IsDrawnPoint s e → IsPlacedAs p e kinds.Point
  placed_point (drawn, centre) = centre_kind (drawn_as s e) centre (placed_as drawn)

  pub placed_line : IsDrawnLine s e → IsPlacedAs p e kinds.Line
  placed_line (drawn, line) = line_kind (drawn_as s e) line (placed_as drawn)

-- the pins of a sound block are placed as points
centred_drawn : (s : Sketch) (e : Elem) → IsCentred (shape_of s e) → IsDrawnPoint s e
centred_drawn s e centred = at (shape_of s e) centred
  where
    at : (o : Option Shape) → IsCentred o → IsSome o × HasCentre (unwrap_or o (Point (record { 0 = pos 0 }) (record { 0 = pos 0 })))
    at None centred = absurd centred
    at (Some shape) centred = (refl, centred)

pub block_measurable : (s : Sketch) (p : Placed) → PlacesExactly (graph_of s) p → (pins : List Pin) → IsSoundBlock s pins → AreMeasurable p pins
block_measurable s p exactly pins sound = record {
  on_sheet = sound.sound.on_sheet;
  placed = λ i d i_in. placed_point s p exactly (get_or pins i d).elem (centred_drawn s (get_or pins i d).elem (sound.centred i d i_in));
}
