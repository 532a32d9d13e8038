-- The frame of a plan's base in a sound sketch is sound.
use Rattle.std.proofs.Common.{◌≡◌, ◌⊎◌, inl, inr, ℕ, ◌≤◌, ℤ, pos, max, unsigned_abs, true, false, int_eq, List, [], ◌∷◌, Option, None, Some, refl, arith}
use Rattle.std.specs.Prelude.{◌&&◌, nat_le, unwrap_or}
use Rattle.std.specs.Option.{option_map}
use Rattle.std.proofs.lemmas.Bool.{cases_Bool, and_parts}
use Rattle.std.proofs.lemmas.Bool.Decides.{nat_tests}
use Rattle.std.proofs.lemmas.Int.{ints}
use Rattle.std.proofs.lemmas.List.Elements.{All-contains}
use Rattle.sk_base.specs.declared.Block.{Block}
use Rattle.sk_base.specs.declared.ConId.{ConId}
use Rattle.sk_base.specs.declared.Edge.{Edge}
use Rattle.sk_base.specs.declared.Elem.{Elem}
use Rattle.sk_base.specs.declared.Element.{Element}
use Rattle.sk_base.specs.declared.Graph.{Graph}
use Rattle.sk_base.specs.declared.Measure.{Measure}
use Rattle.sk_base.specs.declared.Measure.TheVariants.{PointPoint, PointLine, LineLine}
use Rattle.sk_base.specs.declared.Node.{Node}
use Rattle.sk_base.specs.declared.Pin.{Pin}
use Rattle.sk_base.specs.declared.Shape.{Shape}
use Rattle.sk_base.specs.declared.Shape.TheVariants.{Point, Line, Circle}
use Rattle.sk_base.specs.declared.Sign.TheVariants.{Plus, Minus}
use Rattle.sk_base.specs.declared.Sketch.{Sketch}
use Rattle.sk_base.specs.declared.Um.{Um}
use Rattle.sk_base.specs.Bounds.{IsWithin}
use Rattle.sk_base.specs.Drawn.{element_of}
use Rattle.sk_base.specs.Lookups.{edge_numbered, block_numbered}
use Rattle.sk_base.specs.Pins.{IsOnSheet, AreSoundPins}
use Rattle.sk_base.specs.SoundGraph.{IsSoundGraph}
use Rattle.sk_base.specs.SoundSketch.{IsSoundSketch, IsSoundShape}
use Rattle.sk_base.proofs.Finding.{found_in}
use Rattle.sk_orient.specs.declared.Vector.{Vector}
use Rattle.sk_orient.specs.DrawnSigns.{IsOnPaper, place_of, direction_of}
use Rattle.sk_orient.specs.Vectors.{IsShort, way, cross}
use Rattle.sk_orient.proofs.Papers.{on_paper}
use Rattle.sk_base.proofs.Magnitudes.{product_within, within_of_abs}
use Rattle.sk_orient.proofs.Products.{way_short, cross_within, dot_within}
use Rattle.sk_graph.specs.SketchGraph.{drawn_as}
use Rattle.sk_steps.specs.Leaves.{by_sign, IsSoundMeasure}
use Rattle.sk_tree.specs.declared.Plan.{Plan}
use Rattle.sk_frame.specs.Bases.{base_of}
use Rattle.sk_frame.specs.Turns.{forward, origin, or_forward, turn_between, scaled}
use Rattle.sk_frame.specs.TurnBounds.{IsSomewhere, IsTurn}
use Rattle.sk_frame.specs.Crossings.{nanometres, crossing, is_near, near_or, meeting}
use Rattle.sk_frame.specs.Frames.{frame_from, still, measured_frame, given_place, drawn_place, block_frame, lone_frame, found_frame, based_frame, frame_of, IsSoundFrame}
use Rattle.sk_frame.proofs.Digits.{highest, scaled_turns, greater_some, greater_few}
use Rattle.sk_steps.proofs.SoundMeasures.{edge_measured}
use Rattle.sk_frame.proofs.Edges.{block_pins, pins_apart}
use Rattle.sk_frame.proofs.Turning.{turn_somewhere}

-- ---- where shapes are drawn

place_short : (x : Shape) → IsOnPaper x → IsShort 1000000000 (place_of x)
place_short (Point x y) on = on
place_short (Line x1 y1 x2 y2) on = (on.0, on.1)
place_short (Circle x y r) on = on

nowhere_short : (most : ℕ) → IsShort most origin
nowhere_short most = ((omega (arith, ints), omega (arith, ints)), (omega (arith, ints), omega (arith, ints)))

direction_short : (x : Shape) → IsOnPaper x → IsShort 2000000000 (direction_of x)
direction_short (Point x y) on = nowhere_short 2000000000
direction_short (Line x1 y1 x2 y2) on = way_short 1000000000 (record { x = x1.0; y = y1.0 }) (record { x = x2.0; y = y2.0 }) (on.0, on.1) (on.2, on.3)
direction_short (Circle x y r) on = nowhere_short 2000000000

zero_um : Um
zero_um = record { 0 = pos 0 }

drawn_on_paper : (s : Sketch) → IsSoundSketch s → (e : Elem) → IsOnPaper (drawn_as s e)
drawn_on_paper s sound e = found (element_of s e) refl
  where
    found : (o : Option Element) → element_of s e ≡ o → IsOnPaper (unwrap_or (option_map (λ (x : Element). x.shape) o) (Point (record { 0 = pos 0 }) (record { 0 = pos 0 })))
    found None is = nowhere_short 1000000000
    found (Some x) is = on_paper x.shape (All-contains (λ (z : Element). IsSoundShape z.shape) s.elements x sound.shapes_sound (found_in _ s.elements x is).0)

-- ---- turns

or_cases : (d : Vector) → (or_forward d ≡ forward) ⊎ ((or_forward d ≡ d) × IsSomewhere d)
or_cases d = elim (cases_Bool (int_eq d.x (pos 0) && int_eq d.y (pos 0))) [
  | inl is ↦ inl (rw is refl)
  | inr isnt ↦ inr (rw isnt refl, λ none. clash d.x d.y none.0 none.1 isnt)
]
  where
    clash : (x y : ℤ) → x ≡ pos 0 → y ≡ pos 0 → (int_eq x (pos 0) && int_eq y (pos 0)) ≡ false → ⊥
    clash x y x_is y_is isnt = (let never : true ≡ false = rw (x_is, y_is) at isnt in cc)

forward_short : IsShort 2000000000 forward
forward_short = ((omega (arith, ints), omega (arith, ints)), (omega (arith, ints), omega (arith, ints)))

forward_somewhere : IsSomewhere forward
forward_somewhere none = (let never : pos 1 ≡ pos 0 = none.0 in omega (arith, ints, never))

turn_is : (g d : Vector) → IsShort 2000000000 g → IsShort 2000000000 d → IsSomewhere g → IsSomewhere d → IsTurn (scaled (turn_between g d))
turn_is g d g_short d_short g_some d_some =
    let v : Vector = turn_between g d in
    let short : IsShort 8000000000000000000 v = (dot_within 2000000000 2000000000 g d g_short d_short, cross_within 2000000000 2000000000 g d g_short d_short) in
    let some = turn_somewhere g d g_some d_some in
    scaled_turns v _ (highest (max (unsigned_abs v.x) (unsigned_abs v.y)) (greater_some v some) (greater_few 8000000000000000000 v short))

turn_or_forward : (g d : Vector) → IsShort 2000000000 g → IsSomewhere g → IsShort 2000000000 d → IsTurn (scaled (turn_between g (or_forward d)))
turn_or_forward g d g_short g_some d_short = elim (or_cases d) [
  | inl is ↦ rw is (turn_is g forward g_short forward_short g_some forward_somewhere)
  | inr is ↦ rw is.0 (turn_is g d g_short d_short g_some is.1)
]

from_sound : (from to g d : Vector) → IsShort 1000000000 from → IsShort 1000000000000 to → IsShort 2000000000 g → IsSomewhere g → IsShort 2000000000 d → IsSoundFrame (frame_from from to g d)
from_sound from to g d from_short to_short g_short g_some d_short = record { from = from_short; to = to_short; turn = turn_or_forward g d g_short g_some d_short }

drawn_sound : (from to d : Vector) → IsShort 1000000000 from → IsShort 1000000000000 to → IsShort 2000000000 d → IsSoundFrame (frame_from from to forward d)
drawn_sound from to d from_short to_short d_short = from_sound from to forward d from_short to_short forward_short forward_somewhere d_short

-- ---- meetings

nanometres_short : (v : Vector) → IsShort 1000000000 v → IsShort 1000000000000 (nanometres v)
nanometres_short v short =
    let thousand : IsWithin 1000 (pos 1000) = (omega (arith, ints), omega (arith, ints)) in
    (product_within 1000 1000000000 (pos 1000) v.x thousand short.0, product_within 1000 1000000000 (pos 1000) v.y thousand short.1)

test_few : (m n : ℕ) → nat_le m n ≡ true → m ≤ n
test_few m n is = grind (arith, nat_tests)

near_or_short : (v other : Vector) → IsShort 1000000000000 other → IsShort 1000000000000 (near_or v other)
near_or_short v other short = elim (cases_Bool (is_near v)) [
  | inl near ↦ (
      let parts = and_parts (nat_le (unsigned_abs v.x) 1000000000000) (nat_le (unsigned_abs v.y) 1000000000000) near in
      rw near (within_of_abs 1000000000000 v.x (test_few _ _ parts.0), within_of_abs 1000000000000 v.y (test_few _ _ parts.1)))
  | inr far ↦ rw far short
]

meeting_short : (u v : Shape) → IsOnPaper u → IsOnPaper v → IsShort 1000000000000 (meeting u v)
meeting_short u v u_on v_on =
    let p = nanometres_short (place_of u) (place_short u u_on) in
    elim (cases_Bool (int_eq (cross (direction_of u) (direction_of v)) (pos 0))) [
      | inl is ↦ rw is p
      | inr isnt ↦ rw isnt (near_or_short (crossing (place_of u) (direction_of u) (place_of v) (direction_of v)) (nanometres (place_of u)) p)
    ]

-- ---- frames

sign_within : (far : ℤ) → IsWithin 1000000000 far → IsWithin 1000000000 (by_sign Plus far) × IsWithin 1000000000 (by_sign Minus far)
sign_within far within = (within, (omega (arith, ints, within.0, within.1), omega (arith, ints, within.0, within.1)))

measured_sound : (measure : Measure) (a b : Shape) → IsSoundMeasure measure → IsOnPaper a → IsOnPaper b → IsSoundFrame (measured_frame measure a b)
measured_sound (PointPoint far) a b sound a_on b_on =
    drawn_sound origin (nanometres (place_of a)) (way (place_of a) (place_of b)) (nowhere_short 1000000000) (nanometres_short (place_of a) (place_short a a_on))
    (way_short 1000000000 (place_of a) (place_of b) (place_short a a_on) (place_short b b_on))
measured_sound (PointLine far Plus) a b sound a_on b_on =
    let within : IsWithin 1000000000 far.0 = (omega (arith, ints, sound.0), sound.1) in
    drawn_sound (record { x = pos 0; y = far.0 }) (nanometres (place_of a)) (direction_of b) ((nowhere_short 1000000000).0, (sign_within far.0 within).0) (nanometres_short (place_of a) (place_short a a_on)) (direction_short b b_on)
measured_sound (PointLine far Minus) a b sound a_on b_on =
    let within : IsWithin 1000000000 far.0 = (omega (arith, ints, sound.0), sound.1) in
    drawn_sound (record { x = pos 0; y = by_sign Minus far.0 }) (nanometres (place_of a)) (direction_of b) ((nowhere_short 1000000000).0, (sign_within far.0 within).1) (nanometres_short (place_of a) (place_short a a_on)) (direction_short b b_on)
measured_sound (LineLine ratio sense) a b sound a_on b_on =
    drawn_sound origin (meeting a b) (direction_of a) (nowhere_short 1000000000) (meeting_short a b a_on b_on) (direction_short a a_on)

still_sound : IsSoundFrame still
still_sound = drawn_sound origin origin forward (nowhere_short 1000000000) (nowhere_short 1000000000000) forward_short

module _ (s : Sketch) (sketch : IsSoundSketch s) where
  pin_short : (pin : Pin) → IsShort 1000000000 (drawn_place s pin)
  pin_short pin = place_short (drawn_as s pin.elem) (drawn_on_paper s sketch pin.elem)

  block_sound : (pins : List Pin) → AreSoundPins pins → IsSoundFrame (block_frame s pins)
  block_sound [] pins = still_sound
  block_sound (p ∷ []) pins = still_sound
  block_sound (p ∷ q ∷ others) pins =
      let first : IsOnSheet p = pins.on_sheet 0 p (omega arith) in
      let second : IsOnSheet q = pins.on_sheet 1 q (omega arith) in
      from_sound (given_place p) (nanometres (drawn_place s p)) (way (given_place p) (given_place q)) (way (drawn_place s p) (drawn_place s q))
      first (nanometres_short (drawn_place s p) (pin_short p)) (way_short 1000000000 (given_place p) (given_place q) first second) (pins_apart (p ∷ q ∷ others) p pins)
      (way_short 1000000000 (drawn_place s p) (drawn_place s q) (pin_short p) (pin_short q))

  lone_sound : (nodes : List Node) → IsSoundFrame (lone_frame s nodes)
  lone_sound [] = still_sound
  lone_sound (n ∷ others) =
      let on = drawn_on_paper s sketch n.elem in
      drawn_sound origin (nanometres (place_of (drawn_as s n.elem))) (direction_of (drawn_as s n.elem)) (nowhere_short 1000000000)
      (nanometres_short (place_of (drawn_as s n.elem)) (place_short (drawn_as s n.elem) on)) (direction_short (drawn_as s n.elem) on)

  module _ (g : Graph) (graph : IsSoundGraph g) where
    found_sound : (k : ℕ) (e : Option Edge) (b : Option Block) → edge_numbered g k ≡ e → block_numbered g k ≡ b → IsSoundFrame (found_frame s e b)
    found_sound k (Some e) b e_is b_is = measured_sound e.measure (drawn_as s e.u) (drawn_as s e.v) (edge_measured g graph k e e_is) (drawn_on_paper s sketch e.u) (drawn_on_paper s sketch e.v)
    found_sound k None (Some b) e_is b_is = block_sound b.pins (block_pins g graph k b b_is)
    found_sound k None None e_is b_is = still_sound

    based_sound : (k : Option ConId) → IsSoundFrame (based_frame s g k)
    based_sound (Some k) = found_sound k.0 (edge_numbered g k.0) (block_numbered g k.0) refl refl
    based_sound None = lone_sound g.nodes

    pub frame_is_sound : (p : Plan) → IsSoundFrame (frame_of s g p)
    frame_is_sound p = based_sound (base_of p)
