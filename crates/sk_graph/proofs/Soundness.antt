-- The graph of a sound sketch is sound.
use Rattle.std.proofs.Common.{◌≡◌, ◌≢◌, ◌∙◌, inl, inr, ◌+◌, ◌<◌, ◌≤◌, List, [], ◌∷◌, length, Bool, true, false, refl, sym, ap, subst, arith, ℤ, pos, ◌+ℤ◌, ◌-ℤ◌, negsuc, zero, suc, cond, unsigned_abs}
use Rattle.std.specs.Prelude.{Option, Some, None, ◌↔◌, IsNone, IsSome, IfSome, Contains, map, nat_lt, unwrap_or}
use Rattle.std.specs.List.{filter_map, cons_option}
use Rattle.std.specs.Option.{option_map}
use Rattle.std.proofs.lemmas.Int.{ints}
use Rattle.std.proofs.lemmas.List.{length-map}
use Rattle.std.proofs.lemmas.List.Elements.{All-contains, All-weaker}
use Rattle.std.proofs.lemmas.Bool.Decides.{eqb_tells}
use Rattle.sk_base.specs.declared.numbered.Elem.{Elem}
use Rattle.sk_base.specs.declared.numbered.ConId.{ConId}
use Rattle.sk_base.specs.declared.measure.Um.{Um}
use Rattle.sk_base.specs.declared.measure.Kind.TheVariants as kinds
use Rattle.sk_base.specs.declared.measure.Sign.{Sign}
use Rattle.sk_base.specs.declared.measure.Sign.TheVariants.{Plus}
use Rattle.sk_orient.specs.DrawnSigns.{side_drawn}
use Rattle.sk_base.specs.declared.measure.Ratio.{Ratio}
use Rattle.sk_base.specs.declared.measure.Measure.TheVariants.{PointPoint}
use Rattle.sk_base.specs.declared.sketch.Shape.{Shape}
use Rattle.sk_base.specs.declared.sketch.Shape.TheVariants.{Point, Line, Circle}
use Rattle.sk_base.specs.declared.sketch.Element.{Element}
use Rattle.sk_base.specs.declared.sketch.Rule.{Rule}
use Rattle.sk_base.specs.declared.sketch.Rule.TheVariants.{Distance, On, Tangent, Outside, Inside, Angle}
use Rattle.sk_base.specs.declared.sketch.Rule.TheVariants as rules_of
use Rattle.sk_base.specs.declared.sketch.Pin.{Pin}
use Rattle.sk_base.specs.declared.sketch.Constraint.{Constraint}
use Rattle.sk_base.specs.declared.sketch.Sketch.{Sketch}
use Rattle.sk_base.specs.declared.graph.Node.{Node}
use Rattle.sk_base.specs.declared.graph.Edge.{Edge}
use Rattle.sk_base.specs.declared.graph.Block.{Block}
use Rattle.sk_base.specs.declared.graph.Graph.{Graph}
use Rattle.sk_base.specs.Bounds.{IsFromTo}
use Rattle.sk_base.specs.Drawn.{element_of, shape_of, HasCentre, is_line, radius_of}
use Rattle.sk_base.specs.Numbering.{elem_exact, con_number}
use Rattle.sk_base.specs.SoundGraph.{IsSoundGraph, IsBlockOf, HasNode, Measures}
use Rattle.sk_base.specs.SoundSketch.{IsSoundSketch, IsSoundShape, IsSoundRule, IsSoundRatio, IsLength, IsSoundBlock, IsCentred, MayBeApart, MayLieOn, MayBeTangent, MayNest, MayJoin, AreCircles, AreLines}
use Rattle.sk_base.proofs.Finding.{found_in}
use Rattle.sk_base.proofs.Members.{contains_mapped}
use Rattle.sk_base.proofs.Pairs.{pairs_map, pairs_tell}
use Rattle.sk_graph.specs.SketchGraph.{kind_of, node_of, drawn_as, apart, beside, distance_edge, on_edge, tangent_edge, outside_edge, inside_edge, angle_edge, rule_edge, edge_of, rule_block, block_of, graph_of}
use Rattle.sk_graph.proofs.Fittings.{both_drawn}
use Rattle.sk_graph.proofs.Given.{given_from, pairs_given}

mapped_some : {X Y : Type 0} (f : X → Y) (o : Option X) (y : Y) → option_map f o ≡ Some y → (x : X) × (o ≡ Some x) × (f x ≡ y)
mapped_some f None y is = cc
mapped_some f (Some x) y is = (x, refl, cc)

-- what is drawn is an element of the sketch
pub drawn_in : (s : Sketch) (e : Elem) (shape : Shape) → shape_of s e ≡ Some shape → (x : Element) × Contains s.elements x × (x.number ≡ e) × (x.shape ≡ shape)
drawn_in s e shape is =
    let found = mapped_some (λ (x : Element). x.shape) (element_of s e) shape is in
    let among = found_in _ s.elements found.0 found.1 in
    (found.0, among.0, elem_exact found.0.number e (elim (eqb_tells found.0.number.0 e.0) [ inl same ↦ same.1 | inr other ↦ absurd (let no = other.0 in let yes = among.1 in cc) ]), found.2)

drawn_sound : (s : Sketch) → IsSoundSketch s → (e : Elem) (shape : Shape) → shape_of s e ≡ Some shape → IsSoundShape shape
drawn_sound s sound e shape is =
    let drawn = drawn_in s e shape is in
    subst (λ z. IsSoundShape z) drawn.3 (All-contains (λ (x : Element). IsSoundShape x.shape) s.elements drawn.0 sound.shapes_sound drawn.1)

node_drawn : (s : Sketch) (e : Elem) (shape : Shape) → shape_of s e ≡ Some shape → HasNode (graph_of s) e (kind_of shape)
node_drawn s e shape is =
    let drawn = drawn_in s e shape is in
    let node : node_of drawn.0 ≡ record { elem = e; kind = kind_of shape } = let number = drawn.2 in let same = drawn.3 in cc in
    subst (λ n. Contains (map node_of s.elements) n) node (contains_mapped node_of s.elements drawn.0 drawn.1)

drawn_is : (s : Sketch) (e : Elem) (shape : Shape) → shape_of s e ≡ Some shape → drawn_as s e ≡ shape
drawn_is s e shape is = ap (λ o. unwrap_or o (Point (record { 0 = pos 0 }) (record { 0 = pos 0 }))) is

-- a node of a shape with a centre is a point
centre_node : (g : Graph) (e : Elem) (x : Shape) → HasCentre x → HasNode g e (kind_of x) → HasNode g e kinds.Point
centre_node g e (Point x y) centre node = node
centre_node g e (Line x1 y1 x2 y2) centre node = absurd centre
centre_node g e (Circle x y r) centre node = node

-- two different ends that the measure fits
abbrev IsSoundEdge : Graph → Edge → Type 0
IsSoundEdge g e = (e.u ≢ e.v) × Measures g e.u e.v e.measure

apart_sound : (g : Graph) (id : ConId) (u v : Elem) (len : ℤ) → u ≢ v → HasNode g u kinds.Point → HasNode g v kinds.Point → IsFromTo 1 2000000000 len → IsSoundEdge g (apart id u v len)
apart_sound g id u v len other first second within = in_order (nat_lt u.0 v.0)
  where
    in_order : (b : Bool) → IsSoundEdge g (cond b (record { id = id; u = u; v = v; measure = PointPoint (record { 0 = len }) }) (record { id = id; u = v; v = u; measure = PointPoint (record { 0 = len }) }))
    in_order true = (other, (first, second, within))
    in_order false = (λ same. other (sym same), (second, first, within))

beside_sound : (g : Graph) (id : ConId) (p line : Elem) (len : ℤ) (side : Sign) → p ≢ line → HasNode g p kinds.Point → HasNode g line kinds.Line → IsFromTo 0 1000000000 len → IsSoundEdge g (beside id p line len side)
beside_sound g id p line len side other first second within = (other, (first, second, within))

-- a length, as the distance of two points, and from a line
far : (len : ℤ) → IsFromTo 1 1000000000 len → IsFromTo 1 2000000000 len
far len within = (within.0, omega (arith, ints, within.1))

near : (len : ℤ) → IsFromTo 1 1000000000 len → IsFromTo 0 1000000000 len
near len within = (omega (arith, ints, within.0), within.1)

distance_sound : (g : Graph) (id : ConId) (u v : Elem) (len : Um) (a b : Shape) → u ≢ v → HasNode g u (kind_of a) → HasNode g v (kind_of b) → MayBeApart a b → IsLength len → IsSoundEdge g (distance_edge id u v len a b)
distance_sound g id u v len (Line x1 y1 x2 y2) b other first second fits within =
    let centre : HasCentre b = elim fits [ inl none ↦ absurd none | inr centre ↦ centre ] in
    beside_sound g id v u len.0 (side_drawn (Line x1 y1 x2 y2) b) (λ same. other (sym same)) (centre_node g v b centre second) first (near len.0 within)
distance_sound g id u v len (Point x y) (Line x1 y1 x2 y2) other first second fits within = beside_sound g id u v len.0 (side_drawn (Line x1 y1 x2 y2) (Point x y)) other first second (near len.0 within)
distance_sound g id u v len (Point x y) (Point x1 y1) other first second fits within = apart_sound g id u v len.0 other first second (far len.0 within)
distance_sound g id u v len (Point x y) (Circle x1 y1 r) other first second fits within = apart_sound g id u v len.0 other first second (far len.0 within)
distance_sound g id u v len (Circle x y r) (Line x1 y1 x2 y2) other first second fits within = beside_sound g id u v len.0 (side_drawn (Line x1 y1 x2 y2) (Circle x y r)) other first second (near len.0 within)
distance_sound g id u v len (Circle x y r) (Point x1 y1) other first second fits within = apart_sound g id u v len.0 other first second (far len.0 within)
distance_sound g id u v len (Circle x y r) (Circle x1 y1 q) other first second fits within = apart_sound g id u v len.0 other first second (far len.0 within)

on_sound : (g : Graph) (id : ConId) (u v : Elem) (a b : Shape) → u ≢ v → HasNode g u (kind_of a) → HasNode g v (kind_of b) → IsSoundShape b → MayLieOn a b → IsSoundEdge g (on_edge id u v b)
on_sound g id u v a (Point x y) other first second sound fits = elim fits [ inl line ↦ absurd line.1 | inr circle ↦ absurd circle.1 ]
on_sound g id u v a (Line x1 y1 x2 y2) other first second sound fits =
    let centre : HasCentre a = elim fits [ inl line ↦ line.0 | inr circle ↦ absurd circle.1 ] in
    beside_sound g id u v (pos 0) Plus other (centre_node g u a centre first) second (omega (arith, ints), omega (arith, ints))
on_sound g id u v (Point x1 y1) (Circle x y r) other first second sound fits = apart_sound g id u v r.0 other first second (far r.0 sound.2)
on_sound g id u v (Line x1 y1 x2 y2) (Circle x y r) other first second sound fits = elim fits [ inl line ↦ absurd line.1 | inr circle ↦ absurd circle.0 ]
on_sound g id u v (Circle x1 y1 q) (Circle x y r) other first second sound fits = apart_sound g id u v r.0 other first second (far r.0 sound.2)

tangent_sound : (g : Graph) (id : ConId) (u v : Elem) (a b : Shape) → u ≢ v → HasNode g u (kind_of a) → HasNode g v (kind_of b) → IsSoundShape a → IsSoundShape b → MayBeTangent a b → IsSoundEdge g (tangent_edge id u v a b)
tangent_sound g id u v (Point x y) b other first second sound_a sound_b fits = elim fits [ inl line ↦ absurd line.0 | inr circle ↦ absurd circle.0 ]
tangent_sound g id u v (Line x1 y1 x2 y2) (Point x y) other first second sound_a sound_b fits = elim fits [ inl line ↦ absurd line.1 | inr circle ↦ absurd circle.0 ]
tangent_sound g id u v (Line x1 y1 x2 y2) (Line x3 y3 x4 y4) other first second sound_a sound_b fits = elim fits [ inl line ↦ absurd line.1 | inr circle ↦ absurd circle.0 ]
tangent_sound g id u v (Line x1 y1 x2 y2) (Circle x y r) other first second sound_a sound_b fits = beside_sound g id v u r.0 (side_drawn (Line x1 y1 x2 y2) (Circle x y r)) (λ same. other (sym same)) second first (near r.0 sound_b.2)
tangent_sound g id u v (Circle x y r) (Point x1 y1) other first second sound_a sound_b fits = elim fits [ inl line ↦ absurd line.0 | inr circle ↦ absurd circle.1 ]
tangent_sound g id u v (Circle x y r) (Line x1 y1 x2 y2) other first second sound_a sound_b fits = beside_sound g id u v r.0 (side_drawn (Line x1 y1 x2 y2) (Circle x y r)) other first second (near r.0 sound_a.2)
tangent_sound g id u v (Circle x y r) (Circle x1 y1 q) other first second sound_a sound_b fits = elim fits [ inl line ↦ absurd line.0 | inr circle ↦ absurd circle.1 ]

-- the difference of two radii
difference_sound : (r q : ℤ) → IsFromTo 1 1000000000 r → IsFromTo 1 1000000000 q → r ≢ q → IsFromTo 1 2000000000 (pos (unsigned_abs (r -ℤ q)))
difference_sound r q first second other = sized (r -ℤ q) refl
  where
    sized : (z : ℤ) → r -ℤ q ≡ z → IsFromTo 1 2000000000 (pos (unsigned_abs z))
    sized (pos zero) is = absurd (other (omega (arith, ints, is)))
    sized (pos (suc n)) is = (omega (arith, ints), omega (arith, ints, is, first.1, second.0))
    sized (negsuc n) is = (omega (arith, ints), omega (arith, ints, is, first.0, second.1))

um_exact : (r q : Um) → r.0 ≡ q.0 → r ≡ q
um_exact r q same = let make : ℤ → Um = λ n. record { 0 = n } in ap make same

touching_sound : (g : Graph) (id : ConId) (u v : Elem) (a b : Shape) → u ≢ v → HasNode g u (kind_of a) → HasNode g v (kind_of b) → IsSoundShape a → IsSoundShape b → AreCircles a b → IsSoundEdge g (outside_edge id u v a b)
touching_sound g id u v (Point x y) b other first second sound_a sound_b fits = absurd fits.0
touching_sound g id u v (Line x1 y1 x2 y2) b other first second sound_a sound_b fits = absurd fits.0
touching_sound g id u v (Circle x y r) (Point x1 y1) other first second sound_a sound_b fits = absurd fits.1
touching_sound g id u v (Circle x y r) (Line x1 y1 x2 y2) other first second sound_a sound_b fits = absurd fits.1
touching_sound g id u v (Circle x y r) (Circle x1 y1 q) other first second sound_a sound_b fits =
    let one = sound_a.2 in
    let two = sound_b.2 in
    apart_sound g id u v (r.0 +ℤ q.0) other first second (omega (arith, ints, one.0, one.1, two.0, two.1), omega (arith, ints, one.0, one.1, two.0, two.1))

nested_sound : (g : Graph) (id : ConId) (u v : Elem) (a b : Shape) → u ≢ v → HasNode g u (kind_of a) → HasNode g v (kind_of b) → IsSoundShape a → IsSoundShape b → MayNest a b → IsSoundEdge g (inside_edge id u v a b)
nested_sound g id u v (Point x y) b other first second sound_a sound_b fits = absurd fits
nested_sound g id u v (Line x1 y1 x2 y2) b other first second sound_a sound_b fits = absurd fits
nested_sound g id u v (Circle x y r) (Point x1 y1) other first second sound_a sound_b fits = absurd fits
nested_sound g id u v (Circle x y r) (Line x1 y1 x2 y2) other first second sound_a sound_b fits = absurd fits
nested_sound g id u v (Circle x y r) (Circle x1 y1 q) other first second sound_a sound_b fits =
    apart_sound g id u v _ other first second (difference_sound r.0 q.0 sound_a.2 sound_b.2 (λ same. fits (um_exact r q same)))

angle_sound : (g : Graph) (id : ConId) (l m : Elem) (ratio : Ratio) (a b : Shape) → l ≢ m → HasNode g l (kind_of a) → HasNode g m (kind_of b) → AreLines a b → IsSoundRatio ratio → IsSoundEdge g (angle_edge id l m ratio a b)
angle_sound g id l m ratio (Point x y) b other first second fits sound = absurd fits.0
angle_sound g id l m ratio (Circle x y r) b other first second fits sound = absurd fits.0
angle_sound g id l m ratio (Line x1 y1 x2 y2) (Point x y) other first second fits sound = absurd fits.1
angle_sound g id l m ratio (Line x1 y1 x2 y2) (Circle x y r) other first second fits sound = absurd fits.1
angle_sound g id l m ratio (Line x1 y1 x2 y2) (Line x3 y3 x4 y4) other first second fits sound = (other, (first, second, sound))

-- two elements of the graph, as they are drawn
record AreNodes (s : Sketch) (fits : Shape → Shape → Type 0) (u v : Elem) : Type 0 where
  pub first : HasNode (graph_of s) u (kind_of (drawn_as s u))
  pub second : HasNode (graph_of s) v (kind_of (drawn_as s v))
  pub first_sound : IsSoundShape (drawn_as s u)
  pub second_sound : IsSoundShape (drawn_as s v)
  pub fit : fits (drawn_as s u) (drawn_as s v)

-- an element that is drawn is a node
pub node_of_drawn : (s : Sketch) → IsSoundSketch s → (e : Elem) → IsSome (shape_of s e) → HasNode (graph_of s) e (kind_of (drawn_as s e)) × IsSoundShape (drawn_as s e)
node_of_drawn s sound e drawn = told (shape_of s e) refl drawn
  where
    told : (o : Option Shape) → shape_of s e ≡ o → IsSome o → HasNode (graph_of s) e (kind_of (drawn_as s e)) × IsSoundShape (drawn_as s e)
    told None is some = absurd (let no = some in cc)
    told (Some shape) is some =
        let as_drawn : drawn_as s e ≡ shape = drawn_is s e shape is in
        rw as_drawn (node_drawn s e shape is, drawn_sound s sound e shape is)

nodes_joined : (s : Sketch) → IsSoundSketch s → (fits : Shape → Shape → Type 0) (u v : Elem) → MayJoin s fits u v → AreNodes s fits u v
nodes_joined s sound fits u v joined =
    let drawn = both_drawn s fits u v joined in
    let first = node_of_drawn s sound u drawn.first in
    let second = node_of_drawn s sound v drawn.second in
    record { first = first.0; second = second.0; first_sound = first.1; second_sound = second.1; fit = drawn.fit }

-- the edge of a sound rule is sound
pub rule_sound : (s : Sketch) → IsSoundSketch s → (id : ConId) (rule : Rule) → IsSoundRule s rule → IfSome (rule_edge s id rule) (λ e. IsSoundEdge (graph_of s) e)
rule_sound s sound id (Distance u v len) fits =
    let n = nodes_joined s sound MayBeApart u v fits.0 in
    distance_sound (graph_of s) id u v len _ _ fits.0.0 n.first n.second n.fit fits.1
rule_sound s sound id (On u v) fits =
    let n = nodes_joined s sound MayLieOn u v fits in
    on_sound (graph_of s) id u v (drawn_as s u) _ fits.0 n.first n.second n.second_sound n.fit
rule_sound s sound id (Tangent u v) fits =
    let n = nodes_joined s sound MayBeTangent u v fits in
    tangent_sound (graph_of s) id u v _ _ fits.0 n.first n.second n.first_sound n.second_sound n.fit
rule_sound s sound id (Outside u v) fits =
    let n = nodes_joined s sound AreCircles u v fits in
    touching_sound (graph_of s) id u v _ _ fits.0 n.first n.second n.first_sound n.second_sound n.fit
rule_sound s sound id (Inside u v) fits =
    let n = nodes_joined s sound MayNest u v fits in
    nested_sound (graph_of s) id u v _ _ fits.0 n.first n.second n.first_sound n.second_sound n.fit
rule_sound s sound id (Angle l m ratio) fits =
    let n = nodes_joined s sound AreLines l m fits.0 in
    angle_sound (graph_of s) id l m ratio _ _ fits.0.0 n.first n.second n.fit fits.1
rule_sound s sound id (rules_of.Block pins) fits = tt

edge_sound : (s : Sketch) → IsSoundSketch s → (e : Edge) → Contains (graph_of s).edges e → IsSoundEdge (graph_of s) e
edge_sound s sound e among =
    let from = given_from (edge_of s) s.constraints e among in
    let fits = All-contains (λ (c : Constraint). IsSoundRule s c.rule) s.constraints from.0 sound.rules_sound from.1 in
    subst (λ (o : Option Edge). IfSome o (λ e. IsSoundEdge (graph_of s) e)) from.2 (rule_sound s sound from.0.number from.0.rule fits)

-- a pin of a sound block is at a point of the graph
pin_node : (s : Sketch) → IsSoundSketch s → (e : Elem) → IsCentred (shape_of s e) → HasNode (graph_of s) e kinds.Point
pin_node s sound e centred = told (shape_of s e) refl centred
  where
    told : (o : Option Shape) → shape_of s e ≡ o → IsCentred o → HasNode (graph_of s) e kinds.Point
    told None is centre = absurd centre
    told (Some shape) is centre = centre_node (graph_of s) e shape centre (node_drawn s e shape is)

-- a rule that gives a block is one
block_given : (id : ConId) (rule : Rule) (b : Block) → rule_block id rule ≡ Some b → (rule ≡ rules_of.Block b.pins) × (b.id ≡ id)
block_given id (Distance u v len) b is = cc
block_given id (On u v) b is = cc
block_given id (Tangent u v) b is = cc
block_given id (Outside u v) b is = cc
block_given id (Inside u v) b is = cc
block_given id (Angle l m ratio) b is = cc
block_given id (rules_of.Block pins) b is =
    let same : record { id = id; pins = pins } ≡ b = cc in
    (ap (λ (b : Block). rules_of.Block b.pins) same, ap (λ (b : Block). b.id) (sym same))

block_sound : (s : Sketch) → IsSoundSketch s → (b : Block) → Contains (graph_of s).blocks b → IsBlockOf (graph_of s) b
block_sound s sound b among =
    let from = given_from block_of s.constraints b among in
    let is = (block_given from.0.number from.0.rule b from.2).0 in
    let fits : IsSoundBlock s b.pins = subst (λ r. IsSoundRule s r) is (All-contains (λ (c : Constraint). IsSoundRule s c.rule) s.constraints from.0 sound.rules_sound from.1) in
    record { pins = fits.sound; at_points = All-weaker _ (λ (pin : Pin). HasNode (graph_of s) pin.elem kinds.Point) (λ pin. pin_node s sound pin.elem) b.pins fits.centred }

one_id : (id : ConId) (b : Bool) (x y : Edge) → x.id ≡ id → y.id ≡ id → (cond b x y).id ≡ id
one_id id true x y first second = first
one_id id false x y first second = second

apart_id : (id : ConId) (u v : Elem) (len : ℤ) → (apart id u v len).id ≡ id
apart_id id u v len = one_id id (nat_lt u.0 v.0) _ _ refl refl

-- an edge has the number of its constraint
pub edge_id : (s : Sketch) (id : ConId) (rule : Rule) → IfSome (rule_edge s id rule) (λ e. e.id ≡ id)
edge_id s id (Distance u v len) =
    let a = drawn_as s u in
    let b = drawn_as s v in
    one_id id (is_line a) _ (cond (is_line b) (beside id u v len.0 (side_drawn b a)) (apart id u v len.0)) refl
    (one_id id (is_line b) _ (apart id u v len.0) refl (apart_id id u v len.0))
edge_id s id (On u v) = let b = drawn_as s v in one_id id (is_line b) _ (apart id u v (radius_of b)) refl (apart_id id u v (radius_of b))
edge_id s id (Tangent u v) = one_id id (is_line (drawn_as s u)) _ _ refl refl
edge_id s id (Outside u v) = apart_id id u v _
edge_id s id (Inside u v) = apart_id id u v _
edge_id s id (Angle l m ratio) = refl
edge_id s id (rules_of.Block pins) = tt

-- a block has the number of its constraint
pub block_id : (id : ConId) (rule : Rule) → IfSome (rule_block id rule) (λ b. b.id ≡ id)
block_id id (Distance u v len) = tt
block_id id (On u v) = tt
block_id id (Tangent u v) = tt
block_id id (Outside u v) = tt
block_id id (Inside u v) = tt
block_id id (Angle l m ratio) = tt
block_id id (rules_of.Block pins) = refl

pub given_edge_id : (s : Sketch) (c : Constraint) (e : Edge) → edge_of s c ≡ Some e → e.id ≡ c.number
given_edge_id s c e is = subst (λ (o : Option Edge). IfSome o (λ e. e.id ≡ c.number)) is (edge_id s c.number c.rule)

pub given_block_id : (c : Constraint) (b : Block) → block_of c ≡ Some b → b.id ≡ c.number
given_block_id c b is = (block_given c.number c.rule b is).1

-- no rule gives both
edge_or_block : (s : Sketch) (id : ConId) (rule : Rule) (e : Edge) (b : Block) → rule_edge s id rule ≡ Some e → rule_block id rule ≡ Some b → ⊥
edge_or_block s id rule e b edge block =
    let is = (block_given id rule b block).0 in
    let none : rule_edge s id rule ≡ None = ap (λ r. rule_edge s id r) is in
    cc

blocks_apart : (s : Sketch) → IsSoundSketch s → (e : Edge) (b : Block) → Contains (graph_of s).edges e → Contains (graph_of s).blocks b → e.id ≢ b.id
blocks_apart s sound e b e_in b_in same =
    let one = given_from (edge_of s) s.constraints e e_in in
    let two = given_from block_of s.constraints b b_in in
    let numbers : one.0.number.0 ≡ two.0.number.0 = ap con_number (sym (given_edge_id s one.0 e one.2) ∙ same ∙ given_block_id two.0 b two.2) in
    let one_is : one.0 ≡ two.0 = elim (pairs_tell (λ (c d : Constraint). c.number.0 < d.number.0) s.constraints sound.constraints_rise one.0 two.0 one.1 two.1) [
      | inl is ↦ is
      | inr differ ↦ elim differ [ inl below ↦ absurd (omega arith) | inr above ↦ absurd (omega arith) ]
    ] in
    edge_or_block s two.0.number two.0.rule e b (subst (λ c. edge_of s c ≡ Some e) one_is one.2) two.2

-- each constraint gives at most one of both
few_given : (s : Sketch) (cs : List Constraint) → length (filter_map (edge_of s) cs) + length (filter_map block_of cs) ≤ length cs
few_given s [] = omega arith
few_given s (c ∷ cs) = told (edge_of s c) (block_of c) refl refl (few_given s cs)
  where
    told : (e : Option Edge) (b : Option Block) → edge_of s c ≡ e → block_of c ≡ b → length (filter_map (edge_of s) cs) + length (filter_map block_of cs) ≤ length cs
        → length (cons_option e (filter_map (edge_of s) cs)) + length (cons_option b (filter_map block_of cs)) ≤ suc (length cs)
    told None None e_is b_is rest = omega arith
    told (Some e) None e_is b_is rest = omega arith
    told None (Some b) e_is b_is rest = omega arith
    told (Some e) (Some b) e_is b_is rest = absurd (edge_or_block s c.number c.rule e b e_is b_is)

pub graph_is_sound : (s : Sketch) → IsSoundSketch s → IsSoundGraph (graph_of s)
graph_is_sound s sound = record {
  nodes_rise = pairs_map (λ (x y : Node). x.elem.0 < y.elem.0) node_of s.elements sound.elements_rise;
  edges_rise = pairs_given (edge_of s) (λ (c d : Constraint). c.number.0 < d.number.0) (λ (x y : Edge). x.id.0 < y.id.0) (λ c d x y x_is y_is below.
      rw (given_edge_id s c x x_is, given_edge_id s d y y_is) below) s.constraints sound.constraints_rise;
  blocks_rise = pairs_given block_of (λ (c d : Constraint). c.number.0 < d.number.0) (λ (x y : Block). x.id.0 < y.id.0) (λ c d x y x_is y_is below.
      rw (given_block_id c x x_is, given_block_id d y y_is) below) s.constraints sound.constraints_rise;
  blocks_apart = blocks_apart s sound;
  few_nodes = rw length-map sound.few_elements;
  few_constraints = let few = few_given s s.constraints in let most = sound.few_constraints in omega arith;
  two_ends = λ e among. (edge_sound s sound e among).0;
  edges_measure = λ e among. (edge_sound s sound e among).1;
  blocks_sound = block_sound s sound;
}

-- a rule that is between two elements gives no block, and any other one
pub edge_unless_block : (s : Sketch) (id : ConId) (rule : Rule) → IsNone (rule_edge s id rule) ↔ IsSome (rule_block id rule)
edge_unless_block s id (Distance u v len) = (λ none. cc, λ some. cc)
edge_unless_block s id (On u v) = (λ none. cc, λ some. cc)
edge_unless_block s id (Tangent u v) = (λ none. cc, λ some. cc)
edge_unless_block s id (Outside u v) = (λ none. cc, λ some. cc)
edge_unless_block s id (Inside u v) = (λ none. cc, λ some. cc)
edge_unless_block s id (Angle l m ratio) = (λ none. cc, λ some. cc)
edge_unless_block s id (rules_of.Block pins) = (λ none. refl, λ some. refl)
