-- The boxes of starting clusters.
use Rattle.std.proofs.Common.{◌≡◌, inl, inr, ℕ, ◌+◌, List, [], ◌∷◌, Some, Result, Ok, Err, refl, ap, sym, subst, ◌∙◌, arith, get_or}
use Rattle.std.specs.Prelude.{Contains, IsSome, map}
use Rattle.std.proofs.lemmas.Int.{ints}
use Rattle.sk_base.specs.declared.Edge.{Edge}
use Rattle.sk_base.specs.declared.Block.{Block}
use Rattle.sk_base.specs.declared.Pin.{Pin}
use Rattle.sk_base.specs.declared.Elem.{Elem}
use Rattle.sk_base.specs.declared.Graph.{Graph}
use Rattle.sk_base.specs.declared.Measure.{Measure}
use Rattle.sk_base.specs.declared.Kind.{Kind}
use Rattle.sk_base.specs.declared.Measure.TheVariants.{PointPoint, PointLine, LineLine}
use Rattle.sk_base.specs.declared.Name.TheVariants.{Con, Step}
use Rattle.sk_base.specs.Numbering.{elem_number}
use Rattle.sk_base.specs.Rising.{put, union}
use Rattle.sk_base.specs.Pins.{IsOnSheet, elements_of as pinned}
use Rattle.sk_base.specs.SoundGraph.{HasNode, IsSoundGraph, Measures}
use Rattle.sk_base.proofs.Members.{contains_none, contains_one, mapped_from}
use Rattle.sk_base.proofs.Unions.{which, put_first, put_same, put_later, contains_put_cases, union_cases}
use Rattle.sk_family.specs.Body.{Start, starts, edge_start, block_start}
use Rattle.sk_family.specs.Clusters.{start_of}
use Rattle.sk_family.proofs.GraphStarts.{start_comes}
use Rattle.sk_interval.specs.declared.Cause.{Cause}
use Rattle.sk_steps.specs.declared.BoxOf.{BoxOf}
use Rattle.sk_steps.specs.declared.What.{What}
use Rattle.sk_steps.specs.Boxes.{kind_of}
use Rattle.sk_steps.specs.Leaves.{leaf, pin_box, AreMeasured}
use Rattle.sk_steps.proofs.LeafLemmas.{micrometres_within}
use Rattle.sk_steps.proofs.KindLemmas.{leaf-AreMeasured}
use Rattle.sk_tree.specs.declared.Plan.{Plan}
use Rattle.sk_tree.specs.declared.PlanStep.{PlanStep}
use Rattle.sk_tree.specs.declared.Tree.{Tree}
use Rattle.sk_tree.specs.declared.Tree.TheVariants.{Leaf, Join'}
use Rattle.sk_tree.specs.LegalPlan.{IsLegalPlan}
use Rattle.sk_place.specs.declared.boxes.BoxAt.{BoxAt}
use Rattle.sk_place.specs.declared.settling.PlaceBy.{PlaceBy}
use Rattle.sk_place.specs.Clusters.{elements_of, number_of, with_box, with_boxes}
use Rattle.sk_place.specs.Trees.{framed_of, frame_of, two_boxes, pin_at, pin_boxes, HasBoxes}
use Rattle.sk_place.specs.Running.{HasTree, AreOfKinds, ArePlaced}
use Rattle.std.proofs.lemmas.List.Elements.{Contains-get_or}
use Rattle.sk_place.specs.Rounding.{IsBoundedBox}
use Rattle.sk_place.proofs.Bounding.{leaf_bounded}
use Rattle.sk_place.proofs.Edges.{framed_edge, framed_block}
use Rattle.sk_place.proofs.PlanSteps.{named_at, join_of}

elements_put : {G : Type 0} (b : BoxAt G) (bs : List (BoxAt G)) → elements_of (with_box b bs) ≡ put elem_number b.elem (elements_of bs)
unfolding put
elements_put b [] = refl
elements_put b (y ∷ ys) = elim (which (number_of b) (number_of y)) [
  | inl first ↦ rw (put_first number_of b y ys first, put_first elem_number b.elem y.elem (elements_of ys) first) refl
  | inr (inl same) ↦ rw (put_same number_of b y ys same, put_same elem_number b.elem y.elem (elements_of ys) same) refl
  | inr (inr later) ↦ rw (put_later number_of b y ys later, put_later elem_number b.elem y.elem (elements_of ys) later)
      (ap (λ (xs : List Elem). y.elem ∷ xs) (elements_put b ys))
]

elements_union : {G : Type 0} (more bs : List (BoxAt G)) → elements_of (with_boxes more bs) ≡ union elem_number (elements_of more) (elements_of bs)
unfolding union
elements_union [] bs = refl
elements_union (b ∷ more) bs = elements_put b (with_boxes more bs) ∙ ap (λ (xs : List Elem). put elem_number b.elem xs) (elements_union more bs)

pin_elements : (G : Type 0) (F : ℕ) (pins : List Pin) → elements_of {G = G} (map (pin_at F) pins) ≡ pinned pins
pin_elements G F [] = refl
pin_elements G F (pin ∷ pins) = ap (λ (xs : List Elem). pin.elem ∷ xs) (pin_elements G F pins)

two_elements : (u v : Elem) → put elem_number u (v ∷ []) ≡ union elem_number (u ∷ v ∷ []) []
unfolding union put
two_elements u v = refl

kinds_measured : {G : Type 0} (g : Graph) (u v : Elem) (m : Measure) (found : BoxOf G × BoxOf G) → Measures g u v m → AreMeasured m found → HasNode g u (kind_of found.0) × HasNode g v (kind_of found.1)
kinds_measured g u v (PointPoint far) found h are = (subst (λ (k : Kind). HasNode g u k) (sym are.0) h.0, subst (λ (k : Kind). HasNode g v k) (sym are.1) h.1)
kinds_measured g u v (PointLine far side) found h are = (subst (λ (k : Kind). HasNode g u k) (sym are.0) h.0, subst (λ (k : Kind). HasNode g v k) (sym are.1) h.1)
kinds_measured g u v (LineLine ratio sense) found h are = (subst (λ (k : Kind). HasNode g u k) (sym are.0) h.0, subst (λ (k : Kind). HasNode g v k) (sym are.1) h.1)

pub record IsFramed {G : Type 0} (F : ℕ) (g : Graph) (s : Start) (bs : List (BoxAt G)) : Type 0 where
  pub elements : elements_of bs ≡ s.elements
  pub kinds : AreOfKinds g bs
  pub bounded : (b : BoxAt G) → Contains bs b → IsBoundedBox F b.at

pub framed : {G : Type 0} (F : ℕ) (g : Graph) (sound : IsSoundGraph g) (e : Edge) (bs : List (BoxAt G)) → Contains g.edges e → two_boxes e (leaf F e.measure) ≡ Some bs → IsFramed F g (edge_start e) bs
framed {G} F g sound e bs e_in is = told (leaf F e.measure) refl is
  where
    told : (r : Result (BoxOf G × BoxOf G) (What × Cause)) → leaf F e.measure ≡ r → two_boxes e r ≡ Some bs → IsFramed F g (edge_start e) bs
    told (Err f) r_is found = cc
    told (Ok boxes) r_is found =
        let b : BoxAt G = record { elem = e.u; at = boxes.0 } in
        let rest : List (BoxAt G) = record { elem = e.v; at = boxes.1 } ∷ [] in
        let bs_is : with_box b rest ≡ bs = cc in
        let kinds = kinds_measured g e.u e.v e.measure boxes (sound.edges_measure e e_in) (leaf-AreMeasured G F e.measure boxes (sym r_is)) in
        let limits = leaf_bounded F e.measure boxes r_is in
        record {
          elements = ap elements_of (sym bs_is) ∙ elements_put b rest ∙ two_elements e.u e.v;
          kinds = λ x h. elim (contains_put_cases number_of b rest x (subst (λ (xs : List (BoxAt G)). Contains xs x) (sym bs_is) h)) [
            | inl first ↦ subst (λ (y : BoxAt G). HasNode g y.elem (kind_of y.at)) first kinds.0
            | inr last ↦ subst (λ (y : BoxAt G). HasNode g y.elem (kind_of y.at)) (contains_one (record { elem = e.v; at = boxes.1 }) x last) kinds.1
          ];
          bounded = λ x h. elim (contains_put_cases number_of b rest x (subst (λ (xs : List (BoxAt G)). Contains xs x) (sym bs_is) h)) [
            | inl first ↦ subst (λ (y : BoxAt G). IsBoundedBox F y.at) first limits.0
            | inr last ↦ subst (λ (y : BoxAt G). IsBoundedBox F y.at) (contains_one (record { elem = e.v; at = boxes.1 }) x last) limits.1
          ];
        }

point_bounded : (G : Type 0) (F : ℕ) (pin : Pin) → IsOnSheet pin → IsBoundedBox {G = G} F (pin_box F pin)
point_bounded G F pin on_sheet = (micrometres_within F pin.x.0 (omega (arith, ints, on_sheet)), micrometres_within F pin.y.0 (omega (arith, ints, on_sheet)))

pub pins_framed : {G : Type 0} (F : ℕ) (g : Graph) → IsSoundGraph g → (b : Block) → Contains g.blocks b → IsFramed {G = G} F g (block_start b) (pin_boxes F b.pins)
pins_framed {G} F g sound b b_in =
    let of = sound.blocks_sound b b_in in
    let from : (x : BoxAt G) → Contains (pin_boxes F b.pins) x → (pin : Pin) × Contains b.pins pin × (pin_at F pin ≡ x) = λ x h. elim (union_cases number_of (map (pin_at F) b.pins) [] x h) [
      | inl left ↦ mapped_from (pin_at F) b.pins x left
      | inr right ↦ absurd (contains_none x right)
    ] in
    record {
      elements = elements_union (map (pin_at F) b.pins) [] ∙ ap (λ (xs : List Elem). union elem_number xs []) (pin_elements G F b.pins);
      kinds = λ x h. (let pin = from x h in
          subst (λ (y : BoxAt G). HasNode g y.elem (kind_of y.at)) pin.2 (subst (λ (q : Pin). HasNode g q.elem Kind.Point) pin.1.2 (of.at_points pin.1.0 pin.0 pin.1.1)));
      bounded = λ x h. (let pin = from x h in
          subst (λ (y : BoxAt G). IsBoundedBox F y.at) pin.2 (point_bounded G F pin.0 (subst IsOnSheet pin.1.2 (of.pins.on_sheet pin.1.0 pin.0 pin.1.1))));
    }

-- each tree of a constraint's name is its leaf
pub leaf_boxes_are : {G : Type 0} (placing : PlaceBy) (F : ℕ) (g : Graph) (p : Plan) (legal : IsLegalPlan g p) (k : ℕ) (bs : List (BoxAt G)) → frame_of F (framed_of g k) ≡ Some bs
    → (t : Tree) → HasTree p (Con k) t → HasBoxes placing F g p.steps t bs
leaf_boxes_are {G} placing F g p legal k bs is (Leaf c) name_is =
    let number : k ≡ c.0 = (let same : Con k ≡ Con c.0 = name_is in cc) in
    record { are = subst (λ (j : ℕ). frame_of F (framed_of g j) ≡ Some bs) number is; faultless = λ f h. absurd h }
leaf_boxes_are {G} placing F g p legal k bs is (Join' at step shared one two three) (name_is, (x, y, z, told, a, b, c)) =
    let join = join_of g p legal step shared one two three x y z told a b c in
    let place = join.1 in
    let named : join.0.step ≡ Step (1 + place.0) = ap (λ (s : PlanStep). s.step) (sym place.2) ∙ named_at g p legal place.0 join.0 place.1 in
    let never : Con k ≡ Step (1 + place.0) = name_is ∙ sym join.2.step_is ∙ named in
    absurd (cc)

-- what a start is framed by
start_framed : {G : Type 0} (F : ℕ) (g : Graph) → IsSoundGraph g → (s : Start) (bs : List (BoxAt G)) → Contains (starts g) s → frame_of F (framed_of g s.number.0) ≡ Some bs → IsFramed F g s bs
start_framed {G} F g sound s bs s_in is =
    elim (start_comes g s s_in) [
      | inl (b, b_in, b_is) ↦ (
          let there : frame_of F (framed_of g b.id.0) ≡ Some bs = subst (λ (t : Start). frame_of F (framed_of g t.number.0) ≡ Some bs) (sym b_is) is in
          let bs_is : pin_boxes F b.pins ≡ bs = boxes_same (rw (framed_block g sound b b_in) at there) in
          subst (λ (t : Start). IsFramed F g t bs) b_is (subst (λ (xs : List (BoxAt G)). IsFramed F g (block_start b) xs) bs_is (pins_framed F g sound b b_in)))
      | inr (e, e_in, e_is) ↦ (
          let there : frame_of F (framed_of g e.id.0) ≡ Some bs = subst (λ (t : Start). frame_of F (framed_of g t.number.0) ≡ Some bs) (sym e_is) is in
          subst (λ (t : Start). IsFramed F g t bs) e_is (framed F g sound e bs e_in (rw (framed_edge g sound e e_in) at there)))
    ]
  where
    boxes_same : {xs ys : List (BoxAt G)} → Some xs ≡ Some ys → xs ≡ ys
    boxes_same e = cc

-- what starts is there
pub start_there : (g : Graph) → IsSoundGraph g → (s : Start) → Contains (starts g) s → IsSome (framed_of g s.number.0)
start_there g sound s s_in =
    elim (start_comes g s s_in) [
      | inl (b, b_in, b_is) ↦ subst (λ (t : Start). IsSome (framed_of g t.number.0)) b_is (rw (framed_block g sound b b_in) refl)
      | inr (e, e_in, e_is) ↦ subst (λ (t : Start). IsSome (framed_of g t.number.0)) e_is (rw (framed_edge g sound e e_in) refl)
    ]

pub start_placed : {G : Type 0} (placing : PlaceBy) (F : ℕ) (g : Graph) (p : Plan) → IsSoundGraph g → IsLegalPlan g p → (s : Start) (bs : List (BoxAt G)) → Contains (starts g) s
    → frame_of F (framed_of g s.number.0) ≡ Some bs → ArePlaced placing F g p (start_of s) bs
start_placed placing F g p sound legal s bs s_in is =
    let boxes = start_framed F g sound s bs s_in is in
    record { elements = boxes.elements; kinds = boxes.kinds; bounded = λ k d below. boxes.bounded (get_or bs k d) (Contains-get_or bs k d below); trees = λ t h. leaf_boxes_are placing F g p legal s.number.0 bs is t h }
