-- What `plan` and `solve` print of a sketch is a claim that is accepted, and the places alone are read.
use Rattle.std.proofs.Common.{◌≡◌, ◌≢◌, inl, inr, ℕ, ◌+◌, ◌*◌, ◌-◌, ◌<◌, ◌≤◌, pos, List, [], ◌∷◌, ◌++◌, length, get_or, map, Option, None, Some, refl, sym, ap, subst, ◌∙◌, arith}
use Rattle.std.specs.Prelude.{AllPairs, Contains, IsSome, unwrap_or}
use Rattle.std.specs.Option.{option_map}
use Rattle.std.proofs.lemmas.List.Elements.{Contains-append_left, Contains-append_right, Contains-append_cases}
use Rattle.sk_base.specs.declared.At.{At}
use Rattle.sk_base.specs.declared.At.TheVariants as at
use Rattle.sk_base.specs.declared.Block.{Block}
use Rattle.sk_base.specs.declared.ConId.{ConId}
use Rattle.sk_base.specs.declared.Constraint.{Constraint}
use Rattle.sk_base.specs.declared.Edge.{Edge}
use Rattle.sk_base.specs.declared.Elem.{Elem}
use Rattle.sk_base.specs.declared.Element.{Element}
use Rattle.sk_base.specs.declared.Graph.{Graph}
use Rattle.sk_base.specs.declared.Name.TheVariants.{Con}
use Rattle.sk_base.specs.declared.Node.{Node}
use Rattle.sk_base.specs.declared.Placed.{Placed}
use Rattle.sk_base.specs.declared.Shape.{Shape}
use Rattle.sk_base.specs.declared.Shape.TheVariants.{Point, Line, Circle}
use Rattle.sk_base.specs.declared.Sketch.{Sketch}
use Rattle.sk_base.specs.declared.Spot.{Spot}
use Rattle.sk_base.specs.Places.{place_of, IsBounded}
use Rattle.sk_base.specs.SoundGraph.{IsSoundGraph}
use Rattle.sk_base.specs.SoundSketch.{IsSoundSketch}
use Rattle.sk_base.proofs.Members.{contains_none, contains_head, contains_later, contains_one, contains_cases, contains_mapped, mapped_from}
use Rattle.sk_base.proofs.Pairs.{pairs_none, pairs_head, pairs_tail, pairs_cons}
use Rattle.sk_base.proofs.Unions.{union_right, union_cases}
use Rattle.sk_family.specs.Body.{Start, starts}
use Rattle.sk_family.proofs.GraphStarts.{start_comes}
use Rattle.sk_graph.specs.SketchGraph.{edge_of, block_of, graph_of, node_of, drawn_as}
use Rattle.sk_graph.proofs.Given.{given_from}
use Rattle.sk_graph.proofs.Soundness.{graph_is_sound, given_edge_id, given_block_id}
use Rattle.sk_lang.specs.Renumbered.{constraints_from, renumbered}
use Rattle.sk_place.specs.Rounding.{rounded}
use Rattle.sk_tolerance.specs.declared.Tolerance.{Tolerance}
use Rattle.sk_measure.specs.Placing.{lies, HasKind, IsPlacedAs, AreSpotsOf, PlacesExactly}
use Rattle.sk_measure.specs.Items.{Item, constraint, block}
use Rattle.sk_tolerance.specs.Tolerances.{number_of, angles, between, normals, rigid, distances, constraints, lengthwise, anglewise, everything}
use Rattle.sk_tolerance.proofs.Merging.{block_in}
use Rattle.sk_measure.proofs.InOrder.{spots_rise}
use Rattle.sk_tolerance.proofs.Worsts.{contains_flat, on_distance, on_angle}
use Rattle.sk_tree.specs.declared.Plan.{Plan as ThePlan}
use Rattle.sk_tree.specs.LegalPlan.{numbers_of, IsLegalPlan}
use Rattle.sk_claims.specs.declared.claim.Radius.{Radius}
use Rattle.sk_claims.specs.Claims.{IsFitting, radius_nm}
use Rattle.sk_verify.specs.AsClaimed.{HasItsRadius}
use Rattle.sk_claims.specs.ClaimReading.{ReadsClaim}
use Rattle.sk_claims.specs.ClaimText.{radius_drawn, radii_drawn, places_drawn}
use Rattle.sk_claims.specs.PlaceReading.{ReadsPlaces}
use Rattle.sk_claims.proofs.PlacesBack.{places_back}
use Rattle.sk_verify.specs.Failing.{AllTold, IsAccepted}
use Rattle.sk_claims.specs.Printed.{HasPlainNumber}
use Rattle.sk_verify.proofs.Accepting.{accepted_so}
use Rattle.sk_claims.proofs.FittingClaims.{spot_of}
use Rattle.sk_claims.proofs.SaidElements.{found_so, drawn_so}
use Rattle.sk_claims.proofs.SaidSteps.{said_steps}
use Rattle.sk_claims.proofs.WrittenClaims.{reads_written}
use Rattle.sk_request.specs.Asking.{WithinKey, values_of, IsLimit, Says, Asks}
use Rattle.sk_request.specs.Grids.{grid_of, digits_of}
use Rattle.sk_request.specs.declared.Request.{Request}
use Rattle.sk_laws.specs.Headline.{HoldsAt}
use Rattle.sk_laws.specs.PrintedClaim.{printed_text, printed_places, printed_claim}
use Rattle.sk_cli.proofs.PlacedSpots.{laid_spots}
use Rattle.sk_laws.proofs.PrintedLines.{IsFound, text_of_claim, text_of_places}

-- ---- the limit of tolerance

limit_said : (values : List (List ℕ)) (n : ℕ) → Says IsLimit 1000 values n → n ≤ 1000000
limit_said [] n is = omega arith
limit_said (v ∷ []) n is = is.2
limit_said (v ∷ w ∷ more) n is = absurd is

pub limit_small : (words : List (List ℕ)) (request : Request) → Asks words request → request.within ≤ 1000000
limit_small [] request asks = absurd asks
limit_small (command ∷ keys) request asks = limit_said (values_of WithinKey keys) request.within asks.1.within

module _ (g : Graph) (sound : IsSoundGraph g) where
  constraint_in : (e : Edge) → Contains g.edges e → Contains (everything g) (constraint e)
  constraint_in e e_in =
      Contains-append_right (normals g.nodes) (constraints g) (constraint e) (union_right number_of (rigid g.blocks) (between g.edges) (constraint e) (contains_mapped (λ (x : Edge). constraint x) g.edges e e_in))

  length_in : (item : Item) → Contains (lengthwise g) item → Contains (everything g) item
  length_in item h =
      elim (union_cases number_of (rigid g.blocks) (distances g.edges) item h) [
        | inl of_block ↦ (
            let found = mapped_from (λ (b : Block). block b) g.blocks item of_block in
            subst (λ i. Contains (everything g) i) found.2 (Contains-append_right (normals g.nodes) (constraints g) (block found.0) (block_in g sound.blocks_rise sound.blocks_apart found.0 found.1)))
        | inr distance ↦ (let found = on_distance g.edges item distance in subst (λ i. Contains (everything g) i) found.2 (constraint_in found.0 found.1))
      ]

  angle_in : (item : Item) → Contains (anglewise g) item → Contains (everything g) item
  angle_in item h =
      elim (Contains-append_cases (normals g.nodes) (angles g.edges) item h) [
        | inl line ↦ Contains-append_left (normals g.nodes) (constraints g) item line
        | inr angle ↦ (let found = on_angle g.edges item angle in subst (λ i. Contains (everything g) i) found.2 (constraint_in found.0 found.1))
      ]

-- ---- the numbers of constraints

counted : (s : Sketch) (n : ℕ) (cs : List Constraint) (c : Constraint) → Contains (constraints_from s n cs) c → (n ≤ c.number.0) × (c.number.0 < n + length cs)
counted s n [] c h = absurd (contains_none c h)
counted s n (d ∷ cs) c h =
    elim (contains_cases _ (constraints_from s (n + 1) cs) c h) [
      | inl here ↦ (let same : n ≡ c.number.0 = ap (λ (x : Constraint). x.number.0) here in (omega arith, omega arith))
      | inr later ↦ (let rest = counted s (n + 1) cs c later in let low = rest.0 in let high = rest.1 in (omega arith, omega arith))
    ]

module _ (s : Sketch) (sound : IsSoundSketch s) (numbered : renumbered s ≡ s) where
  plain_constraint : (c : Constraint) → Contains s.constraints c → HasPlainNumber (Con c.number.0)
  plain_constraint c there =
      let few = sound.few_constraints in
      let is : s.constraints ≡ constraints_from s 1 s.constraints = ap (λ (z : Sketch). z.constraints) (sym numbered) in
      let count = counted s 1 s.constraints c (subst (λ (cs : List Constraint). Contains cs c) is there) in
      let low = count.0 in
      let high = count.1 in (omega arith, omega arith)

  plain_numbers : (k : ConId) → Contains (numbers_of (graph_of s)) k → HasPlainNumber (Con k.0)
  plain_numbers k there =
      let g = graph_of s in
      let start = mapped_from (λ (x : Start). x.number) (starts g) k there in
      elim (start_comes g start.0 start.1) [
        | inl (b, b_in, is) ↦ (
            let of = given_from block_of s.constraints b b_in in
            let same : of.0.number ≡ k = sym (given_block_id of.0 b of.2) ∙ ap (λ (x : Start). x.number) is ∙ start.2 in
            subst (λ (n : ConId). HasPlainNumber (Con n.0)) same (plain_constraint of.0 of.1))
        | inr (e, e_in, is) ↦ (
            let of = given_from (edge_of s) s.constraints e e_in in
            let same : of.0.number ≡ k = sym (given_edge_id s of.0 e of.2) ∙ ap (λ (x : Start). x.number) is ∙ start.2 in
            subst (λ (n : ConId). HasPlainNumber (Con n.0)) same (plain_constraint of.0 of.1))
      ]

-- ---- radii

radius_from : (e : Elem) (shape : Shape) (r : Radius) → Contains (radius_drawn e shape) r → e ≡ r.elem
radius_from e (Point x y) r h = absurd (contains_none r h)
radius_from e (Line x1 y1 x2 y2) r h = absurd (contains_none r h)
radius_from e (Circle x y q) r h = ap (λ (z : Radius). z.elem) (contains_one _ r h)

radii_from : (s : Sketch) (spots : List Spot) (r : Radius) → Contains (radii_drawn s spots) r → (x : Spot) × Contains spots x × (x.elem ≡ r.elem)
radii_from s [] r h = absurd (contains_none r h)
radii_from s (x ∷ spots) r h =
    elim (Contains-append_cases (radius_drawn x.elem (drawn_as s x.elem)) (radii_drawn s spots) r h) [
      | inl here ↦ (x, contains_head x spots, radius_from x.elem (drawn_as s x.elem) r here)
      | inr later ↦ (let found = radii_from s spots r later in (found.0, contains_later x spots found.0 found.1, found.2))
    ]

radii_apart : (s : Sketch) (spots : List Spot) → AllPairs (λ (x y : Spot). x.elem ≢ y.elem) spots → AllPairs (λ (x y : Radius). x.elem ≢ y.elem) (radii_drawn s spots)
radii_apart s [] apart = pairs_none (λ (x y : Radius). x.elem ≢ y.elem)
radii_apart s (x ∷ spots) apart = by (drawn_as s x.elem) (radii_apart s spots (pairs_tail (λ (p q : Spot). p.elem ≢ q.elem) x spots apart))
  where
    by : (shape : Shape) → AllPairs (λ (p q : Radius). p.elem ≢ q.elem) (radii_drawn s spots) → AllPairs (λ (p q : Radius). p.elem ≢ q.elem) (radius_drawn x.elem shape ++ radii_drawn s spots)
    by (Point u v) rest = rest
    by (Line x1 y1 x2 y2) rest = rest
    by (Circle u v r) rest =
        pairs_cons (λ (p q : Radius). p.elem ≢ q.elem) (record { elem = x.elem; nm = radius_nm r.0 }) (radii_drawn s spots) rest (λ q h same.
        (let from = radii_from s spots q h in pairs_head (λ (p q : Spot). p.elem ≢ q.elem) x spots apart from.0 from.1 (same ∙ sym from.2)))

-- what is somewhere is found there
some_is : (o : Option At) (x : At) → IsSome o → x ≡ unwrap_or o (at.Point (pos 0) (pos 0)) → o ≡ Some x
some_is None x is same = absurd (cc)
some_is (Some y) x is same = ap (λ (z : At). Some z) (sym same)

-- places of all elements of a sketch, and of no others, are read as they are written
module _ (s : Sketch) (sound : IsSoundSketch s) (here : Placed) (are_spots : AreSpotsOf (graph_of s).nodes here.spots) (exactly : PlacesExactly (graph_of s) here) where
  places_apart : AllPairs (λ (x y : Spot). x.elem ≢ y.elem) here.spots
  places_apart i j d i_j j_len same =
      let below : (get_or here.spots i d).elem.0 < (get_or here.spots j d).elem.0 = spots_rise (graph_of s).nodes here.spots are_spots (graph_is_sound s sound).nodes_rise i j d i_j j_len in
      let level : (get_or here.spots i d).elem.0 ≡ (get_or here.spots j d).elem.0 = ap (λ (e : Elem). e.0) same in
      omega arith

  node_at : (spot : Spot) → Contains here.spots spot → (n : Node) × Contains (graph_of s).nodes n × (n.elem ≡ spot.elem) × IsPlacedAs here spot.elem n.kind
  node_at spot there =
      let known = exactly.no_others spot there in
      (known.0, known.1, known.2, subst (λ (e : Elem). IsPlacedAs here e known.0.kind) known.2 (exactly.nodes known.0 known.1))

  pub spot_there : (spot : Spot) → Contains here.spots spot → place_of here spot.elem ≡ Some spot.at
  spot_there spot there = (let of = node_at spot there in some_is (place_of here spot.elem) spot.at of.3.placed (of.3.once spot there refl))

  pub element_found : (e : Element) → Contains s.elements e → IsFound s e
  element_found e there = record {
    name = ap (λ (o : Option Element). unwrap_or (option_map (λ (y : Element). y.label) o) []) (found_so s sound e there);
    drawn = sym (drawn_so s sound e.number e there refl);
  }

  pub fit_there : IsFitting (graph_of s) (places_drawn s here)
  fit_there = record {
    spots = λ spot there.
        (let of = node_at spot there in
        let lie : spot.at ≡ lies here spot.elem = of.3.once spot there refl in (
          of.0,
          of.1,
          record {
            elem = of.2;
            has_kind = subst (λ (q : At). HasKind of.0.kind q) (sym lie) of.3.has_kind;
            bounded = subst (λ (q : At). IsBounded q) (sym lie) of.3.bounded;
          },
        ));
    spots_differ = places_apart;
    radii_differ = radii_apart s here.spots places_apart;
    t = omega arith;
    w = omega arith;
  }

  own_radius : (x : Element) → Contains s.elements x → (shape : Shape) → shape ≡ drawn_as s x.number → (spot : Spot) → Contains here.spots spot → spot.elem ≡ x.number
      → HasItsRadius (radii_drawn s here.spots) x.number shape
  own_radius x x_in (Point u v) drawn spot there same = tt
  own_radius x x_in (Line x1 y1 x2 y2) drawn spot there same = tt
  own_radius x x_in (Circle u v r) drawn spot there same =
      let shape : Circle u v r ≡ drawn_as s spot.elem = drawn ∙ ap (drawn_as s) (sym same) in
      let radius : Radius = record { elem = x.number; nm = radius_nm r.0 } in
      contains_flat (λ (y : Spot). radius_drawn y.elem (drawn_as s y.elem)) here.spots spot radius there
      (subst (λ (z : Shape). Contains (radius_drawn spot.elem z) radius) shape
      (subst (λ (e : Elem). Contains (radius_drawn e (Circle u v r)) radius) (sym same) (contains_head radius [])))

  pub told_there : AllTold (places_drawn s here) s.elements
  told_there x x_in =
      let is = exactly.nodes (node_of x) (contains_mapped node_of s.elements x x_in) in
      let at_spot = spot_of here x.number is.placed in
      record { placed = is.placed; radius = own_radius x x_in x.shape (drawn_so s sound x.number x x_in refl) at_spot.0 at_spot.1 at_spot.2 }

  pub read_there : ReadsPlaces s (printed_places s here) (places_drawn s here)
  read_there = subst (λ (text : List ℕ). ReadsPlaces s text (places_drawn s here)) (sym (text_of_places s here are_spots element_found spot_there)) (places_back s here sound fit_there)

module _ (s : Sketch) (sound : IsSoundSketch s) (numbered : renumbered s ≡ s) (words : List (List ℕ)) (request : Request) (asks : Asks words request) (p : ThePlan) (here : Placed) (t : Tolerance) (holds : HoldsAt request s p here t) where
  graph : IsSoundGraph (graph_of s)
  graph = graph_is_sound s sound

  legal : IsLegalPlan (graph_of s) p
  legal = holds.plan.legal

  are_spots : AreSpotsOf (graph_of s).nodes here.spots
  are_spots =
      let lie = holds.lie in
      let spots : here.spots ≡ map (rounded (digits_of request.bits)) lie.0 = ap (λ (z : Placed). z.spots) lie.2 in
      subst (λ (xs : List Spot). AreSpotsOf (graph_of s).nodes xs) (sym spots)
      (laid_spots (grid_of request.bits) request.layout (digits_of request.bits) s p graph legal lie.0 lie.1)

  fits_here : IsFitting (graph_of s) (printed_claim s p here t)
  fits_here =
      let limit = limit_small words request asks in
      let lengths = holds.least.lengths.least request.within (λ item h. holds.within item (length_in (graph_of s) graph item h)) in
      let angles = holds.least.angles.least request.within (λ item h. holds.within item (angle_in (graph_of s) graph item h)) in
      let fit = fit_there s sound here are_spots holds.exactly in
      record { spots = fit.spots; spots_differ = fit.spots_differ; radii_differ = fit.radii_differ; t = omega (arith, limit, lengths); w = omega (arith, limit, angles) }

  pub places_read : ReadsPlaces s (printed_places s here) (places_drawn s here)
  places_read = read_there s sound here are_spots holds.exactly

  pub places_told : AllTold (places_drawn s here) s.elements
  places_told = told_there s sound here are_spots holds.exactly

  all_told : AllTold (printed_claim s p here t) s.elements
  all_told x x_in = (let told = places_told x x_in in record { placed = told.placed; radius = told.radius })

  module _ (few : 2 * length p.steps ≡ length (graph_of s).edges + length (graph_of s).blocks - 1) where
    pub printed_reads : ReadsClaim s (printed_text s p here t) (printed_claim s p here t)
    printed_reads =
        let most = graph.few_constraints in
        let short : length p.steps ≤ 999999 = omega (arith, few, most) in
        subst (λ (text : List ℕ). ReadsClaim s text (printed_claim s p here t)) (sym (text_of_claim s p here t are_spots (element_found s sound here are_spots holds.exactly) (spot_there s sound here are_spots holds.exactly)))
        (reads_written s sound (printed_claim s p here t) fits_here (said_steps s p legal short (plain_numbers s sound numbered)) refl)

  pub printed_accepted : IsAccepted s (graph_of s) (printed_claim s p here t)
  printed_accepted =
      accepted_so s (graph_of s) (printed_claim s p here t) (record { leaves = refl; steps = legal.steps }) holds.plan.drawn all_told holds.holds holds.drawn
