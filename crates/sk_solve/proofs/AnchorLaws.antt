-- The anchor of a plan is printed exactly where it is drawn.
use Rattle.std.proofs.Common.{◌≡◌, ◌≢◌, inl, inr, ℕ, ◌≤◌, pos, true, false, List, [], ◌∷◌, Option, Some, None, Result, Ok, refl, ap, sym, subst, ◌∙◌, arith}
use Rattle.std.specs.Prelude.{map, ◌==◌}
use Rattle.std.proofs.lemmas.Bool.{cases_Bool}
use Rattle.std.proofs.lemmas.Bool.Decides.{nat_tests}
use Rattle.std.proofs.lemmas.Int.{ints}
use Rattle.std.proofs.lemmas.Option.{same_Some}
use Rattle.sk_base.specs.declared.Block.{Block}
use Rattle.sk_base.specs.declared.ConId.{ConId}
use Rattle.sk_base.specs.declared.Edge.{Edge}
use Rattle.sk_base.specs.declared.Elem.{Elem}
use Rattle.sk_base.specs.declared.Graph.{Graph}
use Rattle.sk_base.specs.declared.Kind.{Kind}
use Rattle.sk_base.specs.declared.Kind.TheVariants as kinds
use Rattle.sk_base.specs.declared.Measure.{Measure}
use Rattle.sk_base.specs.declared.Measure.TheVariants.{PointPoint, PointLine, LineLine}
use Rattle.sk_base.specs.declared.Name.{Name}
use Rattle.sk_base.specs.declared.Node.{Node}
use Rattle.sk_base.specs.declared.Pin.{Pin}
use Rattle.sk_base.specs.declared.Sketch.{Sketch}
use Rattle.sk_base.specs.Lookups.{edge_numbered, block_numbered}
use Rattle.sk_base.specs.Pins.{AreSoundPins}
use Rattle.sk_base.specs.Places.{place_of}
use Rattle.sk_base.specs.SoundGraph.{IsSoundGraph}
use Rattle.sk_base.specs.SoundSketch.{IsSoundSketch}
use Rattle.sk_base.proofs.Finding.{found_in}
use Rattle.sk_base.proofs.Members.{contains_none, contains_one, contains_head, contains_cases}
use Rattle.sk_interval.specs.declared.Cause.{Cause}
use Rattle.sk_interval.specs.Operations.{of_micrometres, whole}
use Rattle.sk_orient.specs.declared.Vector.{Vector}
use Rattle.sk_orient.specs.DrawnSigns.{place_of as drawn_place}
use Rattle.sk_graph.specs.SketchGraph.{graph_of, drawn_as}
use Rattle.sk_steps.specs.declared.BoxOf.{BoxOf}
use Rattle.sk_steps.specs.declared.BoxOf.TheVariants.{Point, Line}
use Rattle.sk_steps.specs.declared.What.{What}
use Rattle.sk_steps.specs.Expressions.{with_sign}
use Rattle.sk_steps.specs.Leaves.{leaf, by_sign, IsSoundMeasure}
use Rattle.sk_steps.specs.declared.Motion.{Motion}
use Rattle.sk_steps.specs.Carried.{carried}
use Rattle.sk_tree.specs.declared.Plan.{Plan}
use Rattle.sk_tree.specs.declared.Tree.{Tree}
use Rattle.sk_tree.specs.LastName.{last_name}
use Rattle.sk_tree.specs.LegalPlan.{IsLegalPlan}
use Rattle.sk_tree.specs.PlanTree.{IsPlanTree}
use Rattle.sk_tree.proofs.LastNames.{IsLastName, last_named}
use Rattle.sk_place.specs.declared.BoxAt.{BoxAt}
use Rattle.sk_place.specs.declared.PlaceBy.{PlaceBy}
use Rattle.sk_place.specs.Carrying.{box_faulty, and_then, carried_each}
use Rattle.sk_place.specs.Clusters.{Holds, box_of, elements_of, with_box}
use Rattle.sk_place.specs.Placing.{IsPlaced, lone_box}
use Rattle.sk_place.specs.Rounding.{rounded_box}
use Rattle.sk_place.specs.Settling.{settled_box}
use Rattle.sk_place.specs.Trees.{edge, block, framed_of, frame_of, two_boxes, pin_boxes}
use Rattle.sk_steps.proofs.SoundMeasures.{edge_measured}
use Rattle.sk_place.proofs.Edges.{edge_found, framed_edge}
use Rattle.sk_place.proofs.Ending.{tree_named, leaf_there}
use Rattle.sk_place.proofs.Results.{then_ok, box_ok, ok_inside}
use Rattle.sk_place.specs.declared.FrameBy.TheVariants.{Drawn}
use Rattle.sk_frame.specs.Bases.{constraint_named, base_in}
use Rattle.sk_frame.specs.Crossings.{nanometres}
use Rattle.sk_frame.specs.Frames.{measured_frame, block_frame, lone_frame, found_frame, based_frame, frame_of as frame_in, given_place}
use Rattle.sk_frame.proofs.SoundFrames.{frame_is_sound}
use Rattle.sk_solve.specs.Anchors.{measured_anchor, first_pinned, lone_anchor, first_anchor, constraint_anchor, based_anchor, anchor_of, at_place, LiesAsDrawn}
use Rattle.sk_solve.specs.Placements.{midpoints, IsLaid}
use Rattle.sk_solve.proofs.AnchorBoxes.{nothing_is, signed_is, small_of, point_at, LiesAt, put_there, points_leaf, mixed_leaf, first_pin}
use Rattle.sk_solve.proofs.AnchorPlaces.{place_printed}
use Rattle.sk_solve.proofs.BasePlaces.{based}

same_number : (e : Elem) → (e.0 == e.0) ≡ true
same_number e = grind (arith, nat_tests)

module _ {G : Type 0} (by : PlaceBy) (F : ℕ) where
  -- ---- an element whose box is carried

  pub record IsCarriedAt (m : Motion G) (bs there : List (BoxAt G)) (e : Elem) : Type 0 where
    pub at : BoxOf G
    pub made : settled_box by F (carried F m (box_of bs e)) ≡ Ok at
    pub printed : place_of (midpoints F there) e ≡ Some (rounded_box F at)

  pub carried_at : (m : Motion G) (bs there : List (BoxAt G)) (e : Elem) → carried_each by F m bs ≡ Ok there → Holds bs e → IsCarriedAt m bs there e
  carried_at m [] there e is h = absurd (contains_none e h)
  carried_at m (b ∷ bs) there e is h =
      let first = then_ok (box_faulty b.elem (settled_box by F (carried F m b.at))) (λ at. and_then (carried_each by F m bs) (λ rest. Ok (record { elem = b.elem; at = at } ∷ rest))) there is in
      let at : BoxOf G = first.0 in
      let made : settled_box by F (carried F m b.at) ≡ Ok at = box_ok b.elem (settled_box by F (carried F m b.at)) at first.1 in
      let rest = then_ok (carried_each by F m bs) (λ rest. Ok (record { elem = b.elem; at = at } ∷ rest)) there first.2 in
      let there_is : record { elem = b.elem; at = at } ∷ rest.0 ≡ there = ok_inside (record { elem = b.elem; at = at } ∷ rest.0) there rest.2 in
      subst (λ (l : List (BoxAt G)). IsCarriedAt m (b ∷ bs) l e) there_is
      (elim (cases_Bool (b.elem.0 == e.0)) [
        | inl is_here ↦ record { at = at; made = rw is_here made; printed = rw is_here refl }
        | inr isnt ↦ (
            let later : Holds bs e = elim (contains_cases b.elem (elements_of bs) e h) [
              | inl same ↦ (let never : true ≡ false = sym (same_number e) ∙ ap (λ (x : Elem). x.0 == e.0) (sym same) ∙ isnt in absurd (cc))
              | inr further ↦ further
            ] in
            let found = carried_at m bs rest.0 e rest.1 later in
            record { at = found.at; made = rw isnt found.made; printed = rw isnt found.printed })
      ])

  -- ---- the anchor in its own frame

  module _ (s : Sketch) where
    pub record IsAnchored (f_from f_to : Vector) (bs : List (BoxAt G)) (e : Elem) : Type 0 where
      pub lies : LiesAt F bs e f_from
      pub to : f_to ≡ nanometres (drawn_place (drawn_as s e))

    first_lies : (x : Edge) → x.u ≢ x.v → (v : Vector) (at other : BoxOf G) → at ≡ point_at F v → (r : Result (BoxOf G × BoxOf G) (What × Cause)) → r ≡ Ok (at, other)
        → (own : List (BoxAt G)) → two_boxes x r ≡ Some own → LiesAt F own x.u v
    first_lies x apart v at other at_is r r_is own own_is =
        let there : with_box (record { elem = x.u; at = at }) (record { elem = x.v; at = other } ∷ []) ≡ own =
        same_Some (with_box (record { elem = x.u; at = at }) (record { elem = x.v; at = other } ∷ [])) own (sym (ap (two_boxes x) r_is) ∙ own_is) in
        subst (λ (l : List (BoxAt G)). LiesAt F l x.u v) there
        (put_there F x.u v at (record { elem = x.v; at = other } ∷ []) (λ i j d below inside. absurd (omega arith)) (λ h. apart (sym (contains_one x.v x.u h))) at_is)

    edge_anchored : (x : Edge) → x.u ≢ x.v → (m : Measure) → IsSoundMeasure m → (own : List (BoxAt G)) → two_boxes x (leaf F m) ≡ Some own → (e : Elem) → measured_anchor m x.u ≡ Some e
        → (let f = measured_frame m (drawn_as s x.u) (drawn_as s x.v) in IsAnchored f.from f.to own e)
    edge_anchored x apart (LineLine ratio sense) sound own own_is e e_is = (let never : None ≡ Some e = e_is in absurd (cc))
    edge_anchored x apart (PointPoint far) sound own own_is e e_is =
        let v : Vector = record { x = pos 0; y = pos 0 } in
        let at_is : Point (whole F (pos 0)) (whole F (pos 0)) ≡ point_at F v = ap (λ z. let made : BoxOf G = Point z z in made) (nothing_is F) in
        subst (λ (d : Elem). IsAnchored v (nanometres (drawn_place (drawn_as s x.u))) own d) (same_Some x.u e e_is)
        (record {
          lies = first_lies x apart v (Point (whole F (pos 0)) (whole F (pos 0))) (Point (of_micrometres F far.0) (whole F (pos 0))) at_is
              (leaf F (PointPoint far)) (points_leaf G F far (small_of far.0 (omega (arith, ints, sound.0)) sound.1)) own own_is;
          to = refl;
        })
    edge_anchored x apart (PointLine far side) sound own own_is e e_is =
        let v : Vector = record { x = pos 0; y = by_sign side far.0 } in
        let height = with_sign side (of_micrometres F far.0) in
        let at_is : Point (whole F (pos 0)) height ≡ point_at F v =
        ap (λ z. let made : BoxOf G = Point z height in made) (nothing_is F) ∙ ap (λ z. let made : BoxOf G = Point (of_micrometres F (pos 0)) z in made) (signed_is F side far.0) in
        subst (λ (d : Elem). IsAnchored v (nanometres (drawn_place (drawn_as s x.u))) own d) (same_Some x.u e e_is)
        (record {
          lies = first_lies x apart v (Point (whole F (pos 0)) height) (Line (whole F (pos 0)) (whole F (pos 1)) (whole F (pos 0))) at_is
              (leaf F (PointLine far side)) (mixed_leaf G F far side (small_of far.0 sound.0 (omega (arith, ints, sound.1)))) own own_is;
          to = refl;
        })

    block_anchored : (pins : List Pin) → AreSoundPins pins → (e : Elem) → first_pinned pins ≡ Some e
        → (let f = block_frame s pins in IsAnchored f.from f.to (pin_boxes F pins) e)
    block_anchored [] sound e e_is = (let never : None ≡ Some e = e_is in absurd (cc))
    block_anchored (p ∷ []) sound e e_is = (let two = sound.at_least in absurd (omega (arith, two)))
    block_anchored (p ∷ q ∷ pins) sound e e_is =
        subst (λ (d : Elem). IsAnchored (given_place p) (nanometres (drawn_place (drawn_as s p.elem))) (pin_boxes F (p ∷ q ∷ pins)) d) (same_Some p.elem e e_is)
        (record { lies = first_pin F p (q ∷ pins) sound; to = refl })

    lone_anchored : (nodes : List Node) (e : Elem) → first_anchor nodes ≡ Some e
        → (let f = lone_frame s nodes in IsAnchored f.from f.to (map (λ (n : Node). let b : BoxAt G = record { elem = n.elem; at = lone_box F n.kind } in b) nodes) e)
    lone_anchored [] e e_is = (let never : None ≡ Some e = e_is in absurd (cc))
    lone_anchored (n ∷ others) e e_is = of_kind n.kind refl e_is
      where
        list : List (BoxAt G)
        list = map (λ (x : Node). let b : BoxAt G = record { elem = x.elem; at = lone_box F x.kind } in b) (n ∷ others)

        of_kind : (k : Kind) → n.kind ≡ k → lone_anchor k n.elem ≡ Some e → IsAnchored (record { x = pos 0; y = pos 0 }) (nanometres (drawn_place (drawn_as s n.elem))) list e
        of_kind kinds.Line k_is is = (let never : None ≡ Some e = is in absurd (cc))
        of_kind kinds.Point k_is is =
            let v : Vector = record { x = pos 0; y = pos 0 } in
            let at_is : Point (whole F (pos 0)) (whole F (pos 0)) ≡ point_at F v = ap (λ z. let made : BoxOf G = Point z z in made) (nothing_is F) in
            subst (λ (d : Elem). IsAnchored v (nanometres (drawn_place (drawn_as s n.elem))) list d) (same_Some n.elem e is)
            (record {
              lies = record { holds = contains_head n.elem (elements_of (map (λ (x : Node). let b : BoxAt G = record { elem = x.elem; at = lone_box F x.kind } in b) others)); is = rw (same_number n.elem) (ap (λ (k : Kind). lone_box {G = G} F k) k_is ∙ at_is) };
              to = refl;
            })

    module _ (g : Graph) (sound : IsSoundGraph g) where
      constraint_anchored : (k : ℕ) (own : List (BoxAt G)) → frame_of F (framed_of g k) ≡ Some own → (x : Option Edge) → edge_numbered g k ≡ x → (y : Option Block) → block_numbered g k ≡ y
          → (e : Elem) → constraint_anchor x y ≡ Some e → (let f = found_frame s x y in IsAnchored f.from f.to own e)
      constraint_anchored k own own_is None x_is None y_is e e_is = (let never : None ≡ Some e = e_is in absurd (cc))
      constraint_anchored k own own_is None x_is (Some b) y_is e e_is =
          let framed : framed_of g k ≡ Some (block b) = rw y_is refl in
          let own_same : pin_boxes F b.pins ≡ own = same_Some (pin_boxes F b.pins) own (sym (ap (frame_of F) framed) ∙ own_is) in
          subst (λ (l : List (BoxAt G)). (let f = block_frame s b.pins in IsAnchored f.from f.to l e)) own_same
          (block_anchored b.pins (sound.blocks_sound b (found_in (λ (z : Block). z.id.0 == k) g.blocks b y_is).0).pins e e_is)
      constraint_anchored k own own_is (Some x) x_is y y_is e e_is =
          let found = edge_found g k x x_is in
          let framed : framed_of g k ≡ Some (edge x) = subst (λ (i : ℕ). framed_of g i ≡ Some (edge x)) found.number (framed_edge g sound x found.there) in
          edge_anchored x (sound.two_ends x found.there) x.measure (edge_measured g sound k x x_is) own (sym (ap (frame_of F) framed) ∙ own_is) e e_is

      module _ (p : Plan) (legal : IsLegalPlan g p) (tree : ¬ (p.leaves ≡ []) → (t : Tree) × IsPlanTree p t) where
        from_base : (o : Option ConId) → base_in p.steps (last_name p) ≡ o → (bs : List (BoxAt G)) → IsPlaced by F g p (Ok bs) → (e : Elem) → based_anchor g o ≡ Some e → IsLastName p (last_name p)
            → (let f = based_frame s g o in IsAnchored f.from f.to bs e)
        from_base o o_is bs placed e e_is name = told (last_name p) refl name
          where
            told : (m : Option Name) → last_name p ≡ m → IsLastName p m → (let f = based_frame s g o in IsAnchored f.from f.to bs e)
            told None m_is (no_steps, no_leaves) =
                let none : o ≡ None = sym o_is ∙ ap (base_in p.steps) m_is in
                let lone = lone_anchored g.nodes e (ap (based_anchor g) (sym none) ∙ e_is) in
                subst (λ (r : Option ConId). (let f = based_frame s g r in IsAnchored f.from f.to bs e)) (sym none)
                (subst (λ (l : List (BoxAt G)). (let f = lone_frame s g.nodes in IsAnchored f.from f.to l e)) (sym (placed.1 no_leaves)) lone)
            told (Some n) m_is last =
                let t = tree (leaf_there g p legal n last) in
                let at = based by F g p legal t.0 n (tree_named g p legal n last t.0 t.1) bs (placed.0 t.0 t.1).are in
                let base : ConId = record { 0 = at.k } in
                let some : o ≡ Some base = sym o_is ∙ ap (base_in p.steps) m_is ∙ ap constraint_named at.leads in
                let own = constraint_anchored at.k at.own at.own_is (edge_numbered g at.k) refl (block_numbered g at.k) refl e (ap (based_anchor g) (sym some) ∙ e_is) in
                subst (λ (r : Option ConId). (let f = based_frame s g r in IsAnchored f.from f.to bs e)) (sym some)
                (record { lies = record { holds = at.keeps.holds e own.lies.holds; is = at.keeps.same e own.lies.holds ∙ own.lies.is }; to = own.to })

        pub anchored : (bs : List (BoxAt G)) → IsPlaced by F g p (Ok bs) → (e : Elem) → anchor_of g p ≡ Some e → (let f = frame_in s g p in IsAnchored f.from f.to bs e)
        anchored bs placed e e_is = from_base (base_in p.steps (last_name p)) refl bs placed e e_is (last_named p)

  pub anchor_printed : (s : Sketch) (p : Plan) (there : List (BoxAt G)) (e : Elem) → 21 ≤ F → IsSoundSketch s → IsSoundGraph (graph_of s) → IsLegalPlan (graph_of s) p → (¬ (p.leaves ≡ []) → (t : Tree) × IsPlanTree p t)
      → IsLaid (record { by = by; frame = Drawn }) F s p there → anchor_of (graph_of s) p ≡ Some e → LiesAsDrawn s (midpoints F there) e
  anchor_printed s p there e fine sketch sound legal tree (bs, placed, (m, m_is, carried_is)) e_is =
      let f = frame_in s (graph_of s) p in
      let a = anchored s (graph_of s) sound p legal tree bs placed e e_is in
      let at = carried_at m bs there e carried_is a.lies.holds in
      at.printed
      ∙ ap Some (place_printed by F fine f (frame_is_sound s sketch (graph_of s) sound p) m m_is at.at (ap (λ (b : BoxOf G). settled_box by F (carried F m b)) (sym a.lies.is) ∙ at.made)
      ∙ ap at_place a.to)
