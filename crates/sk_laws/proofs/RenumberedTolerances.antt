-- The least tolerances, and what is worst, don't hang on the numbers of elements and constraints.
use Rattle.std.proofs.Common.{◌≡◌, inl, inr, ℕ, ◌==◌, ◌⊎◌, Bool, true, false, cond, List, [], ◌∷◌, ◌++◌, map, refl, sym, ap, subst, ◌∙◌}
use Rattle.std.specs.Prelude.{◌↔◌, Contains, Option, None, Some, nat_lt}
use Rattle.std.specs.List.{flat_map}
use Rattle.std.specs.Option.{option_map}
use Rattle.std.proofs.lemmas.List.{map-append}
use Rattle.std.proofs.lemmas.Simd.{map-map}
use Rattle.sk_base.specs.declared.Block.{Block}
use Rattle.sk_base.specs.declared.ConId.{ConId}
use Rattle.sk_base.specs.declared.Edge.{Edge}
use Rattle.sk_base.specs.declared.Elem.{Elem}
use Rattle.sk_base.specs.declared.Graph.{Graph}
use Rattle.sk_base.specs.declared.Kind.{Kind}
use Rattle.sk_base.specs.declared.Kind.TheVariants as kinds
use Rattle.sk_base.specs.declared.Measure.{Measure}
use Rattle.sk_base.specs.declared.Measure.TheVariants.{PointPoint, PointLine, LineLine}
use Rattle.sk_base.specs.declared.Node.{Node}
use Rattle.sk_base.specs.declared.Placed.{Placed}
use Rattle.sk_base.specs.declared.Sketch.{Sketch}
use Rattle.sk_base.specs.declared.Spot.{Spot}
use Rattle.sk_base.specs.Rising.{put, union}
use Rattle.sk_base.specs.SoundSketch.{IsSoundSketch}
use Rattle.sk_base.proofs.Members.{contains_head, contains_later, contains_mapped, mapped_from}
use Rattle.sk_base.proofs.Unions.{union_cases}
use Rattle.sk_graph.specs.SketchGraph.{graph_of}
use Rattle.sk_lang.specs.Renumbered.{place_of as new_element}
use Rattle.sk_measure.specs.Holding.{IsNormal}
use Rattle.sk_measure.specs.Items.{Item, normal, constraint, block, Holds, IsOwnLeast}
use Rattle.sk_measure.specs.Least.{IsLeast}
use Rattle.sk_tolerance.specs.declared.Spotted.{Spotted}
use Rattle.sk_tolerance.specs.declared.Spotted.TheVariants.{Con}
use Rattle.sk_tolerance.specs.declared.Tolerance.{Tolerance}
use Rattle.sk_tolerance.specs.Tolerances.{spotted_as, number_of, AllHold, normal_of_kind, normals, distance_of_measure, distances, angle_of_measure, angles, rigid, lengthwise, anglewise, IsWorstUnlessNone}
use Rattle.sk_solve.specs.Placements.{IsTolerance}
use Rattle.sk_tolerance.proofs.Worsts.{on_distance}
use Rattle.sk_claims.specs.ClaimText.{IsDeclared}
use Rattle.sk_edits.specs.Making.{HasConstraint}
use Rattle.sk_laws.specs.NewNumbers.{new_constraint, spotted_renumbered, tolerance_renumbered}
use Rattle.sk_laws.proofs.Renumbering.{each_renumbered, places_renumbered, same_constraint, constraint_order, lies_again}
use Rattle.sk_laws.proofs.RenumberedGraphs.{node_renumbered, edge_renumbered, block_renumbered, graph_renumbered, graph_again, edge_numbered, block_numbered}
use Rattle.sk_laws.proofs.RenumberedOffs.{first_mapped, least_alike, constraint_holds, block_holds}

abbrev pub item_renumbered : Sketch → Item → Item
item_renumbered s (normal line) = normal (new_element s line)
item_renumbered s (constraint e) = constraint (edge_renumbered s e)
item_renumbered s (block b) = block (block_renumbered s b)

spotted_again : (s : Sketch) (item : Item) → spotted_as (item_renumbered s item) ≡ spotted_renumbered s (spotted_as item)
spotted_again s (normal line) = refl
spotted_again s (constraint e) = refl
spotted_again s (block b) = refl

-- ---- lists of items

flat_mapped : {X Z Y : Type 0} (f : X → List Y) (h : Z → List Y) (r : X → Z) (q : Y → Y) → ((x : X) → h (r x) ≡ map q (f x)) → (xs : List X) → flat_map h (map r xs) ≡ map q (flat_map f xs)
flat_mapped f h r q same [] = refl
flat_mapped f h r q same (x ∷ xs) =
    ap (λ ys. ys ++ flat_map h (map r xs)) (same x) ∙ ap (λ ys. map q (f x) ++ ys) (flat_mapped f h r q same xs) ∙ sym (map-append q (f x) (flat_map f xs))

module _ {X : Type 0} (number : X → ℕ) (f : X → X) where
  -- the new numbers of the two are told apart, and stand in order, as their own are
  abbrev StandAlike : X → X → Type 0
  StandAlike x y = ((number (f x) == number (f y)) ≡ (number x == number y)) × (nat_lt (number (f x)) (number (f y)) ≡ nat_lt (number x) (number y))

  put_mapped : (x : X) (ys : List X) → ((y : X) → Contains ys y → StandAlike x y) → put number (f x) (map f ys) ≡ map f (put number x ys)
  unfolding put
  put_mapped x [] alike = refl
  put_mapped x (y ∷ ys) alike =
      let here = alike y (contains_head y ys) in
      ap (λ t. cond t (f x ∷ f y ∷ map f ys) (cond (number (f x) == number (f y)) (f y ∷ map f ys) (f y ∷ put number (f x) (map f ys)))) here.1
      ∙ ap (λ t. cond (nat_lt (number x) (number y)) (f x ∷ f y ∷ map f ys) (cond t (f y ∷ map f ys) (f y ∷ put number (f x) (map f ys)))) here.0
      ∙ by (nat_lt (number x) (number y)) (number x == number y) (put_mapped x ys (λ z z_in. alike z (contains_later y ys z z_in)))
    where
      by : (before same : Bool) → put number (f x) (map f ys) ≡ map f (put number x ys)
          → cond before (f x ∷ f y ∷ map f ys) (cond same (f y ∷ map f ys) (f y ∷ put number (f x) (map f ys))) ≡ map f (cond before (x ∷ y ∷ ys) (cond same (y ∷ ys) (y ∷ put number x ys)))
      by true same rest = refl
      by false true rest = refl
      by false false rest = ap (λ zs. f y ∷ zs) rest

  union_mapped : (xs ys : List X) → ((x y : X) → Contains xs x → Contains xs y ⊎ Contains ys y → StandAlike x y) → union number (map f xs) (map f ys) ≡ map f (union number xs ys)
  unfolding union
  union_mapped [] ys alike = refl
  union_mapped (x ∷ xs) ys alike =
      ap (put number (f x)) (union_mapped xs ys (λ z y z_in y_in. alike z y (contains_later x xs z z_in) (elim y_in [ inl h ↦ inl (contains_later x xs y h) | inr h ↦ inr h ])))
      ∙ put_mapped x (union number xs ys) (λ y y_in. alike x y (contains_head x xs) (elim (union_cases number xs ys y y_in) [ inl h ↦ inl (contains_later x xs y h) | inr h ↦ inr h ]))

normal_again : (s : Sketch) (e : Elem) (kind : Kind) → normal_of_kind (new_element s e) kind ≡ map (item_renumbered s) (normal_of_kind e kind)
normal_again s e kinds.Point = refl
normal_again s e kinds.Line = refl

distance_item_again : (s : Sketch) (e : Edge) (m : Measure) → distance_of_measure (edge_renumbered s e) m ≡ map (item_renumbered s) (distance_of_measure e m)
distance_item_again s e (PointPoint len) = refl
distance_item_again s e (PointLine len side) = refl
distance_item_again s e (LineLine ratio sense) = refl

angle_item_again : (s : Sketch) (e : Edge) (m : Measure) → angle_of_measure (edge_renumbered s e) m ≡ map (item_renumbered s) (angle_of_measure e m)
angle_item_again s e (PointPoint len) = refl
angle_item_again s e (PointLine len side) = refl
angle_item_again s e (LineLine ratio sense) = refl

module _ (s : Sketch) (sound : IsSoundSketch s) where
  -- the constraint is the sketch's
  abbrev IsOfSketch : Item → Type 0
  IsOfSketch item = (k : ConId) × HasConstraint s k × (number_of item ≡ k.0) × (number_of (item_renumbered s item) ≡ (new_constraint s k).0)

  stand_alike : (x y : Item) → IsOfSketch x → IsOfSketch y → StandAlike number_of (item_renumbered s) x y
  stand_alike x y (k, k_in, is, new) (j, j_in, is', new') = (
    rw (is, is', new, new') (same_constraint s sound k j k_in),
    rw (is, is', new, new') (constraint_order s sound k j k_in j_in),
  )

  rigid_of_sketch : (item : Item) → Contains (rigid (graph_of s).blocks) item → IsOfSketch item
  rigid_of_sketch item h =
      let found = mapped_from (λ (b : Block). block b) (graph_of s).blocks item h in
      subst IsOfSketch found.2 (found.0.id, block_numbered s found.0 found.1, refl, refl)

  distance_of_sketch : (item : Item) → Contains (distances (graph_of s).edges) item → IsOfSketch item
  distance_of_sketch item h =
      let found = on_distance (graph_of s).edges item h in
      subst IsOfSketch found.2 (found.0.id, edge_numbered s found.0 found.1, refl, refl)

  lengthwise_again : lengthwise (graph_renumbered s (graph_of s)) ≡ map (item_renumbered s) (lengthwise (graph_of s))
  lengthwise_again =
      let g = graph_of s in
      let blocks : rigid (map (block_renumbered s) g.blocks) ≡ map (item_renumbered s) (rigid g.blocks) =
      map-map (λ (b : Block). block b) (block_renumbered s) g.blocks ∙ sym (map-map (item_renumbered s) (λ (b : Block). block b) g.blocks) in
      let edges : distances (map (edge_renumbered s) g.edges) ≡ map (item_renumbered s) (distances g.edges) =
      flat_mapped (λ (e : Edge). distance_of_measure e e.measure) (λ (e : Edge). distance_of_measure e e.measure) (edge_renumbered s) (item_renumbered s) (λ e. distance_item_again s e e.measure) g.edges in
      ap (λ (xs : List Item). union number_of xs (distances (map (edge_renumbered s) g.edges))) blocks
      ∙ ap (λ (ys : List Item). union number_of (map (item_renumbered s) (rigid g.blocks)) ys) edges
      ∙ union_mapped number_of (item_renumbered s) (rigid g.blocks) (distances g.edges)
      (λ x y x_in y_in. stand_alike x y (rigid_of_sketch x x_in) (elim y_in [ inl h ↦ rigid_of_sketch y h | inr h ↦ distance_of_sketch y h ]))

anglewise_again : (s : Sketch) → anglewise (graph_renumbered s (graph_of s)) ≡ map (item_renumbered s) (anglewise (graph_of s))
anglewise_again s =
    let g = graph_of s in
    let lines : normals (map (node_renumbered s) g.nodes) ≡ map (item_renumbered s) (normals g.nodes) =
    flat_mapped (λ (n : Node). normal_of_kind n.elem n.kind) (λ (n : Node). normal_of_kind n.elem n.kind) (node_renumbered s) (item_renumbered s) (λ n. normal_again s n.elem n.kind) g.nodes in
    let edges : angles (map (edge_renumbered s) g.edges) ≡ map (item_renumbered s) (angles g.edges) =
    flat_mapped (λ (e : Edge). angle_of_measure e e.measure) (λ (e : Edge). angle_of_measure e e.measure) (edge_renumbered s) (item_renumbered s) (λ e. angle_item_again s e e.measure) g.edges in
    ap (λ (xs : List Item). xs ++ angles (map (edge_renumbered s) g.edges)) lines ∙ ap (λ (ys : List Item). map (item_renumbered s) (normals g.nodes) ++ ys) edges
    ∙ sym (map-append (item_renumbered s) (normals g.nodes) (angles g.edges))

-- ---- least numbers

module _ (s : Sketch) (sound : IsSoundSketch s) (at : Placed) (declared : (spot : Spot) → Contains at.spots spot → IsDeclared s spot.elem) where
  item_holds : (item : Item) (n : ℕ) → Holds at item n ↔ Holds (places_renumbered s at) (item_renumbered s item) n
  item_holds (normal line) n = (
    (λ h. subst (λ p. IsNormal p n) (sym (lies_again s sound at declared line)) h),
    (λ h. subst (λ p. IsNormal p n) (lies_again s sound at declared line) h),
  )
  item_holds (constraint e) n = constraint_holds s sound at declared e n
  item_holds (block b) n = block_holds s sound at declared b n

  all_hold : (items : List Item) (n : ℕ) → AllHold at items n ↔ AllHold (places_renumbered s at) (map (item_renumbered s) items) n
  all_hold items n = (
    (λ all item h. (let from = mapped_from (item_renumbered s) items item h in subst (λ (x : Item). Holds (places_renumbered s at) x n) from.2 ((item_holds from.0 n).0 (all from.0 from.1)))),
    (λ all item h. (item_holds item n).1 (all (item_renumbered s item) (contains_mapped (item_renumbered s) items item h))),
  )

  least_again : (items : List Item) (n : ℕ) → IsLeast (AllHold at items) n → IsLeast (AllHold (places_renumbered s at) (map (item_renumbered s) items)) n
  least_again items = least_alike (AllHold at items) (AllHold (places_renumbered s at) (map (item_renumbered s) items)) (all_hold items)

  own_least : (item : Item) (n : ℕ) → IsOwnLeast at item n ↔ IsOwnLeast (places_renumbered s at) (item_renumbered s item) n
  own_least item n = (
    least_alike (Holds at item) (Holds (places_renumbered s at) (item_renumbered s item)) (item_holds item) n,
    least_alike (Holds (places_renumbered s at) (item_renumbered s item)) (Holds at item) (λ m. ((item_holds item m).1, (item_holds item m).0)) n,
  )

  worst_again : (items : List Item) (n : ℕ) (worst : Option Spotted) → IsWorstUnlessNone at items n worst → IsWorstUnlessNone (places_renumbered s at) (map (item_renumbered s) items) n (option_map (spotted_renumbered s) worst)
  worst_again items n None none = ap (map (item_renumbered s)) none
  worst_again items n (Some worst) is = record {
    item = item_renumbered s is.item;
    first = first_mapped (item_renumbered s) (λ i. IsOwnLeast at i n) (λ i. IsOwnLeast (places_renumbered s at) i n) (λ i. (own_least i n).0) (λ i. (own_least i n).1) items is.item is.first;
    named = spotted_again s is.item ∙ ap (spotted_renumbered s) is.named;
  }

  worst_length_again : (items : List Item) (n : ℕ) (worst : Option ConId) → IsWorstUnlessNone at items n (option_map (λ k. Con k) worst)
      → IsWorstUnlessNone (places_renumbered s at) (map (item_renumbered s) items) n (option_map (λ k. Con k) (option_map (new_constraint s) worst))
  worst_length_again items n None is = worst_again items n None is
  worst_length_again items n (Some k) is = worst_again items n (Some (Con k)) is

  pub tolerance_again : (t : Tolerance) → IsTolerance at (graph_of s) t → IsTolerance (places_renumbered s at) (graph_of (each_renumbered s)) (tolerance_renumbered s t)
  tolerance_again t is =
      let g = graph_of s in
      let here = places_renumbered s at in
      let renamed = tolerance_renumbered s t in
      subst (λ (h : Graph). IsTolerance here h renamed) (sym (graph_again s sound)) (record {
        lengths = subst (λ (items : List Item). IsLeast (AllHold here items) t.t) (sym (lengthwise_again s sound)) (least_again (lengthwise g) t.t is.lengths);
        angles = subst (λ (items : List Item). IsLeast (AllHold here items) t.w) (sym (anglewise_again s)) (least_again (anglewise g) t.w is.angles);
        worst_length = subst (λ (items : List Item). IsWorstUnlessNone here items t.t (option_map (λ k. Con k) renamed.worst_t)) (sym (lengthwise_again s sound)) (worst_length_again (lengthwise g) t.t t.worst_t is.worst_length);
        worst_angle = subst (λ (items : List Item). IsWorstUnlessNone here items t.w renamed.worst_w) (sym (anglewise_again s)) (worst_again (anglewise g) t.w t.worst_w is.worst_angle);
      })
