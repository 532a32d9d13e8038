-- A legal plan has its boxes, or a first fault.
use Rattle.std.proofs.Common.{◌≡◌, ◌⊎◌, inl, inr, refl, ℕ, zero, suc, ◌+◌, ◌<◌, List, [], ◌∷◌, ◌++◌, subst, length, get_or, Option, None, Some, IsSome, Result, Ok, Err, arith}
use Rattle.std.specs.Prelude.{slice_index_or, false, true}
use Rattle.sk_base.specs.declared.ConId.{ConId}
use Rattle.sk_base.specs.declared.Graph.{Graph}
use Rattle.sk_base.specs.declared.Name.{Name}
use Rattle.sk_base.specs.declared.Name.TheVariants.{Con, Step}
use Rattle.sk_base.specs.SoundGraph.{IsSoundGraph}
use Rattle.sk_tree.specs.declared.Plan.{Plan}
use Rattle.sk_tree.specs.declared.PlanStep.{PlanStep}
use Rattle.sk_tree.specs.LegalPlan.{IsLegalPlan}
use Rattle.sk_tree.proofs.LastNames.{IsLastName}
use Rattle.sk_place.specs.declared.boxes.BoxAt.{BoxAt}
use Rattle.sk_place.specs.declared.settling.PlaceBy.{PlaceBy}
use Rattle.sk_place.specs.declared.fault.StepFault.{StepFault}
use Rattle.sk_place.specs.declared.fault.PlaceError.TheVariants.{Fault}
use Rattle.sk_place.specs.Clusters.{nodes_of}
use Rattle.sk_place.specs.Placing.{IsPlaced, lone_boxes}
use Rattle.sk_place.specs.Rounding.{AreBounded}
use Rattle.sk_place.specs.Running.{held, IsThere, AreHeld, IsAfter, IsMadeOf}
use Rattle.sk_place.specs.Steps.{joined}
use Rattle.sk_place.proofs.Afters.{at_start, at_next, can_join}
use Rattle.sk_place.proofs.Ending.{no_tree, leaf_there, left_there, left_boxes, left_nodes, left_bounded, lone_nodes, lone_bounded}
use Rattle.sk_place.proofs.Failing.{failed_run}
use Rattle.sk_base.proofs.Splits.{last_or_none}
use Rattle.sk_place.proofs.SomeFrames.{some_frame}

-- the item at a place of a list
item_at : {X : Type 0} (xs : List X) (i : ℕ) → i < length xs → (x : X) × (get_or xs i x ≡ x)
item_at [] i inside = absurd (omega arith)
item_at (x ∷ xs) zero inside = (x, refl)
item_at (x ∷ xs) (suc i) inside = (let rest = item_at xs i (omega arith) in (rest.0, rest.1))

module _ (G : Type 0) (placing : PlaceBy) (F : ℕ) (g : Graph) (p : Plan) (sound : IsSoundGraph g) (legal : IsLegalPlan g p) where
  held_there : (live : List (Option (List (BoxAt G)))) (n : Name) → IsThere g live n → (bs : List (BoxAt G)) × (held F g live n ≡ Some bs)
  held_there live (Con k) there = some_frame F {G = G} g sound k there
  held_there live (Step k) there = told (slice_index_or live k None) refl there
    where
      told : (o : Option (List (BoxAt G))) → slice_index_or live k None ≡ o → IsSome o → (bs : List (BoxAt G)) × (slice_index_or live k None ≡ Some bs)
      told (Some bs) is some = (bs, is)
      told None is some = (let never : false ≡ true = some in absurd (cc))

  -- the boxes are of the graph's nodes, and within their limits
  pub record HasPlaces : Type 0 where
    pub list : List (BoxAt G)
    pub placed : IsPlaced placing F g p (Ok list)
    pub nodes : nodes_of list ≡ g.nodes
    pub bounded : AreBounded F list

  -- this is so of the fault of each step that fails once all before it are done
  abbrev pub IsSoOfFaults : (StepFault → Type 0) → Type 0
  IsSoOfFaults Told =
      (i : ℕ) (live : List (Option (List (BoxAt G)))) → IsAfter placing F g p i live → i < length p.steps → (s : PlanStep) → get_or p.steps i s ≡ s → (f : StepFault) → IsMadeOf placing F g live s (Err f) → Told f

  -- all steps are done, or this is so of a fault
  abbrev RunOn : (StepFault → Type 0) → Type 0
  RunOn Told = ((live : List (Option (List (BoxAt G)))) × IsAfter placing F g p (length p.steps) live) ⊎ ((f : StepFault) × Told f)

  module _ (Told : StepFault → Type 0) (so : IsSoOfFaults Told) where
    by_result : (i : ℕ) (live : List (Option (List (BoxAt G)))) → IsAfter placing F g p i live → i < length p.steps → (s : PlanStep) → get_or p.steps i s ≡ s
        → (x y z : List (BoxAt G)) → AreHeld F g live s x y z → ((bs : List (BoxAt G)) → joined placing F s x y z ≡ Ok bs → RunOn Told)
        → (r : Result (List (BoxAt G)) StepFault) → joined placing F s x y z ≡ r → RunOn Told
    by_result i live after inside s s_is x y z are go (Ok bs) is = go bs is
    by_result i live after inside s s_is x y z are go (Err f) is = inr (f, so i live after inside s s_is f (record { one = x; two = y; three = z; are = are; is = is }))

    -- so many steps are left
    run_from : (left i : ℕ) (live : List (Option (List (BoxAt G)))) → IsAfter placing F g p i live → i + left ≡ length p.steps → RunOn Told
    run_from zero i live after level = (let same : i ≡ length p.steps = omega arith in inl (live, subst (λ (k : ℕ). IsAfter placing F g p k live) same after))
    run_from (suc left) i live after level =
        let inside : i < length p.steps = omega arith in
        let step = item_at p.steps i inside in
        let s = step.0 in
        let can = can_join placing F g p sound legal i live after inside s step.1 in
        let one = held_there live s.one can.one in
        let two = held_there live s.two can.two in
        let three = held_there live s.three can.three in
        let are : AreHeld F g live s one.0 two.0 three.0 = record { first = one.1; second = two.1; third = three.1 } in
        by_result i live after inside s step.1 one.0 two.0 three.0 are
        (λ bs is. run_from left (i + 1) (live ++ Some bs ∷ [])
        (at_next placing F g p sound legal i live after inside s step.1 one.0 two.0 three.0 are bs is live refl (λ n a b c. refl)) (omega arith))
        (joined placing F s one.0 two.0 three.0) (refl {a = joined placing F s one.0 two.0 three.0})

    named_places : (n : Name) → IsLastName p (Some n) → HasPlaces ⊎ ((f : StepFault) × Told f)
    named_places n n_is =
        elim (run_from (length p.steps) 0 (None ∷ []) (at_start placing F g p sound legal (None ∷ []) refl) (omega arith)) [
          | inr failed ↦ inr failed
          | inl (live, after) ↦ (
              let found = held_there live n (left_there placing F g p sound legal live after n n_is) in
              inl (record {
                list = found.0;
                placed = ((λ t t_is. left_boxes placing F g p sound legal live after n n_is found.0 found.1 t t_is), (λ none. absurd (leaf_there g p legal n n_is none)));
                nodes = left_nodes placing F g p sound legal live after n n_is found.0 found.1;
                bounded = left_bounded placing F g p sound legal live after n n_is found.0 found.1;
              }))
        ]

    lone_places : IsLastName p None → HasPlaces
    lone_places is = record {
      list = lone_boxes F g;
      placed = ((λ t t_is. absurd (no_tree g p legal is t t_is)), (λ none. refl));
      nodes = lone_nodes F g (lone_boxes F g) refl;
      bounded = lone_bounded F g (lone_boxes F g) refl;
    }

    -- it has its boxes, or this is so of a fault
    pub places_or : HasPlaces ⊎ ((f : StepFault) × Told f)
    places_or =
        elim (last_or_none p.steps) [
          | inr (before, last, is) ↦ named_places last.step (inl (before, last, is, refl))
          | inl none ↦ by_leaves none p.leaves refl
        ]
      where
        by_leaves : p.steps ≡ [] → (ks : List ConId) → p.leaves ≡ ks → HasPlaces ⊎ ((f : StepFault) × Told f)
        by_leaves none [] is = inl (lone_places (none, is))
        by_leaves none (k ∷ ks) is = named_places (Con k.0) (inr (k, ks, none, is, refl))

  abbrev IsFailing : StepFault → Type 0
  IsFailing f = IsPlaced {G = G} placing F g p (Err (Fault f))

  pub some_places : HasPlaces ⊎ ((f : StepFault) × IsPlaced {G = G} placing F g p (Err (Fault f)))
  some_places = places_or IsFailing (λ i live after inside s s_is f made. (failed_run placing F g p sound legal i live after inside s s_is (Fault f) made).0)
