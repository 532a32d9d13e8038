-- A plan is placed in one way at most on a grid, and at most one alternative comes of each list of steps.
use Rattle.std.proofs.Common.{◌≡◌, ◌⊎◌, inl, inr, ℕ, List, [], ◌∷◌, map, Option, None, Some, Result, Ok, Err, refl, ap, sym, subst, ◌∙◌}
use Rattle.std.specs.Option.{option_map}
use Rattle.std.proofs.lemmas.List.{map-append}
use Rattle.sk_base.specs.declared.Name.{Name}
use Rattle.sk_rules.specs.declared.Taken.{Taken}
use Rattle.sk_base.specs.declared.ConId.{ConId}
use Rattle.sk_base.specs.declared.Graph.{Graph}
use Rattle.sk_base.specs.declared.Placed.{Placed}
use Rattle.sk_base.specs.declared.Sketch.{Sketch}
use Rattle.sk_graph.specs.SketchGraph.{graph_of}
use Rattle.sk_tree.specs.declared.Plan.{Plan}
use Rattle.sk_tree.specs.declared.PlanStep.{PlanStep}
use Rattle.sk_tree.specs.declared.Tree.{Tree}
use Rattle.sk_tree.specs.LegalPlan.{IsLegalPlan, taken_told}
use Rattle.sk_tree.specs.PlanTree.{IsPlanTree}
use Rattle.sk_tree.specs.Trees.{IsTreeOf}
use Rattle.sk_place.specs.declared.Layout.{Layout}
use Rattle.sk_place.specs.declared.BoxAt.{BoxAt}
use Rattle.sk_place.specs.declared.BoxFault.{BoxFault}
use Rattle.sk_place.specs.declared.PlaceBy.{PlaceBy}
use Rattle.sk_place.specs.Carrying.{carried_each}
use Rattle.sk_place.specs.declared.FrameBy.{FrameBy}
use Rattle.sk_place.specs.declared.FrameBy.TheVariants.{Base, Drawn}
use Rattle.sk_place.specs.declared.StepFault.{StepFault}
use Rattle.sk_place.specs.declared.PlaceError.TheVariants as errors
use Rattle.sk_place.specs.Placing.{IsPlaced}
use Rattle.sk_place.proofs.OnePlacing.{one_list, one_failure, not_both}
use Rattle.sk_place.proofs.Results.{ok_inside}
use Rattle.sk_tolerance.specs.declared.Spotted.{Spotted}
use Rattle.sk_tolerance.specs.declared.Tolerance.{Tolerance}
use Rattle.sk_tolerance.specs.Tolerances.{AllHold, IsWorstUnlessNone, lengthwise, anglewise, everything}
use Rattle.sk_tolerance.specs.declared.Wanted.{Wanted}
use Rattle.sk_tolerance.specs.declared.Wanted.TheVariants.{Chosen}
use Rattle.sk_tolerance.specs.Turns.{signs_wanted, IsTurned}
use Rattle.sk_tolerance.proofs.OneMeasured.{one_least, one_first, one_beyond, not_beyond, one_worst, not_turned}
use Rattle.sk_solve.specs.declared.alternative.Alternative.{Alternative}
use Rattle.sk_solve.specs.declared.alternative.Alternative.TheVariants as found
use Rattle.sk_solve.specs.declared.placing.Placement.{Placement}
use Rattle.sk_solve.specs.declared.placing.Placement.TheVariants.{Fault, Uncarried, Beyond, Turned, Holds}
use Rattle.sk_solve.specs.Alternatives.{alternative_of, IsTurnedPlacement, IsAlternative, AreAlternatives}
use Rattle.sk_flips.specs.Flipping.{first_without_choice, flipped_step, flipped}
use Rattle.sk_solve.specs.Placements.{midpoints, IsCarried, IsLaid, IsTolerance, IsMeasured, IsPlacement}
use Rattle.sk_flips.proofs.FlippedPlans.{flipped_is_legal}

-- the plan has a tree, if it has a constraint
abbrev pub HasTree : Plan → Type 0
HasTree p = ¬ (p.leaves ≡ []) → (t : Tree) × IsPlanTree p t

one_constraint : (a b : Option ConId) → option_map (λ k. Spotted.Con k) a ≡ option_map (λ k. Spotted.Con k) b → a ≡ b
one_constraint None None same = refl
one_constraint None (Some k) same = cc
one_constraint (Some j) None same = cc
one_constraint (Some j) (Some k) same = cc

pub same_tolerance : (at : Placed) (g : Graph) (t u : Tolerance) → IsTolerance at g t → IsTolerance at g u → t ≡ u
same_tolerance at g t u first second =
    let lengths = one_least (AllHold at (lengthwise g)) t.t u.t first.lengths second.lengths in
    let angles = one_least (AllHold at (anglewise g)) t.w u.w first.angles second.angles in
    let longest = one_constraint t.worst_t u.worst_t (one_worst at (lengthwise g) u.t _ _ (subst (λ n. IsWorstUnlessNone at (lengthwise g) n (option_map (λ k. Spotted.Con k) t.worst_t)) lengths first.worst_length) second.worst_length) in
    let widest = one_worst at (anglewise g) u.w t.worst_w u.worst_w (subst (λ n. IsWorstUnlessNone at (anglewise g) n t.worst_w) angles first.worst_angle) second.worst_angle in
    let make : ℕ → ℕ → Option ConId → Option Spotted → Tolerance = λ n m a b. record { t = n; w = m; worst_t = a; worst_w = b } in
    ap (λ n. make n t.w t.worst_t t.worst_w) lengths ∙ ap (λ m. make u.t m t.worst_t t.worst_w) angles
    ∙ ap (λ a. make u.t u.w a t.worst_w) longest ∙ ap (λ b. make u.t u.w u.worst_t b) widest

same_measured : (wanted : Wanted) (limit : ℕ) (s : Sketch) (p : Plan) (at : Placed) (q r : Placement) → IsMeasured wanted limit s p at q → IsMeasured wanted limit s p at r → q ≡ r
same_measured wanted limit s p at (Fault f) r first second = absurd first
same_measured wanted limit s p at (Uncarried f) r first second = absurd first
same_measured wanted limit s p at (Beyond b) (Fault f) first second = absurd second
same_measured wanted limit s p at (Beyond b) (Uncarried f) first second = absurd second
same_measured wanted limit s p at (Beyond b) (Beyond d) first second = ap Beyond (one_beyond at (everything (graph_of s)) limit b d first second)
same_measured wanted limit s p at (Beyond b) (Turned t) first second = absurd (not_beyond at (everything (graph_of s)) limit b second.0 first)
same_measured wanted limit s p at (Beyond b) (Holds z t) first second = absurd (not_beyond at (everything (graph_of s)) limit b second.1 first)
same_measured wanted limit s p at (Turned t) (Fault f) first second = absurd second
same_measured wanted limit s p at (Turned t) (Uncarried f) first second = absurd second
same_measured wanted limit s p at (Turned t) (Beyond b) first second = absurd (not_beyond at (everything (graph_of s)) limit b first.0 second)
same_measured wanted limit s p at (Turned t) (Turned u) first second = ap Turned (one_first IsTurned (signs_wanted wanted s at p) t u first.1 second.1)
same_measured wanted limit s p at (Turned t) (Holds z u) first second = absurd (not_turned (signs_wanted wanted s at p) t second.2 first.1)
same_measured wanted limit s p at (Holds y t) (Fault f) first second = absurd second
same_measured wanted limit s p at (Holds y t) (Uncarried f) first second = absurd second
same_measured wanted limit s p at (Holds y t) (Beyond b) first second = absurd (not_beyond at (everything (graph_of s)) limit b first.1 second)
same_measured wanted limit s p at (Holds y t) (Turned u) first second = absurd (not_turned (signs_wanted wanted s at p) u first.2 second.1)
same_measured wanted limit s p at (Holds y t) (Holds z u) first second =
    ap (λ x. Holds x t) (first.0 ∙ sym second.0) ∙ ap (λ x. Holds z x) (same_tolerance at (graph_of s) t u first.3 second.3)

-- what comes of carrying boxes is one
same_carried : {G : Type 0} (frame : FrameBy) (by : PlaceBy) (F : ℕ) (s : Sketch) (p : Plan) (bs : List (BoxAt G)) (a b : Result (List (BoxAt G)) BoxFault) → IsCarried frame by F s p bs a → IsCarried frame by F s p bs b → a ≡ b
same_carried Base by F s p bs a b first second = first ∙ sym second
same_carried {G} Drawn by F s p bs a b (m, m_is, first) (n, n_is, second) = sym first ∙ ap (λ x. carried_each by F x bs) (ok_inside m n (sym m_is ∙ n_is)) ∙ second

-- the plan's boxes lie in one way
pub same_laid : (G : Type 0) (placing : Layout) (F : ℕ) (s : Sketch) (p : Plan) → IsLegalPlan (graph_of s) p → HasTree p → (one other : List (BoxAt G)) → IsLaid placing F s p one → IsLaid placing F s p other → one ≡ other
same_laid G placing F s p legal tree one other (bs, placed, carried) (cs, placed', carried') =
    let same : bs ≡ cs = one_list G placing.by F (graph_of s) p legal tree bs cs placed placed' in
    ok_inside one other (same_carried placing.frame placing.by F s p cs (Ok one) (Ok other) (subst (λ (l : List (BoxAt G)). IsCarried placing.frame placing.by F s p l (Ok one)) same carried) carried')

-- what comes of boxes, with where they lie then: the first that can't be carried, or what is measured
abbrev Comes : Wanted → ℕ → Sketch → Plan → ℕ → (G : Type 0) → Placement → Result (List (BoxAt G)) BoxFault → Type 0
Comes wanted limit s p F G q (Err f) = q ≡ Uncarried f
Comes wanted limit s p F G q (Ok bs) = IsMeasured wanted limit s p (midpoints F bs) q

-- a fault, or boxes and what comes of them
pub record IsFaulty (G : Type 0) (placing : Layout) (F : ℕ) (s : Sketch) (p : Plan) (q : Placement) : Type 0 where
  fault : StepFault
  is : q ≡ Fault fault
  failed : IsPlaced {G = G} placing.by F (graph_of s) p (Err (errors.Fault fault))

pub record HasCome (wanted : Wanted) (G : Type 0) (placing : Layout) (F limit : ℕ) (s : Sketch) (p : Plan) (q : Placement) : Type 0 where
  boxes : List (BoxAt G)
  placed : IsPlaced placing.by F (graph_of s) p (Ok boxes)
  outcome : Result (List (BoxAt G)) BoxFault
  carried : IsCarried placing.frame placing.by F s p boxes outcome
  comes : Comes wanted limit s p F G q outcome

told_placed : (wanted : Wanted) (G : Type 0) (placing : Layout) (F limit : ℕ) (s : Sketch) (p : Plan) (q : Placement) → IsPlacement wanted G placing F limit s p q
    → IsFaulty G placing F s p q ⊎ HasCome wanted G placing F limit s p q
told_placed wanted G placing F limit s p (Fault f) is = inl (record { fault = f; is = refl; failed = is })
told_placed wanted G placing F limit s p (Uncarried f) (boxes, placed, carried) = inr (record { boxes = boxes; placed = placed; outcome = Err f; carried = carried; comes = refl })
told_placed wanted G placing F limit s p (Beyond b) (at_boxes, (boxes, placed, carried), measured) = inr (record { boxes = boxes; placed = placed; outcome = Ok at_boxes; carried = carried; comes = measured })
told_placed wanted G placing F limit s p (Turned t) (at_boxes, (boxes, placed, carried), measured) = inr (record { boxes = boxes; placed = placed; outcome = Ok at_boxes; carried = carried; comes = measured })
told_placed wanted G placing F limit s p (Holds at t) (at_boxes, (boxes, placed, carried), measured) = inr (record { boxes = boxes; placed = placed; outcome = Ok at_boxes; carried = carried; comes = measured })

one_coming : (wanted : Wanted) (limit : ℕ) (s : Sketch) (p : Plan) (F : ℕ) (G : Type 0) (q r : Placement) (a : Result (List (BoxAt G)) BoxFault) → Comes wanted limit s p F G q a → Comes wanted limit s p F G r a → q ≡ r
one_coming wanted limit s p F G q r (Err f) first second = first ∙ sym second
one_coming wanted limit s p F G q r (Ok bs) first second = same_measured wanted limit s p (midpoints F bs) q r first second

-- where boxes lie, what is placed is measured
pub laid_measured : (wanted : Wanted) (G : Type 0) (placing : Layout) (F limit : ℕ) (s : Sketch) (p : Plan) → IsLegalPlan (graph_of s) p → HasTree p → (q : Placement) → IsPlacement wanted G placing F limit s p q
    → (there : List (BoxAt G)) → IsLaid placing F s p there → IsMeasured wanted limit s p (midpoints F there) q
laid_measured wanted G placing F limit s p legal tree q is there (boxes, placed, carried) =
    elim (told_placed wanted G placing F limit s p q is) [
      | inl one ↦ absurd (not_both G placing.by F (graph_of s) p legal tree boxes one.fault placed one.failed)
      | inr one ↦
          (let same : one.boxes ≡ boxes = one_list G placing.by F (graph_of s) p legal tree one.boxes boxes one.placed placed in
          let outcome : one.outcome ≡ Ok there = same_carried placing.frame placing.by F s p boxes one.outcome (Ok there) (subst (λ xs. IsCarried placing.frame placing.by F s p xs one.outcome) same one.carried) carried in
          subst (λ o. Comes wanted limit s p F G q o) outcome one.comes)
    ]

pub same_placement : (wanted : Wanted) (G : Type 0) (placing : Layout) (F limit : ℕ) (s : Sketch) (p : Plan) → IsLegalPlan (graph_of s) p → HasTree p → (q r : Placement) → IsPlacement wanted G placing F limit s p q → IsPlacement wanted G placing F limit s p r → q ≡ r
same_placement wanted G placing F limit s p legal tree q r first second =
    let g = graph_of s in
    elim (told_placed wanted G placing F limit s p q first) [
      | inl one ↦ elim (told_placed wanted G placing F limit s p r second) [
        | inl other ↦ one.is ∙ ap Fault (one_failure G placing.by F g p legal tree one.fault other.fault one.failed other.failed) ∙ sym other.is
        | inr other ↦ absurd (not_both G placing.by F g p legal tree other.boxes one.fault other.placed one.failed)
      ]
      | inr one ↦ elim (told_placed wanted G placing F limit s p r second) [
        | inl other ↦ absurd (not_both G placing.by F g p legal tree one.boxes other.fault one.placed other.failed)
        | inr other ↦
            (let boxes : one.boxes ≡ other.boxes = one_list G placing.by F g p legal tree one.boxes other.boxes one.placed other.placed in
            let outcome : one.outcome ≡ other.outcome = same_carried placing.frame placing.by F s p other.boxes one.outcome other.outcome (subst (λ xs. IsCarried placing.frame placing.by F s p xs one.outcome) boxes one.carried) other.carried in
            one_coming wanted limit s p F G q r other.outcome (subst (λ o. Comes wanted limit s p F G q o) outcome one.comes) other.comes)
      ]
    ]

-- the merges of a turned plan are those of the plan, and so is its tree
same_merges : (names : List Name) (steps : List PlanStep) → map taken_told (map (flipped_step names) steps) ≡ map taken_told steps
same_merges names [] = refl
same_merges names (step ∷ steps) = ap (λ (more : List Taken). taken_told step ∷ more) (same_merges names steps)

flipped_tree : (names : List Name) (p : Plan) (t : Tree) → IsPlanTree p t → IsPlanTree (flipped names p) t
flipped_tree names p t (inl (before, last, parts, tree)) = inl (
  map (flipped_step names) before,
  flipped_step names last,
  ap (map (flipped_step names)) parts ∙ map-append (flipped_step names) before (last ∷ []),
  subst (λ (taken : List Taken). IsTreeOf taken last.step t) (sym (same_merges names p.steps)) tree,
)
flipped_tree names p t (inr (k, none, leaf, is)) = inr (k, ap (map (flipped_step names)) none, leaf, is)

module _ (G : Type 0) (placing : Layout) (F limit : ℕ) (s : Sketch) (p : Plan) (names : List Name) where
  told_alternative : (a : Alternative) → IsAlternative G placing F limit s p names a
      → ((n : Name) × (a ≡ found.NoChoice n) × (first_without_choice p names ≡ Some n)) ⊎ ((q : Placement) × (a ≡ alternative_of q) × IsTurnedPlacement G placing F limit s p names q)
  told_alternative (found.NoChoice n) is = inl (n, refl, is)
  told_alternative (found.Fault f) is = inr (Fault f, refl, is)
  told_alternative (found.Uncarried f) is = inr (Uncarried f, refl, is)
  told_alternative (found.Passed b) is = inr (Beyond b, refl, is)
  told_alternative (found.Turned t) is = inr (Turned t, refl, is)
  told_alternative (found.Found at tol) is = inr (Holds at tol, refl, is)

  same_name : (m n : Name) (o : Option Name) → o ≡ Some m → o ≡ Some n → m ≡ n
  same_name m n o one other = cc

  not_some : (n : Name) (o : Option Name) → o ≡ Some n → o ≡ None → ⊥
  not_some n o one other = cc

  pub same_alternative : IsLegalPlan (graph_of s) p → HasTree p → (a b : Alternative) → IsAlternative G placing F limit s p names a → IsAlternative G placing F limit s p names b → a ≡ b
  same_alternative legal tree a b first second =
      elim (told_alternative a first) [
        | inl (m, a_is, none) ↦ elim (told_alternative b second) [
          | inl (n, b_is, none') ↦ a_is ∙ ap found.NoChoice (same_name m n (first_without_choice p names) none none') ∙ sym b_is
          | inr (q, b_is, placed) ↦ absurd (not_some m (first_without_choice p names) none placed.0)
        ]
        | inr (q, a_is, placed) ↦ elim (told_alternative b second) [
          | inl (n, b_is, none) ↦ absurd (not_some n (first_without_choice p names) none placed.0)
          | inr (r, b_is, placed') ↦
              a_is
              ∙ ap alternative_of (same_placement Chosen G placing F limit s (flipped names p) (flipped_is_legal (graph_of s) names p legal) (λ some. (let whole = tree some in (whole.0, flipped_tree names p whole.0 whole.1))) q r placed.1 placed'.1)
              ∙ sym b_is
        ]
      ]

-- one list of alternatives comes of lists of steps
module _ (G : Type 0) (placing : Layout) (F limit : ℕ) (s : Sketch) (p : Plan) (legal : IsLegalPlan (graph_of s) p) (tree : HasTree p) where
  pub same_alternatives : (lists : List (List Name)) (here there : List Alternative) → AreAlternatives G placing F limit s p lists here → AreAlternatives G placing F limit s p lists there → here ≡ there
  same_alternatives [] [] [] first second = refl
  same_alternatives [] [] (b ∷ there) first second = absurd second
  same_alternatives [] (a ∷ here) there first second = absurd first
  same_alternatives (names ∷ lists) [] there first second = absurd first
  same_alternatives (names ∷ lists) (a ∷ here) [] first second = absurd second
  same_alternatives (names ∷ lists) (a ∷ here) (b ∷ there) first second =
      ap (λ (x : Alternative). x ∷ here) (same_alternative G placing F limit s p names legal tree a b first.0 second.0)
      ∙ ap (λ (xs : List Alternative). b ∷ xs) (same_alternatives lists here there first.1 second.1)
