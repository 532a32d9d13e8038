-- A step that fails has the first fault of the plan's tree.
use Rattle.std.proofs.Common.{◌≡◌, inl, inr, ℕ, ℤ, suc, ◌+◌, ◌<◌, List, [], ◌∷◌, ◌++◌, length, get_or, take, drop, Option, Some, Result, Err, refl, ap, sym, subst, ◌∙◌, arith, length-append, drop-cons}
use Rattle.std.specs.Prelude.{Contains, map, not}
use Rattle.std.proofs.lemmas.Bool.{cases_Bool}
use Rattle.std.proofs.lemmas.List.{get_or-take, drop-append-le, length-take}
use Rattle.std.proofs.lemmas.List.Elements.{Contains-push, Contains-append_left}
use Rattle.sk_base.specs.declared.Graph.{Graph}
use Rattle.sk_base.specs.declared.Name.{Name}
use Rattle.sk_base.specs.declared.Name.TheVariants.{Con, Step}
use Rattle.sk_base.specs.ClusterNames.{IsBelow, is_named}
use Rattle.sk_base.specs.SoundGraph.{IsSoundGraph}
use Rattle.sk_base.proofs.Members.{contains_none, contains_head, contains_later, contains_cases, contains_one, contains_filtered, nothing_mapped}
use Rattle.sk_family.specs.declared.Cluster.{Cluster}
use Rattle.sk_family.specs.Body.{Start, starts}
use Rattle.sk_family.specs.Clusters.{Clusters, IsSound, IsLive, initial_clusters, start_of, unnamed, whole_from}
use Rattle.sk_family.proofs.GraphStarts.{no_starts}
use Rattle.sk_family.proofs.Naming.{among_named}
use Rattle.sk_base.proofs.Splits.{in_drop}
use Rattle.sk_family.proofs.Soundness.{sound_replaced}
use Rattle.sk_family.specs.declared.Merge.TheVariants.{Three}
use Rattle.sk_rules.specs.Merges.{Holds as MergeHolds}
use Rattle.sk_rules.proofs.Merging.{can_be_replaced}
use Rattle.sk_tree.specs.declared.Plan.{Plan}
use Rattle.sk_tree.specs.declared.PlanStep.{PlanStep}
use Rattle.sk_tree.specs.declared.Tree.{Tree}
use Rattle.sk_tree.specs.declared.Tree.TheVariants.{Leaf, Join'}
use Rattle.sk_tree.specs.LegalPlan.{AreLegalSteps, IsLegalPlan, next_after}
use Rattle.sk_place.specs.declared.boxes.BoxAt.{BoxAt}
use Rattle.sk_place.specs.declared.settling.PlaceBy.TheVariants.{Boxes, Points}
use Rattle.sk_place.specs.declared.settling.PlaceBy.{PlaceBy}
use Rattle.sk_place.specs.declared.fault.StepFault.{StepFault}
use Rattle.sk_interval.specs.declared.Cause.{Cause}
use Rattle.sk_interval.specs.declared.Cause.TheVariants.{Flat, Gap, Range}
use Rattle.sk_place.specs.Nesting.{AreInside, with_gap, KeepsGap}
use Rattle.sk_place.proofs.InsideSteps.{KeepsCause, KeepsStep, joined_step}
use Rattle.sk_place.proofs.InsideTrees.{nest_on}
use Rattle.sk_place.specs.Steps.{joined}
use Rattle.sk_place.specs.Trees.{step_of, IsFault, IsFirstFault}
use Rattle.sk_tree.specs.PlanTree.{IsPlanTree}
use Rattle.sk_place.specs.Running.{HasTree, IsAfter, IsRun, IsMadeOf, IsStepOf, AreHeld}
use Rattle.sk_place.proofs.PlanSteps.{named_at, join_of, the_join, step_found}
use Rattle.sk_place.proofs.Joins.{here_named, fault_named, failing_here}
use Rattle.sk_place.specs.declared.fault.PlaceError.{PlaceError}
use Rattle.sk_place.specs.declared.fault.PlaceError.TheVariants.{Fault, NoMemory}
use Rattle.sk_place.proofs.Afters.{here, joins, first, second, third, s_in}

-- ---- the tree of each live cluster is a part of the whole tree

-- after the steps the name is live
abbrev pub EndsWith : List PlanStep → Clusters → Name → Type 0
EndsWith [] f n = IsLive f n
EndsWith (s ∷ ss) f n = EndsWith ss (next_after f s) n

pub ends_with_last : (g : Graph) (f : Clusters) (before : List PlanStep) (last : PlanStep) → AreLegalSteps g f (before ++ last ∷ []) → EndsWith (before ++ last ∷ []) f last.step
ends_with_last g f [] last (legal, whole) =
    let ns : List Name = last.one ∷ last.two ∷ last.three ∷ [] in
    (whole_from (Step f.next_step) ns f.live, record { lives = Contains-push (unnamed ns f.live) (whole_from (Step f.next_step) ns f.live); has_name = sym legal.next })
ends_with_last g f (b ∷ bs) last (legal, rest) = ends_with_last g (next_after f b) bs last rest

-- the fault of the one is one of the other
pub record IsPart (G : Type 0) (g : Graph) (steps : List PlanStep) (part whole : Tree) : Type 0 where
  pub up : (placing : PlaceBy) (F : ℕ) (f : StepFault) → IsFault G placing F g steps part f → IsFault G placing F g steps whole f

module _ (G : Type 0) (g : Graph) (p : Plan) (legal : IsLegalPlan g p) (some_starts : ¬ (starts g ≡ [])) (top : Tree) (n : Name) (top_is : HasTree p n top) where
  pub parts : (rest : List PlanStep) (f : Clusters) → IsSound f → AreLegalSteps g f rest → ((s : PlanStep) → Contains rest s → Contains p.steps s) → EndsWith rest f n
      → (c : Cluster) → Contains f.live c → (t : Tree) × HasTree p c.name t × IsPart G g p.steps t top
  parts [] f sound whole within ends c c_in = elim whole [
    | inl (only, alone, nodes) ↦
        let c_is : only ≡ c = contains_one only c (subst (λ (cs : List Cluster). Contains cs c) alone c_in) in
        let e_is : only ≡ ends.0 = contains_one only ends.0 (subst (λ (cs : List Cluster). Contains cs ends.0) alone ends.1.lives) in
        let name_is : n ≡ c.name = sym ends.1.has_name ∙ ap (λ (d : Cluster). d.name) (sym e_is ∙ c_is) in
        (top, subst (λ (m : Name). HasTree p m top) name_is top_is, record { up = λ placing F f h. h })
    | inr (one, no_edges, no_blocks) ↦ absurd (some_starts (no_starts g no_edges no_blocks))
  ]
  parts (s ∷ ss) f sound (step_legal, rest_legal) within ends c c_in =
      let ns : List Name = s.one ∷ s.two ∷ s.three ∷ [] in
      let j = step_legal.joins in
      let meets : MergeHolds g f (Three s.one s.two s.three) = (j.one, j.two, j.three, j.one_named, j.two_named, j.three_named, (s.a, s.b, s.c, j.meets.triangle)) in
      let can = can_be_replaced g f (Three s.one s.two s.three) step_legal.falls meets in
      let sound' = sound_replaced f ns sound can in
      let later = parts ss (next_after f s) sound' rest_legal (λ x h. within x (contains_later s ss x h)) ends in
      elim (cases_Bool (is_named ns c.name)) [
        | inr other ↦ later c (Contains-append_left (unnamed ns f.live) (whole_from (Step f.next_step) ns f.live ∷ []) c
            (contains_filtered (λ (d : Cluster). not (is_named ns d.name)) f.live c c_in (ap not other)))
        | inl is_one ↦
            let whole : Cluster = whole_from (Step f.next_step) ns f.live in
            let made_part = later whole (Contains-push (unnamed ns f.live) whole) in
            child c (among_named ns c.name is_one) made_part.0 (subst (λ (m : Name). HasTree p m made_part.0) (sym step_legal.next) made_part.1) made_part.2
      ]
    where
      child : (d : Cluster) → Contains (s.one ∷ s.two ∷ s.three ∷ []) d.name → (t : Tree) → HasTree p s.step t → IsPart G g p.steps t top
          → (t' : Tree) × HasTree p d.name t' × IsPart G g p.steps t' top
      child d d_in (Leaf k) h part = (let never : Step f.next_step ≡ Con k.0 = sym step_legal.next ∙ h in absurd (cc))
      child d d_in (Join' at step shared one two three) (step_is, (x, y, z, told, a, b, e)) part =
          let join = the_join g p legal s (within s (contains_head s ss)) step shared one two three x y z (sym step_is) told a b e in
          elim (contains_cases s.one (s.two ∷ s.three ∷ []) d.name d_in) [
            | inl is ↦ (one, subst (λ (m : Name). HasTree p m one) is join.first, record { up = λ placing F f h. part.up placing F f (inr (inl h)) })
            | inr rest ↦ elim (contains_cases s.two (s.three ∷ []) d.name rest) [
              | inl is ↦ (two, subst (λ (m : Name). HasTree p m two) is join.second, record { up = λ placing F f h. part.up placing F f (inr (inr (inl h))) })
              | inr last ↦ (three, subst (λ (m : Name). HasTree p m three) (contains_one s.three d.name last) join.third, record { up = λ placing F f h. part.up placing F f (inr (inr (inr h))) })
            ]
          ]

-- ---- no earlier step has a fault

-- no tree of a step of the first i has a fault on this grid
pub record AreFaultless (G : Type 0) (placing : PlaceBy) (F : ℕ) (g : Graph) (p : Plan) (i : ℕ) : Type 0 where
  pub none : (s : PlanStep) → Contains (take i p.steps) s → (t : Tree) → HasTree p s.step t → (f : StepFault) → ¬ IsFault G placing F g p.steps t f

module _ (G : Type 0) (placing : PlaceBy) (F : ℕ) (g : Graph) (p : Plan) (legal : IsLegalPlan g p) (i : ℕ) (early : AreFaultless G placing F g p i) (s : PlanStep) (s_is : s.step ≡ Step (1 + i)) where
  pub not_below : (t : Tree) (n : Name) → HasTree p n t → (other : StepFault) → IsFault G placing F g p.steps t other → ¬ IsBelow other.step s.step
  not_below (Leaf c) n h other fault below = fault
  not_below (Join' at step shared one two three) n (n_is, (x, y, z, told, a, b, d)) other fault below =
      elim fault [
        | inl own ↦
            let join = join_of g p legal step shared one two three x y z told a b d in
            let t : PlanStep = join.0 in
            let place : ℕ = join.1.0 in
            let found : step_of p.steps step ≡ Some t = subst (λ (m : Name). step_of p.steps m ≡ Some t) join.2.step_is (step_found g p legal t join.1) in
            let other_is : other.step ≡ t.step = here_named placing F g p.steps t step found at one two three other own in
            let t_named : t.step ≡ Step (1 + place) = ap (λ (q : PlanStep). q.step) (sym join.1.2) ∙ named_at g p legal place t join.1.1 in
            let less : IsBelow (Step (1 + place)) (Step (1 + i)) = subst (λ (m : Name). IsBelow m (Step (1 + i))) (other_is ∙ t_named) (subst (λ (m : Name). IsBelow other.step m) s_is below) in
            let place_less : place < i = omega arith in
            early.none t (in_front t place place_less join.1.1 join.1.2) (Join' at step shared one two three) (join.2.step_is, (x, y, z, told, a, b, d)) other (inl own)
        | inr rest ↦ elim rest [
          | inl k ↦ not_below one x a other k below
          | inr more ↦ elim more [
            | inl k ↦ not_below two y b other k below
            | inr k ↦ not_below three z d other k below
          ]
        ]
      ]
    where
      in_front : (t : PlanStep) (k : ℕ) → k < i → k < length p.steps → get_or p.steps k t ≡ t → Contains (take i p.steps) t
      in_front t k less inside is = (k, omega (arith, length-take i p.steps), get_or-take i p.steps k t less ∙ is)

-- ---- the step that fails

pub no_starts_no_steps : (g : Graph) (steps : List PlanStep) → AreLegalSteps g (initial_clusters g) steps → 0 < length steps → ¬ (starts g ≡ [])
no_starts_no_steps g [] legal some none = absurd (omega arith)
no_starts_no_steps g (s ∷ ss) (legal, rest) some none =
    let nobody : map start_of (starts g) ≡ [] = ap (map start_of) none in
    contains_none legal.joins.one (subst (λ (cs : List Cluster). Contains cs legal.joins.one) nobody legal.joins.one_named.lives)

module _ {G : Type 0} (placing : PlaceBy) (F : ℕ) (g : Graph) (p : Plan) (sound : IsSoundGraph g) (legal : IsLegalPlan g p)
    (i : ℕ) (live : List (Option (List (BoxAt G)))) (after : IsAfter placing F g p i live) (inside : i < length p.steps) (s : PlanStep) (s_is : get_or p.steps i s ≡ s)
    (x y z : List (BoxAt G)) (are : AreHeld F g live s x y z) (f : StepFault) (is : joined placing F s x y z ≡ Err f) where
  names_it : s.step ≡ Step (1 + i)
  names_it = ap (λ (q : PlanStep). q.step) (sym s_is) ∙ named_at g p legal i s inside

  at_join : (t : Tree) → HasTree p s.step t → IsFault G placing F g p.steps t f
  at_join (Leaf c) h = (let never : Step (1 + i) ≡ Con c.0 = sym names_it ∙ h in absurd (cc))
  at_join (Join' at step shared a b c) (step_is, (x', y', z', told, ha, hb, hc)) =
      let there = s_in placing F g p sound legal i live after inside s s_is in
      let join = the_join g p legal s there step shared a b c x' y' z' (sym step_is) told ha hb hc in
      let found : step_of p.steps step ≡ Some s = subst (λ (n : Name). step_of p.steps n ≡ Some s) join.step_is (step_found g p legal s there) in
      let j = joins placing F g p sound legal i live after inside s s_is in
      inl (failing_here placing F g p.steps s step found at a b c x y z
      ((first placing F g p sound legal i live after inside s s_is x y z are).trees a (subst (λ (n : Name). HasTree p n a) (sym j.one_named.has_name) join.first))
      ((second placing F g p sound legal i live after inside s s_is x y z are).trees b (subst (λ (n : Name). HasTree p n b) (sym j.two_named.has_name) join.second))
      ((third placing F g p sound legal i live after inside s s_is x y z are).trees c (subst (λ (n : Name). HasTree p n c) (sym j.three_named.has_name) join.third))
      f is)

  pub starts_there : ¬ (starts g ≡ [])
  starts_there = no_starts_no_steps g p.steps legal.steps (omega arith)

  pub leaves_there : ¬ (p.leaves ≡ [])
  leaves_there none = starts_there (nothing_mapped (λ (t : Start). t.number) (starts g) (sym legal.leaves ∙ none))

  rest_is : drop i p.steps ≡ s ∷ drop (suc i) p.steps
  rest_is = drop-cons p.steps i s inside ∙ ap (λ (q : PlanStep). q ∷ drop (suc i) p.steps) s_is

  faultless : AreFaultless G placing F g p i
  faultless = record { none = λ t t_in tree h. (after.settled t t_in tree h).1.faultless }

  -- a tree of the step is a part of each tree of the plan, whatever grid its faults are those of
  part_of : (H : Type 0) (top : Tree) → IsPlanTree p top → (n : Name) × HasTree p n top × ((t : Tree) × HasTree p s.step t × IsPart H g p.steps t top)
  part_of H top (inr (k, none, leaves_are, top_is)) = (let size = ap (λ (ss : List PlanStep). length ss) none in absurd (omega arith))
  part_of H top (inl (before, last, steps_are, top_is)) =
      let size = ap (λ (ss : List PlanStep). length ss) steps_are ∙ length-append before (last ∷ []) in
      let rest_ends : drop i p.steps ≡ drop i before ++ last ∷ [] = ap (drop i) steps_are ∙ drop-append-le i before (last ∷ []) (omega arith) in
      let ends : EndsWith (drop i before ++ last ∷ []) after.family last.step =
      ends_with_last g after.family (drop i before) last (subst (λ (ss : List PlanStep). AreLegalSteps g after.family ss) rest_ends after.legal) in
      let ends_later : EndsWith (s ∷ drop (suc i) p.steps) after.family last.step =
      subst (λ (ss : List PlanStep). EndsWith ss after.family last.step) (sym rest_ends ∙ rest_is) ends in
      let ns : List Name = s.one ∷ s.two ∷ s.three ∷ [] in
      let now = here placing F g p sound legal i live after inside s s_is in
      let j = joins placing F g p sound legal i live after inside s s_is in
      let meets : MergeHolds g after.family (Three s.one s.two s.three) = (j.one, j.two, j.three, j.one_named, j.two_named, j.three_named, (s.a, s.b, s.c, j.meets.triangle)) in
      let can = can_be_replaced g after.family (Three s.one s.two s.three) now.0.falls meets in
      let whole : Cluster = whole_from (Step after.family.next_step) ns after.family.live in
      let within : (q : PlanStep) → Contains (drop (suc i) p.steps) q → Contains p.steps q = in_drop (suc i) p.steps in
      let part =
      parts H g p legal starts_there top last.step top_is (drop (suc i) p.steps) (next_after after.family s)
      (sound_replaced after.family ns after.sound can) now.1 within ends_later whole (Contains-push (unnamed ns after.family.live) whole) in
      (last.step, top_is, (part.0, subst (λ (n : Name). HasTree p n part.0) (sym now.0.next) part.1, part.2))

  pub failed : (top : Tree) → IsPlanTree p top → IsFirstFault G placing F g p.steps top f
  failed top h =
      let part = part_of G top h in
      record {
        fails = part.2.2.up placing F f (at_join part.2.0 part.2.1);
        first = λ other fault below. not_below G placing F g p legal i faultless s names_it top part.0 part.1 other fault
            (subst (λ (n : Name). IsBelow other.step n) (fault_named placing F s x y z f is) below);
      }

-- ---- on the finer grid H

module _ {G : Type 0} (H : Type 0) (F : ℕ) (g : Graph) (p : Plan) (sound : IsSoundGraph g) (legal : IsLegalPlan g p)
    (i : ℕ) (live : List (Option (List (BoxAt G)))) (after : IsAfter Boxes F g p i live) (inside : i < length p.steps) (s : PlanStep) (s_is : get_or p.steps i s ≡ s)
    (x y z : List (BoxAt G)) (are : AreHeld F g live s x y z) (f : StepFault) (is : joined Boxes F s x y z ≡ Err f) where
  finer_faultless : (k : ℕ) → AreFaultless H Boxes (F + k) g p i
  finer_faultless k = record { none = λ t t_in tree h. (let settled = after.settled t t_in tree h in (nest_on H F k g p.steps tree settled.0 settled.1).has.faultless) }

  finer_join : (k : ℕ) (lo hi : ℤ) → f.cause ≡ Gap lo hi → (t : Tree) → HasTree p s.step t → (l : ℤ) × (h : ℤ) × IsFault H Boxes (F + k) g p.steps t (with_gap f l h)
  finer_join k lo hi gap (Leaf c) h = (let never : Step (1 + i) ≡ Con c.0 = sym (names_it Boxes F g p sound legal i live after inside s s_is x y z are f is) ∙ h in absurd (cc))
  finer_join k lo hi gap (Join' at step shared a b c) (step_is, (x', y', z', told, ha, hb, hc)) =
      let there = s_in Boxes F g p sound legal i live after inside s s_is in
      let join = the_join g p legal s there step shared a b c x' y' z' (sym step_is) told ha hb hc in
      let found : step_of p.steps step ≡ Some s = subst (λ (n : Name). step_of p.steps n ≡ Some s) join.step_is (step_found g p legal s there) in
      let j = joins Boxes F g p sound legal i live after inside s s_is in
      let one = nest_on H F k g p.steps a x ((first Boxes F g p sound legal i live after inside s s_is x y z are).trees a (subst (λ (n : Name). HasTree p n a) (sym j.one_named.has_name) join.first)) in
      let two = nest_on H F k g p.steps b y ((second Boxes F g p sound legal i live after inside s s_is x y z are).trees b (subst (λ (n : Name). HasTree p n b) (sym j.two_named.has_name) join.second)) in
      let three = nest_on H F k g p.steps c z ((third Boxes F g p sound legal i live after inside s s_is x y z are).trees c (subst (λ (n : Name). HasTree p n c) (sym j.three_named.has_name) join.third)) in
      let kept : KeepsStep (AreInside {G = H} {H = G} k) (joined Boxes (F + k) s one.fine two.fine three.fine) (Err f) =
      subst (λ (r : Result (List (BoxAt G)) StepFault). KeepsStep (AreInside {G = H} {H = G} k) (joined Boxes (F + k) s one.fine two.fine three.fine) r) is
      (joined_step H G F k s one.fine two.fine three.fine x y z one.inside two.inside three.inside) in
      let finer : KeepsCause (joined Boxes (F + k) s one.fine two.fine three.fine) f (Gap lo hi) = subst (λ (cause : Cause). KeepsCause (joined Boxes (F + k) s one.fine two.fine three.fine) f cause) gap kept in (
        finer.0,
        finer.1,
        inl (failing_here Boxes (F + k) g p.steps s step found at a b c one.fine two.fine three.fine one.has two.has three.has (with_gap f finer.0 finer.1) finer.2),
      )

  pub kept_failed : (k : ℕ) (c : Cause) → f.cause ≡ c → KeepsGap H (F + k) g p f c
  kept_failed k (Gap lo hi) gap = λ top h.
      let part = part_of Boxes F g p sound legal i live after inside s s_is x y z are f is H top h in
      let finer = finer_join k lo hi gap part.2.0 part.2.1 in (
        finer.0,
        finer.1,
        record {
          fails = part.2.2.up Boxes (F + k) (with_gap f finer.0 finer.1) finer.2;
          first = λ other fault below. not_below H Boxes (F + k) g p legal i (finer_faultless k) s (names_it Boxes F g p sound legal i live after inside s s_is x y z are f is) top part.0 part.1 other fault
              (subst (λ (n : Name). IsBelow other.step n) (fault_named Boxes F s x y z f is) below);
        },
      )
  kept_failed k (Flat lo hi) gap = tt
  kept_failed k Range gap = tt

pub kept_run : {G : Type 0} (H : Type 0) (placing : PlaceBy) (F : ℕ) (g : Graph) (p : Plan) (sound : IsSoundGraph g) (legal : IsLegalPlan g p)
    (i : ℕ) (live : List (Option (List (BoxAt G)))) (after : IsAfter placing F g p i live) (inside : i < length p.steps) (s : PlanStep) (s_is : get_or p.steps i s ≡ s)
    (f : StepFault) → IsMadeOf placing F g live s (Err f) → placing ≡ Boxes → (k : ℕ) → KeepsGap H (F + k) g p f f.cause
kept_run H Boxes F g p sound legal i live after inside s s_is f made same k = kept_failed H F g p sound legal i live after inside s s_is made.one made.two made.three made.are f made.is k f.cause refl
kept_run H Points F g p sound legal i live after inside s s_is f made same k = (let never : Points ≡ Boxes = same in absurd (cc))

pub failed_run : {G : Type 0} (placing : PlaceBy) (F : ℕ) (g : Graph) (p : Plan) (sound : IsSoundGraph g) (legal : IsLegalPlan g p)
    (i : ℕ) (live : List (Option (List (BoxAt G)))) (after : IsAfter placing F g p i live) (inside : i < length p.steps) (s : PlanStep) (s_is : get_or p.steps i s ≡ s)
    (e : PlaceError) → (let refused : Result (List (BoxAt G)) PlaceError = Err e in IsStepOf placing F g live s refused)
    → (let refused : Result (List (Option (List (BoxAt G)))) PlaceError = Err e in IsRun placing F g p refused)
failed_run {G} placing F g p sound legal i live after inside s s_is (Fault f) of_step = (
  (
    λ top h. failed placing F g p sound legal i live after inside s s_is of_step.one of_step.two of_step.three of_step.are f of_step.is top h,
    leaves_there placing F g p sound legal i live after inside s s_is of_step.one of_step.two of_step.three of_step.are f of_step.is,
  ),
  kept_run G placing F g p sound legal i live after inside s s_is f of_step,
)
failed_run placing F g p sound legal i live after inside s s_is NoMemory of_step = tt
