-- A plan has one placement at most on a grid.
use Rattle.std.proofs.Common.{◌≡◌, inl, inr, ℕ, ◌+◌, List, [], ◌∷◌, Option, Some, Result, Ok, Err, refl, ap, sym, subst, ◌∙◌}
use Rattle.std.specs.Prelude.{Contains}
use Rattle.sk_base.specs.declared.ConId.{ConId}
use Rattle.sk_base.specs.declared.Graph.{Graph}
use Rattle.sk_base.specs.declared.Name.{Name}
use Rattle.sk_base.specs.declared.Name.TheVariants.{Con, Step}
use Rattle.sk_base.specs.ClusterNames.{IsBelow}
use Rattle.sk_base.proofs.Unions.{which}
use Rattle.std.proofs.lemmas.Option.{same_Some}
use Rattle.sk_tree.specs.declared.Plan.{Plan}
use Rattle.sk_tree.specs.declared.PlanStep.{PlanStep}
use Rattle.sk_tree.specs.declared.Tree.{Tree}
use Rattle.sk_tree.specs.declared.Tree.TheVariants.{Leaf, Join'}
use Rattle.sk_tree.specs.LegalPlan.{IsLegalPlan}
use Rattle.sk_tree.specs.PlanTree.{IsPlanTree}
use Rattle.sk_place.specs.declared.boxes.BoxAt.{BoxAt}
use Rattle.sk_place.specs.declared.settling.PlaceBy.{PlaceBy}
use Rattle.sk_place.specs.declared.fault.StepFault.{StepFault}
use Rattle.sk_place.specs.declared.fault.PlaceError.TheVariants.{Fault}
use Rattle.sk_place.specs.Placing.{IsPlaced}
use Rattle.sk_place.specs.Running.{HasTree}
use Rattle.sk_place.specs.Trees.{framed_of, frame_of, step_of, made, boxes_in, boxes, IsFault, IsFirstFault}
use Rattle.sk_place.proofs.Joins.{here_named}
use Rattle.sk_place.proofs.PlanSteps.{named_at, one_step, join_of, the_join, step_found}

-- of two names of which neither is below the other there is one
neither_below : (m n : Name) → ¬ IsBelow m n → ¬ IsBelow n m → m ≡ n
neither_below (Con j) (Con k) low high = elim (which j k) [ inl below ↦ absurd (low below) | inr rest ↦ elim rest [ inl same ↦ ap Con same | inr above ↦ absurd (high above) ] ]
neither_below (Con j) (Step k) low high = absurd (low tt)
neither_below (Step j) (Con k) low high = absurd (high tt)
neither_below (Step j) (Step k) low high = elim (which j k) [ inl below ↦ absurd (low below) | inr rest ↦ elim rest [ inl same ↦ ap Step same | inr above ↦ absurd (high above) ] ]

module _ (G : Type 0) (placing : PlaceBy) (F : ℕ) (g : Graph) (p : Plan) (legal : IsLegalPlan g p) where
  same_made : (s s' : Option PlanStep) (a a' b b' c c' : Option (List (BoxAt G))) → s ≡ s' → a ≡ a' → b ≡ b' → c ≡ c' → made placing F s a b c ≡ made placing F s' a' b' c'
  same_made s s' a a' b b' c c' s_is a_is b_is c_is = cc

  no_step : (c : ℕ) (n step : Name) (s : PlanStep) → Contains p.steps s → n ≡ Con c → n ≡ step → s.step ≡ step → ⊥
  no_step c n step s s_in n_is n_step step_is =
      let named : s.step ≡ Step (1 + s_in.0) = ap (λ (q : PlanStep). q.step) (sym s_in.2) ∙ named_at g p legal s_in.0 s s_in.1 in
      let never : Con c ≡ Step (1 + s_in.0) = sym n_is ∙ n_step ∙ sym step_is ∙ named in cc

  -- all trees of a name have the same boxes
  same_boxes : (t u : Tree) (n : Name) → HasTree p n t → HasTree p n u → boxes {G = G} placing F g p.steps t ≡ boxes placing F g p.steps u
  same_boxes (Leaf c) (Leaf d) n h k = (let same : c.0 ≡ d.0 = inside c.0 d.0 (sym h ∙ k) in ap (λ (j : ℕ). frame_of {G = G} F (framed_of g j)) same)
    where
      inside : (i j : ℕ) → Con i ≡ Con j → i ≡ j
      inside i j e = cc
  same_boxes (Leaf c) (Join' at step shared one two three) n h (n_is, (x, y, z, told, a, b, d)) =
      let join = join_of g p legal step shared one two three x y z told a b d in absurd (no_step c.0 n step join.0 join.1 h n_is join.2.step_is)
  same_boxes (Join' at step shared one two three) (Leaf c) n (n_is, (x, y, z, told, a, b, d)) h =
      let join = join_of g p legal step shared one two three x y z told a b d in absurd (no_step c.0 n step join.0 join.1 h n_is join.2.step_is)
  same_boxes (Join' at step shared one two three) (Join' at' step' shared' one' two' three') n (n_is, (x, y, z, told, a, b, d)) (n_is', (x', y', z', told', a', b', d')) =
      let join = join_of g p legal step shared one two three x y z told a b d in
      let other = the_join g p legal join.0 join.1 step' shared' one' two' three' x' y' z' (sym n_is' ∙ n_is ∙ sym join.2.step_is) told' a' b' d' in
      ap (λ r. boxes_in r) (same_made (step_of p.steps step) (step_of p.steps step') (boxes placing F g p.steps one) (boxes placing F g p.steps one') (boxes placing F g p.steps two) (boxes placing F g p.steps two') (boxes placing F g p.steps three) (boxes placing F g p.steps three')
      (ap (λ (m : Name). step_of p.steps m) (sym n_is ∙ n_is'))
      (same_boxes one one' join.0.one join.2.first other.first)
      (same_boxes two two' join.0.two join.2.second other.second)
      (same_boxes three three' join.0.three join.2.third other.third))

  -- the step whose three children have boxes, and that has this fault
  record FailsAt (f : StepFault) : Type 0 where
    s : PlanStep
    s_in : Contains p.steps s
    named : f.step ≡ s.step
    one : Tree
    two : Tree
    three : Tree
    first : HasTree p s.one one
    second : HasTree p s.two two
    third : HasTree p s.three three
    is : made placing F (Some s) (boxes {G = G} placing F g p.steps one) (boxes placing F g p.steps two) (boxes placing F g p.steps three) ≡ Some (Err f)

  fails_at : (t : Tree) (n : Name) → HasTree p n t → (f : StepFault) → IsFault G placing F g p.steps t f → FailsAt f
  fails_at (Leaf c) n h f fault = absurd fault
  fails_at (Join' at step shared one two three) n (n_is, (x, y, z, told, a, b, d)) f fault =
      elim fault [
        | inl own ↦
            let join = join_of g p legal step shared one two three x y z told a b d in
            let found : step_of p.steps step ≡ Some join.0 = subst (λ (m : Name). step_of p.steps m ≡ Some join.0) join.2.step_is (step_found g p legal join.0 join.1) in
            record {
              s = join.0;
              s_in = join.1;
              named = here_named placing F g p.steps join.0 step found at one two three f own;
              one = one;
              two = two;
              three = three;
              first = join.2.first;
              second = join.2.second;
              third = join.2.third;
              is = subst (λ (o : Option PlanStep). made placing F o (boxes {G = G} placing F g p.steps one) (boxes placing F g p.steps two) (boxes placing F g p.steps three) ≡ Some (Err f)) found own;
            }
        | inr rest ↦ elim rest [
          | inl k ↦ fails_at one x a f k
          | inr more ↦ elim more [
            | inl k ↦ fails_at two y b f k
            | inr k ↦ fails_at three z d f k
          ]
        ]
      ]

  one_fault : (f e : StepFault) → f.step ≡ e.step → FailsAt f → FailsAt e → f ≡ e
  one_fault f e same here there =
      let s_is : here.s ≡ there.s = one_step g p legal here.s there.s here.s_in there.s_in (sym here.named ∙ same ∙ there.named) in
      let equal = same_made (Some here.s) (Some there.s) (boxes placing F g p.steps here.one) (boxes placing F g p.steps there.one) (boxes placing F g p.steps here.two) (boxes placing F g p.steps there.two) (boxes placing F g p.steps here.three) (boxes placing F g p.steps there.three)
      (ap Some s_is)
      (same_boxes here.one there.one there.s.one (subst (λ (q : PlanStep). HasTree p q.one here.one) s_is here.first) there.first)
      (same_boxes here.two there.two there.s.two (subst (λ (q : PlanStep). HasTree p q.two here.two) s_is here.second) there.second)
      (same_boxes here.three there.three there.s.three (subst (λ (q : PlanStep). HasTree p q.three here.three) s_is here.third) there.third) in
      inside (sym here.is ∙ equal ∙ there.is)
    where
      inside : (let fails : Result (List (BoxAt G)) StepFault = Err f in Some fails) ≡ Some (Err e) → f ≡ e
      inside is = cc

  named_tree : (t : Tree) → IsPlanTree p t → (n : Name) × HasTree p n t
  named_tree t (inl (before, last, is, tree)) = (last.step, tree)
  named_tree t (inr (k, none, only, t_is)) = (Con k.0, subst (λ (u : Tree). HasTree p (Con k.0) u) (sym t_is) refl)

  pub one_first : (t : Tree) → IsPlanTree p t → (f e : StepFault) → IsFirstFault G placing F g p.steps t f → IsFirstFault G placing F g p.steps t e → f ≡ e
  one_first t is f e first second =
      let named = named_tree t is in
      one_fault f e (neither_below f.step e.step (second.first f first.fails) (first.first e second.fails)) (fails_at t named.0 named.1 f first.fails) (fails_at t named.0 named.1 e second.fails)

  module _ (tree : ¬ (p.leaves ≡ []) → (t : Tree) × IsPlanTree p t) where
    by_leaves : (ks : List ConId) → p.leaves ≡ ks → (bs cs : List (BoxAt G)) → IsPlaced placing F g p (Ok bs) → IsPlaced placing F g p (Ok cs) → bs ≡ cs
    by_leaves [] none bs cs first second = first.1 none ∙ sym (second.1 none)
    by_leaves (k ∷ ks) are bs cs first second =
        let t = tree (λ none. (let never : [] ≡ k ∷ ks = sym none ∙ are in cc)) in
        same_Some bs cs (sym (first.0 t.0 t.1).are ∙ (second.0 t.0 t.1).are)

    pub one_list : (bs cs : List (BoxAt G)) → IsPlaced placing F g p (Ok bs) → IsPlaced placing F g p (Ok cs) → bs ≡ cs
    one_list = by_leaves p.leaves refl

    pub one_failure : (f e : StepFault) → IsPlaced {G = G} placing F g p (Err (Fault f)) → IsPlaced {G = G} placing F g p (Err (Fault e)) → f ≡ e
    one_failure f e first second = let t = tree first.1 in one_first t.0 t.1 f e (first.0 t.0 t.1) (second.0 t.0 t.1)

    pub not_both : (bs : List (BoxAt G)) (f : StepFault) → IsPlaced placing F g p (Ok bs) → IsPlaced {G = G} placing F g p (Err (Fault f)) → ⊥
    not_both bs f placed failed = let t = tree failed.1 in (placed.0 t.0 t.1).faultless f (failed.0 t.0 t.1).fails
