-- The boxes of a legal plan's base are those of its own frame.
use Rattle.std.proofs.Common.{◌≡◌, inl, inr, ℕ, Bool, true, false, List, [], ◌∷◌, Option, Some, None, Result, Ok, Err, refl, ap, sym, subst, ◌∙◌, arith}
use Rattle.std.specs.Prelude.{Contains, map}
use Rattle.sk_base.specs.declared.Graph.{Graph}
use Rattle.sk_base.specs.declared.Name.{Name}
use Rattle.sk_base.specs.declared.Name.TheVariants.{Con}
use Rattle.sk_base.specs.ClusterNames.{name_eq}
use Rattle.sk_base.proofs.Members.{contains_none, contains_cases}
use Rattle.std.proofs.lemmas.Option.{same_Some}
use Rattle.sk_family.proofs.Naming.{name_eq_true, name_eq_same}
use Rattle.sk_steps.specs.declared.BoxOf.{BoxOf}
use Rattle.sk_steps.specs.Leaves.{leaf}
use Rattle.sk_tree.specs.declared.Plan.{Plan}
use Rattle.sk_tree.specs.declared.PlanStep.{PlanStep}
use Rattle.sk_tree.specs.declared.Tree.{Tree}
use Rattle.sk_tree.specs.declared.Tree.TheVariants.{Leaf, Join'}
use Rattle.sk_tree.specs.LegalPlan.{IsLegalPlan}
use Rattle.sk_place.specs.declared.BoxAt.{BoxAt}
use Rattle.sk_place.specs.declared.PlaceBy.{PlaceBy}
use Rattle.sk_place.specs.declared.StepFault.{StepFault}
use Rattle.sk_place.specs.Clusters.{Rise}
use Rattle.sk_place.specs.Running.{HasTree}
use Rattle.sk_place.specs.Steps.{setting, joined}
use Rattle.sk_place.specs.Trees.{Framed, edge, block, framed_of, frame_of, two_boxes, pin_at, step_of, made, boxes_in, boxes}
use Rattle.sk_place.proofs.Corners.{rises_with_all}
use Rattle.sk_place.proofs.Lookups.{rises_with}
use Rattle.sk_place.proofs.PlanSteps.{IsJoinOf, join_of, step_found}
use Rattle.sk_frame.specs.Bases.{kept_from}
use Rattle.sk_solve.proofs.BaseBoxes.{Keeps, keeps_all, keeps_more, joined_keeps}
use Rattle.sk_solve.proofs.KeptPaths.{kept_on, kept_ends, keeps_one}

module _ {G : Type 0} (placing : PlaceBy) (F : ℕ) where
  boxes_ok : (r : Result (List (BoxAt G)) StepFault) (bs : List (BoxAt G)) → boxes_in (Some r) ≡ Some bs → r ≡ Ok bs
  boxes_ok (Ok xs) bs is = ap Ok (same_Some xs bs is)
  boxes_ok (Err f) bs is = (let never : None ≡ Some bs = is in absurd (cc))

  -- the boxes of a step's three children, where it has boxes
  record MadeFrom (s : PlanStep) (one two three : Option (List (BoxAt G))) (bs : List (BoxAt G)) : Type 0 where
    x : List (BoxAt G)
    y : List (BoxAt G)
    z : List (BoxAt G)
    x_is : one ≡ Some x
    y_is : two ≡ Some y
    z_is : three ≡ Some z
    is : joined placing F s x y z ≡ Ok bs

  made_from : (s : PlanStep) (one two three : Option (List (BoxAt G))) (bs : List (BoxAt G)) → boxes_in (made placing F (Some s) one two three) ≡ Some bs → MadeFrom s one two three bs
  made_from s (Some x) (Some y) (Some z) bs is = record { x = x; y = y; z = z; x_is = refl; y_is = refl; z_is = refl; is = boxes_ok (joined placing F s x y z) bs is }
  made_from s (Some x) (Some y) None bs is = (let never : None ≡ Some bs = is in absurd (cc))
  made_from s (Some x) None three bs is = (let never : None ≡ Some bs = is in absurd (cc))
  made_from s None two three bs is = (let never : None ≡ Some bs = is in absurd (cc))

  leaf_rises : (framed : Option Framed) (bs : List (BoxAt G)) → frame_of F framed ≡ Some bs → Rise bs
  leaf_rises (Some (edge e)) bs is = told (leaf F e.measure) is
    where
      told : {N : Type 0} (r : Result (BoxOf G × BoxOf G) N) → two_boxes e r ≡ Some bs → Rise bs
      told (Ok found) here = subst Rise (same_Some _ bs here) (rises_with (record { elem = e.u; at = found.0 }) (record { elem = e.v; at = found.1 } ∷ []) (λ i j d below inside. absurd (omega arith)))
      told (Err fault) here = (let never : None ≡ Some bs = here in absurd (cc))
  leaf_rises (Some (block b)) bs is = subst Rise (same_Some _ bs is) (rises_with_all (map (pin_at F) b.pins) [] (λ i j d below inside. absurd (omega arith)))
  leaf_rises None bs is = (let never : None ≡ Some bs = is in absurd (cc))

  module _ (g : Graph) (p : Plan) (legal : IsLegalPlan g p) where
    -- the kept children lead from the name to a constraint or block, and they keep its boxes in its own frame
    pub record Based (n : Name) (bs : List (BoxAt G)) : Type 0 where
      pub k : ℕ
      pub leads : kept_from p.steps n ≡ Con k
      pub own : List (BoxAt G)
      pub own_is : frame_of F (framed_of g k) ≡ Some own
      pub keeps : Keeps own bs

    pub based : (t : Tree) (n : Name) → HasTree p n t → (bs : List (BoxAt G)) → boxes placing F g p.steps t ≡ Some bs → Based n bs
    based (Leaf c) n tree bs is = record {
      k = c.0;
      leads = ap (kept_from p.steps) tree ∙ kept_ends g p legal c.0;
      own = bs;
      own_is = is;
      keeps = keeps_all bs (leaf_rises (framed_of g c.0) bs is);
    }
    based (Join' at step shared one two three) n (n_is, (x, y, z, told, a, b, c)) bs is =
        by_name (based one) (based two) (based three) (name_eq s.keeps s.one) refl (name_eq s.keeps s.two) refl
      where
        join : (s : PlanStep) × Contains p.steps s × IsJoinOf g p legal s step one two three
        join = join_of g p legal step shared one two three x y z told a b c

        s : PlanStep
        s = join.0

        found : step_of p.steps step ≡ Some s
        found = subst (λ (m : Name). step_of p.steps m ≡ Some s) join.2.step_is (step_found g p legal s join.1)

        made_is : MadeFrom s (boxes placing F g p.steps one) (boxes placing F g p.steps two) (boxes placing F g p.steps three) bs
        made_is = made_from s (boxes placing F g p.steps one) (boxes placing F g p.steps two) (boxes placing F g p.steps three) bs
            (subst (λ (o : Option PlanStep). boxes_in (made placing F o (boxes placing F g p.steps one) (boxes placing F g p.steps two) (boxes placing F g p.steps three)) ≡ Some bs) found is)

        leads_on : kept_from p.steps n ≡ kept_from p.steps s.keeps
        leads_on = ap (kept_from p.steps) (n_is ∙ sym join.2.step_is) ∙ kept_on g p legal s join.1

        from_kept : (kept : List (BoxAt G)) (m : Name) → s.keeps ≡ m → (setting s made_is.x made_is.y made_is.z).kept ≡ kept → Based m kept → Based n bs
        from_kept kept m m_is kept_is under =
            let rises = subst Rise (sym kept_is) under.keeps.rises in
            let on = subst (λ (l : List (BoxAt G)). Keeps l bs) kept_is (joined_keeps placing F s made_is.x made_is.y made_is.z bs made_is.is rises) in
            record { k = under.k; leads = leads_on ∙ ap (kept_from p.steps) m_is ∙ under.leads; own = under.own; own_is = under.own_is; keeps = keeps_more under.own kept bs under.keeps on }

        third : name_eq s.keeps s.one ≡ false → name_eq s.keeps s.two ≡ false → s.keeps ≡ s.three
        third not_one not_two =
            elim (contains_cases s.one (s.two ∷ s.three ∷ []) s.keeps (keeps_one g p legal s join.1)) [
              | inl h ↦ (let never : true ≡ false = sym (name_eq_same s.keeps) ∙ ap (name_eq s.keeps) (sym h) ∙ not_one in absurd (cc))
              | inr l ↦ elim (contains_cases s.two (s.three ∷ []) s.keeps l) [
                | inl h ↦ (let never : true ≡ false = sym (name_eq_same s.keeps) ∙ ap (name_eq s.keeps) (sym h) ∙ not_two in absurd (cc))
                | inr m ↦ elim (contains_cases s.three [] s.keeps m) [
                  | inl h ↦ sym h
                  | inr e ↦ absurd (contains_none s.keeps e)
                ]
              ]
            ]

        by_name : ((m : Name) → HasTree p m one → (xs : List (BoxAt G)) → boxes placing F g p.steps one ≡ Some xs → Based m xs) → ((m : Name) → HasTree p m two → (xs : List (BoxAt G)) → boxes placing F g p.steps two ≡ Some xs → Based m xs) → ((m : Name) → HasTree p m three → (xs : List (BoxAt G)) → boxes placing F g p.steps three ≡ Some xs → Based m xs)
            → (i : Bool) → name_eq s.keeps s.one ≡ i → (j : Bool) → name_eq s.keeps s.two ≡ j → Based n bs
        by_name first second others true i_is j j_is =
            from_kept made_is.x s.one (name_eq_true s.keeps s.one i_is) (rw i_is refl) (first s.one join.2.first made_is.x made_is.x_is)
        by_name first second others false i_is true j_is =
            from_kept made_is.y s.two (name_eq_true s.keeps s.two j_is) (rw (i_is, j_is) refl) (second s.two join.2.second made_is.y made_is.y_is)
        by_name first second others false i_is false j_is =
            from_kept made_is.z s.three (third i_is j_is) (rw (i_is, j_is) refl) (others s.three join.2.third made_is.z made_is.z_is)
