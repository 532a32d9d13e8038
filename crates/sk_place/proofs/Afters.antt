-- From one step to the next.
use Rattle.std.proofs.Common.{◌≡◌, ◌≢◌, ◌⊎◌, inl, inr, ℕ, suc, ◌+◌, ◌<◌, Bool, true, false, List, [], ◌∷◌, ◌++◌, length, get_or, take, drop, drop-cons, add-one, Option, Some, None, Ok, refl, ap, sym, subst, ◌∙◌, arith, length-append}
use Rattle.std.specs.Prelude.{Contains, map, not, if◌then◌else◌}
use Rattle.std.proofs.lemmas.Bool.{cases_Bool}
use Rattle.std.proofs.lemmas.List.{take_more, get_or_append_left}
use Rattle.std.proofs.Math.Seq.{get_or-append_seam}
use Rattle.std.proofs.lemmas.List.Elements.{Contains-get_or, Contains-push, Contains-push_cases}
use Rattle.sk_base.specs.declared.Elem.{Elem}
use Rattle.sk_base.specs.declared.Graph.{Graph}
use Rattle.sk_base.specs.declared.Name.{Name}
use Rattle.sk_base.specs.declared.Name.TheVariants.{Con, Step}
use Rattle.sk_base.specs.Numbering.{elem_number}
use Rattle.sk_base.specs.Rising.{IsRising}
use Rattle.sk_base.specs.ClusterNames.{name_eq, is_named}
use Rattle.sk_base.specs.SoundGraph.{IsSoundGraph}
use Rattle.sk_base.proofs.Members.{mapped_from, filtered_from, contains_head, contains_later, contains_cases, contains_one}
use Rattle.sk_base.proofs.Pairs.{pairs_map}
use Rattle.sk_base.proofs.Unions.{rising_same}
use Rattle.sk_family.specs.declared.Cluster.{Cluster}
use Rattle.sk_family.specs.Body.{Body, IsRisingBody, join_all, starts}
use Rattle.sk_family.specs.Clusters.{Clusters, IsNamed, initial_clusters, start_of, body_of, named, unnamed, made_of, whole_from, replaced}
use Rattle.sk_family.proofs.Bodies.{Within, each_within, whole_within, rising_whole}
use Rattle.sk_family.proofs.Naming.{below_chain, below_differs, named_among}
use Rattle.sk_place.specs.Rounding.{IsBoundedBox, AreBounded}
use Rattle.sk_place.proofs.Slots.{there_along}
use Rattle.sk_family.proofs.Soundness.{sound_initial, sound_replaced}
use Rattle.sk_family.specs.declared.Merge.TheVariants.{Three}
use Rattle.sk_rules.specs.Merges.{Holds as MergeHolds}
use Rattle.sk_rules.proofs.Merging.{can_be_replaced, named_three}
use Rattle.sk_tree.specs.declared.Plan.{Plan}
use Rattle.sk_tree.specs.declared.PlanStep.{PlanStep}
use Rattle.sk_tree.specs.declared.Tree.{Tree}
use Rattle.sk_tree.specs.declared.Tree.TheVariants.{Leaf, Join'}
use Rattle.sk_tree.specs.Meeting.{JoinsOnce}
use Rattle.sk_tree.specs.LegalPlan.{IsLegalStep, AreLegalSteps, IsLegalPlan, next_after}
use Rattle.sk_place.specs.declared.boxes.BoxAt.{BoxAt}
use Rattle.sk_place.specs.declared.settling.PlaceBy.{PlaceBy}
use Rattle.sk_place.specs.declared.setting.Setting.{Setting}
use Rattle.sk_place.specs.Clusters.{Holds, elements_of, comes_first}
use Rattle.sk_place.specs.Steps.{setting, exchanged, ordered, joined, HasCorners}
use Rattle.sk_place.specs.Trees.{step_of, HasBoxes}
use Rattle.sk_place.specs.Running.{held, HasTree, IsThere, ArePlaced, IsAfter, AreHeld, CanJoin}
use Rattle.sk_place.proofs.Corners.{corners_ordered}
use Rattle.sk_place.proofs.Fitting.{corners_of, of_graph, constructible_of, IsOfGraph}
use Rattle.sk_place.proofs.Outcomes.{HoldsOne, IsResult, result_in}
use Rattle.sk_place.proofs.Frames.{start_there, start_placed}
use Rattle.sk_place.proofs.PlanSteps.{the_join, step_found}
use Rattle.sk_place.proofs.Joins.{settled_join}

pub at_start : {G : Type 0} (placing : PlaceBy) (F : ℕ) (g : Graph) (p : Plan) → IsSoundGraph g → IsLegalPlan g p → (live : List (Option (List (BoxAt G)))) → live ≡ None ∷ [] → IsAfter placing F g p 0 live
at_start {G} placing F g p sound legal live is = record {
  family = initial_clusters g;
  sound = sound_initial g sound;
  legal = legal.steps;
  next = refl;
  first = λ h. refl;
  latest = λ h. absurd (omega arith);
  slots = ap (λ (xs : List (Option (List (BoxAt G)))). length xs) is;
  there = λ c c_in. (let from = mapped_from start_of (starts g) c c_in in
      subst (λ (d : Cluster). IsThere g live d.name) from.2 (start_there g sound from.0 from.1));
  placed = λ c c_in bs held_is. (let from = mapped_from start_of (starts g) c c_in in
      subst (λ (d : Cluster). ArePlaced placing F g p d bs) from.2
      (start_placed placing F g p sound legal from.0 bs from.1 (subst (λ (d : Cluster). held F g live d.name ≡ Some bs) (sym from.2) held_is)));
  settled = λ s none. absurd (contains_nothing s none);
}
  where
    contains_nothing : (s : PlanStep) → Contains (take 0 p.steps) s → ⊥
    contains_nothing s (k, below, is) = absurd (omega arith)

-- ---- who is held by one of the three

module _ {G : Type 0} (s : PlanStep) (x y z : List (BoxAt G)) (e : Elem) where
  abbrev pub AmongThree : Type 0
  AmongThree = Holds x e ⊎ (Holds y e ⊎ Holds z e)

  of_setting : HoldsOne (setting s x y z) e → Holds x e ⊎ (Holds y e ⊎ Holds z e)
  of_setting = either (name_eq s.keeps s.one) (name_eq s.keeps s.two)
    where
      either : (b c : Bool) → HoldsOne (if b then record { kept = x; first = y; second = z; u = s.a; v = s.c; w = s.b }
          else (if c then record { kept = y; first = x; second = z; u = s.a; v = s.b; w = s.c }
          else record { kept = z; first = x; second = y; u = s.c; v = s.b; w = s.a })) e → Holds x e ⊎ (Holds y e ⊎ Holds z e)
      either true c h = h
      either false true (inl h) = inr (inl h)
      either false true (inr (inl h)) = inl h
      either false true (inr (inr h)) = inr (inr h)
      either false false (inl h) = inr (inr h)
      either false false (inr (inl h)) = inl h
      either false false (inr (inr h)) = inr (inl h)

  to_setting : Holds x e ⊎ (Holds y e ⊎ Holds z e) → HoldsOne (setting s x y z) e
  to_setting = either (name_eq s.keeps s.one) (name_eq s.keeps s.two)
    where
      either : (b c : Bool) → Holds x e ⊎ (Holds y e ⊎ Holds z e) → HoldsOne (if b then record { kept = x; first = y; second = z; u = s.a; v = s.c; w = s.b }
          else (if c then record { kept = y; first = x; second = z; u = s.a; v = s.b; w = s.c }
          else record { kept = z; first = x; second = y; u = s.c; v = s.b; w = s.a })) e
      either true c h = h
      either false true (inl h) = inr (inl h)
      either false true (inr (inl h)) = inl h
      either false true (inr (inr h)) = inr (inr h)
      either false false (inl h) = inr (inl h)
      either false false (inr (inl h)) = inr (inr h)
      either false false (inr (inr h)) = inl h

of_ordered : {G : Type 0} (t : Setting G) (e : Elem) → HoldsOne (ordered t) e → HoldsOne t e
of_ordered t e = either (comes_first t.kept t.u t.v)
  where
    either : (b : Bool) → HoldsOne (if b then t else exchanged t) e → HoldsOne t e
    either true h = h
    either false (inl h) = inl h
    either false (inr (inl h)) = inr (inr h)
    either false (inr (inr h)) = inr (inl h)

to_ordered : {G : Type 0} (t : Setting G) (e : Elem) → HoldsOne t e → HoldsOne (ordered t) e
to_ordered t e = either (comes_first t.kept t.u t.v)
  where
    either : (b : Bool) → HoldsOne t e → HoldsOne (if b then t else exchanged t) e
    either true h = h
    either false (inl h) = inl h
    either false (inr (inl h)) = inr (inr h)
    either false (inr (inr h)) = inr (inl h)

graph_ordered : {G : Type 0} (g : Graph) (t : Setting G) → IsOfGraph g t → IsOfGraph g (ordered t)
graph_ordered g t h = either (comes_first t.kept t.u t.v)
  where
    either : (b : Bool) → IsOfGraph g (if b then t else exchanged t)
    either true = h
    either false = record { kept = h.kept; first = h.second; second = h.first; not_all_lines = λ k. h.not_all_lines (k.1, k.0, k.2) }

-- the kept child is one of the three
kept_is_one : {G : Type 0} (s : PlanStep) (x y z : List (BoxAt G)) (P : List (BoxAt G) → Type 0) → P x → P y → P z → P (ordered (setting s x y z)).kept
kept_is_one {G} s x y z P first second third = in_order (setting s x y z) (either (name_eq s.keeps s.one) (name_eq s.keeps s.two))
  where
    in_order : (t : Setting G) → P t.kept → P (ordered t).kept
    in_order t h = elim (cases_Bool (comes_first t.kept t.u t.v)) [ inl is ↦ rw is h | inr isnt ↦ rw isnt h ]

    either : (b c : Bool) → (let chosen : Setting G = if b then record { kept = x; first = y; second = z; u = s.a; v = s.c; w = s.b }
        else (if c then record { kept = y; first = x; second = z; u = s.a; v = s.b; w = s.c }
        else record { kept = z; first = x; second = y; u = s.c; v = s.b; w = s.a }) in P chosen.kept)
    either true c = first
    either false true = second
    either false false = third

-- ---- one step

module _ {G : Type 0} (placing : PlaceBy) (F : ℕ) (g : Graph) (p : Plan) (sound : IsSoundGraph g) (legal : IsLegalPlan g p)
    (i : ℕ) (live : List (Option (List (BoxAt G)))) (after : IsAfter placing F g p i live) (inside : i < length p.steps) (s : PlanStep) (s_is : get_or p.steps i s ≡ s) where
  pub s_in : Contains p.steps s
  s_in = (i, inside, s_is)

  pub here : IsLegalStep g after.family s × AreLegalSteps g (next_after after.family s) (drop (suc i) p.steps)
  here = subst (λ (ss : List PlanStep). AreLegalSteps g after.family ss) (drop-cons p.steps i s inside ∙ ap (λ (x : PlanStep). x ∷ drop (suc i) p.steps) s_is) after.legal

  pub joins : JoinsOnce g after.family s.one s.two s.three s.a s.b s.c
  joins = here.0.joins

  child : (c : Cluster) (n : Name) → IsNamed after.family n c → (x : List (BoxAt G)) → held F g live n ≡ Some x → ArePlaced placing F g p c x
  child c n is x held_is = after.placed c is.lives x (subst (λ (m : Name). held F g live m ≡ Some x) (sym is.has_name) held_is)

  child_there : (c : Cluster) (n : Name) → IsNamed after.family n c → IsThere g live n
  child_there c n is = subst (λ (m : Name). IsThere g live m) is.has_name (after.there c is.lives)

  rises : (c : Cluster) (n : Name) → IsNamed after.family n c → IsRising elem_number c.elements
  rises c n is = (after.sound.bodies_rise c is.lives).elements

  module _ (x y z : List (BoxAt G)) (are : AreHeld F g live s x y z) where
    pub first : ArePlaced placing F g p joins.one x
    first = child joins.one s.one joins.one_named x are.first

    pub second : ArePlaced placing F g p joins.two y
    second = child joins.two s.two joins.two_named y are.second

    pub third : ArePlaced placing F g p joins.three z
    third = child joins.three s.three joins.three_named z are.third

    pub corners : HasCorners (setting s x y z)
    corners =
        corners_of g sound s joins.one joins.two joins.three x y z first.elements second.elements third.elements
        (rises joins.one s.one joins.one_named) (rises joins.two s.two joins.two_named) (rises joins.three s.three joins.three_named) joins.meets

    pub fits_graph : IsOfGraph g (setting s x y z)
    fits_graph =
        of_graph g sound s joins.one joins.two joins.three x y z first.elements second.elements third.elements
        (rises joins.one s.one joins.one_named) (rises joins.two s.two joins.two_named) (rises joins.three s.three joins.three_named) joins.meets
        first.kinds second.kinds third.kinds

    -- ---- what the step makes

    module _ (bs : List (BoxAt G)) (is : joined placing F s x y z ≡ Ok bs) where
      result : IsResult F (ordered (setting s x y z)) bs
      result = result_in placing F s (ordered (setting s x y z)) (corners_ordered (setting s x y z) corners) bs is

      from_three : (e : Elem) → Holds bs e → Holds x e ⊎ (Holds y e ⊎ Holds z e)
      from_three e h =
          let found = mapped_from (λ (b : BoxAt G). b.elem) bs e h in
          subst (λ (w : Elem). Holds x w ⊎ (Holds y w ⊎ Holds z w)) found.2
          (of_setting s x y z found.0.elem (of_ordered (setting s x y z) found.0.elem (result.from found.0 found.1)))

      of_three : (e : Elem) → Holds x e ⊎ (Holds y e ⊎ Holds z e) → Holds bs e
      of_three e h = result.to e (to_ordered (setting s x y z) e (to_setting s x y z e h))

      three : List Body
      three = body_of joins.three ∷ body_of joins.two ∷ body_of joins.one ∷ []

      made_is : made_of (s.one ∷ s.two ∷ s.three ∷ []) after.family.live ≡ join_all three
      unfolding three
      made_is =
          ap (λ (cs : List Cluster). join_all (map body_of cs))
          (named_three g after.family after.sound s.one s.two s.three joins.one joins.two joins.three here.0.falls.0 here.0.falls.1 joins.one_named joins.two_named joins.three_named)

      in_three : (b : Body) → Contains three b → (b ≡ body_of joins.three) ⊎ ((b ≡ body_of joins.two) ⊎ (b ≡ body_of joins.one))
      unfolding three
      in_three b h = elim (contains_cases (body_of joins.three) (body_of joins.two ∷ body_of joins.one ∷ []) b h) [
        | inl c ↦ inl (sym c)
        | inr rest ↦ elim (contains_cases (body_of joins.two) (body_of joins.one ∷ []) b rest) [
          | inl c ↦ inr (inl (sym c))
          | inr last ↦ inr (inr (sym (contains_one (body_of joins.one) b last)))
        ]
      ]

      three_within : Within (body_of joins.one) (join_all three) × Within (body_of joins.two) (join_all three) × Within (body_of joins.three) (join_all three)
      unfolding three
      three_within = (
        each_within three (body_of joins.one) (contains_later (body_of joins.three) (body_of joins.two ∷ body_of joins.one ∷ []) (body_of joins.one)
            (contains_later (body_of joins.two) (body_of joins.one ∷ []) (body_of joins.one) (contains_head (body_of joins.one) []))),
        each_within three (body_of joins.two) (contains_later (body_of joins.three) (body_of joins.two ∷ body_of joins.one ∷ []) (body_of joins.two) (contains_head (body_of joins.two) (body_of joins.one ∷ []))),
        each_within three (body_of joins.three) (contains_head (body_of joins.three) (body_of joins.two ∷ body_of joins.one ∷ [])),
      )

      bs_rises : IsRising elem_number (elements_of bs)
      bs_rises = pairs_map (λ (d e : Elem). d.0 < e.0) (λ (b : BoxAt G). b.elem) bs result.rises

      bodies_rise : IsRising elem_number (join_all three).elements
      bodies_rise = (rising_whole three (λ b h. elim (in_three b h) [
        | inl c ↦ subst (λ (d : Body). IsRisingBody d) (sym c) (after.sound.bodies_rise joins.three joins.three_named.lives)
        | inr (inl c) ↦ subst (λ (d : Body). IsRisingBody d) (sym c) (after.sound.bodies_rise joins.two joins.two_named.lives)
        | inr (inr c) ↦ subst (λ (d : Body). IsRisingBody d) (sym c) (after.sound.bodies_rise joins.one joins.one_named.lives)
      ])).elements

      bs_body : Body
      bs_body = record { elements = elements_of bs; owned = (join_all three).owned }

      whole_in_bs : Within (join_all three) bs_body
      unfolding bs_body
      whole_in_bs = whole_within three (λ b h. elim (in_three b h) [
        | inl c ↦ subst (λ (d : Body). Within d bs_body) (sym c) (record {
          elements = λ e k. of_three e (inr (inr (subst (λ (es : List Elem). Contains es e) (sym third.elements) k)));
          owned = three_within.2.owned;
        })
        | inr (inl c) ↦ subst (λ (d : Body). Within d bs_body) (sym c) (record {
          elements = λ e k. of_three e (inr (inl (subst (λ (es : List Elem). Contains es e) (sym second.elements) k)));
          owned = three_within.1.owned;
        })
        | inr (inr c) ↦ subst (λ (d : Body). Within d bs_body) (sym c) (record {
          elements = λ e k. of_three e (inl (subst (λ (es : List Elem). Contains es e) (sym first.elements) k));
          owned = three_within.0.owned;
        })
      ])

      bs_in_whole : (e : Elem) → Holds bs e → Contains (join_all three).elements e
      bs_in_whole e h = elim (from_three e h) [
        | inl k ↦ three_within.0.elements e (subst (λ (es : List Elem). Contains es e) first.elements k)
        | inr (inl k) ↦ three_within.1.elements e (subst (λ (es : List Elem). Contains es e) second.elements k)
        | inr (inr k) ↦ three_within.2.elements e (subst (λ (es : List Elem). Contains es e) third.elements k)
      ]

      new_elements : elements_of bs ≡ (made_of (s.one ∷ s.two ∷ s.three ∷ []) after.family.live).elements
      unfolding bs_body
      new_elements =
          rising_same elem_number (elements_of bs) (join_all three).elements bs_rises bodies_rise bs_in_whole whole_in_bs.elements
          ∙ ap (λ (b : Body). b.elements) (sym made_is)

      pub new_trees : (t : Tree) → HasTree p s.step t → HasBoxes placing F g p.steps t bs
      new_trees (Leaf c) h = (let never : Step after.family.next_step ≡ Con c.0 = sym here.0.next ∙ h in absurd (cc))
      new_trees (Join' at step shared a b c) (step_is, (x', y', z', told, ha, hb, hc)) =
          let join = the_join g p legal s s_in step shared a b c x' y' z' (sym step_is) told ha hb hc in
          let found : step_of p.steps step ≡ Some s = subst (λ (n : Name). step_of p.steps n ≡ Some s) join.step_is (step_found g p legal s s_in) in
          settled_join placing F g p.steps s step found at a b c x y z
          (first.trees a (subst (λ (n : Name). HasTree p n a) (sym joins.one_named.has_name) join.first))
          (second.trees b (subst (λ (n : Name). HasTree p n b) (sym joins.two_named.has_name) join.second))
          (third.trees c (subst (λ (n : Name). HasTree p n c) (sym joins.three_named.has_name) join.third))
          shared bs is

      new_bounded : (b : BoxAt G) → Contains bs b → IsBoundedBox F b.at
      new_bounded = result.bounded (kept_is_one s x y z (λ (xs : List (BoxAt G)). (b : BoxAt G) → Contains xs b → IsBoundedBox F b.at) (of_all x first.bounded) (of_all y second.bounded) (of_all z third.bounded))
        where
          of_all : (xs : List (BoxAt G)) → AreBounded F xs → (b : BoxAt G) → Contains xs b → IsBoundedBox F b.at
          of_all xs all b (k, below, is) = subst (λ (c : BoxAt G). IsBoundedBox F c.at) is (all k b below)

      new_placed : ArePlaced placing F g p (whole_from (Step after.family.next_step) (s.one ∷ s.two ∷ s.three ∷ []) after.family.live) bs
      new_placed = record {
        elements = new_elements;
        kinds = result.kinds g (graph_ordered g (setting s x y z) fits_graph);
        bounded = λ k d below. new_bounded (get_or bs k d) (Contains-get_or bs k d below);
        trees = λ t h. new_trees t (subst (λ (n : Name). HasTree p n t) (sym here.0.next) h);
      }

      -- ---- the next step

      module _ (left : List (Option (List (BoxAt G)))) (as_long : length left ≡ length live)
          (others : (n : Name) → n ≢ s.one → n ≢ s.two → n ≢ s.three → held F g left n ≡ held F g live n) where
        names : List Name
        names = s.one ∷ s.two ∷ s.three ∷ []

        meets : MergeHolds g after.family (Three s.one s.two s.three)
        meets = (joins.one, joins.two, joins.three, joins.one_named, joins.two_named, joins.three_named, (s.a, s.b, s.c, joins.meets.triangle))

        slots_left : length left ≡ i + 1
        slots_left = as_long ∙ after.slots

        -- a cluster that stays has its boxes still
        stays_held : (c : Cluster) → Contains after.family.live c → is_named (s.one ∷ s.two ∷ s.three ∷ []) c.name ≡ false
            → held F g (left ++ Some bs ∷ []) c.name ≡ held F g live c.name
        stays_held c c_in other =
            let apart : (n : Name) → Contains (s.one ∷ s.two ∷ s.three ∷ []) n → c.name ≢ n =
            λ n n_in same. (let is_one : is_named (s.one ∷ s.two ∷ s.three ∷ []) c.name ≡ true =
            named_among (s.one ∷ s.two ∷ s.three ∷ []) c.name (subst (λ (m : Name). Contains (s.one ∷ s.two ∷ s.three ∷ []) m) (sym same) n_in) in
            let never : false ≡ true = sym other ∙ is_one in absurd (cc)) in
            pushed c.name refl
            ∙ others c.name (apart s.one (contains_head s.one (s.two ∷ s.three ∷ [])))
            (apart s.two (contains_later s.one (s.two ∷ s.three ∷ []) s.two (contains_head s.two (s.three ∷ []))))
            (apart s.three (contains_later s.one (s.two ∷ s.three ∷ []) s.three (contains_later s.two (s.three ∷ []) s.three (contains_head s.three []))))
          where
            pushed : (n : Name) → c.name ≡ n → held F g (left ++ Some bs ∷ []) n ≡ held F g left n
            pushed (Con k) named = refl
            pushed (Step k) named =
                let below : k < after.family.next_step = after.sound.steps_below c k c_in named in
                let next = after.next in
                get_or_append_left left (Some bs ∷ []) None k (omega (arith, slots_left))

        whole_held : held F g (left ++ Some bs ∷ []) (Step after.family.next_step) ≡ Some bs
        whole_held =
            let level : length left ≡ after.family.next_step = slots_left ∙ sym after.next in
            subst (λ (k : ℕ). get_or (left ++ Some bs ∷ []) k None ≡ Some bs) level (get_or-append_seam left (Some bs) [] None)

        there_by : (n : Name) → held F g (left ++ Some bs ∷ []) n ≡ held F g live n → IsThere g live n → IsThere g (left ++ Some bs ∷ []) n
        there_by n same there = there_along F g live (left ++ Some bs ∷ []) n same there

        old_cluster : (c : Cluster) → Contains (unnamed (s.one ∷ s.two ∷ s.three ∷ []) after.family.live) c
            → Contains after.family.live c × (is_named (s.one ∷ s.two ∷ s.three ∷ []) c.name ≡ false)
        old_cluster c h =
            let was = filtered_from (λ (d : Cluster). not (is_named (s.one ∷ s.two ∷ s.three ∷ []) d.name)) after.family.live c h in
            (was.0, unless (is_named (s.one ∷ s.two ∷ s.three ∷ []) c.name) was.1)
          where
            unless : (b : Bool) → not b ≡ true → b ≡ false
            unless true h = (let never : false ≡ true = h in absurd (cc))
            unless false h = refl

        pub at_next : IsAfter placing F g p (i + 1) (left ++ Some bs ∷ [])
        at_next = (
            let ns : List Name = s.one ∷ s.two ∷ s.three ∷ [] in
            let f : Clusters = after.family in
            let whole : Cluster = whole_from (Step f.next_step) ns f.live in
            let can = can_be_replaced g f (Three s.one s.two s.three) here.0.falls meets in
            record {
              family = replaced f ns;
              sound = sound_replaced f ns after.sound can;
              legal = subst (λ (k : ℕ). AreLegalSteps g (next_after f s) (drop k p.steps)) (sym (add-one i)) here.1;
              next = ap (λ (k : ℕ). k + 1) after.next;
              first = λ h. absurd (omega arith);
              latest = λ h. (whole, record { lives = Contains-push (unnamed ns f.live) whole; has_name = ap Step after.next });
              slots = length-append left (Some bs ∷ []) ∙ ap (λ (k : ℕ). k + 1) slots_left;
              there = λ c c_in. elim (Contains-push_cases (unnamed ns f.live) whole c c_in) [
                | inl old ↦ (let was = old_cluster c old in there_by c.name (stays_held c was.0 was.1) (after.there c was.0))
                | inr new ↦ subst (λ (d : Cluster). IsThere g (left ++ Some bs ∷ []) d.name) new (rw whole_held refl)
              ];
              placed = λ c c_in bs' held_is. elim (Contains-push_cases (unnamed ns f.live) whole c c_in) [
                | inl old ↦ (let was = old_cluster c old in after.placed c was.0 bs' (sym (stays_held c was.0 was.1) ∙ held_is))
                | inr new ↦
                    let same : Some bs ≡ Some bs' = sym whole_held ∙ subst (λ (d : Cluster). held F g (left ++ Some bs ∷ []) d.name ≡ Some bs') (sym new) held_is in
                    let bs_is : bs ≡ bs' = cc in
                    subst (λ (d : Cluster). ArePlaced placing F g p d bs') new (subst (λ (xs : List (BoxAt G)). ArePlaced placing F g p whole xs) bs_is new_placed)
              ];
              settled = λ s' s'_in t h.
                  elim (Contains-push_cases (take i p.steps) (get_or p.steps i s) s' (subst (λ (ss : List PlanStep). Contains ss s') (take_more p.steps i s inside) s'_in)) [
                    | inl early ↦ after.settled s' early t h
                    | inr last ↦ (bs, new_trees t (subst (λ (q : PlanStep). HasTree p q.step t) (sym (sym s_is ∙ last)) h))
                  ];
            })

  pub can_join : CanJoin F g live s
  can_join = record {
    one = child_there joins.one s.one joins.one_named;
    two = child_there joins.two s.two joins.two_named;
    three = child_there joins.three s.three joins.three_named;
    differ = (
      λ e. below_differs s.two s.one here.0.falls.0 (sym e),
      λ e. below_differs s.three s.two here.0.falls.1 (sym e),
      below_differs s.three s.one (below_chain s.three s.two s.one here.0.falls.1 here.0.falls.0),
    );
    corners = λ x y z are. corners x y z are;
    constructible = λ x y z are.
        constructible_of g sound s joins.one joins.two joins.three x y z (first x y z are).elements (second x y z are).elements (third x y z are).elements
        (rises joins.one s.one joins.one_named) (rises joins.two s.two joins.two_named) (rises joins.three s.three joins.three_named) joins.meets
        (first x y z are).kinds (second x y z are).kinds (third x y z are).kinds;
  }
