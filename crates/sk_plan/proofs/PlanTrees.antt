-- The tree of a legal plan.
use Rattle.std.proofs.Common.{◌≡◌, ◌≢◌, ◌⊎◌, inl, inr, ℕ, ◌+◌, ◌*◌, ◌<◌, ◌≤◌, true, false, List, [], ◌∷◌, ◌++◌, length, length-append, refl, ap, sym, subst, ◌∙◌, arith}
use Rattle.std.specs.Prelude.{◌↔◌, Contains, AllPairs, map, Option, Some, None, IsNone, IfSome, slice_get}
use Rattle.std.specs.Option.{option_map}
use Rattle.std.proofs.lemmas.List.{length-map, map-append}
use Rattle.std.proofs.lemmas.List.Elements.{Contains-append_left, Contains-append_right}
use Rattle.sk_base.specs.declared.ConId.{ConId}
use Rattle.sk_family.specs.Body.{Start, starts}
use Rattle.sk_family.proofs.GraphStarts.{starts_rise, no_starts}
use Rattle.sk_base.specs.declared.Graph.{Graph}
use Rattle.sk_base.specs.SoundGraph.{IsSoundGraph}
use Rattle.sk_base.proofs.Members.{contains_none, contains_head, contains_mapped}
use Rattle.sk_base.proofs.Pairs.{pairs_none, pairs_cons, pairs_map}
use Rattle.sk_base.specs.Numbering.{con_number}
use Rattle.sk_family.specs.declared.Cluster.{Cluster}
use Rattle.sk_family.specs.Clusters.{initial_clusters}
use Rattle.sk_rules.specs.declared.Taken.{Taken}
use Rattle.sk_tree.specs.declared.Plan.{Plan}
use Rattle.sk_tree.specs.declared.PlanStep.{PlanStep}
use Rattle.sk_tree.specs.declared.Tree.{Tree}
use Rattle.sk_tree.specs.declared.Tree.TheVariants.{Leaf, Join'}
use Rattle.sk_tree.specs.LegalPlan.{taken_told, numbers_of, IsLegalPlan}
use Rattle.sk_tree.specs.Trees.{leaves_of, step_count, IsTreeOf, AreJoins}
use Rattle.sk_tree.proofs.SomeTrees.{tree_of_taken}
use Rattle.sk_plan.specs.Leaves.{HasLeaves}
use Rattle.sk_tree.specs.PlanTree.{merges_told, IsPlanTree}
use Rattle.sk_base.proofs.Distinct.{same_length}
use Rattle.sk_plan.proofs.Legal.{Arrives, arrives}
use Rattle.sk_plan.proofs.Finished.{grown, clusters_left, last_leaves, no_steps}

-- the last merge that steps tell is that of the last step
record IsLastStep (ss : List PlanStep) (last : Taken) : Type 0 where
  front : List PlanStep
  end : PlanStep
  parts : ss ≡ front ++ end ∷ []
  told : taken_told end ≡ last

last_step : (ss : List PlanStep) (before : List Taken) (last : Taken) → map taken_told ss ≡ before ++ last ∷ [] → IsLastStep ss last
last_step [] [] last is = cc
last_step [] (b ∷ before) last is = cc
last_step (s ∷ []) [] last is = record { front = []; end = s; parts = refl; told = cc }
last_step (s ∷ x ∷ ss) [] last is = cc
last_step (s ∷ ss) (b ∷ before) last is =
    let rest = last_step ss before last (cc) in record { front = s ∷ rest.front; end = rest.end; parts = ap (λ zs. s ∷ zs) rest.parts; told = rest.told }

last_of : (s : PlanStep) (ss : List PlanStep) → (front : List PlanStep) × (end : PlanStep) × (s ∷ ss ≡ front ++ end ∷ [])
last_of s [] = ([], s, refl)
last_of s (x ∷ ss) = (let rest = last_of x ss in (s ∷ rest.0, rest.1, ap (λ zs. s ∷ zs) rest.2))

-- a tree has two leaves more than twice its joins
leaf_count : (t : Tree) → length (leaves_of t) ≡ 2 * step_count t + 1
leaf_count (Leaf k) = refl
leaf_count (Join' p step shared one two three) =
    let a = leaf_count one in let b = leaf_count two in let c = leaf_count three in
    omega (arith, length-append (leaves_of one) (leaves_of two ++ leaves_of three), length-append (leaves_of two) (leaves_of three))

some_leaf : (t : Tree) → (k : ConId) × Contains (leaves_of t) k
some_leaf (Leaf k) = (k, contains_head k [])
some_leaf (Join' p step shared one two three) =
    (let first = some_leaf one in (first.0, Contains-append_left (leaves_of one) (leaves_of two ++ leaves_of three) first.0 first.1))

-- what is said of the tree of a plan
pub record IsWholeTree (p : Plan) (t : Tree) : Type 0 where
  pub tree : IsPlanTree p t
  pub leaves : HasLeaves t p.leaves
  pub steps : step_count t ≡ length p.steps

pub some_leaves : (p : Plan) (t : Tree) → IsWholeTree p t → p.leaves ≢ []
some_leaves p t whole none =
    let leaf = some_leaf t in
    contains_none leaf.0 (subst (λ ks. Contains ks leaf.0) none ((whole.leaves.just leaf.0).0 leaf.1))

module _ (g : Graph) (p : Plan) (sound : IsSoundGraph g) (legal : IsLegalPlan g p) where
  way : Arrives g (initial_clusters g) p.steps
  way = arrives g (initial_clusters g) p.steps legal.steps

  pub plan_joins : AreJoins (merges_told p)
  plan_joins = (grown g sound (merges_told p) way.end way.leads way.once).joins

  constraints : length (numbers_of g) ≡ length (starts g)
  constraints = length-map (starts g) (λ (s : Start). s.number)

  numbers_differ : AllPairs (λ (j k : ConId). j ≢ k) (numbers_of g)
  numbers_differ i j d i_j j_len same =
      let below = pairs_map (λ (x y : ConId). x.0 < y.0) (λ (s : Start). s.number) (starts g) (starts_rise g sound.edges_rise) i j d i_j j_len in
      let level = ap con_number same in
      absurd (omega arith)

  -- the tree of the last merge
  pub last_tree : (before : List Taken) (last : Taken) → merges_told p ≡ before ++ last ∷ [] → (t : Tree) → IsTreeOf (merges_told p) last.step t → IsWholeTree p t
  last_tree before last is t tree = elim way.whole [
    | inl (c, alone, nodes) ↦
        let leaves = last_leaves g sound (merges_told p) way.end way.leads way.once c alone nodes before last is t tree in
        record {
          tree =
              let end = last_step p.steps before last is in
              inl (end.front, end.end, end.parts, subst (λ (x : Taken). IsTreeOf (merges_told p) x.step t) (sym end.told) tree);
          leaves = subst (λ ks. HasLeaves t ks) (sym legal.leaves) leaves;
          steps =
              let many = same_length (leaves_of t) (numbers_of g) leaves.once numbers_differ leaves.just in
              sizes (length (leaves_of t)) (length (numbers_of g)) (length (starts g)) (step_count t) (length (merges_told p)) (length p.steps) (length way.end.live)
              (leaf_count t) many constraints (clusters_left g sound (merges_told p) way.end way.leads way.once) (ap (λ (cs : List Cluster). length cs) alone) (length-map p.steps taken_told);
        }
    | inr (one, none, no_blocks) ↦
        let no = ap (λ (ts : List Taken). length ts) (sym is ∙ no_steps g sound (merges_told p) way.end way.leads way.once none no_blocks) in
        absurd (omega (arith, length-append before (last ∷ [])))
  ]
    where
      sizes : (leaves numbers edges count merges steps left : ℕ) → leaves ≡ 2 * count + 1 → leaves ≡ numbers → numbers ≡ edges → left + 2 * merges ≡ edges → left ≡ 1 → merges ≡ steps → count ≡ steps
      sizes leaves numbers edges count merges steps left a b c d e f = omega arith

  -- where there is no step there is at most one constraint
  few_leaves : p.steps ≡ [] → length p.leaves ≤ 1
  few_leaves none = elim way.whole [
    | inl (c, alone, nodes) ↦
        let left = clusters_left g sound (merges_told p) way.end way.leads way.once in
        let one = ap (λ (cs : List Cluster). length cs) alone in
        let no : length (merges_told p) ≡ 0 = length-map p.steps taken_told ∙ ap (λ (ss : List PlanStep). length ss) none in
        let all = ap (λ (ks : List ConId). length ks) legal.leaves in
        omega (arith, constraints)
    | inr (one, no_edges, no_blocks) ↦
        let no = ap (λ (ss : List Start). length ss) (no_starts g no_edges no_blocks) in
        let all = ap (λ (ks : List ConId). length ks) legal.leaves in
        omega (arith, constraints)
  ]

  lone_leaves : (k : ConId) → p.leaves ≡ k ∷ [] → HasLeaves (Leaf k) p.leaves
  lone_leaves k is = record {
    just = λ j. (subst (λ ks. Contains ks j) (sym is), subst (λ ks. Contains ks j) is);
    once = pairs_cons (λ (i j : ConId). i ≢ j) k [] (pairs_none (λ (i j : ConId). i ≢ j)) (λ y h. absurd (contains_none y h));
  }

  -- the leaves of each tree of the plan are all constraints
  pub tree_leaves : (t : Tree) → IsPlanTree p t → HasLeaves t p.leaves
  tree_leaves t (inl (before, last, is, tree)) =
      (last_tree (map taken_told before) (taken_told last) (ap (λ (ss : List PlanStep). map taken_told ss) is ∙ map-append taken_told before (last ∷ [])) t tree).leaves
  tree_leaves t (inr (k, none, is, t_is)) = subst (λ (u : Tree). HasLeaves u p.leaves) (sym t_is) (lone_leaves k is)

  -- the leaf of the only constraint
  pub lone_tree : merges_told p ≡ [] → IfSome (option_map (λ (k : ConId). Leaf k) (slice_get p.leaves 0)) (λ t. IsWholeTree p t)
  lone_tree none = told p.leaves refl (few_leaves (no_items p.steps none))
    where
      no_items : (ss : List PlanStep) → map taken_told ss ≡ [] → ss ≡ []
      no_items [] e = refl
      no_items (s ∷ ss) e = cc

      told : (ks : List ConId) → p.leaves ≡ ks → length p.leaves ≤ 1 → IfSome (option_map (λ (k : ConId). Leaf k) (slice_get ks 0)) (λ t. IsWholeTree p t)
      told [] is few = tt
      told (k ∷ []) is few = record {
        tree = inr (k, no_items p.steps none, is, refl);
        leaves = lone_leaves k is;
        steps = sym (ap (λ (ss : List PlanStep). length ss) (no_items p.steps none));
      }
      told (k ∷ j ∷ ks) is few = (let many = ap (λ (is : List ConId). length is) is in absurd (omega arith))

  -- a plan with a leaf has a tree
  pub some_plan_tree : ¬ (p.leaves ≡ []) → (t : Tree) × IsPlanTree p t
  some_plan_tree some = elim (no_last p.steps) [
    | inl none ↦ lone p.leaves refl (few_leaves none) none
    | inr (front, end, parts) ↦
        let told : Contains (merges_told p) (taken_told end) =
        subst (λ (ss : List PlanStep). Contains (map taken_told ss) (taken_told end)) (sym parts)
        (contains_mapped taken_told (front ++ end ∷ []) end (Contains-append_right front (end ∷ []) end (contains_head end []))) in
        let found = tree_of_taken (merges_told p) plan_joins (taken_told end) told in
        (found.0, inl (front, end, parts, found.1))
  ]
    where
      no_last : (ss : List PlanStep) → (ss ≡ []) ⊎ ((front : List PlanStep) × (end : PlanStep) × (ss ≡ front ++ end ∷ []))
      no_last [] = inl refl
      no_last (s ∷ ss) = inr (last_of s ss)

      lone : (ks : List ConId) → p.leaves ≡ ks → length p.leaves ≤ 1 → p.steps ≡ [] → (t : Tree) × IsPlanTree p t
      lone [] is few none = absurd (some is)
      lone (k ∷ []) is few none = (Leaf k, inr (k, none, is, refl))
      lone (k ∷ j ∷ ks) is few none = (let many = ap (λ (is : List ConId). length is) is in absurd (omega arith))

pub none_alone : (ks : List ConId) → IsNone (option_map (λ (k : ConId). Leaf k) (slice_get ks 0)) ↔ (ks ≡ [])
none_alone [] = ((λ h. refl), (λ h. refl))
none_alone (k ∷ ks) = ((λ (never : true ≡ false). absurd (cc)), (λ never. absurd (cc)))

-- the same of merges that are those of the plan
abbrev pub IsOfSome : Plan → Type 0
IsOfSome p = (g : Graph) × IsSoundGraph g × IsLegalPlan g p

module _ (p : Plan) (of_some : IsOfSome p) (taken : List Taken) (told : taken ≡ merges_told p) where
  pub joins_of : AreJoins taken
  joins_of = subst (λ ts. AreJoins ts) (sym told) (plan_joins of_some.0 p of_some.1 of_some.2)

  pub tree_of_last : (t : Tree) → (before : List Taken) × (last : Taken) × (taken ≡ before ++ last ∷ []) × IsTreeOf taken last.step t → IsWholeTree p t
  tree_of_last t (before, last, is, tree) =
      last_tree of_some.0 p of_some.1 of_some.2 before last (sym told ∙ is) t (subst (λ (ts : List Taken). IsTreeOf ts last.step t) told tree)

  pub tree_of_none : taken ≡ [] → (r : Option Tree) (ks : List ConId) → r ≡ option_map (λ (k : ConId). Leaf k) (slice_get ks 0) → ks ≡ p.leaves → IfSome r (λ t. IsWholeTree p t)
  tree_of_none none r ks is same =
      subst (λ (o : Option Tree). IfSome o (λ t. IsWholeTree p t)) (sym is)
      (subst (λ (js : List ConId). IfSome (option_map (λ (k : ConId). Leaf k) (slice_get js 0)) (λ t. IsWholeTree p t)) (sym same)
      (lone_tree of_some.0 p of_some.1 of_some.2 (sym told ∙ none)))

pub if_some_tree : (p : Plan) (r : Option Tree) → IfSome r (λ t. IsWholeTree p t) → IfSome r (λ t. IsPlanTree p t) × IfSome r (λ t. HasLeaves t p.leaves) × IfSome r (λ t. step_count t ≡ length p.steps)
if_some_tree p None whole = (tt, tt, tt)
if_some_tree p (Some t) whole = (whole.tree, whole.leaves, whole.steps)

pub none_as : (p : Plan) (r : Option Tree) (ks : List ConId) → r ≡ option_map (λ (k : ConId). Leaf k) (slice_get ks 0) → ks ≡ p.leaves → IsNone r ↔ (p.leaves ≡ [])
none_as p r ks is same =
    subst (λ (js : List ConId). IsNone r ↔ (js ≡ [])) same (subst (λ (o : Option Tree). IsNone o ↔ (ks ≡ [])) (sym is) (none_alone ks))
