-- The steps of a legal plan by their names, and the joins of its trees.
use Rattle.std.proofs.Common.{◌≡◌, ℕ, zero, suc, ◌+◌, ◌<◌, Bool, true, false, List, [], ◌∷◌, length, get_or, Option, Some, None, refl, ap, sym, subst, ◌∙◌, arith}
use Rattle.std.specs.Prelude.{Contains, find, map}
use Rattle.std.proofs.lemmas.List.{get_or_default}
use Rattle.sk_base.specs.declared.Name.{Name}
use Rattle.sk_base.specs.declared.Name.TheVariants.{Step}
use Rattle.sk_base.specs.declared.Graph.{Graph}
use Rattle.sk_base.specs.ClusterNames.{name_eq}
use Rattle.sk_base.proofs.Members.{mapped_from}
use Rattle.sk_base.proofs.Finding.{found_in, none_found}
use Rattle.sk_family.specs.Clusters.{Clusters, initial_clusters}
use Rattle.sk_family.proofs.Naming.{name_eq_true, name_eq_same}
use Rattle.sk_rules.specs.declared.Taken.{Taken}
use Rattle.sk_rules.specs.declared.Shared.{Shared}
use Rattle.sk_family.specs.declared.Merge.TheVariants.{Three}
use Rattle.sk_tree.specs.declared.PlanStep.{PlanStep}
use Rattle.sk_tree.specs.declared.Plan.{Plan}
use Rattle.sk_tree.specs.declared.Tree.{Tree}
use Rattle.sk_tree.specs.LegalPlan.{taken_told, AreLegalSteps, IsLegalPlan, next_after}
use Rattle.sk_place.specs.Trees.{step_of}
use Rattle.sk_place.specs.Running.{HasTree}

-- the only item that passes is found
pub found_only : {X : Type 0} (p : X → Bool) (xs : List X) (x : X) → Contains xs x → p x ≡ true → ((y : X) → Contains xs y → p y ≡ true → y ≡ x) → find p xs ≡ Some x
found_only {X} p xs x there passes only = told (find p xs) refl
  where
    told : (r : Option X) → find p xs ≡ r → find p xs ≡ Some x
    told (Some y) is = (let found = found_in p xs y is in is ∙ ap Some (only y found.0 found.1))
    told None is = (let fails = none_found p xs is x there in let never : false ≡ true = sym fails ∙ passes in absurd (cc))

pub step_inside : (j k : ℕ) → Step j ≡ Step k → j ≡ k
step_inside j k e = cc

pub steps_named : (g : Graph) (f : Clusters) (steps : List PlanStep) → AreLegalSteps g f steps → (k : ℕ) (d : PlanStep) → k < length steps → (get_or steps k d).step ≡ Step (f.next_step + k)
steps_named g f [] legal k d below = absurd (omega arith)
steps_named g f (s ∷ ss) (legal, rest) zero d below = (let same : f.next_step ≡ f.next_step + 0 = omega arith in legal.next ∙ ap Step same)
steps_named g f (s ∷ ss) (legal, rest) (suc k) d below =
    let same : f.next_step + 1 + k ≡ f.next_step + suc k = omega arith in
    steps_named g (next_after f s) ss rest k d (omega arith) ∙ ap Step same

module _ (g : Graph) (p : Plan) (legal : IsLegalPlan g p) where
  pub named_at : (k : ℕ) (d : PlanStep) → k < length p.steps → (get_or p.steps k d).step ≡ Step (1 + k)
  named_at k d below = steps_named g (initial_clusters g) p.steps legal.steps k d below

  -- steps of one name are one
  pub one_step : (s t : PlanStep) → Contains p.steps s → Contains p.steps t → s.step ≡ t.step → s ≡ t
  one_step s t (j, j_len, s_is) (k, k_len, t_is) same =
      let s_name : s.step ≡ Step (1 + j) = ap (λ (x : PlanStep). x.step) (sym s_is) ∙ named_at j s j_len in
      let t_name : t.step ≡ Step (1 + k) = ap (λ (x : PlanStep). x.step) (sym t_is) ∙ named_at k t k_len in
      let level : 1 + j ≡ 1 + k = step_inside (1 + j) (1 + k) (sym s_name ∙ same ∙ t_name) in
      let place : j ≡ k = omega arith in
      sym s_is ∙ ap (λ (i : ℕ). get_or p.steps i s) place ∙ get_or_default p.steps k s t k_len ∙ t_is

  pub step_found : (s : PlanStep) → Contains p.steps s → step_of p.steps s.step ≡ Some s
  step_found s there =
      found_only (λ (t : PlanStep). name_eq t.step s.step) p.steps s there (name_eq_same s.step)
      (λ t t_in same. one_step t s t_in there (name_eq_true t.step s.step same))

  -- the join of a step, with the trees of its three names
  pub record IsJoinOf (s : PlanStep) (step : Name) (one two three : Tree) : Type 0 where
    pub step_is : s.step ≡ step
    pub first : HasTree p s.one one
    pub second : HasTree p s.two two
    pub third : HasTree p s.three three

  pub join_of : (step : Name) (shared : Shared) (one two three : Tree) (x y z : Name)
      → Contains (map taken_told p.steps) (record { step = step; merge = Three x y z; shared = shared })
      → HasTree p x one → HasTree p y two → HasTree p z three
      → (s : PlanStep) × Contains p.steps s × IsJoinOf s step one two three
  join_of step shared one two three x y z there a b c =
      let from = mapped_from taken_told p.steps (record { step = step; merge = Three x y z; shared = shared }) there in
      let s : PlanStep = from.0 in
      let merge_is : Three s.one s.two s.three ≡ Three x y z = ap (λ (t : Taken). t.merge) from.2 in
      let x_is : s.one ≡ x = cc in
      let y_is : s.two ≡ y = cc in
      let z_is : s.three ≡ z = cc in (
        s,
        from.1,
        record {
          step_is = ap (λ (t : Taken). t.step) from.2;
          first = subst (λ (n : Name). HasTree p n one) (sym x_is) a;
          second = subst (λ (n : Name). HasTree p n two) (sym y_is) b;
          third = subst (λ (n : Name). HasTree p n three) (sym z_is) c;
        },
      )

  -- the join of this step
  pub the_join : (s : PlanStep) → Contains p.steps s → (step : Name) (shared : Shared) (one two three : Tree) (x y z : Name) → step ≡ s.step
      → Contains (map taken_told p.steps) (record { step = step; merge = Three x y z; shared = shared })
      → HasTree p x one → HasTree p y two → HasTree p z three → IsJoinOf s step one two three
  the_join s there step shared one two three x y z step_is told a b c =
      let join = join_of step shared one two three x y z told a b c in
      subst (λ (t : PlanStep). IsJoinOf t step one two three) (one_step join.0 s join.1 there (join.2.step_is ∙ step_is)) join.2
