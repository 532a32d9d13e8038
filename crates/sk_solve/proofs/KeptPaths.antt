-- Where the kept children of a legal plan lead to.
use Rattle.std.proofs.Common.{◌≡◌, inl, inr, ℕ, ◌+◌, ◌<◌, Bool, true, false, List, [], ◌∷◌, refl, ap, sym, subst, ◌∙◌, arith}
use Rattle.std.specs.Prelude.{Contains}
use Rattle.std.proofs.lemmas.List.Elements.{Contains-append_cases}
use Rattle.sk_base.specs.declared.Graph.{Graph}
use Rattle.sk_base.specs.declared.Name.{Name}
use Rattle.sk_base.specs.declared.Name.TheVariants.{Con, Step}
use Rattle.sk_base.specs.ClusterNames.{name_eq}
use Rattle.sk_base.proofs.Members.{contains_head, contains_later, contains_one, contains_cases, mapped_from, filtered_from}
use Rattle.sk_family.specs.declared.Cluster.{Cluster}
use Rattle.sk_family.specs.Body.{starts}
use Rattle.sk_family.specs.Clusters.{Clusters, initial_clusters, start_of, replaced, unnamed, whole_from}
use Rattle.sk_family.proofs.Naming.{name_eq_true, name_eq_same}
use Rattle.sk_family.specs.Merges.{names_of}
use Rattle.sk_tree.specs.declared.Plan.{Plan}
use Rattle.sk_tree.specs.declared.PlanStep.{PlanStep}
use Rattle.sk_tree.specs.LegalPlan.{merge_told, AreLegalSteps, IsLegalPlan, next_after}
use Rattle.sk_place.proofs.PlanSteps.{steps_named}
use Rattle.sk_frame.specs.Bases.{kept_by, kept_from}

kept_other : (s : PlanStep) (n : Name) → ¬ (s.step ≡ n) → kept_by s n ≡ n
kept_other s n other = told (name_eq s.step n) refl
  where
    told : (b : Bool) → name_eq s.step n ≡ b → kept_by s n ≡ n
    told true is = absurd (other (name_eq_true s.step n is))
    told false is = rw is refl

kept_self : (s : PlanStep) → kept_by s s.step ≡ s.keeps
kept_self s = rw (name_eq_same s.step) refl

-- a name that is none of the steps' leads to itself
kept_past : (steps : List PlanStep) (n : Name) → ((s : PlanStep) → Contains steps s → ¬ (s.step ≡ n)) → kept_from steps n ≡ n
kept_past [] n none = refl
kept_past (s ∷ ss) n none =
    ap (kept_by s) (kept_past ss n (λ t t_in. none t (contains_later s ss t t_in))) ∙ kept_other s n (none s (contains_head s ss))

-- the names of live steps are below the next one
abbrev StepsBelow : Clusters → Type 0
StepsBelow f = (c : Cluster) (k : ℕ) → Contains f.live c → c.name ≡ Step k → k < f.next_step

below_initial : (g : Graph) → StepsBelow (initial_clusters g)
below_initial g c k c_in is =
    let from = mapped_from start_of (starts g) c c_in in
    let never : Con from.0.number.0 ≡ Step k = ap (λ (d : Cluster). d.name) from.2 ∙ is in
    absurd (cc)

step_same : (j k : ℕ) → Step j ≡ Step k → j ≡ k
step_same j k e = cc

below_replaced : (f : Clusters) (names : List Name) → StepsBelow f → StepsBelow (replaced f names)
below_replaced f names below c k c_in is =
    elim (Contains-append_cases (unnamed names f.live) (whole_from (Step f.next_step) names f.live ∷ []) c c_in) [
      | inl old ↦ (let h : k < f.next_step = below c k (filtered_from _ f.live c old).0 is in omega arith)
      | inr new ↦ (
          let c_is : whole_from (Step f.next_step) names f.live ≡ c = contains_one (whole_from (Step f.next_step) names f.live) c new in
          let same : f.next_step ≡ k = step_same f.next_step k (ap (λ (d : Cluster). d.name) c_is ∙ is) in
          omega arith)
    ]

-- a step's name and the name that it keeps lead to the same
kept_steps : (g : Graph) (f : Clusters) (steps : List PlanStep) → AreLegalSteps g f steps → StepsBelow f → (s : PlanStep) → Contains steps s → kept_from steps s.step ≡ kept_from steps s.keeps
kept_steps g f [] legal below s (i, i_len, is) = absurd (omega arith)
kept_steps g f (x ∷ ss) (legal, rest) below s s_in =
    elim (contains_cases x ss s s_in) [
      | inl here ↦ subst (λ (t : PlanStep). kept_from (x ∷ ss) t.step ≡ kept_from (x ∷ ss) t.keeps) here at_head
      | inr later ↦ ap (kept_by x) (kept_steps g (next_after f x) ss rest (below_replaced f (names_of (merge_told x)) below) s later)
    ]
  where
    above : (t : PlanStep) → Contains ss t → ¬ (t.step ≡ x.step)
    above t (k, k_len, t_is) same =
        let t_name : t.step ≡ Step (f.next_step + 1 + k) = ap (λ (y : PlanStep). y.step) (sym t_is) ∙ steps_named g (next_after f x) ss rest k t k_len in
        let level : f.next_step + 1 + k ≡ f.next_step = step_same (f.next_step + 1 + k) f.next_step (sym t_name ∙ same ∙ legal.next) in
        omega arith

    kept_below : (k : ℕ) → x.keeps ≡ Step k → k < f.next_step
    kept_below k is = (let a = legal.keeps.1 in below a.0 k a.1.lives (a.1.has_name ∙ is))

    not_kept : (t : PlanStep) → Contains (x ∷ ss) t → ¬ (t.step ≡ x.keeps)
    not_kept t (k, k_len, t_is) same =
        let t_name : t.step ≡ Step (f.next_step + k) = ap (λ (y : PlanStep). y.step) (sym t_is) ∙ steps_named g f (x ∷ ss) (legal, rest) k t k_len in
        let h : f.next_step + k < f.next_step = kept_below (f.next_step + k) (sym same ∙ t_name) in
        omega arith

    at_head : kept_from (x ∷ ss) x.step ≡ kept_from (x ∷ ss) x.keeps
    at_head = ap (kept_by x) (kept_past ss x.step above) ∙ kept_self x ∙ sym (kept_past (x ∷ ss) x.keeps not_kept)

among : (g : Graph) (f : Clusters) (steps : List PlanStep) → AreLegalSteps g f steps → (s : PlanStep) → Contains steps s → Contains (s.one ∷ s.two ∷ s.three ∷ []) s.keeps
among g f [] legal s (i, i_len, is) = absurd (omega arith)
among g f (x ∷ ss) (legal, rest) s s_in =
    elim (contains_cases x ss s s_in) [
      | inl here ↦ subst (λ (t : PlanStep). Contains (t.one ∷ t.two ∷ t.three ∷ []) t.keeps) here legal.keeps.0
      | inr later ↦ among g (next_after f x) ss rest s later
    ]

module _ (g : Graph) (p : Plan) (legal : IsLegalPlan g p) where
  pub kept_on : (s : PlanStep) → Contains p.steps s → kept_from p.steps s.step ≡ kept_from p.steps s.keeps
  kept_on s s_in = kept_steps g (initial_clusters g) p.steps legal.steps (below_initial g) s s_in

  pub kept_ends : (k : ℕ) → kept_from p.steps (Con k) ≡ Con k
  kept_ends k = kept_past p.steps (Con k) (λ s s_in same. no_step s s_in same)
    where
      no_step : (s : PlanStep) → Contains p.steps s → ¬ (s.step ≡ Con k)
      no_step s (j, j_len, s_is) same =
          let s_name : s.step ≡ Step (1 + j) = ap (λ (y : PlanStep). y.step) (sym s_is) ∙ steps_named g (initial_clusters g) p.steps legal.steps j s j_len in
          let never : Step (1 + j) ≡ Con k = sym s_name ∙ same in
          absurd (cc)

  pub keeps_one : (s : PlanStep) → Contains p.steps s → Contains (s.one ∷ s.two ∷ s.three ∷ []) s.keeps
  keeps_one s s_in = among g (initial_clusters g) p.steps legal.steps s s_in
