-- A graph with a legal plan has the verdict well.
use Rattle.std.proofs.Common.{◌≡◌, inl, inr, refl, ◌-◌, ◌*◌, ◌≤◌, false, List, [], ◌∷◌, length, ap, sym, subst, ◌∙◌, arith}
use Rattle.std.specs.Prelude.{Contains, map, nat_lt}
use Rattle.std.proofs.lemmas.Bool.Decides.{nat_tests}
use Rattle.sk_base.specs.declared.Elem.{Elem}
use Rattle.sk_base.specs.declared.Edge.{Edge}
use Rattle.sk_base.specs.declared.Block.{Block}
use Rattle.sk_base.specs.declared.Node.{Node}
use Rattle.sk_base.specs.declared.Graph.{Graph}
use Rattle.sk_base.specs.SoundGraph.{IsSoundGraph}
use Rattle.sk_base.proofs.Members.{contains_none, contains_head, contains_one, contains_mapped, mapped_from}
use Rattle.sk_base.proofs.Pairs.{pairs_none, pairs_cons}
use Rattle.sk_family.specs.declared.Cluster.{Cluster}
use Rattle.sk_family.specs.Body.{Body, Start, initial_bodies}
use Rattle.sk_family.specs.Clusters.{body_of, bodies, initial_clusters}
use Rattle.sk_family.proofs.GraphStarts.{no_starts}
use Rattle.sk_rules.specs.Excess.{weight_where, is_inside, held}
use Rattle.sk_rules.specs.Reach.{Reach, IsClosed, IsNormal}
use Rattle.sk_rules.proofs.KeptFamily.{holds_ends}
use Rattle.sk_rules.proofs.KeptClusters.{reached_as_it_is}
use Rattle.sk_tree.specs.declared.Plan.{Plan}
use Rattle.sk_tree.specs.LegalPlan.{HasNodes, IsLegalPlan}
use Rattle.sk_verdict.specs.declared.Judgement.{Judgement}
use Rattle.sk_verdict.specs.declared.Part.{Part}
use Rattle.sk_verdict.specs.declared.Verdict.TheVariants.{Well}
use Rattle.sk_verdict.specs.Ordering.{PartBefore}
use Rattle.sk_verdict.specs.Parts.{IsNamedByNone, IsPart, AreOfOnePart, elem_of, part_with}
use Rattle.sk_verdict.specs.Judging.{IsJudgement, verdict_on}
use Rattle.sk_verdict.proofs.Gathering.{named_apart}
use Rattle.sk_plan.specs.Judged.{IsWell}
use Rattle.sk_plan.proofs.TheJudgement.{the_judgement}
use Rattle.sk_tree.specs.PlanTree.{merges_told}
use Rattle.sk_plan.proofs.Joined.{run_reaches}
use Rattle.sk_plan.proofs.Legal.{Arrives, arrives}
use Rattle.sk_plan.proofs.Finished.{clusters_left, one_normal, one_not_over}

-- the judgement with one part that isn't over
abbrev pub judged_as_one : Graph → List Elem → Judgement
judged_as_one g xs = record { verdict = Well; parts = part_with g xs ∷ [] }

pub well_with : (g : Graph) (xs : List Elem) → held g xs ≤ 2 * length xs - 3 → Well ≡ verdict_on (part_with g xs ∷ [])
well_with g xs most =
    let under : nat_lt (2 * length xs - 3) (held g xs) ≡ false = grind (arith, nat_tests) in
    rw under refl

pub is_judged : (g : Graph) (f : List Body) (xs : List Elem) → held g xs ≤ 2 * length xs - 3 → AreOfOnePart g f xs → ((ys : List Elem) → AreOfOnePart g f ys → ys ≡ xs) → IsJudgement g f (judged_as_one g xs)
is_judged g f xs most of_one only = record {
  parts = λ p. (
    (λ h. (let is : part_with g xs ≡ p = contains_one (part_with g xs) p h in subst (λ (q : Part). IsPart g f q) is (of_one, refl))),
    (λ (of, is). subst (λ q. Contains (part_with g xs ∷ []) q) (ap (λ (ys : List Elem). part_with g ys) (sym (only p.elements of)) ∙ sym is) (contains_head (part_with g xs) [])),
  );
  in_order = pairs_cons PartBefore (part_with g xs) [] (pairs_none PartBefore) (λ q h. absurd (contains_none q h));
  verdict = well_with g xs most;
}

-- a graph with one part is well where that isn't over
pub well_of_one : (g : Graph) (f : List Body) (xs : List Elem) → IsSoundGraph g → IsNormal g f → held g xs ≤ 2 * length xs - 3 → AreOfOnePart g f xs → ((ys : List Elem) → AreOfOnePart g f ys → ys ≡ xs) → IsWell g
well_of_one g f xs sound normal most of_one only =
    (judged_as_one g xs, the_judgement g f (judged_as_one g xs) sound normal (is_judged g f xs most of_one only), refl)

-- what lies in a cluster is named by a constraint
pub named_in : (g : Graph) (f : List Body) → Reach g (initial_bodies g) f → (x : Body) → Contains f x → (e : Elem) → Contains x.elements e → ¬ IsNamedByNone g e
named_in g f reached x x_in e e_in by_none =
    let end = holds_ends g f (reached_as_it_is g f reached) x x_in e e_in in
    named_apart g e by_none end.0 end.1 end.2

module _ (g : Graph) (p : Plan) (sound : IsSoundGraph g) (legal : IsLegalPlan g p) where
  way : Arrives g (initial_clusters g) p.steps
  way = arrives g (initial_clusters g) p.steps legal.steps

  one_cluster : (c : Cluster) → way.end.live ≡ c ∷ [] → HasNodes g c → IsWell g
  one_cluster c alone nodes =
      let normal = one_normal g sound (merges_told p) way.end way.leads way.once c alone in
      let few = one_not_over g sound (merges_told p) way.end way.leads way.once c alone in
      well_of_one g (bodies way.end) c.elements sound normal (omega arith) (inl (body_of c, here, refl)) only
    where
      here : Contains (bodies way.end) (body_of c)
      here = contains_mapped body_of way.end.live c (subst (λ cs. Contains cs c) (sym alone) (contains_head c []))

      only : (ys : List Elem) → AreOfOnePart g (bodies way.end) ys → ys ≡ c.elements
      only ys (inl (x, x_in, same)) =
          let found = mapped_from body_of way.end.live x x_in in
          let is : c ≡ found.0 = contains_one c found.0 (subst (λ cs. Contains cs found.0) alone found.1) in
          sym same ∙ ap (λ (y : Body). y.elements) (sym found.2) ∙ ap (λ (d : Cluster). d.elements) (sym is)
      only ys (inr (e, lone, same)) =
          let found = mapped_from elem_of g.nodes e lone.is_node in
          absurd (named_in g (bodies way.end) (run_reaches g (merges_told p) way.end sound way.leads) (body_of c) here e
          (subst (λ x. Contains c.elements x) found.2 (nodes found.0 found.1)) lone.named_by_none)

  one_node : length g.nodes ≡ 1 → g.edges ≡ [] → g.blocks ≡ [] → IsWell g
  one_node one none no_blocks = by_nodes g.nodes refl
    where
      no_clusters : (cs : List Cluster) → way.end.live ≡ cs → way.end.live ≡ []
      no_clusters [] is = is
      no_clusters (c ∷ cs) is =
          let left = clusters_left g sound (merges_told p) way.end way.leads way.once in
          let some = ap (λ (ds : List Cluster). length ds) is in
          let no = ap (λ (ss : List Start). length ss) (no_starts g none no_blocks) in
          absurd (omega arith)

      none_in : (x : Body) → ¬ Contains (bodies way.end) x
      none_in x h = contains_none x (subst (λ (cs : List Cluster). Contains (map body_of cs) x) (no_clusters way.end.live refl) h)

      closed : IsClosed g (bodies way.end)
      closed [] among can = can
      closed (a ∷ rest) among can = none_in a (among a (contains_head a rest))

      only : (n : Node) → g.nodes ≡ n ∷ [] → (ys : List Elem) → AreOfOnePart g (bodies way.end) ys → ys ≡ n.elem ∷ []
      only n is ys (inl (x, x_in, same)) = absurd (none_in x x_in)
      only n is ys (inr (e, lone, same)) =
          let found = mapped_from elem_of g.nodes e lone.is_node in
          let here : n ≡ found.0 = contains_one n found.0 (subst (λ ns. Contains ns found.0) is found.1) in
          sym same ∙ ap (λ (x : Elem). x ∷ []) (sym found.2 ∙ ap elem_of (sym here))

      by_nodes : (ns : List Node) → g.nodes ≡ ns → IsWell g
      by_nodes [] is = (let no = ap (λ (ns : List Node). length ns) is in absurd (omega arith))
      by_nodes (n ∷ []) is =
          let no = ap (λ (es : List Edge). length es) none in
          let no_block = ap (λ (bs : List Block). length bs) no_blocks in
          let in_nodes : Contains (map elem_of g.nodes) n.elem = contains_mapped elem_of g.nodes n (subst (λ ns. Contains ns n) (sym is) (contains_head n [])) in
          let by_none : IsNamedByNone g n.elem = ((λ k d k_in. absurd (omega arith)), (λ k d k_in. absurd (omega arith))) in
          let nothing_held : held g (n.elem ∷ []) ≡ 0 = ap (λ (ss : List Start). weight_where (is_inside (n.elem ∷ [])) ss) (no_starts g none no_blocks) in
          well_of_one g (bodies way.end) (n.elem ∷ []) sound (record { reached = run_reaches g (merges_told p) way.end sound way.leads; closed = closed })
          (omega arith) (inr (n.elem, record { is_node = in_nodes; named_by_none = by_none }, refl)) (only n is)
      by_nodes (m ∷ n ∷ ns) is = (let many = ap (λ (ns : List Node). length ns) is in absurd (omega arith))

  pub plan_well : IsWell g
  plan_well = elim way.whole [
    | inl (c, alone, nodes) ↦ one_cluster c alone nodes
    | inr (one, none, no_blocks) ↦ one_node one none no_blocks
  ]
