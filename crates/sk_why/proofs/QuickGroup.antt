-- Where what is kept isn't over, the tree of a plan of it tells a group without a search.
use Rattle.std.proofs.Common.{◌≡◌, ◌≢◌, ◌<◌, List, ap, sym, subst, ◌∙◌}
use Rattle.std.specs.Prelude.{Contains, filter}
use Rattle.sk_base.specs.declared.ConId.{ConId}
use Rattle.sk_base.specs.declared.Elem.{Elem}
use Rattle.sk_base.specs.declared.Graph.{Graph}
use Rattle.sk_base.specs.declared.Node.{Node}
use Rattle.sk_base.specs.SoundGraph.{IsSoundGraph}
use Rattle.sk_base.specs.Numbering.{con_number}
use Rattle.sk_base.specs.Rising.{IsRising}
use Rattle.sk_base.proofs.Members.{contains_mapped, mapped_from, contains_filtered, filtered_from}
use Rattle.sk_base.proofs.Pairs.{pairs_filter}
use Rattle.sk_base.proofs.Unions.{rising_same}
use Rattle.sk_family.specs.Body.{Start, starts, starting, initial_bodies}
use Rattle.sk_rules.specs.JustSome.{with_just}
use Rattle.sk_rules.specs.Reach.{stays, IsNormal}
use Rattle.sk_rules.proofs.JustSome.{sound_part}
use Rattle.sk_rules.proofs.SomeClosed.{some_closed}
use Rattle.sk_rules.proofs.WeighedGraphs.{sound_two_each}
use Rattle.sk_tree.specs.LegalPlan.{numbers_of}
use Rattle.sk_verdict.specs.Parts.{elem_of}
use Rattle.sk_plan.specs.Sparse.{AreIn, HoldsNoneTooMany}
use Rattle.sk_plan.proofs.Finished.{reached_within}
use Rattle.sk_plan.proofs.TightSets.{HasTight, held_tight}
use Rattle.sk_excess.specs.LeftOut.{is_number, is_kept, kept_graph, HasConstraint}
use Rattle.sk_excess.proofs.OneClusters.{at_node, whole_in}
use Rattle.sk_excess.proofs.SomeLess.{number_in, in_number, part_has}
use Rattle.sk_why.specs.declared.branches.Branch.{Branch}
use Rattle.sk_why.specs.Because.{AreTogether, AreBecause, FollowsFrom}
use Rattle.sk_why.specs.BranchOf.{IsTreeOfAll}
use Rattle.sk_why.specs.Needed.{needed}
use Rattle.sk_why.specs.StartOf.{StartsWith}
use Rattle.sk_why.proofs.Laws.{of_because, because_rises, enough as holds_enough, minimal as holds_minimal}
use Rattle.sk_why.proofs.OneGroup.{cluster_long, cluster_distinct}
use Rattle.sk_why.proofs.SomeBecause.{some_because}
use Rattle.sk_why.proofs.Starting.{kept_rise, there_kept}
use Rattle.sk_why.proofs.TightGroups.{sparse_held, tight_kept, distinct_there, inside_of_group, of_other}
use Rattle.sk_why.proofs.Walked.{needed_there, needed_together, needed_inside}

module _ (g : Graph) (sound : IsSoundGraph g) (t : Branch) (all : IsTreeOfAll g t) (es : List Elem) (u v : Elem) (differ : u ≢ v) (u_in : Contains es u) (v_in : Contains es v)
    (at : (e : Elem) → Contains es e → (n : Node) × Contains g.nodes n × (n.elem ≡ e)) where
  abbrev ks : List ConId
  ks = needed t es

  -- its body has all elements
  in_body : AreIn es all.body.elements
  in_body e e_in = (let (n, n_in, is) = at e e_in in subst (λ (d : Elem). Contains all.body.elements d) is (all.nodes n n_in))

  whole_has : AreIn es all.one.whole.elements
  whole_has e e_in = (let (n, n_in, is) = at e e_in in subst (λ (d : Elem). Contains all.one.whole.elements d) is (all.one.has_nodes n n_in))

  abbrev at_whole : Contains all.one.family all.one.whole
  at_whole = whole_in g sound all.one

  none_over : HoldsNoneTooMany g all.one.family
  none_over x x_in =
      sparse_held g x.elements (all.sparse x.elements (cluster_distinct g sound all.one.family all.one.normal x x_in) (cluster_long g sound all.one.family all.one.normal x x_in))

  -- what is needed holds them together
  together : AreTogether (with_just (is_number ks) g) es
  together =
      let few = with_just (is_number ks) g in
      let (n, reach, closed) = some_closed few (initial_bodies few) in
      let normal : IsNormal few n = record { reached = reach; closed = closed } in
      record { family = n; normal = normal; holds = needed_together g sound (is_number ks) n normal t all.body all.grown es in_body (λ k h. in_number ks k h) }

  module _ (because : List ConId) (are : AreBecause g es because) where
    enough : AreTogether (with_just (is_number because) g) es
    enough = holds_enough g sound es because are (record { family = all.one.family; normal = all.one.normal; holds = (all.one.whole, at_whole, whole_has) })

    -- the elements of the group's cluster
    abbrev theirs : List Elem
    theirs = enough.holds.0.elements

    theirs_in : AreIn theirs all.body.elements
    theirs_in e e_in =
        let few = with_just (is_number because) g in
        let (n, n_in, is) = at_node few (sound_part g (is_number because) sound) enough.family enough.normal.reached enough.holds.0 enough.holds.1 e e_in in
        subst (λ (d : Elem). Contains all.body.elements d) is (all.nodes n n_in)

    theirs_tight : HasTight g theirs all.body
    theirs_tight =
        held_tight g all.body theirs theirs_in (λ d d_in inside. all.owns d d_in)
        (tight_kept g sound all.one.family all.one.normal none_over all.one.whole at_whole es u v differ u_in v_in whole_has because enough)

    -- what is needed is of the group
    needed_is : (k : ConId) → Contains ks k → Contains because k
    needed_is k k_in =
        let (d, d_in, is) = needed_there g t all.body all.grown es k k_in in
        let inside = needed_inside g sound theirs (distinct_there g sound all.one.family all.one.normal none_over all.one.whole at_whole es u v differ u_in v_in whole_has because enough)
        t all.body all.grown theirs_tight es enough.holds.2 in_body u v differ u_in v_in k k_in d d_in is in
        subst (λ (j : ConId). Contains because j) is
        (inside_of_group g sound all.one.family all.one.normal none_over all.one.whole at_whole es u v differ u_in v_in whole_has because enough d d_in inside)

    -- and what is of the group is needed
    is_needed : (k : ConId) → Contains because k → HasConstraint g k → Contains ks k
    is_needed k k_in there =
        of_other g sound all.one.family all.one.normal none_over all.one.whole at_whole es u v differ u_in v_in whole_has because ks enough
        (λ j j_in. holds_minimal g sound es because are j j_in) together k k_in there

    pub quick_group : (numbers : List ConId) → IsRising con_number numbers → ((k : ConId) → HasConstraint g k → Contains numbers k) → filter (is_number ks) numbers ≡ because
    quick_group numbers rise has =
        rising_same con_number (filter (is_number ks) numbers) because (pairs_filter (λ (i j : ConId). i.0 < j.0) (is_number ks) numbers rise) (because_rises g sound es because are)
        (λ k h. needed_is k (number_in ks k (filtered_from (is_number ks) numbers k h).1))
        (λ k h. (
        let there = (of_because g es because are k h).0 in
        contains_filtered (is_number ks) numbers k (has k there) (in_number ks k (is_needed k h there))))

-- of a graph of which some constraints are kept, with a tree of these
module _ (g : Graph) (sound : IsSoundGraph g) (left numbers : List ConId) (is : numbers ≡ filter (is_kept left) (numbers_of g)) (t : Branch) (all : IsTreeOfAll (kept_graph left g) t) where
  has_kept : (k : ConId) → HasConstraint (kept_graph left g) k → Contains numbers k
  has_kept k has = (let there = part_has g sound (is_kept left) k has in there_kept g sound left numbers is k there.0 there.1)

  at : (s : Start) → Contains (starts g) s → (e : Elem) → Contains s.elements e → (n : Node) × Contains g.nodes n × (n.elem ≡ e)
  at s s_in e e_in = mapped_from elem_of g.nodes e ((reached_within g sound (initial_bodies g) stays (starting s) (contains_mapped starting (starts g) s s_in)).elements e e_in)

  pub tree_follows : (c : ConId) (es : List Elem) → StartsWith g c es → FollowsFrom g left c (filter (is_number (needed t es)) numbers)
  tree_follows c es (s, s_in, numbered, same) =
      let kept_sound : IsSoundGraph (kept_graph left g) = sound_part g (is_kept left) sound in
      let (u, v, differ, u_in, v_in) = sound_two_each g sound s s_in in
      let (because, are) = some_because (kept_graph left g) kept_sound s.elements in
      let group : filter (is_number (needed t s.elements)) numbers ≡ because =
      quick_group (kept_graph left g) kept_sound t all s.elements u v differ u_in v_in (at s s_in) because are numbers (kept_rise g sound left numbers is) has_kept in
      let told : filter (is_number (needed t es)) numbers ≡ because = ap (λ (xs : List Elem). filter (is_number (needed t xs)) numbers) (sym same) ∙ group in
      record { start = s; there = s_in; numbered = numbered; are = subst (λ (ks : List ConId). AreBecause (kept_graph left g) s.elements ks) (sym told) are }
