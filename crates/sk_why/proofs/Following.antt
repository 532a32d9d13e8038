-- What a constraint that is left out follows from.
use Rattle.std.proofs.Common.{◌≡◌, Bool, List, [], ◌∷◌, ap, sym, subst, ◌∙◌}
use Rattle.std.specs.Prelude.{Contains, ◌&&◌}
use Rattle.std.proofs.lemmas.Bool.{and_parts, and_from}
use Rattle.sk_base.specs.declared.Elem.{Elem}
use Rattle.sk_base.specs.declared.ConId.{ConId}
use Rattle.sk_base.specs.declared.Graph.{Graph}
use Rattle.sk_base.specs.SoundGraph.{IsSoundGraph}
use Rattle.sk_base.proofs.Filters.{same_tests}
use Rattle.sk_base.proofs.Members.{contains_mapped, mapped_from}
use Rattle.sk_family.specs.Body.{Body, Start, starts, starting, initial_bodies, SameBodies}
use Rattle.sk_family.proofs.GraphStarts.{start_at}
use Rattle.sk_rules.specs.JustSome.{with_just}
use Rattle.sk_rules.specs.Reach.{stays, IsNormal}
use Rattle.sk_rules.proofs.JustSome.{sound_part}
use Rattle.sk_verdict.specs.Judging.{IsOver}
use Rattle.sk_verdict.specs.Parts.{elem_of, part_with}
use Rattle.sk_verdict.specs.OneCluster.{IsOneCluster}
use Rattle.sk_plan.proofs.Finished.{reached_within}
use Rattle.sk_spare.specs.Sparing.{without}
use Rattle.sk_excess.specs.LeftOut.{is_number, is_kept, kept_graph, AreLeftOut, HasConstraint}
use Rattle.sk_excess.proofs.SomeLess.{number_in, kept_not, just_twice, just_agree, part_has}
use Rattle.sk_excess.proofs.OneClusters.{whole_in}
use Rattle.sk_excess.proofs.Choosing.{kept_one}
use Rattle.sk_why.specs.Because.{AreTogether, AreBecause, FollowsFrom}
use Rattle.sk_why.proofs.Groups.{group_is_over}
use Rattle.sk_why.proofs.Laws.{of_because, enough, minimal, one_list}

-- a graph that makes one cluster has the elements of each start of the whole in it
pub start_in_whole : (g : Graph) → IsSoundGraph g → (p : ConId → Bool) → (one : IsOneCluster (with_just p g)) → (s : Start) → Contains (starts g) s → (e : Elem) → Contains s.elements e → Contains one.whole.elements e
start_in_whole g sound p one s s_in e e_in =
    let (n, n_in, is) = mapped_from elem_of g.nodes e ((reached_within g sound (initial_bodies g) stays (starting s) (contains_mapped starting (starts g) s s_in)).elements e e_in) in
    subst (λ (d : Elem). Contains one.whole.elements d) is (one.has_nodes n n_in)

-- so it holds them together
start_together : (g : Graph) → IsSoundGraph g → (p : ConId → Bool) → IsOneCluster (with_just p g) → (s : Start) → Contains (starts g) s → AreTogether (with_just p g) s.elements
start_together g sound p one s s_in = record {
  family = one.family;
  normal = one.normal;
  holds = (
    one.whole,
    whole_in (with_just p g) (sound_part g p sound) one,
    start_in_whole g sound p one s s_in,
  );
}

-- constraints that are kept, alone
pub alone_of : (g : Graph) → IsSoundGraph g → (left ks : List ConId) → ((k : ConId) → Contains ks k → HasConstraint (kept_graph left g) k) → with_just (is_number ks) (kept_graph left g) ≡ with_just (is_number ks) g
alone_of g sound left ks there =
    just_twice g (is_kept left) (is_number ks)
    ∙ just_agree g sound (λ k. is_kept left k && is_number ks k) (is_number ks) (λ k has. same_tests (is_kept left k && is_number ks k) (is_number ks k)
    (λ passes. (and_parts (is_kept left k) (is_number ks k) passes).1)
    (λ passes. and_from (is_kept left k) (is_number ks k) (part_has g sound (is_kept left) k (there k (number_in ks k passes))).1 passes))

module _ (g : Graph) (sound : IsSoundGraph g) (left : List ConId) (c : ConId) where
  module _ (because : List ConId) (follows : FollowsFrom g left c because) where
    alone : with_just (is_number because) (kept_graph left g) ≡ with_just (is_number because) g
    alone = alone_of g sound left because (λ k k_in. (of_because (kept_graph left g) follows.start.elements because follows.are k k_in).0)

    module _ (s : Start) (s_in : Contains (starts g) s) (numbered : s.number ≡ c) where
      same_elements : follows.start.elements ≡ s.elements
      same_elements = ap (λ (t : Start). t.elements) (start_at g sound.edges_rise follows.start s follows.there s_in (follows.numbered ∙ sym numbered))

      of_start : AreBecause (kept_graph left g) s.elements because
      of_start = subst (λ (xs : List Elem). AreBecause (kept_graph left g) xs because) same_elements follows.are

      pub follows_enough : IsOneCluster g → AreLeftOut g left → AreTogether (with_just (is_number because) g) s.elements
      follows_enough one are =
          subst (λ (h : Graph). AreTogether h s.elements) alone
          (enough (kept_graph left g) (sound_part g (is_kept left) sound) s.elements because of_start
          (start_together g sound (is_kept left) (kept_one g sound left are one) s s_in))

      pub follows_minimal : (k : ConId) → Contains because k → ¬ AreTogether (without k (with_just (is_number because) g)) s.elements
      follows_minimal k k_in together =
          minimal (kept_graph left g) (sound_part g (is_kept left) sound) s.elements because of_start k k_in
          (subst (λ (h : Graph). AreTogether (without k h) s.elements) (sym alone) together)

    -- these constraints with the one that is left out make one cluster, which is over
    pub group_over : IsOneCluster g → AreLeftOut g left → Contains left c → (f : List Body) → IsNormal (with_just (is_number (c ∷ because)) g) f
        → (x : Body) × SameBodies f (x ∷ []) × IsOver (part_with (with_just (is_number (c ∷ because)) g) x.elements)
    group_over one are c_in f normal =
        let s = follows.start in
        let same = follows.numbered in
        let out : ¬ Contains because s.number = λ h. (
        let kept = (part_has g sound (is_kept left) s.number (of_because (kept_graph left g) s.elements because follows.are s.number h).0).1 in
        kept_not left s.number kept (subst (λ (k : ConId). Contains left k) (sym same) c_in)) in
        subst (λ (k : ConId). (x : Body) × SameBodies f (x ∷ []) × IsOver (part_with (with_just (is_number (k ∷ because)) g) x.elements)) same
        (group_is_over g sound s follows.there because out (follows_enough s follows.there same one are) (follows_minimal s follows.there same) f
        (subst (λ (k : ConId). IsNormal (with_just (is_number (k ∷ because)) g) f) (sym same) normal))

  pub follows_one : (one other : List ConId) → FollowsFrom g left c one → FollowsFrom g left c other → one ≡ other
  follows_one one other p q =
      one_list (kept_graph left g) (sound_part g (is_kept left) sound) q.start.elements one other (of_start one p q.start q.there q.numbered) q.are
