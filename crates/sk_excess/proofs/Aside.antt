-- What is left out of a segment of constraints that is settled at once: all of it, or none.
use Rattle.std.proofs.Common.{◌≡◌, inl, inr, ◌+◌, ◌*◌, ◌<◌, ◌≤◌, Bool, true, List, [], ◌∷◌, ◌++◌, length, ap, sym, subst, ◌∙◌, arith}
use Rattle.std.specs.Prelude.{Contains, map, sum_by, ◌&&◌}
use Rattle.std.proofs.lemmas.Bool.{and_parts, and_from}
use Rattle.std.proofs.lemmas.List.{length-map}
use Rattle.sk_base.specs.declared.Elem.{Elem}
use Rattle.sk_base.specs.declared.ConId.{ConId}
use Rattle.sk_base.specs.declared.Node.{Node}
use Rattle.sk_base.specs.declared.Graph.{Graph}
use Rattle.sk_base.specs.SoundGraph.{IsSoundGraph}
use Rattle.sk_base.specs.Numbering.{con_number, con_exact, elem_number}
use Rattle.sk_base.specs.Rising.{IsRising}
use Rattle.sk_base.proofs.Distinct.{no_longer}
use Rattle.sk_base.proofs.Members.{contains_none, contains_head, contains_later, contains_cases, contains_one, mapped_from}
use Rattle.sk_base.proofs.Numbers.{other_passes, passes_differ}
use Rattle.sk_base.proofs.Pairs.{pairs_none, pairs_map}
use Rattle.sk_family.specs.Body.{Body}
use Rattle.sk_rules.specs.Excess.{weight_of}
use Rattle.sk_rules.specs.JustSome.{with_just}
use Rattle.sk_rules.specs.Reach.{IsNormal}
use Rattle.sk_rules.proofs.Keeping.{can_carry}
use Rattle.sk_rules.proofs.JustSome.{sound_part}
use Rattle.sk_base.proofs.Filters.{same_tests}
use Rattle.sk_verdict.specs.Parts.{elem_of}
use Rattle.sk_spare.specs.Sparing.{IsSpare, differs_from, without}
use Rattle.sk_spare.proofs.LeavingOut.{distinct}
use Rattle.sk_spare.proofs.Segments.{body_weight, too_few}
use Rattle.sk_verdict.specs.OneCluster.{IsOneCluster}
use Rattle.sk_excess.specs.LeftOut.{is_number, is_kept, kept_graph, above, HasConstraint}
use Rattle.sk_excess.specs.Thinning.{AreLeftOutOf}
use Rattle.sk_excess.proofs.SomeLess.{number_in, in_number, kept_not, none_kept, in_above, just_agree, has_part}
use Rattle.sk_excess.proofs.Without.{to_differ, without_kept, without_one}
use Rattle.sk_excess.proofs.Going.{all_gone, still_so}
use Rattle.sk_excess.proofs.OneClusters.{whole_in, whole_owns, spare_one, one_spare, one_with_more}

-- no fewer elements than there are nodes
pub as_many_nodes : (g : Graph) → IsSoundGraph g → (xs : List Elem) → ((n : Node) → Contains g.nodes n → Contains xs n.elem) → length g.nodes ≤ length xs
as_many_nodes g sound xs has =
    let mapped : length (map elem_of g.nodes) ≡ length g.nodes = rw length-map in
    let most = no_longer (map elem_of g.nodes) xs (distinct elem_number (map elem_of g.nodes) (pairs_map (λ (x y : Elem). x.0 < y.0) elem_of g.nodes sound.nodes_rise))
    (λ e e_in. (let (n, n_in, is) = mapped_from elem_of g.nodes e e_in in subst (λ (d : Elem). Contains xs d) is (has n n_in))) in
    omega (arith, mapped, most)

module _ (g : Graph) (sound : IsSoundGraph g) where
  sound_kept : (left : List ConId) → IsSoundGraph (kept_graph left g)
  sound_kept left = sound_part g (is_kept left) sound

  -- where fewer are left out it stays one cluster
  pub one_with_fewer : (some fewer : List ConId) → ((k : ConId) → Contains fewer k → Contains some k) → IsOneCluster (kept_graph some g) → IsOneCluster (kept_graph fewer g)
  one_with_fewer some fewer within =
      one_with_more g sound (is_kept some) (is_kept fewer) (λ k has passes. none_kept fewer k (λ h. kept_not some k passes (within k h)))

  -- all of a segment, where the rest makes one cluster
  pub all_left : (aside : List ConId) → IsRising con_number aside → ((k : ConId) → Contains aside k → HasConstraint g k) → IsOneCluster (kept_graph aside g) → AreLeftOutOf g aside aside
  all_left aside rise there one =
      all_gone IsSpare g sound aside rise (λ k k_in.
      one_spare (kept_graph (above k aside) g) (sound_kept (above k aside))
      (one_with_fewer aside (above k aside) (λ j h. ((in_above k aside j).0 h).0) one)
      k
      (has_part g sound (is_kept (above k aside)) k (there k k_in)
      (none_kept (above k aside) k (λ h. (let less = ((in_above k aside k).0 h).1 in omega (arith, less)))))
      (subst (λ (h : Graph). IsOneCluster h) (sym (without_kept g sound (above k aside) k))
      (one_with_more g sound (is_kept aside) (λ j. is_kept (above k aside) j && differs_from k j)
      (λ j has passes. and_from (is_kept (above k aside) j) (differs_from k j)
      (none_kept (above k aside) j (λ h. kept_not aside j passes ((in_above k aside j).0 h).0))
      (to_differ k j (λ same. kept_not aside j passes (subst (λ (i : ConId). Contains aside i) same k_in))))
      one)))

  -- one constraint is left out where the others make one cluster
  pub lone_left : IsOneCluster g → (aside : List ConId) → length aside ≤ 1 → ¬ IsOneCluster (kept_graph aside g) → (k : ConId) → Contains aside k → ¬ IsSpare g k
  lone_left one [] few not k k_in s = contains_none k k_in
  lone_left one (j ∷ []) few not k k_in s =
      not (subst (λ (h : Graph). IsOneCluster h) (ap (λ (i : ConId). without i g) (sym (contains_one j k k_in)) ∙ without_one g sound j) (spare_one g sound one k s))
  lone_left one (i ∷ j ∷ rest) few not k k_in s = absurd (omega (arith, few))

  -- none is spare where all that there is would be too few
  pub few_left : (one : IsOneCluster g) (aside : List ConId) → IsRising con_number aside → ((k : ConId) → Contains aside k → HasConstraint g k)
      → (f : List Body) → IsNormal (kept_graph aside g) f → sum_by body_weight f + weight_of g aside + 3 ≤ 2 * length g.nodes → (k : ConId) → Contains aside k → ¬ IsSpare g k
  few_left one aside rise there f normal few k k_in =
      let many = as_many_nodes g sound one.whole.elements one.has_nodes in
      too_few g one.family one.whole sound (record { normal = one.normal; in_family = whole_in g sound one }) aside (λ j h. whole_owns g sound one j (there j h)) passes f
      (record {
        exactly = λ j. (
          (λ h. (let both = and_parts (is_number one.whole.owned j) (is_kept aside j) h in (number_in one.whole.owned j both.0, kept_not aside j both.1))),
          (λ h. and_from (is_number one.whole.owned j) (is_kept aside j) (in_number one.whole.owned j h.0) (none_kept aside j h.1)),
        );
        made = (subst (λ (h : Graph). IsNormal h f) (sym others_are) normal).reached;
        closed = λ some among can. normal.closed some among (can_carry g (kept_graph aside g) some (λ y y_in e e_in line. line) can);
      })
      k k_in rise (omega (arith, few, many))
    where
      passes : ConId → Bool
      passes j = is_number one.whole.owned j && is_kept aside j

      others_are : with_just passes g ≡ kept_graph aside g
      others_are = just_agree g sound passes (is_kept aside) (λ j has. ap (λ b. b && is_kept aside j) (in_number one.whole.owned j (whole_owns g sound one j has)))

  -- what is left out stays out of one cluster
  pub still_one : IsOneCluster g → (left : List ConId) → IsRising con_number left → ((k : ConId) → Contains left k → IsSpare (kept_graph (above k left) g) k) → IsOneCluster (kept_graph left g)
  still_one = still_so IsSpare IsOneCluster spare_one g sound
