-- The starts of what a cluster owns, but for one, in its place.
use Rattle.std.proofs.Common.{◌≡◌, ◌≢◌, ◌⊎◌, inl, inr, ◌+◌, ◌<◌, ◌≤◌, ◌^◌, ◌==◌, true, false, Bool, List, [], ◌∷◌, ◌++◌, length, refl, ap, sym, subst, ◌∙◌, arith, length-append}
use Rattle.std.specs.Prelude.{Contains, AllPairs, not, filter}
use Rattle.std.specs.List.Sorted.{IsPermutation}
use Rattle.std.proofs.lemmas.List.{length-map}
use Rattle.std.proofs.lemmas.List.Filters.{length-filter_both}
use Rattle.std.proofs.lemmas.List.Elements.{Contains-append_left, Contains-append_right, Contains-append_cases}
use Rattle.std.proofs.lemmas.List.Sorted.{Contains-permutation, IsPermutation-sym, length_permutation}
use Rattle.std.proofs.lemmas.Bool.Decides.{nat_tests}
use Rattle.sk_base.specs.declared.Name.{Name}
use Rattle.sk_base.specs.declared.Name.TheVariants.{Con}
use Rattle.sk_base.specs.declared.ConId.{ConId}
use Rattle.sk_base.specs.declared.Graph.{Graph}
use Rattle.sk_base.specs.SoundGraph.{HasRisingEdges}
use Rattle.sk_base.specs.ClusterNames.{is_named}
use Rattle.sk_base.specs.Numbering.{con_number, con_exact}
use Rattle.sk_base.proofs.Members.{contains_one, contains_head, mapped_from, contains_mapped, contains_filtered, filtered_from, contains_some}
use Rattle.sk_base.proofs.Numbers.{other_passes, passes_differ}
use Rattle.sk_base.proofs.Pairs.{pairs_filter, pairs_map, pairs_weaken}
use Rattle.sk_family.specs.declared.cluster.Cluster.{Cluster}
use Rattle.sk_family.specs.Clusters.{Clusters, start_of, named, unnamed, IsNamed, IsSound}
use Rattle.sk_family.specs.Starting.{start_with, starts_but}
use Rattle.sk_family.specs.Starts.{IsOther, IsDissolved}
use Rattle.sk_family.specs.Body.{Start, starts}
use Rattle.sk_family.proofs.GraphStarts.{start_at, found_start, elements_rise}
use Rattle.sk_family.proofs.Naming.{ByName, below_differs, among_named, named_among}
use Rattle.sk_family.proofs.Sorting.{HaveOtherNames}
use Rattle.sk_base.proofs.Splits.{pairs_append}
use Rattle.sk_family.proofs.Starting.{sound_with_starts}

not_is_false : (t : Bool) → t ≢ true → not t ≡ true
not_is_false true never = absurd (never refl)
not_is_false false never = refl

module _ (g : Graph) (rises : HasRisingEdges g) (f : Clusters) (sound : IsSound f) (n : Name) (k : ConId) (owner : Cluster) (is_owner : IsNamed f n owner)
    (owns : Contains owner.owned k) (others : (j : ConId) → Contains owner.owned j → j ≢ k → (d : Start) × Contains (starts g) d × (d.number ≡ j)) where
  abbrev numbers : List ConId
  numbers = filter (λ (j : ConId). not (j.0 == k.0)) owner.owned

  abbrev fresh : List Cluster
  fresh = starts_but g k owner.owned

  -- the constraint of a number that is left is the one that is found
  found_with : (d : Start) (j : ConId) → Contains (starts g) d → d.number ≡ j → start_with g j ≡ d
  found_with d j d_in is =
      found_start g rises d j d_in is

  number_left : (j : ConId) → Contains numbers j → Contains owner.owned j × (j ≢ k)
  number_left j j_in =
      let was = filtered_from (λ (i : ConId). not (i.0 == k.0)) owner.owned j j_in in
      (was.0, λ same. passes_differ j.0 k.0 was.1 (ap con_number same))

  other_with : (j : ConId) → Contains numbers j → IsOther g owner k (start_with g j) × ((start_with g j).number ≡ j)
  other_with j j_in =
      let left = number_left j j_in in
      let d = others j left.0 left.1 in
      let same : start_with g j ≡ d.0 = found_with d.0 j d.1 d.2 in
      let id : (start_with g j).number ≡ j = ap (λ (e : Start). e.number) same ∙ d.2 in (
        record {
          is_start = subst (λ e. Contains (starts g) e) (sym same) d.1;
          owned = subst (λ i. Contains owner.owned i) (sym id) left.0;
          differs = λ e. left.1 (sym id ∙ e);
        },
        id,
      )

  start_from : (c : Cluster) → Contains fresh c → (d : Start) × IsOther g owner k d × (start_of d ≡ c)
  start_from c c_in =
      let found = mapped_from (λ j. start_of (start_with g j)) numbers c c_in in
      (start_with g found.0, (other_with found.0 found.1).0, found.2)

  start_in : (d : Start) → IsOther g owner k d → Contains fresh (start_of d)
  start_in d other =
      let left : Contains numbers d.number = contains_filtered (λ (i : ConId). not (i.0 == k.0)) owner.owned d.number other.owned (other_passes d.number.0 k.0 (λ same. other.differs (con_exact d.number k same))) in
      subst (λ (e : Start). Contains fresh (start_of e)) (found_with d d.number other.is_start refl) (contains_mapped (λ j. start_of (start_with g j)) numbers d.number left)

  -- no live cluster is named by another constraint that the owner owns
  name_is_free : (d : Start) → IsOther g owner k d → (c : Cluster) → Contains f.live c → c.name ≢ Con d.number.0
  name_is_free d other c c_in has_name =
      let own : c.owned ≡ d.number ∷ [] = sound.starts_own_their_own c d.number.0 c_in has_name in
      let c_d : Contains c.owned d.number = subst (λ ks. Contains ks d.number) (sym own) (contains_head d.number []) in
      let same : c ≡ owner = sound.owned_apart c owner d.number c_in is_owner.lives c_d other.owned in
      let owner_owns : owner.owned ≡ d.number ∷ [] = ap (λ (x : Cluster). x.owned) (sym same) ∙ own in
      other.differs (contains_one d.number k (subst (λ ks. Contains ks k) owner_owns owns))

  starts_differ : AllPairs HaveOtherNames fresh
  starts_differ =
      pairs_map HaveOtherNames (λ j. start_of (start_with g j)) numbers
      (pairs_weaken (λ (i j : ConId). i.0 < j.0) (λ i j. HaveOtherNames (start_of (start_with g i)) (start_of (start_with g j))) numbers
      (pairs_filter (λ (i j : ConId). i.0 < j.0) (λ (i : ConId). not (i.0 == k.0)) owner.owned (sound.bodies_rise owner is_owner.lives).owned)
      (λ i j i_in j_in less same. (
      let i_id : (start_with g i).number.0 ≡ i.0 = ap con_number (other_with i i_in).1 in
      let j_id : (start_with g j).number.0 ≡ j.0 = ap con_number (other_with j j_in).1 in
      let level : (start_with g i).number.0 ≡ (start_with g j).number.0 = cc in
      absurd (omega arith))))

  pub all_differ : AllPairs HaveOtherNames (unnamed (n ∷ []) (fresh ++ f.live))
  all_differ =
      pairs_filter HaveOtherNames (λ (c : Cluster). not (is_named (n ∷ []) c.name)) (fresh ++ f.live)
      (pairs_append HaveOtherNames fresh f.live starts_differ
      (pairs_weaken ByName HaveOtherNames f.live sound.names_rise (λ a b a_in b_in below. below_differs a.name b.name below))
      (λ a b a_in b_in same. (
      let d = start_from a a_in in
      name_is_free d.0 d.1 b b_in (sym (ap (λ (c : Cluster). c.name) d.2 ∙ same)))))

  other_name : (m : Name) → m ≢ n → not (is_named (n ∷ []) m) ≡ true
  other_name m differ = not_is_false (is_named (n ∷ []) m) (λ is. differ (sym (contains_one n m (among_named (n ∷ []) m is))))

  differs_from : (m : Name) → not (is_named (n ∷ []) m) ≡ true → m ≢ n
  differs_from m passes same =
      let is : is_named (n ∷ []) m ≡ true = named_among (n ∷ []) m (subst (λ l. Contains (n ∷ []) l) (sym same) (contains_head n [])) in
      let never : false ≡ true = subst (λ t. not t ≡ true) is passes in absurd (cc)

  module _ (sorted : List Cluster) (same : IsPermutation (unnamed (n ∷ []) (fresh ++ f.live)) sorted) where
    abbrev after : Clusters
    after = record { live = sorted; next_step = f.next_step }

    from : (c : Cluster) → Contains sorted c → (Contains f.live c × (c.name ≢ n)) ⊎ ((d : Start) × IsOther g owner k d × (start_of d ≡ c))
    from c c_in =
        let was = filtered_from (λ (d : Cluster). not (is_named (n ∷ []) d.name)) (fresh ++ f.live) c (Contains-permutation sorted (unnamed (n ∷ []) (fresh ++ f.live)) c (IsPermutation-sym (unnamed (n ∷ []) (fresh ++ f.live)) sorted same) c_in) in
        elim (Contains-append_cases fresh f.live c was.0) [
          | inl start ↦ inr (start_from c start)
          | inr old ↦ inl (old, differs_from c.name was.1)
        ]

    into : (c : Cluster) → Contains (fresh ++ f.live) c → c.name ≢ n → Contains sorted c
    into c c_in differ =
        Contains-permutation (unnamed (n ∷ []) (fresh ++ f.live)) sorted c same
        (contains_filtered (λ (d : Cluster). not (is_named (n ∷ []) d.name)) (fresh ++ f.live) c c_in (other_name c.name differ))

    pub dissolved : IsDissolved g n k f after
    dissolved = record {
      owner = owner;
      named = is_owner;
      live = λ c. (
        (λ h. elim (from c h) [ inl old ↦ inl old | inr (d, other, is) ↦ inr (d, other, sym is) ]),
        (λ h. elim h [
          | inl old ↦ into c (Contains-append_right fresh f.live c old.0) old.1
          | inr (d, other, is) ↦ into c (subst (λ z. Contains (fresh ++ f.live) z) (sym is) (Contains-append_left fresh f.live (start_of d) (start_in d other)))
              (λ same_name. name_is_free d other owner is_owner.lives (is_owner.has_name ∙ sym same_name ∙ ap (λ (z : Cluster). z.name) is))
        ]),
      );
      next_step = refl;
    }

    -- k and the owner are gone
    pub fewer_left : length sorted + 2 ≤ length f.live + length owner.owned
    fewer_left =
        let size = length_permutation (unnamed (n ∷ []) (fresh ++ f.live)) sorted same in
        let both = length-filter_both (λ (d : Cluster). is_named (n ∷ []) d.name) (λ (d : Cluster). not (is_named (n ∷ []) d.name)) (λ d. refl) (fresh ++ f.live) in
        let joined = length-append fresh f.live in
        let owner_in : 0 < length (named (n ∷ []) (fresh ++ f.live)) =
        contains_some (named (n ∷ []) (fresh ++ f.live)) owner
        (contains_filtered (λ (d : Cluster). is_named (n ∷ []) d.name) (fresh ++ f.live) owner (Contains-append_right fresh f.live owner is_owner.lives)
        (named_among (n ∷ []) owner.name (subst (λ l. Contains (n ∷ []) l) (sym is_owner.has_name) (contains_head n [])))) in
        let numbered : length fresh ≡ length numbers = rw length-map in
        let split = length-filter_both (λ (j : ConId). j.0 == k.0) (λ (j : ConId). not (j.0 == k.0)) (λ j. refl) owner.owned in
        let k_in : 0 < length (filter (λ (j : ConId). j.0 == k.0) owner.owned) =
        contains_some (filter (λ (j : ConId). j.0 == k.0) owner.owned) k (contains_filtered (λ (j : ConId). j.0 == k.0) owner.owned k owns (grind (arith, nat_tests))) in
        omega arith

    few_left : length f.live + length owner.owned ≤ 4294967297 → length sorted < 2 ^ 32
    few_left room = (let fewer = fewer_left in omega arith)

    pub dissolved_sound : length f.live + length owner.owned ≤ 4294967297 → AllPairs ByName sorted → IsSound after
    dissolved_sound room rise =
        sound_with_starts f after sound (λ c. c.name ≢ n) (λ d. IsOther g owner k d) from (few_left room) rise refl
        (λ c d c_in stays other c_d. stays (ap (λ (z : Cluster). z.name) (sound.owned_apart c owner d.number c_in is_owner.lives c_d other.owned) ∙ is_owner.has_name))
        (λ d e d_is e_is same_id. start_at g rises d e d_is.is_start e_is.is_start same_id)
        (λ d d_is. elements_rise g d d_is.is_start)
