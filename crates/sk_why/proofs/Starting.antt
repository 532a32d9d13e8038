-- The constraints of a graph, as its starting clusters have them.
use Rattle.std.proofs.Common.{◌≡◌, inl, inr, ◌<◌, Bool, true, false, List, [], ◌∷◌, refl, ap, sym, subst}
use Rattle.std.specs.Prelude.{Contains, None, Some, map, filter, find, cond}
use Rattle.sk_base.specs.declared.Elem.{Elem}
use Rattle.sk_base.specs.declared.ConId.{ConId}
use Rattle.sk_base.specs.declared.Graph.{Graph}
use Rattle.sk_base.specs.SoundGraph.{IsSoundGraph}
use Rattle.sk_base.specs.Numbering.{con_number}
use Rattle.sk_base.specs.Rising.{IsRising}
use Rattle.sk_base.proofs.Filters.{same_tests}
use Rattle.sk_base.proofs.Members.{contains_none, contains_head, contains_later, contains_cases, contains_one, contains_mapped, mapped_from, contains_filtered, filtered_from}
use Rattle.sk_base.proofs.Pairs.{pairs_filter}
use Rattle.sk_family.specs.declared.Cluster.{Cluster}
use Rattle.sk_family.specs.Body.{Start, starts}
use Rattle.sk_family.specs.Clusters.{start_of}
use Rattle.sk_rules.specs.JustSome.{with_just}
use Rattle.sk_tree.specs.LegalPlan.{numbers_of}
use Rattle.sk_excess.specs.LeftOut.{is_number, is_kept, kept_graph, HasConstraint}
use Rattle.sk_excess.proofs.SomeLess.{number_in, in_number, just_agree}
use Rattle.sk_why.specs.Because.{AreBecause, FollowsFrom}
use Rattle.sk_why.proofs.Laws.{has_number, numbers_rise}

-- the first that passes
found_first : {X : Type 0} (p : X → Bool) (xs : List X) (d : X) → find p xs ≡ Some d → Contains xs d × (p d ≡ true)
found_first p [] d is = absurd (cc)
found_first p (x ∷ xs) d is = told (p x) refl is (found_first p xs d)
  where
    told : (t : Bool) → p x ≡ t → cond t (Some x) (find p xs) ≡ Some d → (find p xs ≡ Some d → Contains xs d × (p d ≡ true)) → Contains (x ∷ xs) d × (p d ≡ true)
    told true passes here rest = (let same : x ≡ d = cc in (subst (λ z. Contains (x ∷ xs) z) same (contains_head x xs), subst (λ z. p z ≡ true) same passes))
    told false fails there rest = (let later = rest there in (contains_later x xs d later.0, later.1))

found_none : {X : Type 0} (p : X → Bool) (xs : List X) → find p xs ≡ None → (x : X) → Contains xs x → ¬ (p x ≡ true)
found_none p [] is y h passes = contains_none y h
found_none p (x ∷ xs) is y h passes = told (p x) refl is (λ there later. found_none p xs there y later passes)
  where
    told : (t : Bool) → p x ≡ t → cond t (Some x) (find p xs) ≡ None → (find p xs ≡ None → ¬ Contains xs y) → ⊥
    told true pass here rest = cc
    told false fails there rest =
        elim (contains_cases x xs y h) [
          | inl here ↦ (let never : p x ≡ true = subst (λ z. p z ≡ true) (sym here) passes in cc)
          | inr later ↦ rest there later
        ]

module _ (g : Graph) (clusters : List Cluster) (are : clusters ≡ map start_of (starts g)) where
  pub none_owns : (k : ConId) → HasConstraint g k → ¬ (find (λ (c : Cluster). is_number c.owned k) clusters ≡ None)
  none_owns k (s, s_in, is) none =
      found_none (λ (c : Cluster). is_number c.owned k) clusters none (start_of s)
      (subst (λ (cs : List Cluster). Contains cs (start_of s)) (sym are) (contains_mapped start_of (starts g) s s_in))
      (in_number (s.number ∷ []) k (subst (λ (j : ConId). Contains (s.number ∷ []) j) is (contains_head s.number [])))

  pub owner_starts : (k : ConId) (d : Cluster) → find (λ (c : Cluster). is_number c.owned k) clusters ≡ Some d → (s : Start) × Contains (starts g) s × (s.number ≡ k) × (s.elements ≡ d.elements)
  owner_starts k d found =
      let first = found_first (λ (c : Cluster). is_number c.owned k) clusters d found in
      let (s, s_in, is) = mapped_from start_of (starts g) d (subst (λ (cs : List Cluster). Contains cs d) are first.0) in (
        s,
        s_in,
        contains_one s.number k (number_in (s.number ∷ []) k (subst (λ (c : Cluster). is_number c.owned k ≡ true) (sym is) first.1)),
        ap (λ (c : Cluster). c.elements) is,
      )

module _ (g : Graph) (sound : IsSoundGraph g) (left kept : List ConId) (is : kept ≡ filter (is_kept left) (numbers_of g)) where
  pub kept_rise : IsRising con_number kept
  kept_rise =
      subst (λ (ks : List ConId). IsRising con_number ks) (sym is)
      (pairs_filter (λ (j k : ConId). j.0 < k.0) (is_kept left) (numbers_of g) (numbers_rise g sound))

  kept_from : (k : ConId) → Contains kept k → HasConstraint g k × (is_kept left k ≡ true)
  kept_from k h =
      let was = filtered_from (is_kept left) (numbers_of g) k (subst (λ (ks : List ConId). Contains ks k) is h) in
      (mapped_from (λ (s : Start). s.number) (starts g) k was.0, was.1)

  pub kept_there : (k : ConId) → Contains kept k → HasConstraint g k
  kept_there k h = (kept_from k h).0

  pub there_kept : (k : ConId) → HasConstraint g k → is_kept left k ≡ true → Contains kept k
  there_kept k has passes =
      subst (λ (ks : List ConId). Contains ks k) (sym is) (contains_filtered (is_kept left) (numbers_of g) k (has_number g k has) passes)

  just_kept : with_just (is_number kept) g ≡ kept_graph left g
  just_kept =
      just_agree g sound (is_number kept) (is_kept left) (λ k has. same_tests (is_number kept k) (is_kept left k)
      (λ passes. (kept_from k (number_in kept k passes)).1)
      (λ passes. in_number kept k (there_kept k has passes)))

  pub then_follows : (c : ConId) (es : List Elem) → (s : Start) × Contains (starts g) s × (s.number ≡ c) × (s.elements ≡ es) → (because : List ConId) → AreBecause (with_just (is_number kept) g) es because → FollowsFrom g left c because
  then_follows c es (s, s_in, numbered, same) because are = record {
    start = s;
    there = s_in;
    numbered = numbered;
    are = subst (λ (xs : List Elem). AreBecause (kept_graph left g) xs because) (sym same) (subst (λ (h : Graph). AreBecause h es because) just_kept are);
  }
