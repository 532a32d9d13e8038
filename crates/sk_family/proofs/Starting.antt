-- A sound family with starting clusters put in is sound.
use Rattle.std.proofs.Common.{◌≡◌, ◌≢◌, ◌⊎◌, inl, inr, ℕ, ◌<◌, ◌≤◌, ◌^◌, [], ◌∷◌, length, drop, take, refl, ap, sym, subst, ◌∙◌, arith}
use Rattle.std.specs.Prelude.{Contains, AllPairs, insert, ◌↔◌, Result, Ok, Err, OnOk}
use Rattle.std.proofs.lemmas.List.Edits.{length-insert}
use Rattle.sk_base.specs.declared.Name.{Name}
use Rattle.sk_base.specs.declared.Name.TheVariants.{Con, Step}
use Rattle.sk_base.specs.declared.ConId.{ConId}
use Rattle.sk_base.specs.ClusterNames.{IsBelow}
use Rattle.sk_base.specs.Numbering.{elem_number}
use Rattle.sk_base.specs.Rising.{IsRising}
use Rattle.sk_base.proofs.Members.{contains_head, contains_one}
use Rattle.sk_base.proofs.Unions.{which}
use Rattle.sk_family.specs.declared.cluster.Cluster.{Cluster}
use Rattle.sk_family.specs.Body.{Start, IsRisingBody}
use Rattle.sk_family.specs.Clusters.{Clusters, body_of, start_of, IsSound}
use Rattle.sk_family.specs.Starts.{IsFree, HasStart}
use Rattle.sk_family.proofs.Naming.{ByName}
use Rattle.sk_base.proofs.Splits.{in_drop, in_inserted, pairs_inserted}
use Rattle.sk_family.proofs.Soundness.{rising_starting, con_inside}

module _ (f new : Clusters) (sound : IsSound f) (Stays : Cluster → Type 0) (Starts : Start → Type 0)
    (from : (c : Cluster) → Contains new.live c → (Contains f.live c × Stays c) ⊎ ((d : Start) × Starts d × (start_of d ≡ c)))
    (few : length new.live < 2 ^ 32) (rise : AllPairs ByName new.live) (next : new.next_step ≡ f.next_step)
    (free : (c : Cluster) (d : Start) → Contains f.live c → Stays c → Starts d → ¬ Contains c.owned d.number)
    (one : (d e : Start) → Starts d → Starts e → d.number ≡ e.number → d ≡ e) (rises : (d : Start) → Starts d → IsRising elem_number d.elements) where
  apart_from_start : (c : Cluster) (d : Start) (k : ConId) → Contains f.live c → Stays c → Starts d → Contains c.owned k → Contains (start_of d).owned k → ⊥
  apart_from_start c d k c_in stays starts c_k d_k = free c d c_in stays starts (subst (λ j. Contains c.owned j) (sym (contains_one d.number k d_k)) c_k)

  pub sound_with_starts : IsSound new
  sound_with_starts = record {
    few = few;
    names_rise = rise;
    bodies_rise = λ c c_in. elim (from c c_in) [
      | inl (old, stays) ↦ sound.bodies_rise c old
      | inr (d, starts, is) ↦ subst (λ z. IsRisingBody (body_of z)) is (rising_starting d (rises d starts))
    ];
    each_owns = λ c c_in. elim (from c c_in) [
      | inl (old, stays) ↦ sound.each_owns c old
      | inr (d, starts, is) ↦ subst (λ (z : Cluster). (k : ConId) × Contains z.owned k) is (d.number, contains_head d.number [])
    ];
    owned_apart = λ a b k a_in b_in a_k b_k. elim (from a a_in) [
      | inl (a_old, a_stays) ↦ elim (from b b_in) [
        | inl (b_old, b_stays) ↦ sound.owned_apart a b k a_old b_old a_k b_k
        | inr (d, starts, is) ↦ absurd (apart_from_start a d k a_old a_stays starts a_k (subst (λ (z : Cluster). Contains z.owned k) (sym is) b_k))
      ]
      | inr (d, d_starts, a_is) ↦ elim (from b b_in) [
        | inl (b_old, b_stays) ↦ absurd (apart_from_start b d k b_old b_stays d_starts b_k (subst (λ (z : Cluster). Contains z.owned k) (sym a_is) a_k))
        | inr (e, e_starts, b_is) ↦ (
            let d_id = contains_one d.number k (subst (λ (z : Cluster). Contains z.owned k) (sym a_is) a_k) in
            let e_id = contains_one e.number k (subst (λ (z : Cluster). Contains z.owned k) (sym b_is) b_k) in
            sym a_is ∙ ap start_of (one d e d_starts e_starts (d_id ∙ sym e_id)) ∙ b_is)
      ]
    ];
    starts_own_their_own = λ c k c_in named. elim (from c c_in) [
      | inl (old, stays) ↦ sound.starts_own_their_own c k old named
      | inr (d, starts, is) ↦ (
          let number : d.number.0 ≡ k = con_inside d.number.0 k (ap (λ (z : Cluster). z.name) is ∙ named) in
          ap (λ (z : Cluster). z.owned) (sym is) ∙ ap (λ (n : ℕ). record { 0 = n } ∷ []) number)
    ];
    steps_below = λ c k c_in named. elim (from c c_in) [
      | inl (old, stays) ↦ rw next (sound.steps_below c k old named)
      | inr (d, starts, is) ↦ (let never : Con d.number.0 ≡ Step k = ap (λ (z : Cluster). z.name) is ∙ named in absurd (cc))
    ];
    merged_own_two = λ c k c_in named. elim (from c c_in) [
      | inl (old, stays) ↦ sound.merged_own_two c k old named
      | inr (d, starts, is) ↦ (let never : Con d.number.0 ≡ Step k = ap (λ (z : Cluster). z.name) is ∙ named in absurd (cc))
    ];
  }

name_above : (m n : Name) → ¬ IsBelow m n → m ≢ n → IsBelow n m
name_above (Con j) (Con k) not differ = elim (which j k) [ inl before ↦ absurd (not before) | inr (inl same) ↦ absurd (differ (ap Con same)) | inr (inr after) ↦ after ]
name_above (Con j) (Step k) not differ = absurd (not tt)
name_above (Step j) (Con k) not differ = tt
name_above (Step j) (Step k) not differ = elim (which j k) [ inl before ↦ absurd (not before) | inr (inl same) ↦ absurd (differ (ap Step same)) | inr (inr after) ↦ after ]

module _ (f : Clusters) (sound : IsSound f) (e : Start) (rises : IsRising elem_number e.elements) (free : IsFree f e.number) (room : length f.live < 4294967295) (place : ℕ) (bound : place ≤ length f.live)
    (before : (c : Cluster) → Contains (take place f.live) c → IsBelow c.name (Con e.number.0))
    (after : (c : Cluster) → Contains (drop place f.live) c → ¬ IsBelow c.name (Con e.number.0)) where
  named_after : (c : Cluster) → Contains (drop place f.live) c → ByName (start_of e) c
  named_after c c_in = name_above c.name (Con e.number.0) (after c c_in) (free c (in_drop place f.live c c_in)).1

  abbrev pub with_start : Clusters
  with_start = record { live = insert f.live place (start_of e); next_step = f.next_step }

  pub start_put : HasStart e f with_start
  start_put = record {
    live = λ c. (
      (λ h. elim ((in_inserted f.live place (start_of e) c).0 h) [ inl is ↦ inl (sym is) | inr old ↦ inr old ]),
      (λ h. elim h [
        | inl is ↦ (in_inserted f.live place (start_of e) c).1 (inl (sym is))
        | inr old ↦ (in_inserted f.live place (start_of e) c).1 (inr old)
      ]),
    );
    next_step = refl;
  }

  pub start_sound : IsSound with_start
  start_sound =
      sound_with_starts f with_start sound (λ c. Unit {0}) (λ d. d ≡ e)
      (λ c h. elim ((start_put.live c).0 h) [ inl is ↦ inr (e, refl, sym is) | inr old ↦ inl (old, tt) ])
      (let size = length-insert f.live place (start_of e) in omega arith)
      (pairs_inserted ByName f.live place (start_of e) sound.names_rise before named_after)
      refl
      (λ c d c_in stays is. subst (λ (x : Start). ¬ Contains c.owned x.number) (sym is) (free c c_in).0)
      (λ c d c_is d_is same. c_is ∙ sym d_is)
      (λ d is. subst (λ (x : Start). IsRising elem_number x.elements) (sym is) rises)

-- what is put in is told by its cluster
pub same_put : (s t : Start) (old new : Clusters) → start_of s ≡ start_of t → HasStart s old new → HasStart t old new
same_put s t old new same has = record { live = subst (λ z. (c : Cluster) → Contains new.live c ↔ ((c ≡ z) ⊎ Contains old.live c)) same has.live; next_step = has.next_step }

-- where a starting cluster was put in, its start was
pub when_put : {T E : Type 0} (r : Result T E) (s : Start) (start : Cluster) (old new : Clusters) → start ≡ start_of s → OnOk r ((t : Start) → start ≡ start_of t → HasStart t old new) → OnOk r (HasStart s old new)
when_put (Ok x) s start old new is put = put s is
when_put (Err e) s start old new is put = put
