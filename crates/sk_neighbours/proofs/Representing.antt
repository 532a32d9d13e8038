-- Clusters that leave the index and enter it at a merge.
use Rattle.std.proofs.Common.{◌≡◌, ◌⊎◌, inl, inr, ◌-◌, List, [], ◌∷◌, length, sym, subst, ◌∙◌, ap, Bool, Vec, Global}
use Rattle.std.specs.Prelude.{◌↔◌, Contains, Some, slice_get, not}
use Rattle.std.proofs.lemmas.Option.{same_Some}
use Rattle.std.proofs.lemmas.List.Elements.{Contains-append_left, Contains-append_right, Contains-append_cases}
use Rattle.sk_base.specs.declared.Name.{Name}
use Rattle.sk_base.specs.declared.Name.TheVariants.{Step}
use Rattle.sk_base.specs.declared.Graph.{Graph}
use Rattle.sk_base.specs.ClusterNames.{IsBelow, is_named}
use Rattle.sk_base.proofs.Members.{contains_head, contains_one, contains_filtered, filtered_from}
use Rattle.sk_base.proofs.Splits.{last_pushed}
use Rattle.sk_family.specs.declared.Cluster.{Cluster}
use Rattle.sk_family.specs.Clusters.{Clusters, IsSound, replaced, unnamed, whole_from}
use Rattle.sk_family.proofs.Lasting.{live_below_next}
use Rattle.sk_family.proofs.Naming.{unnamed_true, not_named}
use Rattle.sk_neighbours.specs.declared.index.Index.{Index}
use Rattle.sk_neighbours.specs.Indexed.{IsHeld, IsIndex, KeepsLines, IsLast, Represents}

module _ (ix new : Index) (g : Graph) (names : List Name) (live : List Cluster) (r : Represents ix g live) (index : IsIndex new)
    (held : (c : Cluster) → IsHeld new c ↔ (IsHeld ix c × ¬ Contains names c.name)) (lines : KeepsLines ix new) where
  pub represents_left : Represents new g (unnamed names live)
  represents_left = record {
    index = index;
    held = λ c. (
      (λ h. contains_filtered (λ (d : Cluster). not (is_named names d.name)) live c ((r.held c).0 ((held c).0 h).0) (unnamed_true names c.name ((held c).0 h).1)),
      (λ h. (
          let was = filtered_from (λ (d : Cluster). not (is_named names d.name)) live c h in
          (held c).1 ((r.held c).1 was.0, not_named names c.name was.1))),
    );
    lines = λ e. (
        let same = ap (λ (v : Vec Bool Global). slice_get v.items e.0) lines in
        ((λ h. (r.lines e).0 (sym same ∙ h)), (λ h. same ∙ (r.lines e).1 h)));
  }

module _ (ix : Index) (g : Graph) (f : Clusters) (sound : IsSound f) (names : List Name) (r : Represents ix g (unnamed names f.live)) (after : Clusters) (after_is : after ≡ replaced f names) where
  abbrev whole : Cluster
  whole = whole_from (Step f.next_step) names f.live

  last_whole : (c : Cluster) → IsLast after.live c → whole ≡ c
  last_whole c last =
      same_Some _ _ (sym (last_pushed (unnamed names f.live) whole) ∙ ap (λ (h : Clusters). slice_get h.live (length h.live - 1)) (sym after_is) ∙ last)

  whole_last : (c : Cluster) → whole ≡ c → IsLast after.live c
  whole_last c is = ap (λ (h : Clusters). slice_get h.live (length h.live - 1)) after_is ∙ last_pushed (unnamed names f.live) whole ∙ ap Some is

  -- the cluster that the merge made is above all in the index
  pub whole_is_greatest : (c d : Cluster) → IsHeld ix c → IsLast after.live d → IsBelow c.name d.name
  whole_is_greatest c d held last =
      let was = (filtered_from (λ (e : Cluster). not (is_named names e.name)) f.live c ((r.held c).0 held)).0 in
      subst (λ (e : Cluster). IsBelow c.name e.name) (last_whole d last) (live_below_next f sound c was)

  module _ (new : Index) (index : IsIndex new) (held : (c : Cluster) → IsHeld new c ↔ (IsHeld ix c ⊎ IsLast after.live c)) (lines : KeepsLines ix new) where
    pub represents_entered : Represents new g after.live
    represents_entered = subst (λ (h : Clusters). Represents new g h.live) (sym after_is) (record {
      index = index;
      held = λ c. (
        (λ h. elim ((held c).0 h) [
          | inl was ↦ Contains-append_left (unnamed names f.live) (whole ∷ []) c ((r.held c).0 was)
          | inr last ↦ Contains-append_right (unnamed names f.live) (whole ∷ []) c (subst (λ d. Contains (whole ∷ []) d) (last_whole c last) (contains_head whole []))
        ]),
        (λ h. (held c).1 (elim (Contains-append_cases (unnamed names f.live) (whole ∷ []) c h) [
          | inl was ↦ inl ((r.held c).1 was)
          | inr here ↦ inr (whole_last c (contains_one whole c here))
        ])),
      );
      lines = λ e. (
          let same = ap (λ (v : Vec Bool Global). slice_get v.items e.0) lines in
          ((λ h. (r.lines e).0 (sym same ∙ h)), (λ h. same ∙ (r.lines e).1 h)));
    })
