-- Clusters taken out of a list by name.
use Rattle.std.proofs.Common.{◌≡◌, ◌≢◌, inl, inr, ℕ, suc, List, [], ◌∷◌, ◌++◌, length, get_or, take, drop, drop-cons, ap, sym, subst, ◌∙◌, cond, arith}
use Rattle.std.specs.Prelude.{Contains, AllPairs, not, remove}
use Rattle.std.proofs.lemmas.List.{take-append-drop, get_or_default}
use Rattle.std.proofs.lemmas.List.Elements.{filter-append}
use Rattle.std.proofs.lemmas.List.Folds.{list_any-append}
use Rattle.std.proofs.lemmas.Option.{slice_get-get_or, slice_get_within, get_or_from_slice_get}
use Rattle.sk_base.specs.declared.Name.{Name}
use Rattle.sk_base.specs.ClusterNames.{IsBelow, is_named, name_eq}
use Rattle.sk_base.proofs.Members.{contains_head, contains_one}
use Rattle.sk_base.proofs.Pairs.{pairs_head}
use Rattle.sk_base.proofs.Unions.{which}
use Rattle.sk_family.specs.declared.cluster.Cluster.{Cluster}
use Rattle.sk_family.specs.Clusters.{ByName, IsAt, unnamed}
use Rattle.sk_family.proofs.Naming.{below_differs, unnamed_true, named_among}
use Rattle.sk_base.proofs.Filters.{filter_keeps, filter_both, neither}
use Rattle.sk_base.proofs.Splits.{pairs_drop}
use Rattle.sk_family.proofs.Halving.{none_past, none_other}

differ_kept : (name : Name) (clusters : List Cluster) → ((c : Cluster) → Contains clusters c → c.name ≢ name) → unnamed (name ∷ []) clusters ≡ clusters
differ_kept name clusters differ =
    filter_keeps (λ (c : Cluster). not (is_named (name ∷ []) c.name)) clusters
    (λ c c_in. unnamed_true (name ∷ []) c.name (λ h. differ c c_in (sym (contains_one name c.name h))))

module _ (clusters : List Cluster) (name : Name) (place : ℕ) (rise : AllPairs ByName clusters) (before : (c : Cluster) → Contains (take place clusters) c → IsBelow c.name name)
    (after : (c : Cluster) → Contains (drop place clusters) c → ¬ IsBelow c.name name) where
  pub taken_out : IsAt clusters place name → remove clusters place ≡ unnamed (name ∷ []) clusters
  taken_out (c, at, named) =
      let place_in = slice_get_within clusters place c at in
      let split : drop place clusters ≡ c ∷ drop (suc place) clusters = drop-cons clusters place c place_in ∙ ap (λ d. d ∷ drop (suc place) clusters) (get_or_from_slice_get clusters place c c at) in
      let whole : take place clusters ++ c ∷ drop (suc place) clusters ≡ clusters = ap (λ l. take place clusters ++ l) (sym split) ∙ take-append-drop place clusters in
      let front : unnamed (name ∷ []) (take place clusters) ≡ take place clusters = differ_kept name (take place clusters) (λ d d_in. below_differs d.name name (before d d_in)) in
      let later : unnamed (name ∷ []) (drop (suc place) clusters) ≡ drop (suc place) clusters =
      differ_kept name (drop (suc place) clusters)
      (λ d d_in same. below_differs c.name d.name (pairs_head ByName c (drop (suc place) clusters) (subst (λ l. AllPairs ByName l) split (pairs_drop ByName place clusters rise)) d d_in) (named ∙ sym same)) in
      let gone : unnamed (name ∷ []) (c ∷ drop (suc place) clusters) ≡ unnamed (name ∷ []) (drop (suc place) clusters) =
      ap (λ b. cond b (c ∷ unnamed (name ∷ []) (drop (suc place) clusters)) (unnamed (name ∷ []) (drop (suc place) clusters)))
      (ap not (named_among (name ∷ []) c.name (subst (λ n. Contains (name ∷ []) n) (sym named) (contains_head name [])))) in
      sym (ap (λ l. unnamed (name ∷ []) l) (sym whole) ∙ filter-append (λ (d : Cluster). not (is_named (name ∷ []) d.name)) (take place clusters) (c ∷ drop (suc place) clusters)
      ∙ ap (λ l. l ++ unnamed (name ∷ []) (c ∷ drop (suc place) clusters)) front ∙ ap (λ l. take place clusters ++ l) (gone ∙ later))

  pub not_there : ¬ IsAt clusters place name → clusters ≡ unnamed (name ∷ []) clusters
  not_there apart = sym (differ_kept name clusters differ)
    where
      differ : (c : Cluster) → Contains clusters c → c.name ≢ name
      differ c c_in =
          elim (which place (length clusters)) [
            | inl within ↦ (
                let first : Cluster = get_or clusters place c in
                none_other clusters name place before after rise within first (get_or_default clusters place c first within)
                (λ named. apart (first, slice_get-get_or clusters place c within, named)) c c_in)
            | inr (inl level) ↦ none_past clusters name place before after (omega arith) c c_in
            | inr (inr past) ↦ none_past clusters name place before after (omega arith) c c_in
          ]

-- clusters without some names, and then without another
pub unnamed_more : (some more : List Name) (clusters : List Cluster) → unnamed (some ++ more) clusters ≡ unnamed more (unnamed some clusters)
unnamed_more some more clusters =
    filter_both (λ (c : Cluster). not (is_named some c.name)) (λ (c : Cluster). not (is_named more c.name)) (λ (c : Cluster). not (is_named (some ++ more) c.name))
    (λ c. ap not (list_any-append (λ m. name_eq m c.name) some more) ∙ neither (is_named some c.name) (is_named more c.name)) clusters
