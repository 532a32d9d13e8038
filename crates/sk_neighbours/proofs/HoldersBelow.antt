-- A walk along the keys of an element that are below a name finds just the clusters that hold it and are below it.
use Rattle.std.proofs.Common.{◌≡◌, ◌∙◌, ℕ, List, sym, subst}
use Rattle.std.specs.Prelude.{◌↔◌, Contains, Some}
use Rattle.sk_base.specs.declared.Elem.{Elem}
use Rattle.sk_base.specs.declared.Name.{Name}
use Rattle.sk_base.specs.ClusterNames.{IsBelow}
use Rattle.std.proofs.lemmas.Option.{same_Some}
use Rattle.sk_family.specs.declared.Cluster.{Cluster}
use Rattle.sk_neighbours.specs.declared.index.Index.{Index}
use Rattle.sk_triangles.specs.Growing.{FromSome}
use Rattle.sk_neighbours.specs.Walks.{AtElement, AtKey}
use Rattle.sk_neighbours.specs.Indexed.{IsBelowAt, IsIndex, holders_of}

module _ (ix : Index) (index : IsIndex ix) {M : Type 0} (keeps : Elem → Cluster → M → Type 0) (e : Elem) (bound : Name) (keys : List ℕ)
    (keys_are : (k : ℕ) → Contains keys k ↔ (Contains (holders_of ix e) k × IsBelowAt ix bound k)) where
  pub holders_walked : (m : M) → FromSome (AtKey keeps ix e) keys m ↔ AtElement keeps ix bound e m
  holders_walked m = (to, from)
    where
      to : FromSome (AtKey keeps ix e) keys m → AtElement keeps ix bound e m
      to (k, k_in, (c, is, kept)) =
          let (k_holds, (d, d_is, below)) = (keys_are k).0 k_in in
          let (b, b_is, e_in) = index.leads e k k_holds in
          let d_c : Some d ≡ Some c = sym d_is ∙ is in
          let b_c : Some b ≡ Some c = sym b_is ∙ is in
          (c, (k, is), subst (λ (x : Cluster). Contains x.elements e) (same_Some _ _ b_c) e_in, subst (λ (x : Cluster). IsBelow x.name bound) (same_Some _ _ d_c) below, kept)

      from : AtElement keeps ix bound e m → FromSome (AtKey keeps ix e) keys m
      from (c, (k, is), e_in, below, kept) = (k, (keys_are k).1 (index.finds e k c is e_in, (c, is, below)), (c, is, kept))
