-- The bodies of the clusters of some names.
use Rattle.std.proofs.Common.{◌≡◌, ◌⊎◌, inl, inr, List, ◌++◌, subst}
use Rattle.std.specs.Prelude.{Contains, map}
use Rattle.std.proofs.lemmas.List.Elements.{Contains-append_left, Contains-append_right, Contains-append_cases}
use Rattle.sk_base.specs.declared.Name.{Name}
use Rattle.sk_base.specs.ClusterNames.{is_named}
use Rattle.sk_base.proofs.Members.{contains_mapped, mapped_from, contains_filtered, filtered_from}
use Rattle.sk_family.specs.declared.cluster.Cluster.{Cluster}
use Rattle.sk_family.specs.Body.{Body}
use Rattle.sk_family.specs.Clusters.{Clusters, body_of, named}
use Rattle.sk_family.proofs.Naming.{among_named, named_among}

module _ (f : Clusters) where
  abbrev pub parts : List Name → List Body
  parts names = map body_of (named names f.live)

  pub in_parts : (names : List Name) (c : Cluster) → Contains f.live c → Contains names c.name → Contains (parts names) (body_of c)
  in_parts names c c_in n_in =
      contains_mapped body_of (named names f.live) c (contains_filtered (λ (d : Cluster). is_named names d.name) f.live c c_in (named_among names c.name n_in))

  pub from_parts : (names : List Name) (b : Body) → Contains (parts names) b → (c : Cluster) × Contains f.live c × Contains names c.name × (body_of c ≡ b)
  from_parts names b b_in =
      let (c, c_in, is) = mapped_from body_of (named names f.live) b b_in in
      let (was, is_one) = filtered_from (λ (d : Cluster). is_named names d.name) f.live c c_in in
      (c, was, among_named names c.name is_one, is)

  pub parts_left : (names more : List Name) (b : Body) → Contains (parts names) b → Contains (parts (names ++ more)) b
  parts_left names more b h =
      let (c, c_in, n_in, is) = from_parts names b h in
      subst (λ x. Contains (parts (names ++ more)) x) is (in_parts (names ++ more) c c_in (Contains-append_left names more c.name n_in))

  pub parts_right : (names more : List Name) (b : Body) → Contains (parts more) b → Contains (parts (names ++ more)) b
  parts_right names more b h =
      let (c, c_in, n_in, is) = from_parts more b h in
      subst (λ x. Contains (parts (names ++ more)) x) is (in_parts (names ++ more) c c_in (Contains-append_right names more c.name n_in))

  pub parts_cases : (names more : List Name) (b : Body) → Contains (parts (names ++ more)) b → Contains (parts names) b ⊎ Contains (parts more) b
  parts_cases names more b h =
      let (c, c_in, n_in, is) = from_parts (names ++ more) b h in
      elim (Contains-append_cases names more c.name n_in) [
        | inl before ↦ inl (subst (λ x. Contains (parts names) x) is (in_parts names c c_in before))
        | inr after ↦ inr (subst (λ x. Contains (parts more) x) is (in_parts more c c_in after))
      ]
