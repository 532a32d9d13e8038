-- A family is closed in any order: what is below the name that is reached stays settled.
use Rattle.std.proofs.Common.{◌≡◌, inl, inr, List, [], sym, subst, ap, arith}
use Rattle.std.specs.Prelude.{◌↔◌, Contains, Option, None, Some}
use Rattle.sk_base.specs.declared.Name.{Name}
use Rattle.sk_base.specs.declared.Name.TheVariants.{Con, Step}
use Rattle.sk_base.specs.declared.Graph.{Graph}
use Rattle.sk_base.specs.ClusterNames.{IsBelow}
use Rattle.sk_base.proofs.Members.{contains_none}
use Rattle.sk_family.specs.declared.Cluster.{Cluster}
use Rattle.sk_family.specs.Clusters.{Clusters, IsSound, bodies, replaced, IsWithin}
use Rattle.sk_family.proofs.Naming.{below_asymmetric, below_chain, below_others, is_it_below}
use Rattle.sk_family.specs.declared.Merge.{Merge}
use Rattle.sk_family.specs.declared.Merge.TheVariants.{Two, Three}
use Rattle.sk_family.specs.Merges.{greatest_of}
use Rattle.sk_rules.specs.Reach.{IsClosed}
use Rattle.sk_rules.proofs.Merging.{closed_by_merges}
use Rattle.sk_neighbours.specs.declared.Index.{Index}
use Rattle.sk_rules.specs.Merges.{CanTake}
use Rattle.sk_neighbours.specs.Indexed.{Represents}
use Rattle.sk_triangles.specs.Growing.{GrowsBy}
use Rattle.sk_neighbours.specs.Partners.{Partner}
use Rattle.sk_neighbours.specs.Triples.{TriplesOf}
use Rattle.sk_close_any_order.specs.Settling.{IsAny, IsSettledBelow, IsNextMerge, MergesOf}
use Rattle.sk_neighbours.proofs.Gathered.{partners_found, triples_found}
use Rattle.sk_rules.proofs.Takable.{can_pair, can_triple, pair_can, triple_can}
use Rattle.sk_family.proofs.Lasting.{named_before, not_next, live_below_next}

-- nothing is below the first name
pub nothing_below : (n : Name) → ¬ IsBelow n (Con 0)
nothing_below (Con k) h = absurd (omega arith)
nothing_below (Step k) h = h

pub settled_at_first : (g : Graph) (f : Clusters) → IsSettledBelow g f (Con 0)
settled_at_first g f m can = nothing_below (greatest_of m)

pub within_at_first : (f : Clusters) → IsWithin f (Con 0)
within_at_first f h = h

pub within_after : (f : Clusters) (gone : List Name) (bound : Name) → IsWithin f bound → IsWithin (replaced f gone) bound
within_after f gone (Con k) within h = h
within_after f gone (Step k) within h = within (omega (arith, h))

-- whatever clusters are replaced, what is below the name stays settled
pub settled_after : (g : Graph) (f : Clusters) → IsSound f → (gone : List Name) (bound : Name) → IsWithin f bound → IsSettledBelow g f bound → IsSettledBelow g (replaced f gone) bound
settled_after g f sound gone bound within settled (Two x y) (falls, (a, b, a_is, b_is, two)) below =
    let x_below = below_others x bound (Step f.next_step) below within in
    let y_below = below_chain y x (Step f.next_step) falls x_below in
    settled (Two x y) (falls, (a, b, named_before f gone x (not_next f x x_below) a a_is, named_before f gone y (not_next f y y_below) b b_is, two)) below
settled_after g f sound gone bound within settled (Three x y z) (falls, (a, b, c, a_is, b_is, c_is, meets)) below =
    let x_below = below_others x bound (Step f.next_step) below within in
    let y_below = below_chain y x (Step f.next_step) falls.0 x_below in
    let z_below = below_chain z y (Step f.next_step) falls.1 y_below in
    settled (Three x y z)
    (falls, (a, b, c, named_before f gone x (not_next f x x_below) a a_is, named_before f gone y (not_next f y y_below) b b_is, named_before f gone z (not_next f z z_below) c c_is, meets)) below

module _ (ix : Index) (g : Graph) (f : Clusters) (sound : IsSound f) (r : Represents ix g f.live) where
  -- a merge that may be taken is found from its greatest cluster
  pub greatest_finds : (m : Merge) → CanTake g f m → (c : Cluster) × Contains f.live c × (c.name ≡ greatest_of m) × MergesOf ix c m
  greatest_finds (Two x y) (falls, (a, b, a_is, b_is, two)) =
      let can : CanTake g f (Two x y) = (falls, (a, b, a_is, b_is, two)) in (
        a,
        a_is.lives,
        a_is.has_name,
        inl (y, (partners_found ix g f.live r a y).1 (can_pair g f sound a a_is.lives y (subst (λ n. CanTake g f (Two n y)) (sym a_is.has_name) can)), ap (λ n. Two n y) (sym a_is.has_name)),
      )
  greatest_finds (Three x y z) (falls, (a, b, c, a_is, b_is, c_is, meets)) =
      let can : CanTake g f (Three x y z) = (falls, (a, b, c, a_is, b_is, c_is, meets)) in (
        a,
        a_is.lives,
        a_is.has_name,
        inr ((triples_found ix g f.live r a (Three x y z)).1 (can_triple g f sound a a_is.lives (Three x y z) (can, (y, z, ap (λ n. Three n y z) (sym a_is.has_name))))),
      )

  -- what is found from a cluster may be taken, and it is the greatest
  pub found_from : (c : Cluster) → Contains f.live c → (m : Merge) → MergesOf ix c m → CanTake g f m × (greatest_of m ≡ c.name)
  found_from c c_in m (inl (n, partner, is)) =
      (subst (λ k. CanTake g f k) (sym is) (pair_can g f sound c c_in n ((partners_found ix g f.live r c n).0 partner)), ap greatest_of is)
  found_from c c_in m (inr triple) =
      let (can, (y, z, is)) = triple_can g f sound c c_in m ((triples_found ix g f.live r c m).0 triple) in (can, ap greatest_of is)

  module _ (bound : Name) (rest : List Cluster) (rest_is : (c : Cluster) → Contains rest c ↔ (Contains f.live c × ¬ IsBelow c.name bound)) where
    pub next_can : (m : Merge) → IsNextMerge ix rest m → CanTake g f m
    next_can m p = (found_from p.greatest ((rest_is p.greatest).0 p.among).0 m p.merges).0

    next_named : (m : Merge) → (p : IsNextMerge ix rest m) → greatest_of m ≡ p.greatest.name
    next_named m p = (found_from p.greatest ((rest_is p.greatest).0 p.among).0 m p.merges).1

    pub next_within : (m : Merge) → IsNextMerge ix rest m → IsWithin f (greatest_of m)
    next_within m p above =
        let below = live_below_next f sound p.greatest ((rest_is p.greatest).0 p.among).0 in
        below_asymmetric p.greatest.name (Step f.next_step) below (subst (λ n. IsBelow (Step f.next_step) n) (next_named m p) above)

    -- up to the cluster that is found all is settled
    pub settled_to_next : IsSettledBelow g f bound → (m : Merge) → IsNextMerge ix rest m → IsSettledBelow g f (greatest_of m)
    settled_to_next settled m p n can below =
        let (c, c_in, named, merges) = greatest_finds n can in
        elim (is_it_below c.name bound) [
          | inl under ↦ settled n can (subst (λ l. IsBelow l bound) named under)
          | inr above ↦ p.first c n ((rest_is c).1 (c_in, above)) (subst (λ l. IsBelow c.name l) (next_named m p) (subst (λ l. IsBelow l (greatest_of m)) (sym named) below)) merges
        ]

    -- and where none is found the family is closed
    pub closed_without_next : IsSettledBelow g f bound → ((c : Cluster) (m : Merge) → Contains rest c → ¬ MergesOf ix c m) → IsClosed g (bodies f)
    closed_without_next settled none = closed_by_merges g f sound (λ m falls holds. never m (falls, holds))
      where
        never : (m : Merge) → ¬ CanTake g f m
        never m can =
            let (c, c_in, named, merges) = greatest_finds m can in
            elim (is_it_below c.name bound) [
              | inl under ↦ settled m can (subst (λ l. IsBelow l bound) named under)
              | inr above ↦ none c m ((rest_is c).1 (c_in, above)) merges
            ]

-- where a cluster has no partner, any of its triples is a merge of it
pub any_found : (ix : Index) (x : Cluster) → ((n : Name) → ¬ Partner ix x n) → (all : List Merge) → GrowsBy (TriplesOf ix x) [] all → (o : Option Merge) → IsAny (Contains all) o → IsAny (MergesOf ix x) o
any_found ix x none all grows None empty = λ m h. elim h [
  | inl (n, partner, is) ↦ none n partner
  | inr triple ↦ empty m ((grows m).1 (inr triple))
]
any_found ix x none all grows (Some m) m_in = elim ((grows m).0 m_in) [ inl never ↦ absurd (contains_none m never) | inr triple ↦ inr triple ]
