-- What is added at a turn to the triples that are kept.
use Rattle.std.proofs.Common.{◌≡◌, inl, inr, Bool, true, false, List, sym, subst, ◌∙◌, ap}
use Rattle.std.specs.Prelude.{◌↔◌, ◌||◌, Contains, Option, None, Some}
use Rattle.sk_base.specs.declared.Elem.{Elem}
use Rattle.sk_base.specs.declared.Name.{Name}
use Rattle.sk_base.specs.declared.Graph.{Graph}
use Rattle.sk_base.specs.ClusterNames.{IsBelow, is_named}
use Rattle.sk_family.specs.Clusters.{Clusters, IsLive, IsSound}
use Rattle.sk_family.proofs.Naming.{among_named}
use Rattle.sk_family.specs.declared.Merge.{Merge}
use Rattle.sk_family.specs.declared.Merge.TheVariants.{Three}
use Rattle.sk_neighbours.specs.declared.Index.{Index}
use Rattle.sk_neighbours.specs.Indexed.{Represents}
use Rattle.sk_open_triples.specs.declared.Heir.{Heir}
use Rattle.sk_rules.specs.Merges.{CanTake}
use Rattle.sk_close_by_order.specs.Gather.{AreUncovered, IsUncovered}
use Rattle.sk_open_triples.specs.HandedOn.{AreFoundFor, IsTakenIn, IsToAdd, HasGreatest}
use Rattle.sk_close_by_order.specs.Heirs.{IsFound, IsHeir, IsHeirOf, IsOfHeir}
use Rattle.sk_open_triples.specs.Avoiding.{IsTriple, names_one_of}
use Rattle.sk_close_by_order.proofs.Freshness.{heir_uncovered, one_or_other}

-- a triple that may be taken names no cluster that is gone
takes_live : (g : Graph) (f : Clusters) (gone : List Name) → ((n : Name) → Contains gone n → ¬ IsLive f n) → (x y z : Name) → CanTake g f (Three x y z) → names_one_of gone (Three x y z) ≡ false
takes_live g f gone dead x y z (falls, (a, b, d, a_is, b_is, d_is, meets)) =
    told (is_named gone x) (is_named gone y) (is_named gone z) (λ h. dead x (among_named gone x h) (a, a_is)) (λ h. dead y (among_named gone y h) (b, b_is)) (λ h. dead z (among_named gone z h) (d, d_is))
  where
    told : (a b c : Bool) → ¬ (a ≡ true) → ¬ (b ≡ true) → ¬ (c ≡ true) → (a || (b || c)) ≡ false
    told true b c no_a no_b no_c = absurd (no_a cc)
    told false true c no_a no_b no_c = absurd (no_b cc)
    told false false true no_a no_b no_c = absurd (no_c cc)
    told false false false no_a no_b no_c = cc

module _ (ix : Index) (g : Graph) (f : Clusters) (sound : IsSound f) (r : Represents ix g f.live) (covered : Name) (kept : List Merge) (gone listed : List Name) (same : (n : Name) → Contains listed n ↔ Contains gone n)
    (fresh : List Elem) (found : List Merge) where
  uncovered_triple : (m : Merge) → IsUncovered g f covered m → IsTriple m
  uncovered_triple m (x, x_is, (can, (y, z, is))) = (x.name, y, z, is)

  module _ (heir : Heir) (is : IsHeir g f covered kept gone heir fresh) where
    uncovered_of : (m : Merge) → IsUncovered g f covered m → HasGreatest heir.name m
    uncovered_of m (x, (x_in, above), (can, (y, z, m_is))) =
        elim (one_or_other x.name heir.name) [
          | inl named ↦ (y, z, m_is ∙ ap (λ n. Three n y z) named)
          | inr other ↦ absurd (above (is.alone x x_in other))
        ]

    uncovered_stays : (m : Merge) → IsUncovered g f covered m → names_one_of listed m ≡ false
    uncovered_stays m (x, x_is, (can, (y, z, m_is))) =
        subst (λ t. names_one_of listed t ≡ false) (sym m_is)
        (takes_live g f listed (λ n n_in. (is.dead n ((same n).0 n_in)).1) x.name y z (subst (λ t. CanTake g f t) m_is can))

    of_heir : ¬ IsBelow heir.name covered → (m : Merge) → IsOfHeir ix f kept heir listed fresh m ↔ IsUncovered g f covered m
    of_heir apart = (let (whole, whole_is) = is.lives in heir_uncovered ix g f sound r covered kept gone heir fresh is whole whole_is apart listed same)

  -- what was found are triples, and those of the heir, if there is one
  pub right_found : (heir : Option Heir) → IsHeirOf g f covered kept gone heir fresh → ((m : Merge) → Contains found m ↔ IsFound ix g f covered heir fresh m) → AreFoundFor heir listed found
  right_found None none found_is = λ m m_in. uncovered_triple m ((found_is m).0 m_in)
  right_found (Some heir) (is, apart, core) found_is = ((same heir.core).1 core, (λ m m_in. uncovered_of heir is m ((of_heir heir is apart m).0 (inr ((found_is m).0 m_in)))))

  -- what is added is just what wasn't covered
  pub taken_uncovered : (heir : Option Heir) → IsHeirOf g f covered kept gone heir fresh → ((m : Merge) → Contains found m ↔ IsFound ix g f covered heir fresh m)
      → (new : List Merge) (taken : IsTakenIn listed (IsToAdd heir listed found kept) kept new) → AreUncovered g f covered taken.more
  taken_uncovered None none found_is new taken = record {
    in_order = taken.in_order;
    exactly = λ m. ((λ h. (found_is m).0 ((taken.exactly m).0 h)), (λ h. (taken.exactly m).1 ((found_is m).1 h)));
  }
  taken_uncovered (Some heir) (is, apart, core) found_is new taken = record {
    in_order = taken.in_order;
    exactly = λ m. (
      (λ h. (let (avoids, is_one) = (taken.exactly m).0 h in (of_heir heir is apart m).0 (elim is_one [ inl inherited ↦ inl inherited | inr in_found ↦ inr ((found_is m).0 in_found) ]))),
      (λ h. (taken.exactly m).1 (uncovered_stays heir is m h, elim ((of_heir heir is apart m).1 h) [ inl inherited ↦ inl inherited | inr of_fresh ↦ inr ((found_is m).1 of_fresh) ])),
    );
  }

-- names that were put in order
pub listed_same : (listed ordered as_they gone : List Name) → listed ≡ ordered → as_they ≡ gone → ((n : Name) → Contains ordered n ↔ Contains as_they n) → (n : Name) → Contains listed n ↔ Contains gone n
listed_same listed ordered as_they gone listed_is they_are same n = (
  (λ h. subst (λ (ns : List Name). Contains ns n) they_are ((same n).0 (subst (λ (ns : List Name). Contains ns n) listed_is h))),
  (λ h. subst (λ (ns : List Name). Contains ns n) (sym listed_is) ((same n).1 (subst (λ (ns : List Name). Contains ns n) (sym they_are) h))),
)
