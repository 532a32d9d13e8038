-- What is known of live clusters holds of whatever clusters have their names.
use Rattle.std.proofs.Common.{Bool, List, subst}
use Rattle.std.specs.Prelude.{IsTrue, ◌↔◌, Contains}
use Rattle.sk_base.specs.declared.Elem.{Elem}
use Rattle.sk_base.specs.declared.Graph.{Graph}
use Rattle.sk_base.specs.declared.Name.{Name}
use Rattle.sk_family.specs.declared.Cluster.{Cluster}
use Rattle.sk_family.specs.Clusters.{Clusters, IsNamed, IsSound}
use Rattle.sk_family.proofs.Naming.{one_of_name}
use Rattle.sk_tree.specs.LegalPlan.{IsPreferred, IsKept}
use Rattle.sk_tree.specs.Meeting.{MeetsOnce, JoinsOnce}
use Rattle.sk_verify.proofs.Tests.{same_as}

module _ (f : Clusters) (sound : IsSound f) where
  pub joins_exactly : (g : Graph) (x y z : Name) (a b c : Elem) (one two three : Cluster) → IsNamed f x one → IsNamed f y two → IsNamed f z three
      → (r : Bool) → IsTrue r ↔ MeetsOnce g one.elements two.elements three.elements a b c → IsTrue r ↔ JoinsOnce g f x y z a b c
  joins_exactly g x y z a b c one two three one_is two_is three_is r tells = same_as r tells
      (λ meets. record { one = one; two = two; three = three; one_named = one_is; two_named = two_is; three_named = three_is; meets = meets })
      (λ joins.
      subst (λ (d : Cluster). MeetsOnce g d.elements two.elements three.elements a b c) (one_of_name f sound x joins.one one joins.one_named one_is)
      (subst (λ (d : Cluster). MeetsOnce g joins.one.elements d.elements three.elements a b c) (one_of_name f sound y joins.two two joins.two_named two_is)
      (subst (λ (d : Cluster). MeetsOnce g joins.one.elements joins.two.elements d.elements a b c) (one_of_name f sound z joins.three three joins.three_named three_is) joins.meets)))

  pub keeps_exactly : (names : List Name) (kept : Name) (a : Cluster) → IsNamed f kept a → Contains names kept
      → (r : Bool) → IsTrue r ↔ ((n : Name) (b : Cluster) → Contains names n → IsNamed f n b → IsPreferred a b) → IsTrue r ↔ IsKept f names kept
  keeps_exactly names kept a a_is inside r tells = same_as r tells
      (λ all. (inside, (a, a_is, all)))
      (λ is n b n_in b_is. subst (λ (d : Cluster). IsPreferred d b) (one_of_name f sound kept is.1.0 a is.1.1 a_is) (is.1.2 n b n_in b_is))
