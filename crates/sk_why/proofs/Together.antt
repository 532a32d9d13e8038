-- Elements that are together: with more constraints they still are, and each normal family tells it.
use Rattle.std.proofs.Common.{◌≡◌, Bool, true, false, List}
use Rattle.std.specs.Prelude.{map}
use Rattle.sk_base.specs.declared.Elem.{Elem}
use Rattle.sk_base.specs.declared.ConId.{ConId}
use Rattle.sk_base.specs.declared.Graph.{Graph}
use Rattle.sk_base.specs.SoundGraph.{IsSoundGraph}
use Rattle.sk_family.specs.declared.Cluster.{Cluster}
use Rattle.sk_family.specs.Body.{Body, initial_bodies}
use Rattle.sk_family.specs.Clusters.{body_of}
use Rattle.sk_rules.specs.JustSome.{with_just}
use Rattle.sk_rules.specs.Reach.{IsNormal}
use Rattle.sk_rules.proofs.NormalForm.{normal_same}
use Rattle.sk_rules.proofs.SomeClosed.{some_closed}
use Rattle.sk_spare.specs.Sparing.{HoldsAll}
use Rattle.sk_spare.specs.Trying.{some_holds}
use Rattle.sk_spare.proofs.Holding.{test_tells}
use Rattle.sk_excess.specs.LeftOut.{HasConstraint}
use Rattle.sk_excess.proofs.OneClusters.{more_covers}
use Rattle.sk_why.specs.Because.{AreTogether}

-- each normal family has a cluster with all of them
pub together_in : (g : Graph) → IsSoundGraph g → (xs : List Elem) → AreTogether g xs → (f : List Body) → IsNormal g f → HoldsAll f xs
together_in g sound xs together f normal =
    let (y, y_in, has) = together.holds in
    (y, (normal_same g f together.family sound.edges_rise normal together.normal y).1 y_in, has)

-- with more constraints they are still together
pub together_with_more : (g : Graph) → IsSoundGraph g → (xs : List Elem) (p q : ConId → Bool) → ((k : ConId) → HasConstraint g k → p k ≡ true → q k ≡ true)
    → AreTogether (with_just p g) xs → AreTogether (with_just q g) xs
together_with_more g sound xs p q more together =
    let many = with_just q g in
    let (n, reach, closed) = some_closed many (initial_bodies many) in
    let normal : IsNormal many n = record { reached = reach; closed = closed } in
    let (y, y_in, has) = together.holds in
    let (z, z_in, within) = more_covers g sound p q more together.family together.normal.reached n normal y y_in in
    record { family = n; normal = normal; holds = (z, z_in, λ e e_in. within.elements e (has e e_in)) }

-- the test of the clusters tells it
module _ (g : Graph) (sound : IsSoundGraph g) (xs : List Elem) (clusters : List Cluster) (normal : IsNormal g (map body_of clusters)) where
  pub found_together : some_holds clusters xs ≡ true → AreTogether g xs
  found_together passes = record { family = map body_of clusters; normal = normal; holds = (test_tells clusters xs).0 passes }

  pub found_apart : some_holds clusters xs ≡ false → ¬ AreTogether g xs
  found_apart fails together =
      let passes : some_holds clusters xs ≡ true = (test_tells clusters xs).1 (together_in g sound xs together (map body_of clusters) normal) in
      absurd (cc)
