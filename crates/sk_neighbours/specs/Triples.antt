-- The triples of a cluster and two clusters of an index that are below it and meet with it in three corners.
use Rattle.std.specs.Prelude.{◌≡◌, ◌≢◌, ◌⊎◌, Contains}
use Rattle.sk_base.specs.declared.Elem.{Elem}
use Rattle.sk_base.specs.declared.Name.{Name}
use Rattle.sk_base.specs.ClusterNames.{IsBelow}
use Rattle.sk_triangles.specs.Growing.{FromSome}
use Rattle.sk_family.specs.declared.Cluster.{Cluster}
use Rattle.sk_family.specs.declared.Merge.{Merge}
use Rattle.sk_family.specs.declared.Merge.TheVariants.{Three}
use Rattle.sk_family.specs.Rules.{IsShared}
use Rattle.sk_neighbours.specs.declared.index.Index.{Index}
use Rattle.sk_neighbours.specs.Indexed.{IsHeld, IsThirdAt}
use Rattle.sk_neighbours.specs.declared.triples.Third.{Third}
use Rattle.sk_neighbours.specs.declared.triples.Third.TheVariants.{Below, Either}

-- the third cluster's name is below the second's alone, or it is another one
abbrev pub IsPlaced : Third → Name → Name → Type 0
IsPlaced Below y z = IsBelow z y
IsPlaced Either y z = z ≢ y

-- the triple of three names of which x is the greatest
abbrev pub IsTripleOf : Name → Name → Name → Merge → Type 0
IsTripleOf x y z m = (IsBelow z y × (m ≡ Three x y z)) ⊎ (IsBelow y z × (m ≡ Three x z y))

-- some corner of y and z and one of z and x make a triangle with a
abbrev pub MeetsBeside : Index → Elem → Cluster → Cluster → Cluster → Type 0
MeetsBeside ix a x y z = (b : Elem) × (c : Elem) × (a ≢ b) × IsShared y.elements z.elements b × IsShared z.elements x.elements c × IsThirdAt ix a b c

-- the triple of x, a second cluster and a third one below it, which meet in three corners, where a is that
-- of x and the second
abbrev pub AtCorner : Third → Index → Cluster → Elem → Merge → Type 0
AtCorner third ix x a m =
    (y : Cluster) × (z : Cluster) × IsHeld ix y × IsHeld ix z × IsBelow y.name x.name × IsBelow z.name x.name × IsPlaced third y.name z.name × Contains y.elements a × MeetsBeside ix a x y z × IsTripleOf x.name y.name z.name m

-- the triples of x as the greatest, with any corner
abbrev pub TriplesOf : Index → Cluster → Merge → Type 0
TriplesOf ix x = FromSome (AtCorner Below ix x) x.elements
