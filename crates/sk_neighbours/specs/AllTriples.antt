-- The triples of three of some clusters that meet in three corners.
use Rattle.std.specs.Prelude.{◌≡◌, ◌≢◌, Bool, List, [], ◌∷◌, Contains}
use Rattle.sk_base.specs.declared.Elem.{Elem}
use Rattle.sk_base.specs.declared.Name.{Name}
use Rattle.sk_base.specs.ClusterNames.{IsBelow}
use Rattle.sk_triangles.specs.declared.End.{End}
use Rattle.sk_triangles.specs.Ends.{EndsAmong}
use Rattle.sk_triangles.specs.Growing.{FromSome}
use Rattle.sk_triangles.specs.Marks.{IsThird}
use Rattle.sk_family.specs.declared.Cluster.{Cluster}
use Rattle.sk_family.specs.declared.Merge.{Merge}
use Rattle.sk_family.specs.declared.Merge.TheVariants.{Three}
use Rattle.sk_family.specs.Merges.{IsMergeOf}
use Rattle.sk_family.specs.Rules.{IsShared}

-- three different elements, not all marked as lines, each of which is in one two of the three
abbrev pub MeetMarked : List Bool → List Elem → List Elem → List Elem → Type 0
MeetMarked lines xs ys zs = (a : Elem) × (b : Elem) × (c : Elem) × IsShared xs ys a × IsShared ys zs b × IsShared zs xs c × (a ≢ b) × IsThird lines a b c

-- the triple of three of these clusters that so meet
abbrev pub IsTripleAmong : List Bool → List Cluster → Merge → Type 0
IsTripleAmong lines clusters m =
    (x : Cluster) × (y : Cluster) × (z : Cluster) × Contains clusters x × Contains clusters y × Contains clusters z × IsBelow y.name x.name × IsBelow z.name y.name × MeetMarked lines x.elements y.elements z.elements × (m ≡ Three x.name y.name z.name)

-- the ends of a cluster
abbrev pub EndsOf : Cluster → End → Type 0
EndsOf r = FromSome (λ c. EndsAmong r.name c r.elements) r.elements

-- the merge of three names
abbrev pub IsMergeOfThree : Name → Name → Name → Merge → Type 0
IsMergeOfThree x y z = IsMergeOf (x ∷ y ∷ z ∷ [])
