-- What the walks to triples find, step by step.
use Rattle.std.specs.Prelude.{◌≡◌, ◌≢◌, List, Contains}
use Rattle.sk_base.specs.declared.Elem.{Elem}
use Rattle.sk_base.specs.declared.Name.{Name}
use Rattle.sk_triangles.specs.declared.End.{End}
use Rattle.sk_triangles.specs.Growing.{FromSome}
use Rattle.sk_triangles.specs.Marks.{IsThirdIn}
use Rattle.sk_family.specs.declared.Cluster.{Cluster}
use Rattle.sk_family.specs.declared.Merge.{Merge}
use Rattle.sk_neighbours.specs.declared.index.Index.{Index}
use Rattle.sk_neighbours.specs.Indexed.{IsThirdAt, lines_in}
use Rattle.sk_neighbours.specs.declared.triples.Third.{Third}
use Rattle.sk_neighbours.specs.declared.triples.Third.TheVariants.{Below, Either}
use Rattle.sk_neighbours.specs.Triples.{IsPlaced, IsTripleOf}
use Rattle.sk_neighbours.specs.Walks.{AtElement}

-- the name below which the third cluster stands
abbrev pub limit_of : Third → Name → Name → Name
limit_of Below x y = y
limit_of Either x y = x

-- another cluster than y, which shares with x a corner that makes a triangle with a and b
abbrev pub IsThirdCluster : Index → Cluster → Cluster → Cluster → Elem → Elem → Type 0
IsThirdCluster ix x y z a b = (a ≢ b) × (z.name ≢ y.name) × IsThirdIn (lines_in ix) a b x.elements z.elements

-- the triple of x, y and z, where b is the corner of y and z
abbrev pub WithThird : Index → Cluster → Cluster → Elem → Elem → Cluster → Merge → Type 0
WithThird ix x y a b z m = IsThirdCluster ix x y z a b × IsTripleOf x.name y.name z.name m

-- the triples of x and y with a as the corner of the two
abbrev pub WithSecond : Third → Index → Cluster → Elem → Cluster → Merge → Type 0
WithSecond third ix x a y = FromSome (AtElement (WithThird ix x y a) ix (limit_of third x.name y.name)) y.elements

-- those of x with a as the corner of it and the second
abbrev pub FromCorner : Third → Index → Cluster → Elem → Merge → Type 0
FromCorner third ix x a = AtElement (WithSecond third ix x) ix x.name a

-- the triple of x, the end's cluster as the second and z as the third
abbrev pub Meets : Third → Name → Name → End → Merge → Type 0
Meets third x z e m = IsPlaced third e.name z × IsTripleOf x e.name z m

-- the triples of x and z with the corner d, z and one of the ends at b, and x and that one with the corner a
abbrev pub MeetAt : Third → Index → List End → Name → Elem → Elem → Name → Elem → Merge → Type 0
MeetAt third ix ends x a d z b m = ((a ≢ b) × IsThirdAt ix a b d) × (e : End) × Contains ends e × (e.elem ≡ b) × Meets third x z e m

-- with any corner b of z
abbrev pub MeetAny : Third → Index → List End → Name → Elem → Elem → Cluster → Merge → Type 0
MeetAny third ix ends x a d z = FromSome (MeetAt third ix ends x a d z.name) z.elements
