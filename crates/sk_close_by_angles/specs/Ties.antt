-- Lines that are tied, and the third rule, which looks at ties.
use Rattle.std.specs.Prelude.{◌≢◌, ◌⊎◌, List, [], ◌∷◌, Contains}
use Rattle.sk_base.specs.declared.Elem.{Elem}
use Rattle.sk_base.specs.declared.Kind.TheVariants.{Point}
use Rattle.sk_base.specs.declared.Graph.{Graph}
use Rattle.sk_base.specs.SoundGraph.{HasNode}
use Rattle.sk_family.specs.Body.{Body}
use Rattle.sk_family.specs.Rules.{IsLine, IsShared}
use Rattle.sk_rules.specs.Reach.{CanMerge}

-- a chain of lines leads from the one to the other, and each two neighbours of it lie in one body of
-- the family; a line that lies in a body is tied to itself
pub data AreTied (g : Graph) (f : List Body) : Elem → Elem → Type 0 where
  itself : {l : Elem} → IsLine g l → (x : Body) → Contains f x → Contains x.elements l → AreTied g f l l
  further : {l m n : Elem} → IsLine g l → (x : Body) → Contains f x → Contains x.elements l → Contains x.elements m → AreTied g f m n → AreTied g f l n

-- a point is in both
abbrev pub SharesPoint : Graph → List Elem → List Elem → Type 0
SharesPoint g xs ys = (p : Elem) × HasNode g p Point × IsShared xs ys p

-- some line of the one is tied to some line of the other
abbrev pub HaveTiedLines : Graph → List Body → List Elem → List Elem → Type 0
HaveTiedLines g f xs ys = (l : Elem) × (m : Elem) × Contains xs l × Contains ys m × AreTied g f l m

-- the tie rule
abbrev pub MeetsByTie : Graph → List Body → List Elem → List Elem → Type 0
MeetsByTie g f xs ys = SharesPoint g xs ys × HaveTiedLines g f xs ys

-- the two bodies may merge by the tie rule
abbrev pub CanMergeByTie : Graph → List Body → List Body → Type 0
CanMergeByTie g f [] = ⊥
CanMergeByTie g f (a ∷ []) = ⊥
CanMergeByTie g f (a ∷ b ∷ []) = (a ≢ b) × MeetsByTie g f a.elements b.elements
CanMergeByTie g f (a ∷ b ∷ c ∷ rest) = ⊥

-- the bodies may merge by the pair rule, the triangle rule or the tie rule
abbrev pub wide_rule : Graph → List Body → List Body → Type 0
wide_rule g f some = CanMerge g some ⊎ CanMergeByTie g f some
