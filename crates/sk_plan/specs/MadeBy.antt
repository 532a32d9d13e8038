-- The body that a tree's constraints make, join by join.
use Rattle.std.specs.Prelude.{◌≡◌, [], ◌∷◌, Some, Contains}
use Rattle.sk_base.specs.declared.Elem.{Elem}
use Rattle.sk_base.specs.declared.Graph.{Graph}
use Rattle.sk_family.specs.Body.{Body, Start, starts, starting, join_all}
use Rattle.sk_tree.specs.declared.Tree.{Tree}
use Rattle.sk_tree.specs.declared.Tree.TheVariants.{Leaf, Join'}
use Rattle.sk_tree.specs.Meeting.{MeetsOnce}

-- a leaf is what its constraint starts with; a join is of the bodies of its three trees, which meet once in the shared elements
abbrev pub IsMadeBy : Graph → Tree → Body → Type 0
IsMadeBy g (Leaf k) x = (s : Start) × Contains (starts g) s × (s.number ≡ k) × (x ≡ starting s)
IsMadeBy g (Join' p step shared one two three) x =
    (a : Body) × (b : Body) × (c : Body) × (third : Elem) × IsMadeBy g one a × IsMadeBy g two b × IsMadeBy g three c
    × (shared.c ≡ Some third) × MeetsOnce g a.elements b.elements c.elements shared.a shared.b third × (x ≡ join_all (c ∷ b ∷ a ∷ []))
