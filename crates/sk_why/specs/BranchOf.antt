-- The tree of what is kept, with the elements that each of its trees names.
use Rattle.std.specs.Prelude.{◌≡◌, Bool, not, List, [], ◌∷◌, ◌++◌, filter, Some, Contains}
use Rattle.sk_base.specs.declared.Elem.{Elem}
use Rattle.sk_base.specs.declared.Graph.{Graph}
use Rattle.sk_base.specs.declared.Node.{Node}
use Rattle.sk_base.specs.Numbering.{is_elem}
use Rattle.sk_family.specs.Body.{Body, Start, starts, starting, join_all}
use Rattle.sk_tree.specs.Meeting.{MeetsOnce}
use Rattle.sk_plan.specs.Sparse.{IsSparse}
use Rattle.sk_verdict.specs.OneCluster.{IsOneCluster}
use Rattle.sk_why.specs.declared.branches.Branch.{Branch}
use Rattle.sk_why.specs.declared.branches.Branch.TheVariants.{Leaf, Join'}

-- the elements that its constraints name
abbrev pub elements_of : Branch → List Elem
elements_of (Leaf twig) = twig.elements
elements_of (Join' p elements shared one two three) = elements

-- it is none of these
abbrev pub is_new : List Elem → Elem → Bool
is_new elements e = not (is_elem elements e)

-- some elements, and behind them the others of further ones
abbrev pub joined : List Elem → List Elem → List Elem
joined xs ys = xs ++ filter (is_new xs) ys

-- A leaf has the elements of its constraint, and its body is what that starts with; a join has those of its three trees, and its
-- body is of their three bodies, which meet once in the shared elements.
abbrev pub IsGrownBy : Graph → Branch → Body → Type 0
IsGrownBy g (Leaf twig) x = (s : Start) × Contains (starts g) s × (s.number ≡ twig.number) × (s.elements ≡ twig.elements) × (x ≡ starting s)
IsGrownBy g (Join' p elements shared one two three) x =
    (a : Body) × (b : Body) × (c : Body) × (third : Elem) × IsGrownBy g one a × IsGrownBy g two b × IsGrownBy g three c
    × (shared.c ≡ Some third) × MeetsOnce g a.elements b.elements c.elements shared.a shared.b third × (x ≡ join_all (c ∷ b ∷ a ∷ []))
    × (elements ≡ joined (joined (elements_of one) (elements_of two)) (elements_of three))

-- a tree of all constraints and all nodes of a graph that is one cluster, with no constraint too many
pub record IsTreeOfAll (g : Graph) (t : Branch) : Type 0 where
  pub body : Body
  pub grown : IsGrownBy g t body
  pub nodes : (n : Node) → Contains g.nodes n → Contains body.elements n.elem
  pub owns : (s : Start) → Contains (starts g) s → Contains body.owned s.number
  pub one : IsOneCluster g
  pub sparse : IsSparse g
