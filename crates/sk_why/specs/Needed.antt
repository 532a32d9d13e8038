-- Which of a tree's constraints hold some elements together, read off the tree.
use Rattle.std.specs.Prelude.{◌&&◌, not, Bool, cond, List, [], ◌∷◌, ◌++◌, filter, Option, Some, None}
use Rattle.std.specs.List.{list_all}
use Rattle.sk_base.specs.declared.ConId.{ConId}
use Rattle.sk_base.specs.declared.Elem.{Elem}
use Rattle.sk_base.specs.Numbering.{is_elem}
use Rattle.sk_why.specs.declared.branches.Branch.{Branch}
use Rattle.sk_why.specs.declared.branches.Branch.TheVariants.{Leaf, Join'}
use Rattle.sk_why.specs.BranchOf.{elements_of}

abbrev pub are_all_among : List Elem → List Elem → Bool
are_all_among named es = list_all (λ (e : Elem). is_elem named e) es

-- the tree names all of the elements
abbrev pub names_all : Branch → List Elem → Bool
names_all t es = are_all_among (elements_of t) es

-- the third element in which a join's trees meet
abbrev pub third_of : Elem → Option Elem → Elem
third_of other (Some e) = e
third_of other None = other

-- it is among these, and none of two
abbrev pub is_further : List Elem → Elem → Elem → Elem → Bool
is_further named x y e = is_elem named e && not (is_elem (x ∷ y ∷ []) e)

-- what one of a join's trees has to hold together: its two shared elements, and those of the elements that it names
abbrev pub share_of : Branch → Elem → Elem → List Elem → List Elem
share_of t x y es = x ∷ y ∷ filter (is_further (elements_of t) x y) es

-- of a join's trees one that names all of the elements has them together, or all three have what is theirs
abbrev pub needed : Branch → List Elem → List ConId
needed (Leaf twig) es = twig.number ∷ []
needed (Join' p elements shared one two three) es =
    cond (names_all one es) (needed one es)
    (cond (names_all two es) (needed two es)
    (cond (names_all three es) (needed three es)
    (needed one (share_of one shared.a (third_of shared.a shared.c) es)
    ++ (needed two (share_of two shared.a shared.b es)
    ++ needed three (share_of three shared.b (third_of shared.a shared.c) es)))))
