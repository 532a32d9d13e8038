-- Classes of tied lines: each line has the number of its class, and what is no line has none.
use Rattle.std.specs.Prelude.{◌≡◌, ◌≢◌, ◌↔◌, ◌⊎◌, ◌+◌, ◌<◌, ℕ, List, Contains, slice_index}
use Rattle.sk_base.specs.declared.Elem.{Elem}
use Rattle.sk_base.specs.declared.Node.{Node}
use Rattle.sk_base.specs.declared.Kind.TheVariants.{Line}
use Rattle.sk_base.specs.declared.Graph.{Graph}
use Rattle.sk_family.specs.Body.{Body}
use Rattle.sk_family.specs.Rules.{IsLine}
use Rattle.sk_close_by_angles.specs.Ties.{AreTied}

-- the number of the element's class, 0 where it has none
abbrev pub class_of : List ℕ → Elem → ℕ
class_of classes e = slice_index classes e.0

abbrev pub line_node : Elem → Node
line_node e = record { elem = e; kind = Line }

-- the new number is the one class in place of the other
abbrev pub IsRenamed : ℕ → ℕ → ℕ → ℕ → Type 0
IsRenamed from to old new = ((old ≡ from) × (new ≡ to)) ⊎ ((old ≢ from) × (new ≡ old))

abbrev pub AreRenamed : ℕ → ℕ → List ℕ → List ℕ → Type 0
AreRenamed from to old new = (n : ℕ) → IsRenamed from to (slice_index old n) (slice_index new n)

-- each line among the nodes is a class of its own
abbrev pub AreAlone : List Node → List ℕ → Type 0
AreAlone nodes classes =
    (e : Elem) → (Contains nodes (line_node e) × (class_of classes e ≡ e.0 + 1)) ⊎ ((¬ Contains nodes (line_node e)) × (class_of classes e ≡ 0))

-- the new classes are those of one more node
abbrev pub AddsNode : Node → List ℕ → List ℕ → Type 0
AddsNode node old new =
    (e : Elem) → ((node ≡ line_node e) × (class_of new e ≡ e.0 + 1)) ⊎ ((¬ (node ≡ line_node e)) × (class_of new e ≡ class_of old e))

-- the new classes are the old ones, some of them joined
pub record Coarsens (old new : List ℕ) : Type 0 where
  pub same_lines : (e : Elem) → (0 < class_of new e) ↔ (0 < class_of old e)
  pub kept : (d e : Elem) → class_of old d ≡ class_of old e → class_of new d ≡ class_of new e

-- the lines among the elements have one class
abbrev pub AreTogether : List ℕ → List Elem → Type 0
AreTogether classes xs = (l m : Elem) → Contains xs l → Contains xs m → 0 < class_of classes l → 0 < class_of classes m → class_of classes l ≡ class_of classes m

-- just the lines have a class, and what has one class is tied
pub record TellTies (g : Graph) (f : List Body) (classes : List ℕ) : Type 0 where
  pub lines : (e : Elem) → (0 < class_of classes e) ↔ IsLine g e
  pub tied : (l m : Elem) → 0 < class_of classes l → class_of classes l ≡ class_of classes m → (l ≡ m) ⊎ AreTied g f l m

-- and what is tied has one class
pub record AreClasses (g : Graph) (f : List Body) (classes : List ℕ) : Type 0 where
  pub tell : TellTies g f classes
  pub together : (x : Body) → Contains f x → AreTogether classes x.elements

-- the class of the lines among the elements, 0 where no line is among them
abbrev pub IsClassAmong : List ℕ → List Elem → ℕ → Type 0
IsClassAmong classes xs k =
    ((k ≡ 0) × ((e : Elem) → Contains xs e → class_of classes e ≡ 0)) ⊎ ((e : Elem) × Contains xs e × (0 < class_of classes e) × (k ≡ class_of classes e))

-- it is the class of one of the elements
abbrev pub IsClassOfOne : List ℕ → List Elem → ℕ → Type 0
IsClassOfOne classes xs k = (e : Elem) × Contains xs e × (class_of classes e ≡ k)
