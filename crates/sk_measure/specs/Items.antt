-- What has a tolerance of its own, and when it holds where the elements are placed.
use Rattle.std.specs.Prelude.{ℕ, ℤ, pos, ◌<ℤ◌, ◌↔◌, List, AllPairs, Contains, unsigned_abs}
use Rattle.sk_base.specs.declared.Elem.{Elem}
use Rattle.sk_base.specs.declared.Edge.{Edge}
use Rattle.sk_base.specs.declared.Block.{Block}
use Rattle.sk_base.specs.declared.Pin.{Pin}
use Rattle.sk_base.specs.declared.Placed.{Placed}
use Rattle.sk_measure.specs.Least.{IsLeast}
use Rattle.sk_measure.specs.Holding.{IsNormal, IsMet, AreAsGiven, FallsShort}
use Rattle.sk_measure.specs.Placing.{lies}

-- the normal of a line, a constraint between two elements, or a block
pub data Item : Type 0 where
  normal : Elem → Item
  constraint : Edge → Item
  block : Block → Item

-- the two pins lie as far apart as they are given, within t
abbrev pub IsPairMet : Placed → ℕ → Pin → Pin → Type 0
IsPairMet p t a b = AreAsGiven a b (lies p a.elem) (lies p b.elem) t

-- each two of the pins do
abbrev pub ArePinsMet : Placed → List Pin → ℕ → Type 0
ArePinsMet p pins t = AllPairs (IsPairMet p t) pins

-- each of the pins and the further one lie as far apart as they are given, within t
abbrev pub AreMetWith : Placed → List Pin → Pin → ℕ → Type 0
AreMetWith p pins further t = (pin : Pin) → Contains pins pin → IsPairMet p t pin further

-- where the elements are placed the item holds within n, which is a t or a w as the item asks
abbrev pub Holds : Placed → Item → ℕ → Type 0
Holds p (normal line) n = IsNormal (lies p line) n
Holds p (constraint e) n = IsMet e.measure (lies p e.u) (lies p e.v) n
Holds p (block b) n = ArePinsMet p b.pins n

-- n is the item's own least number
abbrev pub IsOwnLeast : Placed → Item → ℕ → Type 0
IsOwnLeast p item n = IsLeast (Holds p item) n

-- the places give less than the item says; a block and a normal have no less
abbrev pub GivesLess : Placed → Item → Type 0
GivesLess p (normal line) = ⊥
GivesLess p (constraint e) = FallsShort e.measure (lies p e.u) (lies p e.v)
GivesLess p (block b) = ⊥

-- by so much the places give more than the item says: its own least number, or its negative where they give less
pub record IsOffBy (p : Placed) (item : Item) (off : ℤ) : Type 0 where
  pub size : IsOwnLeast p item (unsigned_abs off)
  pub less : (off <ℤ pos 0) ↔ GivesLess p item
