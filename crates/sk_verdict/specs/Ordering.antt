-- Parts in order of their lists of elements.
use Rattle.std.specs.Prelude.{List, AllPairs}
use Rattle.sk_base.specs.ElementOrder.{ElementsBefore}
use Rattle.sk_verdict.specs.declared.part.Part.{Part}

abbrev pub PartBefore : Part → Part → Type 0
PartBefore p q = ElementsBefore p.elements q.elements

-- each part comes before all later ones
abbrev pub AreInOrder : List Part → Type 0
AreInOrder parts = AllPairs PartBefore parts
