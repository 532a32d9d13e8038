-- What two lists of elements share.
use Rattle.std.specs.Prelude.{min, List, length, filter, slice_get}
use Rattle.sk_base.specs.declared.Elem.{Elem}
use Rattle.sk_base.specs.Numbering.{is_elem}
use Rattle.sk_family.specs.declared.cluster.Overlap.{Overlap}

-- those of xs that are in ys too
abbrev pub shared : List Elem → List Elem → List Elem
shared xs ys = filter (is_elem ys) xs

-- how many there are, and the first two of them
abbrev pub overlap_of : List Elem → Overlap
overlap_of both = record { count = length both; first = slice_get both 0; second = slice_get both 1 }

-- the same, with a count that stays at the greatest number of 32 bits
abbrev pub counted : List Elem → Overlap
counted both = record { count = min (length both) 4294967295; first = slice_get both 0; second = slice_get both 1 }
