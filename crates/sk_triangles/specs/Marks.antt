-- Some elements, as a mark at the place of each.
use Rattle.std.specs.Prelude.{◌≡◌, ◌≢◌, Bool, true, List, Some, Contains, slice_get}
use Rattle.sk_base.specs.declared.Elem.{Elem}

abbrev pub IsMarked : List Bool → Elem → Type 0
IsMarked marks e = slice_get marks e.0 ≡ Some true

-- c can be the third corner of a triangle beside a and b, where the lines are marked
abbrev pub IsThird : List Bool → Elem → Elem → Elem → Type 0
IsThird lines a b c = (c ≢ a) × (c ≢ b) × ¬ (IsMarked lines a × IsMarked lines b × IsMarked lines c)

-- some element that is in both can
abbrev pub IsThirdIn : List Bool → Elem → Elem → List Elem → List Elem → Type 0
IsThirdIn lines a b xs zs = (c : Elem) × Contains xs c × Contains zs c × IsThird lines a b c
