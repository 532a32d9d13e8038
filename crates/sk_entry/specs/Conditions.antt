-- When each code of a line's words comes.
use Rattle.std.specs.Prelude.{ℕ, Bool, false, ◌&&◌, not, ◌==◌, List, [], ◌∷◌, Option, Some, None, is_some, is_none, bytes_eq}
use Rattle.std.specs.List.{list_any}
use Rattle.std.specs.Ordering.{int_eq}
use Rattle.std.specs.Option.{option_map}
use Rattle.sk_base.specs.Drawn.{radius_of, is_line}
use Rattle.sk_base.specs.Labels.{is_name}
use Rattle.sk_base.specs.Millimetres.{mm_of}
use Rattle.sk_base.specs.declared.Element.{Element}
use Rattle.sk_base.specs.declared.Sketch.{Sketch}
use Rattle.sk_lines.specs.declared.Keyword.{Keyword}
use Rattle.sk_lines.specs.declared.Keyword.TheVariants.{Line, Circle, Inside, Block}
use Rattle.sk_lines.specs.Keywords.{Place, NewName, UsedName, Coordinate, Length, Ratio, declares}
use Rattle.sk_entry.specs.Kinds.{takes}
use Rattle.sk_entry.specs.Named.{element_named}
use Rattle.sk_entry.specs.PinLines.{PinWords, pins_in, some_two}
use Rattle.sk_lines.specs.Quantities.{length_of, ratio_of, is_zero, um}

-- a word and the place that it stands in
abbrev pub Field : Type 0
Field = Place × List ℕ

-- E4: a word in a name's place isn't a name
abbrev pub has_bad_name : Field → Bool
has_bad_name (NewName, word) = not (is_name word)
has_bad_name (UsedName, word) = not (is_name word)
has_bad_name _ = false

-- E5: a declared name is in use
abbrev pub is_taken : Sketch → Field → Bool
is_taken s (NewName, word) = is_some (element_named s word)
is_taken s _ = false

-- E6: a name isn't declared
abbrev pub is_unknown : Sketch → Field → Bool
is_unknown s (UsedName, word) = is_none (element_named s word)
is_unknown s _ = false

-- E7: the kinds don't fit
abbrev pub kinds_fit : Keyword → Option Element → Option Element → Bool
kinds_fit k (Some u) (Some v) = takes k u.shape v.shape
kinds_fit k _ _ = false

abbrev pub is_drawn_line : Option Element → Bool
is_drawn_line (Some e) = is_line e.shape
is_drawn_line None = false

abbrev pub has_wrong_kinds : Sketch → Keyword → List (List ℕ) → Bool
has_wrong_kinds s Block words = list_any (λ (pin : PinWords). is_drawn_line (element_named s pin.name)) (pins_in words)
has_wrong_kinds s k (u ∷ v ∷ more) = not (declares k) && not (kinds_fit k (element_named s u) (element_named s v))
has_wrong_kinds s k _ = false

-- E8: a word in a number's place isn't one, passes its limit, or is a negative length or radius
abbrev pub is_bad_number : Field → Bool
is_bad_number (Coordinate, word) = is_none (mm_of word)
is_bad_number (Length, word) = is_none (length_of word)
is_bad_number (Ratio, word) = is_none (ratio_of word)
is_bad_number _ = false

-- E9: a length or radius is 0, p is 0, `inside` has equal radii, or a block has two equal places
abbrev pub is_zero_number : Field → Bool
is_zero_number (Length, word) = is_zero (length_of word)
is_zero_number (Ratio, word) = is_zero (option_map (λ parts. parts.0) (ratio_of word))
is_zero_number _ = false

abbrev pub radii_equal : Option Element → Option Element → Bool
radii_equal (Some u) (Some v) = int_eq (radius_of u.shape) (radius_of v.shape)
radii_equal _ _ = false

abbrev pub at_one_place : PinWords → PinWords → Bool
at_one_place a b = int_eq (um a.x).0 (um b.x).0 && int_eq (um a.y).0 (um b.y).0

abbrev pub has_equals : Sketch → Keyword → List (List ℕ) → Bool
has_equals s Inside (u ∷ v ∷ more) = radii_equal (element_named s u) (element_named s v)
has_equals s Block words = some_two at_one_place (pins_in words)
has_equals s _ _ = false

-- E10: two names are one element
abbrev pub of_one_name : PinWords → PinWords → Bool
of_one_name a b = bytes_eq a.name b.name

abbrev pub has_same_names : Keyword → List (List ℕ) → Bool
has_same_names Block words = some_two of_one_name (pins_in words)
has_same_names k (u ∷ v ∷ more) = not (declares k) && bytes_eq u v
has_same_names k _ = false

-- E11: the two drawn places of a line are equal
abbrev pub is_drawn_flat : Keyword → List (List ℕ) → Bool
is_drawn_flat Line (name ∷ x1 ∷ y1 ∷ x2 ∷ y2 ∷ []) = int_eq (um x1).0 (um x2).0 && int_eq (um y1).0 (um y2).0
is_drawn_flat _ _ = false

-- E12: a `circle` line has exactly four words, three of them behind the first
abbrev pub lacks_radius : Keyword → ℕ → Bool
lacks_radius Circle count = count == 3
lacks_radius _ count = false
