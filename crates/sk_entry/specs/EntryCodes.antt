-- The codes of an entry, in their order.
use Rattle.std.specs.Prelude.{ℕ, Bool, ◌&&◌, ◌||◌, not, ◌==◌, nat_le, List, [], ◌∷◌, length}
use Rattle.std.specs.List.{list_any, zip}
use Rattle.sk_base.specs.declared.Sketch.{Sketch}
use Rattle.sk_lines.specs.declared.Keyword.{Keyword}
use Rattle.sk_lines.specs.declared.Code.{Code}
use Rattle.sk_lines.specs.declared.Code.TheVariants.{E3, E4, E5, E6, E7, E8, E9, E10, E11, E12, E13, E14}
use Rattle.sk_lines.specs.Keywords.{places, declares}
use Rattle.sk_entry.specs.Conditions.{has_bad_name, is_taken, is_unknown, has_wrong_kinds, is_bad_number, is_zero_number, has_equals, has_same_names, is_drawn_flat, lacks_radius}

-- the codes of an entry, in their order, by its first word and the words behind it
abbrev pub entry_rows : Sketch → Keyword → List (List ℕ) → List (Bool × Code)
entry_rows s k rest =
    let fields = zip (places k (length rest)) rest in
    (lacks_radius k (length rest), E12) ∷
    (not (length rest == length (places k (length rest))), E3) ∷
    (list_any has_bad_name fields, E4) ∷
    (list_any (is_taken s) fields, E5) ∷
    (list_any (is_unknown s) fields, E6) ∷
    (has_wrong_kinds s k rest, E7) ∷
    (list_any is_bad_number fields, E8) ∷
    (list_any is_zero_number fields || has_equals s k rest, E9) ∷
    (has_same_names k rest, E10) ∷
    (is_drawn_flat k rest, E11) ∷
    (declares k && nat_le 2000 (length s.elements), E13) ∷
    (not (declares k) && nat_le 4000 (length s.constraints), E14) ∷ []
