-- What a name is.
use Rattle.std.proofs.Common.{◌≡◌, ℕ, ◌≤◌, true, ◌&&◌, List, [], ◌∷◌, length, nat_le, arith}
use Rattle.std.specs.List.{list_all}
use Rattle.std.specs.Char.{is_ascii_alphabetic}
use Rattle.std.proofs.lemmas.Bool.{and_parts}
use Rattle.std.proofs.lemmas.Bool.Decides.{nat_tests}
use Rattle.sk_base.specs.Labels.{is_name, is_name_byte}

pub is_name_short : (bytes : List ℕ) → is_name bytes ≡ true → length bytes ≤ 16
is_name_short [] is = omega arith
is_name_short (b ∷ bytes) is =
    let outer = and_parts (is_ascii_alphabetic b && nat_le (length bytes) 15) (list_all is_name_byte bytes) is in
    let short = (and_parts (is_ascii_alphabetic b) (nat_le (length bytes) 15) outer.0).1 in grind (arith, nat_tests)
