-- The names of clusters as words of a text.
use Rattle.std.specs.Prelude.{ℕ, Bool, false, ◌==◌, ◌||◌, List, [], ◌∷◌, Option, None, is_none, unwrap_or, if◌then◌else◌}
use Rattle.std.specs.Option.{option_map}
use Rattle.sk_base.specs.declared.Name.{Name}
use Rattle.sk_base.specs.declared.Name.TheVariants.{Con, Step}
use Rattle.sk_base.specs.ClusterNames.{is_named}
use Rattle.sk_base.specs.Millimetres.{digits_of}

abbrev pub begins_with_zero : List ℕ → Bool
begins_with_zero [] = false
begins_with_zero (b ∷ bytes) = b == 48

-- the number that one to `most` digits without a leading zero stand for, which isn't 0
abbrev pub plain_number : ℕ → List ℕ → Option ℕ
plain_number most bytes = if begins_with_zero bytes then None else digits_of most bytes

-- the name of a cluster that a word is: `c` or `s` and a number from 1 to 999999
abbrev pub cluster_named : List ℕ → Option Name
cluster_named [] = None
cluster_named (letter ∷ number) =
    if letter == 99 then option_map Con (plain_number 6 number) else
    if letter == 115 then option_map Step (plain_number 6 number) else None

-- the name, where the word is one
abbrev pub named : List ℕ → Name
named word = unwrap_or (cluster_named word) (Con 0)

-- E4: a word in a name's place isn't a name
abbrev pub is_bad_name : List ℕ → Bool
is_bad_name word = is_none (cluster_named word)

-- E10: two of the names are one
abbrev pub has_twins : List Name → Bool
has_twins [] = false
has_twins (n ∷ names) = is_named names n || has_twins names
