-- A name is found among the keys at the place of its element.
use Rattle.std.proofs.Common.{◌≡◌, ℕ, ◌+◌, ◌≤◌, Bool, true, false, not, ◌||◌, cond, List, [], ◌∷◌, ◌++◌, length, map, slice_get, Some, None, refl, sym, ap, ◌∙◌, arith, position, bytes_eq}
use Rattle.std.specs.List.{find, list_any, position_or_len}
use Rattle.std.proofs.lemmas.List.{length-map, map-append}
use Rattle.std.proofs.lemmas.List.Folds.{find_at}
use Rattle.std.proofs.lemmas.Option.{slice_get_past}
use Rattle.std.proofs.lemmas.Bool.Decides.{nat_tests}
use Rattle.indexmap.specs.IndexSet.{insert_key}
use Rattle.sk_base.specs.declared.Element.{Element}
use Rattle.sk_lang.specs.declared.draft.Key.{Key}
use Rattle.sk_lang.specs.Index.{key_of}

abbrev pub is_key : List ℕ → Key → Bool
is_key name key = bytes_eq name key.0

abbrev pub has_name : List ℕ → Element → Bool
has_name name element = bytes_eq name element.label

-- no key is the name where no element has it
pub no_key : (name : List ℕ) (es : List Element) → find (has_name name) es ≡ None → list_any (is_key name) (map key_of es) ≡ false
no_key name [] none = refl
no_key name (e ∷ es) none = by (has_name name e) none (no_key name es)
  where
    by : (t : Bool) → cond t (Some e) (find (has_name name) es) ≡ None → (find (has_name name) es ≡ None → list_any (is_key name) (map key_of es) ≡ false) → (t || list_any (is_key name) (map key_of es)) ≡ false
    by true is later = cc
    by false is later = later is

-- a new name goes last among the keys
pub keys_pushed : (e : Element) (es : List Element) (keys : List Key) → find (has_name e.label) es ≡ None → keys ≡ map key_of es → insert_key (λ (one other : Key). bytes_eq one.0 other.0) keys (key_of e) ≡ map key_of (es ++ e ∷ [])
keys_pushed e es keys none is =
    let absent : list_any (is_key e.label) keys ≡ false = ap (list_any (is_key e.label)) is ∙ no_key e.label es none in
    ap (λ (t : Bool). cond t keys (keys ++ key_of e ∷ [])) absent ∙ ap (λ (ks : List Key). ks ++ key_of e ∷ []) is ∙ sym (map-append key_of es (e ∷ []))

place_same : (name : List ℕ) (es : List Element) → position_or_len (is_key name) (map key_of es) ≡ position_or_len (has_name name) es
place_same name [] = refl
place_same name (e ∷ es) = ap (λ (n : ℕ). cond (not (has_name name e)) (1 + n) 0) (place_same name es)

-- at the place of the key stands the element
pub found_at : (name : List ℕ) (es : List Element) (i : ℕ) → position (is_key name) (map key_of es) ≡ Some i → slice_get es i ≡ find (has_name name) es
found_at name es i is =
    let place : i ≡ position_or_len (is_key name) (map key_of es) = grind (arith, nat_tests) in
    ap (slice_get es) (place ∙ place_same name es) ∙ sym (find_at (has_name name) es)

pub found_nowhere : (name : List ℕ) (es : List Element) → position (is_key name) (map key_of es) ≡ None → find (has_name name) es ≡ None
found_nowhere name es is =
    let past : length (map key_of es) ≤ position_or_len (is_key name) (map key_of es) = grind (arith, nat_tests) in
    let count = length-map es key_of in
    let same = place_same name es in
    find_at (has_name name) es ∙ slice_get_past es (position_or_len (has_name name) es) (omega arith)
