-- Entries, by the words behind the first.
use Rattle.std.proofs.Common.{◌≡◌, ℕ, ◌-◌, true, false, List, length, map, drop, Option, Some, None, MatchResult, refl, sym, arith, nat_eq, length-drop}
use Rattle.std.proofs.lemmas.List.{length-map}
use Rattle.sk_base.specs.declared.Element.{Element}
use Rattle.sk_base.specs.declared.Constraint.{Constraint}
use Rattle.sk_base.specs.declared.Sketch.{Sketch}
use Rattle.sk_lines.specs.declared.words.Word.{Word}
use Rattle.sk_lines.specs.Words.{bytes_of}
use Rattle.sk_lines.specs.declared.Code.{Code}
use Rattle.sk_lines.specs.declared.Code.TheVariants.{E3, E12}
use Rattle.std.proofs.lemmas.Bool.Decides.{nat_tests}
use Rattle.sk_lines.specs.declared.Keyword.{Keyword}
use Rattle.sk_entry.specs.declared.entry.Entry.{Entry}
use Rattle.sk_entry.specs.declared.entry.Entry.TheVariants as entry
use Rattle.sk_lines.specs.Keywords.{places}
use Rattle.sk_entry.specs.Conditions.{lacks_radius}
use Rattle.sk_entry.specs.EntryCodes.{entry_rows}
use Rattle.sk_lines.specs.FirstCode.{first_code, unless}
use Rattle.sk_entry.specs.Entry.{told}
use Rattle.sk_lines.specs.Refusals.{IsRefusal}

pub element_reading : (code : Option Code) (e : Element) (made : Option Entry) → made ≡ Some (entry.Element e) → MatchResult (told entry.Element (unless code e)) (λ en. (code ≡ None) × (made ≡ Some en)) (IsRefusal code)
element_reading None e made is = (refl, is)
element_reading (Some c) e made is = refl

pub constraint_reading : (code : Option Code) (e : Constraint) (made : Option Entry) → made ≡ Some (entry.Constraint e) → MatchResult (told entry.Constraint (unless code e)) (λ en. (code ≡ None) × (made ≡ Some en)) (IsRefusal code)
constraint_reading None e made is = (refl, is)
constraint_reading (Some c) e made is = refl

pub wrong_count : (s : Sketch) (k : Keyword) (rest : List (List ℕ)) (count : ℕ) → count ≡ length rest → lacks_radius k count ≡ false → (count ≡ length (places k count) → ⊥) → first_code (entry_rows s k rest) ≡ Some E3
wrong_count s k rest count is radius other =
    let longer : nat_eq (length rest) (length (places k (length rest))) ≡ false = rw (← is) (grind (arith, nat_tests)) in
    let fine : lacks_radius k (length rest) ≡ false = rw (← is) radius in
    rw (fine, longer) refl

pub early_circle : (s : Sketch) (k : Keyword) (rest : List (List ℕ)) (count : ℕ) → count ≡ length rest → lacks_radius k count ≡ true → first_code (entry_rows s k rest) ≡ Some E12
early_circle s k rest count is radius =
    let early : lacks_radius k (length rest) ≡ true = rw (← is) radius in rw early refl

pub length_rest : (line : List ℕ) (words : List Word) → length words - 1 ≡ length (drop 1 (map (bytes_of line) words))
length_rest line words = sym (rw (length-drop, length-map) refl)
