-- A block's line is read by its pins.
use Rattle.std.proofs.Common.{◌≡◌, ℕ, ◌-◌, ◌≤◌, false, not, nat_eq, List, [], ◌∷◌, length, map, take, drop, Option, Some, None, refl, sym, ap, subst, ◌∙◌, arith}
use Rattle.std.proofs.lemmas.Bool.Decides.{nat_tests}
use Rattle.std.proofs.lemmas.List.{take_all}
use Rattle.sk_base.specs.declared.Elem.{Elem}
use Rattle.sk_base.specs.declared.ConId.{ConId}
use Rattle.sk_base.specs.declared.Constraint.{Constraint}
use Rattle.sk_base.specs.declared.Sketch.{Sketch}
use Rattle.sk_lines.specs.declared.Word.{Word}
use Rattle.sk_lines.specs.Words.{StandInOrder}
use Rattle.sk_lines.specs.declared.Code.{Code}
use Rattle.sk_entry.specs.declared.entry.Entry.TheVariants as entry
use Rattle.sk_lines.specs.declared.EntryError.{EntryError}
use Rattle.sk_lines.specs.declared.Keyword.TheVariants.{Block}
use Rattle.sk_entry.specs.EntryCodes.{entry_rows}
use Rattle.sk_lines.specs.Refusals.{IsRefusal}
use Rattle.sk_lines.specs.FirstCode.{first_code}
use Rattle.sk_lines.specs.Keywords.{places}
use Rattle.sk_entry.specs.Meaning.{entry_made}
use Rattle.sk_entry.specs.PinCodes.{pin_rows, block_told}
use Rattle.sk_entry.specs.PinLines.{pins_in}
use Rattle.sk_entry.proofs.PinTests.{pins_code, block_same}

-- the words behind the first
pub words_behind : (bytes : Word → List ℕ) (words : List Word) → map bytes (take (length words - 1) (drop 1 words)) ≡ drop 1 (map bytes words)
words_behind bytes [] = refl
words_behind bytes (word ∷ words) = ap (map bytes) (take_all (length (word ∷ words) - 1) words (omega arith))

earlier : (from at : ℕ) (words : List Word) (to : ℕ) → StandInOrder at words to → from ≤ at → StandInOrder from words to
earlier from at [] to order before = omega arith
earlier from at (word ∷ words) to order before = (let start = order.0 in omega arith, order.1, order.2)

pub order_behind : (words : List Word) (to : ℕ) → StandInOrder 0 words to → StandInOrder 0 (take (length words - 1) (drop 1 words)) to
order_behind [] to order = order
order_behind (word ∷ words) to order = subst (λ (ws : List Word). StandInOrder 0 ws to) (sym (take_all (length (word ∷ words) - 1) words (omega arith))) (earlier 0 word.end words to order.2 (omega arith))

counted : (n : ℕ) (rest : List (List ℕ)) → n ≡ length rest → n ≡ length (places Block n) → not (nat_eq (length rest) (length (places Block (length rest)))) ≡ false
counted n rest is count = subst (λ (m : ℕ). not (nat_eq m (length (places Block m))) ≡ false) is (let same = count in grind (arith, nat_tests))

made : (s : Sketch) (elem : Elem) (con : ConId) (rest : List (List ℕ)) (block : Constraint) → not (nat_eq (length rest) (length (places Block (length rest)))) ≡ false → block ≡ block_told s con (pins_in rest) → entry_made s Block rest elem con ≡ Some (entry.Constraint block)
made s elem con [] block count is = cc
made s elem con (first ∷ rest) block count is = ap (λ (c : Constraint). Some (entry.Constraint c)) (sym (is ∙ block_same s con (pins_in (first ∷ rest))))

pub block_read : (s : Sketch) (elem : Elem) (con : ConId) (n : ℕ) (bytes : Word → List ℕ) (words : List Word) (block : Constraint) → n ≡ length (drop 1 (map bytes words)) → n ≡ length (places Block n)
    → (let pins = pins_in (map bytes (take (length words - 1) (drop 1 words))) in (first_code (pin_rows s pins) ≡ None) × (block ≡ block_told s con pins))
    → (first_code (entry_rows s Block (drop 1 (map bytes words))) ≡ None) × (entry_made s Block (drop 1 (map bytes words)) elem con ≡ Some (entry.Constraint block))
block_read s elem con n bytes words block is count read =
    let rest = drop 1 (map bytes words) in
    let fine = counted n rest is count in
    let told = subst (λ (ws : List (List ℕ)). (first_code (pin_rows s (pins_in ws)) ≡ None) × (block ≡ block_told s con (pins_in ws))) (words_behind bytes words) read in
    (pins_code s rest fine ∙ told.0, made s elem con rest block fine told.1)

pub block_refused : (s : Sketch) (n : ℕ) (bytes : Word → List ℕ) (words : List Word) (error : EntryError) → n ≡ length (drop 1 (map bytes words)) → n ≡ length (places Block n)
    → IsRefusal (first_code (pin_rows s (pins_in (map bytes (take (length words - 1) (drop 1 words)))))) error → IsRefusal (first_code (entry_rows s Block (drop 1 (map bytes words)))) error
block_refused s n bytes words error is count refused =
    let rest = drop 1 (map bytes words) in
    let told = subst (λ (ws : List (List ℕ)). IsRefusal (first_code (pin_rows s (pins_in ws))) error) (words_behind bytes words) refused in
    subst (λ (code : Option Code). IsRefusal code error) (sym (pins_code s rest (counted n rest is count))) told
