-- The places of words in their line.
use Rattle.std.proofs.Common.{ℕ, zero, suc, ◌<◌, ◌≤◌, List, [], ◌∷◌, length, get_or, arith}
use Rattle.sk_lines.specs.declared.words.Word.{Word}
use Rattle.sk_lines.specs.Words.{StandInOrder}

-- where the word at a place starts and ends
pub word_within : (from : ℕ) (words : List Word) (to : ℕ) → StandInOrder from words to → (i : ℕ) (d : Word) → i < length words → ((get_or words i d).start < (get_or words i d).end) × ((get_or words i d).end ≤ to)
word_within from [] to order i d below = absurd (omega arith)
word_within from (word ∷ []) to order zero d below = (order.1, order.2)
word_within from (word ∷ next ∷ more) to order zero d below =
    let rest = word_within word.end (next ∷ more) to order.2 0 d (omega arith) in
    let start = order.2.0 in (order.1, omega arith)
word_within from (word ∷ words) to order (suc i) d below = word_within word.end words to order.2 i d (omega arith)
