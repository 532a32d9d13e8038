-- A line without a code says one thing.
use Rattle.std.proofs.Common.{◌≡◌, ◌⊎◌, inl, inr, ℕ, List, [], ◌∷◌, Option, Some, None, sym, ◌∙◌}
use Rattle.sk_base.specs.declared.Elem.{Elem}
use Rattle.sk_base.specs.declared.ConId.{ConId}
use Rattle.sk_base.specs.declared.Sketch.{Sketch}
use Rattle.sk_lines.specs.declared.Version.{Version}
use Rattle.sk_lines.specs.declared.Keyword.{Keyword}
use Rattle.sk_entry.specs.declared.entry.Entry.{Entry}
use Rattle.sk_lines.specs.Keywords.{keyword_of}
use Rattle.sk_entry.specs.Entry.{IsOther, IsKeywordEntry, IsEntryOfWords}

-- what it says is told, or the words are those of another line
pub same_entry : (v : Version) (s : Sketch) (line : List ℕ) (ws : List (List ℕ)) (elem : Elem) (con : ConId) (x y : Entry) → IsEntryOfWords v s line ws elem con x → IsEntryOfWords v s line ws elem con y
    → (x ≡ y) ⊎ (IsOther v line x × IsOther v line y)
same_entry v s line [] elem con x y is other = inl (is ∙ sym other)
same_entry v s line (first ∷ rest) elem con x y is other = told (keyword_of v first) is other
  where
    told : (o : Option Keyword) → IsKeywordEntry v s line o rest elem con x → IsKeywordEntry v s line o rest elem con y → (x ≡ y) ⊎ (IsOther v line x × IsOther v line y)
    told None is other = inr (is, other)
    told (Some k) is other = (let same : Some x ≡ Some y = sym is ∙ other in inl (cc))
