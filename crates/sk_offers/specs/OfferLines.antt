-- What a line behind a sketch says, and its codes.
use Rattle.std.specs.Prelude.{◌≡◌, ◌≤◌, ⊤, ℕ, Bool, true, ◌&&◌, not, ◌==◌, List, [], ◌∷◌, ◌++◌, length, map, Option, Some, is_none, codes, bytes_eq, if◌then◌else◌}
use Rattle.std.specs.List.{list_any}
use Rattle.sk_base.specs.Millimetres.{at_most}
use Rattle.sk_lines.specs.Words.{words_in}
pub use Rattle.sk_lines.specs.ClusterWords.{begins_with_zero, plain_number, cluster_named, named, is_bad_name, has_twins}
pub use Rattle.sk_lines.specs.EndLine.{end_rows}
use Rattle.sk_lines.specs.ByteCodes.{byte_rows}
use Rattle.sk_lines.specs.FirstCode.{first_code}
use Rattle.sk_lines.specs.declared.Code.{Code}
use Rattle.sk_lines.specs.declared.Code.TheVariants.{E3, E4, E8, E10, E17}
use Rattle.sk_offers.specs.declared.offer_line.OfferLine.{OfferLine}
use Rattle.sk_offers.specs.declared.offer_line.Place.{Place}
use Rattle.sk_offers.specs.declared.offer_line.Place.TheVariants.{Among, Past}
use Rattle.sk_family.specs.Merges.{IsMergeOf, Falls}

-- the worker that a word is, from 1 to 64
abbrev pub worker_of : List ℕ → Option ℕ
worker_of word = at_most 64 (plain_number 2 word)

-- the codes of the words behind `offer`, in their order
abbrev pub offer_rows : List (List ℕ) → List (Bool × Code)
offer_rows [] = (true, E3) ∷ []
offer_rows (worker ∷ names) =
    (not (length names == 2) && not (length names == 3), E3) ∷
    (is_none (worker_of worker), E8) ∷
    (list_any is_bad_name names, E4) ∷
    (has_twins (map named names), E10) ∷ []

-- the codes of a line with words
abbrev pub word_rows : Place → List (List ℕ) → List (Bool × Code)
word_rows place [] = []
word_rows Among (first ∷ rest) = if bytes_eq first (codes "offer") then offer_rows rest else end_rows first rest
word_rows Past (first ∷ rest) = (true, E17) ∷ []

-- the code of a line
abbrev pub code_of : Place → List ℕ → Option Code
code_of place line = first_code (byte_rows line ++ word_rows place (words_in line))

abbrev pub place_after_words : Place → List (List ℕ) → Place
place_after_words place [] = place
place_after_words Among (first ∷ rest) = if bytes_eq first (codes "offer") then Among else Past
place_after_words Past (first ∷ rest) = Past

-- where the line behind a line without a code stands
abbrev pub place_after : Place → List ℕ → Place
place_after place line = place_after_words place (words_in line)

-- what the words behind `offer` say: the worker, and the merge of the names
abbrev pub IsOfferOf : List (List ℕ) → OfferLine → Type 0
IsOfferOf [] offer = ⊥
IsOfferOf (worker ∷ names) offer = (worker_of worker ≡ Some offer.worker) × IsMergeOf (map named names) offer.merge

-- the worker and the merge are such as a board takes
abbrev pub FitsBoard : OfferLine → Type 0
FitsBoard o = (1 ≤ o.worker) × (o.worker ≤ 64) × Falls o.merge

-- the same as `IsOfferOf`, one by one
abbrev pub AreOffersOf : List (List (List ℕ)) → List OfferLine → Type 0
AreOffersOf [] [] = ⊤
AreOffersOf [] (offer ∷ offers) = ⊥
AreOffersOf (words ∷ more) [] = ⊥
AreOffersOf (words ∷ more) (offer ∷ offers) = IsOfferOf words offer × AreOffersOf more offers

-- the words behind `offer`, of a line that begins with it
abbrev pub behind_offer : List (List ℕ) → List (List (List ℕ))
behind_offer [] = []
behind_offer (first ∷ rest) = if bytes_eq first (codes "offer") then rest ∷ [] else []

-- and of each such line
abbrev pub offered : List (List ℕ) → List (List (List ℕ))
offered [] = []
offered (line ∷ lines) = behind_offer (words_in line) ++ offered lines
