-- What the text behind a sketch is read as, and where it is refused.
use Rattle.std.specs.Prelude.{◌≡◌, ⊤, ℕ, ◌+◌, List, [], ◌∷◌, ◌++◌, length, None}
use Rattle.sk_lines.specs.Words.{words_in}
use Rattle.sk_lines.specs.ByteCodes.{byte_rows}
use Rattle.sk_lines.specs.FirstCode.{first_code}
use Rattle.sk_lines.specs.LineCodes.{along, HaveNone, HasFirst}
use Rattle.sk_lines.specs.Lines.{lines_in}
use Rattle.sk_lines.specs.declared.Code.{Code}
use Rattle.sk_lines.specs.declared.Code.TheVariants.{E16}
use Rattle.sk_lines.specs.declared.ReadError.{ReadError}
use Rattle.sk_lines.specs.declared.ReadError.TheVariants.{Refused, NoMemory}
use Rattle.sk_offers.specs.OfferLines.{offer_rows, IsOfferOf, word_rows, code_of, place_after_words, place_after, behind_offer, offered, AreOffersOf}
use Rattle.sk_offers.specs.declared.offer_line.OfferLine.{OfferLine}
use Rattle.sk_offers.specs.declared.offer_line.Place.{Place}
use Rattle.sk_offers.specs.declared.offer_line.Place.TheVariants.{Among, Past}
use Rattle.sk_offers.specs.declared.offer_line.SoFar.{SoFar}

-- where the lines lead
abbrev pub place_along : Place → List (List ℕ) → Place
place_along place lines = along place_after place lines

-- no line has a code, each where those before it lead
abbrev pub HaveNoCode : Place → List (List ℕ) → Type 0
HaveNoCode place lines = HaveNone code_of place_after place lines

-- the lines before this one have no code, and it has one where they lead
abbrev pub HasFirstCode : List (List ℕ) → List (List ℕ) → List ℕ → Code → Type 0
HasFirstCode lines before line code = HasFirst code_of place_after Among lines before line code

-- The text is read as the offers.
pub record ReadsOffers (bytes : List ℕ) (offers : List OfferLine) : Type 0 where
  pub clean : HaveNoCode Among (lines_in bytes)
  pub ended : place_along Among (lines_in bytes) ≡ Past
  pub in_order : AreOffersOf (offered (lines_in bytes)) offers

-- The text, before which so many lines stand, is refused, on a line and with a code.
pub data RefusesOffers (first : ℕ) (bytes : List ℕ) : ℕ → Code → Type 0 where
  AtLine : (before : List (List ℕ)) (line : List ℕ) (code : Code) → HasFirstCode (lines_in bytes) before line code
      → RefusesOffers first bytes (first + length before + 1) code
  NoEnd : HaveNoCode Among (lines_in bytes) → place_along Among (lines_in bytes) ≡ Among
      → RefusesOffers first bytes (first + length (lines_in bytes) + 1) E16

-- the error is a refusal of the text, or memory ran out
abbrev pub IsOfferRefusal : ℕ → List ℕ → ReadError → Type 0
IsOfferRefusal first bytes (Refused refusal) = RefusesOffers first bytes refusal.line refusal.code
IsOfferRefusal first bytes NoMemory = ⊤

-- The words have no code where they stand, and what they say is added.
pub record AddsWords (so_far : SoFar) (words : List (List ℕ)) (after : SoFar) : Type 0 where
  pub clean : first_code (word_rows so_far.place words) ≡ None
  pub place_is : after.place ≡ place_after_words so_far.place words
  pub more : List OfferLine
  pub added : after.offers ≡ so_far.offers ++ more
  pub said : AreOffersOf (behind_offer words) more

-- The line has no code where it stands, and what it says is added.
pub record Adds (so_far : SoFar) (line : List ℕ) (after : SoFar) : Type 0 where
  pub fine : first_code (byte_rows line) ≡ None
  pub words : AddsWords so_far (words_in line) after

-- The words behind `offer` have no code, and their offer is added.
pub record IsWithOffer (offers : List OfferLine) (rest : List (List ℕ)) (after : SoFar) : Type 0 where
  pub clean : first_code (offer_rows rest) ≡ None
  pub place_is : after.place ≡ Among
  pub offer : OfferLine
  pub added : after.offers ≡ offers ++ offer ∷ []
  pub said : IsOfferOf rest offer
