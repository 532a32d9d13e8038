-- What was read of the text behind a sketch, line by line.
use Rattle.std.proofs.Common.{◌≡◌, ℕ, ◌+◌, List, [], ◌∷◌, ◌++◌, length, Option, sym, ap, subst, ◌∙◌, append_assoc, append-nil}
use Rattle.sk_lines.specs.Words.{words_in}
use Rattle.sk_lines.proofs.FirstCodes.{code_behind}
use Rattle.sk_lines.specs.ByteCodes.{byte_rows}
use Rattle.sk_lines.specs.LineCodes.{LeadTo, IsLineRefusal}
use Rattle.sk_lines.specs.Lines.{lines_in}
use Rattle.sk_lines.specs.declared.Code.{Code}
use Rattle.sk_lines.specs.declared.Code.TheVariants.{E16}
use Rattle.sk_lines.specs.declared.ReadError.{ReadError}
use Rattle.sk_lines.specs.declared.ReadError.TheVariants.{Refused, NoMemory}
use Rattle.sk_offers.specs.OfferLines.{code_of, word_rows, behind_offer, offered, AreOffersOf}
use Rattle.sk_offers.specs.OfferReading.{place_along, HaveNoCode, HasFirstCode, ReadsOffers, RefusesOffers, AtLine, NoEnd, IsOfferRefusal, Adds}
use Rattle.sk_offers.specs.declared.offer_line.OfferLine.{OfferLine}
use Rattle.sk_offers.specs.declared.offer_line.Place.{Place}
use Rattle.sk_offers.specs.declared.offer_line.Place.TheVariants.{Among, Past}
use Rattle.sk_offers.specs.declared.offer_line.SoFar.{SoFar}

-- these offers were read, and more may come
abbrev pub among : List OfferLine → SoFar
among offers = record { place = Among; offers = offers }

-- the code of a line, where so much was read
abbrev pub code_behind_all : SoFar → List ℕ → Option Code
code_behind_all so_far line = code_of so_far.place line

pub offers_append : (ws : List (List (List ℕ))) (os : List OfferLine) (vs : List (List (List ℕ))) (ps : List OfferLine) → AreOffersOf ws os → AreOffersOf vs ps → AreOffersOf (ws ++ vs) (os ++ ps)
offers_append [] [] vs ps left right = right
offers_append [] (o ∷ os) vs ps left right = absurd left
offers_append (w ∷ ws) [] vs ps left right = absurd left
offers_append (w ∷ ws) (o ∷ os) vs ps left right = (left.0, offers_append ws os vs ps left.1 right)

-- the lines have no code, lead from place to place, and say what was added
record HaveSaid (lines : List (List ℕ)) (from to : SoFar) : Type 0 where
  clean : HaveNoCode from.place lines
  reached : place_along from.place lines ≡ to.place
  more : List OfferLine
  added : to.offers ≡ from.offers ++ more
  said : AreOffersOf (offered lines) more

all_said : (lines : List (List ℕ)) (from to : SoFar) → LeadTo Adds from lines to → HaveSaid lines from to
all_said [] from to led = record {
  clean = tt;
  reached = ap (λ (so_far : SoFar). so_far.place) (sym led);
  more = [];
  added = ap (λ (so_far : SoFar). so_far.offers) led ∙ sym (append-nil from.offers);
  said = tt;
}
all_said (line ∷ lines) from to led =
    let here = led.1 in
    let rest = all_said lines led.0 to led.2 in
    record {
      clean = (code_behind (byte_rows line) (word_rows from.place (words_in line)) here.fine ∙ here.words.clean, subst (λ (p : Place). HaveNoCode p lines) here.words.place_is rest.clean);
      reached = ap (λ (p : Place). place_along p lines) (sym here.words.place_is) ∙ rest.reached;
      more = here.words.more ++ rest.more;
      added = rest.added ∙ ap (λ (os : List OfferLine). os ++ rest.more) here.words.added ∙ append_assoc from.offers here.words.more rest.more;
      said = offers_append (behind_offer (words_in line)) here.words.more (offered lines) rest.more here.words.said rest.said;
    }

-- a line that is refused is the first with a code
pub read_refused : (first : ℕ) (bytes : List ℕ) (error : ReadError) → IsLineRefusal code_behind_all Adds (among []) first (lines_in bytes) error → IsOfferRefusal first bytes error
read_refused first bytes (Refused refusal) at =
    let before = all_said at.before (among []) at.place at.led in
    let found : HasFirstCode (lines_in bytes) at.before at.line refusal.code = record {
      after = at.after;
      parts = at.parts;
      clean = before.clean;
      code_is = ap (λ (p : Place). code_of p at.line) before.reached ∙ at.code_is;
    } in
    subst (λ (n : ℕ). RefusesOffers first bytes n refusal.code) (sym at.count) (AtLine at.before at.line refusal.code found)
read_refused first bytes NoMemory at = tt

-- no `end` has come at the end
pub read_unended : (bytes : List ℕ) (so_far : SoFar) (first number : ℕ) → LeadTo Adds (among []) (lines_in bytes) so_far → number ≡ first + length (lines_in bytes) → so_far.place ≡ Among → RefusesOffers first bytes (number + 1) E16
read_unended bytes so_far first number led count unended =
    let all = all_said (lines_in bytes) (among []) so_far led in
    subst (λ (n : ℕ). RefusesOffers first bytes (n + 1) E16) (sym count) (NoEnd all.clean (all.reached ∙ unended))

-- the `end` has come
pub read_ended : (bytes : List ℕ) (so_far : SoFar) → LeadTo Adds (among []) (lines_in bytes) so_far → so_far.place ≡ Past → ReadsOffers bytes so_far.offers
read_ended bytes so_far led ended =
    let all = all_said (lines_in bytes) (among []) so_far led in
    record { clean = all.clean; ended = all.reached ∙ ended; in_order = subst (λ (os : List OfferLine). AreOffersOf (offered (lines_in bytes)) os) (sym all.added) all.said }
