-- Places that are read fit the graph of their sketch.
use Rattle.std.proofs.Common.{◌≡◌, ℕ, List, [], ◌∷◌, Option, Some, None, refl, sym, subst, arith}
use Rattle.sk_base.specs.declared.Sketch.{Sketch}
use Rattle.sk_base.specs.SoundSketch.{IsSoundSketch}
use Rattle.sk_graph.specs.SketchGraph.{graph_of}
use Rattle.sk_lines.specs.ByteCodes.{byte_rows}
use Rattle.sk_lines.specs.FirstCode.{first_code}
use Rattle.sk_lines.specs.Lines.{lines_in}
use Rattle.sk_lines.specs.LineCodes.{along, HaveNone}
use Rattle.sk_lines.specs.Words.{words_in}
use Rattle.sk_lines.proofs.FirstCodes.{none_behind}
use Rattle.sk_claims.specs.declared.claim.Claim.{Claim}
use Rattle.sk_claims.specs.declared.claim_line.SoFar.{SoFar}
use Rattle.sk_claims.specs.declared.first_word.Figure.{Figure}
use Rattle.sk_claims.specs.declared.place_line.PlacesSoFar.{PlacesSoFar}
use Rattle.sk_claims.specs.declared.place_line.Stage.{Stage}
use Rattle.sk_claims.specs.declared.place_line.Stage.TheVariants.{Among, Past}
use Rattle.sk_claims.specs.Claims.{IsFitting, TellsCircles}
use Rattle.sk_claims.specs.ClaimLines.{figure_of}
use Rattle.sk_claims.specs.ClaimReading.{IsClaimOf}
use Rattle.sk_claims.specs.PlaceLines.{placing_rows, rows_at, word_rows, code_of, placed_with, read_at, with_line}
use Rattle.sk_claims.specs.PlaceReading.{nothing_yet, said_by, places_claimed, ReadsPlaces}
use Rattle.sk_claims.proofs.FittingClaims.{Fits, fits_first, fits_place, fitting, telling}

fits_placed : (s : Sketch) (c : SoFar) → Fits s c → (o : Option Figure) (first : List ℕ) (rest : List (List ℕ)) → first_code (placing_rows s c o first rest) ≡ None → Fits s (placed_with s c o rest).claim
fits_placed s c fits (Some kind) first rest clean = fits_place s c fits kind rest clean
fits_placed s c fits None first rest clean = fits

fits_at : (s : Sketch) (stage : Stage) (c : SoFar) → Fits s c → (words : List (List ℕ)) → first_code (rows_at s stage c words) ≡ None → Fits s (read_at s stage c words).claim
fits_at s stage c fits [] clean = fits
fits_at s Among c fits (first ∷ rest) clean = fits_placed s c fits (figure_of first) first rest clean
fits_at s Past c fits (first ∷ rest) clean = fits

-- line by line
fits_along : (s : Sketch) (lines : List (List ℕ)) (so_far : PlacesSoFar) → Fits s so_far.claim → HaveNone (code_of s) (with_line s) so_far lines → Fits s (along (with_line s) so_far lines).claim
fits_along s [] so_far fits clean = fits
fits_along s (line ∷ lines) so_far fits clean =
    fits_along s lines (with_line s so_far line) (fits_at s so_far.stage so_far.claim fits (words_in line) (none_behind (byte_rows line) (word_rows s so_far (words_in line)) clean.0)) clean.1

-- what was read, with no step and no tolerance
abbrev whole : SoFar → SoFar
whole c = record { steps = []; at = c.at; radii = c.radii; tolerances = Some (record { t = 0; w = 0 }) }

fits_whole : (s : Sketch) (c : SoFar) → Fits s c → Fits s (whole c)
fits_whole s c fits = record {
  spots = fits.spots;
  spots_differ = fits.spots_differ;
  radii_placed = fits.radii_placed;
  radii_differ = fits.radii_differ;
  circles = fits.circles;
  told = fits.told;
  bounded = (omega arith, omega arith);
}

is_whole : (c : SoFar) → IsClaimOf (whole c) (places_claimed c)
is_whole c = record { steps = refl; at = refl; radii = refl; tolerances = refl }

fits_read : (s : Sketch) (bytes : List ℕ) (claim : Claim) → ReadsPlaces s bytes claim → Fits s (whole (said_by s (lines_in bytes)).claim)
fits_read s bytes claim reads = fits_whole s (said_by s (lines_in bytes)).claim (fits_along s (lines_in bytes) nothing_yet (fits_first s) reads.clean)

-- the places fit the graph
pub read_places_fit : (s : Sketch) (bytes : List ℕ) (claim : Claim) → ReadsPlaces s bytes claim → IsFitting (graph_of s) claim
read_places_fit s bytes claim reads =
    let c = (said_by s (lines_in bytes)).claim in
    subst (IsFitting (graph_of s)) (sym reads.said) (fitting s (whole c) (places_claimed c) (fits_read s bytes claim reads) (is_whole c))

-- the radii are those of the circles that are placed
pub read_places_tell : (s : Sketch) (bytes : List ℕ) (claim : Claim) → IsSoundSketch s → ReadsPlaces s bytes claim → TellsCircles s claim
read_places_tell s bytes claim sound reads =
    let c = (said_by s (lines_in bytes)).claim in
    subst (TellsCircles s) (sym reads.said) (telling s (whole c) (fits_read s bytes claim reads) sound (places_claimed c) (is_whole c))
