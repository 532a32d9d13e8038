-- Why a call ends as it does: the sketch that it is about, its plan, and where the plan places the elements.
use Rattle.std.specs.Prelude.{◌≡◌, ◌≢◌, ◌⊎◌, ◌<◌, ℕ, List, [], length, Contains, Bool, true, false, Ok, Err}
use Rattle.sk_base.specs.declared.Name.{Name}
use Rattle.sk_base.specs.declared.Placed.{Placed}
use Rattle.sk_base.specs.declared.Sketch.{Sketch}
use Rattle.sk_lines.specs.declared.Refusal.{Refusal}
use Rattle.sk_lang.specs.declared.Front.{Front}
use Rattle.sk_lang.specs.Front.{ReadsFront}
use Rattle.sk_lang.specs.Reading.{Reads, Refuses}
use Rattle.sk_graph.specs.SketchGraph.{graph_of}
use Rattle.sk_gen.specs.DatumSketch.{datum_sketch}
use Rattle.sk_tree.specs.declared.Plan.{Plan as ThePlan}
use Rattle.sk_plan.specs.PlanBy.{IsPlanBy}
use Rattle.sk_place.specs.declared.BoxAt.{BoxAt}
use Rattle.sk_place.specs.declared.BoxFault.{BoxFault}
use Rattle.sk_place.specs.declared.StepFault.{StepFault}
use Rattle.sk_solve.specs.Placements.{IsCarried, IsLaid}
use Rattle.sk_place.specs.declared.PlaceError.TheVariants as errors
use Rattle.sk_place.specs.Placing.{IsPlaced}
use Rattle.sk_tolerance.specs.declared.Turned.{Turned}
use Rattle.sk_measure.specs.Items.{Item}
use Rattle.sk_tolerance.specs.Tolerances.{AllHold, IsAbove, everything}
use Rattle.sk_tolerance.specs.Turns.{signs, IsTurned}
use Rattle.sk_request.specs.declared.Command.{Command}
use Rattle.sk_request.specs.declared.Command.TheVariants.{Tell, Plan, Solve, Dxf, Offers, Session, Grow, Verify, Flips, Live, Complete, Measure}
use Rattle.sk_request.specs.declared.Request.{Request}
use Rattle.sk_cli.specs.declared.Report.{Report}
use Rattle.sk_cli.specs.declared.Report.TheVariants.{Places, Drawing, Sums}
use Rattle.sk_request.specs.Grids.{grid_of, digits_of}
use Rattle.sk_cli.specs.FlipsReport.{ReadsSketchAndFlips, RefusesFlipsBehind}
use Rattle.sk_answers.specs.Fronts.{IsRefusedAt}
use Rattle.sk_cli.specs.LiveAnswer.{RepliesInTime}
use Rattle.sk_cli.specs.SessionAnswer.{EndsSession}
use Rattle.sk_live_lines.specs.Answering.{HasEnded}
use Rattle.sk_answers.specs.MeasureAnswer.{RefusesPlacesBehind}
use Rattle.sk_answers.specs.OffersReport.{RefusesOffersBehind}
use Rattle.sk_cli.specs.Solving.{midpoints}
use Rattle.sk_answers.specs.VerifyAnswer.{RefusesClaimBehind}

-- it plans a sketch
abbrev pub plans : Command → Bool
plans (Tell account) = false
plans Plan = true
plans Solve = true
plans Dxf = true
plans Offers = false
plans Session = false
plans (Grow n) = true
plans Verify = false
plans Flips = true
plans Live = false
plans Complete = false
plans Measure = false

-- it ends as the plan of a sketch is placed
abbrev pub solves : Command → Bool
solves (Tell account) = false
solves Plan = false
solves Solve = true
solves Dxf = true
solves Offers = false
solves Session = false
solves (Grow n) = true
solves Verify = false
solves Flips = false
solves Live = false
solves Complete = false
solves Measure = false

-- the report that a command writes where it places all elements
abbrev pub IsReportOf : Command → Report → Type 0
IsReportOf Solve Places = Unit {0}
IsReportOf Dxf Drawing = Unit {0}
IsReportOf (Grow n) Sums = Unit {0}
IsReportOf command report = ⊥

-- the sketch that a command is about: the one that it makes, or what its input, or the front of it, is read as; of `flips`
-- only where the flips behind it are read too. A session is about no one sketch, nor is `live`.
abbrev pub IsSketchOf : Command → Request → List ℕ → Sketch → Type 0
IsSketchOf (Grow n) request bytes s = s ≡ datum_sketch n
IsSketchOf Offers request bytes s = (front : Front) × ReadsFront bytes front × (s ≡ front.sketch)
IsSketchOf Verify request bytes s = (front : Front) × ReadsFront bytes front × (s ≡ front.sketch)
IsSketchOf Measure request bytes s = (front : Front) × ReadsFront bytes front × (s ≡ front.sketch)
IsSketchOf Flips request bytes s = (front : Front) × (lists : List (List Name)) × ReadsSketchAndFlips bytes front lists × (s ≡ front.sketch)
IsSketchOf Session request bytes s = ⊥
IsSketchOf Live request bytes s = ⊥
IsSketchOf command request bytes s = Reads bytes s

-- a line in time ends the session
abbrev pub EndsInTime : Request → List ℕ → Type 0
EndsInTime request bytes = (text : List ℕ) × ((front : RepliesInTime request bytes text) × (front.after ≢ []) × HasEnded EndsSession front.state front.after)

-- the input of a command is refused; that of a session only where it is too long, that of `live` only where besides no line in time ends it
abbrev pub IsRefusedInput : Command → Request → List ℕ → Type 0
IsRefusedInput Offers request bytes = (r : Refusal) × IsRefusedAt RefusesOffersBehind bytes r
IsRefusedInput Flips request bytes = (r : Refusal) × IsRefusedAt RefusesFlipsBehind bytes r
IsRefusedInput Verify request bytes = (r : Refusal) × IsRefusedAt RefusesClaimBehind bytes r
IsRefusedInput Measure request bytes = (r : Refusal) × IsRefusedAt RefusesPlacesBehind bytes r
IsRefusedInput Session request bytes = 1048576 < length bytes
IsRefusedInput Live request bytes = (4294967295 < length bytes) × ¬ EndsInTime request bytes
IsRefusedInput (Grow n) request bytes = ⊥
IsRefusedInput command request bytes = (r : Refusal) × Refuses bytes r.line r.code

module _ (request : Request) (s : Sketch) where
  -- this is the plan by the order that is asked for
  abbrev pub IsItsPlan : ThePlan → Type 0
  IsItsPlan p = IsPlanBy request.order s p

  -- this step of the plan has no boxes on the grid
  abbrev pub IsFaultAt : ThePlan → StepFault → Type 0
  IsFaultAt p f = IsPlaced {G = grid_of request.bits} request.layout.by (digits_of request.bits) (graph_of s) p (Err (errors.Fault f))

  -- each step has boxes on the grid, and this is the first of them that can't be carried to the drawing
  abbrev pub IsOff : ThePlan → BoxFault → Type 0
  IsOff p f = (boxes : List (BoxAt (grid_of request.bits))) × IsPlaced request.layout.by (digits_of request.bits) (graph_of s) p (Ok boxes) × IsCarried request.layout.frame request.layout.by (digits_of request.bits) s p boxes (Err f)

  -- some step of the plan has no boxes on the grid, or some box can't be carried to the drawing
  abbrev pub HasFault : ThePlan → Type 0
  HasFault p = ((f : StepFault) × IsFaultAt p f) ⊎ ((f : BoxFault) × IsOff p f)

  -- each step has boxes on the grid, and there the elements lie, in the frame that is asked for
  abbrev pub LieAt : ThePlan → Placed → Type 0
  LieAt p at = (boxes : List (BoxAt (grid_of request.bits))) × IsLaid request.layout (digits_of request.bits) s p boxes × (at ≡ midpoints (digits_of request.bits) boxes)

  -- no line and no constraint has a least number above the limit
  abbrev pub NonePasses : Placed → Type 0
  NonePasses at = AllHold at (everything (graph_of s)) request.within

  -- the least number of some line or constraint is above the limit
  abbrev pub SomePasses : Placed → Type 0
  SomePasses at = (item : Item) × Contains (everything (graph_of s)) item × IsAbove at request.within item

  -- some sign isn't placed as it is drawn
  abbrev pub SomeTurned : ThePlan → Placed → Type 0
  SomeTurned p at = (sign : Turned) × Contains (signs s at p) sign × IsTurned sign
