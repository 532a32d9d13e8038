-- What is measured where boxes have their midpoints.
use Rattle.std.proofs.Common.{◌≡◌, ℕ, List, [], ◌∷◌, map, refl, sym, subst, ap, ◌∙◌}
use Rattle.std.specs.Prelude.{All, Result, Ok, Err, IfOk}
use Rattle.std.proofs.lemmas.List.Elements.{All-head, All-tail}
use Rattle.sk_base.specs.declared.Graph.{Graph}
use Rattle.sk_base.specs.declared.NoMemory.{NoMemory}
use Rattle.sk_base.specs.declared.Node.{Node}
use Rattle.sk_base.specs.declared.Placed.{Placed}
use Rattle.sk_base.specs.declared.Sketch.{Sketch}
use Rattle.sk_base.specs.declared.Spot.{Spot}
use Rattle.sk_base.specs.Places.{IsBounded}
use Rattle.sk_graph.specs.SketchGraph.{graph_of}
use Rattle.sk_tree.specs.declared.Plan.{Plan}
use Rattle.sk_steps.specs.declared.BoxOf.{BoxOf}
use Rattle.sk_steps.specs.declared.BoxOf.TheVariants.{Point, Line}
use Rattle.sk_steps.specs.Boxes.{kind_of}
use Rattle.sk_place.specs.declared.Layout.{Layout}
use Rattle.sk_place.specs.declared.BoxAt.{BoxAt}
use Rattle.sk_place.specs.declared.BoxFault.{BoxFault}
use Rattle.sk_place.specs.declared.PlaceBy.{PlaceBy}
use Rattle.sk_place.specs.declared.MoveError.{MoveError}
use Rattle.sk_place.specs.declared.MoveError.TheVariants as moving
use Rattle.sk_place.specs.Carrying.{carried_each, AnswersMove}
use Rattle.sk_steps.specs.declared.Motion.{Motion}
use Rattle.sk_frame.specs.declared.Frame.{Frame}
use Rattle.sk_place.specs.declared.FrameBy.TheVariants.{Drawn}
use Rattle.sk_frame.specs.Frames.{frame_of}
use Rattle.sk_frame.specs.FrameMotions.{frame_motion}
use Rattle.sk_place.specs.Clusters.{nodes_of}
use Rattle.sk_place.specs.Placing.{IsPlaced}
use Rattle.sk_place.specs.Rounding.{rounded, rounded_box}
use Rattle.sk_tolerance.specs.declared.Wanted.{Wanted}
use Rattle.sk_measure.specs.Placing.{HasKind, AreSpotsOf}
use Rattle.sk_solve.specs.declared.placing.Placement.{Placement}
use Rattle.sk_solve.specs.declared.placing.Placement.TheVariants.{Fault, Uncarried, Beyond, Turned, Holds}
use Rattle.sk_solve.specs.Placements.{midpoints, IsCarried, AnswersCarried, IsLaid, IsMeasured, IsPlacement, LiesWithinBounds}

kept_kind : {G : Type 0} (F : ℕ) (b : BoxOf G) → HasKind (kind_of b) (rounded_box F b)
kept_kind F (Point x y) = tt
kept_kind F (Line a b c) = tt

-- the midpoints of boxes are spots of the boxes' nodes
pub spots_of : {G : Type 0} (F : ℕ) (bs : List (BoxAt G)) → All (λ (spot : Spot). IsBounded spot.at) (map (rounded F) bs) → AreSpotsOf (nodes_of bs) (map (rounded F) bs)
spots_of F [] bounded = tt
spots_of F (b ∷ bs) bounded = (
  record {
    elem = refl;
    has_kind = kept_kind F b.at;
    bounded = All-head (λ (spot : Spot). IsBounded spot.at) (rounded F b) (map (rounded F) bs) bounded;
  },
  spots_of F bs (All-tail (λ (spot : Spot). IsBounded spot.at) (rounded F b) (map (rounded F) bs) bounded),
)

pub spots_made : {G : Type 0} (F : ℕ) (bs : List (BoxAt G)) (nodes : List Node) (spots : List Spot) → nodes_of bs ≡ nodes → spots ≡ map (rounded F) bs → All (λ (spot : Spot). IsBounded spot.at) spots → AreSpotsOf nodes spots
spots_made F bs nodes spots nodes_are spots_are bounded =
    subst (λ ns. AreSpotsOf ns spots) nodes_are (subst (λ ss. AreSpotsOf (nodes_of bs) ss) (sym spots_are)
    (spots_of F bs (subst (λ ss. All (λ (spot : Spot). IsBounded spot.at) ss) spots_are bounded)))

pub measured_there : (wanted : Wanted) (G : Type 0) (placing : Layout) (F limit : ℕ) (s : Sketch) (p : Plan) (boxes : List (BoxAt G)) (placement : Placement) → IsLaid placing F s p boxes
    → IsMeasured wanted limit s p (midpoints F boxes) placement → IsPlacement wanted G placing F limit s p placement
measured_there wanted G placing F limit s p boxes (Fault f) placed measured = absurd measured
measured_there wanted G placing F limit s p boxes (Uncarried f) placed measured = absurd measured
measured_there wanted G placing F limit s p boxes (Beyond b) placed measured = (boxes, placed, measured)
measured_there wanted G placing F limit s p boxes (Turned t) placed measured = (boxes, placed, measured)
measured_there wanted G placing F limit s p boxes (Holds at t) placed measured = (boxes, placed, measured)

pub placement_of : (wanted : Wanted) (G : Type 0) (placing : Layout) (F limit : ℕ) (s : Sketch) (p : Plan) (g : Graph) (boxes there : List (BoxAt G)) (at : Placed) (placement : Placement) → g ≡ graph_of s → IsPlaced placing.by F g p (Ok boxes)
    → IsCarried placing.frame placing.by F s p boxes (Ok there) → at.spots ≡ map (rounded F) there → IsMeasured wanted limit s p at placement → IsPlacement wanted G placing F limit s p placement
placement_of wanted G placing F limit s p g boxes there at placement graph placed carried spots measured =
    let make : List Spot → Placed = λ ss. record { spots = ss } in
    measured_there wanted G placing F limit s p there placement (boxes, subst (λ h. IsPlaced placing.by F h p (Ok boxes)) graph placed, carried)
    (subst (λ here. IsMeasured wanted limit s p here placement) (ap make spots) measured)

-- what is measured lies where elements lie
pub measured_within : (wanted : Wanted) (limit : ℕ) (s : Sketch) (p : Plan) (at : Placed) (placement : Placement) → All (λ (spot : Spot). IsBounded spot.at) at.spots → IsMeasured wanted limit s p at placement → LiesWithinBounds placement
measured_within wanted limit s p at (Fault f) bounded measured = tt
measured_within wanted limit s p at (Uncarried f) bounded measured = tt
measured_within wanted limit s p at (Beyond b) bounded measured = tt
measured_within wanted limit s p at (Turned t) bounded measured = tt
measured_within wanted limit s p at (Holds placed t) bounded measured = subst (λ (here : Placed). All (λ (spot : Spot). IsBounded spot.at) here.spots) (sym measured.0) bounded

-- a box that can't be carried is told, as that is
abbrev pub TellsUncarried : MoveError → Placement → Type 0
TellsUncarried e q = (f : BoxFault) × (e ≡ moving.Fault f) × (q ≡ Uncarried f)

pub uncarried : (wanted : Wanted) (G : Type 0) (placing : Layout) (F limit : ℕ) (s : Sketch) (p : Plan) (g : Graph) (boxes : List (BoxAt G)) (e : MoveError) (r : Result Placement NoMemory)
    → g ≡ graph_of s → IsPlaced placing.by F g p (Ok boxes) → AnswersCarried placing.frame placing.by F s p boxes (Err e) → IfOk r (TellsUncarried e) → IfOk r (IsPlacement wanted G placing F limit s p)
uncarried wanted G placing F limit s p g boxes e (Err none) graph placed carried told = tt
uncarried wanted G placing F limit s p g boxes e (Ok q) graph placed carried (f, e_is, q_is) =
    let off : IsCarried placing.frame placing.by F s p boxes (Err f) = subst (λ x. AnswersCarried {G = G} placing.frame placing.by F s p boxes (Err x)) e_is carried in
    let is : IsPlacement wanted G placing F limit s p (Uncarried f) = (boxes, subst (λ h. IsPlaced placing.by F h p (Ok boxes)) graph placed, off) in
    subst (λ x. IsPlacement wanted G placing F limit s p x) (sym q_is) is

pub uncarried_within : (e : MoveError) (r : Result Placement NoMemory) → IfOk r (TellsUncarried e) → IfOk r LiesWithinBounds
uncarried_within e (Err none) told = tt
uncarried_within e (Ok q) (f, e_is, q_is) = subst (λ x. LiesWithinBounds x) (sym q_is) tt

-- what carrying to the drawing answers
pub carried_to_drawing : {G : Type 0} (by : PlaceBy) (F : ℕ) (s : Sketch) (p : Plan) (g : Graph) (f : Frame) (m : Motion G) (boxes : List (BoxAt G)) (answer : Result (List (BoxAt G)) MoveError)
    → g ≡ graph_of s → f ≡ frame_of s g p → Ok m ≡ frame_motion F f → AnswersMove answer (carried_each by F m boxes) → AnswersCarried Drawn by F s p boxes answer
carried_to_drawing {G} by F s p g f m boxes answer graph frame motion answers = told answer answers
  where
    motion_is : frame_motion {G = G} F (frame_of s (graph_of s) p) ≡ Ok m
    motion_is = ap (λ (h : Graph). frame_motion {G = G} F (frame_of s h p)) (sym graph) ∙ ap (frame_motion {G = G} F) (sym frame) ∙ sym motion

    told : (r : Result (List (BoxAt G)) MoveError) → AnswersMove r (carried_each by F m boxes) → AnswersCarried Drawn by F s p boxes r
    told (Ok there) is = (m, motion_is, is)
    told (Err (moving.Fault f)) is = (m, motion_is, is)
    told (Err moving.NoMemory) is = tt
