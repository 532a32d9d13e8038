-- Trees on a finer grid.
use Rattle.std.proofs.Common.{◌≡◌, inl, inr, ℕ, ◌+◌, List, [], ◌∷◌, Option, Some, None, Result, Ok, Err, map, refl, ap, sym, subst}
use Rattle.sk_base.specs.declared.Graph.{Graph}
use Rattle.sk_base.specs.declared.Pin.{Pin}
use Rattle.sk_interval.proofs.FinerSums.{micrometres-IsInside}
use Rattle.sk_interval.specs.declared.Cause.{Cause}
use Rattle.sk_steps.specs.declared.BoxOf.{BoxOf}
use Rattle.sk_steps.specs.declared.What.{What}
use Rattle.sk_steps.specs.Leaves.{leaf}
use Rattle.sk_steps.proofs.NestingLemmas.{leaf-inside}
use Rattle.sk_tree.specs.declared.PlanStep.{PlanStep}
use Rattle.sk_tree.specs.declared.Tree.{Tree}
use Rattle.sk_tree.specs.declared.Tree.TheVariants.{Leaf, Join'}
use Rattle.sk_place.specs.declared.boxes.BoxAt.{BoxAt}
use Rattle.sk_place.specs.declared.settling.PlaceBy.TheVariants.{Boxes}
use Rattle.sk_place.specs.declared.fault.StepFault.{StepFault}
use Rattle.sk_place.specs.Clusters.{with_box}
use Rattle.sk_place.specs.Steps.{joined}
use Rattle.sk_place.specs.Trees.{Framed, edge, block, framed_of, step_of, two_boxes, pin_at, pin_boxes, frame_of, made, boxes_in, boxes, HasBoxes}
use Rattle.sk_place.specs.Nesting.{AreInside}
use Rattle.sk_place.proofs.InsideLists.{put_inside, union_inside}
use Rattle.sk_place.proofs.InsideSteps.{KeepsStep, joined_step}
use Rattle.sk_place.proofs.Joins.{settled_join}

-- the pins of a block
points_inside : (H G : Type 0) (F k : ℕ) (pins : List Pin) → AreInside {G = H} {H = G} k (map (pin_at (F + k)) pins) (map (pin_at F) pins)
points_inside H G F k [] = tt
points_inside H G F k (pin ∷ pins) = (refl, (micrometres-IsInside F k pin.x.0, micrometres-IsInside F k pin.y.0), points_inside H G F k pins)

pins_inside : (H G : Type 0) (F k : ℕ) (pins : List Pin) → AreInside {G = H} {H = G} k (pin_boxes (F + k) pins) (pin_boxes F pins)
pins_inside H G F k pins = union_inside k (map (pin_at (F + k)) pins) (map (pin_at F) pins) [] [] (points_inside H G F k pins) tt

module _ {G : Type 0} (F : ℕ) where
  -- what a join's boxes are made of
  pub record IsMade (step : Option PlanStep) (one two three : Option (List (BoxAt G))) (outcome : Result (List (BoxAt G)) StepFault) : Type 0 where
    pub s : PlanStep
    pub x : List (BoxAt G)
    pub y : List (BoxAt G)
    pub z : List (BoxAt G)
    pub step_is : step ≡ Some s
    pub one_is : one ≡ Some x
    pub two_is : two ≡ Some y
    pub three_is : three ≡ Some z
    pub is : joined Boxes F s x y z ≡ outcome

  pub made_by : (step : Option PlanStep) (one two three : Option (List (BoxAt G))) (outcome : Result (List (BoxAt G)) StepFault) → made Boxes F step one two three ≡ Some outcome → IsMade step one two three outcome
  made_by (Some s) (Some x) (Some y) (Some z) outcome h = record { s = s; x = x; y = y; z = z; step_is = refl; one_is = refl; two_is = refl; three_is = refl; is = cc }
  made_by (Some s) (Some x) (Some y) None outcome h = cc
  made_by (Some s) (Some x) None three outcome h = cc
  made_by (Some s) None two three outcome h = cc
  made_by None one two three outcome h = cc

boxes_made : {G : Type 0} (r : Option (Result (List (BoxAt G)) StepFault)) (bs : List (BoxAt G)) → boxes_in r ≡ Some bs → r ≡ Some (Ok bs)
boxes_made (Some (Ok x)) bs h = cc
boxes_made (Some (Err e)) bs h = cc
boxes_made None bs h = cc

-- trees on the finer grid H
module _ {G : Type 0} (H : Type 0) (F k : ℕ) (g : Graph) (steps : List PlanStep) where
  -- a tree's boxes on the finer grid
  pub record HasInside (t : Tree) (bs : List (BoxAt G)) : Type 0 where
    pub fine : List (BoxAt H)
    pub has : HasBoxes Boxes (F + k) g steps t fine
    pub inside : AreInside k fine bs

  frame_inside : (e : Option Framed) (bs : List (BoxAt G)) → frame_of F e ≡ Some bs → (fine : List (BoxAt H)) × (frame_of (F + k) e ≡ Some fine) × AreInside k fine bs
  frame_inside None bs is = (let never : None ≡ Some bs = is in absurd (cc))
  frame_inside (Some (block b)) bs is =
      let bs_is : pin_boxes F b.pins ≡ bs = cc in
      (pin_boxes (F + k) b.pins, refl, subst (λ (xs : List (BoxAt G)). AreInside {G = H} {H = G} k (pin_boxes (F + k) b.pins) xs) bs_is (pins_inside H G F k b.pins))
  frame_inside (Some (edge e)) bs is = told (leaf F e.measure) refl is
    where
      told : (r : Result (BoxOf G × BoxOf G) (What × Cause)) → leaf F e.measure ≡ r → two_boxes e r ≡ Some bs → (fine : List (BoxAt H)) × (two_boxes e (leaf (F + k) e.measure) ≡ Some fine) × AreInside k fine bs
      told (Err f) r_is found = (let never : None ≡ Some bs = found in absurd (cc))
      told (Ok two) r_is found =
          let finer = leaf-inside H G F k e.measure two (sym r_is) in
          let of : BoxOf G × BoxOf G → List (BoxAt G) = λ b. with_box (record { elem = e.u; at = b.0 }) (record { elem = e.v; at = b.1 } ∷ []) in
          let of_finer : List (BoxAt H) = with_box (record { elem = e.u; at = finer.0.0 }) (record { elem = e.v; at = finer.0.1 } ∷ []) in
          let bs_is : of two ≡ bs = cc in (
            of_finer,
            ap (two_boxes e) finer.1,
            subst (λ (xs : List (BoxAt G)). AreInside k of_finer xs) bs_is
                (put_inside k (record { elem = e.u; at = finer.0.0 }) (record { elem = e.u; at = two.0 }) (record { elem = e.v; at = finer.0.1 } ∷ []) (record { elem = e.v; at = two.1 } ∷ [])
                refl finer.2.0 (refl, finer.2.1, tt)),
          )

  pub nest_on : (t : Tree) (bs : List (BoxAt G)) → HasBoxes Boxes F g steps t bs → HasInside t bs
  nest_on (Leaf c) bs has =
      let finer = frame_inside (framed_of g c.0) bs has.are in
      record { fine = finer.0; has = record { are = finer.1; faultless = λ f h. absurd h }; inside = finer.2 }
  nest_on (Join' at step shared one two three) bs has =
      let by =
      made_by F (step_of steps step) (boxes Boxes F g steps one) (boxes Boxes F g steps two) (boxes Boxes F g steps three) (Ok bs)
      (boxes_made (made Boxes F (step_of steps step) (boxes Boxes F g steps one) (boxes Boxes F g steps two) (boxes Boxes F g steps three)) bs has.are) in
      let a = nest_on one by.x (record { are = by.one_is; faultless = λ f h. has.faultless f (inr (inl h)) }) in
      let b = nest_on two by.y (record { are = by.two_is; faultless = λ f h. has.faultless f (inr (inr (inl h))) }) in
      let c = nest_on three by.z (record { are = by.three_is; faultless = λ f h. has.faultless f (inr (inr (inr h))) }) in
      let kept : KeepsStep (AreInside {G = H} {H = G} k) (joined Boxes (F + k) by.s a.fine b.fine c.fine) (Ok bs) =
      subst (λ (r : Result (List (BoxAt G)) StepFault). KeepsStep (AreInside {G = H} {H = G} k) (joined Boxes (F + k) by.s a.fine b.fine c.fine) r) by.is
      (joined_step H G F k by.s a.fine b.fine c.fine by.x by.y by.z a.inside b.inside c.inside) in
      record {
        fine = kept.0;
        has = settled_join Boxes (F + k) g steps by.s step by.step_is at one two three a.fine b.fine c.fine a.has b.has c.has shared kept.0 kept.1;
        inside = kept.2;
      }

-- the same where the two differ in nothing but their digits
pub nest : {G : Type 0} (F k : ℕ) (g : Graph) (steps : List PlanStep) (t : Tree) (bs : List (BoxAt G)) → HasBoxes Boxes F g steps t bs → HasInside G F k g steps t bs
nest {G} F k g steps t bs has = nest_on G F k g steps t bs has
