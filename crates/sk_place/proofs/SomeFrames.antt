-- Each constraint of a sound graph has its frame, and each block.
use Rattle.std.proofs.Common.{◌≡◌, refl, ℕ, ◌≤◌, ◌*◌, ◌<◌, ◌<ℤ◌, ℤ, pos, unsigned_abs, List, [], ◌∷◌, ◌++◌, ap, ◌∙◌, Ok, arith}
use Rattle.std.specs.Prelude.{Option, Some, None, IsSome, Result, false, true}
use Rattle.std.specs.Option.{option_map, option_or}
use Rattle.std.proofs.lemmas.Int.{ints}
use Rattle.sk_base.specs.declared.Sign.{Sign}
use Rattle.sk_base.specs.declared.Sign.TheVariants.{Plus, Minus}
use Rattle.sk_base.specs.declared.Ratio.{Ratio}
use Rattle.sk_base.specs.declared.Edge.{Edge}
use Rattle.sk_base.specs.declared.Block.{Block}
use Rattle.sk_base.specs.declared.Graph.{Graph}
use Rattle.sk_base.specs.declared.Measure.{Measure}
use Rattle.sk_base.specs.declared.Measure.TheVariants.{PointPoint, PointLine, LineLine}
use Rattle.sk_base.specs.SoundGraph.{IsSoundGraph}
use Rattle.sk_interval.specs.declared.Cause.{Cause}
use Rattle.sk_interval.specs.Interval.{Interval}
use Rattle.sk_interval.specs.Operations.{of_micrometres, whole, root, quotient, normal_of}
use Rattle.sk_interval.proofs.AroundLemmas.{size_of_bounds}
use Rattle.sk_steps.specs.declared.What.{What}
use Rattle.sk_steps.specs.declared.BoxOf.{BoxOf}
use Rattle.sk_steps.specs.Expressions.{Expression, value, then, number, micrometres, signed, length_box, normal_box, with_sign}
use Rattle.sk_steps.specs.Quantities.{named, then_list, evaluate_after}
use Rattle.sk_steps.specs.Leaves.{by_sign, opposite, square_of, part, frame, framed, frame_of, leaf, IsSoundMeasure}
use Rattle.sk_steps.proofs.LeafLemmas.{length-ok, whole-ok, norm, ratio, root-ok, quotient-ok, normal-ok, IsSquare, square_within}
use Rattle.sk_place.specs.declared.boxes.BoxAt.{BoxAt}
use Rattle.sk_base.specs.Lookups.{edge_numbered, block_numbered}
use Rattle.sk_place.specs.Trees.{edge, block, framed_of, two_boxes, pin_boxes, frame_of as frame_in}
use Rattle.sk_steps.proofs.SoundMeasures.{edge_measured}

module _ (F : ℕ) where
  -- the expression has no cause
  abbrev Gives : Expression → Type 0
  Gives e = (found : List Interval) → (x : Interval) × (value F [] found e ≡ Ok x)

  abbrev AllGive : List (What × Expression) → Type 0
  AllGive [] = Unit {0}
  AllGive (q ∷ qs) = Gives q.1 × AllGive qs

  all_found : (qs : List (What × Expression)) → AllGive qs → (found : List Interval) → (xs : List Interval) × (evaluate_after found F [] qs ≡ Ok xs)
  all_found [] give found = (found, refl)
  all_found (q ∷ qs) give found =
      let here = give.0 found in
      let rest = all_found qs give.1 (found ++ here.0 ∷ []) in
      (rest.0, ap (λ (r : Result Interval Cause). then_list (named q.0 r) (λ x. evaluate_after (found ++ x ∷ []) F [] qs)) here.1 ∙ rest.1)

  zero_long : Gives (length_box (number (pos 0)))
  zero_long found = (whole F (pos 0), whole-ok 40 F 0 (omega arith))

  zero_normal : Gives (normal_box (number (pos 0)))
  zero_normal found = (whole F (pos 0), whole-ok 1 F 0 (omega arith))

  one_normal : Gives (normal_box (number (pos 1)))
  one_normal found = (whole F (pos 1), whole-ok 1 F 1 (omega arith))

  far_along : (v : ℤ) → unsigned_abs v ≤ 2000000000 → Gives (length_box (micrometres v))
  far_along v small found = (of_micrometres F v, length-ok F Plus v small)

  far_aside : (side : Sign) (v : ℤ) → unsigned_abs v ≤ 2000000000 → Gives (length_box (signed side (micrometres v)))
  far_aside side v small found = (with_sign side (of_micrometres F v), length-ok F side v small)

  part_of : (n : ℤ) (r : Ratio) → pos 0 <ℤ square_of r → unsigned_abs n * unsigned_abs n ≤ unsigned_abs (square_of r) → Gives (normal_box (part n r))
  part_of n r positive least found =
      let s : ℕ = unsigned_abs (square_of r) in
      let some : 0 < s = omega (arith, ints, positive) in
      let size : square_of r ≡ pos s = omega (arith, ints, positive) in
      let root_is : root F (whole F (square_of r)) ≡ Ok (norm F s) = ap (λ z. root F (whole F z)) size ∙ root-ok F s some in (
        ratio F n s,
        ap (λ (x : Result Interval Cause). then (then x (quotient F (whole F n))) (normal_of F)) root_is
            ∙ ap (λ (x : Result Interval Cause). then x (normal_of F)) (quotient-ok F n s least some) ∙ normal-ok F n s least some,
      )

  signed_size : (sign : Sign) (n : ℤ) → unsigned_abs (by_sign sign n) ≡ unsigned_abs n
  signed_size Plus n = refl
  signed_size Minus n = omega (arith, ints)

  -- the quantities of a frame have no cause
  frame_gives : (m : Measure) → IsSoundMeasure m → AllGive (frame m)
  frame_gives (PointPoint far) sound =
      (zero_long, (zero_long, (far_along far.0 (omega (arith, ints, sound)), (zero_long, tt))))
  frame_gives (PointLine far side) sound =
      (zero_long, (far_aside side far.0 (omega (arith, ints, sound)), (zero_normal, (one_normal, (zero_long, tt)))))
  frame_gives (LineLine r sense) sound =
      let p_within = size_of_bounds r.p 10000 sound.1.0 sound.1.1 in
      let q_within : unsigned_abs r.q ≤ 10000 = omega (arith, ints, sound.2) in
      let square : IsSquare r.p r.q (square_of r) = square_within r.p r.q sound.0 p_within q_within in
      let p_size = signed_size (opposite sense) r.p in
      let q_size = signed_size sense r.q in (
        zero_normal,
        (
          one_normal,
          (
            zero_long,
            (
              part_of (by_sign (opposite sense) r.p) r square.positive (rw p_size square.p_least),
              (
                part_of (by_sign sense r.q) r square.positive (rw q_size square.q_least),
                (zero_long, tt),
              ),
            ),
          ),
        ),
      )

  pub some_leaf : {G : Type 0} (m : Measure) → IsSoundMeasure m → (boxes : BoxOf G × BoxOf G) × (leaf F m ≡ Ok boxes)
  some_leaf m sound = (let found = all_found (frame m) (frame_gives m sound) [] in (framed m found.0, ap (λ (r : Result (List Interval) (What × Cause)). frame_of m r) found.1))

  pub some_frame : {G : Type 0} (g : Graph) → IsSoundGraph g → (k : ℕ) → IsSome (framed_of g k) → (bs : List (BoxAt G)) × (frame_in F (framed_of g k) ≡ Some bs)
  some_frame {G} g sound k there = by_block (block_numbered g k) (edge_numbered g k) refl there
    where
      two : (e : Edge) (boxes : BoxOf G × BoxOf G) → leaf F e.measure ≡ Ok boxes → (bs : List (BoxAt G)) × (frame_in F (Some (edge e)) ≡ Some bs)
      two e boxes is = (_, ap (λ (r : Result (BoxOf G × BoxOf G) (What × Cause)). two_boxes e r) is)

      by_edge : (e : Option Edge) → edge_numbered g k ≡ e → IsSome (option_map edge e) → (bs : List (BoxAt G)) × (frame_in F (option_map edge e) ≡ Some bs)
      by_edge (Some e) is some = (let found = some_leaf {G = G} e.measure (edge_measured g sound k e is) in two e found.0 found.1)
      by_edge None is some = (let never : false ≡ true = some in absurd (cc))

      by_block : (b : Option Block) (e : Option Edge) → edge_numbered g k ≡ e → IsSome (option_or (option_map block b) (option_map edge e))
          → (bs : List (BoxAt G)) × (frame_in F (option_or (option_map block b) (option_map edge e)) ≡ Some bs)
      by_block (Some b) e is some = (pin_boxes F b.pins, refl)
      by_block None e is some = by_edge e is some
