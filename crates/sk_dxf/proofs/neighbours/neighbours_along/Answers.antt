use Rattle.std.proofs.Common.{◌≡◌, [], ◌∷◌, ◌++◌, FitsSigned, arith, to_z-of_z, ◌∙◌}
use Rattle.std.specs.Int.{w128}
use Rattle.std.proofs.lemmas.Grind.{common_steps}
use Rattle.std.proofs.lemmas.Int.{ints}
use Rattle.std.proofs.lemmas.List.Elements.{All-push, All-same, filter_map-append}
use Rattle.sk_base.specs.Bounds.{IsWithin}
use Rattle.sk_dxf.proofs.neighbours.neighbours_along.Goals as goal
use Rattle.sk_dxf.proofs.neighbours.neighbours_along.Goals.{in-Some+in_ok-push, in_default}

pub loop-constraint-preserved : goal.loop-constraint-preserved
loop-constraint-preserved c = record {
  value = grind (arith, common_steps, filter_map-append);
  within = elim c.match-neighbour_along.branch [
    | in-Some+in_ok-push w ↦
        let place : IsWithin 4611686018427387904 w.in-Some.place = w.in-Some.ensures.within in
        let fits : FitsSigned w128 w.in-Some.place = omega (arith, ints, place.0, place.1) in
        let pushed : c.match-neighbour_along.places ≡ c.loop-constraint.places ++ w.in-Some.place ∷ [] = w.places-is ∙ simp to_z-of_z at w.in_ok-push.ensures.ok in
        All-same (IsWithin 4611686018427387904) _ _ pushed (All-push (IsWithin 4611686018427387904) c.loop-constraint.places w.in-Some.place c.loop-constraint.invariant.within place)
    | in_default w ↦ All-same (IsWithin 4611686018427387904) _ c.loop-constraint.places w.places-is c.loop-constraint.invariant.within
  ];
}
