use Rattle.std.proofs.Common.{◌-◌, length, pos, get_or, take, drop, FitsSigned, arith, to_z-of_z}
use Rattle.std.specs.Int.{w128}
use Rattle.std.proofs.lemmas.Int.{ints}
use Rattle.std.proofs.lemmas.List.Elements.{All-get_or, All-take, All-drop}
use Rattle.sk_base.specs.Bounds.{IsWithin}
use Rattle.sk_dxf.proofs.Reaches.{least_within, greatest_within}
use Rattle.sk_dxf.proofs.segment.reach.Goals as goal

pub returns-in-len1-up-clause-first : goal.returns-in-len1-up-clause-first
returns-in-len1-up-clause-first c =
    let places = c.args.places.now in
    let one : IsWithin 4611686018427387904 (get_or places 0 (pos 0)) = All-get_or (IsWithin 4611686018427387904) places 0 (pos 0) c.in-len1-up.len_at_least c.requires in
    let one_fits : FitsSigned w128 (get_or places 0 (pos 0)) = omega (arith, ints, one.0, one.1) in
    let fits : FitsSigned w128 c.least.result = record { sfits = c.least.type_inv } in
    let rest = All-take (IsWithin 4611686018427387904) (length places - 1) (drop 1 places) (All-drop (IsWithin 4611686018427387904) 1 places c.requires) in
    let least = simp to_z-of_z at c.least.ensures in
    simp to_z-of_z (least_within 4611686018427387904 (get_or places 0 (pos 0)) (take (length places - 1) (drop 1 places)) _ one rest least)

pub returns-in-len1-up-clause-last : goal.returns-in-len1-up-clause-last
returns-in-len1-up-clause-last c =
    let places = c.args.places.now in
    let one : IsWithin 4611686018427387904 (get_or places 0 (pos 0)) = All-get_or (IsWithin 4611686018427387904) places 0 (pos 0) c.in-len1-up.len_at_least c.requires in
    let one_fits : FitsSigned w128 (get_or places 0 (pos 0)) = omega (arith, ints, one.0, one.1) in
    let fits : FitsSigned w128 c.greatest.result = record { sfits = c.greatest.type_inv } in
    let rest = All-take (IsWithin 4611686018427387904) (length places - 1) (drop 1 places) (All-drop (IsWithin 4611686018427387904) 1 places c.requires) in
    let greatest = simp to_z-of_z at c.greatest.ensures in
    simp to_z-of_z (greatest_within 4611686018427387904 (get_or places 0 (pos 0)) (take (length places - 1) (drop 1 places)) _ one rest greatest)
