use Rattle.std.proofs.Common.{◌≡◌, [], ◌∷◌, ◌++◌, map, take, drop}
use Rattle.sk_close_by_angles.specs.MergeRows.{without}
use Rattle.sk_close_by_angles.proofs.pairs.drop_from_all.Given as goal

abbrev pub invariant-loop-row : goal.invariant-loop-row
invariant-loop-row l = l.rows ≡ map (without (l.x ∷ l.y ∷ [])) (take l.row-index l.fn.rows) ++ drop l.row-index l.fn.rows
