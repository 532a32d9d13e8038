use Rattle.std.specs.Prelude.{unsigned_abs}
use Rattle.sk_orient.specs.DrawnSigns.{direction_of}
use Rattle.sk_orient.specs.Vectors.{cross, dot}
use Rattle.sk_graph.specs.SketchGraph.{drawn_as}
use Rattle.sk_drawn.specs.DrawnValues.{apart_squared}
use Rattle.sk_drawn.proofs.OneValue.{one_root, one_ratio}
use Rattle.sk_drawn.proofs.law.one_value.Goals as goal

pub returns-clause-length : goal.returns-clause-length
returns-clause-length c s u v one other p q = one_root (apart_squared (drawn_as s u) (drawn_as s v)) (unsigned_abs one.0) (unsigned_abs other.0) p q

pub returns-clause-ratio : goal.returns-clause-ratio
returns-clause-ratio c s l m one other p q =
    one_ratio (cross (direction_of (drawn_as s l)) (direction_of (drawn_as s m))) (dot (direction_of (drawn_as s l)) (direction_of (drawn_as s m))) one other p q
