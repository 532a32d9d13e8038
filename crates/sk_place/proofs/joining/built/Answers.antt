use Rattle.std.proofs.Common.{◌≡◌}
use Rattle.sk_steps.specs.Boxes.{kind_of}
use Rattle.sk_place.specs.Clusters.{box_of}
use Rattle.sk_place.proofs.Settlings.{if_found}
use Rattle.sk_place.proofs.joining.built.Goals as goal

pub returns-clause-kind : goal.returns-clause-kind
returns-clause-kind g c =
    if_found (λ w. kind_of w ≡ kind_of (box_of c.args.t.now.first c.args.t.now.w)) c.settled_box.result c.faulty.result c.faulty.ensures.found
    (c.settled_box.ensures.kind (kind_of (box_of c.args.t.now.first c.args.t.now.w)) (rw c.given.ensures at c.third_element-made.ensures.kind))
