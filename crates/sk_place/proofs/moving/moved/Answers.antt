use Rattle.sk_place.proofs.AllMoved.{moved_nodes, moved_inside}
use Rattle.sk_place.proofs.Ranges.{moved_range}
use Rattle.sk_place.proofs.moving.moved.Goals as goal

pub returns-clause-nodes : goal.returns-clause-nodes
returns-clause-nodes g c = moved_nodes c.args.placing g.G.Grid.BITS c.args.motion.now c.args.boxes.now c.all_moved.result c.all_moved.ensures

pub returns-clause-nested : goal.returns-clause-nested
returns-clause-nested g c = moved_inside c.args.placing g.G.Grid.BITS c.args.motion.now c.args.boxes.now c.all_moved.result c.all_moved.ensures

pub returns-clause-range : goal.returns-clause-range
returns-clause-range g c = moved_range c.args.placing g.G.Grid.BITS c.args.motion.now c.args.boxes.now c.all_moved.result c.all_moved.ensures
