-- What the graph has for a constraint, and what this starts with.
use Rattle.sk_family.specs.Body.{Start, edge_start, block_start}
use Rattle.sk_session.specs.declared.origin.Origin.{Origin}
use Rattle.sk_session.specs.declared.origin.Origin.TheVariants as origin

abbrev pub origin_start : Origin → Start
origin_start (origin.Edge e) = edge_start e
origin_start (origin.Block b) = block_start b
