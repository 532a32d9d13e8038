use Rattle.sk_dxf.proofs.Meanings.{reach_spans}
use Rattle.sk_dxf.proofs.law.segments_span_the_neighbours.Goals as goal

pub returns : goal.returns
returns c = reach_spans
