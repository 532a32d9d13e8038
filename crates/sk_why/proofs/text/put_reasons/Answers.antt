use Rattle.std.proofs.Common.{◌++◌, List, ap, ◌∙◌}
use Rattle.sk_base.specs.declared.ConId.{ConId}
use Rattle.sk_base.proofs.Searches.{on_ok}
use Rattle.sk_graph.proofs.Soundness.{graph_is_sound}
use Rattle.sk_why.specs.WhyLines.{follows_line}
use Rattle.sk_why.proofs.text.put_reasons.Goals as goal

pub reasons_of-requires-clause-sound : goal.reasons_of-requires-clause-sound
reasons_of-requires-clause-sound c = rw c.requires.graph (graph_is_sound c.args.own.now c.requires.sound)

pub returns : goal.returns
returns c =
    on_ok c.put_follows.result c.put_follows.ensures
    (λ put. (
      c.in_ok-reasons.reasons,
      c.in_ok-reasons.ensures,
      put ∙ ap (λ (ks : List ConId). c.args.text.now ++ follows_line c.args.own.now c.args.number ks) c.as_slice.ensures,
    ))
