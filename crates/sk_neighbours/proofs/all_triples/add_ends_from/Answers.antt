use Rattle.std.proofs.Common.{subst, List}
use Rattle.std.specs.Prelude.{OnOk}
use Rattle.sk_base.specs.declared.Elem.{Elem}
use Rattle.sk_triangles.specs.Ends.{EndsAmong}
use Rattle.sk_triangles.specs.Growing.{GrowsBy}
use Rattle.sk_neighbours.proofs.all_triples.add_ends_from.Goals as goal

pub returns : goal.returns
returns c =
    subst (λ (es : List Elem). OnOk c.add_ends.result (GrowsBy (EndsAmong c.args.r.now.name c.args.c es) c.args.ends.now c.add_ends.new.ends)) c.as_slice.ensures c.add_ends.ensures
