use Rattle.std.proofs.lemmas.List.Elements.{All-contains}
use Rattle.sk_family.specs.declared.cluster.Cluster.{Cluster}
use Rattle.sk_family.specs.Body.{IsRisingBody}
use Rattle.sk_family.specs.Clusters.{body_of}
use Rattle.sk_family.proofs.family.add_named.Goals as goal

pub add-requires-clause-part : goal.add-requires-clause-part
add-requires-clause-part c = All-contains (λ (d : Cluster). IsRisingBody (body_of d)) c.args.clusters.now c.in-Some.part.now c.requires.rise c.in-Some.ensures.lives
