use Rattle.std.proofs.Common.{◌∙◌, sym, subst}
use Rattle.std.proofs.lemmas.Option.{same_Some}
use Rattle.sk_base.proofs.Searches.{on_ok}
use Rattle.sk_family.specs.declared.Cluster.{Cluster}
use Rattle.sk_triangles.proofs.Growing.{grows_same}
use Rattle.sk_neighbours.specs.Walks.{AtKey}
use Rattle.sk_neighbours.proofs.walk.Walk.at_key.Goals as goal

pub visit-requires : goal.visit-requires
visit-requires g c = c.requires c.in-Some.cluster.now (c.args.key, sym c.in-Some.ensures)

pub returns-in-Some : goal.returns-in-Some
returns-in-Some g c =
    let keeps = g.V.HolderVisitor.keeps c.args.visitor.now in
    let y = c.in-Some.cluster.now in
    on_ok c.visit.result c.visit.ensures (λ grows.
    grows_same (keeps c.args.elem y) (AtKey keeps c.args.self.now.index.now c.args.elem c.args.key) c.args.all.now c.visit.new.all
    (λ m. (
      (λ kept. (y, sym c.in-Some.ensures, kept)),
      (λ (z, z_is, kept). subst (λ (w : Cluster). keeps c.args.elem w m) (same_Some _ _ (sym z_is ∙ sym c.in-Some.ensures)) kept),
    ))
    grows)
