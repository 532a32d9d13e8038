use Rattle.std.proofs.Common.{◌≡◌, ◌∙◌, ◌∷◌, [], ◌++◌, List, take, sym, subst, ap, get_or, refl}
use Rattle.std.specs.Prelude.{not, AllPairs}
use Rattle.std.proofs.lemmas.List.{take_all, take_more}
use Rattle.std.proofs.lemmas.List.Elements.{filter-append}
use Rattle.sk_base.specs.declared.Name.{Name}
use Rattle.sk_base.specs.declared.Name.TheVariants.{Con}
use Rattle.sk_base.specs.ClusterNames.{is_named}
use Rattle.sk_base.proofs.Pairs.{pairs_push, pairs_filter}
use Rattle.sk_family.specs.declared.cluster.Cluster.{Cluster}
use Rattle.sk_family.specs.Clusters.{ByName, unnamed}
use Rattle.sk_family.proofs.Taking.{unnamed_more}
use Rattle.sk_base.proofs.Filters.{filter_keeps}
use Rattle.sk_family.proofs.family.put_in_place.Goals as goal

pub loop-name-init : goal.loop-name-init
loop-name-init c = record {
  items = c.in_ok-push.ensures.ok ∙ sym (filter_keeps (λ (d : Cluster). not (is_named [] d.name)) (c.args.clusters.now ++ c.args.whole ∷ []) (λ d d_in. refl));
  by_name = subst (λ (l : List Cluster). AllPairs ByName l) (sym c.in_ok-push.ensures.ok) (pairs_push ByName c.args.clusters.now c.args.whole c.requires.by_name c.requires.last);
}

pub loop-name-preserved : goal.loop-name-preserved
loop-name-preserved c =
    let all : List Cluster = c.args.clusters.now ++ c.args.whole ∷ [] in
    let name = get_or c.args.from.now c.loop-name.name-index (Con 0) in
    let i = c.loop-name.name-index in
    let is = c.take_out.ensures in
    record {
      items = is ∙ ap (λ (l : List Cluster). unnamed (name ∷ []) l) c.loop-name.invariant.items ∙ sym (unnamed_more (take i c.args.from.now) (name ∷ []) all)
          ∙ ap (λ (ns : List Name). unnamed ns all) (sym (take_more c.args.from.now i (Con 0) c.loop-name-test.true));
      by_name = subst (λ (l : List Cluster). AllPairs ByName l) (sym is) (pairs_filter ByName (λ (d : Cluster). not (is_named (name ∷ []) d.name)) c.loop-name.clusters c.loop-name.invariant.by_name);
    }

pub returns-clause-ok : goal.returns-clause-ok
returns-clause-ok c =
    let stays : unnamed c.args.from.now (c.args.whole ∷ []) ≡ c.args.whole ∷ [] = rw c.requires.apart in
    c.loop-name.invariant.items ∙ ap (λ (ns : List Name). unnamed ns (c.args.clusters.now ++ c.args.whole ∷ [])) (take_all c.loop-name.name-index c.args.from.now c.loop-name-test.false)
    ∙ filter-append (λ (d : Cluster). not (is_named c.args.from.now d.name)) c.args.clusters.now (c.args.whole ∷ [])
    ∙ ap (λ (l : List Cluster). unnamed c.args.from.now c.args.clusters.now ++ l) stays
