use Rattle.std.proofs.Common.{◌≡◌, ◌∙◌, ◌++◌, ◌∷◌, [], List, false, ap, sym, subst}
use Rattle.std.specs.Prelude.{AllPairs, Contains, map}
use Rattle.std.specs.List.{flat_map}
use Rattle.std.proofs.lemmas.List.Elements.{All-contains}
use Rattle.sk_base.specs.declared.Elem.{Elem}
use Rattle.sk_base.specs.declared.ConId.{ConId}
use Rattle.sk_base.specs.declared.Name.{Name}
use Rattle.sk_base.specs.ClusterNames.{IsBelow, is_named}
use Rattle.sk_base.proofs.Pairs.{pairs_push}
use Rattle.sk_family.specs.declared.cluster.Cluster.{Cluster}
use Rattle.sk_family.specs.Body.{join_all}
use Rattle.sk_family.specs.Clusters.{ByName, body_of, cluster_of, named, unnamed, whole_from}
use Rattle.sk_family.specs.Joining.{AreNamesOf, HaveTheSame}
use Rattle.sk_family.proofs.Gathering.{gathered_whole}
use Rattle.sk_family.proofs.SideBySide.{alike, are_names, last_stays, named_alike, names_before, unnamed_alike}
use Rattle.sk_family.proofs.joining.join_many.Goals as goal
use Rattle.sk_family.proofs.joining.join_many.Goals.{In_ok-names, In_ok-push}

are : (c : In_ok-names) → AreNamesOf c.in_ok-names.names.items c.args.clusters.now
are c =
    are_names c.in_ok-names.names.items c.args.clusters.now c.in_ok-names.ensures.in_order c.requires.by_name
    (λ n n_in. All-contains (λ m. (x : Cluster) × Contains c.args.clusters.now x × (x.name ≡ m)) c.args.from.now n c.requires.live ((c.in_ok-names.ensures.same n).0 n_in))

pub gather-requires-clause-names : goal.gather-requires-clause-names
gather-requires-clause-names c =
    subst (λ (ns : List Name). AreNamesOf ns c.as_slice.result.now) (sym c.as_slice-2.ensures.value)
    (subst (λ (cs : List Cluster). AreNamesOf c.in_ok-names.names.items cs) (sym c.as_slice.ensures) (are (goal.at.gather-requires-clause-names c).In_ok-names))

apart : (c : In_ok-push) → is_named c.in_ok-names.names.items c.in_ok-into_cluster.field-0.name ≡ false
apart c =
    ap (λ n. is_named c.in_ok-names.names.items n) c.in_ok-into_cluster.ensures.name
    ∙ alike c.in_ok-names.names.items c.args.from.now c.in_ok-names.ensures.same c.args.name ∙ c.requires.apart

pub drop_named-requires-clause-by_name : goal.drop_named-requires-clause-by_name
drop_named-requires-clause-by_name c =
    subst (λ (l : List Cluster). AllPairs ByName l) (sym c.in_ok-push.ensures.ok)
    (pairs_push ByName c.args.clusters.now c.in_ok-into_cluster.field-0 c.requires.by_name
    (λ x h. subst (λ n. IsBelow x.name n) (sym c.in_ok-into_cluster.ensures.name) (c.requires.last x h)))

pub drop_named-requires-clause-names : goal.drop_named-requires-clause-names
drop_named-requires-clause-names c =
    subst (λ (ns : List Name). AreNamesOf ns c.push.new.self) (sym c.as_slice-3.ensures.value)
    (subst (λ (cs : List Cluster). AreNamesOf c.in_ok-names.names.items cs) (sym c.in_ok-push.ensures.ok)
    (names_before c.in_ok-names.names.items c.args.clusters.now c.in_ok-into_cluster.field-0 (apart (goal.at.drop_named-requires-clause-names c).In_ok-push)
    (are (goal.at.drop_named-requires-clause-names c).In_ok-names)))

whole_is : (c : In_ok-push) → c.in_ok-into_cluster.field-0 ≡ whole_from c.args.name c.args.from.now c.args.clusters.now
whole_is c =
    let names : List Name = c.in_ok-names.names.items in
    let clusters : List Cluster = c.args.clusters.now in
    let whole : Cluster = c.in_ok-into_cluster.field-0 in
    let told = c.in_ok-into_cluster.ensures in
    let elements : c.in_ok-gathered.gathered.elements.items ≡ flat_map (λ (x : Cluster). x.elements) (named names clusters) =
    c.in_ok-gathered.ensures.elements ∙ ap (λ (ns : List Name). flat_map (λ (x : Cluster). x.elements) (named ns c.as_slice.result.now)) c.as_slice-2.ensures.value
    ∙ ap (λ (cs : List Cluster). flat_map (λ (x : Cluster). x.elements) (named names cs)) c.as_slice.ensures in
    let owned : c.in_ok-gathered.gathered.owned.items ≡ flat_map (λ (x : Cluster). x.owned) (named names clusters) =
    c.in_ok-gathered.ensures.owned ∙ ap (λ (ns : List Name). flat_map (λ (x : Cluster). x.owned) (named ns c.as_slice.result.now)) c.as_slice-2.ensures.value
    ∙ ap (λ (cs : List Cluster). flat_map (λ (x : Cluster). x.owned) (named names cs)) c.as_slice.ensures in
    gathered_whole names clusters c.requires.rise whole c.args.name told.name told.rises
    (subst (λ (es : List Elem). HaveTheSame es whole.elements) elements told.elements) (subst (λ (ks : List ConId). HaveTheSame ks whole.owned) owned told.owned)
    ∙ ap (λ (cs : List Cluster). cluster_of c.args.name (join_all (map body_of cs))) (named_alike names c.args.from.now c.in_ok-names.ensures.same clusters)

pub returns-clause-ok : goal.returns-clause-ok
returns-clause-ok c =
    let k = (goal.at.returns-clause-ok c).In_ok-push in
    let names : List Name = c.in_ok-names.names.items in
    let clusters : List Cluster = c.args.clusters.now in
    let whole : Cluster = c.in_ok-into_cluster.field-0 in
    c.drop_named.ensures ∙ ap (λ (ns : List Name). unnamed ns c.push.new.self) c.as_slice-3.ensures.value ∙ ap (λ (cs : List Cluster). unnamed names cs) c.in_ok-push.ensures.ok
    ∙ last_stays names clusters whole (apart k) ∙ ap (λ (cs : List Cluster). cs ++ whole ∷ []) (unnamed_alike names c.args.from.now c.in_ok-names.ensures.same clusters)
    ∙ ap (λ (x : Cluster). unnamed c.args.from.now clusters ++ x ∷ []) (whole_is k)
