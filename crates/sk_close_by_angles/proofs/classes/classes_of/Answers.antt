use Rattle.std.proofs.Common.{◌≡◌, ◌<◌, ◌≤◌, ℕ, List, inl, inr, sym, subst, ◌∙◌, length, get_or, arith}
use Rattle.std.specs.Prelude.{Contains}
use Rattle.std.proofs.lemmas.List.Elements.{Contains-get_or}
use Rattle.sk_base.proofs.Members.{contains_mapped, mapped_from}
use Rattle.sk_family.specs.declared.Cluster.{Cluster}
use Rattle.sk_family.specs.Body.{Body}
use Rattle.sk_family.specs.Clusters.{bodies, body_of}
use Rattle.sk_triangles.proofs.Fronts.{front_more, front_all}
use Rattle.sk_base.specs.declared.Elem.{Elem}
use Rattle.sk_close_by_angles.specs.Classes.{Coarsens, TellTies, AreTogether}
use Rattle.sk_close_by_angles.proofs.Classing.{together_kept, all_written}
use Rattle.sk_close_by_angles.proofs.classes.classes_of.Goals as goal

pub loop-cluster-preserved : goal.loop-cluster-preserved
loop-cluster-preserved c =
    let live = c.args.family.now.live in
    let i = c.loop-cluster.cluster-index in
    let here = c.cluster-item.result in
    let old = c.loop-cluster.classes.items in
    let new = c.tie_all.new.classes in
    let value = c.as_mut_slice.ensures.value in
    let all = c.clusters-cluster-items.ensures.live in
    let i_in : i < length live = subst (λ (cs : List Cluster). i < length cs) all c.loop-cluster-test.true in
    let here_is : here ≡ get_or live i here = subst (λ (cs : List Cluster). here ≡ get_or cs i here) all c.cluster-item.is in
    let here_in : Contains live here = subst (λ (z : Cluster). Contains live z) (sym here_is) (Contains-get_or live i here i_in) in
    let coarsens : Coarsens old new = subst (λ (ks : List ℕ). Coarsens ks new) value c.tie_all.ensures.coarsens in
    let written = all_written c.loop-cluster.classes.len new old (omega (arith, c.tie_all.auto.classes, c.as_mut_slice.ensures.len)) in
    record {
      tell = subst (λ (ks : List ℕ). TellTies c.args.graph.now (bodies c.args.family.now) ks) (sym written)
          (c.tie_all.ensures.tell c.args.graph.now (bodies c.args.family.now) (body_of here) (contains_mapped body_of live here here_in) (sym c.as_slice-in-loop-cluster.ensures)
          (subst (λ (ks : List ℕ). TellTies c.args.graph.now (bodies c.args.family.now) ks) (sym value) c.loop-cluster.invariant.tell));
      together = λ d d_in. subst (λ (ks : List ℕ). AreTogether ks d.elements) (sym written) (elim ((front_more live i here i_in d).0 d_in) [
        | inl before ↦ together_kept old new d.elements coarsens (c.loop-cluster.invariant.together d before)
        | inr is ↦ subst (λ (z : Cluster). AreTogether new z.elements) (here_is ∙ is)
            (subst (λ (es : List Elem). AreTogether new es) c.as_slice-in-loop-cluster.ensures c.tie_all.ensures.together)
      ]);
    }

pub returns : goal.returns
returns c =
    let live = c.args.family.now.live in
    let over : length live ≤ c.loop-cluster.cluster-index = subst (λ (cs : List Cluster). length cs ≤ c.loop-cluster.cluster-index) c.clusters-cluster-items.ensures.live c.loop-cluster-test.false in
    record {
      tell = c.loop-cluster.invariant.tell;
      together = λ x x_in. (
          let found = mapped_from body_of live x x_in in
          subst (λ (z : Body). AreTogether c.loop-cluster.classes.items z.elements) found.2
          (c.loop-cluster.invariant.together found.0 ((front_all live c.loop-cluster.cluster-index over found.0).1 found.1)));
    }
