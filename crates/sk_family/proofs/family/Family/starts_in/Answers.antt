use Rattle.std.proofs.Common.{◌≡◌, List, sym, subst, ap, ◌∙◌}
use Rattle.std.specs.Prelude.{Contains, IfOk, Result, Ok, Err}
use Rattle.sk_base.specs.declared.ConId.{ConId}
use Rattle.sk_family.specs.declared.cluster.Cluster.{Cluster}
use Rattle.sk_family.specs.Starting.{starts_but}
use Rattle.sk_family.proofs.Naming.{one_of_name}
use Rattle.sk_family.proofs.family.Family.starts_in.Goals as goal

pub starts_of-requires-clause-there : goal.starts_of-requires-clause-there
starts_of-requires-clause-there c j j_in differ =
    let one : c.requires.owner.owner ≡ c.in-Some.owner.now = one_of_name c.args.self.now c.cluster.ensures.sound c.args.name _ _ c.requires.owner.named c.in-Some.ensures.some in
    let owned : Contains c.in-Some.owner.now.owned j = subst (λ (ks : List ConId). Contains ks j) c.as_slice.ensures j_in in
    c.requires.owner.others j (subst (λ (x : Cluster). Contains x.owned j) (sym one) owned) differ

with_owner : {T E : Type 0} (r : Result T E) (P Q : T → Type 0) → ((x : T) → P x → Q x) → IfOk r P → IfOk r Q
with_owner (Ok x) P Q to h = to x h
with_owner (Err e) P Q to h = h

pub returns : goal.returns
returns c =
    with_owner c.starts_of.result _ _
    (λ starts is owner is_owner. is ∙ ap (λ (ks : List ConId). starts_but c.args.graph.now c.args.without ks) (c.as_slice.ensures
    ∙ ap (λ (x : Cluster). x.owned) (one_of_name c.args.self.now c.cluster.ensures.sound c.args.name _ _ c.in-Some.ensures.some is_owner)))
    c.starts_of.ensures
