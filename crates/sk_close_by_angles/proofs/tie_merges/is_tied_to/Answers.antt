use Rattle.std.proofs.Common.{List, sym, subst}
use Rattle.std.specs.Prelude.{IsTrue}
use Rattle.sk_base.proofs.Members.{contains_mapped}
use Rattle.sk_base.specs.declared.Elem.{Elem}
use Rattle.sk_family.specs.declared.Cluster.{Cluster}
use Rattle.sk_family.specs.Clusters.{bodies, body_of}
use Rattle.sk_family.proofs.Naming.{one_of_name}
use Rattle.sk_close_by_angles.specs.Ties.{HaveTiedLines}
use Rattle.sk_close_by_angles.proofs.tie_merges.is_tied_to.Goals as goal

pub returns-in-Some : goal.returns-in-Some
returns-in-Some c g are =
    let f = c.args.family.now in
    let a = c.args.cluster.now in
    let b = c.in-Some.found.now in
    let b_is = c.in-Some.ensures.some in
    let tied = c.are_tied.ensures g (bodies f) (body_of a) (body_of b) are (contains_mapped body_of f.live a c.requires) (contains_mapped body_of f.live b b_is.lives)
    (sym c.as_slice.ensures) (sym c.as_slice-in-Some.ensures) in
    let told = subst (λ (es : List Elem). HaveTiedLines g (bodies f) a.elements es → IsTrue c.are_tied.result) c.as_slice-in-Some.ensures
    (subst (λ (es : List Elem). HaveTiedLines g (bodies f) es c.as_slice-in-Some.result.now → IsTrue c.are_tied.result) c.as_slice.ensures tied.1) in
    let tells = subst (λ (es : List Elem). IsTrue c.are_tied.result → HaveTiedLines g (bodies f) a.elements es) c.as_slice-in-Some.ensures
    (subst (λ (es : List Elem). IsTrue c.are_tied.result → HaveTiedLines g (bodies f) es c.as_slice-in-Some.result.now) c.as_slice.ensures tied.0) in (
      (λ h. (b, b_is, tells h)),
      (λ (d, d_is, lines). told (subst (λ (x : Cluster). HaveTiedLines g (bodies f) a.elements x.elements) (one_of_name f c.cluster.ensures.sound c.args.other d b d_is b_is) lines)),
    )

pub returns-in-None : goal.returns-in-None
returns-in-None c g are = ((λ h. absurd (cc)), (λ (d, d_is, lines). absurd (c.in-None.ensures.none (d, d_is))))
