-- The judgement on a normal family.
use Rattle.std.proofs.Common.{◌≡◌, inl, inr, refl, ◌≤◌, Bool, true, false, List, length, get_or, ap, sym, subst, ◌∙◌, arith}
use Rattle.std.specs.Prelude.{Contains, All, Any, map, nat_lt, ◌↔◌, if◌then◌else◌}
use Rattle.std.proofs.lemmas.List.Elements.{Contains-get_or}
use Rattle.std.proofs.lemmas.List.Folds.{Any-from_list_any, list_any-from_Any}
use Rattle.std.proofs.lemmas.Bool.Decides.{nat_tests}
use Rattle.sk_base.specs.declared.Elem.{Elem}
use Rattle.sk_base.specs.declared.Graph.{Graph}
use Rattle.sk_base.specs.SoundGraph.{IsSoundGraph}
use Rattle.sk_base.proofs.Members.{contains_mapped, mapped_from}
use Rattle.sk_base.proofs.Pairs.{pairs_same}
use Rattle.sk_family.specs.Body.{Body, SameBodies}
use Rattle.sk_family.specs.Clusters.{Clusters, body_of, bodies, IsSound}
use Rattle.sk_rules.specs.Reach.{IsNormal}
use Rattle.sk_verdict.specs.declared.part.Part.{Part}
use Rattle.sk_verdict.specs.declared.judgement.Judgement.{Judgement}
use Rattle.sk_verdict.specs.declared.judgement.Verdict.{Verdict}
use Rattle.sk_verdict.specs.declared.judgement.Verdict.TheVariants.{Well, Over, Several}
use Rattle.sk_verdict.specs.Ordering.{PartBefore}
use Rattle.sk_verdict.specs.Parts.{IsPart, part_with}
use Rattle.sk_verdict.specs.Building.{AreOfClusters, AddsLone, HasNoSingle, elements_of, owned_part}
use Rattle.sk_verdict.specs.Judging.{IsJudgement, IsOver, some_over, verdict_on}
use Rattle.sk_base.proofs.ListOrder.{before_irreflexive, before_asymmetric}
use Rattle.sk_verdict.proofs.Normals.{holds_enough, more_than_one, part_is}

module _ (g : Graph) (f : Clusters) where
  -- the elements of a live cluster are those of a body
  body_with : (xs : List Elem) → Contains (map elements_of f.live) xs → (x : Body) × Contains (bodies f) x × (x.elements ≡ xs)
  body_with xs h =
      let found = mapped_from elements_of f.live xs h in
      (body_of found.0, contains_mapped body_of f.live found.0 found.1, found.2)

  with_body : (x : Body) → Contains (bodies f) x → Contains (map elements_of f.live) x.elements
  with_body x h =
      let found = mapped_from body_of f.live x h in
      subst (λ (b : Body). Contains (map elements_of f.live) b.elements) found.2 (contains_mapped elements_of f.live found.0 found.1)

  -- these are the parts of the clusters
  abbrev pub AreTheClusters : List Part → Type 0
  AreTheClusters parts = (p : Part) → Contains parts p ↔ (Contains (map elements_of f.live) p.elements × (p ≡ part_with g p.elements))

  pub the_clusters : IsSoundGraph g → IsNormal g (bodies f) → IsSound f → (parts : List Part) → AreOfClusters g f.live parts → AreTheClusters parts
  the_clusters sound normal family parts of_clusters p = (
    (λ h. (
        let (c, c_in, is) = mapped_from (owned_part g) f.live p ((of_clusters.exactly p).0 h) in
        let same : part_with g c.elements ≡ p = sym (part_is g f sound normal family c c_in) ∙ is in (
          subst (λ (q : Part). Contains (map elements_of f.live) q.elements) same (contains_mapped elements_of f.live c c_in),
          subst (λ (q : Part). q ≡ part_with g q.elements) same refl,
        ))),
    (λ (p_in, is). (
        let (c, c_in, same) = mapped_from elements_of f.live p.elements p_in in
        (of_clusters.exactly p).1
        (subst (λ (q : Part). Contains (map (owned_part g) f.live) q) (part_is g f sound normal family c c_in ∙ ap (λ (xs : List Elem). part_with g xs) same ∙ sym is)
        (contains_mapped (owned_part g) f.live c c_in)))),
  )

  -- the parts of the clusters and those of the lone elements are all
  pub all_parts : (parts all : List Part) → AreTheClusters parts → AddsLone g g.nodes parts all → (p : Part) → Contains all p ↔ IsPart g (bodies f) p
  all_parts parts all clusters lone p = (
    (λ h. elim ((lone.exactly p).0 h) [
      | inl of_cluster ↦ (inl (body_with p.elements ((clusters p).0 of_cluster).0), ((clusters p).0 of_cluster).1)
      | inr (e, e_in, by_none, is) ↦ (
        inr (e, record { is_node = e_in; named_by_none = by_none }, ap (λ (q : Part). q.elements) is),
        subst (λ (q : Part). q ≡ part_with g q.elements) is refl,
      )
    ]),
    (λ (of_one, is). elim of_one [
      | inl (x, x_in, same) ↦ (lone.exactly p).1 (inl ((clusters p).1 (subst (λ xs. Contains (map elements_of f.live) xs) same (with_body x x_in), is)))
      | inr (e, e_lone, same) ↦ (lone.exactly p).1 (inr (e, e_lone.is_node, e_lone.named_by_none, ap (λ (xs : List Elem). part_with g xs) same ∙ sym is))
    ]),
  )

  module _ (sound : IsSoundGraph g) (normal : IsNormal g (bodies f)) where
    pub none_single : (parts : List Part) → AreTheClusters parts → HasNoSingle parts
    none_single parts clusters p e p_in is =
        let (x, x_in, same) = body_with p.elements ((clusters p).0 p_in).0 in
        more_than_one g (bodies f) sound normal x x_in e (same ∙ is)

    -- each part holds at least what is due
    pub due_is_held : (p : Part) → IsPart g (bodies f) p → p.due ≤ p.held
    due_is_held p (inl (x, x_in, same), is) =
        let enough = holds_enough g (bodies f) sound normal x x_in in
        subst (λ (q : Part). q.due ≤ q.held) (sym is)
        (subst (λ xs. (part_with g xs).due ≤ (part_with g xs).held) same (omega (arith, enough)))
    due_is_held p (inr (e, e_lone, same), is) =
        subst (λ (q : Part). q.due ≤ q.held) (sym is) (subst (λ xs. (part_with g xs).due ≤ (part_with g xs).held) same (omega arith))

    pub all_held : (j : Judgement) → IsJudgement g (bodies f) j → All (λ (p : Part). p.due ≤ p.held) j.parts
    all_held j is k d k_in = due_is_held (get_or j.parts k d) ((is.parts (get_or j.parts k d)).0 (Contains-get_or j.parts k d k_in))

over_told : (b c : Bool) → (if b then Over else (if c then Several else Well)) ≡ Over → b ≡ true
over_told true c h = refl
over_told false true h = absurd (cc)
over_told false false h = absurd (cc)

over_test : (p : Part) → nat_lt p.due p.held ≡ true → IsOver p
over_test p h = grind (arith, nat_tests)

test_over : (p : Part) → IsOver p → nat_lt p.due p.held ≡ true
test_over p h = grind (arith, nat_tests)

-- over is the verdict exactly where some part is over
pub over_exactly : (j : Judgement) → j.verdict ≡ verdict_on j.parts → (j.verdict ≡ Over) ↔ Any IsOver j.parts
over_exactly j is = (
  (λ h. (
      let (k, p, k_in, at_k, t) = Any-from_list_any (λ (q : Part). nat_lt q.due q.held) j.parts (over_told (some_over j.parts) (nat_lt 1 (length j.parts)) (sym is ∙ h)) in
      (k, p, k_in, at_k, over_test p t))),
  (λ (k, p, k_in, at_k, over). (
      let some : some_over j.parts ≡ true = list_any-from_Any (λ (q : Part). nat_lt q.due q.held) j.parts (k, p, k_in, at_k, test_over p over) in
      is ∙ ap (λ b. if b then Over else (if nat_lt 1 (length j.parts) then Several else Well)) some)),
)

-- the judgement on the same bodies is the same
pub judgement_moves : (g : Graph) (one other : List Body) (j : Judgement) → SameBodies one other → IsJudgement g one j → IsJudgement g other j
judgement_moves g one other j same is = record {
  parts = λ p. ((λ h. moved one other (λ x. (same x).0) p ((is.parts p).0 h)), (λ h. (is.parts p).1 (moved other one (λ x. (same x).1) p h)));
  in_order = is.in_order;
  verdict = is.verdict;
}
  where
    moved : (f n : List Body) → ((x : Body) → Contains f x → Contains n x) → (p : Part) → IsPart g f p → IsPart g n p
    moved f n to p (inl (x, x_in, xs), is) = (inl (x, to x x_in, xs), is)
    moved f n to p (inr lone, is) = (inr lone, is)

pub same_judgement : (g : Graph) (one other : List Body) (j k : Judgement) → SameBodies one other → IsJudgement g one j → IsJudgement g other k → j ≡ k
same_judgement g one other j k same is other_is =
    let moved = judgement_moves g one other j same is in
    let parts : j.parts ≡ k.parts =
    pairs_same PartBefore (λ p. before_irreflexive p.elements) (λ p q. before_asymmetric p.elements q.elements) j.parts k.parts is.in_order other_is.in_order
    (λ p h. (other_is.parts p).1 ((moved.parts p).0 h)) (λ p h. (moved.parts p).1 ((other_is.parts p).0 h)) in
    let verdicts : j.verdict ≡ k.verdict = is.verdict ∙ ap verdict_on parts ∙ sym other_is.verdict in
    both j k verdicts parts
  where
    both : (j k : Judgement) → j.verdict ≡ k.verdict → j.parts ≡ k.parts → j ≡ k
    both j k verdicts parts =
        let first : j ≡ record { verdict = k.verdict; parts = j.parts } = ap (λ (v : Verdict). record { verdict = v; parts = j.parts }) verdicts in
        let second : record { verdict = k.verdict; parts = j.parts } ≡ k = ap (λ (ps : List Part). record { verdict = k.verdict; parts = ps }) parts in
        first ∙ second
