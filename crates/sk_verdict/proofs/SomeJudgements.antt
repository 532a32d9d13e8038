-- Each family has a judgement.
use Rattle.std.proofs.Common.{◌≡◌, ◌≢◌, inl, inr, refl, List, [], ◌∷◌, ◌++◌, sym, subst}
use Rattle.std.specs.Prelude.{Contains, map}
use Rattle.std.proofs.lemmas.List.Elements.{Contains-append_left, Contains-append_right}
use Rattle.sk_base.specs.declared.Elem.{Elem}
use Rattle.sk_base.specs.declared.Edge.{Edge}
use Rattle.sk_base.specs.declared.Pin.{Pin}
use Rattle.sk_base.specs.declared.Graph.{Graph}
use Rattle.sk_base.specs.ElementOrder.{ElementsBefore}
use Rattle.sk_base.proofs.ListOrder.{before_tells, before_chain}
use Rattle.sk_base.proofs.Members.{list_settles, contains_mapped, mapped_from}
use Rattle.sk_base.proofs.Pairs.{pairs_map}
use Rattle.sk_family.specs.Body.{Body}
use Rattle.sk_verdict.specs.declared.part.Part.{Part}
use Rattle.sk_verdict.specs.declared.judgement.Judgement.{Judgement}
use Rattle.sk_verdict.specs.Ordering.{PartBefore}
use Rattle.sk_verdict.specs.Parts.{elem_of, HasNoPin, IsLone, AreOfOnePart, part_with}
use Rattle.sk_verdict.specs.Judging.{IsJudgement, verdict_on}
use Rattle.sk_base.proofs.Deciding.{elem_settles, Decided, all_decided, both, either, denied, moved, some_in, is_in}
use Rattle.sk_base.proofs.Selecting.{selected}

lone_decided : (g : Graph) (e : Elem) → Decided (IsLone g e)
lone_decided g e =
    moved (λ h. record { is_node = h.0; named_by_none = h.1 }) (λ (h : IsLone g e). (h.is_node, h.named_by_none))
    (both (is_in elem_settles (map elem_of g.nodes) e)
    (both (all_decided (λ (d : Edge). (d.u ≢ e) × (d.v ≢ e)) (λ d. both (denied (elem_settles d.u e)) (denied (elem_settles d.v e))) g.edges)
    (all_decided (HasNoPin e) (λ b. all_decided (λ (pin : Pin). pin.elem ≢ e) (λ pin. denied (elem_settles pin.elem e)) b.pins) g.blocks)))

module _ (g : Graph) (f : List Body) where
  part_decided : (xs : List Elem) → Decided (AreOfOnePart g f xs)
  part_decided xs =
      either (some_in (λ (x : Body). x.elements ≡ xs) (λ x. list_settles elem_settles x.elements xs) f)
      (moved (λ (e, e_in, h). (e, h.0, h.1)) (λ (e, lone, is). (e, lone.is_node, (lone, is)))
      (some_in (λ e. IsLone g e × (e ∷ [] ≡ xs)) (λ e. both (lone_decided g e) (list_settles elem_settles (e ∷ []) xs)) (map elem_of g.nodes)))

  lists : List (List Elem)
  lists = map (λ (x : Body). x.elements) f ++ map (λ (e : Elem). e ∷ []) (map elem_of g.nodes)

  listed : (xs : List Elem) → AreOfOnePart g f xs → Contains lists xs
  unfolding lists
  listed xs (inl (x, x_in, is)) =
      Contains-append_left (map (λ (y : Body). y.elements) f) (map (λ (e : Elem). e ∷ []) (map elem_of g.nodes)) xs (subst (λ zs. Contains (map (λ (y : Body). y.elements) f) zs) is (contains_mapped (λ (y : Body). y.elements) f x x_in))
  listed xs (inr (e, lone, is)) =
      Contains-append_right (map (λ (y : Body). y.elements) f) (map (λ (d : Elem). d ∷ []) (map elem_of g.nodes)) xs (subst (λ zs. Contains (map (λ (d : Elem). d ∷ []) (map elem_of g.nodes)) zs) is (contains_mapped (λ (d : Elem). d ∷ []) (map elem_of g.nodes) e lone.is_node))

  pub some_judgement : (j : Judgement) × IsJudgement g f j
  some_judgement =
      let found = selected ElementsBefore before_tells before_chain (λ xs. AreOfOnePart g f xs) part_decided lists in
      let parts : List Part = map (part_with g) found.0 in (
        record { verdict = verdict_on parts; parts = parts },
        record {
          parts = λ p. (
            (λ h. (let it = mapped_from (part_with g) found.0 p h in (
              subst (λ (q : Part). AreOfOnePart g f q.elements) it.2 ((found.2 it.0).0 it.1).1,
              subst (λ (q : Part). q ≡ part_with g q.elements) it.2 refl,
            ))),
            (λ h. subst (λ (q : Part). Contains parts q) (sym h.1)
                (contains_mapped (part_with g) found.0 p.elements ((found.2 p.elements).1 (listed p.elements h.0, h.0)))),
          );
          in_order = pairs_map PartBefore (part_with g) found.0 found.1;
          verdict = refl;
        },
      )
