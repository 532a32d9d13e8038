-- How a family follows the edits of its graph.
use Rattle.std.proofs.Common.{◌≡◌, inl, inr, List, [], refl, ap, sym, subst, ◌∙◌}
use Rattle.std.specs.Prelude.{Contains}
use Rattle.sk_base.specs.declared.Elem.{Elem}
use Rattle.sk_base.specs.declared.ConId.{ConId}
use Rattle.sk_base.specs.declared.Graph.{Graph}
use Rattle.sk_base.specs.SoundGraph.{HasRisingEdges}
use Rattle.sk_family.specs.Body.{Body, Start, starts, starting, initial_bodies, SameBodies}
use Rattle.sk_base.proofs.Members.{contains_head, contains_mapped, mapped_from}
use Rattle.sk_family.proofs.Bodies.{body_settles, holder_of}
use Rattle.sk_family.specs.Rules.{IsLine}
use Rattle.sk_rules.specs.Reach.{Step, Reach, IsClosed, IsNormal}
use Rattle.sk_rules.specs.Keeping.{IsReached, IsOwned, HasOneMore, HasAllBut, KeepsKinds, Adopts, Dissolves}
use Rattle.sk_rules.proofs.Families.{kept_along}
use Rattle.sk_rules.proofs.NormalForm.{reach_covers, reached_family, normal_same}
use Rattle.sk_rules.specs.Excess.{HasInside}
use Rattle.sk_rules.proofs.Counting.{reached_tight}
use Rattle.sk_rules.proofs.Keeping.{others, same_start, reached_then, kept_is_reached}

-- each element of each body is one of a constraint
abbrev pub IsEnd : Graph → Elem → Type 0
IsEnd g e = (d : Start) × Contains (starts g) d × Contains d.elements e

abbrev HoldsEnds : Graph → List Body → Type 0
HoldsEnds g f = (x : Body) → Contains f x → (e : Elem) → Contains x.elements e → IsEnd g e

starts_hold_ends : (g : Graph) → HoldsEnds g (initial_bodies g)
starts_hold_ends g x x_in e e_in =
    let found = mapped_from starting (starts g) x x_in in
    (found.0, found.1, subst (λ (z : Body). Contains z.elements e) (sym found.2) e_in)

step_holds_ends : (g : Graph) (old new : List Body) → Step g old new → HoldsEnds g old → HoldsEnds g new
step_holds_ends g old new m holds x x_in e e_in =
    elim ((m.replaces x).0 x_in) [
      | inr stayed ↦ holds x stayed.0 e e_in
      | inl is ↦ (
          let holder = holder_of m.merged e (subst (λ (z : Body). Contains z.elements e) is e_in) in
          holds holder.0 (m.among holder.0 holder.1) e holder.2)
    ]

module _ (g : Graph) (f : List Body) (r : IsReached g f) where
  pub holds_ends : HoldsEnds g f
  holds_ends x x_in = kept_along g (HoldsEnds g) (step_holds_ends g) (initial_bodies g) r.reached_as r.reach (starts_hold_ends g) x ((r.same x).1 x_in)

  -- each constraint is owned
  pub each_owned : (d : Start) → Contains (starts g) d → IsOwned f d.number
  each_owned d d_in =
      let around = reach_covers g (initial_bodies g) r.reached_as r.reach (starting d) (contains_mapped starting (starts g) d d_in) in
      (around.0, (r.same around.0).0 around.1, around.2.owned d.number (contains_head d.number []))

  pub reached_edge : HasRisingEdges g → (x : Body) (k : ConId) → Contains f x → Contains x.owned k → HasInside g x k
  reached_edge rises x k x_in x_k = (reached_tight g r.reached_as rises r.reach).inside x ((r.same x).1 x_in) k x_k

  pub reached_apart : HasRisingEdges g → (x y : Body) (k : ConId) → Contains f x → Contains f y → Contains x.owned k → Contains y.owned k → x ≡ y
  reached_apart rises x y k x_in y_in = (reached_family g r.reached_as rises r.reach).apart x y k ((r.same x).1 x_in) ((r.same y).1 y_in)

module _ (old new : Graph) (f : List Body) (rises : HasRisingEdges new) (kinds : KeepsKinds old new) (r : IsReached old f) where
  lines_carry : (x : Body) → Contains f x → (e : Elem) → Contains x.elements e → IsLine new e → IsLine old e
  lines_carry x x_in e e_in line =
      let end = holds_ends old f r x x_in e e_in in
      kinds end.0 end.1 e end.2 line

  -- a family stays reached where each constraint starts as it did
  pub unchanged_is_reached : SameBodies (initial_bodies old) (initial_bodies new) → IsReached new f
  unchanged_is_reached same =
      kept_is_reached old new f f f rises r (λ x h. h)
      (λ x x_in. record {
        starts = λ d d_in owned. (same (starting d)).0 (contains_mapped starting (starts old) d d_in);
        lines = lines_carry x x_in;
      })
      (λ x. (
        (λ h. inl h),
        (λ h. elim h [
          | inl kept ↦ kept
          | inr (d, d_in, not, is) ↦ (
              let was = mapped_from starting (starts old) (starting d) ((same (starting d)).1 (contains_mapped starting (starts new) d d_in)) in
              let owner = each_owned old f r was.0 was.1 in
              absurd (not (owner.0, owner.1, subst (λ k. Contains owner.0.owned k) (same_start was.0 d was.2) owner.2)))
        ]),
      ))

  pub adopted_is_reached : HasRisingEdges old → (e : Start) (after : List Body) → HasOneMore e old new → Adopts f (starting e) after → IsReached new after
  adopted_is_reached rose e after more adopts =
      kept_is_reached old new f f after rises r (λ x h. h)
      (λ x x_in. record {
        starts = λ d d_in owned. contains_mapped starting (starts new) d ((more.starts d).1 (inr d_in));
        lines = lines_carry x x_in;
      })
      (λ x. (
        (λ h. elim ((adopts x).0 h) [
          | inr kept ↦ inl kept
          | inl is ↦ inr (
            e,
            (more.starts e).1 (inl refl),
            λ owned. (let edge = reached_edge old f r rose owned.0 e.number owned.1 owned.2 in more.free edge.0 edge.1 edge.2),
            is,
          )
        ]),
        (λ h. elim h [
          | inl kept ↦ (adopts x).1 (inr kept)
          | inr (d, d_in, not, is) ↦ elim ((more.starts d).0 d_in) [
            | inl same ↦ (adopts x).1 (inl (is ∙ ap starting same))
            | inr d_old ↦ absurd (not (each_owned old f r d d_old))
          ]
        ]),
      ))

  pub dissolved_is_reached : HasRisingEdges old → (x : Body) (k : ConId) (after : List Body) → Contains f x → Contains x.owned k → HasAllBut k old new → Dissolves new f x k after → IsReached new after
  dissolved_is_reached rose x k after x_in x_k less dissolves =
      let kept = others x f in
      let is_owner : (y : Body) (j : ConId) → Contains f y → Contains y.owned j → Contains x.owned j → y ≡ x = λ y j y_in y_j x_j. reached_apart old f r rose y x j y_in x_in y_j x_j in
      kept_is_reached old new f kept.0 after rises r (λ y h. ((kept.1 y).0 h).0)
      (λ y y_kept. (
      let was = (kept.1 y).0 y_kept in
      record {
        starts = λ d d_in y_d. contains_mapped starting (starts new) d ((less d).1 (d_in, λ is. was.1 (is_owner y k was.0 (subst (λ j. Contains y.owned j) is y_d) x_k)));
        lines = lines_carry y was.0;
      }))
      (λ y. (
        (λ h. elim ((dissolves y).0 h) [
          | inl stays ↦ inl ((kept.1 y).1 stays)
          | inr (d, d_in, x_d, other, is) ↦ inr (
            d,
            d_in,
            λ owned. (let was = (kept.1 owned.0).0 owned.1 in was.1 (is_owner owned.0 d.number was.0 owned.2 x_d)),
            is,
          )
        ]),
        (λ h. elim h [
          | inl is_kept ↦ (dissolves y).1 (inl ((kept.1 y).0 is_kept))
          | inr (d, d_in, not, is) ↦ (
              let was = (less d).0 d_in in
              let owner = each_owned old f r d was.0 in
              elim (body_settles owner.0 x) [
                | inl same ↦ (dissolves y).1 (inr (d, d_in, subst (λ (z : Body). Contains z.owned d.number) same owner.2, was.1, is))
                | inr differ ↦ absurd (not (owner.0, (kept.1 owner.0).1 (owner.1, differ), owner.2))
              ])
        ]),
      ))

-- from a kept family merging leads to the one normal family
pub kept_closes : (g : Graph) (f n other : List Body) → HasRisingEdges g → IsReached g f → Reach g f n → IsClosed g n → IsNormal g other → SameBodies n other
kept_closes g f n other rises r reach closed normal =
    let on = kept_along g (IsReached g) (λ a b one h. reached_then g a b h one) f n reach r in
    let same = normal_same g on.reached_as other rises
    (record { reached = on.reach; closed = λ some among can. closed some (λ x h. (on.same x).0 (among x h)) can })
    normal in
    λ x. ((λ h. (same x).0 ((on.same x).1 h)), (λ h. (on.same x).0 ((same x).1 h)))
