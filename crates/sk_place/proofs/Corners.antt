-- What the kept child holds once w is there, and the corners of a setting in order.
use Rattle.std.proofs.Common.{◌≡◌, inl, inr, Bool, true, false, List, [], ◌∷◌, refl, ap, sym, subst, ◌∙◌}
use Rattle.std.specs.Prelude.{Contains, map, if◌then◌else◌}
use Rattle.sk_base.specs.declared.Elem.{Elem}
use Rattle.sk_base.specs.Numbering.{elem_exact}
use Rattle.sk_base.specs.Rising.{put}
use Rattle.sk_base.proofs.Members.{contains_head, contains_later, contains_mapped}
use Rattle.sk_base.proofs.Unions.{which, put_first, put_same, put_later, contains_put_other, rising_union}
use Rattle.sk_steps.specs.declared.BoxOf.{BoxOf}
use Rattle.sk_steps.specs.Boxes.{kind_of}
use Rattle.sk_place.specs.declared.boxes.BoxAt.{BoxAt}
use Rattle.sk_place.specs.declared.setting.Setting.{Setting}
use Rattle.sk_place.specs.Clusters.{Rise, Holds, number_of, box_of, with_box, with_boxes, comes_first}
use Rattle.sk_place.specs.Carrying.{AreShared}
use Rattle.sk_place.specs.Steps.{exchanged, ordered, HasCorners, HasKinds}
use Rattle.sk_place.proofs.Lookups.{IsBoxOf, held_box, box_is, rises_with}

module _ {G : Type 0} where
  pub has_box : (bs : List (BoxAt G)) (b : BoxAt G) → Contains bs b → Holds bs b.elem
  has_box bs b h = contains_mapped (λ (x : BoxAt G). x.elem) bs b h

  pub still_there : (b : BoxAt G) (bs : List (BoxAt G)) (e : Elem) (x : BoxAt G) → IsBoxOf bs e x → IsBoxOf (with_box b bs) e x
  still_there b bs e x h = record { there = contains_put_other number_of b bs x h.there; is = h.is }

  pub holds_with : (b : BoxAt G) (bs : List (BoxAt G)) (e : Elem) → Holds bs e → Holds (with_box b bs) e
  holds_with b bs e h =
      let found = held_box bs e h in
      subst (λ (x : Elem). Holds (with_box b bs) x) found.1.is (has_box (with_box b bs) found.0 (still_there b bs e found.0 found.1).there)

  -- a box whose element has none is put
  pub put_new : (b : BoxAt G) (bs : List (BoxAt G)) → ¬ Holds bs b.elem → Contains (with_box b bs) b
  unfolding put
  put_new b [] new = contains_head b []
  put_new b (y ∷ ys) new = elim (which (number_of b) (number_of y)) [
    | inl first ↦ rw (put_first number_of b y ys first) (contains_head b (y ∷ ys))
    | inr (inl same) ↦ absurd (new (subst (λ (x : Elem). Holds (y ∷ ys) x) (elem_exact y.elem b.elem (sym same)) (contains_head y.elem (map (λ (x : BoxAt G). x.elem) ys))))
    | inr (inr later) ↦ rw (put_later number_of b y ys later)
        (contains_later y (with_box b ys) b (put_new b ys (λ h. new (contains_later y.elem (map (λ (x : BoxAt G). x.elem) ys) b.elem h))))
  ]

  -- an element whose box is put has one
  pub put_holds : (b : BoxAt G) (bs : List (BoxAt G)) → Holds (with_box b bs) b.elem
  unfolding put
  put_holds b [] = contains_head b.elem []
  put_holds b (y ∷ ys) = elim (which (number_of b) (number_of y)) [
    | inl first ↦ rw (put_first number_of b y ys first) (contains_head b.elem (map (λ (x : BoxAt G). x.elem) (y ∷ ys)))
    | inr (inl same) ↦ rw (put_same number_of b y ys same)
        (subst (λ (x : Elem). Holds (y ∷ ys) x) (elem_exact y.elem b.elem (sym same)) (contains_head y.elem (map (λ (x : BoxAt G). x.elem) ys)))
    | inr (inr later) ↦ rw (put_later number_of b y ys later) (contains_later y.elem (map (λ (x : BoxAt G). x.elem) (with_box b ys)) b.elem (put_holds b ys))
  ]

  pub holds_new : (b : BoxAt G) (bs : List (BoxAt G)) → ¬ Holds bs b.elem → Holds (with_box b bs) b.elem
  holds_new b bs new = has_box (with_box b bs) b (put_new b bs new)

  pub box_new : (b : BoxAt G) (bs : List (BoxAt G)) → Rise bs → ¬ Holds bs b.elem → box_of (with_box b bs) b.elem ≡ b.at
  box_new b bs rises new = box_is (with_box b bs) b.elem b (rises_with b bs rises) (record { there = put_new b bs new; is = refl })

  pub box_same : (b : BoxAt G) (bs : List (BoxAt G)) (e : Elem) → Rise bs → Holds bs e → box_of (with_box b bs) e ≡ box_of bs e
  box_same b bs e rises h =
      let found = held_box bs e h in
      box_is (with_box b bs) e found.0 (rises_with b bs rises) (still_there b bs e found.0 found.1) ∙ sym (box_is bs e found.0 rises found.1)

  pub rises_with_all : (more bs : List (BoxAt G)) → Rise bs → Rise (with_boxes more bs)
  rises_with_all more bs rises = rising_union number_of more bs rises

  -- ---- in a setting

  pub shared_first : (t : Setting G) (w : BoxOf G) → HasCorners t → HasKinds t w → AreShared t.u t.w t.first (with_box (record { elem = t.w; at = w }) t.kept)
  shared_first t w corners kinds =
      let b : BoxAt G = record { elem = t.w; at = w } in record {
        child_rises = corners.first_rises;
        now_rises = rises_with b t.kept corners.kept_rises;
        child_p = corners.first_u;
        child_q = corners.first_w;
        now_p = holds_with b t.kept t.u corners.kept_u;
        now_q = holds_new b t.kept corners.new;
        p_alike = kinds.u_alike ∙ sym (ap kind_of (box_same b t.kept t.u corners.kept_rises corners.kept_u));
        q_alike = kinds.first_w ∙ sym (ap kind_of (box_new b t.kept corners.kept_rises corners.new));
      }

  pub shared_second : (t : Setting G) (w : BoxOf G) → HasCorners t → HasKinds t w → AreShared t.v t.w t.second (with_box (record { elem = t.w; at = w }) t.kept)
  shared_second t w corners kinds =
      let b : BoxAt G = record { elem = t.w; at = w } in record {
        child_rises = corners.second_rises;
        now_rises = rises_with b t.kept corners.kept_rises;
        child_p = corners.second_v;
        child_q = corners.second_w;
        now_p = holds_with b t.kept t.v corners.kept_v;
        now_q = holds_new b t.kept corners.new;
        p_alike = kinds.v_alike ∙ sym (ap kind_of (box_same b t.kept t.v corners.kept_rises corners.kept_v));
        q_alike = kinds.second_w ∙ sym (ap kind_of (box_new b t.kept corners.kept_rises corners.new));
      }

  pub corners_exchanged : (t : Setting G) → HasCorners t → HasCorners (exchanged t)
  corners_exchanged t h = record {
    kept_rises = h.kept_rises;
    first_rises = h.second_rises;
    second_rises = h.first_rises;
    kept_u = h.kept_v;
    kept_v = h.kept_u;
    first_u = h.second_v;
    first_w = h.second_w;
    second_v = h.first_u;
    second_w = h.first_w;
    new = h.new;
  }

  pub corners_ordered : (t : Setting G) → HasCorners t → HasCorners (ordered t)
  corners_ordered t h = either (comes_first t.kept t.u t.v)
    where
      either : (b : Bool) → HasCorners (if b then t else exchanged t)
      either true = h
      either false = corners_exchanged t h
