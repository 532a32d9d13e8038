-- Lists of boxes inside others.
use Rattle.std.proofs.Common.{◌≡◌, inl, inr, ℕ, ◌<◌, Bool, true, false, List, [], ◌∷◌, ap, ◌∙◌, arith}
use Rattle.std.specs.Prelude.{◌==◌, ◌||◌, not}
use Rattle.std.proofs.lemmas.Bool.{cases_Bool}
use Rattle.std.proofs.lemmas.Int.{ints}
use Rattle.sk_base.specs.declared.Elem.{Elem}
use Rattle.sk_base.specs.Numbering.{elem_number}
use Rattle.sk_base.specs.Rising.{put, union}
use Rattle.sk_base.proofs.Unions.{which, put_first, put_same, put_later}
use Rattle.sk_interval.specs.Nesting.{IsInside}
use Rattle.sk_steps.specs.Boxes.{zero as nought, kind_of}
use Rattle.sk_steps.specs.Nesting.{IsBoxInside}
use Rattle.sk_steps.proofs.NestingLemmas.{same_kind}
use Rattle.sk_place.specs.declared.boxes.BoxAt.{BoxAt}
use Rattle.sk_place.specs.Clusters.{number_of, box_of, with_box, with_boxes, besides, precedes, comes_first}
use Rattle.sk_place.specs.Nesting.{AreInside}

nought_inside : (k : ℕ) → IsInside k nought nought
nought_inside k = record { from = omega (arith, ints); ordered = omega (arith, ints); to = omega (arith, ints) }

module _ {G H : Type 0} (k : ℕ) where
  pub box_inside : (xs : List (BoxAt G)) (ys : List (BoxAt H)) (e : Elem) → AreInside k xs ys → IsBoxInside k (box_of xs e) (box_of ys e)
  box_inside [] [] e h = (nought_inside k, nought_inside k)
  box_inside [] (y ∷ ys) e h = absurd h
  box_inside (x ∷ xs) [] e h = absurd h
  box_inside (x ∷ xs) (y ∷ ys) e h = elim (cases_Bool (y.elem.0 == e.0)) [
    | inl is ↦ (let also : (x.elem.0 == e.0) ≡ true = ap (λ (d : Elem). d.0 == e.0) h.0 ∙ is in rw (is, also) h.1)
    | inr isnt ↦ (let also : (x.elem.0 == e.0) ≡ false = ap (λ (d : Elem). d.0 == e.0) h.0 ∙ isnt in rw (isnt, also) (box_inside xs ys e h.2))
  ]

  pub put_inside : (b : BoxAt G) (c : BoxAt H) (xs : List (BoxAt G)) (ys : List (BoxAt H)) → b.elem ≡ c.elem → IsBoxInside k b.at c.at → AreInside k xs ys
      → AreInside k (with_box b xs) (with_box c ys)
  unfolding put
  put_inside b c [] [] same at h = (same, at, tt)
  put_inside b c [] (y ∷ ys) same at h = absurd h
  put_inside b c (x ∷ xs) [] same at h = absurd h
  put_inside b c (x ∷ xs) (y ∷ ys) same at h =
      let b_is : number_of b ≡ number_of c = ap elem_number same in
      let x_is : number_of x ≡ number_of y = ap elem_number h.0 in
      elim (which (number_of c) (number_of y)) [
        | inl first ↦ (let also : number_of b < number_of x = omega arith in rw (put_first number_of b x xs also, put_first number_of c y ys first) (same, at, h))
        | inr (inl level) ↦ (let also : number_of b ≡ number_of x = omega arith in rw (put_same number_of b x xs also, put_same number_of c y ys level) h)
        | inr (inr later) ↦ (let also : number_of x < number_of b = omega arith in
            rw (put_later number_of b x xs also, put_later number_of c y ys later) (h.0, h.1, put_inside b c xs ys same at h.2))
      ]

  pub union_inside : (ws : List (BoxAt G)) (zs : List (BoxAt H)) (xs : List (BoxAt G)) (ys : List (BoxAt H)) → AreInside k ws zs → AreInside k xs ys
      → AreInside k (with_boxes ws xs) (with_boxes zs ys)
  unfolding union
  union_inside [] [] xs ys s h = h
  union_inside [] (z ∷ zs) xs ys s h = absurd s
  union_inside (w ∷ ws) [] xs ys s h = absurd s
  union_inside (w ∷ ws) (z ∷ zs) xs ys s h = put_inside w z (with_boxes ws xs) (with_boxes zs ys) s.0 s.1 (union_inside ws zs xs ys s.2 h)

  pub besides_inside : (p q : Elem) (xs : List (BoxAt G)) (ys : List (BoxAt H)) → AreInside k xs ys → AreInside k (besides p q xs) (besides p q ys)
  besides_inside p q [] [] h = tt
  besides_inside p q [] (y ∷ ys) h = absurd h
  besides_inside p q (x ∷ xs) [] h = absurd h
  besides_inside p q (x ∷ xs) (y ∷ ys) h =
      let test : Elem → Bool = λ e. not ((e.0 == p.0) || (e.0 == q.0)) in
      elim (cases_Bool (not ((y.elem.0 == p.0) || (y.elem.0 == q.0)))) [
        | inl is ↦ (let also : not ((x.elem.0 == p.0) || (x.elem.0 == q.0)) ≡ true = ap test h.0 ∙ is in rw (is, also) (h.0, h.1, besides_inside p q xs ys h.2))
        | inr isnt ↦ (let also : not ((x.elem.0 == p.0) || (x.elem.0 == q.0)) ≡ false = ap test h.0 ∙ isnt in rw (isnt, also) (besides_inside p q xs ys h.2))
      ]

  pub kind_inside : (xs : List (BoxAt G)) (ys : List (BoxAt H)) (e : Elem) → AreInside k xs ys → kind_of (box_of xs e) ≡ kind_of (box_of ys e)
  kind_inside xs ys e h = same_kind k (box_of xs e) (box_of ys e) (box_inside xs ys e h)

  pub first_inside : (xs : List (BoxAt G)) (ys : List (BoxAt H)) (p q : Elem) → AreInside k xs ys → comes_first xs p q ≡ comes_first ys p q
  first_inside xs ys p q h =
      ap (λ m. precedes m p (kind_of (box_of xs q)) q) (kind_inside xs ys p h) ∙ ap (λ m. precedes (kind_of (box_of ys p)) p m q) (kind_inside xs ys q h)
