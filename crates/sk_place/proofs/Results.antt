-- What a step's boxes are of: its children's elements, each of its kind.
use Rattle.std.proofs.Common.{◌≡◌, ◌≢◌, inl, inr, ℕ, true, false, List, [], ◌∷◌, Result, Ok, Err, refl, ap, sym, subst, ◌∙◌, arith}
use Rattle.std.specs.Prelude.{Contains, ◌==◌, ◌||◌, not, IfOk}
use Rattle.std.proofs.lemmas.Bool.{cases_Bool}
use Rattle.std.proofs.lemmas.Bool.Decides.{nat_tests}
use Rattle.sk_base.specs.declared.Elem.{Elem}
use Rattle.sk_base.specs.declared.Kind.{Kind}
use Rattle.sk_base.specs.declared.Name.{Name}
use Rattle.sk_base.specs.declared.Node.{Node}
use Rattle.sk_base.specs.Numbering.{elem_exact}
use Rattle.sk_base.proofs.Members.{contains_mapped, mapped_from, contains_filtered, filtered_from, contains_none, contains_cases}
use Rattle.sk_base.proofs.Unions.{union_right}
use Rattle.sk_interval.specs.declared.Cause.{Cause}
use Rattle.sk_steps.specs.declared.BoxOf.{BoxOf}
use Rattle.sk_steps.specs.declared.What.{What}
use Rattle.sk_steps.specs.declared.Given.{Given}
use Rattle.sk_steps.specs.Boxes.{kind_of}
use Rattle.sk_steps.specs.Quantities.{evaluate}
use Rattle.sk_steps.specs.ThirdElement.{third_element, construction, inputs}
use Rattle.sk_steps.proofs.KindLemmas.{box_of-kind}
use Rattle.sk_steps.specs.declared.Motion.{Motion}
use Rattle.sk_steps.specs.declared.Pair.{Pair}
use Rattle.sk_steps.specs.Motions.{motion}
use Rattle.sk_steps.specs.Carried.{carried}
use Rattle.sk_place.specs.declared.boxes.BoxAt.{BoxAt}
use Rattle.sk_place.specs.Settling.{settled_box, settled_turn}
use Rattle.sk_place.specs.declared.settling.PlaceBy.{PlaceBy}
use Rattle.sk_place.specs.declared.fault.Phase.{Phase}
use Rattle.sk_place.specs.declared.fault.BoxFault.{BoxFault}
use Rattle.sk_place.specs.Clusters.{Holds, number_of, nodes_of, with_boxes, besides, comes_first}
use Rattle.sk_place.specs.Carrying.{faulty, box_faulty, in_step, and_then, carried_each, pair_in, moved, carried_child}
use Rattle.sk_place.proofs.Lookups.{held_box}
use Rattle.sk_place.proofs.Corners.{has_box}
use Rattle.sk_place.specs.Rounding.{IsBoundedBox}
use Rattle.sk_place.proofs.Bounding.{third_bounded, carried_bounded}
use Rattle.sk_place.proofs.Settlings.{settled_from}

-- ---- results

pub then_ok : {X Y E : Type 0} (r : Result X E) (f : X → Result Y E) (y : Y) → and_then r f ≡ Ok y → (x : X) × (r ≡ Ok x) × (f x ≡ Ok y)
then_ok (Ok x) f y is = (x, refl, is)
then_ok (Err e) f y is = cc

pub faulty_ok : {X : Type 0} (step : Name) (phase : Phase) (elem : Elem) (r : Result X (What × Cause)) (x : X) → faulty step phase elem r ≡ Ok x → r ≡ Ok x
faulty_ok step phase elem (Ok y) x is = cc
faulty_ok step phase elem (Err c) x is = cc

pub box_ok : {X : Type 0} (elem : Elem) (r : Result X (What × Cause)) (x : X) → box_faulty elem r ≡ Ok x → r ≡ Ok x
box_ok elem (Ok y) x is = cc
box_ok elem (Err c) x is = cc

told_ok : {X : Type 0} (step : Name) (phase : Phase) (r : Result X BoxFault) (x : X) → in_step step phase r ≡ Ok x → r ≡ Ok x
told_ok step phase (Ok y) x is = cc
told_ok step phase (Err f) x is = cc

pub ok_inside : {X E : Type 0} (x y : X) → (let one : Result X E = Ok x in one ≡ Ok y) → x ≡ y
ok_inside x y e = cc

if_ok : {X E : Type 0} (P : X → Type 0) (r : Result X E) (x : X) → IfOk r P → r ≡ Ok x → P x
if_ok P (Ok y) x h is = subst P (ok_inside y x is) h
if_ok P (Err e) x h is = (let never : Err e ≡ Ok x = is in absurd (cc))

is_other : (x p q : Elem) → x ≢ p → x ≢ q → not ((x.0 == p.0) || (x.0 == q.0)) ≡ true
is_other x p q from_p from_q =
    let a : (x.0 == p.0) ≡ false = (let other : x.0 ≢ p.0 = λ e. from_p (elem_exact x p e) in grind (arith, nat_tests)) in
    let b : (x.0 == q.0) ≡ false = (let other : x.0 ≢ q.0 = λ e. from_q (elem_exact x q e) in grind (arith, nat_tests)) in
    rw (a, b) refl

module _ {G : Type 0} where
  -- ---- kinds

  pub third_kind : (placing : PlaceBy) (F : ℕ) (t : Given G) (w : BoxOf G) → settled_box placing F (third_element F t) ≡ Ok w → kind_of w ≡ kind_of t.wx
  third_kind placing F t w is =
      let made = settled_from placing F (third_element F t) w is in
      made.kind
      ∙ if_ok (λ (b : BoxOf G). kind_of b ≡ kind_of t.wx) (third_element F t) made.before
      (box_of-kind G (What × Cause) (kind_of t.wx) (evaluate F (inputs t) (construction t.root (kind_of t.u) (kind_of t.v) (kind_of t.wx)))) made.is

  carried_kind : (placing : PlaceBy) (F : ℕ) (m : Motion G) (b c : BoxOf G) → settled_box placing F (carried F m b) ≡ Ok c → kind_of c ≡ kind_of b
  carried_kind placing F m b c is =
      let made = settled_from placing F (carried F m b) c is in
      made.kind
      ∙ if_ok (λ (x : BoxOf G). kind_of x ≡ kind_of b) (carried F m b) made.before
      (box_of-kind G (What × Cause) (kind_of b) _) made.is

  -- ---- limits

  pub third_within : (placing : PlaceBy) (F : ℕ) (t : Given G) (w : BoxOf G) → settled_box placing F (third_element F t) ≡ Ok w → IsBoundedBox F w
  third_within placing F t w is = (let made = settled_from placing F (third_element F t) w is in made.bounded (third_bounded F t made.before made.is))

  carried_within : (placing : PlaceBy) (F : ℕ) (m : Motion G) (b c : BoxOf G) → settled_box placing F (carried F m b) ≡ Ok c → IsBoundedBox F c
  carried_within placing F m b c is = (let made = settled_from placing F (carried F m b) c is in made.bounded (carried_bounded F m b made.before made.is))

  -- ---- carried boxes

  pub each_nodes : (placing : PlaceBy) (F : ℕ) (m : Motion G) (bs ys : List (BoxAt G)) → carried_each placing F m bs ≡ Ok ys → nodes_of ys ≡ nodes_of bs
  each_nodes placing F m [] ys is = ap nodes_of (sym (ok_inside [] ys is))
  each_nodes placing F m (b ∷ bs) ys is =
      let one = then_ok (box_faulty b.elem (settled_box placing F (carried F m b.at))) _ ys is in
      let others = then_ok (carried_each placing F m bs) _ ys one.2 in
      let ys_is : record { elem = b.elem; at = one.0 } ∷ others.0 ≡ ys = ok_inside (record { elem = b.elem; at = one.0 } ∷ others.0) ys others.2 in
      let kind : kind_of one.0 ≡ kind_of b.at = carried_kind placing F m b.at one.0 (box_ok b.elem (settled_box placing F (carried F m b.at)) one.0 one.1) in
      ap nodes_of (sym ys_is)
      ∙ ap (λ (k : Kind). record { elem = b.elem; kind = k } ∷ nodes_of others.0) kind
      ∙ ap (λ (ns : List Node). record { elem = b.elem; kind = kind_of b.at } ∷ ns) (each_nodes placing F m bs others.0 others.1)

  moved_nodes : (placing : PlaceBy) (F : ℕ) (step : Name) (phase : Phase) (p : Elem) (old new : Pair G) (bs ys : List (BoxAt G)) → moved placing F step phase p old new bs ≡ Ok ys → nodes_of ys ≡ nodes_of bs
  moved_nodes placing F step phase p old new [] ys is = ap nodes_of (sym (ok_inside [] ys is))
  moved_nodes placing F step phase p old new (b ∷ bs) ys is =
      let by = then_ok (faulty step phase p (settled_turn placing F (motion F old new))) _ ys is in
      each_nodes placing F by.0 (b ∷ bs) ys (told_ok step phase _ ys by.2)

  pub child_nodes : (placing : PlaceBy) (F : ℕ) (step : Name) (phase : Phase) (p q : Elem) (child now ys : List (BoxAt G)) → carried_child placing F step phase p q child now ≡ Ok ys → nodes_of ys ≡ nodes_of (besides p q child)
  child_nodes placing F step phase p q child now ys is = elim (cases_Bool (comes_first child p q)) [
    | inl first ↦ moved_nodes placing F step phase p (pair_in child p q) (pair_in now p q) (besides p q child) ys (rw first at is)
    | inr other ↦ moved_nodes placing F step phase q (pair_in child q p) (pair_in now q p) (besides p q child) ys (rw other at is)
  ]

  pub each_bounded : (placing : PlaceBy) (F : ℕ) (m : Motion G) (bs ys : List (BoxAt G)) → carried_each placing F m bs ≡ Ok ys → (b : BoxAt G) → Contains ys b → IsBoundedBox F b.at
  each_bounded placing F m [] ys is b h = absurd (contains_none b (subst (λ (xs : List (BoxAt G)). Contains xs b) (sym (ok_inside [] ys is)) h))
  each_bounded placing F m (c ∷ cs) ys is b h =
      let one = then_ok (box_faulty c.elem (settled_box placing F (carried F m c.at))) _ ys is in
      let others = then_ok (carried_each placing F m cs) _ ys one.2 in
      let ys_is : record { elem = c.elem; at = one.0 } ∷ others.0 ≡ ys = ok_inside (record { elem = c.elem; at = one.0 } ∷ others.0) ys others.2 in
      elim (contains_cases (record { elem = c.elem; at = one.0 }) others.0 b (subst (λ (xs : List (BoxAt G)). Contains xs b) (sym ys_is) h)) [
        | inl here ↦ subst (λ (x : BoxAt G). IsBoundedBox F x.at) here (carried_within placing F m c.at one.0 (box_ok c.elem (settled_box placing F (carried F m c.at)) one.0 one.1))
        | inr later ↦ each_bounded placing F m cs others.0 others.1 b later
      ]

  moved_bounded : (placing : PlaceBy) (F : ℕ) (step : Name) (phase : Phase) (p : Elem) (old new : Pair G) (bs ys : List (BoxAt G)) → moved placing F step phase p old new bs ≡ Ok ys → (b : BoxAt G) → Contains ys b → IsBoundedBox F b.at
  moved_bounded placing F step phase p old new [] ys is b h = absurd (contains_none b (subst (λ (xs : List (BoxAt G)). Contains xs b) (sym (ok_inside [] ys is)) h))
  moved_bounded placing F step phase p old new (c ∷ cs) ys is b h =
      let by = then_ok (faulty step phase p (settled_turn placing F (motion F old new))) _ ys is in
      each_bounded placing F by.0 (c ∷ cs) ys (told_ok step phase _ ys by.2) b h

  pub child_bounded : (placing : PlaceBy) (F : ℕ) (step : Name) (phase : Phase) (p q : Elem) (child now ys : List (BoxAt G)) → carried_child placing F step phase p q child now ≡ Ok ys → (b : BoxAt G) → Contains ys b → IsBoundedBox F b.at
  child_bounded placing F step phase p q child now ys is b h = elim (cases_Bool (comes_first child p q)) [
    | inl first ↦ moved_bounded placing F step phase p (pair_in child p q) (pair_in now p q) (besides p q child) ys (rw first at is) b h
    | inr other ↦ moved_bounded placing F step phase q (pair_in child q p) (pair_in now q p) (besides p q child) ys (rw other at is) b h
  ]

  -- a box with the same element and kind
  pub record IsLike (bs : List (BoxAt G)) (b : BoxAt G) : Type 0 where
    pub box : BoxAt G
    pub there : Contains bs box
    pub elem : box.elem ≡ b.elem
    pub kind : kind_of box.at ≡ kind_of b.at

  pub carried_from : (p q : Elem) (child ys : List (BoxAt G)) → nodes_of ys ≡ nodes_of (besides p q child) → (b : BoxAt G) → Contains ys b → IsLike child b
  carried_from p q child ys is b h =
      let node : BoxAt G → Node = λ x. record { elem = x.elem; kind = kind_of x.at } in
      let there : Contains (nodes_of (besides p q child)) (node b) = subst (λ (ns : List Node). Contains ns (node b)) is (contains_mapped node ys b h) in
      let from = mapped_from node (besides p q child) (node b) there in
      record {
        box = from.0;
        there = (filtered_from (λ (x : BoxAt G). not ((x.elem.0 == p.0) || (x.elem.0 == q.0))) child from.0 from.1).0;
        elem = ap (λ (n : Node). n.elem) from.2;
        kind = ap (λ (n : Node). n.kind) from.2;
      }

  pub carried_to : (p q : Elem) (child ys : List (BoxAt G)) → nodes_of ys ≡ nodes_of (besides p q child) → (e : Elem) → Holds child e → e ≢ p → e ≢ q → Holds ys e
  carried_to p q child ys is e h from_p from_q =
      let node : BoxAt G → Node = λ x. record { elem = x.elem; kind = kind_of x.at } in
      let found = held_box child e h in
      let x : BoxAt G = found.0 in
      let x_is : x.elem ≡ e = found.1.is in
      let passes = is_other x.elem p q (λ same. from_p (sym x_is ∙ same)) (λ same. from_q (sym x_is ∙ same)) in
      let stays : Contains (besides p q child) x = contains_filtered (λ (y : BoxAt G). not ((y.elem.0 == p.0) || (y.elem.0 == q.0))) child x found.1.there passes in
      let there : Contains (nodes_of ys) (node x) = subst (λ (ns : List Node). Contains ns (node x)) (sym is) (contains_mapped node (besides p q child) x stays) in
      let from = mapped_from node ys (node x) there in
      subst (λ (z : Elem). Holds ys z) (ap (λ (n : Node). n.elem) from.2 ∙ x_is) (has_box ys from.0 from.1)

  -- ---- more boxes

  pub holds_more : (more bs : List (BoxAt G)) (e : Elem) → Holds bs e → Holds (with_boxes more bs) e
  holds_more more bs e h =
      let found = held_box bs e h in
      subst (λ (x : Elem). Holds (with_boxes more bs) x) found.1.is (has_box (with_boxes more bs) found.0 (union_right number_of more bs found.0 found.1.there))
