-- The boxes of a step are those of its children's elements, each once and of its kind.
use Rattle.std.proofs.Common.{arith, ◌≡◌, ◌≢◌, ◌⊎◌, inl, inr, ℕ, List, [], ◌∷◌, Result, Ok, ap, sym, subst}
use Rattle.std.specs.Prelude.{Contains}
use Rattle.sk_base.specs.declared.Elem.{Elem}
use Rattle.sk_base.specs.declared.Kind.{Kind}
use Rattle.sk_base.specs.declared.Graph.{Graph}
use Rattle.sk_base.specs.Numbering.{elem_number, elem_exact}
use Rattle.sk_base.specs.Rising.{union}
use Rattle.sk_base.specs.SoundGraph.{HasNode}
use Rattle.sk_base.proofs.Members.{contains_none, contains_cases}
use Rattle.sk_base.proofs.Unions.{which, contains_put_cases, union_cases}
use Rattle.sk_steps.specs.declared.BoxOf.{BoxOf}
use Rattle.sk_steps.specs.Boxes.{kind_of}
use Rattle.sk_steps.specs.ThirdElement.{third_element}
use Rattle.sk_tree.specs.declared.PlanStep.{PlanStep}
use Rattle.sk_place.specs.declared.boxes.BoxAt.{BoxAt}
use Rattle.sk_place.specs.Settling.{settled_box}
use Rattle.sk_place.specs.declared.settling.PlaceBy.{PlaceBy}
use Rattle.sk_place.specs.declared.fault.Phase.TheVariants.{Build, First, Second}
use Rattle.sk_place.specs.declared.fault.StepFault.{StepFault}
use Rattle.sk_place.specs.declared.setting.Setting.{Setting}
use Rattle.sk_place.specs.Clusters.{Rise, Holds, number_of, elements_of, box_of, with_box, with_boxes}
use Rattle.sk_place.specs.Carrying.{faulty, and_then, carried_child}
use Rattle.sk_place.specs.Steps.{given, with_children, joined_in, HasCorners}
use Rattle.sk_place.specs.Running.{AreOfKinds}
use Rattle.sk_place.proofs.Lookups.{rises_with}
use Rattle.sk_place.proofs.Corners.{has_box, holds_with, holds_new, put_holds, rises_with_all}
use Rattle.sk_place.specs.Rounding.{IsBoundedBox}
use Rattle.sk_place.proofs.Fitting.{IsOfGraph, kind_at}
use Rattle.sk_place.proofs.Results.{child_bounded, then_ok, faulty_ok, third_kind, third_within, child_nodes, IsLike, carried_from, carried_to, holds_more}

-- an element of the boxes that are put has a box then: its own, or another that was there
of_carried : {G : Type 0} (more rest : List (BoxAt G)) (e : Elem) → Holds more e → Holds (with_boxes more rest) e
unfolding union
of_carried [] rest e h = absurd (contains_none e h)
of_carried (b ∷ more) rest e h = elim (contains_cases b.elem (elements_of more) e h) [
  | inl here ↦ subst (λ (x : Elem). Holds (with_box b (with_boxes more rest)) x) here (put_holds b (with_boxes more rest))
  | inr later ↦ holds_with b (with_boxes more rest) e (of_carried more rest e later)
]

-- one of the three children holds the element
abbrev pub HoldsOne : {G : Type 0} → Setting G → Elem → Type 0
HoldsOne t e = Holds t.kept e ⊎ (Holds t.first e ⊎ Holds t.second e)

pub record IsResult {G : Type 0} (F : ℕ) (t : Setting G) (bs : List (BoxAt G)) : Type 0 where
  pub rises : Rise bs
  pub from : (b : BoxAt G) → Contains bs b → HoldsOne t b.elem
  pub to : (e : Elem) → HoldsOne t e → Holds bs e
  pub kinds : (g : Graph) → IsOfGraph g t → AreOfKinds g bs
  pub bounded : ((b : BoxAt G) → Contains t.kept b → IsBoundedBox F b.at) → (b : BoxAt G) → Contains bs b → IsBoundedBox F b.at

like_held : {G : Type 0} (child : List (BoxAt G)) (b : BoxAt G) → IsLike child b → Holds child b.elem
like_held child b h = subst (λ (x : Elem). Holds child x) h.elem (has_box child h.box h.there)

like_kind : {G : Type 0} (g : Graph) (child : List (BoxAt G)) (b : BoxAt G) → AreOfKinds g child → IsLike child b → HasNode g b.elem (kind_of b.at)
like_kind g child b kinds h =
    subst (λ (x : Elem). HasNode g x (kind_of b.at)) h.elem (subst (λ (k : Kind). HasNode g h.box.elem k) h.kind (kinds h.box h.there))

-- an element is one of two, or none
one_of : (e p q : Elem) → (e ≡ p) ⊎ ((e ≡ q) ⊎ ((e ≢ p) × (e ≢ q)))
one_of e p q = elim (same e p) [ inl is ↦ inl is | inr not_p ↦ elim (same e q) [ inl is ↦ inr (inl is) | inr not_q ↦ inr (inr (not_p, not_q)) ] ]
  where
    same : (x y : Elem) → (x ≡ y) ⊎ (x ≢ y)
    same x y = elim (which x.0 y.0) [
      | inl less ↦ inr (λ e. let level = ap elem_number e in absurd (omega arith))
      | inr (inl level) ↦ inl (elem_exact x y level)
      | inr (inr more) ↦ inr (λ e. let level = ap elem_number e in absurd (omega arith))
    ]

module _ {G : Type 0} (placing : PlaceBy) (F : ℕ) (s : PlanStep) (t : Setting G) (corners : HasCorners t) (bs : List (BoxAt G)) (is : joined_in placing F s t ≡ Ok bs) where
  built : (w : BoxOf G) × (faulty s.step Build t.w (settled_box placing F (third_element F (given s.choice t))) ≡ Ok w)
      × (with_children placing F s.step t (with_box (record { elem = t.w; at = w }) t.kept) ≡ Ok bs)
  built = then_ok (faulty s.step Build t.w (settled_box placing F (third_element F (given s.choice t)))) _ bs is

  new : BoxAt G
  new = record { elem = t.w; at = built.0 }

  now : List (BoxAt G)
  now = with_box (record { elem = t.w; at = built.0 }) t.kept

  carried_first : (xs : List (BoxAt G)) × (carried_child placing F s.step First t.u t.w t.first (with_box (record { elem = t.w; at = built.0 }) t.kept) ≡ Ok xs)
      × (and_then (carried_child placing F s.step Second t.v t.w t.second (with_box (record { elem = t.w; at = built.0 }) t.kept)) (λ ys. Ok (with_boxes ys (with_boxes xs (with_box (record { elem = t.w; at = built.0 }) t.kept)))) ≡ Ok bs)
  carried_first = then_ok (carried_child placing F s.step First t.u t.w t.first (with_box (record { elem = t.w; at = built.0 }) t.kept)) _ bs built.2

  carried_second : (ys : List (BoxAt G)) × (carried_child placing F s.step Second t.v t.w t.second (with_box (record { elem = t.w; at = built.0 }) t.kept) ≡ Ok ys)
      × ((let all : Result (List (BoxAt G)) StepFault = Ok (with_boxes ys (with_boxes carried_first.0 (with_box (record { elem = t.w; at = built.0 }) t.kept))) in all) ≡ Ok bs)
  carried_second = then_ok (carried_child placing F s.step Second t.v t.w t.second (with_box (record { elem = t.w; at = built.0 }) t.kept)) _ bs carried_first.2

  bs_are : with_boxes carried_second.0 (with_boxes carried_first.0 now) ≡ bs
  unfolding now
  bs_are = cc carried_second.2

  data Origin (b : BoxAt G) : Type 0 where
    of_second : IsLike t.second b → IsBoundedBox F b.at → Origin b
    of_first : IsLike t.first b → IsBoundedBox F b.at → Origin b
    of_new : new ≡ b → Origin b
    of_kept : Contains t.kept b → Origin b

  origin : (b : BoxAt G) → Contains bs b → Origin b
  unfolding now new
  origin b h =
      let there : Contains (with_boxes carried_second.0 (with_boxes carried_first.0 now)) b = subst (λ (xs : List (BoxAt G)). Contains xs b) (sym bs_are) h in
      elim (union_cases number_of carried_second.0 (with_boxes carried_first.0 now) b there) [
        | inl y ↦ of_second (carried_from t.v t.w t.second carried_second.0 (child_nodes placing F s.step Second t.v t.w t.second now carried_second.0 carried_second.1) b y) (child_bounded placing F s.step Second t.v t.w t.second now carried_second.0 carried_second.1 b y)
        | inr rest ↦ elim (union_cases number_of carried_first.0 now b rest) [
          | inl x ↦ of_first (carried_from t.u t.w t.first carried_first.0 (child_nodes placing F s.step First t.u t.w t.first now carried_first.0 carried_first.1) b x) (child_bounded placing F s.step First t.u t.w t.first now carried_first.0 carried_first.1 b x)
          | inr left ↦ elim (contains_put_cases number_of new t.kept b left) [
            | inl w ↦ of_new w
            | inr k ↦ of_kept k
          ]
        ]
      ]

  from : (b : BoxAt G) → Contains bs b → HoldsOne t b.elem
  unfolding new
  from b h = elim (origin b h) [
    | of_second like within ↦ inr (inr (like_held t.second b like))
    | of_first like within ↦ inr (inl (like_held t.first b like))
    | of_new w ↦ inr (inl (subst (λ (x : BoxAt G). Holds t.first x.elem) w corners.first_w))
    | of_kept k ↦ inl (has_box t.kept b k)
  ]

  kinds : (g : Graph) → IsOfGraph g t → AreOfKinds g bs
  unfolding new
  kinds g of_graph b h = elim (origin b h) [
    | of_second like within ↦ like_kind g t.second b of_graph.second like
    | of_first like within ↦ like_kind g t.first b of_graph.first like
    | of_new w ↦
        let kind : kind_of built.0 ≡ kind_of (box_of t.first t.w) =
        third_kind placing F (given s.choice t) built.0 (faulty_ok s.step Build t.w (settled_box placing F (third_element F (given s.choice t))) built.0 built.1) in
        subst (λ (x : BoxAt G). HasNode g x.elem (kind_of x.at)) w
        (subst (λ (k : Kind). HasNode g t.w k) (sym kind) (kind_at g t.first t.w corners.first_rises of_graph.first corners.first_w))
    | of_kept k ↦ of_graph.kept b k
  ]

  limits : ((b : BoxAt G) → Contains t.kept b → IsBoundedBox F b.at) → (b : BoxAt G) → Contains bs b → IsBoundedBox F b.at
  unfolding new
  limits kept b h = elim (origin b h) [
    | of_second like within ↦ within
    | of_first like within ↦ within
    | of_new w ↦ subst (λ (x : BoxAt G). IsBoundedBox F x.at) w
        (third_within placing F (given s.choice t) built.0 (faulty_ok s.step Build t.w (settled_box placing F (third_element F (given s.choice t))) built.0 built.1))
    | of_kept k ↦ kept b k
  ]

  of_now : (e : Elem) → Holds now e → Holds bs e
  of_now e h = subst (λ (xs : List (BoxAt G)). Holds xs e) bs_are (holds_more carried_second.0 (with_boxes carried_first.0 now) e (holds_more carried_first.0 now e h))

  to : (e : Elem) → HoldsOne t e → Holds bs e
  unfolding now
  to e (inl k) = of_now e (holds_with (record { elem = t.w; at = built.0 }) t.kept e k)
  to e (inr (inl x)) = elim (one_of e t.u t.w) [
    | inl is_u ↦ of_now e (holds_with (record { elem = t.w; at = built.0 }) t.kept e (subst (λ (z : Elem). Holds t.kept z) (sym is_u) corners.kept_u))
    | inr (inl is_w) ↦ of_now e (subst (λ (z : Elem). Holds now z) (sym is_w) (holds_new (record { elem = t.w; at = built.0 }) t.kept corners.new))
    | inr (inr other) ↦
        let there = carried_to t.u t.w t.first carried_first.0 (child_nodes placing F s.step First t.u t.w t.first now carried_first.0 carried_first.1) e x other.0 other.1 in
        subst (λ (xs : List (BoxAt G)). Holds xs e) bs_are (holds_more carried_second.0 (with_boxes carried_first.0 now) e (of_carried carried_first.0 now e there))
  ]
  to e (inr (inr y)) = elim (one_of e t.v t.w) [
    | inl is_v ↦ of_now e (holds_with (record { elem = t.w; at = built.0 }) t.kept e (subst (λ (z : Elem). Holds t.kept z) (sym is_v) corners.kept_v))
    | inr (inl is_w) ↦ of_now e (subst (λ (z : Elem). Holds now z) (sym is_w) (holds_new (record { elem = t.w; at = built.0 }) t.kept corners.new))
    | inr (inr other) ↦
        let there = carried_to t.v t.w t.second carried_second.0 (child_nodes placing F s.step Second t.v t.w t.second now carried_second.0 carried_second.1) e y other.0 other.1 in
        subst (λ (xs : List (BoxAt G)). Holds xs e) bs_are (of_carried carried_second.0 (with_boxes carried_first.0 now) e there)
  ]

  pub result_in : IsResult F t bs
  unfolding now
  result_in = record {
    rises = subst Rise bs_are (rises_with_all carried_second.0 (with_boxes carried_first.0 now) (rises_with_all carried_first.0 now (rises_with (record { elem = t.w; at = built.0 }) t.kept corners.kept_rises)));
    from = from;
    to = to;
    kinds = kinds;
    bounded = limits;
  }
