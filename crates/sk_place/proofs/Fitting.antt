-- The three children of a legal step fit together.
use Rattle.std.proofs.Common.{◌≡◌, ◌≢◌, inl, inr, ℕ, ◌<◌, Bool, true, false, List, length, get_or, refl, ap, sym, subst, ◌∙◌, arith}
use Rattle.std.proofs.lemmas.Bool.Decides.{nat_tests}
use Rattle.std.specs.Prelude.{Contains, nat_lt, map, if◌then◌else◌}
use Rattle.std.proofs.lemmas.Bool.{cases_Bool}
use Rattle.std.proofs.lemmas.List.{get_or-map, length-map}
use Rattle.sk_base.specs.declared.Elem.{Elem}
use Rattle.sk_base.specs.declared.Kind.{Kind}
use Rattle.sk_base.specs.declared.Node.{Node}
use Rattle.sk_base.specs.declared.Graph.{Graph}
use Rattle.sk_base.specs.Numbering.{elem_number, elem_exact}
use Rattle.sk_base.specs.Rising.{IsRising}
use Rattle.sk_base.specs.SoundGraph.{HasNode, IsSoundGraph}
use Rattle.sk_base.specs.ClusterNames.{name_eq}
use Rattle.sk_base.proofs.Unions.{rising_apart}
use Rattle.sk_family.specs.declared.Cluster.{Cluster}
use Rattle.sk_steps.specs.declared.BoxOf.{BoxOf}
use Rattle.sk_steps.specs.Boxes.{kind_of}
use Rattle.sk_steps.specs.ThirdElement.{HasConstruction, IsConstructible}
use Rattle.sk_tree.specs.declared.Choice.{Choice}
use Rattle.sk_tree.specs.declared.PlanStep.{PlanStep}
use Rattle.sk_tree.specs.Meeting.{MeetsOnce}
use Rattle.sk_place.specs.declared.boxes.BoxAt.{BoxAt}
use Rattle.sk_place.specs.declared.setting.Setting.{Setting}
use Rattle.sk_place.specs.Clusters.{Rise, Holds, elements_of, box_of, precedes, comes_first}
use Rattle.sk_place.specs.Steps.{setting, exchanged, ordered, given, HasCorners}
use Rattle.sk_place.specs.Running.{AreOfKinds}
use Rattle.sk_place.proofs.Lookups.{held_box, box_is}
use Rattle.sk_place.proofs.Corners.{corners_exchanged}

-- boxes rise as their elements do
pub rise_of : {G : Type 0} (bs : List (BoxAt G)) (xs : List Elem) → elements_of bs ≡ xs → IsRising elem_number xs → Rise bs
rise_of {G} bs xs is rises i j d i_j j_len =
    let e : BoxAt G → Elem = λ b. b.elem in
    let size : length (map e bs) ≡ length bs = length-map bs e in
    let up = rises i j d.elem i_j (subst (λ (ys : List Elem). j < length ys) is (omega arith)) in
    let at : (k : ℕ) → k < length bs → get_or xs k d.elem ≡ (get_or bs k d).elem = λ k below. ap (λ (ys : List Elem). get_or ys k d.elem) (sym is) ∙ get_or-map e bs k d d.elem below in
    let low = ap elem_number (at i (omega arith)) in
    let high = ap elem_number (at j j_len) in
    omega arith

-- an element is of one kind
pub one_kind : (g : Graph) → IsSoundGraph g → (e : Elem) (k l : Kind) → HasNode g e k → HasNode g e l → k ≡ l
one_kind g sound e k l has_k has_l =
    ap (λ (n : Node). n.kind) (rising_apart (λ (n : Node). n.elem.0) g.nodes sound.nodes_rise (record { elem = e; kind = k }) (record { elem = e; kind = l }) has_k has_l refl)

-- the box of a held element is of its kind
pub kind_at : {G : Type 0} (g : Graph) (bs : List (BoxAt G)) (e : Elem) → Rise bs → AreOfKinds g bs → Holds bs e → HasNode g e (kind_of (box_of bs e))
kind_at g bs e rises kinds h =
    let found = held_box bs e h in
    let has : HasNode g found.0.elem (kind_of found.0.at) = kinds found.0 found.1.there in
    subst (λ (b : BoxOf _). HasNode g e (kind_of b)) (sym (box_is bs e found.0 rises found.1))
    (subst (λ (x : Elem). HasNode g x (kind_of found.0.at)) found.1.is has)

-- ---- constructions

pub record IsOfGraph {G : Type 0} (g : Graph) (t : Setting G) : Type 0 where
  pub kept : AreOfKinds g t.kept
  pub first : AreOfKinds g t.first
  pub second : AreOfKinds g t.second
  pub not_all_lines : ¬ (HasNode g t.u Kind.Line × HasNode g t.v Kind.Line × HasNode g t.w Kind.Line)

possible : (u v w : Kind) (p q : Elem) → precedes u p v q ≡ true → ¬ ((u ≡ Kind.Line) × (v ≡ Kind.Line) × (w ≡ Kind.Line)) → HasConstruction u v w
possible Kind.Point v w p q order some = tt
possible Kind.Line Kind.Point w p q order some = (let never : false ≡ true = order in absurd (cc))
possible Kind.Line Kind.Line Kind.Point p q order some = tt
possible Kind.Line Kind.Line Kind.Line p q order some = some (refl, refl, refl)

constructible_in : {G : Type 0} (g : Graph) → IsSoundGraph g → (choice : Choice) (t : Setting G) → HasCorners t → IsOfGraph g t → comes_first t.kept t.u t.v ≡ true → IsConstructible (given choice t)
constructible_in g sound choice t corners of_graph order =
    let kept_u = kind_at g t.kept t.u corners.kept_rises of_graph.kept corners.kept_u in
    let kept_v = kind_at g t.kept t.v corners.kept_rises of_graph.kept corners.kept_v in
    let first_u = kind_at g t.first t.u corners.first_rises of_graph.first corners.first_u in
    let first_w = kind_at g t.first t.w corners.first_rises of_graph.first corners.first_w in
    let second_v = kind_at g t.second t.v corners.second_rises of_graph.second corners.second_v in
    let second_w = kind_at g t.second t.w corners.second_rises of_graph.second corners.second_w in
    record {
      u_alike = one_kind g sound t.u _ _ first_u kept_u;
      v_alike = one_kind g sound t.v _ _ second_v kept_v;
      w_alike = one_kind g sound t.w _ _ second_w first_w;
      possible = possible (kind_of (box_of t.kept t.u)) (kind_of (box_of t.kept t.v)) (kind_of (box_of t.first t.w)) t.u t.v order
          (λ lines. of_graph.not_all_lines
          (subst (λ (k : Kind). HasNode g t.u k) lines.0 kept_u, subst (λ (k : Kind). HasNode g t.v k) lines.1 kept_v, subst (λ (k : Kind). HasNode g t.w k) lines.2 first_w));
    }

lesser : (p q : Elem) → p ≢ q → nat_lt p.0 q.0 ≡ false → nat_lt q.0 p.0 ≡ true
lesser p q differ order = (let other : p.0 ≢ q.0 = λ e. differ (elem_exact p q e) in grind (arith, nat_tests))

-- of two different elements that aren't in order, the other order is one
turned : (u v : Kind) (p q : Elem) → p ≢ q → precedes u p v q ≡ false → precedes v q u p ≡ true
turned Kind.Point Kind.Point p q differ order = lesser p q differ order
turned Kind.Point Kind.Line p q differ order = (let never : true ≡ false = order in absurd (cc))
turned Kind.Line Kind.Point p q differ order = refl
turned Kind.Line Kind.Line p q differ order = lesser p q differ order

pub constructible : {G : Type 0} (g : Graph) → IsSoundGraph g → (choice : Choice) (t : Setting G) → HasCorners t → IsOfGraph g t → t.u ≢ t.v → IsConstructible (given choice (ordered t))
constructible {G} g sound choice t corners of_graph differ = elim (cases_Bool (comes_first t.kept t.u t.v)) [
  | inl is ↦ rw is (constructible_in g sound choice t corners of_graph is)
  | inr isnt ↦ rw isnt (constructible_in g sound choice (exchanged t) (corners_exchanged t corners)
      (record { kept = of_graph.kept; first = of_graph.second; second = of_graph.first; not_all_lines = λ h. of_graph.not_all_lines (h.1, h.0, h.2) })
      (turned (kind_of (box_of t.kept t.u)) (kind_of (box_of t.kept t.v)) t.u t.v differ isnt))
]

-- ---- the setting of a legal step

module _ {G : Type 0} (g : Graph) (sound : IsSoundGraph g) (s : PlanStep) (one two three : Cluster) (x y z : List (BoxAt G))
    (x_is : elements_of x ≡ one.elements) (y_is : elements_of y ≡ two.elements) (z_is : elements_of z ≡ three.elements)
    (x_rises : IsRising elem_number one.elements) (y_rises : IsRising elem_number two.elements) (z_rises : IsRising elem_number three.elements)
    (meets : MeetsOnce g one.elements two.elements three.elements s.a s.b s.c) where
  a_in : Holds x s.a × Holds y s.a
  a_in = (subst (λ es. Contains es s.a) (sym x_is) meets.triangle.a_shared.0, subst (λ es. Contains es s.a) (sym y_is) meets.triangle.a_shared.1)

  b_in : Holds y s.b × Holds z s.b
  b_in = (subst (λ es. Contains es s.b) (sym y_is) meets.triangle.b_shared.0, subst (λ es. Contains es s.b) (sym z_is) meets.triangle.b_shared.1)

  c_in : Holds z s.c × Holds x s.c
  c_in = (subst (λ es. Contains es s.c) (sym z_is) meets.triangle.c_shared.0, subst (λ es. Contains es s.c) (sym x_is) meets.triangle.c_shared.1)

  -- no corner is in the child opposite
  a_out : ¬ Holds z s.a
  a_out h = meets.triangle.differ.0 (meets.only_b s.a (meets.triangle.a_shared.1, subst (λ es. Contains es s.a) z_is h))

  b_out : ¬ Holds x s.b
  b_out h = meets.triangle.differ.1 (meets.only_c s.b (meets.triangle.b_shared.1, subst (λ es. Contains es s.b) x_is h))

  c_out : ¬ Holds y s.c
  c_out h = meets.triangle.differ.2 (meets.only_a s.c (meets.triangle.c_shared.1, subst (λ es. Contains es s.c) y_is h))

  rises : Rise x × Rise y × Rise z
  rises = (rise_of x one.elements x_is x_rises, rise_of y two.elements y_is y_rises, rise_of z three.elements z_is z_rises)

  corners_by : (Q : Setting G → Type 0)
      → Q (record { kept = x; first = y; second = z; u = s.a; v = s.c; w = s.b })
      → Q (record { kept = y; first = x; second = z; u = s.a; v = s.b; w = s.c })
      → Q (record { kept = z; first = x; second = y; u = s.c; v = s.b; w = s.a })
      → Q (setting s x y z)
  corners_by Q first second third = either (name_eq s.keeps s.one) (name_eq s.keeps s.two)
    where
      either : (b c : Bool) → Q (if b then record { kept = x; first = y; second = z; u = s.a; v = s.c; w = s.b }
          else (if c then record { kept = y; first = x; second = z; u = s.a; v = s.b; w = s.c }
          else record { kept = z; first = x; second = y; u = s.c; v = s.b; w = s.a }))
      either true c = first
      either false true = second
      either false false = third

  pub corners_of : HasCorners (setting s x y z)
  corners_of = corners_by HasCorners
      (record {
        kept_rises = rises.0;
        first_rises = rises.1;
        second_rises = rises.2;
        kept_u = a_in.0;
        kept_v = c_in.1;
        first_u = a_in.1;
        first_w = b_in.0;
        second_v = c_in.0;
        second_w = b_in.1;
        new = b_out;
      })
      (record {
        kept_rises = rises.1;
        first_rises = rises.0;
        second_rises = rises.2;
        kept_u = a_in.1;
        kept_v = b_in.0;
        first_u = a_in.0;
        first_w = c_in.1;
        second_v = b_in.1;
        second_w = c_in.0;
        new = c_out;
      })
      (record {
        kept_rises = rises.2;
        first_rises = rises.0;
        second_rises = rises.1;
        kept_u = c_in.0;
        kept_v = b_in.1;
        first_u = c_in.1;
        first_w = a_in.0;
        second_v = b_in.0;
        second_w = a_in.1;
        new = a_out;
      })

  module _ (x_kinds : AreOfKinds g x) (y_kinds : AreOfKinds g y) (z_kinds : AreOfKinds g z) where
    pub of_graph : IsOfGraph g (setting s x y z)
    of_graph = corners_by (IsOfGraph g)
        (record { kept = x_kinds; first = y_kinds; second = z_kinds; not_all_lines = λ h. meets.triangle.not_all_lines (h.0, h.2, h.1) })
        (record { kept = y_kinds; first = x_kinds; second = z_kinds; not_all_lines = λ h. meets.triangle.not_all_lines h })
        (record { kept = z_kinds; first = x_kinds; second = y_kinds; not_all_lines = λ h. meets.triangle.not_all_lines (h.2, h.1, h.0) })

    differ_of : (setting s x y z).u ≢ (setting s x y z).v
    differ_of = corners_by (λ t. t.u ≢ t.v) (λ e. meets.triangle.differ.2 (sym e)) meets.triangle.differ.0 (λ e. meets.triangle.differ.1 (sym e))

    pub constructible_of : IsConstructible (given s.choice (ordered (setting s x y z)))
    constructible_of = constructible g sound s.choice (setting s x y z) corners_of of_graph differ_of
