-- The boxes of a step, from those of its three children.
use Rattle.std.specs.Prelude.{◌≡◌, ℕ, Bool, false, ◌&&◌, nat_lt, List, Result, Ok, if◌then◌else◌}
use Rattle.sk_base.specs.declared.Elem.{Elem}
use Rattle.sk_base.specs.declared.Kind.{Kind}
use Rattle.sk_base.specs.declared.Kind.TheVariants.{Point, Line}
use Rattle.sk_base.specs.declared.Sign.{Sign}
use Rattle.sk_base.specs.declared.Sign.TheVariants.{Plus}
use Rattle.sk_base.specs.declared.Name.{Name}
use Rattle.sk_base.specs.ClusterNames.{name_eq}
use Rattle.sk_steps.specs.declared.BoxOf.{BoxOf}
use Rattle.sk_steps.specs.declared.Given.{Given}
use Rattle.sk_steps.specs.Boxes.{kind_of}
use Rattle.sk_steps.specs.ThirdElement.{third_element}
pub use Rattle.sk_steps.specs.Leaves.{opposite}
use Rattle.sk_tree.specs.declared.Choice.{Choice}
use Rattle.sk_tree.specs.declared.Choice.TheVariants.{Turn, Advance, Nothing}
use Rattle.sk_tree.specs.declared.PlanStep.{PlanStep}
use Rattle.sk_place.specs.declared.boxes.BoxAt.{BoxAt}
use Rattle.sk_place.specs.declared.fault.Phase.TheVariants.{Build, First, Second}
use Rattle.sk_place.specs.declared.fault.StepFault.{StepFault}
use Rattle.sk_place.specs.declared.setting.Setting.{Setting}
use Rattle.sk_place.specs.declared.settling.PlaceBy.{PlaceBy}
use Rattle.sk_place.specs.Settling.{settled_box}
use Rattle.sk_place.specs.Clusters.{Rise, Holds, box_of, with_box, with_boxes, comes_first}
use Rattle.sk_place.specs.Carrying.{faulty, and_then, carried_child}

-- the child that is kept has u and v, the first of the others u and w, the second v and w
abbrev pub setting : {G : Type 0} → PlanStep → List (BoxAt G) → List (BoxAt G) → List (BoxAt G) → Setting G
setting s one two three =
    if name_eq s.keeps s.one then record { kept = one; first = two; second = three; u = s.a; v = s.c; w = s.b }
    else (if name_eq s.keeps s.two then record { kept = two; first = one; second = three; u = s.a; v = s.b; w = s.c }
    else record { kept = three; first = one; second = two; u = s.c; v = s.b; w = s.a })

-- the same with u and v exchanged, and so the two children that hold them
abbrev pub exchanged : {G : Type 0} → Setting G → Setting G
exchanged t = record { kept = t.kept; first = t.second; second = t.first; u = t.v; v = t.u; w = t.w }

-- u before v
abbrev pub ordered : {G : Type 0} → Setting G → Setting G
ordered t = if comes_first t.kept t.u t.v then t else exchanged t

-- the sign that is chosen; where nothing is open, plus
abbrev pub chosen : Choice → Sign
chosen (Turn sign) = sign
chosen (Advance sign) = sign
chosen Nothing = Plus

-- whether the sign of the root is the other one: of three points, where w stands between u and v; of a line v and two
-- points, where w stands before u
abbrev pub is_opposite : Kind → Kind → Kind → Elem → Elem → Elem → Bool
is_opposite Point Point Point u v w = nat_lt u.0 w.0 && nat_lt w.0 v.0
is_opposite Point Point Line u v w = false
is_opposite Point Line Point u v w = nat_lt w.0 u.0
is_opposite Point Line Line u v w = false
is_opposite Line v_kind w_kind u v w = false

abbrev pub root : Choice → Kind → Kind → Kind → Elem → Elem → Elem → Sign
root choice u_kind v_kind w_kind u v w = if is_opposite u_kind v_kind w_kind u v w then opposite (chosen choice) else chosen choice

-- the boxes that w is constructed from
abbrev pub given : {G : Type 0} → Choice → Setting G → Given G
given choice t = record {
  u = box_of t.kept t.u;
  v = box_of t.kept t.v;
  ux = box_of t.first t.u;
  wx = box_of t.first t.w;
  vy = box_of t.second t.v;
  wy = box_of t.second t.w;
  root = root choice (kind_of (box_of t.kept t.u)) (kind_of (box_of t.kept t.v)) (kind_of (box_of t.first t.w)) t.u t.v t.w;
}

-- the boxes that are there, and those of the first and then the second child, carried
abbrev pub with_children : {G : Type 0} → PlaceBy → ℕ → Name → Setting G → List (BoxAt G) → Result (List (BoxAt G)) StepFault
with_children placing F step t now =
    and_then (carried_child placing F step First t.u t.w t.first now) (λ xs.
    and_then (carried_child placing F step Second t.v t.w t.second now) (λ ys.
    Ok (with_boxes ys (with_boxes xs now))))

-- w is constructed, and settled where places are points, and then the children are carried to the kept child's boxes and w's
abbrev pub joined_in : {G : Type 0} → PlaceBy → ℕ → PlanStep → Setting G → Result (List (BoxAt G)) StepFault
joined_in placing F s t =
    and_then (faulty s.step Build t.w (settled_box placing F (third_element F (given s.choice t)))) (λ w.
    with_children placing F s.step t (with_box (record { elem = t.w; at = w }) t.kept))

abbrev pub joined : {G : Type 0} → PlaceBy → ℕ → PlanStep → List (BoxAt G) → List (BoxAt G) → List (BoxAt G) → Result (List (BoxAt G)) StepFault
joined placing F s one two three = joined_in placing F s (ordered (setting s one two three))

-- each child's numbers rise, and each holds its two of u, v and w, which differ; w is new to the kept one
pub record HasCorners {G : Type 0} (t : Setting G) : Type 0 where
  pub kept_rises : Rise t.kept
  pub first_rises : Rise t.first
  pub second_rises : Rise t.second
  pub kept_u : Holds t.kept t.u
  pub kept_v : Holds t.kept t.v
  pub first_u : Holds t.first t.u
  pub first_w : Holds t.first t.w
  pub second_v : Holds t.second t.v
  pub second_w : Holds t.second t.w
  pub new : ¬ Holds t.kept t.w

-- u and v are of one kind in each child that holds them, and so is w, also as it is constructed
pub record HasKinds {G : Type 0} (t : Setting G) (w : BoxOf G) : Type 0 where
  pub u_alike : kind_of (box_of t.first t.u) ≡ kind_of (box_of t.kept t.u)
  pub v_alike : kind_of (box_of t.second t.v) ≡ kind_of (box_of t.kept t.v)
  pub first_w : kind_of (box_of t.first t.w) ≡ kind_of w
  pub second_w : kind_of (box_of t.second t.w) ≡ kind_of w
