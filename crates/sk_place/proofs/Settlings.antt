-- What a box that is settled keeps of the box before.
use Rattle.std.proofs.Common.{◌≡◌, ℕ, List, [], ◌∷◌, Result, Ok, Err, refl, subst}
use Rattle.std.specs.Prelude.{IfOk}
use Rattle.sk_base.specs.declared.Kind.{Kind}
use Rattle.sk_interval.specs.declared.Cause.{Cause}
use Rattle.sk_interval.specs.Interval.{Interval}
use Rattle.sk_interval.specs.Operations.{middle}
use Rattle.sk_interval.proofs.MiddleLemmas.{middle-within}
use Rattle.sk_steps.specs.declared.BoxOf.{BoxOf}
use Rattle.sk_steps.specs.declared.BoxOf.TheVariants.{Point, Line}
use Rattle.sk_steps.specs.declared.What.{What}
use Rattle.sk_steps.specs.declared.What.TheVariants.{Size, A, B}
use Rattle.sk_steps.specs.Expressions.{input, earlier, ◌⊕◌, ◌⊗◌, ◌⊘◌, square_root, normal_box}
use Rattle.sk_steps.specs.Quantities.{evaluate}
use Rattle.sk_steps.specs.Boxes.{kind_of, from_end}
use Rattle.sk_steps.specs.Settling.{unit_normal, settled_line, settled}
use Rattle.sk_place.specs.declared.settling.PlaceBy.{PlaceBy}
use Rattle.sk_place.specs.declared.settling.PlaceBy.TheVariants.{Boxes, Points}
use Rattle.sk_place.specs.Settling.{settled_box}
use Rattle.sk_place.specs.Rounding.{IsWithin, IsBoundedBox}
use Rattle.sk_place.proofs.Bounding.{step_ok, end_inside, normal_within}

middle_within : (k F : ℕ) (x : Interval) → IsWithin k F x → IsWithin k F (middle x)
middle_within k F x h = (let size = middle-within x _ h.0 h.1 in (size, size))

-- the parts of a normal at length 1 are parts of a normal
unit_within : (F : ℕ) (is all : List Interval) → evaluate F is unit_normal ≡ Ok all → IsWithin 1 F (from_end all 2) × IsWithin 1 F (from_end all 1)
unfolding unit_normal
unit_within F is all h =
    let one = step_ok F is [] (Size, square_root (input 0 ⊗ input 0 ⊕ input 1 ⊗ input 1)) ((A, normal_box (input 0 ⊘ earlier 0)) ∷ (B, normal_box (input 1 ⊘ earlier 0)) ∷ []) all h in
    let two = step_ok F is (one.0 ∷ []) (A, normal_box (input 0 ⊘ earlier 0)) ((B, normal_box (input 1 ⊘ earlier 0)) ∷ []) all one.2 in
    let three = step_ok F is (one.0 ∷ two.0 ∷ []) (B, normal_box (input 1 ⊘ earlier 0)) [] all two.2 in
    let all_is : one.0 ∷ two.0 ∷ three.0 ∷ [] ≡ all = end_inside {N = What} (one.0 ∷ two.0 ∷ three.0 ∷ []) all three.2 in
    subst (λ (xs : List Interval). IsWithin 1 F (from_end xs 2) × IsWithin 1 F (from_end xs 1)) all_is
    (normal_within F is (one.0 ∷ []) (input 0 ⊘ earlier 0) two.0 two.1, normal_within F is (one.0 ∷ two.0 ∷ []) (input 1 ⊘ earlier 0) three.0 three.1)

line_ok : (G N : Type 0) (c : Interval) (r : Result (List Interval) N) (b : BoxOf G) → settled_line c r ≡ Ok b
    → (all : List Interval) × (r ≡ Ok all) × (Line (middle (from_end all 2)) (middle (from_end all 1)) (middle c) ≡ b)
line_ok G N c (Ok all) b h = (all, refl, cc)
line_ok G N c (Err fault) b h = cc

point_ok : (G N : Type 0) (x y : Interval) (b : BoxOf G) → (let made : Result (BoxOf G) N = Ok (Point x y) in made ≡ Ok b) → Point x y ≡ b
point_ok G N x y b h = cc

settled_kind : (G : Type 0) (F : ℕ) (b c : BoxOf G) → settled F b ≡ Ok c → kind_of c ≡ kind_of b
settled_kind G F (Point x y) c is = subst (λ (d : BoxOf G). kind_of d ≡ Kind.Point) (point_ok G (What × Cause) (middle x) (middle y) c is) refl
settled_kind G F (Line a b c) d is =
    let line = line_ok G (What × Cause) c (evaluate F (a ∷ b ∷ []) unit_normal) d is in
    subst (λ (e : BoxOf G). kind_of e ≡ Kind.Line) line.2 refl

settled_bounded : (G : Type 0) (F : ℕ) (b c : BoxOf G) → settled F b ≡ Ok c → IsBoundedBox F b → IsBoundedBox F c
settled_bounded G F (Point x y) c is within =
    subst (λ (d : BoxOf G). IsBoundedBox F d) (point_ok G (What × Cause) (middle x) (middle y) c is) (middle_within 40 F x within.0, middle_within 40 F y within.1)
settled_bounded G F (Line a b c) d is within =
    let line = line_ok G (What × Cause) c (evaluate F (a ∷ b ∷ []) unit_normal) d is in
    let unit = unit_within F (a ∷ b ∷ []) line.0 line.1 in
    subst (λ (e : BoxOf G). IsBoundedBox F e) line.2
    (middle_within 1 F (from_end line.0 2) unit.0, middle_within 1 F (from_end line.0 1) unit.1, middle_within 40 F c within.2)

-- the box that was made before, whose kind and limits it has
pub record IsSettledFrom {G : Type 0} (F : ℕ) (made : Result (BoxOf G) (What × Cause)) (b : BoxOf G) : Type 0 where
  pub before : BoxOf G
  pub is : made ≡ Ok before
  pub kind : kind_of b ≡ kind_of before
  pub bounded : IsBoundedBox F before → IsBoundedBox F b

pub settled_from : {G : Type 0} (placing : PlaceBy) (F : ℕ) (made : Result (BoxOf G) (What × Cause)) (b : BoxOf G) → settled_box placing F made ≡ Ok b → IsSettledFrom F made b
settled_from Boxes F made b is = record { before = b; is = is; kind = refl; bounded = λ h. h }
settled_from {G} Points F (Ok a) b is = record { before = a; is = refl; kind = settled_kind G F a b is; bounded = settled_bounded G F a b is }
settled_from Points F (Err fault) b is = cc

-- what holds of an answer holds of what was found by it
pub if_found : {X N E : Type 0} (P : X → Type 0) (answer : Result X N) (found : Result X E) → IfOk found (λ x. answer ≡ Ok x) → IfOk answer P → IfOk found P
if_found P answer (Ok x) is holds = subst (λ r. IfOk r P) is holds
if_found P answer (Err e) is holds = tt
