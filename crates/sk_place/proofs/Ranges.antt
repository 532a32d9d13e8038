-- Boxes are carried by sums, differences and products, so only a number that gets too great stops them.
use Rattle.std.proofs.Common.{◌≡◌, inl, inr, ℕ, pos, ◌+ℤ◌, ◌-ℤ◌, List, [], ◌∷◌, ◌++◌, Result, Ok, Err, refl, subst}
use Rattle.sk_base.specs.declared.Elem.{Elem}
use Rattle.sk_base.specs.declared.Kind.{Kind}
use Rattle.sk_interval.specs.declared.Cause.{Cause}
use Rattle.sk_interval.specs.declared.Cause.TheVariants.{Range}
use Rattle.sk_interval.specs.Interval.{Interval, one}
use Rattle.sk_interval.specs.Rounding.{floor_of, ceil_of}
use Rattle.sk_interval.specs.Operations.{bounded, sum, difference, product, times, least_at, greatest_at}
use Rattle.sk_interval.proofs.FinerSums.{bounded-cases}
use Rattle.sk_steps.specs.declared.BoxOf.{BoxOf}
use Rattle.sk_steps.specs.declared.BoxOf.TheVariants.{Point, Line}
use Rattle.sk_steps.specs.declared.What.{What}
use Rattle.sk_steps.specs.Boxes.{numbers, box_of}
use Rattle.sk_steps.specs.Expressions.{Expression, input, earlier, number, micrometres, signed, ◌⊕◌, ◌⊖◌, ◌⊗◌, ◌⊘◌, square_root, length_box, normal_box, then, value}
use Rattle.sk_steps.specs.Quantities.{named, then_list, evaluate_after}
use Rattle.sk_steps.specs.declared.Motion.{Motion}
use Rattle.sk_steps.specs.Carried.{carried_point, carried_line, motion_numbers, carried}
use Rattle.sk_place.specs.declared.boxes.BoxAt.{BoxAt}
use Rattle.sk_place.specs.declared.fault.BoxFault.{BoxFault}
use Rattle.sk_place.specs.declared.fault.MoveError.{MoveError}
use Rattle.sk_place.specs.declared.fault.MoveError.TheVariants.{Fault, NoMemory}
use Rattle.sk_place.specs.declared.settling.PlaceBy.{PlaceBy}
use Rattle.sk_place.specs.declared.settling.PlaceBy.TheVariants.{Boxes}
use Rattle.sk_place.specs.Carrying.{box_faulty, and_then, carried_each, AnswersMove, FailsByRange}

-- ---- one number

-- the cause, if there is one, is Range
abbrev OnlyRange : {X : Type 0} → Result X Cause → Type 0
OnlyRange (Ok x) = Unit {0}
OnlyRange (Err c) = c ≡ Range

-- nothing is divided, and no root is taken
abbrev IsPolynomial : Expression → Type 0
IsPolynomial (input i) = Unit {0}
IsPolynomial (earlier i) = Unit {0}
IsPolynomial (number n) = Unit {0}
IsPolynomial (micrometres v) = Unit {0}
IsPolynomial (signed sign a) = IsPolynomial a
IsPolynomial (a ⊕ b) = IsPolynomial a × IsPolynomial b
IsPolynomial (a ⊖ b) = IsPolynomial a × IsPolynomial b
IsPolynomial (a ⊗ b) = IsPolynomial a × IsPolynomial b
IsPolynomial (a ⊘ b) = ⊥
IsPolynomial (square_root a) = ⊥
IsPolynomial (length_box a) = IsPolynomial a
IsPolynomial (normal_box a) = IsPolynomial a

bounded_only : (k F : ℕ) (x : Interval) → OnlyRange (bounded k F x)
bounded_only k F x = elim (bounded-cases k F x) [
  | inl fits ↦ rw fits.2 tt
  | inr beyond ↦ rw beyond refl
]

sum_only : (F : ℕ) (x y : Interval) → OnlyRange (sum F x y)
sum_only F x y = bounded_only 50 F (record { lo = x.lo +ℤ y.lo; hi = x.hi +ℤ y.hi })

difference_only : (F : ℕ) (x y : Interval) → OnlyRange (difference F x y)
difference_only F x y = bounded_only 50 F (record { lo = x.lo -ℤ y.hi; hi = x.hi -ℤ y.lo })

product_only : (F : ℕ) (x y : Interval) → OnlyRange (product F x y)
unfolding product
product_only F x y = bounded_only 50 F (record { lo = floor_of (least_at times x y) (pos (one F)); hi = ceil_of (greatest_at times x y) (pos (one F)) })

then_only : {X Y : Type 0} (r : Result X Cause) (f : X → Result Y Cause) → OnlyRange r → ((x : X) → OnlyRange (f x)) → OnlyRange (then r f)
then_only (Ok x) f is more = more x
then_only (Err c) f is more = is

value_only : (F : ℕ) (inputs found : List Interval) (e : Expression) → IsPolynomial e → OnlyRange (value F inputs found e)
value_only F inputs found (input i) is = tt
value_only F inputs found (earlier i) is = tt
value_only F inputs found (number n) is = tt
value_only F inputs found (micrometres v) is = tt
value_only F inputs found (signed sign a) is = then_only (value F inputs found a) _ (value_only F inputs found a is) (λ x. tt)
value_only F inputs found (a ⊕ b) is =
    then_only (value F inputs found a) _ (value_only F inputs found a is.0) (λ x. then_only (value F inputs found b) (sum F x) (value_only F inputs found b is.1) (λ y. sum_only F x y))
value_only F inputs found (a ⊖ b) is =
    then_only (value F inputs found a) _ (value_only F inputs found a is.0) (λ x. then_only (value F inputs found b) (difference F x) (value_only F inputs found b is.1) (λ y. difference_only F x y))
value_only F inputs found (a ⊗ b) is =
    then_only (value F inputs found a) _ (value_only F inputs found a is.0) (λ x. then_only (value F inputs found b) (product F x) (value_only F inputs found b is.1) (λ y. product_only F x y))
value_only F inputs found (a ⊘ b) is = absurd is
value_only F inputs found (square_root a) is = absurd is
value_only F inputs found (length_box a) is = then_only (value F inputs found a) _ (value_only F inputs found a is) (λ x. bounded_only 40 F x)
value_only F inputs found (normal_box a) is = then_only (value F inputs found a) _ (value_only F inputs found a is) (λ x. bounded_only 1 F x)

-- ---- the numbers of a box

abbrev NamesRange : {X : Type 0} → Result X (What × Cause) → Type 0
NamesRange (Ok x) = Unit {0}
NamesRange (Err fault) = fault.1 ≡ Range

abbrev ArePolynomials : List (What × Expression) → Type 0
ArePolynomials [] = Unit {0}
ArePolynomials (q ∷ qs) = IsPolynomial q.1 × ArePolynomials qs

list_only : (name : What) (r : Result Interval Cause) (f : Interval → Result (List Interval) (What × Cause)) → OnlyRange r → ((x : Interval) → NamesRange (f x)) → NamesRange (then_list (named name r) f)
list_only name (Ok x) f is more = more x
list_only name (Err c) f is more = is

evaluate_only : (F : ℕ) (inputs found : List Interval) (qs : List (What × Expression)) → ArePolynomials qs → NamesRange (evaluate_after found F inputs qs)
evaluate_only F inputs found [] are = tt
evaluate_only F inputs found (q ∷ qs) are =
    list_only q.0 (value F inputs found q.1) _ (value_only F inputs found q.1 are.0) (λ x. evaluate_only F inputs (found ++ x ∷ []) qs are.1)

box_only : (G : Type 0) (kind : Kind) (r : Result (List Interval) (What × Cause)) → NamesRange r → NamesRange (box_of {G = G} kind r)
box_only G kind (Ok found) is = tt
box_only G kind (Err fault) is = is

carried_only : {G : Type 0} (F : ℕ) (m : Motion G) (b : BoxOf G) → NamesRange (carried F m b)
unfolding carried_point carried_line
carried_only {G} F m (Point x y) =
    let one : (Unit {0} × (Unit {0} × (Unit {0} × Unit {0}))) × (Unit {0} × (Unit {0} × Unit {0})) = ((tt, (tt, (tt, tt))), (tt, (tt, tt))) in
    box_only G Kind.Point _ (evaluate_only F (motion_numbers m ++ numbers {G = G} (Point x y)) [] carried_point (one, (one, tt)))
carried_only {G} F m (Line a b c) =
    let two : (Unit {0} × Unit {0}) × (Unit {0} × Unit {0}) = ((tt, tt), (tt, tt)) in
    box_only G Kind.Line _ (evaluate_only F (motion_numbers m ++ numbers {G = G} (Line a b c)) [] carried_line (two, (two, ((two, (tt, two)), tt))))

-- ---- all boxes

abbrev BoxesRange : {X : Type 0} → Result X BoxFault → Type 0
BoxesRange (Ok x) = Unit {0}
BoxesRange (Err f) = f.cause ≡ Range

and_only : {X Y : Type 0} (r : Result X BoxFault) (f : X → Result Y BoxFault) → BoxesRange r → ((x : X) → BoxesRange (f x)) → BoxesRange (and_then r f)
and_only (Ok x) f is more = more x
and_only (Err fault) f is more = is

box_range : {X : Type 0} (e : Elem) (r : Result X (What × Cause)) → NamesRange r → BoxesRange (box_faulty e r)
box_range e (Ok x) is = tt
box_range e (Err c) is = is

each_only : {G : Type 0} (F : ℕ) (m : Motion G) (bs : List (BoxAt G)) → BoxesRange (carried_each Boxes F m bs)
each_only F m [] = tt
each_only F m (b ∷ bs) =
    and_only (box_faulty b.elem (carried F m b.at)) _ (box_range b.elem (carried F m b.at) (carried_only F m b.at)) (λ at. and_only (carried_each Boxes F m bs) _ (each_only F m bs) (λ rest. tt))

pub each_range : {G : Type 0} (F : ℕ) (m : Motion G) (bs : List (BoxAt G)) (f : BoxFault) → carried_each Boxes F m bs ≡ Err f → f.cause ≡ Range
each_range {G} F m bs f is = subst (λ (r : Result (List (BoxAt G)) BoxFault). BoxesRange r) is (each_only F m bs)

pub moved_range : {G : Type 0} (placing : PlaceBy) (F : ℕ) (m : Motion G) (bs : List (BoxAt G)) (r : Result (List (BoxAt G)) MoveError) → AnswersMove r (carried_each placing F m bs) → placing ≡ Boxes → FailsByRange r
moved_range placing F m bs (Ok ys) is by = tt
moved_range {G} placing F m bs (Err (Fault f)) is by = each_range F m bs f (subst (λ (q : PlaceBy). carried_each q F m bs ≡ Err f) by is)
moved_range placing F m bs (Err NoMemory) is by = tt
