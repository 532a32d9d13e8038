-- Expressions and lists of quantities on a finer grid: one induction on the expression, and one on the list.
use Rattle.std.proofs.Common.{ℕ, zero, suc, ◌+◌, List, [], ◌∷◌, ◌++◌, Result, Ok, Err, refl, ap, arith}
use Rattle.std.proofs.lemmas.Int.{ints}
use Rattle.sk_base.specs.declared.Sign.{Sign}
use Rattle.sk_base.specs.declared.Sign.TheVariants.{Plus, Minus}
use Rattle.sk_interval.specs.declared.Cause.{Cause}
use Rattle.sk_interval.specs.declared.Cause.TheVariants.{Flat, Gap, Range}
use Rattle.sk_interval.specs.Interval.{Interval}
use Rattle.sk_interval.specs.Nesting.{IsInside, Refines}
use Rattle.sk_interval.proofs.FinerSums.{bounded-Refines, sum-Refines, difference-Refines, negative-IsInside, whole-IsInside, micrometres-IsInside}
use Rattle.sk_interval.proofs.FinerProducts.{product-Refines}
use Rattle.sk_interval.proofs.FinerQuotients.{quotient-Refines}
use Rattle.sk_interval.proofs.FinerRoots.{root-Refines}
use Rattle.sk_steps.specs.Expressions.{Expression, input, earlier, number, micrometres, signed, ◌⊕◌, ◌⊖◌, ◌⊗◌, ◌⊘◌, square_root, length_box, normal_box, with_sign, at, then, value}
use Rattle.sk_steps.specs.Quantities.{named, then_list, evaluate_after}
use Rattle.sk_steps.specs.Nesting.{AreInside, Keeps}

-- one operation after another
then-Refines : (k : ℕ) (fine coarse : Result Interval Cause) (f g : Interval → Result Interval Cause) → Refines k fine coarse
    → ((x y : Interval) → IsInside k x y → Refines k (f x) (g y)) → Refines k (then fine f) (then coarse g)
then-Refines k fine (Ok y) f g h step = rw h.1 (step h.0 y h.2)
then-Refines k fine (Err (Gap lo hi)) f g h step = (h.0, h.1, ap (λ r. then r f) h.2)
then-Refines k fine (Err (Flat lo hi)) f g h step = tt
then-Refines k fine (Err Range) f g h step = tt

with_sign-IsInside : (k : ℕ) (sign : Sign) (x y : Interval) → IsInside k x y → IsInside k (with_sign sign x) (with_sign sign y)
with_sign-IsInside k Plus x y p = p
with_sign-IsInside k Minus x y p = negative-IsInside k x y p

pub at-IsInside : (k : ℕ) (xs ys : List Interval) (i : ℕ) → AreInside k xs ys → IsInside k (at xs i) (at ys i)
at-IsInside k [] [] i h = record { from = omega (arith, ints); ordered = omega (arith, ints); to = omega (arith, ints) }
at-IsInside k [] (y ∷ ys) i h = absurd h
at-IsInside k (x ∷ xs) [] i h = absurd h
at-IsInside k (x ∷ xs) (y ∷ ys) zero h = h.0
at-IsInside k (x ∷ xs) (y ∷ ys) (suc i) h = at-IsInside k xs ys i h.1

pub append-AreInside : (k : ℕ) (xs ys vs ws : List Interval) → AreInside k xs ys → AreInside k vs ws → AreInside k (xs ++ vs) (ys ++ ws)
append-AreInside k [] [] vs ws h p = p
append-AreInside k [] (y ∷ ys) vs ws h p = absurd h
append-AreInside k (x ∷ xs) [] vs ws h p = absurd h
append-AreInside k (x ∷ xs) (y ∷ ys) vs ws h p = (h.0, append-AreInside k xs ys vs ws h.1 p)

pub value-Refines : (F k : ℕ) (is js xs ys : List Interval) → AreInside k is js → AreInside k xs ys → (e : Expression) → Refines k (value (F + k) is xs e) (value F js ys e)
value-Refines F k is js xs ys p q (input i) = (_, refl, at-IsInside k is js i p)
value-Refines F k is js xs ys p q (earlier i) = (_, refl, at-IsInside k xs ys i q)
value-Refines F k is js xs ys p q (number n) = (_, refl, whole-IsInside F k n)
value-Refines F k is js xs ys p q (micrometres v) = (_, refl, micrometres-IsInside F k v)
value-Refines F k is js xs ys p q (signed sign a) = then-Refines k _ _ _ _ (value-Refines F k is js xs ys p q a) (λ x v s. (with_sign sign x, refl, with_sign-IsInside k sign x v s))
value-Refines F k is js xs ys p q (a ⊕ b) = then-Refines k _ _ _ _ (value-Refines F k is js xs ys p q a) (λ x v s. then-Refines k _ _ _ _ (value-Refines F k is js xs ys p q b) (λ y w t. sum-Refines F k x y v w s t))
value-Refines F k is js xs ys p q (a ⊖ b) = then-Refines k _ _ _ _ (value-Refines F k is js xs ys p q a) (λ x v s. then-Refines k _ _ _ _ (value-Refines F k is js xs ys p q b) (λ y w t. difference-Refines F k x y v w s t))
value-Refines F k is js xs ys p q (a ⊗ b) = then-Refines k _ _ _ _ (value-Refines F k is js xs ys p q a) (λ x v s. then-Refines k _ _ _ _ (value-Refines F k is js xs ys p q b) (λ y w t. product-Refines F k x y v w s t))
value-Refines F k is js xs ys p q (a ⊘ b) = then-Refines k _ _ _ _ (value-Refines F k is js xs ys p q a) (λ x v s. then-Refines k _ _ _ _ (value-Refines F k is js xs ys p q b) (λ y w t. quotient-Refines F k x y v w s t))
value-Refines F k is js xs ys p q (square_root a) = then-Refines k _ _ _ _ (value-Refines F k is js xs ys p q a) (λ x v s. root-Refines F k x v s)
value-Refines F k is js xs ys p q (length_box a) = then-Refines k _ _ _ _ (value-Refines F k is js xs ys p q a) (λ x v s. bounded-Refines 40 F k x v s)
value-Refines F k is js xs ys p q (normal_box a) = then-Refines k _ _ _ _ (value-Refines F k is js xs ys p q a) (λ x v s. bounded-Refines 1 F k x v s)

then_list-Keeps : {N : Type 0} (k : ℕ) (name : N) (fine coarse : Result Interval Cause) (f g : Interval → Result (List Interval) (N × Cause)) → Refines k fine coarse
    → ((x y : Interval) → IsInside k x y → Keeps (AreInside k) (f x) (g y)) → Keeps (AreInside k) (then_list (named name fine) f) (then_list (named name coarse) g)
then_list-Keeps k name fine (Ok y) f g h step = rw h.1 (step h.0 y h.2)
then_list-Keeps k name fine (Err (Gap lo hi)) f g h step = (h.0, h.1, ap (λ r. then_list (named name r) f) h.2)
then_list-Keeps k name fine (Err (Flat lo hi)) f g h step = tt
then_list-Keeps k name fine (Err Range) f g h step = tt

pub evaluate_after-Keeps : {N : Type 0} (F k : ℕ) (is js xs ys : List Interval) (quantities : List (N × Expression)) → AreInside k is js → AreInside k xs ys
    → Keeps (AreInside k) (evaluate_after xs (F + k) is quantities) (evaluate_after ys F js quantities)
evaluate_after-Keeps F k is js xs ys [] p q = (xs, refl, q)
evaluate_after-Keeps F k is js xs ys (quantity ∷ others) p q =
    then_list-Keeps k quantity.0 (value (F + k) is xs quantity.1) (value F js ys quantity.1) _ _ (value-Refines F k is js xs ys p q quantity.1)
    (λ x y s. evaluate_after-Keeps F k is js (xs ++ x ∷ []) (ys ++ y ∷ []) others p (append-AreInside k xs ys (x ∷ []) (y ∷ []) q (s, tt)))
