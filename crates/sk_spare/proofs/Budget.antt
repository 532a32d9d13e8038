-- How many elements a body can have, by what the pieces weigh that it is made of. A piece is a constraint, or a
-- body of an earlier family that is seen as a constraint between all its elements.
use Rattle.std.proofs.Common.{◌≡◌, inl, inr, ℕ, ◌+◌, ◌≤◌, Bool, true, false, List, [], ◌∷◌, sym, subst, ap, arith}
use Rattle.std.specs.Prelude.{Contains, sum_by}
use Rattle.std.proofs.lemmas.List.Sums.{sum_by-cons}
use Rattle.sk_base.specs.declared.Graph.{Graph}
use Rattle.sk_base.proofs.Members.{contains_none, contains_cases}
use Rattle.sk_family.specs.Body.{Body, Start}
use Rattle.sk_rules.specs.Reach.{Step, Reach}
use Rattle.sk_rules.specs.Excess.{weight, weight_where}
use Rattle.sk_rules.proofs.SummedWeights.{weighs_one, weighs_more}
use Rattle.sk_rules.proofs.Families.{IsFamily, step_family, kept_along}
use Rattle.sk_rules.proofs.Counting.{HasEnough, merged_enough}

-- those that pass and one that fails weigh no more than all
pub left_over : (p : Start → Bool) (ss : List Start) (t : Start) → Contains ss t → p t ≡ false → weight_where p ss + weight t ≤ sum_by weight ss
left_over p [] t h fails = absurd (contains_none t h)
left_over p (s ∷ ss) t h fails =
    let more = weighs_more p s ss in
    let sums = sum_by-cons weight s ss in
    elim (contains_cases s ss t h) [
      | inl here ↦ (
          let is : p s ≡ false = subst (λ z. p z ≡ false) (sym here) fails in
          let one : weighs_one (p s) s (weight_where p ss) ≡ weight_where p ss = ap (λ b. weighs_one b s (weight_where p ss)) is in
          let level : weight s ≡ weight t = ap weight here in
          let rest = at_most ss in
          omega arith)
      | inr later ↦ (
          let rest = left_over p ss t later fails in
          let one = no_more s (p s) (weight_where p ss) in
          omega arith)
    ]
  where
    no_more : (s : Start) (b : Bool) (n : ℕ) → weighs_one b s n ≤ weight s + n
    no_more s true n = omega arith
    no_more s false n = omega arith

    at_most : (ss : List Start) → weight_where p ss ≤ sum_by weight ss
    at_most [] = omega arith
    at_most (s ∷ ss) =
        let more = weighs_more p s ss in
        let sums = sum_by-cons weight s ss in
        let rest = at_most ss in
        let one = no_more s (p s) (weight_where p ss) in
        omega arith

module _ (ss : List Start) where
  pub record HaveEnough (f : List Body) : Type 0 where
    pub family : IsFamily f
    pub each : (x : Body) → Contains f x → HasEnough ss x

  step_made : (g : Graph) (old new : List Body) → Step g old new → HaveEnough old → HaveEnough new
  step_made g old new m made = record {
    family = step_family g old new m made.family;
    each = λ x x_in. elim ((m.replaces x).0 x_in) [
      | inl is ↦ subst (λ (z : Body). HasEnough ss z) (sym is) (merged_enough old made.family ss g m.merged m.can_merge m.among (λ y h. made.each y (m.among y h)))
      | inr stayed ↦ made.each x stayed.0
    ];
  }

  -- merging leaves the pieces enough for all elements
  pub made_along : (g : Graph) (f n : List Body) → Reach g f n → HaveEnough f → HaveEnough n
  made_along g = kept_along g HaveEnough (step_made g)
