-- For no steps `flips` finds what `solve` tells.
use Rattle.std.proofs.Common.{◌≡◌, List, ℕ, [], ◌∷◌, ◌++◌, append-nil, refl, ap, sym, ◌∙◌, inl, inr}
use Rattle.std.specs.Prelude.{codes}
use Rattle.std.specs.Fmt.{decimal, digits}
use Rattle.sk_base.specs.declared.Placed.{Placed}
use Rattle.sk_base.specs.declared.Sketch.{Sketch}
use Rattle.sk_base.specs.SoundSketch.{IsSoundSketch}
use Rattle.sk_tree.specs.declared.Plan.{Plan as ThePlan}
use Rattle.sk_report.specs.SolveReport.{places_report, solve_report}
use Rattle.sk_tolerance.specs.declared.Tolerance.{Tolerance}
use Rattle.sk_solve.specs.declared.Alternative.TheVariants.{Found}
use Rattle.sk_solve.specs.declared.Placement.{Placement}
use Rattle.sk_solve.specs.declared.Placement.TheVariants.{Fault, Uncarried, Beyond, Turned, Holds}
use Rattle.sk_solve.specs.Alternatives.{IsAlternative}
use Rattle.sk_solve.proofs.Untouched.{untouched_signs, placed_untouched}
use Rattle.sk_request.specs.declared.Request.{Request}
use Rattle.sk_request.specs.Grids.{grid_of, digits_of}
use Rattle.sk_answers.specs.declared.Status.{Status}
use Rattle.sk_answers.specs.declared.Status.TheVariants.{Done, NotWell}
use Rattle.sk_cli.specs.declared.Report.TheVariants.{Places}
use Rattle.sk_cli.specs.FlipsReport.{IsReportOnFlips}
use Rattle.sk_cli.specs.Solved.{IsPlacedPlan, IsSolved}
use Rattle.sk_cli.specs.Solving.{status_of, placement_words}
use Rattle.sk_laws.specs.Causes.{IsItsPlan}

one_digit : decimal 1 ≡ 49 ∷ []
unfolding digits
one_digit = refl

module _ (request : Request) (s : Sketch) (text : List ℕ) (sound : IsSoundSketch s) where
  abbrev IsFoundAgain : Type 0
  IsFoundAgain =
      (p : ThePlan) × (at : Placed) × (tol : Tolerance) × (text ≡ solve_report s p (digits_of request.bits) at tol) × IsItsPlan request s p
      × IsAlternative (grid_of request.bits) request.layout (digits_of request.bits) request.within s p [] (Found at tol)
      × IsReportOnFlips request s ([] ∷ []) (codes "flip 1 ok\n" ++ places_report s at tol)

  held_found : (p : ThePlan) (q : Placement) → IsPlacedPlan request s p q → Done ≡ status_of q → text ≡ placement_words Places (digits_of request.bits) s p q → IsFoundAgain
  held_found p (Fault f) placed same is = absurd (let clash : Done ≡ Status.StepFault = same in cc)
  held_found p (Uncarried f) placed same is = absurd (let clash : Done ≡ Status.StepFault = same in cc)
  held_found p (Beyond b) placed same is = absurd (let clash : Done ≡ Status.Tolerance = same in cc)
  held_found p (Turned t) placed same is = absurd (let clash : Done ≡ Status.StepFault = same in cc)
  held_found p (Holds at tol) placed same is =
      let found : IsAlternative (grid_of request.bits) request.layout (digits_of request.bits) request.within s p [] (Found at tol) =
      placed_untouched (grid_of request.bits) request.layout (digits_of request.bits) request.within s p (λ there. untouched_signs s there p sound placed.plan.legal placed.plan.drawn) (Holds at tol) placed.placed in (
        p,
        at,
        tol,
        is,
        placed.plan,
        found,
        record {
          plan = p;
          by = placed.plan;
          found = Found at tol ∷ [];
          are = (found, tt);
          is = sym (append-nil (codes "flip 1 ok\n" ++ places_report s at tol))
              ∙ ap (λ (number : List ℕ). ((codes "flip " ++ (number ++ (codes " " ++ (codes "ok" ++ codes "\n")))) ++ places_report s at tol) ++ []) (sym one_digit);
        },
      )

  pub found_again : IsSolved Places request s Done text → IsFoundAgain
  found_again (inl (p, q, placed, same, is)) = held_found p q placed same is
  found_again (inr (short, told)) = absurd (let clash : Done ≡ NotWell = short in cc)
