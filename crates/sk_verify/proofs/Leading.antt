-- Where the steps so far lead, as what is still to be shown of the rest.
use Rattle.std.proofs.Common.{◌≡◌, inl, inr, ℕ, suc, ◌+◌, ◌<◌, ◌≤◌, List, [], ◌∷◌, length, get_or, drop, drop-cons, refl, sym, subst, ap, ◌∙◌, arith}
use Rattle.std.proofs.lemmas.List.{drop_all, length-map}
use Rattle.sk_base.specs.declared.Graph.{Graph}
use Rattle.sk_base.specs.declared.Name.{Name}
use Rattle.sk_base.specs.declared.Name.TheVariants.{Step}
use Rattle.sk_base.specs.declared.Sketch.{Sketch}
use Rattle.sk_base.specs.SoundGraph.{IsSoundGraph}
use Rattle.sk_family.specs.Body.{starts}
use Rattle.sk_family.specs.Clusters.{Clusters, initial_clusters, start_of}
use Rattle.sk_family.proofs.GraphStarts.{starts_few}
use Rattle.sk_tree.specs.declared.PlanStep.{PlanStep}
use Rattle.sk_tree.specs.LegalPlan.{next_after}
use Rattle.sk_verify.specs.RightSteps.{IsRightStep, AreRight, IsFirstWrong, after}
use Rattle.sk_verify.specs.Stepping.{HasRoom, LeadsTo}

-- what holds of the rest from here holds of all from the start
pub record IsAt (s : Sketch) (g : Graph) (steps : List PlanStep) (i : ℕ) (f : Clusters) : Type 0 where
  pub right : AreRight s g f (drop i steps) → AreRight s g (initial_clusters g) steps
  pub end : after f (drop i steps) ≡ after (initial_clusters g) steps
  pub wrong : (n : Name) → IsFirstWrong s g f (drop i steps) n → IsFirstWrong s g (initial_clusters g) steps n

pub at_start : (s : Sketch) (g : Graph) (steps : List PlanStep) → IsAt s g steps 0 (initial_clusters g)
at_start s g steps = record { right = λ h. h; end = refl; wrong = λ n h. h }

module _ (s : Sketch) (g : Graph) (steps : List PlanStep) (i : ℕ) (f : Clusters) (at : IsAt s g steps i f) where
  module _ (d : PlanStep) (inside : i < length steps) where
    rest_is : drop i steps ≡ get_or steps i d ∷ drop (suc i) steps
    rest_is = drop-cons steps i d inside

    one_more : (right : IsRightStep s g f (get_or steps i d)) → IsAt s g steps (suc i) (next_after f (get_or steps i d))
    one_more right = record {
      right = λ rest. at.right (subst (λ ss. AreRight s g f ss) (sym rest_is) (right, rest));
      end = ap (after f) (sym rest_is) ∙ at.end;
      wrong = λ n rest. at.wrong n (subst (λ ss. IsFirstWrong s g f ss n) (sym rest_is) (inr (right, rest)));
    }

    pub at_more : (right : IsRightStep s g f (get_or steps i d)) (f' : Clusters) → f' ≡ next_after f (get_or steps i d) → IsAt s g steps (i + 1) f'
    at_more right f' is =
        let level : suc i ≡ i + 1 = omega arith in
        subst (λ e. IsAt s g steps (i + 1) e) (sym is) (subst (λ j. IsAt s g steps j (next_after f (get_or steps i d))) level (one_more right))

    pub wrong_here : ¬ IsRightStep s g f (get_or steps i d) → IsFirstWrong s g (initial_clusters g) steps (Step f.next_step)
    wrong_here not = at.wrong (Step f.next_step) (subst (λ ss. IsFirstWrong s g f ss (Step f.next_step)) (sym rest_is) (inl (refl, not)))

  pub at_end : length steps ≤ i → LeadsTo s g steps f
  at_end over =
      let none : drop i steps ≡ [] = drop_all i steps over in
      record {
        right = at.right (subst (λ ss. AreRight s g f ss) (sym none) tt);
        end_is = subst (λ ss. after f ss ≡ after (initial_clusters g) steps) none at.end;
      }

pub room_at_start : (g : Graph) → IsSoundGraph g → HasRoom (initial_clusters g)
room_at_start g sound =
    let same : length (initial_clusters g).live ≡ length (starts g) = length-map (starts g) start_of in
    let few = starts_few g sound.edges_rise in
    omega (arith, few, sound.few_constraints)
