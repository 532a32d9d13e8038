-- A claim is accepted or something fails first, and not both; and one thing alone is the first.
use Rattle.std.proofs.Common.{◌≡◌, inl, inr, List, [], ◌∷◌, ◌++◌, refl, sym, subst, ap, ◌∙◌}
use Rattle.std.specs.Prelude.{Contains, Option, None, Some, IsNone, IfSome, ◌↔◌}
use Rattle.std.proofs.lemmas.List.Elements.{Contains-append_right}
use Rattle.sk_base.specs.declared.Element.{Element}
use Rattle.sk_base.specs.declared.Elem.{Elem}
use Rattle.sk_base.specs.declared.Graph.{Graph}
use Rattle.sk_base.specs.declared.Name.{Name}
use Rattle.sk_base.specs.declared.Sketch.{Sketch}
use Rattle.sk_base.proofs.Members.{contains_head, contains_later}
use Rattle.sk_family.specs.Clusters.{Clusters, initial_clusters}
use Rattle.sk_tolerance.specs.declared.Spotted.{Spotted}
use Rattle.sk_tolerance.specs.declared.Spotted.TheVariants as spotted
use Rattle.sk_tolerance.specs.declared.Turned.{Turned}
use Rattle.sk_tolerance.specs.First.{IsFirst}
use Rattle.sk_tolerance.specs.Tolerances.{everything, spotted_as}
use Rattle.sk_tolerance.specs.Turns.{signs, IsTurned}
use Rattle.sk_tree.specs.declared.PlanStep.{PlanStep}
use Rattle.sk_claims.specs.declared.Claim.{Claim}
use Rattle.sk_verify.specs.declared.failure.Failure.{Failure}
use Rattle.sk_verify.specs.declared.failure.Failure.TheVariants.{Step, Parts, Element as OfElement, Line, Con, Sign}
use Rattle.sk_verify.specs.AsClaimed.{IsTold, HoldsAsClaimed, plan_claimed}
use Rattle.sk_verify.specs.Failing.{AllTold, AllHoldAsClaimed, HasDrawnSigns, IsAccepted, IsFirstUntold, IsFirstOff, IsFirstTurned, FailsFirst}
use Rattle.sk_tree.specs.LegalPlan.{next_after}
use Rattle.sk_verify.specs.RightSteps.{AreRight, IsFirstWrong}
use Rattle.sk_verify.specs.Stepping.{IsTelling}

module _ {X : Type 0} (P : X → Type 0) where
  -- the first item is one of the list
  pub is_there : (xs : List X) (x : X) → IsFirst P xs x → Contains xs x
  is_there xs x first = subst (λ ys. Contains ys x) (sym first.parts) (Contains-append_right first.before (x ∷ first.after) x (contains_head x first.after))

  same_place : (before other after rest : List X) (x y : X) → before ++ x ∷ after ≡ other ++ y ∷ rest → P x → P y → ((z : X) → Contains before z → ¬ P z) → ((z : X) → Contains other z → ¬ P z) → x ≡ y
  same_place [] [] after rest x y e px py none none' = cc
  same_place [] (z ∷ other) after rest x y e px py none none' = (let here : z ≡ x = cc in absurd (none' x (subst (λ w. Contains (z ∷ other) w) here (contains_head z other)) px))
  same_place (z ∷ before) [] after rest x y e px py none none' = (let here : z ≡ y = cc in absurd (none y (subst (λ w. Contains (z ∷ before) w) here (contains_head z before)) py))
  same_place (z ∷ before) (w ∷ other) after rest x y e px py none none' =
      same_place before other after rest x y (cc) px py (λ v h. none v (contains_later z before v h)) (λ v h. none' v (contains_later w other v h))

  -- there is one first item alone
  pub one_first : (xs : List X) (x y : X) → IsFirst P xs x → IsFirst P xs y → x ≡ y
  one_first xs x y one other = same_place one.before other.before one.after other.after x y (sym one.parts ∙ other.parts) one.has other.has one.none_before other.none_before

-- ---- elements

module _ (c : Claim) (elements : List Element) where
  pub untold_or_told : (e : Elem) → IsFirstUntold c elements e → ¬ AllTold c elements
  untold_or_told e (x, first, named) told = first.has (told x (is_there (λ y. ¬ IsTold c y) elements x first))

  pub one_untold : (e d : Elem) → IsFirstUntold c elements e → IsFirstUntold c elements d → e ≡ d
  one_untold e d (x, first, named) (y, other, named') = sym named ∙ ap (λ (z : Element). z.number) (one_first (λ z. ¬ IsTold c z) elements x y first other) ∙ named'

  -- what is found tells whether all are told
  pub none_untold : (o : Option Elem) → IsTelling c elements o → IsNone o ↔ AllTold c elements
  none_untold None told = ((λ is. told), (λ all. refl))
  none_untold (Some e) first = ((λ is. absurd (cc)), (λ all. absurd (untold_or_told e first all)))

  pub some_untold : (o : Option Elem) → IsTelling c elements o → IfSome o (IsFirstUntold c elements)
  some_untold None told = tt
  some_untold (Some e) first = first

-- ---- claims

module _ (s : Sketch) (g : Graph) where
  wrong_or_right : (f : Clusters) (steps : List PlanStep) (n : Name) → IsFirstWrong s g f steps n → ¬ AreRight s g f steps
  wrong_or_right f [] n wrong right = wrong
  wrong_or_right f (step ∷ steps) n (inl here) right = here.1 right.0
  wrong_or_right f (step ∷ steps) n (inr later) right = wrong_or_right (next_after f step) steps n later.1 right.1

  one_wrong : (f : Clusters) (steps : List PlanStep) (m n : Name) → IsFirstWrong s g f steps m → IsFirstWrong s g f steps n → m ≡ n
  one_wrong f [] m n one other = absurd one
  one_wrong f (step ∷ steps) m n (inl one) (inl other) = one.0 ∙ sym other.0
  one_wrong f (step ∷ steps) m n (inl one) (inr other) = absurd (one.1 other.0)
  one_wrong f (step ∷ steps) m n (inr one) (inl other) = absurd (other.1 one.0)
  one_wrong f (step ∷ steps) m n (inr one) (inr other) = one_wrong (next_after f step) steps m n one.1 other.1

  module _ (c : Claim) where
    off_or_held : (at : Spotted) → IsFirstOff c (everything g) at → ¬ AllHoldAsClaimed c (everything g)
    off_or_held at (item, first, named) holds = first.has (holds item (is_there (λ i. ¬ HoldsAsClaimed c i) (everything g) item first))

    turned_or_drawn : (n : Name) → IsFirstTurned s g c n → ¬ HasDrawnSigns s g c
    turned_or_drawn n (t, first, named) drawn = first.has (drawn t (is_there IsTurned (signs s c.at (plan_claimed g c)) t first))

    one_off : (at there : Spotted) → IsFirstOff c (everything g) at → IsFirstOff c (everything g) there → at ≡ there
    one_off at there (i, first, named) (j, other, named') = sym named ∙ ap spotted_as (one_first (λ k. ¬ HoldsAsClaimed c k) (everything g) i j first other) ∙ named'

    one_turned : (m n : Name) → IsFirstTurned s g c m → IsFirstTurned s g c n → m ≡ n
    one_turned m n (t, first, named) (u, other, named') = sym named ∙ ap (λ (z : Turned). z.at) (one_first IsTurned (signs s c.at (plan_claimed g c)) t u first other) ∙ named'

    pub not_both : (f : Failure) → IsAccepted s g c → FailsFirst s g c f → ⊥
    not_both (Step n) is fails = wrong_or_right (initial_clusters g) c.steps n fails is.met.complete.joined.steps
    not_both Parts is fails = fails.1 is.met.complete.joined.whole
    not_both (OfElement e) is fails = untold_or_told c s.elements e fails.1 is.met.complete.told
    not_both (Line e) is fails = off_or_held (spotted.Line e) fails.1 is.met.holds
    not_both (Con k) is fails = off_or_held (spotted.Con k) fails.1 is.met.holds
    not_both (Sign n) is fails = turned_or_drawn n fails.1 is.signs

    -- what fails, with all before it right
    pub one_failure : (f h : Failure) → FailsFirst s g c f → FailsFirst s g c h → f ≡ h
    one_failure (Step m) (Step n) one other = ap Step (one_wrong (initial_clusters g) c.steps m n one other)
    one_failure (Step m) Parts one other = absurd (wrong_or_right (initial_clusters g) c.steps m one other.0)
    one_failure (Step m) (OfElement e) one other = absurd (wrong_or_right (initial_clusters g) c.steps m one other.0.steps)
    one_failure (Step m) (Line e) one other = absurd (wrong_or_right (initial_clusters g) c.steps m one other.0.joined.steps)
    one_failure (Step m) (Con k) one other = absurd (wrong_or_right (initial_clusters g) c.steps m one other.0.joined.steps)
    one_failure (Step m) (Sign n) one other = absurd (wrong_or_right (initial_clusters g) c.steps m one other.0.complete.joined.steps)
    one_failure Parts (Step n) one other = absurd (wrong_or_right (initial_clusters g) c.steps n other one.0)
    one_failure Parts Parts one other = refl
    one_failure Parts (OfElement e) one other = absurd (one.1 other.0.whole)
    one_failure Parts (Line e) one other = absurd (one.1 other.0.joined.whole)
    one_failure Parts (Con k) one other = absurd (one.1 other.0.joined.whole)
    one_failure Parts (Sign n) one other = absurd (one.1 other.0.complete.joined.whole)
    one_failure (OfElement d) (Step n) one other = absurd (wrong_or_right (initial_clusters g) c.steps n other one.0.steps)
    one_failure (OfElement d) Parts one other = absurd (other.1 one.0.whole)
    one_failure (OfElement d) (OfElement e) one other = ap OfElement (one_untold c s.elements d e one.1 other.1)
    one_failure (OfElement d) (Line e) one other = absurd (untold_or_told c s.elements d one.1 other.0.told)
    one_failure (OfElement d) (Con k) one other = absurd (untold_or_told c s.elements d one.1 other.0.told)
    one_failure (OfElement d) (Sign n) one other = absurd (untold_or_told c s.elements d one.1 other.0.complete.told)
    one_failure (Line d) (Step n) one other = absurd (wrong_or_right (initial_clusters g) c.steps n other one.0.joined.steps)
    one_failure (Line d) Parts one other = absurd (other.1 one.0.joined.whole)
    one_failure (Line d) (OfElement e) one other = absurd (untold_or_told c s.elements e other.1 one.0.told)
    one_failure (Line d) (Line e) one other = (let same : spotted.Line d ≡ spotted.Line e = one_off (spotted.Line d) (spotted.Line e) one.1 other.1 in cc)
    one_failure (Line d) (Con k) one other = (let same : spotted.Line d ≡ spotted.Con k = one_off (spotted.Line d) (spotted.Con k) one.1 other.1 in absurd (cc))
    one_failure (Line d) (Sign n) one other = absurd (off_or_held (spotted.Line d) one.1 other.0.holds)
    one_failure (Con j) (Step n) one other = absurd (wrong_or_right (initial_clusters g) c.steps n other one.0.joined.steps)
    one_failure (Con j) Parts one other = absurd (other.1 one.0.joined.whole)
    one_failure (Con j) (OfElement e) one other = absurd (untold_or_told c s.elements e other.1 one.0.told)
    one_failure (Con j) (Line e) one other = (let same : spotted.Con j ≡ spotted.Line e = one_off (spotted.Con j) (spotted.Line e) one.1 other.1 in absurd (cc))
    one_failure (Con j) (Con k) one other = (let same : spotted.Con j ≡ spotted.Con k = one_off (spotted.Con j) (spotted.Con k) one.1 other.1 in cc)
    one_failure (Con j) (Sign n) one other = absurd (off_or_held (spotted.Con j) one.1 other.0.holds)
    one_failure (Sign m) (Step n) one other = absurd (wrong_or_right (initial_clusters g) c.steps n other one.0.complete.joined.steps)
    one_failure (Sign m) Parts one other = absurd (other.1 one.0.complete.joined.whole)
    one_failure (Sign m) (OfElement e) one other = absurd (untold_or_told c s.elements e other.1 one.0.complete.told)
    one_failure (Sign m) (Line e) one other = absurd (off_or_held (spotted.Line e) other.1 one.0.holds)
    one_failure (Sign m) (Con k) one other = absurd (off_or_held (spotted.Con k) other.1 one.0.holds)
    one_failure (Sign m) (Sign n) one other = ap Sign (one_turned m n one.1 other.1)
