-- The boxes and the fault of a join, from the boxes of its three children.
use Rattle.std.proofs.Common.{Box, Global, ◌≡◌, inl, inr, ℕ, List, [], ◌∷◌, Option, Some, None, Result, Ok, Err, refl, ap, sym, ◌∙◌}
use Rattle.std.proofs.lemmas.Bool.{cases_Bool}
use Rattle.sk_base.specs.declared.Elem.{Elem}
use Rattle.sk_base.specs.declared.Name.{Name}
use Rattle.sk_base.specs.declared.Graph.{Graph}
use Rattle.std.proofs.lemmas.Option.{same_Some}
use Rattle.sk_interval.specs.declared.Cause.{Cause}
use Rattle.sk_steps.specs.declared.What.{What}
use Rattle.sk_steps.specs.ThirdElement.{third_element}
use Rattle.sk_steps.specs.declared.Pair.{Pair}
use Rattle.sk_steps.specs.Motions.{motion}
use Rattle.sk_rules.specs.declared.Shared.{Shared}
use Rattle.sk_tree.specs.declared.PlanStep.{PlanStep}
use Rattle.sk_tree.specs.declared.Tree.{Tree}
use Rattle.sk_tree.specs.declared.Tree.TheVariants.{Join'}
use Rattle.sk_place.specs.declared.boxes.BoxAt.{BoxAt}
use Rattle.sk_place.specs.Settling.{settled_box, settled_turn}
use Rattle.sk_place.specs.declared.settling.PlaceBy.{PlaceBy}
use Rattle.sk_place.specs.declared.fault.Phase.{Phase}
use Rattle.sk_place.specs.declared.fault.Phase.TheVariants.{Build, First, Second}
use Rattle.sk_place.specs.declared.fault.StepFault.{StepFault}
use Rattle.sk_place.specs.declared.fault.BoxFault.{BoxFault}
use Rattle.sk_place.specs.declared.setting.Setting.{Setting}
use Rattle.sk_place.specs.Clusters.{with_box, besides, comes_first}
use Rattle.sk_place.specs.Carrying.{faulty, in_step, and_then, carried_each, pair_in, moved, carried_child}
use Rattle.sk_place.specs.Steps.{setting, ordered, given, joined}
use Rattle.sk_place.specs.Trees.{made, boxes_in, boxes, step_of, HasBoxes}

-- ---- a fault names its step

record IsNamed {X : Type 0} (step : Name) (r : Result X StepFault) : Type 0 where
  named : (f : StepFault) → r ≡ Err f → f.step ≡ step

ok_named : {X : Type 0} (step : Name) (x : X) → IsNamed {X = X} step (Ok x)
ok_named step x = record { named = λ f e. cc }

faulty_named : {X : Type 0} (step : Name) (phase : Phase) (elem : Elem) (r : Result X (What × Cause)) → IsNamed step (faulty step phase elem r)
faulty_named step phase elem (Ok x) = record { named = λ f e. cc }
faulty_named step phase elem (Err c) = record { named = λ f e. (let same : record { step = step; phase = phase; what = c.0; elem = elem; cause = c.1 } ≡ f = cc in sym (ap (λ (g : StepFault). g.step) same)) }

then_named : {X Y : Type 0} (step : Name) (r : Result X StepFault) (g : X → Result Y StepFault) → IsNamed step r → ((x : X) → IsNamed step (g x)) → IsNamed step (and_then r g)
then_named step (Ok x) g h k = k x
then_named step (Err e) g h k = record { named = λ f is. (let same : e ≡ f = cc in sym (ap (λ (g : StepFault). g.step) same) ∙ h.named e refl) }

told_named : {X : Type 0} (step : Name) (phase : Phase) (r : Result X BoxFault) → IsNamed step (in_step step phase r)
told_named step phase (Ok x) = record { named = λ f e. cc }
told_named step phase (Err b) = record { named = λ f e. (let same : record { step = step; phase = phase; what = b.what; elem = b.elem; cause = b.cause } ≡ f = cc in sym (ap (λ (g : StepFault). g.step) same)) }

moved_named : {G : Type 0} (placing : PlaceBy) (F : ℕ) (step : Name) (phase : Phase) (p : Elem) (old new : Pair G) (bs : List (BoxAt G)) → IsNamed step (moved placing F step phase p old new bs)
moved_named placing F step phase p old new [] = ok_named step []
moved_named placing F step phase p old new (b ∷ bs) =
    then_named step _ _ (faulty_named step phase p (settled_turn placing F (motion F old new))) (λ m. told_named step phase (carried_each placing F m (b ∷ bs)))

child_named : {G : Type 0} (placing : PlaceBy) (F : ℕ) (step : Name) (phase : Phase) (p q : Elem) (child now : List (BoxAt G)) → IsNamed step (carried_child placing F step phase p q child now)
child_named placing F step phase p q child now =
    elim (cases_Bool (comes_first child p q)) [
      | inl is ↦ rw is (moved_named placing F step phase p (pair_in child p q) (pair_in now p q) (besides p q child))
      | inr isnt ↦ rw isnt (moved_named placing F step phase q (pair_in child q p) (pair_in now q p) (besides p q child))
    ]

joined_named : {G : Type 0} (placing : PlaceBy) (F : ℕ) (s : PlanStep) (x y z : List (BoxAt G)) → IsNamed s.step (joined placing F s x y z)
joined_named {G} placing F s x y z =
    let t : Setting G = ordered (setting s x y z) in
    then_named s.step _ _ (faulty_named s.step Build t.w (settled_box placing F (third_element F (given s.choice t)))) (λ w.
    let now : List (BoxAt G) = with_box (record { elem = t.w; at = w }) t.kept in
    then_named s.step _ _ (child_named placing F s.step First t.u t.w t.first now) (λ xs.
    then_named s.step _ _ (child_named placing F s.step Second t.v t.w t.second now) (λ ys. ok_named s.step _)))

pub fault_named : {G : Type 0} (placing : PlaceBy) (F : ℕ) (s : PlanStep) (x y z : List (BoxAt G)) (f : StepFault) → joined placing F s x y z ≡ Err f → f.step ≡ s.step
fault_named placing F s x y z f is = (joined_named placing F s x y z).named f is

made_named : {G : Type 0} (placing : PlaceBy) (F : ℕ) (s : PlanStep) (one two three : Option (List (BoxAt G))) (f : StepFault) → made placing F (Some s) one two three ≡ Some (Err f) → f.step ≡ s.step
made_named placing F s (Some x) (Some y) (Some z) f h = fault_named placing F s x y z f (same_Some (joined placing F s x y z) (Err f) h)
made_named placing F s (Some x) (Some y) None f h = cc
made_named placing F s (Some x) None z f h = cc
made_named placing F s None y z f h = cc

-- ---- one join

module _ {G : Type 0} (placing : PlaceBy) (F : ℕ) (g : Graph) (steps : List PlanStep) (s : PlanStep) (step : Name) (found : step_of steps step ≡ Some s) (at : Box (Unit {0}) Global) (one two three : Tree) where
  -- the fault of a join names it
  pub here_named : (f : StepFault) → made {G = G} placing F (step_of steps step) (boxes placing F g steps one) (boxes placing F g steps two) (boxes placing F g steps three) ≡ Some (Err f) → f.step ≡ s.step
  here_named f h = made_named placing F s (boxes placing F g steps one) (boxes placing F g steps two) (boxes placing F g steps three) f (rw found at h)

  module _ (x y z : List (BoxAt G)) (p : HasBoxes placing F g steps one x) (q : HasBoxes placing F g steps two y) (r : HasBoxes placing F g steps three z) where
    makes : made {G = G} placing F (step_of steps step) (boxes placing F g steps one) (boxes placing F g steps two) (boxes placing F g steps three) ≡ Some (joined placing F s x y z)
    makes = rw (found, p.are, q.are, r.are) refl

    pub settled_join : (shared : Shared) (bs : List (BoxAt G)) → joined placing F s x y z ≡ Ok bs → HasBoxes placing F g steps (Join' at step shared one two three) bs
    settled_join shared bs is = record {
      are = ap boxes_in makes ∙ ap (λ (r : Result (List (BoxAt G)) StepFault). boxes_in (Some r)) is;
      faultless = λ f fault. elim fault [
        | inl here ↦ (let never : Ok bs ≡ Err f = sym is ∙ same_Some (joined placing F s x y z) (Err f) (sym makes ∙ here) in absurd (cc))
        | inr a ↦ elim a [
          | inl b ↦ p.faultless f b
          | inr b ↦ elim b [
            | inl c ↦ q.faultless f c
            | inr c ↦ r.faultless f c
          ]
        ]
      ];
    }

    pub failing_here : (f : StepFault) → joined placing F s x y z ≡ Err f
        → made {G = G} placing F (step_of steps step) (boxes placing F g steps one) (boxes placing F g steps two) (boxes placing F g steps three) ≡ Some (Err f)
    failing_here f is = makes ∙ ap Some is
