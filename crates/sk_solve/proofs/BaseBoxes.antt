-- The boxes of a plan's base stay as they are in its frame.
use Rattle.std.proofs.Common.{◌≡◌, ℕ, Bool, true, false, List, [], ◌∷◌, Ok, refl, sym, subst, ◌∙◌}
use Rattle.std.specs.Prelude.{if◌then◌else◌}
use Rattle.sk_base.specs.declared.Elem.{Elem}
use Rattle.sk_base.specs.Rising.{union}
use Rattle.sk_steps.specs.ThirdElement.{third_element}
use Rattle.sk_tree.specs.declared.PlanStep.{PlanStep}
use Rattle.sk_place.specs.declared.BoxAt.{BoxAt}
use Rattle.sk_place.specs.declared.Phase.TheVariants.{Build, First, Second}
use Rattle.sk_place.specs.declared.PlaceBy.{PlaceBy}
use Rattle.sk_place.specs.Clusters.{Rise, Holds, box_of, with_box, with_boxes, comes_first}
use Rattle.sk_place.specs.Carrying.{faulty, and_then, carried_child}
use Rattle.sk_place.specs.Settling.{settled_box}
use Rattle.sk_place.specs.Steps.{setting, exchanged, ordered, given, joined, with_children}
use Rattle.sk_place.proofs.Corners.{box_same, holds_with}
use Rattle.sk_place.proofs.Lookups.{rises_with}
use Rattle.sk_place.proofs.Results.{then_ok, ok_inside}

-- what is there stays as it is
pub record Keeps {G : Type 0} (from to : List (BoxAt G)) : Type 0 where
  pub rises : Rise to
  pub holds : (e : Elem) → Holds from e → Holds to e
  pub same : (e : Elem) → Holds from e → box_of to e ≡ box_of from e

module _ {G : Type 0} where
  pub keeps_all : (bs : List (BoxAt G)) → Rise bs → Keeps bs bs
  keeps_all bs rises = record { rises = rises; holds = λ e h. h; same = λ e h. refl }

  pub keeps_more : (xs ys zs : List (BoxAt G)) → Keeps xs ys → Keeps ys zs → Keeps xs zs
  keeps_more xs ys zs one two = record {
    rises = two.rises;
    holds = λ e h. two.holds e (one.holds e h);
    same = λ e h. two.same e (one.holds e h) ∙ one.same e h;
  }

  with_one : (b : BoxAt G) (bs : List (BoxAt G)) → Rise bs → Keeps bs (with_box b bs)
  with_one b bs rises = record { rises = rises_with b bs rises; holds = λ e h. holds_with b bs e h; same = λ e h. box_same b bs e rises h }

  with_more : (more bs : List (BoxAt G)) → Rise bs → Keeps bs (with_boxes more bs)
  unfolding union
  with_more [] bs rises = keeps_all bs rises
  with_more (b ∷ more) bs rises =
      let rest = with_more more bs rises in
      keeps_more bs (with_boxes more bs) (with_box b (with_boxes more bs)) rest (with_one b (with_boxes more bs) rest.rises)

  ordered_kept : (s : PlanStep) (one two three : List (BoxAt G)) → (ordered (setting s one two three)).kept ≡ (setting s one two three).kept
  ordered_kept s one two three = either (comes_first (setting s one two three).kept (setting s one two three).u (setting s one two three).v)
    where
      either : (b : Bool) → (if b then setting s one two three else exchanged (setting s one two three)).kept ≡ (setting s one two three).kept
      either true = refl
      either false = refl

  -- the boxes of a step keep those of its kept child
  pub joined_keeps : (placing : PlaceBy) (F : ℕ) (s : PlanStep) (one two three bs : List (BoxAt G)) → joined placing F s one two three ≡ Ok bs
      → Rise (setting s one two three).kept → Keeps (setting s one two three).kept bs
  joined_keeps placing F s one two three bs is rises =
      let t = ordered (setting s one two three) in
      let kept_is : t.kept ≡ (setting s one two three).kept = ordered_kept s one two three in
      let there : Rise t.kept = subst Rise (sym kept_is) rises in
      let w = then_ok (faulty s.step Build t.w (settled_box placing F (third_element F (given s.choice t)))) (λ w. with_children placing F s.step t (with_box (record { elem = t.w; at = w }) t.kept)) bs is in
      let now : List (BoxAt G) = with_box (record { elem = t.w; at = w.0 }) t.kept in
      let xs = then_ok (carried_child placing F s.step First t.u t.w t.first now)
      (λ xs. and_then (carried_child placing F s.step Second t.v t.w t.second now) (λ ys. Ok (with_boxes ys (with_boxes xs now)))) bs w.2 in
      let ys = then_ok (carried_child placing F s.step Second t.v t.w t.second now) (λ ys. Ok (with_boxes ys (with_boxes xs.0 now))) bs xs.2 in
      let bs_is : with_boxes ys.0 (with_boxes xs.0 now) ≡ bs = ok_inside (with_boxes ys.0 (with_boxes xs.0 now)) bs ys.2 in
      let first = with_one (record { elem = t.w; at = w.0 }) t.kept there in
      let second = with_more xs.0 now first.rises in
      let third = with_more ys.0 (with_boxes xs.0 now) second.rises in
      let all : Keeps t.kept (with_boxes ys.0 (with_boxes xs.0 now)) = keeps_more t.kept now (with_boxes ys.0 (with_boxes xs.0 now)) first (keeps_more now (with_boxes xs.0 now) (with_boxes ys.0 (with_boxes xs.0 now)) second third) in
      subst (λ (k : List (BoxAt G)). Keeps k bs) kept_is (subst (λ (b : List (BoxAt G)). Keeps t.kept b) bs_is all)
