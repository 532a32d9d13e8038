-- What leaves of a segment of constraints that is settled at once: all of it, or none of it.
use Rattle.std.proofs.Common.{◌≤◌, List, [], ◌∷◌, length, ap, sym, subst, ◌∙◌, arith}
use Rattle.std.specs.Prelude.{Contains, ◌&&◌}
use Rattle.std.proofs.lemmas.Bool.{and_from}
use Rattle.sk_base.specs.declared.Elem.{Elem}
use Rattle.sk_base.specs.declared.ConId.{ConId}
use Rattle.sk_base.specs.declared.Graph.{Graph}
use Rattle.sk_base.specs.SoundGraph.{IsSoundGraph}
use Rattle.sk_base.specs.Numbering.{con_number}
use Rattle.sk_base.specs.Rising.{IsRising}
use Rattle.sk_base.proofs.Members.{contains_none, contains_one}
use Rattle.sk_spare.specs.Sparing.{differs_from, without}
use Rattle.sk_excess.specs.LeftOut.{is_kept, kept_graph, above}
use Rattle.sk_excess.specs.Going.{AreGoneOf}
use Rattle.sk_excess.proofs.SomeLess.{kept_not, none_kept, in_above}
use Rattle.sk_excess.proofs.Without.{to_differ, without_kept, without_one}
use Rattle.sk_excess.proofs.Going.{all_gone, still_so}
use Rattle.sk_why.specs.Because.{AreTogether, MayLeave}
use Rattle.sk_why.proofs.Together.{together_with_more}

module _ (g : Graph) (sound : IsSoundGraph g) (xs : List Elem) where
  -- all of a segment, where the rest holds them together
  pub all_leave : (aside : List ConId) → IsRising con_number aside → AreTogether (kept_graph aside g) xs → AreGoneOf (MayLeave xs) g aside aside
  all_leave aside rise together =
      all_gone (MayLeave xs) g sound aside rise (λ k k_in.
      subst (λ (h : Graph). AreTogether h xs) (sym (without_kept g sound (above k aside) k))
      (together_with_more g sound xs (is_kept aside) (λ j. is_kept (above k aside) j && differs_from k j)
      (λ j has passes. and_from (is_kept (above k aside) j) (differs_from k j)
      (none_kept (above k aside) j (λ h. kept_not aside j passes ((in_above k aside j).0 h).0))
      (to_differ k j (λ same. kept_not aside j passes (subst (λ (i : ConId). Contains aside i) same k_in))))
      together))

  -- one alone stays, where the others don't hold them together
  pub lone_stays : (aside : List ConId) → length aside ≤ 1 → ¬ AreTogether (kept_graph aside g) xs → (k : ConId) → Contains aside k → ¬ MayLeave xs g k
  lone_stays [] few not k k_in s = contains_none k k_in
  lone_stays (j ∷ []) few not k k_in s =
      not (subst (λ (h : Graph). AreTogether h xs) (ap (λ (i : ConId). without i g) (sym (contains_one j k k_in)) ∙ without_one g sound j) s)
  lone_stays (i ∷ j ∷ rest) few not k k_in s = absurd (omega (arith, few))

  -- what leaves leaves them together
  pub still_together : AreTogether g xs → (gone : List ConId) → IsRising con_number gone → ((k : ConId) → Contains gone k → MayLeave xs (kept_graph (above k gone) g) k) → AreTogether (kept_graph gone g) xs
  still_together = still_so (MayLeave xs) (λ h. AreTogether h xs) (λ h h_sound together k leaves. leaves) g sound
