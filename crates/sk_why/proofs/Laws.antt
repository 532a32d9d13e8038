-- What holds some elements together is enough, minimal, and one list.
use Rattle.std.proofs.Common.{◌≡◌, ◌<◌, List, ap, sym, subst, ◌∙◌, arith}
use Rattle.std.specs.Prelude.{Contains, ◌↔◌, ◌&&◌, filter}
use Rattle.std.proofs.lemmas.Bool.{and_parts, and_from}
use Rattle.sk_base.specs.declared.Elem.{Elem}
use Rattle.sk_base.specs.declared.ConId.{ConId}
use Rattle.sk_base.specs.declared.Graph.{Graph}
use Rattle.sk_base.specs.SoundGraph.{IsSoundGraph}
use Rattle.sk_base.specs.Numbering.{con_number}
use Rattle.sk_base.specs.Rising.{IsRising}
use Rattle.sk_base.proofs.Filters.{same_tests}
use Rattle.sk_base.proofs.Members.{contains_mapped, mapped_from, contains_filtered, filtered_from}
use Rattle.sk_base.proofs.Pairs.{pairs_filter, pairs_map}
use Rattle.sk_family.specs.Body.{Start, starts}
use Rattle.sk_family.proofs.GraphStarts.{starts_rise}
use Rattle.sk_rules.specs.JustSome.{with_just}
use Rattle.sk_tree.specs.LegalPlan.{numbers_of}
use Rattle.sk_spare.specs.Sparing.{differs_from, without}
use Rattle.sk_excess.specs.LeftOut.{is_number, is_kept, kept_graph, above, HasConstraint}
use Rattle.sk_excess.specs.Going.{AreGoneOf}
use Rattle.sk_excess.proofs.SomeLess.{number_in, in_number, kept_not, none_kept, in_above, just_twice, just_agree, part_has, has_part}
use Rattle.sk_excess.proofs.Without.{without_kept}
use Rattle.sk_excess.proofs.Going.{same_gone}
use Rattle.sk_why.specs.Because.{AreTogether, MayLeave, AreBecause}
use Rattle.sk_why.proofs.Together.{together_with_more}
use Rattle.sk_why.proofs.Gone.{still_together}

-- the numbers of all constraints
pub has_number : (g : Graph) (k : ConId) → HasConstraint g k → Contains (numbers_of g) k
has_number g k (s, s_in, is) = subst (λ (j : ConId). Contains (numbers_of g) j) is (contains_mapped (λ (s : Start). s.number) (starts g) s s_in)

pub numbers_rise : (g : Graph) → IsSoundGraph g → IsRising con_number (numbers_of g)
numbers_rise g sound = pairs_map (λ (j k : ConId). j.0 < k.0) (λ (s : Start). s.number) (starts g) (starts_rise g sound.edges_rise)

module _ (g : Graph) (xs : List Elem) (because : List ConId) (are : AreBecause g xs because) where
  -- of the constraints those that don't leave
  pub of_because : (k : ConId) → Contains because k → HasConstraint g k × ¬ Contains are.gone k
  of_because k h =
      let was = filtered_from (is_kept are.gone) (numbers_of g) k (subst (λ (ks : List ConId). Contains ks k) are.others h) in
      (mapped_from (λ (s : Start). s.number) (starts g) k was.0, kept_not are.gone k was.1)

  in_because : (k : ConId) → HasConstraint g k → ¬ Contains are.gone k → Contains because k
  in_because k has stays =
      subst (λ (ks : List ConId). Contains ks k) (sym are.others) (contains_filtered (is_kept are.gone) (numbers_of g) k (has_number g k has) (none_kept are.gone k stays))

module _ (g : Graph) (sound : IsSoundGraph g) (xs : List Elem) (because : List ConId) (are : AreBecause g xs because) where
  pub because_rises : IsRising con_number because
  because_rises = subst (λ (ks : List ConId). IsRising con_number ks) (sym are.others) (pairs_filter (λ (j k : ConId). j.0 < k.0) (is_kept are.gone) (numbers_of g) (numbers_rise g sound))

  -- what stays is what doesn't leave
  staying : kept_graph are.gone g ≡ with_just (is_number because) g
  staying =
      just_agree g sound (is_kept are.gone) (is_number because) (λ k has. same_tests (is_kept are.gone k) (is_number because k)
      (λ passes. in_number because k (in_because g xs because are k has (kept_not are.gone k passes)))
      (λ passes. none_kept are.gone k (of_because g xs because are k (number_in because k passes)).1))

  pub enough : AreTogether g xs → AreTogether (with_just (is_number because) g) xs
  enough together =
      subst (λ (h : Graph). AreTogether h xs) staying (still_together g sound xs together are.gone are.leave.rise (λ k h. ((are.leave.exactly k).0 h).1))

  pub minimal : (k : ConId) → Contains because k → ¬ AreTogether (without k (with_just (is_number because) g)) xs
  minimal k k_in together =
      let stays = of_because g xs because are k k_in in
      let less : AreTogether (with_just (λ j. is_number because j && differs_from k j) g) xs = subst (λ (h : Graph). AreTogether h xs) (just_twice g (is_number because) (differs_from k)) together in
      let more : AreTogether (with_just (λ j. is_kept (above k are.gone) j && differs_from k j) g) xs =
      together_with_more g sound xs (λ j. is_number because j && differs_from k j) (λ j. is_kept (above k are.gone) j && differs_from k j)
      (λ j has passes. (
      let both = and_parts (is_number because j) (differs_from k j) passes in
      and_from (is_kept (above k are.gone) j) (differs_from k j)
      (none_kept (above k are.gone) j (λ h. (of_because g xs because are j (number_in because j both.0)).1 ((in_above k are.gone j).0 h).0)) both.1))
      less in
      stays.1 ((are.leave.exactly k).1 (has_number g k stays.0, subst (λ (h : Graph). AreTogether h xs) (sym (without_kept g sound (above k are.gone) k)) more))

-- one list leaves
module _ (g : Graph) (sound : IsSoundGraph g) (xs : List Elem) where
  leaves_there : (gone : List ConId) → AreGoneOf (MayLeave xs) g (numbers_of g) gone → (k : ConId) → Contains gone k ↔ (HasConstraint (kept_graph (above k gone) g) k × MayLeave xs (kept_graph (above k gone) g) k)
  leaves_there gone are k = (
    (λ h. (
        let was = (are.exactly k).0 h in (
          has_part g sound (is_kept (above k gone)) k (mapped_from (λ (s : Start). s.number) (starts g) k was.0)
              (none_kept (above k gone) k (λ among. (let less = ((in_above k gone k).0 among).1 in omega (arith, less)))),
          was.1,
        ))),
    (λ h. (are.exactly k).1 (has_number g k (part_has g sound (is_kept (above k gone)) k h.0).0, h.1)),
  )

  pub one_list : (one other : List ConId) → AreBecause g xs one → AreBecause g xs other → one ≡ other
  one_list one other p q =
      let same = same_gone (λ (h : Graph) (k : ConId). HasConstraint h k × MayLeave xs h k) g sound p.gone q.gone (leaves_there p.gone p.leave) (leaves_there q.gone q.leave) p.leave.rise q.leave.rise in
      p.others ∙ ap (λ (ks : List ConId). filter (is_kept ks) (numbers_of g)) same ∙ sym q.others
