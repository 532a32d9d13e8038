-- What the constraints that are left out follow from, a line for each.
use Rattle.std.proofs.Common.{◌≡◌, ◌⊎◌, inl, inr, refl, Bool, true, false, ℕ, suc, ◌+◌, ◌<◌, List, [], ◌∷◌, ◌++◌, length, get_or, take, ap, sym, subst, ◌∙◌, arith, append_assoc}
use Rattle.std.specs.Prelude.{Contains, nat_lt}
use Rattle.std.proofs.lemmas.Bool.Decides.{nat_tests}
use Rattle.std.proofs.lemmas.List.{append-nil}
use Rattle.std.proofs.Math.Seq.{take-suc}
use Rattle.sk_base.specs.declared.ConId.{ConId}
use Rattle.sk_base.specs.declared.Sketch.{Sketch}
use Rattle.sk_base.specs.SoundSketch.{IsSoundSketch}
use Rattle.sk_base.proofs.Members.{contains_head, contains_later}
use Rattle.sk_family.specs.Body.{initial_bodies}
use Rattle.sk_graph.specs.SketchGraph.{graph_of}
use Rattle.sk_graph.proofs.Soundness.{graph_is_sound}
use Rattle.sk_rules.specs.Reach.{IsNormal}
use Rattle.sk_rules.proofs.SomeClosed.{some_closed}
use Rattle.sk_verdict.specs.declared.Judgement.{Judgement}
use Rattle.sk_verdict.specs.declared.Part.{Part}
use Rattle.sk_verdict.specs.Judging.{IsOver}
use Rattle.sk_verdict.proofs.SomeJudgements.{some_judgement}
use Rattle.sk_plan.specs.Judged.{IsTheJudgement}
use Rattle.sk_plan.proofs.TheJudgement.{the_judgement, one_judgement}
use Rattle.sk_parts.specs.OwnSketch.{part_sketch}
use Rattle.sk_parts.proofs.Drawing.{part_is_sound}
use Rattle.sk_parts.proofs.OverParts.{over_is_one}
use Rattle.sk_report.specs.CheckReport.{part_line}
use Rattle.sk_why.specs.WhyLines.{why_head, follows_line}
use Rattle.sk_excess.specs.LeftOut.{HasConstraint}
use Rattle.sk_excess.proofs.Choosing.{left_has, some_left_out, one_list as one_left}
use Rattle.sk_why.specs.Because.{FollowsFrom}
use Rattle.sk_why.specs.OverParts.{StandsForOver, EachOverStands, over_count}
use Rattle.sk_why.specs.WhyReport.{AreReasonsTold, AreGroupsTold, IsWhyReport}
use Rattle.sk_why.proofs.Following.{follows_one}
use Rattle.sk_why.proofs.OverTold.{some_each, one_each}
use Rattle.sk_why.proofs.SomeBecause.{some_follow}

module _ (s : Sketch) (left : List ConId) where
  -- one line more
  reasons_more : (numbers : List ConId) (k : ConId) (because : List ConId) (lines : List ℕ) → AreReasonsTold s left numbers lines → FollowsFrom (graph_of s) left k because
      → AreReasonsTold s left (numbers ++ k ∷ []) (lines ++ follows_line s k because)
  reasons_more [] k because lines none follows = (because, [], follows, refl, ap (λ l. l ++ follows_line s k because) none ∙ sym (append-nil (follows_line s k because)))
  reasons_more (j ∷ numbers) k because lines (first, more, first_follows, rest, is) follows = (
    first,
    more ++ follows_line s k because,
    first_follows,
    reasons_more numbers k because more rest follows,
    ap (λ l. l ++ follows_line s k because) is ∙ append_assoc (follows_line s j first) more (follows_line s k because),
  )

  -- the text so far, with a line more
  pub put_reason : (numbers : List ConId) (i : ℕ) (d : ConId) → i < length numbers → (old new : List ℕ) → AreReasonsTold s left (take i numbers) old
      → (because : List ConId) × FollowsFrom (graph_of s) left (get_or numbers i d) because × (new ≡ old ++ follows_line s (get_or numbers i d) because)
      → AreReasonsTold s left (take (i + 1) numbers) new
  put_reason numbers i d i_in old new told (because, follows, new_is) =
      let k = get_or numbers i d in
      let front_is : take (i + 1) numbers ≡ take i numbers ++ k ∷ [] = (let next_is : i + 1 ≡ suc i = omega arith in ap (λ n. take n numbers) next_is ∙ take-suc numbers i d i_in) in
      subst (λ ks. AreReasonsTold s left ks new) (sym front_is) (subst (λ t. AreReasonsTold s left (take i numbers ++ k ∷ []) t) (sym new_is) (reasons_more (take i numbers) k because old told follows))

  -- there is a text, and no other
  module _ (sound : IsSoundSketch s) where
    some_reasons : (numbers : List ConId) → ((k : ConId) → Contains numbers k → HasConstraint (graph_of s) k) → (text : List ℕ) × AreReasonsTold s left numbers text
    some_reasons [] there = ([], refl)
    some_reasons (k ∷ numbers) there =
        let follows = some_follow (graph_of s) (graph_is_sound s sound) left k (there k (contains_head k numbers)) in
        let rest = some_reasons numbers (λ j j_in. there j (contains_later k numbers j j_in)) in
        (follows_line s k follows.0 ++ rest.0, (follows.0, rest.0, follows.1, rest.1, refl))

    one_reasons : (numbers : List ConId) (one other : List ℕ) → AreReasonsTold s left numbers one → AreReasonsTold s left numbers other → one ≡ other
    one_reasons [] one other is is' = is ∙ sym is'
    one_reasons (k ∷ numbers) one other (because, more, follows, rest, is) (because', more', follows', rest', is') =
        is ∙ ap (λ b. follows_line s k b ++ more) (follows_one (graph_of s) (graph_is_sound s sound) left k because because' follows follows')
        ∙ ap (λ t. follows_line s k because' ++ t) (one_reasons numbers more more' rest rest') ∙ sym is'

-- the groups of a sketch
one_groups : (own : Sketch) → IsSoundSketch own → (one other : List ℕ) → AreGroupsTold own one → AreGroupsTold own other → one ≡ other
one_groups own sound one other (left, are, told) (left', are', told') =
    let same = one_left (graph_of own) (graph_is_sound own sound) left left' are are' in
    one_reasons own left' sound left' one other (subst (λ (ks : List ConId). AreReasonsTold own ks ks one) same told) told'

-- a part is over or isn't
over_or_not : (p : Part) → IsOver p ⊎ (¬ IsOver p)
over_or_not p = told (nat_lt p.due p.held) refl
  where
    told : (b : Bool) → nat_lt p.due p.held ≡ b → IsOver p ⊎ (¬ IsOver p)
    told true is = inl (over p.due p.held is)
      where
        over : (d h : ℕ) → nat_lt d h ≡ true → d < h
        over d h is = grind (arith, nat_tests)
    told false is = inr (not p.due p.held is)
      where
        not : (d h : ℕ) → nat_lt d h ≡ false → ¬ (d < h)
        not d h is = grind (arith, nat_tests)

-- what is told of a part
some_part : (s : Sketch) → IsSoundSketch s → (j : Judgement) → IsTheJudgement (graph_of s) j → (p : Part) → Contains j.parts p → (number : ℕ) → (here : List ℕ) × StandsForOver AreGroupsTold s number p here
some_part s sound j judged p p_in number =
    elim (over_or_not p) [
      | inr not_over ↦ ([], inr (not_over, refl))
      | inl over ↦ (
          let own = part_sketch s p.elements in
          let own_sound = part_is_sound s p.elements sound in
          let left = some_left_out (graph_of own) (graph_is_sound own own_sound) (over_is_one s j p sound judged p_in over) in
          let told = some_reasons own left.0 own_sound left.0 (left_has (graph_of own) (graph_is_sound own own_sound) left.0 left.1) in
          (part_line s number p ++ told.0, inl (over, (told.0, (left.0, left.1, told.1), refl))))
    ]

-- there is a report, and no other
pub some_report : (s : Sketch) → IsSoundSketch s → (text : List ℕ) × IsWhyReport s text
some_report s sound =
    let g = graph_of s in
    let (f, reach, closed) = some_closed g (initial_bodies g) in
    let normal : IsNormal g f = record { reached = reach; closed = closed } in
    let found = some_judgement g f in
    let judged : IsTheJudgement g found.0 = the_judgement g f found.0 (graph_is_sound s sound) normal found.1 in
    let told = some_each AreGroupsTold s found.0.parts (λ p number p_in. some_part s sound found.0 judged p p_in number) 1 in
    (why_head (over_count found.0.parts) ++ told.0, (found.0, told.0, judged, told.1, refl))

pub one_report : (s : Sketch) → IsSoundSketch s → (one other : List ℕ) → IsWhyReport s one → IsWhyReport s other → one ≡ other
one_report s sound one other (j, lines, judged, told, is) (k, lines', judged', told', is') =
    let same = one_judgement (graph_of s) j k judged judged' in
    let moved : EachOverStands AreGroupsTold s 1 k.parts lines = subst (λ (z : Judgement). EachOverStands AreGroupsTold s 1 z.parts lines) same told in
    is ∙ ap (λ z. why_head (over_count z.parts) ++ lines) same
    ∙ ap (λ t. why_head (over_count k.parts) ++ t)
    (one_each AreGroupsTold s (λ xs one other. one_groups (part_sketch s xs) (part_is_sound s xs sound) one other) k.parts 1 lines lines' moved told') ∙ sym is'
