-- What is told of parts, one behind another, and the shape of a part that isn't over.
use Rattle.std.proofs.Common.{◌≡◌, ◌⊎◌, inl, inr, refl, ℕ, suc, ◌+◌, ◌<◌, Bool, true, false, List, [], ◌∷◌, ◌++◌, length, get_or, take, ap, sym, subst, ◌∙◌, arith, append_assoc}
use Rattle.std.specs.Prelude.{Contains, nat_lt}
use Rattle.std.proofs.lemmas.Bool.Decides.{nat_tests}
use Rattle.std.proofs.lemmas.List.{append-nil, length-take-le}
use Rattle.std.proofs.Math.Seq.{take-suc}
use Rattle.sk_base.specs.declared.Sketch.{Sketch}
use Rattle.sk_base.specs.SoundSketch.{IsSoundSketch}
use Rattle.sk_base.proofs.Members.{contains_head, contains_later}
use Rattle.sk_graph.specs.SketchGraph.{graph_of}
use Rattle.sk_verdict.specs.declared.Judgement.{Judgement}
use Rattle.sk_verdict.specs.declared.Part.{Part}
use Rattle.sk_verdict.specs.Judging.{IsOver}
use Rattle.sk_plan.specs.Judged.{IsTheJudgement, IsWell}
use Rattle.sk_plan.proofs.TheJudgement.{well_alone}
use Rattle.sk_parts.specs.OwnSketch.{part_sketch}
use Rattle.sk_parts.proofs.Sharing.{well_judged}
use Rattle.sk_report.specs.CheckReport.{part_line}
use Rattle.sk_request.specs.declared.Request.{Request}
use Rattle.sk_cli.specs.declared.solving.Report.TheVariants.{Shape}
use Rattle.sk_answers.specs.declared.Status.{Status}
use Rattle.sk_cli.specs.PartsReport.{IsShape, IsBelowPart, ArePartsTold}
use Rattle.sk_cli.specs.Solved.{IsReportNotWell, IsSolved}

-- where the verdict is well, no report says otherwise
pub never_reported : (s : Sketch) (text : List ℕ) → IsWell (graph_of s) → IsReportNotWell s text → ⊥
never_reported s text well (j, judged, not_well, is) = well_alone (graph_of s) j well judged not_well

-- so what is solved of it is its shape
pub shape_solved : (request : Request) (s : Sketch) (status : Status) (text : List ℕ) → IsWell (graph_of s) → IsSolved Shape request s status text → IsShape request s text
shape_solved request s status text well (inl (p, placement, placed, status_is, is)) = (p, placement, placed, is)
shape_solved request s status text well (inr (short, report)) = absurd (never_reported s text well report)

-- what stands below a part, by what is solved of its own sketch
pub below_sound : (request : Request) (s : Sketch) → IsSoundSketch s → (j : Judgement) → IsTheJudgement (graph_of s) j → (p : Part) → Contains j.parts p → ¬ IsOver p
    → (status : Status) (text : List ℕ) → IsSolved Shape request (part_sketch s p.elements) status text → IsBelowPart request s p text
below_sound request s sound j judged p p_in not_over status text solved =
    inr (not_over, shape_solved request (part_sketch s p.elements) status text ((well_judged s j sound judged p p_in).1 not_over) solved)

pub over_or_not : (p : Part) → IsOver p ⊎ (¬ IsOver p)
over_or_not p = told (nat_lt p.due p.held) refl
  where
    told : (b : Bool) → nat_lt p.due p.held ≡ b → IsOver p ⊎ (¬ IsOver p)
    told true is = inl (over p.due p.held is)
      where
        over : (d h : ℕ) → nat_lt d h ≡ true → d < h
        over d h is = grind (arith, nat_tests)
    told false is = inr (not p.due p.held is)
      where
        not : (d h : ℕ) → nat_lt d h ≡ false → ¬ (d < h)
        not d h is = grind (arith, nat_tests)

-- one part more
told_more : (request : Request) (s : Sketch) (parts : List Part) (number : ℕ) (p : Part) (lines below : List ℕ) → ArePartsTold request s number parts lines → IsBelowPart request s p below
    → ArePartsTold request s number (parts ++ p ∷ []) (lines ++ (part_line s (number + length parts) p ++ below))
told_more request s [] number p lines below none told =
    let here : lines ++ (part_line s (number + 0) p ++ below) ≡ (part_line s number p ++ below) ++ [] =
    ap (λ l. l ++ (part_line s (number + 0) p ++ below)) none
    ∙ ap (λ n. part_line s n p ++ below) (omega arith)
    ∙ sym (append-nil (part_line s number p ++ below)) in
    (below, [], told, refl, here)
told_more request s (q ∷ parts) number p lines below (first, more, first_told, rest, is) told =
    let again = told_more request s parts (number + 1) p more below rest told in
    let number_is : number + length (q ∷ parts) ≡ (number + 1) + length parts = omega arith in (
      first,
      more ++ (part_line s ((number + 1) + length parts) p ++ below),
      first_told,
      again,
      ap (λ l. l ++ (part_line s (number + length (q ∷ parts)) p ++ below)) is
          ∙ ap (λ n. ((part_line s number q ++ first) ++ more) ++ (part_line s n p ++ below)) number_is
          ∙ append_assoc (part_line s number q ++ first) more (part_line s ((number + 1) + length parts) p ++ below),
    )

-- the text so far, with a part more
pub put_more : (request : Request) (s : Sketch) (parts : List Part) (i : ℕ) (z : Part) → i < length parts → (start old new below : List ℕ)
    → (lines : List ℕ) × ArePartsTold request s 1 (take i parts) lines × (old ≡ start ++ lines)
    → IsBelowPart request s (get_or parts i z) below → new ≡ old ++ (part_line s (i + 1) (get_or parts i z) ++ below)
    → (lines : List ℕ) × ArePartsTold request s 1 (take (i + 1) parts) lines × (new ≡ start ++ lines)
put_more request s parts i z i_in start old new below (lines, told, old_is) below_told new_is =
    let p = get_or parts i z in
    let more = told_more request s (take i parts) 1 p lines below told below_told in
    let size : length (take i parts) ≡ i = length-take-le i parts (omega arith) in
    let number_is : 1 + length (take i parts) ≡ i + 1 = omega (arith, size) in
    let next_is : i + 1 ≡ suc i = omega arith in
    let front_is : take (i + 1) parts ≡ take i parts ++ p ∷ [] = ap (λ n. take n parts) next_is ∙ take-suc parts i z i_in in
    let next = lines ++ (part_line s (i + 1) p ++ below) in (
      next,
      subst (λ ps. ArePartsTold request s 1 ps next) (sym front_is)
          (subst (λ n. ArePartsTold request s 1 (take i parts ++ p ∷ []) (lines ++ (part_line s n p ++ below))) number_is more),
      new_is ∙ ap (λ t. t ++ (part_line s (i + 1) p ++ below)) old_is ∙ append_assoc start lines (part_line s (i + 1) p ++ below),
    )

-- each list of parts is told of
pub some_told : (request : Request) (s : Sketch) → (parts : List Part) → ((p : Part) → Contains parts p → (below : List ℕ) × IsBelowPart request s p below) → (number : ℕ) → (lines : List ℕ) × ArePartsTold request s number parts lines
some_told request s [] each number = ([], refl)
some_told request s (p ∷ parts) each number =
    let here = each p (contains_head p parts) in
    let rest = some_told request s parts (λ q q_in. each q (contains_later p parts q q_in)) (number + 1) in
    ((part_line s number p ++ here.0) ++ rest.0, (here.0, rest.0, here.1, rest.1, refl))
