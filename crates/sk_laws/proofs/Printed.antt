-- What the texts of an outcome tell.
use Rattle.std.proofs.Common.{◌≡◌, ◌≢◌, inl, inr, ℕ, ◌<◌, ◌*◌, ◌-◌, Bool, true, false, List, [], ◌∷◌, length, get_or, refl, ap, sym, subst, ◌∙◌, arith, nat_lt}
use Rattle.std.specs.Prelude.{◌↔◌, if◌then◌else◌, Contains}
use Rattle.std.proofs.lemmas.Bool.Decides.{nat_tests}
use Rattle.std.proofs.lemmas.List.Elements.{Contains-get_or}
use Rattle.sk_base.specs.declared.Elem.{Elem}
use Rattle.sk_base.specs.declared.Element.{Element}
use Rattle.sk_base.specs.declared.Graph.{Graph}
use Rattle.sk_base.specs.declared.Node.{Node}
use Rattle.sk_base.specs.declared.Placed.{Placed}
use Rattle.sk_base.specs.declared.Sketch.{Sketch}
use Rattle.sk_base.specs.SoundGraph.{HasRisingEdges, IsSoundGraph}
use Rattle.sk_base.proofs.Members.{contains_none, contains_head, contains_mapped}
use Rattle.sk_family.specs.Body.{Body, SameBodies, Start, starts, edge_start, block_start, starting, initial_bodies}
use Rattle.sk_family.proofs.GraphStarts.{edge_starts, block_starts}
use Rattle.sk_rules.specs.Excess.{held}
use Rattle.sk_rules.specs.Reach.{IsNormal}
use Rattle.sk_rules.proofs.NormalForm.{reach_covers}
use Rattle.sk_verdict.specs.declared.Judgement.{Judgement}
use Rattle.sk_verdict.specs.declared.Part.{Part}
use Rattle.sk_verdict.specs.declared.Verdict.{Verdict}
use Rattle.sk_verdict.specs.declared.Verdict.TheVariants.{Well, Over, Several}
use Rattle.sk_verdict.specs.Judging.{IsOver, IsJudgement, some_over, verdict_on}
use Rattle.sk_verdict.specs.Parts.{elem_of, IsNamedByNone, IsLone, AreOfOnePart, part_with}
use Rattle.sk_verdict.proofs.Gathering.{lone_part_is}
use Rattle.sk_verdict.proofs.Judgements.{over_exactly}
use Rattle.sk_verdict.proofs.Normals.{has_two, more_than_one}
use Rattle.sk_graph.specs.SketchGraph.{graph_of, node_of}
use Rattle.sk_tree.specs.declared.Plan.{Plan as ThePlan}
use Rattle.sk_plan.specs.Judged.{IsTheJudgement, IsWell}
use Rattle.sk_plan.specs.PlanBy.{IsPlanBy}
use Rattle.sk_tolerance.specs.declared.Tolerance.{Tolerance}
use Rattle.sk_measure.specs.Placing.{PlacesExactly}
use Rattle.sk_tolerance.specs.Turns.{signs, AllAsDrawn}
use Rattle.sk_tolerance.proofs.Merging.{has_blocks}
use Rattle.sk_tolerance.proofs.Worsts.{all_hold_within}
use Rattle.sk_report.specs.PlanReport.{plan_report}
use Rattle.sk_close_by_order.specs.declared.Order.{Order}
use Rattle.sk_solve.specs.declared.Placement.{Placement}
use Rattle.sk_solve.specs.declared.Placement.TheVariants.{Fault, Uncarried, Beyond, Turned, Holds}
use Rattle.sk_request.specs.declared.Request.{Request}
use Rattle.sk_cli.specs.declared.Report.{Report}
use Rattle.sk_answers.specs.declared.Status.{Status}
use Rattle.sk_answers.specs.declared.Status.TheVariants.{Done, NotWell}
use Rattle.sk_laws.specs.Causes.{IsItsPlan, LieAt, NonePasses}
use Rattle.sk_request.specs.Grids.{grid_of, digits_of}
use Rattle.sk_laws.specs.Headline.{TellsClusters, IsOneSoundPart, HoldsAt, NamesTheFirst}
use Rattle.sk_cli.specs.Outcome.{IsPlanOrReport, IsReportNotWell, IsSolved}
use Rattle.sk_cli.specs.Solving.{midpoints, IsTolerance, status_of, report_words, placement_words}
use Rattle.sk_laws.proofs.OneOutcome.{OneJudgement, still_well, same_judgement, told_planned}
use Rattle.sk_cli.proofs.PlacedSpots.{laid_exactly}
use Rattle.sk_laws.proofs.WhyEnds.{IsPlacedSo, never_short}

abbrev pub OneNormal : Type 0
OneNormal = (g : Graph) (one other : List Body) → HasRisingEdges g → IsNormal g one → IsNormal g other → SameBodies one other

module _ (g : Graph) (sound : IsSoundGraph g) (f : List Body) (normal : IsNormal g f) where
  -- a cluster has two elements or more
  none_lesser : (x : Body) → Contains f x → (es : List Elem) → x.elements ≡ es → length es < 2 → ⊥
  none_lesser x x_in [] is few = let own = has_two g f sound normal x x_in in contains_none own.0 (subst (λ zs. Contains zs own.0) is own.3)
  none_lesser x x_in (e ∷ []) is few = more_than_one g f sound normal x x_in e is
  none_lesser x x_in (e ∷ d ∷ es) is few = absurd (omega arith)

  module _ (j : Judgement) (is : IsJudgement g f j) where
    -- the parts of less than two elements are the lone ones
    lone_exactly : (p : Part) → length p.elements < 2 → Contains j.parts p ↔ ((e : Elem) × IsLone g e × (p ≡ record { elements = e ∷ []; held = 0; due = 0 }))
    lone_exactly p few = (
      (λ inside. (let part = (is.parts p).0 inside in elim part.0 [
        | inl (x, x_in, same) ↦ absurd (none_lesser x x_in p.elements same few)
        | inr (e, lone, same) ↦ (e, lone, part.1 ∙ ap (λ xs. part_with g xs) (sym same) ∙ sym (lone_part_is g e lone.named_by_none))
      ])),
      (λ (e, lone, same). (
          let elements : p.elements ≡ e ∷ [] = ap (λ (q : Part). q.elements) same in
          (is.parts p).1 (inr (e, lone, sym elements), same ∙ lone_part_is g e lone.named_by_none ∙ ap (λ xs. part_with g xs) (sym elements))
          )),
    )

    lone_never_over : (p : Part) → length p.elements < 2 → Contains j.parts p → ¬ IsOver p
    lone_never_over p few inside over =
        let lone = ((lone_exactly p few).0 inside).2 in
        let none : p.held ≡ 0 = ap (λ (q : Part). q.held) lone in
        omega (arith, none, over)

    -- a node is in some part
    pub some_part : (n : Node) → Contains g.nodes n → 0 < length j.parts
    some_part n n_in = by_starts (starts g) refl
      where
        holds : (xs : List Elem) → AreOfOnePart g f xs → 0 < length j.parts
        holds xs one = let inside = (is.parts (part_with g xs)).1 (one, refl) in omega (arith, inside.1)

        -- where nothing starts there is neither a constraint between two elements nor a block
        by_none : starts g ≡ [] → IsNamedByNone g n.elem
        by_none none = (
          (λ k d k_in. absurd (contains_none (edge_start (get_or g.edges k d))
              (subst (λ ss. Contains ss (edge_start (get_or g.edges k d))) none (edge_starts g (get_or g.edges k d) (Contains-get_or g.edges k d k_in))))),
          (λ k b k_in. absurd (contains_none (block_start (get_or g.blocks k b))
              (subst (λ ss. Contains ss (block_start (get_or g.blocks k b))) none
              (block_starts g sound.blocks_rise sound.blocks_apart (get_or g.blocks k b) (Contains-get_or g.blocks k b k_in))))),
        )

        by_starts : (ss : List Start) → starts g ≡ ss → 0 < length j.parts
        by_starts [] none = holds (n.elem ∷ []) (inr (n.elem, record { is_node = contains_mapped elem_of g.nodes n n_in; named_by_none = by_none none }, refl))
        by_starts (s ∷ ss) some =
            let s_in : Contains (starts g) s = subst (λ ts. Contains ts s) (sym some) (contains_head s ss) in
            let around = reach_covers g (initial_bodies g) f normal.reached (starting s) (contains_mapped starting (starts g) s s_in) in
            holds around.0.elements (inl (around.0, around.1, refl))

-- a sketch that has an element has a part
pub part_of_sketch : (s : Sketch) → IsSoundGraph (graph_of s) → 0 < length s.elements → (j : Judgement) → IsTheJudgement (graph_of s) j → 0 < length j.parts
part_of_sketch s sound some j judged = by_elements s.elements refl some
  where
    by_elements : (es : List Element) → s.elements ≡ es → 0 < length es → 0 < length j.parts
    by_elements [] is some = absurd (omega arith)
    by_elements (e ∷ es) is some =
        let e_in : Contains s.elements e = subst (λ xs. Contains xs e) (sym is) (contains_head e es) in
        some_part (graph_of s) sound judged.normal judged.is_normal j (judged.every judged.normal judged.is_normal) (node_of e) (contains_mapped node_of s.elements e e_in)

pub tells_clusters : OneNormal → (g : Graph) → IsSoundGraph g → (j : Judgement) → IsTheJudgement g j → TellsClusters g j
tells_clusters law g sound j judged =
    let is = judged.every judged.normal judged.is_normal in
    record {
      family = judged.normal;
      normal = judged.is_normal;
      only = λ other normal. law g other judged.normal sound.edges_rise normal judged.is_normal;
      clusters = λ p two. (
        (λ inside. (let part = (is.parts p).0 inside in elim part.0 [
          | inl (x, x_in, same) ↦ (x, x_in, part.1 ∙ ap (λ xs. part_with g xs) (sym same))
          | inr (e, lone, same) ↦ absurd (let long : length p.elements ≡ 1 = ap length (sym same) in omega (arith, two, long))
        ])),
        (λ (x, x_in, same). (
            let elements = ap (λ (q : Part). q.elements) same in
            (is.parts p).1 (inl (x, x_in, sym elements), same ∙ ap (λ xs. part_with g xs) (sym elements))
            )),
      );
      over = λ p inside. (
          let part = ((is.parts p).0 inside).1 in
          let due : p.due ≡ 2 * length p.elements - 3 = ap (λ (q : Part). q.due) part in
          let held_is : p.held ≡ held g p.elements = ap (λ (q : Part). q.held) part in (
            (λ over. (subst (λ n. n < held g p.elements) due (subst (λ m. p.due < m) held_is over))),
            (λ more. (subst (λ n. n < p.held) (sym due) (subst (λ m. 2 * length p.elements - 3 < m) (sym held_is) more))),
          )
          );
      lone = lone_exactly g sound judged.normal judged.is_normal j is;
      never_over = lone_never_over g sound judged.normal judged.is_normal j is;
    }

-- where there is a part, the verdict is well exactly where there is no second one and none is over
pub well_exactly : (j : Judgement) → 0 < length j.parts → j.verdict ≡ verdict_on j.parts → (j.verdict ≡ Well) ↔ IsOneSoundPart j
well_exactly j some is = (
  (λ well. (
    (let few = not_several (some_over j.parts) (nat_lt 1 (length j.parts)) (sym is ∙ well) in grind (arith, nat_tests, few, some)),
    (λ p inside over. (
        let told : j.verdict ≡ Over = (over_exactly j is).1 (inside.0, p, inside.1, inside.2, over) in
        let clash : Well ≡ Over = sym well ∙ told in cc
        )),
  )),
  (λ one. by_verdict one j.verdict refl),
)
  where
    not_several : (b c : Bool) → (if b then Over else (if c then Several else Well)) ≡ Well → c ≡ false
    not_several true c same = cc
    not_several false true same = cc
    not_several false false same = refl

    several : (b c : Bool) → (if b then Over else (if c then Several else Well)) ≡ Several → c ≡ true
    several true c same = cc
    several false true same = refl
    several false false same = cc

    by_verdict : IsOneSoundPart j → (v : Verdict) → j.verdict ≡ v → j.verdict ≡ Well
    by_verdict one Well same = same
    by_verdict one Over same = (let (k, p, k_in, at_k, over) = (over_exactly j is).0 same in absurd (one.1 p (k, k_in, at_k) over))
    by_verdict one Several same = (let more = several (some_over j.parts) (nat_lt 1 (length j.parts)) (sym is ∙ same) in let few = one.0 in absurd (grind (arith, nat_tests, more, few)))

module _ (law : OneJudgement) (s : Sketch) (j : Judgement) (judged : IsTheJudgement (graph_of s) j) (some : 0 < length j.parts) where
  one_part : IsWell (graph_of s) → IsOneSoundPart j
  one_part (k, other, well) =
      (well_exactly j some (judged.every judged.normal judged.is_normal).verdict).0
      (subst (λ (z : Judgement). z.verdict ≡ Well) (same_judgement law (graph_of s) k j other judged) well)

  is_well : IsOneSoundPart j → IsWell (graph_of s)
  is_well one = (j, judged, (well_exactly j some (judged.every judged.normal judged.is_normal).verdict).1 one)

  -- a plan is written exactly where one part remains that isn't over
  pub planned_both : (order : Order) (status : Status) (text : List ℕ) → IsPlanOrReport order s status text → (status ≡ Done) ↔ IsOneSoundPart j
  planned_both order status text answer =
      elim (told_planned order s status text answer) [
        | inl (done, (p, by, is)) ↦ ((λ same. one_part by.well), (λ one. done))
        | inr (short, report) ↦ ((λ same. (let clash : NotWell ≡ Done = sym short ∙ same in cc)), (λ one. absurd (still_well law s text (is_well one) report)))
      ]

-- the text of a plan
pub planned_text : (order : Order) (s : Sketch) (status : Status) (text : List ℕ) → IsPlanOrReport order s status text → status ≡ Done
    → (p : ThePlan) × IsPlanBy order s p × (text ≡ plan_report s p)
planned_text order s status text answer same =
    elim (told_planned order s status text answer) [
      | inl (done, report) ↦ report
      | inr (short, report) ↦ absurd (let clash : NotWell ≡ Done = sym short ∙ same in cc)
    ]

-- only where all holds is the status that the command did its work
held_placement : (q : Placement) → status_of q ≡ Done → (at : Placed) × (t : Tolerance) × (q ≡ Holds at t)
held_placement (Fault f) same = cc
held_placement (Uncarried f) same = cc
held_placement (Beyond b) same = cc
held_placement (Turned t) same = cc
held_placement (Holds at t) same = (at, t, refl)

module _ (report : Report) (request : Request) (s : Sketch) (status : Status) (text : List ℕ) where
  pub unplaced : IsSolved report request s status text → status ≡ NotWell → IsReportNotWell s text
  unplaced (inl (p, q, placed, status_is, text_is)) same = absurd (never_short q (sym status_is ∙ same))
  unplaced (inr (short, told)) same = told

  held_there : IsSoundGraph (graph_of s) → (p : ThePlan) → IsItsPlan request s p → (here at : Placed) (t : Tolerance) → LieAt request s p here → at ≡ here → NonePasses request s here
      → AllAsDrawn (signs s here p) → IsTolerance here (graph_of s) t → HoldsAt request s p at t
  held_there sound p its here at t lie is none drawn least =
      let G = grid_of request.bits in
      let F = digits_of request.bits in
      let fit : HoldsAt request s p here t = record {
        plan = its;
        lie = lie;
        exactly = subst (λ (z : Placed). PlacesExactly (graph_of s) z) (sym lie.2) (laid_exactly G request.layout F s p sound its.legal lie.0 lie.1);
        holds = all_hold_within here (graph_of s) t.t t.w (has_blocks (graph_of s) sound) least.lengths.holds least.angles.holds;
        least = least;
        within = none;
        drawn = drawn;
      } in
      subst (λ (z : Placed). HoldsAt request s p z t) (sym is) fit

  -- what is placed and holds
  pub held_so : IsSoundGraph (graph_of s) → (p : ThePlan) → IsItsPlan request s p → (at : Placed) (t : Tolerance) → IsPlacedSo request s p (Holds at t) → HoldsAt request s p at t
  held_so sound p its at t there = held_there sound p its (midpoints (digits_of request.bits) there.0) at t (there.0, there.1, refl) there.2.0 there.2.1 there.2.2 there.2.3

  held_text : IsSoundGraph (graph_of s) → (p : ThePlan) → IsItsPlan request s p → (q : Placement) → IsPlacedSo request s p q → status_of q ≡ Done → text ≡ placement_words report (digits_of request.bits) s p q
      → (at : Placed) × (t : Tolerance) × HoldsAt request s p at t × (text ≡ report_words report (digits_of request.bits) s p at t)
  held_text sound p its q placed same is =
      let holds = held_placement q same in
      let there : IsPlacedSo request s p (Holds holds.0 holds.1) = subst (λ (z : Placement). IsPlacedSo request s p z) holds.2 placed in (
        holds.0,
        holds.1,
        held_there sound p its (midpoints (digits_of request.bits) there.0) holds.0 holds.1 (there.0, there.1, refl) there.2.0 there.2.1 there.2.2 there.2.3,
        is ∙ ap (λ (z : Placement). placement_words report (digits_of request.bits) s p z) holds.2,
      )

  named_text : (p : ThePlan) → IsItsPlan request s p → (q : Placement) → IsPlacedSo request s p q → status_of q ≢ Done → text ≡ placement_words report (digits_of request.bits) s p q → NamesTheFirst request s text
  named_text p its (Fault f) placed other is = (p, its, inl (f, placed, is))
  named_text p its (Uncarried f) placed other is = (p, its, inr (inl (f, placed, is)))
  named_text p its (Beyond b) (boxes, lie, beyond) other is = (p, its, inr (inr (inl (midpoints (digits_of request.bits) boxes, b, (boxes, lie, refl), beyond, is))))
  named_text p its (Turned t) (boxes, lie, (none, first)) other is = (p, its, inr (inr (inr (midpoints (digits_of request.bits) boxes, t, (boxes, lie, refl), none, first, is))))
  named_text p its (Holds at t) placed other is = absurd (other refl)

  -- where all holds, the report is written of the places
  pub solved_text : IsSoundGraph (graph_of s) → IsSolved report request s status text → status ≡ Done
      → (p : ThePlan) × (at : Placed) × (t : Tolerance) × HoldsAt request s p at t × (text ≡ report_words report (digits_of request.bits) s p at t)
  solved_text sound (inl (p, q, placed, status_is, text_is)) same =
      let found = held_text sound p placed.plan q placed.placed (sym status_is ∙ same) text_is in (p, found.0, found.1, found.2, found.3)
  solved_text sound (inr (short, told)) same = absurd (let clash : NotWell ≡ Done = sym short ∙ same in cc)

  -- else what fails first is named
  pub failed_text : IsSolved report request s status text → status ≢ Done → status ≢ NotWell → NamesTheFirst request s text
  failed_text (inl (p, q, placed, status_is, text_is)) other short =
      named_text p placed.plan q placed.placed (λ done. other (status_is ∙ done)) text_is
  failed_text (inr (is, told)) other short = absurd (short is)
