-- Each line has a reply, and leads from a kept state to one.
use Rattle.std.specs.Prelude.{All}
use Rattle.std.proofs.Common.{◌≡◌, ◌≢◌, ◌⊎◌, inl, inr, refl, ℕ, ◌+◌, ◌<◌, Bool, true, false, not, List, [], ◌∷◌, ◌++◌, length, get_or, ap, sym, subst, ◌∙◌, Option, None, Some, arith}
use Rattle.std.proofs.lemmas.Bool.Decides.{nat_tests}
use Rattle.std.proofs.lemmas.List.Elements.{Contains-get_or}
use Rattle.std.proofs.lemmas.List.Sums.{fold-append}
use Rattle.sk_base.specs.declared.ConId.{ConId}
use Rattle.sk_base.specs.declared.Constraint.{Constraint}
use Rattle.sk_base.specs.declared.Elem.{Elem}
use Rattle.sk_base.specs.declared.Element.{Element}
use Rattle.sk_base.specs.declared.Graph.{Graph}
use Rattle.sk_base.specs.declared.Sketch.{Sketch}
use Rattle.sk_base.specs.SoundGraph.{IsSoundGraph}
use Rattle.sk_base.specs.SoundSketch.{IsSoundSketch}
use Rattle.sk_base.proofs.Splits.{last_or_none}
use Rattle.sk_base.proofs.Tables.{passed}
use Rattle.sk_family.specs.Body.{initial_bodies}
use Rattle.sk_family.specs.Clusters.{Clusters, bodies, IsSound}
use Rattle.sk_family.proofs.Soundness.{sound_replaced}
use Rattle.sk_graph.specs.SketchGraph.{graph_of}
use Rattle.sk_graph.proofs.Soundness.{graph_is_sound}
use Rattle.sk_lines.specs.declared.Version.TheVariants.{Two}
use Rattle.sk_lines.specs.Comments.{words_under}
use Rattle.sk_lines.specs.declared.Code.{Code}
use Rattle.sk_lines.specs.declared.Code.TheVariants.{E3, S3, S5}
use Rattle.sk_entry.specs.declared.Entry.{Entry}
use Rattle.sk_entry.specs.declared.Entry.TheVariants as entry
use Rattle.sk_lines.specs.ByteCodes.{byte_rows}
use Rattle.sk_lines.specs.EndLine.{is_none_left}
use Rattle.sk_entry.specs.Entry.{rows_of, entry_code, IsEntryOf, Begins, StandsOn, IsNumbered}
use Rattle.sk_lines.specs.FirstCode.{first_code}
use Rattle.sk_entry.specs.Meaning.{added}
use Rattle.sk_family.specs.declared.Merge.{Merge}
use Rattle.sk_family.specs.Merges.{names_of}
use Rattle.sk_rules.specs.Merges.{merged}
use Rattle.sk_rules.specs.Reach.{Reach, IsNormal, stays, goes}
use Rattle.sk_rules.proofs.Merging.{can_be_replaced, merge_steps}
use Rattle.sk_rules.proofs.NormalForm.{normal_same}
use Rattle.sk_close_by_order.specs.declared.Order.{Order}
use Rattle.sk_close_by_order.specs.Orders.{Choosing, place_of, next_call}
use Rattle.sk_close_by_order.specs.Run.{PicksLead, IsRun}
use Rattle.sk_neighbours.proofs.Holding.{in_list}
use Rattle.sk_close_by_order.proofs.Runs.{choice_can, none_closes, picks_sound, picks_room}
use Rattle.sk_rules.proofs.Takable.{reach_on}
use Rattle.sk_tree.specs.declared.Plan.{Plan}
use Rattle.sk_verdict.specs.declared.Judgement.{Judgement}
use Rattle.sk_verdict.specs.declared.Verdict.{Verdict}
use Rattle.sk_verdict.specs.declared.Verdict.TheVariants.{Well, Over, Several}
use Rattle.sk_plan.specs.Judged.{IsTheJudgement, IsWell}
use Rattle.sk_plan.specs.PlanBy.{fresh, IsPlanBy}
use Rattle.sk_session.specs.declared.closing.Closing.{Closing}
use Rattle.sk_session.specs.declared.closing.Closing.TheVariants.{ByRun, InAnyOrder}
use Rattle.sk_edits.specs.declared.Command.{Command}
use Rattle.sk_edits.specs.declared.Command.TheVariants as command
use Rattle.sk_edits.specs.declared.Change.{Change as Changing}
use Rattle.sk_session.specs.declared.done.Done.{Done}
use Rattle.sk_edits.specs.declared.Edit.{Edit}
use Rattle.sk_edits.specs.declared.Edit.TheVariants as edit
use Rattle.sk_session.specs.declared.reply.Reply.{Reply}
use Rattle.sk_session.specs.declared.reply.Reply.TheVariants as reply
use Rattle.sk_base.specs.declared.Rule.{Rule}
use Rattle.sk_base.specs.declared.Rule.TheVariants as rule
use Rattle.sk_edits.specs.Commands.{id_of, rule_with, setting, command_of, edit_made, change_rows}
use Rattle.sk_entry.specs.Growth.{empty_sketch}
use Rattle.sk_edits.specs.Edits.{applied, sketch_of, next_element, next_constraint}
use Rattle.sk_edits.specs.Making.{CanMake}
use Rattle.sk_edits.specs.declared.Change.TheVariants.{Drop, Set, Erase}
use Rattle.sk_entry.specs.Named.{number_named}
use Rattle.sk_lines.specs.Quantities.{um, ratio}
use Rattle.sk_session.specs.SessionCodes.{command_rows, word_rows, code_in, is_spent}
use Rattle.sk_session.specs.Past.{edit_of, edits_of, Stood}
use Rattle.sk_session.specs.Standing.{Gives, IsConsistent, element_after, element_before}
use Rattle.sk_session.specs.State.{State, sketch_in, graph_in, Accepts, TakesBack, EndsBy, Closes}
use Rattle.sk_session.specs.Replies.{Stands, Takes, Obeys, Enters, ByCode, Answers, next_elem, next_con}
use Rattle.sk_lines.proofs.FirstCodes.{code_front, code_behind}
use Rattle.sk_session.proofs.Coding.{answers_entry, answers_command, answers_refused}
use Rattle.sk_session.proofs.Consistency.{edits_push, consistent_made, consistent_undone, consistent_merged, last_led}
use Rattle.sk_edits.proofs.Numbers.{elements_below, constraints_below}
use Rattle.sk_edits.proofs.Possible.{SoundQuantities, sound_value, can_declare, can_constrain, can_change}
use Rattle.sk_session.proofs.ToSolve.{EachStandsOn, some_asked}
use Rattle.sk_session.proofs.SomeFollowing.{followed, followed_back, some_done}

-- what a session keeps to stands for the state
abbrev pub IsKept : State → Type 0
IsKept state = (done : List Done) × (edits_of done ≡ state.edits) × IsConsistent done (sketch_in state) (next_element state.edits) (next_constraint state.edits) state.count state.family

-- what the laws of the language give
pub record GivenByLanguage : Type 0 where
  pub entry : (s : Sketch) (line : List ℕ) (elem : Elem) (con : ConId) → entry_code Two s line ≡ None → (x : Entry) × IsEntryOf Two s line elem con x
  pub stands_on : EachStandsOn
  pub numbered : (s : Sketch) (line : List ℕ) (elem : Elem) (con : ConId) (x : Entry) → IsEntryOf Two s line elem con x → IsNumbered elem con x
  pub grown : (s : Sketch) (line : List ℕ) (elem : Elem) (con : ConId) (x : Entry) → IsSoundSketch s
      → All (λ (e : Element). e.number.0 < elem.0) s.elements → All (λ (c : Constraint). c.number.0 < con.0) s.constraints
      → entry_code Two s line ≡ None → IsEntryOf Two s line elem con x → IsSoundSketch (added s (Some x))
  pub quantities : SoundQuantities

-- what the layers below give
pub record GivenBelow : Type 0 where
  pub language : GivenByLanguage
  pub run : (order : Order) (g : Graph) (f : Clusters) → IsSound f → (ms : List Merge) × (end : Clusters) × (last : Choosing) × IsRun place_of next_call g f (fresh order) ms end last
  pub judgement : (g : Graph) → IsSoundGraph g → (j : Judgement) × IsTheJudgement g j
  pub plan : (order : Order) (s : Sketch) → IsSoundSketch s → 0 < length s.elements → IsWell (graph_of s) → (p : Plan) × IsPlanBy order s p

-- ---- edits

-- the edit stands then
record HasAccepted (old : State) (e : Edit) : Type 0 where
  new : State
  accepts : Accepts old e new
  kept : IsKept new

accepted_done : (old : State) → IsKept old → old.count < 1000000 → (d : Done) → CanMake (edit_of d) (sketch_in old) → Gives (edit_of d) old.edits → Stood d (sketch_in old) → HasAccepted old (edit_of d)
accepted_done old (done, same, k) room d can given stood =
    let e : Edit = edit_of d in
    let few = k.room in
    let next = followed e (sketch_in old) can old.family k.family_sound k.reached (omega arith) in
    let new : State = record { order = old.order; closing = old.closing; edits = old.edits ++ e ∷ []; count = old.count + 1; family = next.new } in
    let pushed : sketch_in new ≡ applied e (sketch_in old) = fold-append (λ s x. applied x s) empty_sketch old.edits (e ∷ []) in
    let edits : edits_of (done ++ d ∷ []) ≡ new.edits = edits_push done d ∙ ap (λ es. es ++ e ∷ []) same in
    let made = consistent_made done (sketch_in old) (sketch_in new) (next_element old.edits) (next_constraint old.edits) old.count old.family next.new k room next.sound next.few d
    (subst (λ es. CanMake e (sketch_of es)) (sym same) can) (subst (λ es. Gives e es) (sym same) given) stood pushed next.follows in
    let elem = made.elem_is ∙ ap next_element edits in
    let con = made.con_is ∙ ap next_constraint edits in
    record {
      new = new;
      accepts = record { order = refl; closing = refl; edits = refl; count = refl; family = next.follows };
      kept = (
        done ++ d ∷ [],
        edits,
        subst (λ n. IsConsistent (done ++ d ∷ []) (sketch_in new) n (next_constraint new.edits) new.count new.family) elem
            (subst (λ n. IsConsistent (done ++ d ∷ []) (sketch_in new) (element_after e (next_element old.edits)) n new.count new.family) con made),
      );
    }

accepted : (old : State) → IsKept old → old.count < 1000000 → (e : Edit) → CanMake e (sketch_in old) → Gives e old.edits → HasAccepted old e
accepted old kept room e can given =
    let (d, is, stood) = some_done e (sketch_in old) can in
    subst (λ (x : Edit). HasAccepted old x) is
    (accepted_done old kept room d (subst (λ (x : Edit). CanMake x (sketch_in old)) (sym is) can) (subst (λ (x : Edit). Gives x old.edits) (sym is) given) stood)

record HasTakenBack (old : State) : Type 0 where
  new : State
  takes : TakesBack old new
  kept : IsKept new

taken_back : (old : State) → IsKept old → old.count < 1000000 → old.edits ≢ [] → HasTakenBack old
taken_back old (done, same, k) room some =
    elim (last_or_none done) [
      | inl none ↦ absurd (some (sym same ∙ ap edits_of none))
      | inr (rest, d, done_is) ↦ (
          let few = k.room in
          let ne = next_element old.edits in
          let nc = next_constraint old.edits in
          let led = last_led done (sketch_in old) (sketch_of (edits_of rest)) ne nc old.count old.family old.family k room k.family_sound (omega arith) rest d done_is in
          let next = followed_back (sketch_of (edits_of rest)) (sketch_in old) k.sound old.family k.family_sound k.reached (omega arith) d led in
          let new : State = record { order = old.order; closing = old.closing; edits = edits_of rest; count = old.count + 1; family = next.new } in
          let undone = consistent_undone done (sketch_in old) (sketch_in new) ne nc old.count old.family next.new k room next.sound next.few rest d done_is refl next.follows in
          record {
            new = new;
            takes = record { last = edit_of d; order = refl; closing = refl; edits = sym same ∙ ap edits_of done_is ∙ edits_push rest d; count = refl; family = next.follows };
            kept = (
              rest,
              refl,
              subst (λ n. IsConsistent rest (sketch_in new) n (next_constraint new.edits) new.count new.family) undone.elem_is
                  (subst (λ n. IsConsistent rest (sketch_in new) (element_before (edit_of d) ne) n new.count new.family) undone.con_is undone),
            );
          })
    ]

-- ---- the check

module _ {P : Type 0} (answer : P → ℕ → ℕ) (after : P → ℕ → P) (g : Graph) where
  picks_reach : (f end : Clusters) (p last : P) (ms : List Merge) → IsSound f → PicksLead answer after g f p ms end last → Reach g (bodies f) (bodies end)
  picks_reach f end p last [] sound (is, same) = subst (λ (e : Clusters). Reach g (bodies f) (bodies e)) (sym is) stays
  picks_reach f end p last (m ∷ ms) sound (choices, are, picked, rest) =
      let can = choice_can g f choices are m (in_list choices (answer p (length choices)) m picked) in
      goes (merge_steps g f sound m can.0 can.1)
      (picks_reach (merged f m) end (after p (length choices)) last ms (sound_replaced f (names_of m) sound (can_be_replaced g f m can.0 can.1)) rest)

-- the end of the run is that of either way of closing
ends_both : (order : Order) (g : Graph) → IsSoundGraph g → (f end : Clusters) → IsSound f → Reach g (initial_bodies g) (bodies f)
    → (ms : List Merge) (last : Choosing) → IsRun place_of next_call g f (fresh order) ms end last → (closing : Closing) → EndsBy closing order g f end
ends_both order g g_sound f end sound reached ms last run ByRun = (ms, (last, run))
ends_both order g g_sound f end sound reached ms last run InAnyOrder =
    let way = picks_reach place_of next_call g f end (fresh order) last ms sound run.leads in
    let normal : IsNormal g (bodies end) = record {
      reached = reach_on g (initial_bodies g) (bodies f) (bodies end) reached way;
      closed = none_closes g end (picks_sound place_of next_call g f end (fresh order) last ms sound run.leads) run.ends;
    } in
    record { reached = way; normal = normal; only = λ other is. normal_same g other (bodies end) g_sound.edges_rise is normal }

record HasClosed (old : State) : Type 0 where
  new : State
  closes : Closes old new
  kept : IsKept new

closed : GivenBelow → (old : State) → IsKept old → HasClosed old
closed below old (done, same, k) =
    let (ms, end, last, run) = below.run old.order (graph_in old) old.family k.family_sound in
    record {
      new = record { order = old.order; closing = old.closing; edits = old.edits; count = old.count; family = end };
      closes = record {
        else_same = record { order = refl; edits = refl; count = refl };
        closing = refl;
        ends = ends_both old.order (graph_in old) (graph_is_sound (sketch_in old) k.sound) old.family end k.family_sound k.reached ms last run old.closing;
      };
      kept = (
        done,
        same,
        consistent_merged done (sketch_in old) (next_element old.edits) (next_constraint old.edits) old.count old.family end k
            (picks_sound place_of next_call (graph_in old) old.family end (fresh old.order) last ms k.family_sound run.leads)
            (picks_room place_of next_call (graph_in old) old.family end (fresh old.order) last ms k.family_sound run.leads)
            (picks_reach place_of next_call (graph_in old) old.family end (fresh old.order) last ms k.family_sound run.leads),
      );
    }

-- ---- commands

-- the command is obeyed or refused
record HasObeyed (old : State) (o : Option Command) (rest : List (List ℕ)) : Type 0 where
  answer : Reply
  new : State
  obeys : ByCode (first_code (command_rows old o rest)) old (Obeys old o rest answer new) answer new
  kept : IsKept new

-- without a code it is obeyed
record IsObeyed (old : State) (o : Option Command) (rest : List (List ℕ)) : Type 0 where
  answer : Reply
  new : State
  obeys : Obeys old o rest answer new
  kept : IsKept new

by_code : (old : State) → IsKept old → (o : Option Command) (rest : List (List ℕ)) → (first_code (command_rows old o rest) ≡ None → IsObeyed old o rest) → HasObeyed old o rest
by_code old kept o rest go = told (first_code (command_rows old o rest)) refl
  where
    told : (code : Option Code) → first_code (command_rows old o rest) ≡ code → HasObeyed old o rest
    told (Some code) is = record {
      answer = reply.Refused code;
      new = old;
      obeys = subst (λ c. ByCode c old (Obeys old o rest (reply.Refused code) old) (reply.Refused code) old) (sym is) (refl, refl);
      kept = kept;
    }
    told None is = (let found = go is in record {
      answer = found.answer;
      new = found.new;
      obeys = subst (λ c. ByCode c old (Obeys old o rest found.answer found.new) found.answer found.new) (sym is) found.obeys;
      kept = found.kept;
    })

none_front : (rows more : List (Bool × Code)) → first_code (rows ++ more) ≡ None → first_code rows ≡ None
none_front rows more clean = told (first_code rows) refl
  where
    told : (o : Option Code) → first_code rows ≡ o → first_code rows ≡ None
    told None is = is
    told (Some code) is = absurd (let some = code_front rows more code is in cc)

not_spent : (state : State) → is_spent state ≡ false → state.count < 1000000
not_spent state is = grind (arith, nat_tests)

some_edits : (es : List Edit) → is_none_left es ≡ false → es ≢ []
some_edits [] is e = cc
some_edits (x ∷ es) is e = cc

-- what is changed has no new number
gives_as : (e d : Edit) (before : List Edit) → Some d ≡ Some e → Gives d before → Gives e before
gives_as e d before is given = (let same : d ≡ e = cc in subst (λ x. Gives x before) same given)

gives_setting : (r : Option Rule) (k : ConId) (word : List ℕ) (e : Edit) (before : List Edit) → setting r k word ≡ Some e → Gives e before
gives_setting (Some (rule.Distance u v len)) k word e before is = gives_as e (edit.Length k (um word)) before is tt
gives_setting (Some (rule.Angle l m old)) k word e before is = gives_as e (edit.Turned k (ratio word)) before is tt
gives_setting (Some (rule.On u v)) k word e before is = absurd (cc)
gives_setting (Some (rule.Tangent u v)) k word e before is = absurd (cc)
gives_setting (Some (rule.Outside u v)) k word e before is = absurd (cc)
gives_setting (Some (rule.Inside u v)) k word e before is = absurd (cc)
gives_setting (Some (rule.Block pins)) k word e before is = absurd (cc)
gives_setting None k word e before is = absurd (cc)

gives_change : (s : Sketch) (change : Changing) (rest : List (List ℕ)) (e : Edit) (before : List Edit) → edit_made s change rest ≡ Some e → Gives e before
gives_change s Drop (number ∷ []) e before is = gives_as e (edit.Dropped (id_of number)) before is tt
gives_change s Set (number ∷ value ∷ []) e before is = gives_setting (rule_with s (id_of number)) (id_of number) value e before is
gives_change s Erase (name ∷ []) e before is = gives_as e (edit.Erased (number_named s name)) before is tt
gives_change s change rest e before is = absurd (cc)

pub well_or_not : (v : Verdict) → (v ≡ Well) ⊎ (v ≢ Well)
well_or_not Well = inl refl
well_or_not Over = inr (λ e. cc)
well_or_not Several = inr (λ e. cc)

module _ (below : GivenBelow) (old : State) (was : IsKept old) where
  sound : IsSoundSketch (sketch_in old)
  sound = was.2.sound

  graph_sound : IsSoundGraph (graph_in old)
  graph_sound = graph_is_sound (sketch_in old) sound

  changes : (change : Changing) (rest : List (List ℕ)) → first_code (command_rows old (Some (command.Change change)) rest) ≡ None → IsObeyed old (Some (command.Change change)) rest
  changes change rest clean =
      let rows = change_rows (sketch_in old) change rest in
      let first = none_front rows ((is_spent old, S5) ∷ []) clean in
      let spent = passed (is_spent old) S5 None (sym (code_behind rows ((is_spent old, S5) ∷ []) first) ∙ clean) in
      let can = can_change (sketch_in old) sound change rest first in
      let fine = can.2 (sound_value below.language.quantities (sketch_in old) change rest can.0 first can.1) in
      let done = accepted old was (not_spent old spent.0) can.0 fine (gives_change (sketch_in old) change rest can.0 old.edits can.1) in
      record {
        answer = reply.Done;
        new = done.new;
        obeys = subst (λ made. Stands old made reply.Done reply.Done done.new) (sym can.1) (refl, done.accepts);
        kept = done.kept;
      }

  undoes : (rest : List (List ℕ)) → first_code (command_rows old (Some command.Undo) rest) ≡ None → IsObeyed old (Some command.Undo) rest
  undoes rest clean =
      let alone = passed (not (is_none_left rest)) E3 (first_code ((is_none_left old.edits, S3) ∷ (is_spent old, S5) ∷ [])) clean in
      let some = passed (is_none_left old.edits) S3 (first_code ((is_spent old, S5) ∷ [])) alone.1 in
      let spent = passed (is_spent old) S5 None some.1 in
      let done = taken_back old was (not_spent old spent.0) (some_edits old.edits some.0) in
      record { answer = reply.Done; new = done.new; obeys = (refl, done.takes); kept = done.kept }

  checks : (rest : List (List ℕ)) → IsObeyed old (Some command.Check) rest
  checks rest =
      let j = below.judgement (graph_in old) graph_sound in
      let done = closed below old was in
      record { answer = reply.Checked j.0; new = done.new; obeys = (j.0, refl, j.1, done.closes); kept = done.kept }

  plans : (rest : List (List ℕ)) → 0 < length (sketch_in old).elements → IsObeyed old (Some command.Plan) rest
  plans rest some =
      let j = below.judgement (graph_in old) graph_sound in
      elim (well_or_not j.0.verdict) [
        | inl well ↦ (let p = below.plan old.order (sketch_in old) sound some (j.0, j.1, well) in record { answer = reply.Planned p.0; new = old; obeys = (inl (p.0, refl, p.1), refl); kept = was })
        | inr never ↦ record { answer = reply.NotWell j.0; new = old; obeys = (inr (j.0, refl, j.1, never), refl); kept = was }
      ]

  obeyed : (o : Option Command) (rest : List (List ℕ)) → first_code (command_rows old o rest) ≡ None → IsObeyed old o rest
  obeyed None rest clean = absurd (cc)
  obeyed (Some (command.Change change)) rest clean = changes change rest clean
  obeyed (Some command.Undo) rest clean = undoes rest clean
  obeyed (Some command.Check) rest clean = checks rest
  obeyed (Some command.Plan) rest clean = plans rest (some_asked old rest clean)
  obeyed (Some command.Solve) rest clean = record { answer = reply.Solve; new = old; obeys = (refl, refl); kept = was }
  obeyed (Some command.Write) rest clean = record { answer = reply.Write; new = old; obeys = (refl, refl); kept = was }
  obeyed (Some command.End) rest clean = record { answer = reply.End; new = old; obeys = (refl, refl); kept = was }

  -- ---- lines

  pub record HasReply (line : List ℕ) : Type 0 where
    pub answer : Reply
    pub new : State
    pub answers : Answers old line answer new
    pub kept : IsKept new

  elements_above : All (λ (e : Element). e.number.0 < (next_elem old).0) (sketch_in old).elements
  elements_above k d within = elements_below old.edits (get_or (sketch_in old).elements k d) (Contains-get_or (sketch_in old).elements k d within)

  constraints_above : All (λ (c : Constraint). c.number.0 < (next_con old).0) (sketch_in old).constraints
  constraints_above k d within = constraints_below old.edits (get_or (sketch_in old).constraints k d) (Contains-get_or (sketch_in old).constraints k d within)

  -- what a line says, by the laws of the language
  stands : (line : List ℕ) (said : Entry) → IsEntryOf Two (sketch_in old) line (next_elem old) (next_con old) said → StandsOn Two line said
  stands line said is = below.language.stands_on (sketch_in old) line (next_elem old) (next_con old) said is

  number : (line : List ℕ) (said : Entry) → IsEntryOf Two (sketch_in old) line (next_elem old) (next_con old) said → IsNumbered (next_elem old) (next_con old) said
  number line said is = below.language.numbered (sketch_in old) line (next_elem old) (next_con old) said is

  grows : (line : List ℕ) (said : Entry) → entry_code Two (sketch_in old) line ≡ None → IsEntryOf Two (sketch_in old) line (next_elem old) (next_con old) said → IsSoundSketch (added (sketch_in old) (Some said))
  grows line said clean is = below.language.grown (sketch_in old) line (next_elem old) (next_con old) said sound elements_above constraints_above clean is

  taken : (line : List ℕ) (said : Entry) → entry_code Two (sketch_in old) line ≡ None → IsEntryOf Two (sketch_in old) line (next_elem old) (next_con old) said → Begins Two (words_under Two line) true → (e : Edit) (this : Reply)
      → ((answer : Reply) (new : State) → Stands old (Some e) this answer new → Enters old (words_under Two line) said answer new) → CanMake e (sketch_in old) → Gives e old.edits → HasReply line
  taken line said clean is begins e this enters can given = told (is_spent old) refl
    where
      told : (b : Bool) → is_spent old ≡ b → HasReply line
      told true spent = record {
        answer = reply.Refused S5;
        new = old;
        answers = answers_entry old line said clean is begins e this (reply.Refused S5) old (enters (reply.Refused S5) old) (subst (λ b. Takes b old e this (reply.Refused S5) old) (sym spent) (refl, refl));
        kept = was;
      }
      told false spent = (
          let done = accepted old was (not_spent old spent) e can given in
          record {
            answer = this;
            new = done.new;
            answers = answers_entry old line said clean is begins e this this done.new (enters this done.new) (subst (λ b. Takes b old e this this done.new) (sym spent) (refl, done.accepts));
            kept = done.kept;
          })

  -- what an entry declares stands, unless the edits are spent
  entered : (line : List ℕ) (said : Entry) → entry_code Two (sketch_in old) line ≡ None → IsEntryOf Two (sketch_in old) line (next_elem old) (next_con old) said → HasReply line
  entered line entry.Blank clean is = (
      let none = stands line entry.Blank is in
      let code : code_in old line ≡ None = code_behind (byte_rows line ++ rows_of Two (sketch_in old) (words_under Two line)) (word_rows old (words_under Two line)) clean ∙ ap (λ ws. first_code (word_rows old ws)) none in
      record {
        answer = reply.Blank;
        new = old;
        answers = subst (λ c. ByCode c old ((x : Entry) × IsEntryOf Two (sketch_in old) line (next_elem old) (next_con old) x × Enters old (words_under Two line) x reply.Blank old) reply.Blank old) (sym code) (entry.Blank, is, (refl, refl));
        kept = was;
      })
  entered line (entry.Element e) clean is =
      let next : e.number.0 ≡ next_element old.edits = ap (λ (x : Elem). x.0) (number line (entry.Element e) is) in
      let can = can_declare old.edits e next sound (grows line (entry.Element e) clean is) in
      taken line (entry.Element e) clean is (stands line (entry.Element e) is) (edit.Element e) (reply.Declared e.number) (λ answer new h. h) can next
  entered line (entry.Constraint c) clean is =
      let next : c.number.0 ≡ next_constraint old.edits = ap (λ (x : ConId). x.0) (number line (entry.Constraint c) is) in
      let can = can_constrain old.edits c next sound (grows line (entry.Constraint c) clean is) in
      taken line (entry.Constraint c) clean is (stands line (entry.Constraint c) is) (edit.Constraint c) (reply.Constrained c.number) (λ answer new h. h) can next
  entered line (entry.Other words) clean is =
      let begins = (stands line (entry.Other words) is).0 in
      let found = by_code old was (command_of begins.first) begins.rest (obeyed (command_of begins.first) begins.rest) in
      record { answer = found.answer; new = found.new; answers = answers_command old line words clean is begins found.answer found.new found.obeys; kept = found.kept }

  pub some_reply : (line : List ℕ) → HasReply line
  some_reply line = told (entry_code Two (sketch_in old) line) refl
    where
      told : (o : Option Code) → entry_code Two (sketch_in old) line ≡ o → HasReply line
      told (Some code) is = record { answer = reply.Refused code; new = old; answers = answers_refused old line code (reply.Refused code) is refl; kept = was }
      told None is = (let found = below.language.entry (sketch_in old) line (next_elem old) (next_con old) is in entered line found.0 is found.1)
