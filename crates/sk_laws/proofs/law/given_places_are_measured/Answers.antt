use Rattle.std.proofs.Common.{◌≡◌, ℕ, List, [], ◌++◌, ◌∙◌, append-nil, inl, refl, sym, subst, drop, take}
use Rattle.std.proofs.lemmas.List.Elements.{Contains-append_left}
use Rattle.sk_base.specs.declared.ConId.{ConId}
use Rattle.sk_base.specs.declared.Placed.{Placed}
use Rattle.sk_base.specs.declared.Sketch.{Sketch}
use Rattle.sk_base.specs.SoundSketch.{IsSoundSketch}
use Rattle.sk_graph.specs.SketchGraph.{graph_of}
use Rattle.sk_lang.specs.declared.Front.{Front}
use Rattle.sk_lang.specs.Front.{ReadsFront}
use Rattle.sk_lang.specs.Renumbered.{renumbered}
use Rattle.sk_claims.specs.ClaimText.{places_drawn}
use Rattle.sk_claims.specs.PlaceReading.{ReadsPlaces}
use Rattle.sk_tolerance.specs.declared.Tolerance.{Tolerance}
use Rattle.sk_tolerance.specs.Tolerances.{AllHold, everything}
use Rattle.sk_tolerance.specs.Turns.{constraint_signs, step_signs, AllAsDrawn}
use Rattle.sk_tree.specs.declared.Plan.{Plan}
use Rattle.sk_answers.specs.MeasureReport.{measured_line}
use Rattle.sk_report.specs.SolveReport.{tolerance_lines}
use Rattle.sk_request.specs.Asking.{Asks}
use Rattle.sk_request.specs.declared.Command.{Command}
use Rattle.sk_request.specs.declared.Command.TheVariants.{Measure}
use Rattle.sk_request.specs.declared.Request.{Request}
use Rattle.sk_verify.specs.Failing.{AllTold}
use Rattle.sk_answers.specs.declared.Status.{Status}
use Rattle.sk_answers.specs.declared.Status.TheVariants.{Done}
use Rattle.sk_laws.specs.Headline.{HoldsAt}
use Rattle.sk_laws.specs.NewNumbers.{TellsAlike, TellsOffsRenumbered}
use Rattle.sk_laws.specs.PrintedClaim.{printed_places}
use Rattle.sk_answers.specs.MeasureAnswer.{all_numbers, HasPlaces, IsMeasurement, IsMeasureAnswer, TellsOffs}
use Rattle.sk_answers.specs.OffsThere.{AreOffsPut}
use Rattle.sk_cli.specs.ExcessReport.{IsMeasuredLeft}
use Rattle.sk_cli.specs.Outcome.{IsAnswerOf, IsOutcome}
use Rattle.sk_laws.proofs.AcceptedOffs.{within_claimed, not_turned_there}
use Rattle.sk_laws.proofs.KeptMeasured.{left_read, left_told, left_measured}
use Rattle.sk_laws.proofs.ClaimedTolerances.{tolerances_claimed}
use Rattle.sk_laws.proofs.OneOutcome.{LowerLaws, same_off}
use Rattle.sk_laws.proofs.PrintedClaims.{places_read, places_told}
use Rattle.sk_laws.proofs.Renumbering.{each_renumbered, places_renumbered, renumbered_each}
use Rattle.sk_laws.proofs.SomeMeasures.{some_lines}
use Rattle.sk_laws.proofs.ToldAlike.{told_alike}
use Rattle.sk_laws.proofs.WhyEnds.{answer_about}
use Rattle.sk_laws.proofs.WhyMeasured.{offs_exactly}
use Rattle.sk_laws.proofs.law.given_places_are_measured.Goals as goal

-- the answer to words that ask for `measure`
measure_about : (words : List (List ℕ)) (bytes text : List ℕ) (status : Status) (request : Request) → IsOutcome words bytes status text → Asks words request → request.command ≡ Measure → IsMeasureAnswer request.within bytes status text
measure_about words bytes text status request outcome asks is = subst (λ (command : Command). IsAnswerOf command request bytes status text) is (answer_about words bytes text status request outcome asks)

-- what is measured where `solve` places the elements
solved_measured : (limit : ℕ) (request : Request) (s : Sketch) → IsSoundSketch s → (p : Plan) (at : Placed) (t : Tolerance) → HoldsAt request s p at t → limit ≡ request.within
    → (lines : List ℕ) × AreOffsPut (measured_line s) s at (all_numbers s) lines × ((told : AllTold (places_drawn s at) s.elements) → IsMeasurement limit s (places_drawn s at) Done (lines ++ tolerance_lines s t))
solved_measured limit request s sound p at t holds same =
    let lines = some_lines s sound at holds.exactly in
    let offs = lines.0 ++ tolerance_lines s t in
    let all : AllHold at (everything (graph_of s)) limit = subst (λ (n : ℕ). AllHold at (everything (graph_of s)) n) (sym same) holds.within in
    let drawn : AllAsDrawn (constraint_signs s at s.constraints) = λ sign h. holds.drawn sign (Contains-append_left (constraint_signs s at s.constraints) (step_signs s at p.steps) sign h) in (
      lines.0,
      lines.1,
      λ told. (
        told,
        record {
          offs = offs;
          line = [];
          told = record { lines = lines.0; least = t; offs = lines.1; tolerance = holds.least; is = refl };
          fault = (all, drawn, refl);
          is = sym (append-nil offs);
        },
      ),
    )

-- what is measured where `excess` measures what it leaves out
left_offs : LowerLaws → (asked : List (List ℕ)) (input text told : List ℕ) (status : Status) (request measures : Request) (own : Sketch) (left : List ConId) (m : IsMeasuredLeft request own left told) (f : Front)
    → IsSoundSketch own → IsOutcome asked input status text → Asks asked measures → measures.command ≡ Measure → ReadsFront input f → f.sketch ≡ renumbered own → drop f.used input ≡ printed_places own m.at
    → (offs line : List ℕ) × TellsOffsRenumbered own m.at offs × (text ≡ offs ++ line)
left_offs laws asked input text told status request measures own left m f sketch outcome asks is front same rest =
    let each : f.sketch ≡ each_renumbered own = same ∙ renumbered_each own sketch in
    let again = subst (λ (z : Sketch). IsSoundSketch z) each (laws.sound (take f.used input) f.sketch front.reads) in
    let claim = places_drawn (each_renumbered own) (places_renumbered own m.at) in
    let has : HasPlaces input f claim = record {
      sketch = front;
      placed = subst (λ (z : Sketch). ReadsPlaces z (drop f.used input) claim) (sym each)
          (subst (λ (bs : List ℕ). ReadsPlaces (each_renumbered own) bs claim) (sym rest) (left_read request own sketch left told m again));
    } in
    let there : AllTold claim f.sketch.elements = subst (λ (z : Sketch). AllTold claim z.elements) (sym each) (left_told request own sketch left told m again) in
    let found = offs_exactly laws measures.within input text status (measure_about asked input text status measures outcome asks is) f claim has there in
    (found.0, found.1, left_measured request own sketch left told m again found.0 (subst (λ (z : Sketch). TellsOffs z claim.at found.0) same found.2), found.3)

pub returns : goal.returns
returns c =
    let sound = c.readable_is_sound.ensures.sound in
    let numbered = c.readable_is_sound.ensures.numbered in
    let laws : LowerLaws = record {
      sound = sound;
      front = record { one_front = c.one_front.ensures.one_front; one_refusal = c.one_front.ensures.one_refusal; not_both = c.one_front.ensures.not_both };
      made = c.datum_sketch_is_sound.ensures;
      reply = c.one_reply.ensures;
      spares = c.one_list_of_spares.ensures;
      derived = c.one_derived_text.ensures;
    } in
    record {
      offs = λ words bytes text status request f claim outcome asks is has told.
          offs_exactly laws request.within bytes text status (measure_about words bytes text status request outcome asks is) f claim has told;
      same = λ at s k one other there there'. same_off at s k one other there there';
      accepted = λ s claim k off sketch accepted there.
          (let within = within_claimed s sketch claim accepted k off there in (within.0, within.1, not_turned_there s sketch claim accepted k off there));
      tolerances = λ s claim t sketch accepted least. tolerances_claimed s sketch claim accepted t least;
      left = λ asked input text told status request measures own left m f sketch outcome asks is front same rest. left_offs laws asked input text told status request measures own left m f sketch outcome asks is front same rest;
      agrees = λ asked input text told status request measures own left m f sketch outcome asks is front same rest k k_in.
          (let found = left_offs laws asked input text told status request measures own left m f sketch outcome asks is front same rest in
          subst (λ (words : List ℕ). TellsAlike request.within own m.at told words k) (sym found.3) (told_alike request own left told m found.0 found.1 found.2 k k_in));
      solved = λ words asked bytes input request measures s p at t f asks reads holds asks' is same front sketch rest.
          (let sound_s = sound bytes s reads in
          let claim = places_drawn s at in
          let found = solved_measured measures.within request s sound_s p at t holds same in
          let read = places_read s sound_s (numbered bytes s reads) words request asks p at t holds in
          let measured = found.2 (places_told s sound_s (numbered bytes s reads) words request asks p at t holds) in
          let text = found.0 ++ tolerance_lines s t in (
            found.0,
            found.1,
            inl (
              measures,
              asks',
              subst (λ (command : Command). IsAnswerOf command measures input Done text) (sym is) (
                f,
                claim,
                record {
                  sketch = front;
                  placed = subst (λ (z : Sketch). ReadsPlaces z (drop f.used input) claim) (sym sketch) (subst (λ (bs : List ℕ). ReadsPlaces s bs claim) (sym rest) read);
                },
                subst (λ (z : Sketch). IsMeasurement measures.within z claim Done text) (sym sketch) measured,
              ),
            ),
          ));
    }
