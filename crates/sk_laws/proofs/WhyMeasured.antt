-- Why `measure` ends as it does.
use Rattle.std.proofs.Common.{◌≡◌, ◌≢◌, inl, inr, ℕ, List, ◌++◌, sym, subst, ◌∙◌, arith}
use Rattle.std.specs.Prelude.{◌↔◌, Contains}
use Rattle.sk_base.specs.declared.Elem.{Elem}
use Rattle.sk_base.specs.declared.Placed.{Placed}
use Rattle.sk_base.specs.declared.Sketch.{Sketch}
use Rattle.sk_graph.specs.SketchGraph.{graph_of}
use Rattle.sk_lang.specs.declared.Front.{Front}
use Rattle.sk_claims.specs.declared.claim.Claim.{Claim}
use Rattle.sk_verify.specs.Failing.{AllTold, IsFirstUntold}
use Rattle.sk_verify.proofs.Answering.{untold_or_told}
use Rattle.sk_measure.specs.Items.{Item}
use Rattle.sk_tolerance.specs.declared.Turned.{Turned}
use Rattle.sk_tolerance.specs.Tolerances.{AllHold, IsAbove, everything}
use Rattle.sk_tolerance.specs.Turns.{constraint_signs, AllAsDrawn, IsTurned}
use Rattle.sk_tolerance.proofs.Firsts.{first_inside}
use Rattle.sk_tolerance.proofs.OneMeasured.{not_beyond}
use Rattle.sk_answers.specs.declared.Status.{Status}
use Rattle.sk_answers.specs.declared.Status.TheVariants.{Done, Refused, StepFault, Tolerance, NotVerified}
use Rattle.sk_answers.specs.MeasureAnswer.{HasPlaces, TellsOffs, IsFaultThere, IsMeasureAnswer}
use Rattle.sk_answers.proofs.MeasureTold.{told_measure, told_measurement, told_fault}
use Rattle.sk_laws.proofs.OneOutcome.{LowerLaws, same_places, not_placed_and_refused}

-- nothing is above the limit, or something is
abbrev pub NoneAbove : ℕ → Sketch → Placed → Type 0
NoneAbove limit s at = AllHold at (everything (graph_of s)) limit

abbrev pub SomeAbove : ℕ → Sketch → Placed → Type 0
SomeAbove limit s at = (item : Item) × Contains (everything (graph_of s)) item × IsAbove at limit item

abbrev pub SomeTurnedThere : Sketch → Placed → Type 0
SomeTurnedThere s at = (sign : Turned) × Contains (constraint_signs s at s.constraints) sign × IsTurned sign

not_above : (limit : ℕ) (s : Sketch) (at : Placed) → NoneAbove limit s at → SomeAbove limit s at → ⊥
not_above limit s at all (item, inside, above) = let few = above.1.least limit (all item inside) in omega (arith, above.2, few)

not_as_drawn : (s : Sketch) (at : Placed) → AllAsDrawn (constraint_signs s at s.constraints) → SomeTurnedThere s at → ⊥
not_as_drawn s at drawn (sign, inside, turned) = turned (drawn sign inside)

-- the causes of a fault, each of which excludes the others
module _ (limit : ℕ) (s : Sketch) (at : Placed) (status : Status) (line : List ℕ) (fault : IsFaultThere limit s at status line) where
  pub done_there : (status ≡ Done) ↔ (NoneAbove limit s at × AllAsDrawn (constraint_signs s at s.constraints))
  done_there =
      elim (told_fault limit s at status line fault) [
        | inl (is, (all, drawn, none)) ↦ ((λ same. (all, drawn)), (λ h. is))
        | inr (inl (is, (b, beyond, line_is))) ↦ (
          (λ same. absurd (let clash : Done ≡ Tolerance = sym same ∙ is in cc)),
          (λ h. absurd (not_beyond at (everything (graph_of s)) limit b h.0 beyond)),
        )
        | inr (inr (is, (all, (sign, turned, line_is)))) ↦ (
          (λ same. absurd (let clash : Done ≡ StepFault = sym same ∙ is in cc)),
          (λ h. absurd (turned.has (h.1 sign (first_inside IsTurned (constraint_signs s at s.constraints) sign turned)))),
        )
      ]

  pub beyond_there : (status ≡ Tolerance) ↔ SomeAbove limit s at
  beyond_there =
      elim (told_fault limit s at status line fault) [
        | inl (is, (all, drawn, none)) ↦ ((λ same. absurd (let clash : Tolerance ≡ Done = sym same ∙ is in cc)), (λ h. absurd (not_above limit s at all h)))
        | inr (inl (is, (b, beyond, line_is))) ↦ (
          (λ same. (beyond.item, first_inside (IsAbove at limit) (everything (graph_of s)) beyond.item beyond.first, beyond.first.has)),
          (λ h. is),
        )
        | inr (inr (is, (all, (sign, turned, line_is)))) ↦ ((λ same. absurd (let clash : Tolerance ≡ StepFault = sym same ∙ is in cc)), (λ h. absurd (not_above limit s at all h)))
      ]

  pub turned_there : (status ≡ StepFault) ↔ (NoneAbove limit s at × SomeTurnedThere s at)
  turned_there =
      elim (told_fault limit s at status line fault) [
        | inl (is, (all, drawn, none)) ↦ ((λ same. absurd (let clash : StepFault ≡ Done = sym same ∙ is in cc)), (λ h. absurd (not_as_drawn s at drawn h.1)))
        | inr (inl (is, (b, beyond, line_is))) ↦ (
          (λ same. absurd (let clash : StepFault ≡ Tolerance = sym same ∙ is in cc)),
          (λ h. absurd (not_beyond at (everything (graph_of s)) limit b h.0 beyond)),
        )
        | inr (inr (is, (all, (sign, turned, line_is)))) ↦ (
          (λ same. (all, (sign, first_inside IsTurned (constraint_signs s at s.constraints) sign turned, turned.has))),
          (λ h. is),
        )
      ]

  pub never_untold : status ≢ NotVerified
  never_untold same = absurd (subst (λ z. IsFaultThere limit s at z line) same fault)

  pub never_refused : status ≢ Refused
  never_refused same = absurd (subst (λ z. IsFaultThere limit s at z line) same fault)

module _ (laws : LowerLaws) (limit : ℕ) (bytes text : List ℕ) (status : Status) (answer : IsMeasureAnswer limit bytes status text) where
  -- a status that is told where all are measured has its cause there
  at_places : (want : Status) → want ≢ Refused → want ≢ NotVerified → (Why : Sketch → Placed → Type 0)
      → ((s : Sketch) (at : Placed) (line : List ℕ) → IsFaultThere limit s at status line → (status ≡ want) ↔ Why s at)
      → (status ≡ want) ↔ ((f : Front) × (c : Claim) × HasPlaces bytes f c × AllTold c f.sketch.elements × Why f.sketch c.at)
  at_places want refused untold Why both =
      elim (told_measure limit bytes status text answer) [
        | inl (is, (r, at, line_is)) ↦ (
          (λ same. absurd (refused (sym same ∙ is))),
          (λ (f, c, has, told, why). absurd (not_placed_and_refused laws bytes f c r has at)),
        )
        | inr (f, c, has, measured) ↦ elim (told_measurement limit f.sketch c status text measured) [
          | inl (is, (e, first, line_is)) ↦ (
            (λ same. absurd (untold (sym same ∙ is))),
            (λ (g, d, has', told, why). absurd (untold_or_told c f.sketch.elements e first (same_places laws bytes (λ s claim. AllTold claim s.elements) g f d c has' has told))),
          )
          | inr (told, there) ↦ (
              let by = both f.sketch c.at there.line there.fault in (
                (λ same. (f, c, has, told, by.0 same)),
                (λ (g, d, has', told', why). by.1 (same_places laws bytes (λ s claim. Why s claim.at) g f d c has' has why)),
              ))
        ]
      ]

  pub done_exactly : (status ≡ Done) ↔ ((f : Front) × (c : Claim) × HasPlaces bytes f c × AllTold c f.sketch.elements × (NoneAbove limit f.sketch c.at × AllAsDrawn (constraint_signs f.sketch c.at f.sketch.constraints)))
  done_exactly = at_places Done (λ e. cc) (λ e. cc) (λ s at. NoneAbove limit s at × AllAsDrawn (constraint_signs s at s.constraints)) (λ s at line fault. done_there limit s at status line fault)

  pub beyond_exactly : (status ≡ Tolerance) ↔ ((f : Front) × (c : Claim) × HasPlaces bytes f c × AllTold c f.sketch.elements × SomeAbove limit f.sketch c.at)
  beyond_exactly = at_places Tolerance (λ e. cc) (λ e. cc) (SomeAbove limit) (λ s at line fault. beyond_there limit s at status line fault)

  pub turned_exactly : (status ≡ StepFault) ↔ ((f : Front) × (c : Claim) × HasPlaces bytes f c × AllTold c f.sketch.elements × (NoneAbove limit f.sketch c.at × SomeTurnedThere f.sketch c.at))
  turned_exactly = at_places StepFault (λ e. cc) (λ e. cc) (λ s at. NoneAbove limit s at × SomeTurnedThere s at) (λ s at line fault. turned_there limit s at status line fault)

  pub untold_exactly : (status ≡ NotVerified) ↔ ((f : Front) × (c : Claim) × HasPlaces bytes f c × ((e : Elem) × IsFirstUntold c f.sketch.elements e))
  untold_exactly =
      elim (told_measure limit bytes status text answer) [
        | inl (is, (r, at, line_is)) ↦ (
          (λ same. absurd (let clash : NotVerified ≡ Refused = sym same ∙ is in cc)),
          (λ (f, c, has, untold). absurd (not_placed_and_refused laws bytes f c r has at)),
        )
        | inr (f, c, has, measured) ↦ elim (told_measurement limit f.sketch c status text measured) [
          | inl (is, (e, first, line_is)) ↦ ((λ same. (f, c, has, (e, first))), (λ h. is))
          | inr (told, there) ↦ (
            (λ same. absurd (never_untold limit f.sketch c.at status there.line there.fault same)),
            (λ (g, d, has', (e, first)). absurd (untold_or_told c f.sketch.elements e (same_places laws bytes (λ s claim. IsFirstUntold claim s.elements e) g f d c has' has first) told)),
          )
        ]
      ]

  -- all offs stand in the text where each element has its place
  pub offs_exactly : (f : Front) (c : Claim) → HasPlaces bytes f c → AllTold c f.sketch.elements → (offs line : List ℕ) × TellsOffs f.sketch c.at offs × (text ≡ offs ++ line)
  offs_exactly f c has told =
      elim (told_measure limit bytes status text answer) [
        | inl (is, (r, at, line_is)) ↦ absurd (not_placed_and_refused laws bytes f c r has at)
        | inr (g, d, has', measured) ↦ elim (told_measurement limit g.sketch d status text measured) [
          | inl (is, (e, first, line_is)) ↦ absurd (untold_or_told d g.sketch.elements e first (same_places laws bytes (λ s claim. AllTold claim s.elements) f g c d has has' told))
          | inr (told', there) ↦ same_places laws bytes (λ s claim. (offs line : List ℕ) × TellsOffs s claim.at offs × (text ≡ offs ++ line)) g f d c has' has (there.offs, there.line, there.told, there.is)
        ]
      ]
