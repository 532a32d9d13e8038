-- Where the elements lie by a claim that is accepted, no constraint is off by more than the claim's tolerance.
use Rattle.std.proofs.Common.{◌≡◌, ◌==◌, inl, inr, refl, ◌≤◌, unsigned_abs, sym, subst, arith}
use Rattle.std.specs.Prelude.{true, false, List, Contains, Option, None, Some}
use Rattle.std.proofs.lemmas.Bool.Decides.{nat_tests}
use Rattle.std.proofs.lemmas.List.Elements.{Contains-append_left}
use Rattle.sk_base.specs.declared.Block.{Block}
use Rattle.sk_base.specs.declared.ConId.{ConId}
use Rattle.sk_base.specs.declared.Constraint.{Constraint}
use Rattle.sk_base.specs.declared.Edge.{Edge}
use Rattle.sk_base.specs.declared.Measure.{Measure}
use Rattle.sk_base.specs.declared.Measure.TheVariants.{PointPoint, PointLine, LineLine}
use Rattle.sk_base.specs.declared.Sketch.{Sketch}
use Rattle.sk_base.specs.Numbering.{con_exact}
use Rattle.sk_base.specs.SoundSketch.{IsSoundSketch}
use Rattle.sk_base.proofs.Finding.{found_in}
use Rattle.sk_graph.specs.SketchGraph.{graph_of}
use Rattle.sk_graph.proofs.Soundness.{graph_is_sound}
use Rattle.sk_measure.specs.Holding.{tolerance_of}
use Rattle.sk_tolerance.specs.declared.OffBy.{OffBy}
use Rattle.sk_tolerance.specs.declared.Turned.{Turned}
use Rattle.sk_tolerance.specs.Offs.{is_length, IsEdgeOff, IsBlockOff, HasNumber}
use Rattle.sk_tolerance.specs.Telling.{IsCompared}
use Rattle.sk_tolerance.specs.Tolerances.{AllHoldWithin}
use Rattle.sk_tolerance.specs.Turns.{senses, constraint_signs, step_signs, AllAsDrawn}
use Rattle.sk_tolerance.proofs.Numbered.{number_there}
use Rattle.sk_tolerance.proofs.OneMeasured.{not_turned}
use Rattle.sk_tolerance.proofs.Worsts.{contains_flat}
use Rattle.sk_claims.specs.declared.claim.Claim.{Claim}
use Rattle.sk_verify.specs.Failing.{IsAccepted}
use Rattle.sk_verify.proofs.Claimed.{holds as holds_claimed}
use Rattle.sk_answers.specs.OffsThere.{IsOffThere}

-- it is off by no more than the tolerance that it has
abbrev IsWithinClaimed : Claim → OffBy → Type 0
IsWithinClaimed c off = (off.length ≡ true → unsigned_abs off.off ≤ c.t) × (off.length ≡ false → unsigned_abs off.off ≤ c.w)

by_measure : (m : Measure) (c : Claim) (off : OffBy) → off.length ≡ is_length m → unsigned_abs off.off ≤ tolerance_of m c.t c.w → IsWithinClaimed c off
by_measure (PointPoint len) c off length few = ((λ yes'. few), (λ no'. absurd (cc)))
by_measure (PointLine len side) c off length few = ((λ yes'. few), (λ no'. absurd (cc)))
by_measure (LineLine ratio sense) c off length few = ((λ yes'. absurd (cc)), (λ no'. few))

none_turned : (signs : List Turned) (turned : Option Turned) → AllAsDrawn signs → IsCompared signs turned → turned ≡ None
none_turned signs None drawn compared = refl
none_turned signs (Some t) drawn first = absurd (not_turned signs t drawn first)

module _ (s : Sketch) (sound : IsSoundSketch s) (c : Claim) (is : IsAccepted s (graph_of s) c) where
  all_hold : AllHoldWithin c.at (graph_of s) c.t c.w
  all_hold = (let graph = graph_is_sound s sound in holds_claimed s (graph_of s) c is graph.blocks_rise graph.blocks_apart)

  edge_within : (e : Edge) → Contains (graph_of s).edges e → (off : OffBy) → IsEdgeOff c.at e off → IsWithinClaimed c off
  edge_within e e_in off of = by_measure e.measure c off of.length (of.by.size.least (tolerance_of e.measure c.t c.w) (all_hold.edges e e_in))

  block_within : (b : Block) → Contains (graph_of s).blocks b → (off : OffBy) → IsBlockOff c.at b off → IsWithinClaimed c off
  block_within b b_in off of = ((λ yes'. of.by.size.least c.t (all_hold.blocks b b_in)), (λ no'. absurd (let length = of.length in cc)))

  module _ (k : ConId) (off : OffBy) (there : IsOffThere c.at s k off) where
    its_place : Contains s.constraints there.constraint × (there.constraint.number ≡ k)
    its_place = (
        let found = found_in (λ (x : Constraint). x.number.0 == k.0) s.constraints there.constraint there.numbered in
        (found.0, con_exact there.constraint.number k (grind (arith, nat_tests, found.1))))

    pub within_claimed : IsWithinClaimed c off
    within_claimed =
        elim (subst (λ (j : ConId). HasNumber (graph_of s) j) its_place.1 (number_there s there.constraint its_place.0)) [
          | inl (e, e_in, named) ↦ edge_within e e_in off (there.by.edge e e_in named)
          | inr (b, b_in, named) ↦ block_within b b_in off (there.by.block b b_in named)
        ]

    pub not_turned_there : off.turned ≡ None
    not_turned_there =
        let x = there.constraint in
        none_turned (senses s c.at k x.rule) off.turned (λ sign h.
        is.signs sign (Contains-append_left (constraint_signs s c.at s.constraints) (step_signs s c.at c.steps) sign
        (contains_flat (λ (y : Constraint). senses s c.at y.number y.rule) s.constraints x sign its_place.0 (subst (λ (j : ConId). Contains (senses s c.at j x.rule) sign) (sym its_place.1) h)))) there.turned
