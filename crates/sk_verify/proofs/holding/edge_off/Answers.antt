use Rattle.std.proofs.Common.{List, get_or, subst, refl, rules, arith}
use Rattle.std.specs.Prelude.{Contains}
use Rattle.std.proofs.lemmas.List.{take_all}
use Rattle.std.proofs.lemmas.List.Elements.{Contains-get_or}
use Rattle.sk_base.specs.declared.Edge.{Edge}
use Rattle.sk_base.proofs.Searches.{refused}
use Rattle.sk_measure.specs.Items.{constraint}
use Rattle.sk_tolerance.specs.Tolerances.{between}
use Rattle.sk_tolerance.specs.declared.Spotted.TheVariants.{Con}
use Rattle.sk_measure.proofs.Placings.{any_edge, measurable}
use Rattle.sk_verify.specs.Failing.{AllHoldAsClaimed, IsFirstOff}
use Rattle.sk_verify.proofs.Measuring.{mapped_more, mapped_there}
use Rattle.sk_verify.proofs.holding.edge_off.Goals as goal

pub meets-requires-clause-placed : goal.meets-requires-clause-placed
meets-requires-clause-placed c =
    let e : Edge = get_or c.as_slice-e-items.result.now c.loop-e.e-index any_edge in
    (measurable c.args.g.now c.args.claim.now.at c.requires.sound c.requires.placed e
    (subst (λ (es : List Edge). Contains es e) c.as_slice-e-items.ensures (Contains-get_or c.as_slice-e-items.result.now c.loop-e.e-index any_edge (omega arith)))).ends

pub returns-then-not-meets : goal.returns-then-not-meets
returns-then-not-meets c =
    let e : Edge = get_or c.as_slice-e-items.result.now c.loop-e.e-index any_edge in
    subst (λ (es : List Edge). IsFirstOff c.args.claim.now (between es) (Con e.id)) c.as_slice-e-items.ensures
    (mapped_there c.args.claim.now (λ (x : Edge). constraint x) c.as_slice-e-items.result.now c.loop-e.e-index any_edge (omega arith) c.loop-e.invariant (refused (search rules)) (Con e.id) refl)

pub loop-e-preserved : goal.loop-e-preserved
loop-e-preserved c = mapped_more c.args.claim.now (λ (x : Edge). constraint x) c.as_slice-e-items.result.now c.loop-e.e-index any_edge (omega arith) c.loop-e.invariant (c.meets.ensures.0 (search rules))

pub returns : goal.returns
returns c = subst (λ (es : List Edge). AllHoldAsClaimed c.args.claim.now (between es)) c.as_slice-e-items.ensures
    (subst (λ (es : List Edge). AllHoldAsClaimed c.args.claim.now (between es)) (take_all c.loop-e.e-index c.as_slice-e-items.result.now (omega arith)) c.loop-e.invariant)
