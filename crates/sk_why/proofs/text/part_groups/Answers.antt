use Rattle.std.proofs.Common.{◌≡◌, ◌++◌, inl, refl, ap, subst, ◌∙◌, rules}
use Rattle.sk_base.specs.declared.Sketch.{Sketch}
use Rattle.sk_parts.proofs.OverParts.{over_is_one}
use Rattle.sk_verdict.specs.Judging.{IsOver}
use Rattle.sk_parts.specs.OwnSketch.{part_sketch}
use Rattle.sk_why.specs.WhyReport.{AreGroupsTold}
use Rattle.sk_why.proofs.text.part_groups.Goals as goal

pub groups-requires-clause-one : goal.groups-requires-clause-one
groups-requires-clause-one c =
    rw (c.in_ok-own.ensures.exact, c.as_slice.ensures)
    (over_is_one c.args.s.now c.requires.judged.0 c.args.part.now c.requires.sound c.requires.judged.1 c.requires.judged.2 (search rules))

pub returns : goal.returns
returns c =
    let over : IsOver c.args.part.now = search rules in
    let own_is : c.in_ok-own.own ≡ part_sketch c.args.s.now c.args.part.now.elements = rw c.in_ok-own.ensures.exact (rw c.as_slice.ensures refl) in
    let below = c.in_ok-groups.field-0 in
    let told = subst (λ (own : Sketch). AreGroupsTold own below) own_is c.in_ok-groups.ensures in
    inl (over, (below, told, c.in_ok-put.ensures.ok ∙ ap (λ bytes. c.in_ok-text.text ++ bytes) c.as_bytes.ensures ∙ ap (λ t. t ++ below) c.in_ok-text.ensures))
