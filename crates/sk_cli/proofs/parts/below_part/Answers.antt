use Rattle.std.proofs.Common.{◌≡◌, subst, refl}
use Rattle.sk_base.specs.declared.Sketch.{Sketch}
use Rattle.sk_cli.specs.declared.solving.Report.TheVariants.{Shape}
use Rattle.sk_cli.specs.Solved.{IsSolved}
use Rattle.sk_parts.proofs.Sharing.{some_judged}
use Rattle.sk_parts.specs.OwnSketch.{part_sketch}
use Rattle.sk_base.proofs.Searches.{refused}
use Rattle.sk_cli.proofs.PartsTold.{below_sound}
use Rattle.sk_cli.proofs.parts.below_part.Goals as goal

pub solved-requires-clause-some : goal.solved-requires-clause-some
solved-requires-clause-some c =
    rw (c.in_ok-own.ensures.exact, c.as_slice.ensures)
    (some_judged c.args.s.now c.requires.judged.0 c.requires.sound c.requires.judged.1 c.args.part.now c.requires.judged.2)

pub returns : goal.returns
returns c =
    let own_is : c.in_ok-own.own ≡ part_sketch c.args.s.now c.args.part.now.elements = rw c.in_ok-own.ensures.exact (rw c.as_slice.ensures refl) in
    below_sound c.args.request c.args.s.now c.requires.sound c.requires.judged.0 c.requires.judged.1 c.args.part.now c.requires.judged.2 (refused c.if-is_over.ensures.over.1)
    c.in_ok-solved.field-0.status c.in_ok-solved.field-0.text
    (subst (λ (own : Sketch). IsSolved Shape c.args.request own c.in_ok-solved.field-0.status c.in_ok-solved.field-0.text) own_is c.in_ok-solved.ensures)
