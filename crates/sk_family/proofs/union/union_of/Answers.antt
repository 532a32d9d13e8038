use Rattle.std.proofs.Common.{arith, ◌≡◌, ◌<◌, ◌≤◌, ◌⊎◌, inl, inr, length, sym, ◌∙◌}
use Rattle.sk_base.proofs.Unions.{moves_first, moves_second, moves_both, ends_at}
use Rattle.sk_family.proofs.union.union_of.Goals as goal
use Rattle.sk_family.proofs.union.union_of.Goals.{then-number-2, else-number-2, then-loop-i-test+else-j-ys, else-loop-i-test}

pub loop-i-preserved-then-number : goal.loop-i-preserved-then-number
loop-i-preserved-then-number g c =
    let x_number = c.number.ensures in
    let y_number = c.number-in-loop-i.ensures in
    let less : g.T.Numbered.number c.index-xs-i.result < g.T.Numbered.number c.index-ys-j.result = omega (arith, c.if-number.true) in
    record {
      xs_left = omega arith;
      ys_left = omega arith;
      made = rw c.in_ok-push.ensures.ok (
          sym (moves_first g.T.Numbered.number g.met.T.Numbered.exact c.args.xs.now c.args.ys.now c.loop-i.all c.loop-i.i c.loop-i.j
          c.index-xs-i.result c.index-ys-j.result c.loop-i-test.true c.if-j-ys.true (sym c.index-xs-i.is) (sym c.index-ys-j.is)
          c.requires.xs_rise c.requires.ys_rise less)
          ∙ c.loop-i.invariant.made);
    }

pub loop-i-preserved : goal.loop-i-preserved
loop-i-preserved g c =
    let x_number = c.number-else-number.ensures in
    let y_number = c.number-else-number-2.ensures in
    let x_number_before = c.number.ensures in
    let y_number_before = c.number-in-loop-i.ensures in
    let not_less = c.if-number.false in
    elim c.if-number-2.branch [
      | then-number-2 w ↦ (
          let level : g.T.Numbered.number c.index-xs-i.result ≡ g.T.Numbered.number c.index-ys-j.result = omega (arith, w.if-number-2.true) in
          rw w.i-is (record {
            xs_left = omega arith;
            ys_left = omega arith;
            made = rw c.in_ok-push-2.ensures.ok (
                sym (moves_both g.T.Numbered.number g.met.T.Numbered.exact c.args.xs.now c.args.ys.now c.loop-i.all c.loop-i.i c.loop-i.j
                c.index-xs-i.result c.index-ys-j.result c.loop-i-test.true c.if-j-ys.true (sym c.index-xs-i.is) (sym c.index-ys-j.is)
                c.requires.xs_rise c.requires.ys_rise level)
                ∙ c.loop-i.invariant.made);
          }))
      | else-number-2 w ↦ (
          let more : g.T.Numbered.number c.index-ys-j.result < g.T.Numbered.number c.index-xs-i.result = omega (arith, w.if-number-2.false) in
          rw w.i-is (record {
            xs_left = omega arith;
            ys_left = omega arith;
            made = rw c.in_ok-push-2.ensures.ok (
                sym (moves_second g.T.Numbered.number g.met.T.Numbered.exact c.args.xs.now c.args.ys.now c.loop-i.all c.loop-i.i c.loop-i.j
                c.index-xs-i.result c.index-ys-j.result c.loop-i-test.true c.if-j-ys.true (sym c.index-xs-i.is) (sym c.index-ys-j.is)
                c.requires.xs_rise c.requires.ys_rise more)
                ∙ c.loop-i.invariant.made);
          }))
    ]

pub returns : goal.returns
returns g c =
    let over : (length c.args.xs.now ≤ c.loop-i.i) ⊎ (length c.args.ys.now ≤ c.loop-i.j) =
    elim c.loop-i-test.branch [ then-loop-i-test+else-j-ys w ↦ inr w.if-j-ys.false | else-loop-i-test w ↦ inl w.loop-i-test.false ] in
    rw (c.in_ok-extend-2.ensures.ok, c.in_ok-extend.ensures.ok) (
    ends_at g.T.Numbered.number g.met.T.Numbered.exact c.args.xs.now c.args.ys.now c.loop-i.all c.loop-i.i c.loop-i.j c.requires.xs_rise over
    ∙ c.loop-i.invariant.made)
