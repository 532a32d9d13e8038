use Rattle.std.proofs.Common.{◌≡◌, ◌+◌, ◌<◌, List, length, sym, subst}
use Rattle.std.specs.Prelude.{All}
use Rattle.sk_base.specs.declared.Constraint.{Constraint}
use Rattle.sk_base.specs.Rising.{IsRising}
use Rattle.sk_complete.specs.Begun.{last_number}
use Rattle.sk_complete.proofs.Extending.{extends_more}
use Rattle.sk_complete.proofs.draft.Draft.accept.Goals as goal

pub next_number-requires : goal.next_number-requires
next_number-requires c =
    subst (λ (cs : List Constraint). IsRising (λ (x : Constraint). x.number.0) cs) (sym c.as_slice.ensures) c.requires.draft.sound.constraints_rise

pub returns : goal.returns
returns c =
    extends_more c.args.s.now c.args.self.now.sketch (record { number = c.in-Some-next_number.number; rule = c.in-Some.rule }) c.push.new.self
    c.requires.draft (record { one = c.args.u; other = c.args.v; says = c.in-Some.ensures.some })
    (subst (λ (cs : List Constraint). c.in-Some-next_number.number.0 ≡ last_number cs + 1) c.as_slice.ensures c.in-Some-next_number.ensures.next)
    (subst (λ (cs : List Constraint). All (λ (x : Constraint). x.number.0 < c.in-Some-next_number.number.0) cs) c.as_slice.ensures c.in-Some-next_number.ensures.above)
    (subst (λ (cs : List Constraint). length cs < 4000) c.as_slice.ensures c.in-Some-next_number.ensures.room)
    c.in_ok-push.ensures.ok
