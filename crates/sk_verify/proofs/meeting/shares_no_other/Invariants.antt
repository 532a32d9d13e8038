use Rattle.std.proofs.Common.{◌≢◌}
use Rattle.std.specs.Prelude.{Contains}
use Rattle.sk_base.specs.declared.Elem.{Elem}
use Rattle.sk_base.proofs.Searches.{NoneBefore}
use Rattle.sk_verify.proofs.meeting.shares_no_other.Given as goal

-- none so far is another that both have
abbrev pub invariant-loop-x : goal.invariant-loop-x
invariant-loop-x l = NoneBefore (λ (e : Elem). (e ≢ l.elem) × Contains l.ys e) l.xs l.x-index
