use Rattle.std.proofs.Common.{◌≡◌, ◌+◌, length, take, Bool}
use Rattle.sk_base.specs.declared.ConId.{ConId}
use Rattle.sk_family.specs.Clusters.{bodies, IsSound}
use Rattle.sk_spare.specs.Halving.{IsMadeOf, AreFurther, too}
use Rattle.sk_spare.proofs.trial.adopt_all.Given as goal

-- the family of what it was made of and the constraints so far
abbrev pub invariant-loop-number : goal.invariant-loop-number
invariant-loop-number l = record {
  made : (p : ConId → Bool) → AreFurther l.graph p l.numbers → IsMadeOf l.graph p (bodies l.fn.family) → IsMadeOf l.graph (too p (take l.number-index l.numbers)) (bodies l.family);
  count : length l.family.live ≡ length l.fn.family.live + l.number-index;
  next_step : l.family.next_step ≡ l.fn.family.next_step;
  sound : IsSound l.family;
}
