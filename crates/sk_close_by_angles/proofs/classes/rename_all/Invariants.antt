use Rattle.std.proofs.Common.{◌≡◌, ℕ, ◌<◌, ◌≤◌, get_or}
use Rattle.sk_close_by_angles.specs.Classes.{IsRenamed}
use Rattle.sk_close_by_angles.proofs.classes.rename_all.Given as goal

abbrev pub invariant-loop-class : goal.invariant-loop-class
invariant-loop-class l = record {
  front : (n : ℕ) → n < l.class-index → IsRenamed l.from l.to (get_or l.fn.classes n 0) (get_or l.classes n 0);
  back : (n : ℕ) → l.class-index ≤ n → get_or l.classes n 0 ≡ get_or l.fn.classes n 0;
}
