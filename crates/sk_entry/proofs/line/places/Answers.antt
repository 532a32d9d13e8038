use Rattle.std.proofs.Common.{◌*◌, ℕ, sym, ap, ◌∙◌}
use Rattle.sk_lines.specs.Keywords.{pin_count}
use Rattle.sk_entry.proofs.PinTests.{places_length}
use Rattle.sk_entry.proofs.line.places.Goals as goal

pub returns-in-Block : goal.returns-in-Block
returns-in-Block c = rw c.in-Block.is (ap (λ (n : ℕ). 3 * n) c.pin_count.ensures ∙ sym (places_length (pin_count c.args.count)))
