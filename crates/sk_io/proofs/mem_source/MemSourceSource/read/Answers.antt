use Rattle.std.proofs.Common.{◌≡◌, ◌+◌, ◌<◌, ◌≤◌, length, take, refl, arith}
use Rattle.std.proofs.lemmas.List.{length-drop, length-take-le, take_rest, drop_all}
use Rattle.sk_io.proofs.Moved.{read_on}
use Rattle.sk_io.proofs.Passed.{none_listed, still_none}
use Rattle.sk_io.proofs.mem_source.MemSourceSource.read.Goals as goal

pub returns-then-is_listed-clause-sure : goal.returns-then-is_listed-clause-sure
returns-then-is_listed-clause-sure c sure =
    let listed = rw (c.as_slice.ensures, c.saturating_add-self-inside.ensures) at c.is_listed.ensures.0 c.if-is_listed.true in
    absurd (none_listed c.self.inside.calls c.self.inside.fails (rw (← c.self.view_is) at sure) listed)

pub returns-clause-bytes : goal.returns-clause-bytes
returns-clause-bytes c =
    let front = rw c.as_bytes.ensures at c.copied-count.ensures.front in
    let count = rw (c.as_bytes.ensures, take_rest, length-drop) at c.copied-count.ensures.count in
    let at_end : c.copied-count.result ≡ 0 → 0 < length c.copied-count.new.to → length c.self.inside.bytes ≤ c.self.inside.at + c.copied-count.result =
    λ none some. omega (arith, none, some, count) in
    (rw (← c.self.view_is) (read_on c.self.inside.bytes c.copied-count.new.to c.self.inside.at c.copied-count.result front), λ none some. drop_all _ _ (at_end none some))

pub returns-clause-sure : goal.returns-clause-sure
returns-clause-sure c sure = (
  rw c.saturating_add-self-inside.ensures (still_none c.self.inside.calls c.self.inside.fails (rw (← c.self.view_is) at sure)),
  refl,
  rw (← c.self.view_is) refl,
)

pub returns-clause-on : goal.returns-clause-on
returns-clause-on c some =
    let front = rw c.as_bytes.ensures at c.copied-count.ensures.front in
    let listed = rw (c.as_slice.ensures, c.saturating_add-self-inside.ensures) at c.is_listed.ensures.1 in
    let fits : c.copied-count.result ≤ length c.copied-count.new.to = omega (arith, c.copied-count.ensures.count, c.copied-count.auto.to) in
    let size = length-take-le c.copied-count.result c.copied-count.new.to fits in
    rw (← c.self.view_is) (record {
      counted = c.saturating_add-self-inside.ensures;
      unlisted = λ among. (let yes = listed among in cc);
      piece = take c.copied-count.result c.copied-count.new.to;
      some = omega (arith, size, some);
      taken = read_on c.self.inside.bytes c.copied-count.new.to c.self.inside.at c.copied-count.result front;
      fails = refl;
      faults = refl;
    })
