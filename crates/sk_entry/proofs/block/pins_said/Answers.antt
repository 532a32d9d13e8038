use Rattle.std.proofs.Common.{◌≡◌, List, [], ◌++◌, length, map, sym, ap, ◌∙◌, append-nil}
use Rattle.std.specs.List.{list_any}
use Rattle.sk_lines.specs.Words.{bytes_of}
use Rattle.sk_entry.specs.PinCodes.{said_by, lacks_name}
use Rattle.sk_entry.specs.PinLines.{PinWords, pins_in}
use Rattle.sk_entry.proofs.Pinned.{first_three, none_left}
use Rattle.sk_entry.proofs.block.pins_said.Goals as goal

pub pin_said-requires-clause-name : goal.pin_said-requires-clause-name
pin_said-requires-clause-name c =
    (first_three c.loop-name.invariant.from c.loop-name.rest.now (length c.args.line.now) c.in-Some.name c.in-Some.x c.in-Some.y c.in-Some.more.now c.in-Some.ensures c.loop-name.invariant.order).0

pub pin_said-requires-clause-x : goal.pin_said-requires-clause-x
pin_said-requires-clause-x c =
    (first_three c.loop-name.invariant.from c.loop-name.rest.now (length c.args.line.now) c.in-Some.name c.in-Some.x c.in-Some.y c.in-Some.more.now c.in-Some.ensures c.loop-name.invariant.order).1

pub pin_said-requires-clause-y : goal.pin_said-requires-clause-y
pin_said-requires-clause-y c =
    (first_three c.loop-name.invariant.from c.loop-name.rest.now (length c.args.line.now) c.in-Some.name c.in-Some.x c.in-Some.y c.in-Some.more.now c.in-Some.ensures c.loop-name.invariant.order).2

pub returns : goal.returns
returns c =
    let none : pins_in (map (bytes_of c.args.line.now) c.loop-name.rest.now) ≡ [] = none_left (bytes_of c.args.line.now) c.loop-name.rest.now c.in_default.ensures in
    let at = c.loop-name.invariant in
    (at.named ∙ ap (list_any lacks_name) none, sym (at.told ∙ ap (λ (pins : List PinWords). c.loop-name.said ++ map said_by pins) none ∙ append-nil c.loop-name.said))
