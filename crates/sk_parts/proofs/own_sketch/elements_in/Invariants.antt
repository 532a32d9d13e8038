use Rattle.std.proofs.Common.{◌≡◌, filter, take}
use Rattle.sk_parts.specs.OwnSketch.{has_element}
use Rattle.sk_parts.proofs.own_sketch.elements_in.Given as goal

abbrev pub invariant-loop-element : goal.invariant-loop-element
invariant-loop-element l = l.own ≡ filter (has_element l.numbers) (take l.element-index l.elements)
