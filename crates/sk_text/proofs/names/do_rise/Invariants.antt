use Rattle.std.proofs.Common.{ℕ, ◌<◌, ◌≤◌, take, get_or}
use Rattle.sk_base.specs.declared.Element.{Element}
use Rattle.sk_base.specs.Rising.{IsRising}
use Rattle.sk_text.proofs.names.do_rise.Given as goal

-- those so far rise, and none of them is above the last
abbrev pub invariant-loop-element : goal.invariant-loop-element
invariant-loop-element l = record {
  rise : IsRising (λ (x : Element). x.number.0) (take l.element-index l.elements);
  below : (k : ℕ) (d : Element) → k < l.element-index → (get_or l.elements k d).number.0 ≤ l.last;
}
