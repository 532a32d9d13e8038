use Rattle.std.proofs.Common.{◌≡◌, ◌-◌, [], ◌∷◌, List, get_or, sym, ◌∙◌, ap, arith, subst}
use Rattle.std.specs.Prelude.{pos}
use Rattle.sk_base.specs.declared.Elem.{Elem}
use Rattle.sk_base.specs.declared.Pin.{Pin}
use Rattle.sk_base.specs.Numbering.{elem_number}
use Rattle.sk_base.specs.Rising.{IsRising, union}
use Rattle.sk_base.proofs.Unions.{rising_none, rising_union}
use Rattle.sk_family.proofs.GraphStarts.{pins_end, pins_earlier}
use Rattle.sk_family.proofs.start.elements_of.Goals as goal

pub loop-i-init : goal.loop-i-init
loop-i-init c = record { so_far = c.new-elements.ensures ∙ pins_end c.args.pins.now; rises = subst (IsRising elem_number) (sym c.new-elements.ensures) (rising_none elem_number) }

-- a pin for the places past the end
abbrev blank : Pin
blank = record { elem = record { 0 = 0 }; x = record { 0 = pos 0 }; y = record { 0 = pos 0 } }

pub loop-i-preserved : goal.loop-i-preserved
loop-i-preserved c =
    let here : List Elem = (get_or c.args.pins.now (c.loop-i.i - 1) blank).elem ∷ [] in
    let more : c.in_ok-elements.elements ≡ union elem_number here c.loop-i.elements = c.in_ok-elements.ensures ∙ ap (λ (es : List Elem). union elem_number here es) c.as_slice.ensures in
    record {
      so_far = more ∙ pins_earlier c.args.pins.now c.loop-i.i blank (omega arith) (omega arith) c.loop-i.elements c.loop-i.invariant.so_far;
      rises = subst (IsRising elem_number) (sym more) (rising_union elem_number here c.loop-i.elements c.loop-i.invariant.rises);
    }
