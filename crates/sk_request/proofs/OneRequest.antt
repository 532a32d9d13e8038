-- Words ask for one thing at most.
use Rattle.std.proofs.Common.{◌≡◌, ℕ, List, [], ◌∷◌, sym, ap, ◌∙◌}
use Rattle.sk_place.specs.declared.FrameBy.{FrameBy}
use Rattle.sk_place.specs.declared.FrameBy.TheVariants.{Base}
use Rattle.sk_place.specs.declared.Layout.{Layout}
use Rattle.sk_place.specs.declared.PlaceBy.{PlaceBy}
use Rattle.sk_place.specs.declared.PlaceBy.TheVariants.{Boxes}
use Rattle.sk_close_by_order.specs.declared.Order.{Order}
use Rattle.sk_close_by_order.specs.declared.Order.TheVariants.{First}
use Rattle.sk_request.specs.declared.bits.Bits.{Bits}
use Rattle.sk_request.specs.declared.bits.Bits.TheVariants.{ThirtyEight}
use Rattle.sk_request.specs.declared.command.Command.{Command}
use Rattle.sk_request.specs.declared.request.Request.{Request}
use Rattle.sk_request.specs.Asking.{OrderKey, BitsKey, WithinKey, PlaceKey, FrameKey, SizeKey, values_of, IsOrder, IsBits, IsLimit, IsPlace, IsFrame, IsSize, size_in, Asks}
use Rattle.sk_request.proofs.CommandWords.{one_command}
use Rattle.sk_request.proofs.KeyValues.{one_said, one_set}
use Rattle.sk_request.proofs.Numbers.{one_order, one_bits, one_limit, one_place, one_frame, one_size}

pub same_request : (words : List (List ℕ)) (one other : Request) → Asks words one → Asks words other → one ≡ other
same_request [] one other first second = absurd first
same_request (command ∷ keys) one other first second =
    let order_is = one_said IsOrder one_order First (values_of OrderKey keys) one.order other.order first.1.order second.1.order in
    let bits_is = one_said IsBits one_bits ThirtyEight (values_of BitsKey keys) one.bits other.bits first.1.bits second.1.bits in
    let within_is = one_said IsLimit one_limit 1000 (values_of WithinKey keys) one.within other.within first.1.within second.1.within in
    let by_is = one_said IsPlace one_place Boxes (values_of PlaceKey keys) one.layout.by other.layout.by first.1.place second.1.place in
    let frame_is = one_said IsFrame one_frame Base (values_of FrameKey keys) one.layout.frame other.layout.frame first.1.frame second.1.frame in
    let lay : PlaceBy → FrameBy → Layout = λ b f. record { by = b; frame = f } in
    let layout_is : one.layout ≡ other.layout = ap (λ b. lay b one.layout.frame) by_is ∙ ap (λ f. lay other.layout.by f) frame_is in
    let size_is = one_set IsSize one_size (values_of SizeKey keys) (size_in one.command) (size_in other.command) first.1.size second.1.size in
    let command_is = one_command one.command other.command (sym first.0 ∙ second.0) size_is in
    let make : Command → Order → Bits → ℕ → Layout → Request = λ c o b w p. record { command = c; order = o; bits = b; within = w; layout = p } in
    ap (λ c. make c one.order one.bits one.within one.layout) command_is ∙ ap (λ o. make other.command o one.bits one.within one.layout) order_is
    ∙ ap (λ b. make other.command other.order b one.within one.layout) bits_is ∙ ap (λ w. make other.command other.order other.bits w one.layout) within_is
    ∙ ap (λ p. make other.command other.order other.bits other.within p) layout_is
