-- The pins of a block that is found by its number, and that these lie apart.
use Rattle.std.proofs.Common.{◌≡◌, ℕ, ℤ, List, get_or, Some, ap, arith}
use Rattle.std.proofs.lemmas.Int.{ints}
use Rattle.std.specs.Prelude.{◌==◌}
use Rattle.sk_base.specs.declared.Block.{Block}
use Rattle.sk_base.specs.declared.Graph.{Graph}
use Rattle.sk_base.specs.declared.Pin.{Pin}
use Rattle.sk_base.specs.declared.Um.{Um}
use Rattle.sk_base.specs.Lookups.{block_numbered}
use Rattle.sk_base.specs.Pins.{AreSoundPins}
use Rattle.sk_base.specs.SoundGraph.{IsSoundGraph}
use Rattle.sk_base.proofs.Finding.{found_in}
use Rattle.sk_orient.specs.Vectors.{way}
use Rattle.sk_frame.specs.Frames.{given_place}
use Rattle.sk_frame.specs.TurnBounds.{IsSomewhere}

pub block_pins : (g : Graph) → IsSoundGraph g → (k : ℕ) (b : Block) → block_numbered g k ≡ Some b → AreSoundPins b.pins
block_pins g sound k b is = (sound.blocks_sound b (found_in (λ (x : Block). x.id.0 == k) g.blocks b is).0).pins

same_um : (a b : Um) → a.0 ≡ b.0 → a ≡ b
same_um a b same = (let make : ℤ → Um = λ z. record { 0 = z } in ap make same)

-- the places that a block gives its first two pins differ
pub pins_apart : (pins : List Pin) (d : Pin) → AreSoundPins pins → IsSomewhere (way (given_place (get_or pins 0 d)) (given_place (get_or pins 1 d)))
pins_apart pins d sound none =
    let p : Pin = get_or pins 0 d in
    let q : Pin = get_or pins 1 d in
    sound.places_differ 0 1 d (omega arith) (omega (arith, sound.at_least)) (same_um p.x q.x (omega (arith, ints, none.0)), same_um p.y q.y (omega (arith, ints, none.1)))
