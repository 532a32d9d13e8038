-- What a constraint of a sound graph weighs.
use Rattle.std.proofs.Common.{◌≡◌, inl, inr, ◌==◌, ◌*◌, ◌-◌, true, false, length, ap, sym, ◌∙◌, arith}
use Rattle.std.specs.Prelude.{Contains, None, Some}
use Rattle.std.proofs.lemmas.Bool.Decides.{nat_tests}
use Rattle.sk_base.specs.declared.ConId.{ConId}
use Rattle.sk_base.specs.declared.Block.{Block}
use Rattle.sk_base.specs.declared.Graph.{Graph}
use Rattle.sk_base.specs.Lookups.{block_numbered}
use Rattle.sk_base.specs.Numbering.{con_number, con_exact}
use Rattle.sk_base.specs.Pins.{AreSoundPins}
use Rattle.sk_base.specs.SoundGraph.{IsSoundGraph}
use Rattle.sk_base.proofs.Finding.{found_in, none_found}
use Rattle.sk_family.specs.Body.{Start, start_number, block_start, starts}
use Rattle.sk_family.specs.Starting.{start_with}
use Rattle.sk_family.proofs.GraphStarts.{start_comes, block_starts, found_start}
use Rattle.sk_rules.specs.Excess.{weight}
use Rattle.sk_rules.proofs.WeighedGraphs.{block_weighs, edge_weighs_one}

module _ (g : Graph) (sound : IsSoundGraph g) (k : ConId) where
  -- a block that is found by its number
  module _ (b : Block) (found : block_numbered g k.0 ≡ Some b) where
    pub block_pins : AreSoundPins b.pins
    block_pins = (sound.blocks_sound b (found_in (λ (x : Block). x.id.0 == k.0) g.blocks b found).0).pins

    pub with_block : 2 * length b.pins - 3 ≡ weight (start_with g k)
    with_block =
        let is = found_in (λ (x : Block). x.id.0 == k.0) g.blocks b found in
        let level : b.id.0 ≡ k.0 = (let passes = is.1 in grind (arith, nat_tests)) in
        sym (ap weight (found_start g sound.edges_rise (block_start b) k (block_starts g sound.blocks_rise sound.blocks_apart b is.0) (con_exact b.id k level)) ∙ block_weighs b block_pins)

  -- where none is found, it is a constraint between two elements
  pub without_block : block_numbered g k.0 ≡ None → (s : Start) → Contains (starts g) s → s.number ≡ k → 1 ≡ weight (start_with g k)
  without_block none s s_in s_is =
      elim (start_comes g s s_in) [
        | inr (e, e_in, is) ↦ sym (ap weight (found_start g sound.edges_rise s k s_in s_is) ∙ ap weight (sym is) ∙ edge_weighs_one e (sound.two_ends e e_in))
        | inl (b, b_in, is) ↦ (
            let fails = none_found (λ (x : Block). x.id.0 == k.0) g.blocks none b b_in in
            let level : b.id.0 ≡ k.0 = ap start_number is ∙ ap con_number s_is in
            let passes : (b.id.0 == k.0) ≡ true = grind (arith, nat_tests) in
            let never : true ≡ false = sym passes ∙ fails in absurd (cc))
      ]
