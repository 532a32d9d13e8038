-- Constraints and blocks by their numbers.
use Rattle.std.proofs.Common.{◌≡◌, ℕ, Some, None, refl, sym, arith}
use Rattle.std.specs.Prelude.{Contains, All, ◌==◌, true, false}
use Rattle.std.proofs.lemmas.Bool.Decides.{nat_tests}
use Rattle.sk_base.specs.declared.Edge.{Edge}
use Rattle.sk_base.specs.declared.Block.{Block}
use Rattle.sk_base.specs.declared.Graph.{Graph}
use Rattle.sk_base.specs.Lookups.{edge_numbered, block_numbered}
use Rattle.sk_base.specs.SoundGraph.{IsSoundGraph}
use Rattle.sk_base.specs.Numbering.{con_exact}
use Rattle.sk_base.specs.Pins.{IsOnSheet}
use Rattle.sk_base.proofs.Finding.{found_in, nothing_found, found_rising}
use Rattle.sk_place.specs.Trees.{edge, block, framed_of}

pub record IsEdge (g : Graph) (k : ℕ) (e : Edge) : Type 0 where
  pub there : Contains g.edges e
  pub number : e.id.0 ≡ k

-- the constraint that is found is one of the graph's, of that number
pub edge_found : (g : Graph) (k : ℕ) (e : Edge) → edge_numbered g k ≡ Some e → IsEdge g k e
edge_found g k e is = (let found = found_in (λ (x : Edge). x.id.0 == k) g.edges e is in
    record { there = found.0; number = (let same : (e.id.0 == k) ≡ true = found.1 in grind (arith, nat_tests)) })

pub edge_there : (g : Graph) → IsSoundGraph g → (e : Edge) → Contains g.edges e → edge_numbered g e.id.0 ≡ Some e
edge_there g sound e h = found_rising (λ (x : Edge). x.id.0) g.edges sound.edges_rise e h

-- no block has the number of an edge
no_block : (g : Graph) → IsSoundGraph g → (e : Edge) → Contains g.edges e → block_numbered g e.id.0 ≡ None
no_block g sound e h =
    nothing_found (λ (b : Block). b.id.0 == e.id.0) g.blocks (λ b b_in. other b (λ same. sound.blocks_apart e b h b_in (con_exact e.id b.id (sym same))))
  where
    other : (b : Block) → ¬ (b.id.0 ≡ e.id.0) → (b.id.0 == e.id.0) ≡ false
    other b differ = grind (arith, nat_tests)

pub framed_edge : (g : Graph) → IsSoundGraph g → (e : Edge) → Contains g.edges e → framed_of g e.id.0 ≡ Some (edge e)
framed_edge g sound e h = rw (no_block g sound e h, edge_there g sound e h) refl

pub framed_block : (g : Graph) → IsSoundGraph g → (b : Block) → Contains g.blocks b → framed_of g b.id.0 ≡ Some (block b)
framed_block g sound b h = rw (found_rising (λ (x : Block). x.id.0) g.blocks sound.blocks_rise b h) refl

-- the pins of a block that is found are on the sheet
pub block_on_sheet : (g : Graph) → IsSoundGraph g → (k : ℕ) (b : Block) → block_numbered g k ≡ Some b → All IsOnSheet b.pins
block_on_sheet g sound k b is = (sound.blocks_sound b (found_in (λ (x : Block). x.id.0 == k) g.blocks b is).0).pins.on_sheet
