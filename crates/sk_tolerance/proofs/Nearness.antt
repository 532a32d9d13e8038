-- How far off a constraint is, by what stands under its number, and how far that can be.
use Rattle.std.proofs.Common.{◌≡◌, ℕ, ◌≤◌, ◌<◌, ◌^◌, unsigned_abs, subst, arith}
use Rattle.std.specs.Prelude.{Bool, true, false, Contains, Some}
use Rattle.sk_base.specs.declared.Block.{Block}
use Rattle.sk_base.specs.declared.ConId.{ConId}
use Rattle.sk_base.specs.declared.Edge.{Edge}
use Rattle.sk_base.specs.declared.Elem.{Elem}
use Rattle.sk_base.specs.declared.Graph.{Graph}
use Rattle.sk_base.specs.declared.Kind.TheVariants as kinds
use Rattle.sk_base.specs.declared.Measure.{Measure}
use Rattle.sk_base.specs.declared.Measure.TheVariants.{PointPoint, PointLine, LineLine}
use Rattle.sk_base.specs.declared.Placed.{Placed}
use Rattle.sk_base.specs.Lookups.{edge_numbered, block_numbered}
use Rattle.sk_base.specs.SoundGraph.{IsSoundGraph, HasNode, Measures}
use Rattle.sk_measure.specs.Placing.{lies, PlacesExactly}
use Rattle.sk_measure.specs.Items.{constraint, block, IsOffBy}
use Rattle.sk_measure.proofs.Placings.{measurable, block_measurable}
use Rattle.sk_measure.proofs.Reach.{IsStraight, reach, bounded_reach, point_straight, line_straight, own_bounded, own_near, block_reach}
use Rattle.sk_tolerance.specs.declared.single.OffBy.{OffBy}
use Rattle.sk_tolerance.specs.Offs.{is_length, IsEdgeOff, IsBlockOff, IsOff, NormalsHold, IsNear, IsBoundedOff}
use Rattle.sk_tolerance.proofs.Numbered.{only_edge, only_block, not_both}

near_by : (m : Measure) (length : Bool) (n : ℕ) → length ≡ is_length m → n ≤ reach m → (length ≡ true → n < 2 ^ 62) × (length ≡ false → n ≤ 1001000000)
near_by (PointPoint len) length n is few = ((λ yes'. omega arith), (λ no'. absurd (cc)))
near_by (PointLine len side) length n is few = ((λ yes'. omega arith), (λ no'. absurd (cc)))
near_by (LineLine ratio sense) length n is few = ((λ yes'. absurd (cc)), (λ no'. few))

bounded_by : (m : Measure) (length : Bool) (n : ℕ) → length ≡ is_length m → n ≤ bounded_reach m → (length ≡ true → n < 2 ^ 63) × (length ≡ false → n ≤ 8000000000)
bounded_by (PointPoint len) length n is few = ((λ yes'. omega arith), (λ no'. absurd (cc)))
bounded_by (PointLine len side) length n is few = ((λ yes'. omega arith), (λ no'. absurd (cc)))
bounded_by (LineLine ratio sense) length n is few = ((λ yes'. absurd (cc)), (λ no'. few))

module _ (g : Graph) (sound : IsSoundGraph g) (p : Placed) (exactly : PlacesExactly g p) (k : ConId) (off : OffBy) where
  pub edge_off : (e : Edge) → edge_numbered g k.0 ≡ Some e → off.length ≡ is_length e.measure → IsOffBy p (constraint e) off.off → IsOff p g k off
  edge_off e is length by = record {
    edge = λ d d_in named. subst (λ (x : Edge). IsEdgeOff p x off) (only_edge g sound k e d is d_in named) (record { length = length; by = by });
    block = λ b b_in named. absurd (not_both g sound k e is b b_in named);
  }

  pub block_off : (b : Block) → ((e : Edge) → Contains g.edges e → e.id ≡ k → ⊥) → block_numbered g k.0 ≡ Some b → off.length ≡ true → IsOffBy p (block b) off.off → IsOff p g k off
  block_off b none is length by = record {
    edge = λ e e_in named. absurd (none e e_in named);
    block = λ d d_in named. subst (λ (x : Block). IsBlockOff p x off) (only_block g sound k b d is d_in named) (record { length = length; by = by });
  }

  module _ (straight : NormalsHold p g 1000000) where
    at_point : (e : Elem) → HasNode g e kinds.Point → IsStraight (lies p e)
    at_point e node = point_straight (lies p e) (exactly.nodes (record { elem = e; kind = kinds.Point }) node).has_kind

    at_line : (e : Elem) → HasNode g e kinds.Line → IsStraight (lies p e)
    at_line e node = line_straight (lies p e) (straight e node)

    both_straight : (u v : Elem) (m : Measure) → Measures g u v m → IsStraight (lies p u) × IsStraight (lies p v)
    both_straight u v (PointPoint len) h = (at_point u h.0, at_point v h.1)
    both_straight u v (PointLine len side) h = (at_point u h.0, at_line v h.1)
    both_straight u v (LineLine ratio sense) h = (at_line u h.0, at_line v h.1)

    pub edge_near : (e : Edge) → Contains g.edges e → off.length ≡ is_length e.measure → IsOffBy p (constraint e) off.off → IsNear off
    edge_near e e_in length by =
        let both = both_straight e.u e.v e.measure (sound.edges_measure e e_in) in
        let few = own_near p e (measurable g p sound exactly e e_in) both.0 both.1 (unsigned_abs off.off) by.size in
        let near = near_by e.measure off.length (unsigned_abs off.off) length few in
        record { length = near.0; angle = near.1 }

  pub block_near : (b : Block) → Contains g.blocks b → off.length ≡ true → IsOffBy p (block b) off.off → IsNear off
  block_near b b_in length by =
      let few = block_reach p b (block_measurable g p sound exactly b b_in) (unsigned_abs off.off) by.size in
      record { length = λ is. omega (arith, few); angle = λ is. absurd (cc) }

  pub edge_bounded : (e : Edge) → Contains g.edges e → off.length ≡ is_length e.measure → IsOffBy p (constraint e) off.off → IsBoundedOff off
  edge_bounded e e_in length by =
      let few = own_bounded p e (measurable g p sound exactly e e_in) (unsigned_abs off.off) by.size in
      let bounds = bounded_by e.measure off.length (unsigned_abs off.off) length few in
      record { length = bounds.0; angle = bounds.1 }

  pub block_bounded : (b : Block) → Contains g.blocks b → off.length ≡ true → IsOffBy p (block b) off.off → IsBoundedOff off
  block_bounded b b_in length by =
      let few = block_reach p b (block_measurable g p sound exactly b b_in) (unsigned_abs off.off) by.size in
      record { length = λ is. omega (arith, few); angle = λ is. absurd (cc) }
