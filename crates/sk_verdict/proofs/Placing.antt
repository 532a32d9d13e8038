-- The place of a list of elements among parts in order.
use Rattle.std.proofs.Common.{◌≢◌, ℕ, List, take, drop}
use Rattle.std.specs.Prelude.{Contains, insert}
use Rattle.std.specs.List.Sorted.{IsPartitionedBy}
use Rattle.sk_base.specs.declared.Elem.{Elem}
use Rattle.sk_base.specs.ElementOrder.{ElementsBefore, comes_before as is_before}
use Rattle.sk_base.proofs.ListOrder.{before_chain, before_unless, computed_before, before_computed}
use Rattle.sk_base.proofs.Splits.{in_drop, pairs_inserted}
use Rattle.sk_family.proofs.Halving.{passing_front}
use Rattle.sk_verdict.specs.declared.part.Part.{Part}
use Rattle.sk_verdict.specs.Ordering.{PartBefore, AreInOrder}

-- parts in order are parted by what comes before some elements
pub parts_partition : (elements : List Elem) (parts : List Part) → AreInOrder parts → IsPartitionedBy (λ (p : Part). is_before p.elements elements) parts
parts_partition elements parts ordered =
    passing_front (λ (p : Part). is_before p.elements elements) parts PartBefore ordered
    (λ p q p_in q_in p_q q_before. before_computed p.elements elements (before_chain p.elements q.elements elements p_q (computed_before q.elements elements q_before)))

-- a part that is put where those before it end
pub placed : (parts : List Part) (part : Part) (i : ℕ) → AreInOrder parts → ((p : Part) → Contains parts p → p.elements ≢ part.elements)
    → ((p : Part) → Contains (take i parts) p → ElementsBefore p.elements part.elements)
    → ((p : Part) → Contains (drop i parts) p → ¬ ElementsBefore p.elements part.elements)
    → AreInOrder (insert parts i part)
placed parts part i ordered new before after =
    pairs_inserted PartBefore parts i part ordered before
    (λ p h. before_unless p.elements part.elements (new p (in_drop i parts p h)) (after p h))
