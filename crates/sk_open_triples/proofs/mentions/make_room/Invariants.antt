use Rattle.std.proofs.Common.{◌≡◌, ℕ, ◌+◌, ◌-◌, length}
use Rattle.sk_open_triples.specs.OpenRows.{keys_at}
use Rattle.sk_open_triples.proofs.mentions.make_room.Given as goal

abbrev pub invariant-loop-alloc : goal.invariant-loop-alloc
invariant-loop-alloc l = (q : ℕ) → keys_at l.lists.items q ≡ keys_at l.fn.lists.items q

abbrev pub decreases-loop-alloc : goal.decreases-loop-alloc
decreases-loop-alloc l = l.number + 1 - length l.lists.items
