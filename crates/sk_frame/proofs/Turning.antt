-- The turn from one direction to another isn't nothing.
use Rattle.std.proofs.Common.{◌≡◌, inl, inr, ℕ, zero, suc, ◌+◌, ◌*◌, ◌<◌, ℤ, pos, negsuc, ◌+ℤ◌, ◌-ℤ◌, ◌*ℤ◌, unsigned_abs, arith}
use Rattle.std.proofs.lemmas.Bool.{cases_lt}
use Rattle.std.proofs.lemmas.Int.{ints}
use Rattle.sk_orient.specs.declared.Vector.{Vector}
use Rattle.sk_frame.specs.Turns.{turn_between}
use Rattle.sk_frame.specs.TurnBounds.{IsSomewhere}

-- sizes of two directions: where one product is as another and two more are nothing, one of the two is nothing
both_none : (a b c d : ℕ) → 0 < a + b → 0 < c + d → a * c + b * d ≡ 0 → a * d ≡ b * c → ⊥
both_none zero zero c d some other none same = absurd (omega (arith, some))
both_none zero (suc b) zero zero some other none same = absurd (omega (arith, other))
both_none zero (suc b) zero (suc d) some other none same = absurd (omega (arith, none))
both_none zero (suc b) (suc c) d some other none same = absurd (omega (arith, same))
both_none (suc a) b zero zero some other none same = absurd (omega (arith, other))
both_none (suc a) b zero (suc d) some other none same = absurd (omega (arith, same))
both_none (suc a) b (suc c) d some other none same = absurd (omega (arith, none))

some_size : (a b : ℤ) → ¬ ((a ≡ pos 0) × (b ≡ pos 0)) → 0 < unsigned_abs a + unsigned_abs b
some_size a b somewhere = elim (cases_lt 0 (unsigned_abs a + unsigned_abs b)) [
  | inl some ↦ some
  | inr none ↦ absurd (somewhere (omega (arith, ints), omega (arith, ints)))
]

turns : (a b c d : ℤ) → 0 < unsigned_abs a + unsigned_abs b → 0 < unsigned_abs c + unsigned_abs d
    → (a *ℤ c) +ℤ (b *ℤ d) ≡ pos 0 → (a *ℤ d) -ℤ (b *ℤ c) ≡ pos 0 → ⊥
turns (pos a) (pos b) (pos c) (pos d) g_some d_some along across = both_none a b c d (omega (arith, ints)) (omega (arith, ints)) (omega (arith, ints, along)) (omega (arith, ints, across))
turns (negsuc a) (pos b) (pos c) (pos d) g_some d_some along across = both_none (suc a) b d c (omega (arith, ints)) (omega (arith, ints)) (omega (arith, ints, across)) (omega (arith, ints, along))
turns (pos a) (negsuc b) (pos c) (pos d) g_some d_some along across = both_none a (suc b) d c (omega (arith, ints)) (omega (arith, ints)) (omega (arith, ints, across)) (omega (arith, ints, along))
turns (negsuc a) (negsuc b) (pos c) (pos d) g_some d_some along across = both_none (suc a) (suc b) c d (omega (arith, ints)) (omega (arith, ints)) (omega (arith, ints, along)) (omega (arith, ints, across))
turns (pos a) (pos b) (negsuc c) (pos d) g_some d_some along across = both_none a b d (suc c) (omega (arith, ints)) (omega (arith, ints)) (omega (arith, ints, across)) (omega (arith, ints, along))
turns (negsuc a) (pos b) (negsuc c) (pos d) g_some d_some along across = both_none (suc a) b (suc c) d (omega (arith, ints)) (omega (arith, ints)) (omega (arith, ints, along)) (omega (arith, ints, across))
turns (pos a) (negsuc b) (negsuc c) (pos d) g_some d_some along across = both_none a (suc b) (suc c) d (omega (arith, ints)) (omega (arith, ints)) (omega (arith, ints, along)) (omega (arith, ints, across))
turns (negsuc a) (negsuc b) (negsuc c) (pos d) g_some d_some along across = both_none (suc a) (suc b) d (suc c) (omega (arith, ints)) (omega (arith, ints)) (omega (arith, ints, across)) (omega (arith, ints, along))
turns (pos a) (pos b) (pos c) (negsuc d) g_some d_some along across = both_none a b (suc d) c (omega (arith, ints)) (omega (arith, ints)) (omega (arith, ints, across)) (omega (arith, ints, along))
turns (negsuc a) (pos b) (pos c) (negsuc d) g_some d_some along across = both_none (suc a) b c (suc d) (omega (arith, ints)) (omega (arith, ints)) (omega (arith, ints, along)) (omega (arith, ints, across))
turns (pos a) (negsuc b) (pos c) (negsuc d) g_some d_some along across = both_none a (suc b) c (suc d) (omega (arith, ints)) (omega (arith, ints)) (omega (arith, ints, along)) (omega (arith, ints, across))
turns (negsuc a) (negsuc b) (pos c) (negsuc d) g_some d_some along across = both_none (suc a) (suc b) (suc d) c (omega (arith, ints)) (omega (arith, ints)) (omega (arith, ints, across)) (omega (arith, ints, along))
turns (pos a) (pos b) (negsuc c) (negsuc d) g_some d_some along across = both_none a b (suc c) (suc d) (omega (arith, ints)) (omega (arith, ints)) (omega (arith, ints, along)) (omega (arith, ints, across))
turns (negsuc a) (pos b) (negsuc c) (negsuc d) g_some d_some along across = both_none (suc a) b (suc d) (suc c) (omega (arith, ints)) (omega (arith, ints)) (omega (arith, ints, across)) (omega (arith, ints, along))
turns (pos a) (negsuc b) (negsuc c) (negsuc d) g_some d_some along across = both_none a (suc b) (suc d) (suc c) (omega (arith, ints)) (omega (arith, ints)) (omega (arith, ints, across)) (omega (arith, ints, along))
turns (negsuc a) (negsuc b) (negsuc c) (negsuc d) g_some d_some along across = both_none (suc a) (suc b) (suc c) (suc d) (omega (arith, ints)) (omega (arith, ints)) (omega (arith, ints, along)) (omega (arith, ints, across))

pub turn_somewhere : (g d : Vector) → IsSomewhere g → IsSomewhere d → IsSomewhere (turn_between g d)
turn_somewhere g d g_some d_some none = turns g.x g.y d.x d.y (some_size g.x g.y g_some) (some_size d.x d.y d_some) none.0 none.1
