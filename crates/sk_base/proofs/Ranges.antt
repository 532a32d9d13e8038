-- What holds of the numbers of a range, and of what is made of them.
use Rattle.std.proofs.Common.{inl, inr, ℕ, zero, suc, ◌+◌, ◌<◌, ◌≤◌, arith}
use Rattle.std.specs.Prelude.{Contains, All, AllPairs}
use Rattle.std.specs.List.{range_with_len}
use Rattle.std.proofs.lemmas.List.Elements.{All-nil, All-cons}
use Rattle.sk_base.proofs.Members.{contains_none, contains_cases}
use Rattle.sk_base.proofs.Pairs.{pairs_none, pairs_cons}

pub range_between : (a n k : ℕ) → Contains (range_with_len a n) k → (a ≤ k) × (k < a + n)
range_between a zero k h = absurd (contains_none k h)
range_between a (suc n) k h =
    elim (contains_cases a (range_with_len (a + 1) n) k h) [
      | inl here ↦ (omega arith, omega arith)
      | inr later ↦ let rest = range_between (a + 1) n k later in (omega (arith, rest), omega (arith, rest))
    ]

pub range_all : (P : ℕ → Type 0) (a n : ℕ) → ((k : ℕ) → a ≤ k → k < a + n → P k) → All P (range_with_len a n)
range_all P a zero each = All-nil P
range_all P a (suc n) each = All-cons P a (range_with_len (a + 1) n) (each a (omega arith) (omega arith)) (range_all P (a + 1) n (λ k from below. each k (omega arith) (omega arith)))

pub range_pairs : (R : ℕ → ℕ → Type 0) (a n : ℕ) → ((j k : ℕ) → a ≤ j → j < k → k < a + n → R j k) → AllPairs R (range_with_len a n)
range_pairs R a zero each = pairs_none R
range_pairs R a (suc n) each =
    pairs_cons R a (range_with_len (a + 1) n) (range_pairs R (a + 1) n (λ j k from less below. each j k (omega arith) less (omega arith))) (λ k h.
    (let between = range_between (a + 1) n k h in each a k (omega arith) (omega (arith, between)) (omega (arith, between))))
