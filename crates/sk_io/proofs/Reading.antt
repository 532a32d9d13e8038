-- Chains of reads, of which each but the last gave bytes.
use Rattle.std.proofs.Common.{◌⊎◌, ℕ, suc, refl, inl, inr}
use Rattle.sk_io.specs.Reads.{AfterReads, StopsAtEnd}

module _ {X : Type 0} (on last : X → X → Type 0) where
  -- not at all
  pub unread : (now : X) → StopsAtEnd on last now now
  unread now = record { count = 0; between = now; given = refl; ended = inl refl }

  -- while it gave bytes
  pub read_on_only : (count : ℕ) (old now : X) → AfterReads on count old now → StopsAtEnd on last old now
  read_on_only count old now given = record { count = count; between = now; given = given; ended = inl refl }

  -- and once more, and no more
  pub read_once : (count : ℕ) (old between new : X) → AfterReads on count old between → on between new ⊎ last between new → StopsAtEnd on last old new
  read_once count old between new given (inl on_again) = record { count = suc count; between = new; given = (between, given, on_again); ended = inl refl }
  read_once count old between new given (inr ended) = record { count = count; between = between; given = given; ended = inr ended }
