-- An adapter over a reader of std's, as contracts see it.
use Rattle.std.specs.Prelude.{◌≡◌, ℕ}
use Rattle.sk_io.specs.Memory.{one_later}

-- how often it was read, how often such a read gave nothing or failed, and how often one failed
pub record Asked : Type 0 where
  pub reads : ℕ
  pub ends : ℕ
  pub faults : ℕ

-- it was read once more, and gave bytes
abbrev pub GivesBytes : Asked → Asked → Type 0
GivesBytes old new = new ≡ record { reads = one_later old.reads; ends = old.ends; faults = old.faults }

-- it was read once more, and failed or gave nothing
pub record GivesNothing (old new : Asked) : Type 0 where
  pub asked : new.reads ≡ one_later old.reads
  pub ended : new.ends ≡ one_later old.ends
