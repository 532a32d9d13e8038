-- A row that is written anew changes what stands under its key alone.
use Rattle.std.proofs.Common.{◌≡◌, ◌≢◌, refl, zero, suc, ℕ, ◌<◌, List, [], ◌∷◌, length, set, arith, ap}
use Rattle.sk_open_triples.specs.declared.row.OpenRow.{OpenRow}
use Rattle.sk_open_triples.specs.OpenRows.{merges_at, merges_of}

pub row_written : (rows : List OpenRow) (key : ℕ) (row : OpenRow) → key < length rows → merges_at (set rows key row) key ≡ merges_of row
row_written [] key row within = absurd (omega arith)
row_written (r ∷ rows) zero row within = refl
row_written (r ∷ rows) (suc key) row within = row_written rows key row (omega arith)

pub row_beside : (rows : List OpenRow) (key : ℕ) (row : OpenRow) (k : ℕ) → k ≢ key → merges_at (set rows key row) k ≡ merges_at rows k
row_beside [] key row k other = refl
row_beside (r ∷ rows) zero row zero other = absurd (other refl)
row_beside (r ∷ rows) zero row (suc k) other = refl
row_beside (r ∷ rows) (suc key) row zero other = refl
row_beside (r ∷ rows) (suc key) row (suc k) other = row_beside rows key row k (λ same. other (ap suc same))
