-- Triples in rows, one for each greatest cluster, and which rows name a cluster.
use Rattle.std.specs.Prelude.{◌≡◌, ◌≢◌, ◌<◌, ◌⊎◌, ◌↔◌, ◌==◌, ◌∷◌, ◌++◌, ℕ, List, [], Option, None, Some, Contains, AllPairs, filter, map, not, length, slice_get, unwrap_or}
use Rattle.std.specs.List.{flat_map}
use Rattle.sk_base.specs.declared.Name.{Name}
use Rattle.sk_base.specs.declared.Name.TheVariants.{Con, Step}
use Rattle.sk_base.specs.ClusterNames.{IsBelow}
use Rattle.sk_family.specs.declared.Merge.{Merge}
use Rattle.sk_family.specs.declared.Merge.TheVariants.{Three}
use Rattle.sk_family.specs.Merges.{names_of}
use Rattle.sk_open_triples.specs.declared.mentions.Mentions.{Mentions}
use Rattle.sk_open_triples.specs.declared.row.OpenRow.{OpenRow}
use Rattle.sk_open_triples.specs.declared.lower_pairs.LowerPair.{LowerPair}
use Rattle.sk_triangles.specs.Growing.{FromSome}
use Rattle.sk_open_triples.specs.declared.heir.Heir.{Heir}
use Rattle.sk_open_triples.specs.MergeOrder.{ComesFirst}
use Rattle.sk_open_triples.specs.Inherited.{Inherits}
use Rattle.sk_open_triples.specs.Avoiding.{avoiding}

-- the keys under a number, and those of a name
abbrev pub keys_at : List (List ℕ) → ℕ → List ℕ
keys_at lists q = unwrap_or (slice_get lists q) []

abbrev pub keys_of : Mentions → Name → List ℕ
keys_of m (Con q) = keys_at m.constraints.items q
keys_of m (Step q) = keys_at m.steps.items q

-- new has the keys of old, and others than that one nowhere more
pub record AddsKey (old new : List (List ℕ)) (key : ℕ) : Type 0 where
  pub stay : (q k : ℕ) → Contains (keys_at old q) k → Contains (keys_at new q) k
  pub only : (q k : ℕ) → Contains (keys_at new q) k → Contains (keys_at old q) k ⊎ (k ≡ key)

pub record GainsKey (old new : Mentions) (key : ℕ) : Type 0 where
  pub stay : (n : Name) (k : ℕ) → Contains (keys_of old n) k → Contains (keys_of new n) k
  pub only : (n : Name) (k : ℕ) → Contains (keys_of new n) k → Contains (keys_of old n) k ⊎ (k ≡ key)

-- the key is one of the name's
abbrev pub Mention : Mentions → Name → ℕ → Type 0
Mention m n k = Contains (keys_of m n) k

-- the triples of a row, and those of the row with that key
abbrev pub triple_of : Name → LowerPair → Merge
triple_of x p = Three x p.second p.third

abbrev pub merges_of : OpenRow → List Merge
merges_of row = map (triple_of row.greatest) row.lower_pairs.items

abbrev pub merges_in : Option OpenRow → List Merge
merges_in None = []
merges_in (Some row) = merges_of row

abbrev pub merges_at : List OpenRow → ℕ → List Merge
merges_at rows k = merges_in (slice_get rows k)

-- each name of the triples has the key
abbrev pub AreTold : Mentions → ℕ → List Merge → Type 0
AreTold mentions key ms = (m : Merge) → Contains ms m → (n : Name) → Contains (names_of m) n → Mention mentions n key

-- what holds of rows, their order, and the keys of names: each name of a triple has its row's key
pub record AreRows (rows : List OpenRow) (order : List ℕ) (mentions : Mentions) : Type 0 where
  pub differ : AllPairs (λ (j k : ℕ). j ≢ k) order
  pub within : (k : ℕ) → Contains order k → k < length rows
  pub keys_within : (n : Name) (k : ℕ) → Mention mentions n k → k < length rows
  pub placed : (k : ℕ) (m : Merge) → Contains (merges_at rows k) m → Contains order k
  pub told : (k : ℕ) → AreTold mentions k (merges_at rows k)

-- the row with that key has lost what names one of these, or it has none of the keys, and is as it was
abbrev pub IsDropped : List Name → List ℕ → List OpenRow → List OpenRow → ℕ → Type 0
IsDropped gone keys old new k =
    (merges_at new k ≡ avoiding gone (merges_at old k)) ⊎ ((merges_at new k ≡ merges_at old k) × ¬ Contains keys k)

pub record AreDropped (gone : List Name) (keys : List ℕ) (old new : List OpenRow) : Type 0 where
  pub as_many : length new ≡ length old
  pub each : (k : ℕ) → IsDropped gone keys old new k

-- the row with that key alone
pub record IsDroppedAt (gone : List Name) (key : ℕ) (old new : List OpenRow) : Type 0 where
  pub as_many : length new ≡ length old
  pub here : merges_at new key ≡ avoiding gone (merges_at old key)
  pub others : (k : ℕ) → k ≢ key → merges_at new k ≡ merges_at old k

-- other rows in another order, which stand for the same merges
pub record AreAlike (rows : List OpenRow) (order : List ℕ) (rows' : List OpenRow) (order' : List ℕ) : Type 0 where
  pub same : flat_map (merges_at rows') order' ≡ flat_map (merges_at rows) order
  pub still : (m : Mentions) → AreRows rows order m → AreRows rows' order' m

-- there is a row with that key, and it is of the cluster
pub record IsRowOf (rows : List OpenRow) (x : Name) (key : ℕ) : Type 0 where
  pub row : OpenRow
  pub there : slice_get rows key ≡ Some row
  pub has_name : row.greatest ≡ x

-- the last in order is a row of the cluster, and has that key
pub record IsLastRow (rows : List OpenRow) (order : List ℕ) (x : Name) (key : ℕ) : Type 0 where
  pub front : List ℕ
  pub last : order ≡ front ++ key ∷ []
  pub is_row : IsRowOf rows x key

-- the row with that key has one more merge at its end
pub record IsPutAt (key : ℕ) (m : Merge) (old new : List OpenRow) : Type 0 where
  pub as_many : length new ≡ length old
  pub here : merges_at new key ≡ merges_at old key ++ m ∷ []
  pub others : (k : ℕ) → k ≢ key → merges_at new k ≡ merges_at old k

-- the rows stand for the same merges, key by key
pub record AreUnchanged (old new : List OpenRow) : Type 0 where
  pub as_many : length new ≡ length old
  pub each : (k : ℕ) → merges_at new k ≡ merges_at old k

-- what the heir has instead of the triple of a cluster and these two, and instead of the triples of the row with that key
abbrev pub InheritsFrom : Heir → List Name → Name → LowerPair → Merge → Type 0
InheritsFrom heir gone x p m = Inherits heir gone (triple_of x p) m

abbrev pub InheritsAt : List OpenRow → Heir → List Name → ℕ → Merge → Type 0
InheritsAt rows heir gone k m = FromSome (Inherits heir gone) (merges_at rows k) m

-- the same where it is another key than that
abbrev pub InheritsElse : List OpenRow → ℕ → Heir → List Name → ℕ → Merge → Type 0
InheritsElse rows key heir gone k m = (k ≢ key) × InheritsAt rows heir gone k m

-- the keys but for that one
abbrev pub but : ℕ → List ℕ → List ℕ
but key ks = filter (λ (k : ℕ). not (k == key)) ks

-- these are the other two of the triple
abbrev pub HasLowerPair : Merge → LowerPair → Type 0
HasLowerPair m p = (x : Name) × (m ≡ triple_of x p)

abbrev pub AreBefore : LowerPair → LowerPair → Type 0
AreBefore p q = IsBelow p.second q.second ⊎ ((p.second ≡ q.second) × IsBelow p.third q.third)

-- the row is of the name and has those pairs and what was found, in order
pub record IsGrownRow (x : Name) (ps : List LowerPair) (found : List Merge) (row : OpenRow) : Type 0 where
  pub has_name : row.greatest ≡ x
  pub in_order : AllPairs ComesFirst (merges_of row)
  pub exactly : (m : Merge) → Contains (merges_of row) m ↔ (Contains (map (triple_of x) ps) m ⊎ Contains found m)
