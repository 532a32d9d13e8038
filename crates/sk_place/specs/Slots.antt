-- What stands in a slab under the keys that are kept.
use Rattle.std.specs.Prelude.{◌≡◌, ℕ, List, map, slice_index_or, Option, Some, None, IsSome}
use Rattle.slab.specs.Slab.{Slab, get}

abbrev pub slot_of : {T : Type 0} → Slab T → Option ℕ → Option T
slot_of s (Some key) = get s key
slot_of s None = None

abbrev pub slots_of : {T : Type 0} → Slab T → List (Option ℕ) → List (Option T)
slots_of s keys = map (slot_of s) keys

-- under each key something stands, and no key stands twice
pub record HaveOwnKeys {T : Type 0} (s : Slab T) (keys : List (Option ℕ)) : Type 0 where
  pub full : (i key : ℕ) → slice_index_or keys i None ≡ Some key → IsSome (get s key)
  pub apart : (i j key : ℕ) → slice_index_or keys i None ≡ Some key → slice_index_or keys j None ≡ Some key → i ≡ j
