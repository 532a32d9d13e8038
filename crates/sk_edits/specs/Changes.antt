-- Changes of one item of a list.
use Rattle.std.specs.Prelude.{◌≡◌, ◌↔◌, ◌⊎◌, ◌==◌, ◌<◌, ◌≤◌, ℕ, not, if◌then◌else◌, List, length, filter, map, slice_index_or, Contains}

-- the place of a number: all items before it have lesser numbers, and the one that stands there does not
pub record IsPlaceOf {X : Type 0} (number : X → ℕ) (items : List X) (n place : ℕ) : Type 0 where
  pub bound : place ≤ length items
  pub before : (k : ℕ) (d : X) → k < place → number (slice_index_or items k d) < n
  pub behind : (d : X) → place < length items → n ≤ number (slice_index_or items place d)

-- the items of old, and one more
abbrev pub HasItem : {X : Type 0} → X → List X → List X → Type 0
HasItem {X} item old new = (x : X) → Contains new x ↔ ((item ≡ x) ⊎ Contains old x)

-- all but the one of the number
abbrev pub without : {X : Type 0} → (X → ℕ) → ℕ → List X → List X
without number n items = filter (λ x. not (number x == n)) items

-- the item in the place of the one with its number
abbrev pub with_item : {X : Type 0} → (X → ℕ) → X → List X → List X
with_item number item items = map (λ x. if number x == number item then item else x) items
