-- A name in the 16 bytes of a label.
use Rattle.std.specs.Prelude.{◌≡◌, ℕ, ◌-◌, ◌≤◌, List, ◌++◌, take, length, replicate, IsTrue}
use Rattle.sk_base.specs.Labels.{is_name}

-- the 16 bytes are a name of this length, and then zeros
pub record IsPaddedName (bytes : List ℕ) (len : ℕ) : Type 0 where
  pub size : length bytes ≡ 16
  pub fits : len ≤ 16
  pub name : IsTrue (is_name (take len bytes))
  pub zeros : bytes ≡ take len bytes ++ replicate (16 - len) 0
