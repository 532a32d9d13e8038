-- What the keys that were read so far say.
use Rattle.std.specs.Prelude.{◌≡◌, ℕ, List, Option, None, Some, All}
use Rattle.sk_request.specs.declared.command.Command.{Command}
use Rattle.sk_request.specs.declared.settings.Settings.{Settings}
use Rattle.sk_request.specs.Asking.{OrderKey, BitsKey, WithinKey, PlaceKey, FrameKey, SizeKey, key_name, behind, IsKeyOf, values_of, IsOrder, IsBits, IsLimit, IsPlace, IsFrame, IsSize, IsSet}

-- the words are keys of the command, and this is what they set
pub record AreSet (command : Command) (words : List (List ℕ)) (settings : Settings) : Type 0 where
  pub known : All (λ word. IsKeyOf command word) words
  pub order : IsSet IsOrder (values_of OrderKey words) settings.order
  pub bits : IsSet IsBits (values_of BitsKey words) settings.bits
  pub within : IsSet IsLimit (values_of WithinKey words) settings.within
  pub place : IsSet IsPlace (values_of PlaceKey words) settings.place
  pub frame : IsSet IsFrame (values_of FrameKey words) settings.frame
  pub size : IsSet IsSize (values_of SizeKey words) settings.size

-- a value sets what wasn't set; without one it stays
abbrev pub Sets : {X : Type 0} → (List ℕ → X → Type 0) → Option (List ℕ) → Option X → Option X → Type 0
Sets Is None before after = after ≡ before
Sets {X} Is (Some value) before after = (x : X) × Is value x × (before ≡ None) × (after ≡ Some x)

-- one more word is a key of the command, and this is what it sets
pub record Adds (command : Command) (word : List ℕ) (before after : Settings) : Type 0 where
  pub known : IsKeyOf command word
  pub order : Sets IsOrder (behind (key_name OrderKey) word) before.order after.order
  pub bits : Sets IsBits (behind (key_name BitsKey) word) before.bits after.bits
  pub within : Sets IsLimit (behind (key_name WithinKey) word) before.within after.within
  pub place : Sets IsPlace (behind (key_name PlaceKey) word) before.place after.place
  pub frame : Sets IsFrame (behind (key_name FrameKey) word) before.frame after.frame
  pub size : Sets IsSize (behind (key_name SizeKey) word) before.size after.size
