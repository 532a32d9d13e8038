-- What the words of the command line ask for.
use Rattle.std.specs.Prelude.{◌≡◌, ◌==◌, ◌≤◌, ◌<◌, ℕ, slice_index, length, Bool, true, false, if◌then◌else◌, List, [], ◌∷◌, Option, None, Some, IsTrue, IsSome, All, codes}
use Rattle.std.specs.List.{filter_map}
use Rattle.std.specs.Fmt.{decimal}
use Rattle.sk_close_by_order.specs.declared.Order.{Order}
use Rattle.sk_close_by_order.specs.declared.Order.TheVariants.{First, Last, Stride}
use Rattle.sk_place.specs.declared.FrameBy.{FrameBy}
use Rattle.sk_place.specs.declared.FrameBy.TheVariants.{Base, Drawn}
use Rattle.sk_place.specs.declared.PlaceBy.{PlaceBy}
use Rattle.sk_place.specs.declared.PlaceBy.TheVariants.{Boxes, Points}
use Rattle.sk_request.specs.declared.bits.Bits.{Bits}
use Rattle.sk_request.specs.declared.bits.Bits.TheVariants.{Sixteen, TwentySeven, ThirtyEight}
use Rattle.sk_request.specs.declared.command.Account.{Account}
use Rattle.sk_request.specs.declared.command.Account.TheVariants as accounts
use Rattle.sk_request.specs.declared.command.Command.{Command}
use Rattle.sk_request.specs.declared.command.Command.TheVariants.{Tell, Plan, Solve, Dxf, Offers, Session, Grow, Verify, Flips, Live, Complete, Measure}
use Rattle.sk_request.specs.declared.command.KeySet.{KeySet}
use Rattle.sk_request.specs.declared.command.KeySet.TheVariants.{NoKeys, Limiting, Ordering, Placing}
use Rattle.sk_request.specs.declared.command.Traits.{Traits}
use Rattle.sk_request.specs.declared.request.Request.{Request}
use Rattle.sk_request.specs.Commands.{command_word}

-- a number between two others in decimal digits, without a sign and without a leading zero
abbrev pub IsNumber : ℕ → ℕ → List ℕ → ℕ → Type 0
IsNumber least most value n = (value ≡ decimal n) × (least ≤ n) × (n ≤ most)

-- `first`, `last`, or a number from 0 to 65535
abbrev pub IsOrder : List ℕ → Order → Type 0
IsOrder value First = value ≡ codes "first"
IsOrder value Last = value ≡ codes "last"
IsOrder value (Stride k) = IsNumber 0 65535 value k

abbrev pub IsBits : List ℕ → Bits → Type 0
IsBits value Sixteen = value ≡ codes "16"
IsBits value TwentySeven = value ≡ codes "27"
IsBits value ThirtyEight = value ≡ codes "38"

abbrev pub IsLimit : List ℕ → ℕ → Type 0
IsLimit value n = IsNumber 1 1000000 value n

abbrev pub IsPlace : List ℕ → PlaceBy → Type 0
IsPlace value Boxes = value ≡ codes "boxes"
IsPlace value Points = value ≡ codes "points"

abbrev pub IsFrame : List ℕ → FrameBy → Type 0
IsFrame value Base = value ≡ codes "base"
IsFrame value Drawn = value ≡ codes "drawn"

-- the number of elements of a sketch that is made
abbrev pub IsSize : List ℕ → ℕ → Type 0
IsSize value n = IsNumber 3 1000 value n

-- a zero stands before other digits
abbrev pub LeadsWithZero : List ℕ → Type 0
LeadsWithZero value = (1 < length value) × (slice_index value 0 ≡ 48)

pub data Key : Type 0 where
  OrderKey : Key
  BitsKey : Key
  WithinKey : Key
  PlaceKey : Key
  FrameKey : Key
  SizeKey : Key

abbrev pub key_name : Key → List ℕ
key_name OrderKey = codes "order="
key_name BitsKey = codes "bits="
key_name WithinKey = codes "within="
key_name PlaceKey = codes "place="
key_name FrameKey = codes "frame="
key_name SizeKey = codes "n="

-- which keys take an order, which a limit, and which tell how elements are placed
abbrev pub orders_by : KeySet → Bool
orders_by NoKeys = false
orders_by Limiting = false
orders_by Ordering = true
orders_by Placing = true

abbrev pub limits_by : KeySet → Bool
limits_by NoKeys = false
limits_by Limiting = true
limits_by Ordering = false
limits_by Placing = true

abbrev pub places_by : KeySet → Bool
places_by NoKeys = false
places_by Limiting = false
places_by Ordering = false
places_by Placing = true

-- which keys the command of an account takes
abbrev pub account_keys : Account → KeySet
account_keys accounts.Judged = Ordering
account_keys accounts.Migrated = NoKeys
account_keys accounts.Spares = NoKeys
account_keys accounts.Derived = Ordering
account_keys accounts.Shapes = Placing
account_keys accounts.Excesses = Placing
account_keys accounts.Reasons = NoKeys

-- which keys a command takes beside its size, and whether it makes its sketch
abbrev pub traits : Command → Traits
traits (Tell account) = record { keys = account_keys account; makes = false }
traits Plan = record { keys = Ordering; makes = false }
traits Solve = record { keys = Placing; makes = false }
traits Dxf = record { keys = Placing; makes = false }
traits Offers = record { keys = Ordering; makes = false }
traits Session = record { keys = Placing; makes = false }
traits (Grow n) = record { keys = Placing; makes = true }
traits Verify = record { keys = NoKeys; makes = false }
traits Flips = record { keys = Placing; makes = false }
traits Live = record { keys = Placing; makes = false }
traits Complete = record { keys = NoKeys; makes = false }
traits Measure = record { keys = Limiting; makes = false }

-- it is told in which order to merge
abbrev pub orders : Command → Bool
orders command = orders_by (traits command).keys

-- it measures where elements lie, or places them
abbrev pub limits : Command → Bool
limits command = limits_by (traits command).keys

-- it places the elements of a sketch
abbrev pub places : Command → Bool
places command = places_by (traits command).keys

-- it makes its sketch
abbrev pub makes : Command → Bool
makes command = (traits command).makes

-- the keys of a command: all but `migrate`, `verify`, `spare`, `complete`, `measure` and `why` take an order, those that place elements
-- a grid, what places are and their frame, these and `measure` a limit, one that makes a sketch its size
abbrev pub takes : Command → Key → Bool
takes command OrderKey = orders command
takes command BitsKey = places command
takes command WithinKey = limits command
takes command PlaceKey = places command
takes command FrameKey = places command
takes command SizeKey = makes command

-- what stands behind the name that a word begins with
abbrev pub behind : List ℕ → List ℕ → Option (List ℕ)
behind [] word = Some word
behind (b ∷ name) [] = None
behind (b ∷ name) (c ∷ word) = if c == b then behind name word else None

-- the word begins with the name of a key of the command
abbrev pub IsKeyOf : Command → List ℕ → Type 0
IsKeyOf command word = (key : Key) × IsTrue (takes command key) × IsSome (behind (key_name key) word)

-- the values of a key, as often as it stands
abbrev pub values_of : Key → List (List ℕ) → List (List ℕ)
values_of key words = filter_map (behind (key_name key)) words

-- a key says what its value says, or what holds without it; it doesn't stand twice
abbrev pub Says : {X : Type 0} → (List ℕ → X → Type 0) → X → List (List ℕ) → X → Type 0
Says Is default [] x = x ≡ default
Says Is default (value ∷ []) x = Is value x
Says Is default (value ∷ another ∷ values) x = ⊥

-- a key without a default is said by one value, and isn't said without a value; it doesn't stand twice
abbrev pub IsSet : {X : Type 0} → (List ℕ → X → Type 0) → List (List ℕ) → Option X → Type 0
IsSet Is [] None = Unit {0}
IsSet Is (value ∷ []) (Some x) = Is value x
IsSet Is _ _ = ⊥

-- the size of a sketch that is made
abbrev pub size_in : Command → Option ℕ
size_in (Grow n) = Some n
size_in command = None

-- a sketch that is made has from 3 to 1000 elements
abbrev pub HasFitSize : Command → Type 0
HasFitSize (Grow n) = (3 ≤ n) × (n ≤ 1000)
HasFitSize command = Unit {0}

-- a command that makes its sketch with the size that is set; another is as it was
abbrev pub IsSized : Command → Option ℕ → Command → Type 0
IsSized (Grow m) size sized = (n : ℕ) × (size ≡ Some n) × (sized ≡ Grow n)
IsSized command size sized = sized ≡ command

-- a command makes its sketch, and no size is set
abbrev pub LacksSize : Command → Option ℕ → Type 0
LacksSize (Grow m) size = size ≡ None
LacksSize command size = ⊥

-- the words are keys of the command, in any order, and this is what they say. Without them the order is `first`, the
-- grid has 38 binary digits, the limit is 1000, and places are boxes, told in the frame of the base
pub record HasKeys (words : List (List ℕ)) (request : Request) : Type 0 where
  pub known : All (λ word. IsKeyOf request.command word) words
  pub order : Says IsOrder First (values_of OrderKey words) request.order
  pub bits : Says IsBits ThirtyEight (values_of BitsKey words) request.bits
  pub within : Says IsLimit 1000 (values_of WithinKey words) request.within
  pub place : Says IsPlace Boxes (values_of PlaceKey words) request.layout.by
  pub frame : Says IsFrame Base (values_of FrameKey words) request.layout.frame
  pub size : IsSet IsSize (values_of SizeKey words) (size_in request.command)

-- the first word is that of the command, and the others are its keys
abbrev pub Asks : List (List ℕ) → Request → Type 0
Asks [] request = ⊥
Asks (command ∷ keys) request = (command ≡ command_word request.command) × HasKeys keys request

-- the words are of the form
abbrev pub AreOfForm : List (List ℕ) → Type 0
AreOfForm words = (request : Request) × Asks words request

-- a command that makes its sketch takes no input
abbrev pub TakesInput : Command → Type 0
TakesInput (Grow n) = ⊥
TakesInput command = Unit {0}

-- the words are of the form, and their command takes the input
abbrev pub AskForInput : List (List ℕ) → Type 0
AskForInput words = (request : Request) × Asks words request × TakesInput request.command
