-- Words ask for something, or they are not of the form.
use Rattle.std.proofs.Common.{◌≡◌, ◌⊎◌, inl, inr, refl, ℕ, zero, suc, ◌≤◌, Bool, true, false, List, [], ◌∷◌, None, Some, ap, sym, subst, ◌∙◌, arith}
use Rattle.std.specs.Prelude.{All, Contains, IsTrue, IsSome, is_some, codes}
use Rattle.std.specs.Fmt.{decimal}
use Rattle.std.proofs.lemmas.Bool.{cases_lt, cases_Bool}
use Rattle.sk_base.proofs.Members.{nat_settles, list_settles}
use Rattle.sk_close_by_order.specs.declared.Order.{Order}
use Rattle.sk_close_by_order.specs.declared.Order.TheVariants.{First, Last, Stride}
use Rattle.sk_place.specs.declared.FrameBy.{FrameBy}
use Rattle.sk_place.specs.declared.FrameBy.TheVariants.{Base, Drawn}
use Rattle.sk_place.specs.declared.PlaceBy.{PlaceBy}
use Rattle.sk_place.specs.declared.PlaceBy.TheVariants.{Boxes, Points}
use Rattle.sk_request.specs.declared.bits.Bits.{Bits}
use Rattle.sk_request.specs.declared.bits.Bits.TheVariants.{Sixteen, TwentySeven, ThirtyEight}
use Rattle.sk_request.specs.declared.command.Command.{Command}
use Rattle.sk_request.specs.declared.command.Command.TheVariants.{Grow}
use Rattle.sk_request.specs.declared.command.Traits.{Traits}
use Rattle.sk_request.specs.declared.request.Request.{Request}
use Rattle.sk_request.specs.Commands.{command_word, commands, without_size}
use Rattle.sk_request.proofs.CommandWords.{command_listed, word_without_size, same_traits, unmade_size, made_size}
use Rattle.sk_request.specs.Asking.{Key, OrderKey, BitsKey, WithinKey, PlaceKey, FrameKey, SizeKey, key_name, makes, takes, behind, values_of, IsKeyOf, IsNumber, IsOrder, IsBits, IsLimit, IsPlace, IsFrame, IsSize, Says, IsSet, size_in, HasKeys, AreOfForm}
use Rattle.std.proofs.lemmas.List.Elements.{All-weaker}
use Rattle.sk_request.proofs.Keys.{same_keys}
use Rattle.sk_base.proofs.Deciding.{Decided, all_decided, both, either, moved, some_in}

bool_decided : (b : Bool) → Decided (b ≡ true)
bool_decided true = inl refl
bool_decided false = inr (λ e. cc)

least_decided : (m n : ℕ) → Decided (m ≤ n)
least_decided m n = elim (cases_lt n m) [ inl less ↦ inr (λ h. omega arith) | inr fits ↦ inl fits ]

bytes_decided : (xs ys : List ℕ) → Decided (xs ≡ ys)
bytes_decided = list_settles nat_settles

-- whether some number up to n is so
some_below : (P : ℕ → Type 0) → ((k : ℕ) → Decided (P k)) → (n : ℕ) → Decided ((k : ℕ) × (k ≤ n) × P k)
some_below P decide zero =
    moved (λ h. (0, omega arith, h)) (λ (k, few, h). (let same : k ≡ 0 = omega arith in subst (λ j. P j) same h)) (decide 0)
some_below P decide (suc n) =
    elim (decide (suc n)) [
      | inl here ↦ inl (suc n, omega arith, here)
      | inr not_here ↦ elim (some_below P decide n) [
        | inl (k, few, h) ↦ inl (k, omega arith, h)
        | inr none ↦ inr (λ (k, few, h). elim (cases_lt n k) [
          | inl above ↦ not_here (let same : k ≡ suc n = omega arith in subst (λ j. P j) same h)
          | inr below ↦ none (k, below, h)
        ])
      ]
    ]

number_decided : (least most : ℕ) (value : List ℕ) → Decided ((n : ℕ) × IsNumber least most value n)
number_decided least most value =
    moved (λ (n, few, h). (n, (h.0, h.1, few))) (λ (n, h). (n, h.2, (h.0, h.1)))
    (some_below (λ n. (value ≡ decimal n) × (least ≤ n)) (λ n. both (bytes_decided value (decimal n)) (least_decided least n)) most)

order_decided : (value : List ℕ) → Decided ((order : Order) × IsOrder value order)
order_decided value =
    moved to from (either (bytes_decided value (codes "first")) (either (bytes_decided value (codes "last")) (number_decided 0 65535 value)))
  where
    to : (value ≡ codes "first") ⊎ ((value ≡ codes "last") ⊎ ((k : ℕ) × IsNumber 0 65535 value k)) → (order : Order) × IsOrder value order
    to (inl e) = (First, e)
    to (inr (inl e)) = (Last, e)
    to (inr (inr (k, h))) = (Stride k, h)

    from : (order : Order) × IsOrder value order → (value ≡ codes "first") ⊎ ((value ≡ codes "last") ⊎ ((k : ℕ) × IsNumber 0 65535 value k))
    from (First, e) = inl e
    from (Last, e) = inr (inl e)
    from (Stride k, h) = inr (inr (k, h))

bits_decided : (value : List ℕ) → Decided ((bits : Bits) × IsBits value bits)
bits_decided value =
    moved to from (either (bytes_decided value (codes "16")) (either (bytes_decided value (codes "27")) (bytes_decided value (codes "38"))))
  where
    to : (value ≡ codes "16") ⊎ ((value ≡ codes "27") ⊎ (value ≡ codes "38")) → (bits : Bits) × IsBits value bits
    to (inl e) = (Sixteen, e)
    to (inr (inl e)) = (TwentySeven, e)
    to (inr (inr e)) = (ThirtyEight, e)

    from : (bits : Bits) × IsBits value bits → (value ≡ codes "16") ⊎ ((value ≡ codes "27") ⊎ (value ≡ codes "38"))
    from (Sixteen, e) = inl e
    from (TwentySeven, e) = inr (inl e)
    from (ThirtyEight, e) = inr (inr e)

place_decided : (value : List ℕ) → Decided ((place : PlaceBy) × IsPlace value place)
place_decided value = moved to from (either (bytes_decided value (codes "boxes")) (bytes_decided value (codes "points")))
  where
    to : (value ≡ codes "boxes") ⊎ (value ≡ codes "points") → (place : PlaceBy) × IsPlace value place
    to (inl e) = (Boxes, e)
    to (inr e) = (Points, e)

    from : (place : PlaceBy) × IsPlace value place → (value ≡ codes "boxes") ⊎ (value ≡ codes "points")
    from (Boxes, e) = inl e
    from (Points, e) = inr e

frame_decided : (value : List ℕ) → Decided ((frame : FrameBy) × IsFrame value frame)
frame_decided value = moved to from (either (bytes_decided value (codes "base")) (bytes_decided value (codes "drawn")))
  where
    to : (value ≡ codes "base") ⊎ (value ≡ codes "drawn") → (frame : FrameBy) × IsFrame value frame
    to (inl e) = (Base, e)
    to (inr e) = (Drawn, e)

    from : (frame : FrameBy) × IsFrame value frame → (value ≡ codes "base") ⊎ (value ≡ codes "drawn")
    from (Base, e) = inl e
    from (Drawn, e) = inr e

module _ {X : Type 0} (Is : List ℕ → X → Type 0) (decide : (value : List ℕ) → Decided ((x : X) × Is value x)) where
  said_decided : (default : X) (values : List (List ℕ)) → Decided ((x : X) × Says Is default values x)
  said_decided default [] = inl (default, refl)
  said_decided default (v ∷ []) = decide v
  said_decided default (v ∷ w ∷ more) = inr (λ h. h.1)

all_keys : List Key
all_keys = OrderKey ∷ BitsKey ∷ WithinKey ∷ PlaceKey ∷ FrameKey ∷ SizeKey ∷ []

key_listed : (key : Key) → Contains all_keys key
unfolding all_keys
key_listed OrderKey = (0, omega arith, refl)
key_listed BitsKey = (1, omega arith, refl)
key_listed WithinKey = (2, omega arith, refl)
key_listed PlaceKey = (3, omega arith, refl)
key_listed FrameKey = (4, omega arith, refl)
key_listed SizeKey = (5, omega arith, refl)

key_decided : (command : Command) (word : List ℕ) → Decided (IsKeyOf command word)
key_decided command word =
    moved (λ (key, key_in, h). (key, h.0, h.1)) (λ (key, taken, some). (key, key_listed key, (taken, some)))
    (some_in (λ key. IsTrue (takes command key) × IsSome (behind (key_name key) word)) (λ key. both (bool_decided (takes command key)) (bool_decided (is_some (behind (key_name key) word)))) all_keys)

-- a size, or none, is said
size_said : (values : List (List ℕ)) → Decided ((n : ℕ) × IsSet IsSize values (Some n))
size_said [] = inr (λ h. h.1)
size_said (v ∷ []) = number_decided 3 1000 v
size_said (v ∷ w ∷ more) = inr (λ h. h.1)

none_said : (values : List (List ℕ)) → Decided (IsSet IsSize values None)
none_said [] = inl tt
none_said (v ∷ []) = inr (λ h. h)
none_said (v ∷ w ∷ more) = inr (λ h. h)

-- a command of that word with the size that the values say
abbrev AsSized : Command → List (List ℕ) → Type 0
AsSized command values = (sized : Command) × (command_word sized ≡ command_word command) × IsSet IsSize values (size_in sized)

made_as : (command sized : Command) → command_word sized ≡ command_word command → makes sized ≡ makes command
made_as command sized same = ap (λ (t : Traits). t.makes) (same_traits sized command same)

size_decided : (command : Command) (values : List (List ℕ)) → Decided (AsSized command values)
size_decided command values =
    elim (cases_Bool (makes command)) [
      | inl makes_it ↦
          let made = made_size command makes_it in
          moved
          (λ (n, set). (Grow n, sym (ap command_word made.1), set))
          (λ (sized, same, set). (
          let grown = made_size sized (made_as command sized same ∙ makes_it) in
          (grown.0, subst (λ c. IsSet IsSize values (size_in c)) grown.1 set)))
          (size_said values)
      | inr makes_none ↦
          moved
          (λ set. (command, refl, subst (λ s. IsSet IsSize values s) (sym (unmade_size command makes_none)) set))
          (λ (sized, same, set). subst (λ s. IsSet IsSize values s) (unmade_size sized (made_as command sized same ∙ makes_none)) set)
          (none_said values)
    ]

-- the keys ask for something of the command of that word
abbrev AskOf : Command → List (List ℕ) → Type 0
AskOf command keys = (request : Request) × (command_word request.command ≡ command_word command) × HasKeys keys request

record HasParts (command : Command) (keys : List (List ℕ)) : Type 0 where
  known : All (λ word. IsKeyOf command word) keys
  order : (x : Order) × Says IsOrder First (values_of OrderKey keys) x
  bits : (x : Bits) × Says IsBits ThirtyEight (values_of BitsKey keys) x
  within : (x : ℕ) × Says IsLimit 1000 (values_of WithinKey keys) x
  place : (x : PlaceBy) × Says IsPlace Boxes (values_of PlaceKey keys) x
  frame : (x : FrameBy) × Says IsFrame Base (values_of FrameKey keys) x
  size : AsSized command (values_of SizeKey keys)

parts_decided : (command : Command) (keys : List (List ℕ)) → Decided (HasParts command keys)
parts_decided command keys =
    moved (λ h. record { known = h.0; order = h.1.0; bits = h.1.1.0; within = h.1.1.1.0; place = h.1.1.1.1.0; frame = h.1.1.1.1.1.0; size = h.1.1.1.1.1.1 }) (λ (p : HasParts command keys). (p.known, (p.order, (p.bits, (p.within, (p.place, (p.frame, p.size)))))))
    (both (all_decided (λ word. IsKeyOf command word) (λ word. key_decided command word) keys)
    (both (said_decided IsOrder order_decided First (values_of OrderKey keys))
    (both (said_decided IsBits bits_decided ThirtyEight (values_of BitsKey keys))
    (both (said_decided IsLimit (λ value. number_decided 1 1000000 value) 1000 (values_of WithinKey keys))
    (both (said_decided IsPlace place_decided Boxes (values_of PlaceKey keys))
    (both (said_decided IsFrame frame_decided Base (values_of FrameKey keys))
    (size_decided command (values_of SizeKey keys))))))))

ask_decided : (command : Command) (keys : List (List ℕ)) → Decided (AskOf command keys)
ask_decided command keys =
    moved
    (λ (p : HasParts command keys). (
      record { command = p.size.0; order = p.order.0; bits = p.bits.0; within = p.within.0; layout = record { by = p.place.0; frame = p.frame.0 } },
      p.size.1,
      record {
        known = All-weaker (λ word. IsKeyOf command word) (λ word. IsKeyOf p.size.0 word) (same_keys command p.size.0 (sym p.size.1)) keys p.known;
        order = p.order.1;
        bits = p.bits.1;
        within = p.within.1;
        place = p.place.1;
        frame = p.frame.1;
        size = p.size.2;
      },
    ))
    (λ (request, is, h). record {
      known = All-weaker (λ word. IsKeyOf request.command word) (λ word. IsKeyOf command word) (same_keys request.command command is) keys h.known;
      order = (request.order, h.order);
      bits = (request.bits, h.bits);
      within = (request.within, h.within);
      place = (request.layout.by, h.place);
      frame = (request.layout.frame, h.frame);
      size = (request.command, is, h.size);
    })
    (parts_decided command keys)

-- what words ask for is settled
pub form_decided : (words : List (List ℕ)) → Decided (AreOfForm words)
form_decided [] = inr (λ h. h.1)
form_decided (first ∷ keys) =
    moved (λ (command, command_in, (word, (request, is, h))). (request, (word ∙ sym is, h)))
    (λ (request, (word, h)). (without_size request.command, command_listed request.command, (word ∙ sym (word_without_size request.command), (request, sym (word_without_size request.command), h))))
    (some_in (λ command. (first ≡ command_word command) × AskOf command keys) (λ command. both (bytes_decided first (command_word command)) (ask_decided command keys)) commands)
