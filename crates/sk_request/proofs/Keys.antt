-- Keys that are read one after another.
use Rattle.std.proofs.Common.{◌≡◌, ◌≢◌, ℕ, ◌+◌, ◌<◌, List, [], ◌∷◌, ◌++◌, length, get_or, take, drop, refl, ap, sym, subst, ◌∙◌}
use Rattle.std.specs.Prelude.{map, true, false, Option, Some, None, IfNone, IsSome, unwrap_or, codes, All}
use Rattle.std.proofs.lemmas.List.Elements.{All-nil, All-cons, All-head, All-tail, All-weaker, All-contains, All-append, Contains-append_right}
use Rattle.std.proofs.lemmas.List.{take_more, drop_more, map-append, take-append-drop}
use Rattle.sk_base.proofs.Members.{contains_head}
use Rattle.sk_close_by_order.specs.declared.Order.{Order}
use Rattle.sk_close_by_order.specs.declared.Order.TheVariants.{First}
use Rattle.sk_place.specs.declared.FrameBy.{FrameBy}
use Rattle.sk_place.specs.declared.FrameBy.TheVariants.{Base}
use Rattle.sk_place.specs.declared.PlaceBy.{PlaceBy}
use Rattle.sk_place.specs.declared.PlaceBy.TheVariants.{Boxes}
use Rattle.sk_request.specs.declared.bits.Bits.{Bits}
use Rattle.sk_request.specs.declared.bits.Bits.TheVariants.{ThirtyEight}
use Rattle.sk_request.specs.declared.command.Command.{Command}
use Rattle.sk_request.specs.declared.command.Command.TheVariants.{Grow}
use Rattle.sk_request.specs.declared.command.Traits.{Traits}
use Rattle.sk_request.specs.Commands.{command_word}
use Rattle.sk_request.specs.declared.request.Request.{Request}
use Rattle.sk_request.specs.declared.settings.Settings.{Settings}
use Rattle.sk_request.specs.Asking.{Key, OrderKey, BitsKey, WithinKey, PlaceKey, FrameKey, SizeKey, key_name, orders_by, limits_by, places_by, traits, makes, takes, behind, values_of, IsKeyOf, IsOrder, IsBits, IsLimit, IsPlace, IsFrame, IsSize, IsSet, size_in, IsSized, LacksSize, Says, HasKeys}
use Rattle.sk_request.specs.Settings.{AreSet, Adds}
use Rattle.sk_request.proofs.KeyValues.{values_more, set_more, set_back, set_back_alone, said, one_set}
use Rattle.sk_request.proofs.Numbers.{one_size}
use Rattle.sk_request.proofs.CommandWords.{same_traits, made_size}
use Rattle.sk_request.proofs.OtherKeys.{apart}

-- commands of one word take the same keys
same_takes : (c d : Command) → traits c ≡ traits d → (key : Key) → takes c key ≡ takes d key
same_takes c d same OrderKey = ap (λ (t : Traits). orders_by t.keys) same
same_takes c d same BitsKey = ap (λ (t : Traits). places_by t.keys) same
same_takes c d same WithinKey = ap (λ (t : Traits). limits_by t.keys) same
same_takes c d same PlaceKey = ap (λ (t : Traits). places_by t.keys) same
same_takes c d same FrameKey = ap (λ (t : Traits). places_by t.keys) same
same_takes c d same SizeKey = ap (λ (t : Traits). t.makes) same

pub same_keys : (c d : Command) → command_word c ≡ command_word d → (word : List ℕ) → IsKeyOf c word → IsKeyOf d word
same_keys c d same word (key, taken, some) = (key, sym (same_takes c d (same_traits c d same) key) ∙ taken, some)

-- a word that begins with the name of another key gives no size
no_size_behind : (key : Key) (word : List ℕ) (found : Option (List ℕ)) → behind (key_name key) word ≡ found → IsSome found → key ≢ SizeKey → behind (codes "n=") word ≡ None
no_size_behind key word None is some other = cc
no_size_behind OrderKey word (Some value) is some other = apart 111 110 (codes "rder=") (codes "=") word value refl is
no_size_behind BitsKey word (Some value) is some other = apart 98 110 (codes "its=") (codes "=") word value refl is
no_size_behind WithinKey word (Some value) is some other = apart 119 110 (codes "ithin=") (codes "=") word value refl is
no_size_behind PlaceKey word (Some value) is some other = apart 112 110 (codes "lace=") (codes "=") word value refl is
no_size_behind FrameKey word (Some value) is some other = apart 102 110 (codes "rame=") (codes "=") word value refl is
no_size_behind SizeKey word (Some value) is some other = absurd (other refl)

-- the keys of a command that doesn't make its sketch give none
no_sizes : (command : Command) → makes command ≡ false → (words : List (List ℕ)) → All (λ word. IsKeyOf command word) words → values_of SizeKey words ≡ []
no_sizes command unmade [] known = refl
no_sizes command unmade (word ∷ words) known =
    let key = All-head (λ w. IsKeyOf command w) word words known in
    let other : key.0 ≢ SizeKey = λ is. (let made : makes command ≡ true = subst (λ k. takes command k ≡ true) is key.1 in let clash : true ≡ false = sym made ∙ unmade in cc) in
    let none = no_size_behind key.0 word (behind (key_name key.0) word) refl key.2 other in
    rw none (no_sizes command unmade words (All-tail (λ w. IsKeyOf command w) word words known))

-- one word more
pub set_step : (command : Command) (words : List (List ℕ)) (word : List ℕ) (before after : Settings) → AreSet command words before → Adds command word before after → AreSet command (words ++ word ∷ []) after
set_step command words word before after set adds = record {
  known = All-append (λ w. IsKeyOf command w) words (word ∷ []) set.known (All-cons (λ w. IsKeyOf command w) word [] adds.known (All-nil (λ w. IsKeyOf command w)));
  order = subst (λ vs. IsSet IsOrder vs after.order) (sym (values_more OrderKey words word [])) (set_more IsOrder (values_of OrderKey words) (behind (key_name OrderKey) word) before.order after.order set.order adds.order);
  bits = subst (λ vs. IsSet IsBits vs after.bits) (sym (values_more BitsKey words word [])) (set_more IsBits (values_of BitsKey words) (behind (key_name BitsKey) word) before.bits after.bits set.bits adds.bits);
  within = subst (λ vs. IsSet IsLimit vs after.within) (sym (values_more WithinKey words word [])) (set_more IsLimit (values_of WithinKey words) (behind (key_name WithinKey) word) before.within after.within set.within adds.within);
  place = subst (λ vs. IsSet IsPlace vs after.place) (sym (values_more PlaceKey words word [])) (set_more IsPlace (values_of PlaceKey words) (behind (key_name PlaceKey) word) before.place after.place set.place adds.place);
  frame = subst (λ vs. IsSet IsFrame vs after.frame) (sym (values_more FrameKey words word [])) (set_more IsFrame (values_of FrameKey words) (behind (key_name FrameKey) word) before.frame after.frame set.frame adds.frame);
  size = subst (λ vs. IsSet IsSize vs after.size) (sym (values_more SizeKey words word [])) (set_more IsSize (values_of SizeKey words) (behind (key_name SizeKey) word) before.size after.size set.size adds.size);
}

-- a word that adds nothing stands in no words that are asked with
pub no_request : (command : Command) (words : List (List ℕ)) (word : List ℕ) (rest : List (List ℕ)) (before : Settings) → AreSet command words before
    → ((after : Settings) → Adds command word before after → ⊥) → (request : Request) → command_word request.command ≡ command_word command → HasKeys (words ++ word ∷ rest) request → ⊥
no_request command words word rest before set none request is keys =
    let P : List ℕ → Type 0 = λ w. IsKeyOf request.command w in
    let known = All-contains P (words ++ word ∷ rest) word keys.known (Contains-append_right words (word ∷ rest) word (contains_head word rest)) in
    let order = set_back IsOrder First request.order (values_of OrderKey words) (behind (key_name OrderKey) word) (values_of OrderKey rest) before.order
    (subst (λ vs. Says IsOrder First vs request.order) (values_more OrderKey words word rest) keys.order) set.order in
    let bits = set_back IsBits ThirtyEight request.bits (values_of BitsKey words) (behind (key_name BitsKey) word) (values_of BitsKey rest) before.bits
    (subst (λ vs. Says IsBits ThirtyEight vs request.bits) (values_more BitsKey words word rest) keys.bits) set.bits in
    let within = set_back IsLimit 1000 request.within (values_of WithinKey words) (behind (key_name WithinKey) word) (values_of WithinKey rest) before.within
    (subst (λ vs. Says IsLimit 1000 vs request.within) (values_more WithinKey words word rest) keys.within) set.within in
    let frame = set_back IsFrame Base request.layout.frame (values_of FrameKey words) (behind (key_name FrameKey) word) (values_of FrameKey rest) before.frame
    (subst (λ vs. Says IsFrame Base vs request.layout.frame) (values_more FrameKey words word rest) keys.frame) set.frame in
    let place = set_back IsPlace Boxes request.layout.by (values_of PlaceKey words) (behind (key_name PlaceKey) word) (values_of PlaceKey rest) before.place
    (subst (λ vs. Says IsPlace Boxes vs request.layout.by) (values_more PlaceKey words word rest) keys.place) set.place in
    let size = set_back_alone IsSize (size_in request.command) (values_of SizeKey words) (behind (key_name SizeKey) word) (values_of SizeKey rest) before.size
    (subst (λ vs. IsSet IsSize vs (size_in request.command)) (values_more SizeKey words word rest) keys.size) set.size in
    none (record { order = order.0; bits = bits.0; within = within.0; place = place.0; frame = frame.0; size = size.0 })
    (record { known = same_keys request.command command is word known; order = order.1; bits = bits.1; within = within.1; place = place.1; frame = frame.1; size = size.1 })

-- a command with its size is of the same word
pub sized_word : (named sized : Command) (size : Option ℕ) → IsSized named size sized → command_word named ≡ command_word sized
sized_word (Grow m) sized size (n, is, same) = ap command_word (sym same)
sized_word named sized size same = ap command_word (sym same)

sized_set : (named sized : Command) (values : List (List ℕ)) (size : Option ℕ) → (makes named ≡ false → values ≡ []) → IsSet IsSize values size → IsSized named size sized → IsSet IsSize values (size_in sized)
sized_set (Grow m) sized values size none set (n, is, same) = subst (λ c. IsSet IsSize values (size_in c)) (sym same) (subst (λ s. IsSet IsSize values s) is set)
sized_set named sized values size none set same =
    subst (λ c. IsSet IsSize values (size_in c)) (sym same) (subst (λ vs. IsSet IsSize vs None) (sym (none refl)) tt)

-- what the words set is what they say
pub keys_of : (named command : Command) (words : List (List ℕ)) (settings : Settings) (order : Order) (bits : Bits) (within : ℕ) (place : PlaceBy) (frame : FrameBy) → AreSet named words settings
    → order ≡ unwrap_or settings.order First → bits ≡ unwrap_or settings.bits ThirtyEight → within ≡ unwrap_or settings.within 1000 → place ≡ unwrap_or settings.place Boxes → frame ≡ unwrap_or settings.frame Base
    → IsSized named settings.size command → HasKeys words (record { command = command; order = order; bits = bits; within = within; layout = record { by = place; frame = frame } })
keys_of named command words settings order bits within place frame set order_is bits_is within_is place_is frame_is sized = record {
  known = All-weaker (λ w. IsKeyOf named w) (λ w. IsKeyOf command w) (same_keys named command (sized_word named command settings.size sized)) words set.known;
  order = subst (λ o. Says IsOrder First (values_of OrderKey words) o) (sym order_is) (said IsOrder First (values_of OrderKey words) settings.order set.order);
  bits = subst (λ o. Says IsBits ThirtyEight (values_of BitsKey words) o) (sym bits_is) (said IsBits ThirtyEight (values_of BitsKey words) settings.bits set.bits);
  within = subst (λ o. Says IsLimit 1000 (values_of WithinKey words) o) (sym within_is) (said IsLimit 1000 (values_of WithinKey words) settings.within set.within);
  place = subst (λ o. Says IsPlace Boxes (values_of PlaceKey words) o) (sym place_is) (said IsPlace Boxes (values_of PlaceKey words) settings.place set.place);
  frame = subst (λ o. Says IsFrame Base (values_of FrameKey words) o) (sym frame_is) (said IsFrame Base (values_of FrameKey words) settings.frame set.frame);
  size = sized_set named command (values_of SizeKey words) settings.size (λ unmade. no_sizes named unmade words set.known) set.size sized;
}

-- where no size is set, the words don't ask for what needs one
pub no_size : (named : Command) (words : List (List ℕ)) (settings : Settings) → AreSet named words settings → LacksSize named settings.size
    → (request : Request) → command_word request.command ≡ command_word named → HasKeys words request → ⊥
no_size (Grow m) words settings set lacks request is keys =
    let made = made_size request.command (ap (λ (t : Traits). t.makes) (same_traits request.command (Grow m) is)) in
    let size : Some made.0 ≡ None =
    ap size_in (sym made.1) ∙ sym (one_set IsSize one_size (values_of SizeKey words) settings.size (size_in request.command) set.size keys.size) ∙ lacks in
    cc
no_size named words settings set lacks request is keys = absurd lacks

-- where a loop over the words stands
module _ {X : Type 0} (bytes : X → List ℕ) (xs : List X) (i : ℕ) (x : X) (within : i < length xs) (is : x ≡ get_or xs i x) where
  pub mapped_more : map bytes (take (i + 1) xs) ≡ map bytes (take i xs) ++ bytes x ∷ []
  mapped_more = ap (map bytes) (take_more xs i x within ∙ ap (λ y. take i xs ++ y ∷ []) (sym is)) ∙ map-append bytes (take i xs) (x ∷ [])

  pub mapped_parts : map bytes xs ≡ map bytes (take i xs) ++ bytes x ∷ map bytes (drop (i + 1) xs)
  mapped_parts =
      ap (map bytes) (sym (take-append-drop i xs) ∙ ap (λ ys. take i xs ++ ys) (drop_more xs i x within ∙ ap (λ y. y ∷ drop (i + 1) xs) (sym is)))
      ∙ map-append bytes (take i xs) (x ∷ drop (i + 1) xs)

pub if_none : {T : Type 0} (r : Option T) (P : Type 0) → P → IfNone r P
if_none None P p = p
if_none (Some x) P p = tt
