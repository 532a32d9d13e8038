-- Numbers of failing calls that are still to come.
use Rattle.std.proofs.Common.{◌≡◌, ℕ, ◌+◌, ◌<◌, ◌≤◌, List, [], ◌∷◌, refl, subst, arith, inl, inr}
use Rattle.std.specs.Prelude.{Contains, nat_le, false}
use Rattle.std.proofs.lemmas.Bool.{le-leb, lt-leb}
use Rattle.std.proofs.lemmas.Bool.Decides.{leb_tells}
use Rattle.sk_base.proofs.Members.{contains_none, contains_filtered}
use Rattle.sk_io.specs.Memory.{one_later, to_come, room_if_none}

-- where none is still to come, the next call's isn't one
pub none_listed : (calls : ℕ) (fails : List ℕ) → to_come calls fails ≡ [] → ¬ Contains fails (one_later calls)
none_listed calls fails none listed =
    contains_none (one_later calls)
    (subst (λ (xs : List ℕ). Contains xs (one_later calls)) none
    (contains_filtered (nat_le (one_later calls)) fails (one_later calls) listed (le-leb (one_later calls) (one_later calls) (omega arith))))

-- and none is still to come behind the next call
pub still_none : (calls : ℕ) (fails : List ℕ) → to_come calls fails ≡ [] → to_come (one_later calls) fails ≡ []
still_none calls [] none = refl
still_none calls (number ∷ fails) none =
    elim (leb_tells (one_later calls) number) [
      | inl coming ↦ (let some = rw coming.0 at none in cc)
      | inr passed ↦
          let later : nat_le (one_later (one_later calls)) number ≡ false = lt-leb (one_later (one_later calls)) number (omega (arith, passed.1)) in
          rw later (still_none calls fails (rw passed.0 at none))
    ]

-- where a byte is sure to be taken, no failing call is still to come
pub some_sure : (numbers : List ℕ) (room n : ℕ) → 0 < n → n ≤ room_if_none numbers room → (numbers ≡ []) × (n ≤ room)
some_sure [] room n some few = (refl, few)
some_sure (number ∷ numbers) room n some few = absurd (omega (arith, some, few))

-- the room that is sure before a write and after it
pub room_after : (numbers later : List ℕ) (room after n : ℕ) → later ≡ [] → room ≤ after + n → room_if_none numbers room ≤ room_if_none later after + n
room_after [] later room after n none few = rw none few
room_after (number ∷ numbers) later room after n none few = omega arith
