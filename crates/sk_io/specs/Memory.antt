-- A source and a sink in memory, as their contracts see them.
use Rattle.std.specs.Prelude.{◌≡◌, ◌⊎◌, ℕ, ◌+◌, ◌-◌, ◌<◌, min, List, [], ◌∷◌, ◌++◌, length, filter, nat_le, Contains}
use Rattle.sk_io.specs.declared.fault.TheConstants.{LAST_COUNT}

-- a number of calls or faults, one later; at its last value it stays
abbrev pub one_later : ℕ → ℕ
one_later count = min (count + 1) LAST_COUNT

-- a call counts where its buffer or piece isn't empty
abbrev pub calls_after : List ℕ → ℕ → ℕ
calls_after [] calls = calls
calls_after (byte ∷ bytes) calls = one_later calls

-- what is left, the numbers of the calls that fail, and the calls and faults so far
pub record Stream : Type 0 where
  pub left : List ℕ
  pub fails : List ℕ
  pub calls : ℕ
  pub faults : ℕ

-- what was written, the room in all, the numbers of the calls that fail, and the calls and faults so far
pub record Store : Type 0 where
  pub written : List ℕ
  pub room : ℕ
  pub fails : List ℕ
  pub calls : ℕ
  pub faults : ℕ

-- the numbers of failing calls that are still to come: those from the next call's number on
abbrev pub to_come : ℕ → List ℕ → List ℕ
to_come calls fails = filter (λ number. nat_le (one_later calls) number) fails

-- no read from here on fails
abbrev pub IsSure : Stream → Type 0
IsSure s = to_come s.calls s.fails ≡ []

-- the second is the first after one read that gave bytes: one call more is counted, that wasn't to fail, and a piece is taken off
pub record IsReadOn (old new : Stream) : Type 0 where
  pub counted : new.calls ≡ one_later old.calls
  pub unlisted : ¬ Contains old.fails (one_later old.calls)
  pub piece : List ℕ
  pub some : 0 < length piece
  pub taken : old.left ≡ piece ++ new.left
  pub fails : new.fails ≡ old.fails
  pub faults : new.faults ≡ old.faults

-- the second is the first after one read that gave nothing: one call more is counted, that was to fail, or nothing was left
pub record IsReadLast (old new : Stream) : Type 0 where
  pub counted : new.calls ≡ one_later old.calls
  pub cause : Contains old.fails (one_later old.calls) ⊎ (old.left ≡ [])
  pub left : new.left ≡ old.left
  pub fails : new.fails ≡ old.fails

-- the room that is left where no failing call is still to come, else none
abbrev pub room_if_none : List ℕ → ℕ → ℕ
room_if_none [] room = room
room_if_none (number ∷ numbers) room = 0

-- so many bytes are taken without a fault
abbrev pub sure_room : Store → ℕ
sure_room s = room_if_none (to_come s.calls s.fails) (s.room - length s.written)
