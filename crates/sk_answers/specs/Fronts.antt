-- A text whose sketch further lines follow.
use Rattle.std.specs.Prelude.{◌⊎◌, ℕ, List, drop}
use Rattle.sk_lines.specs.declared.Code.{Code}
use Rattle.sk_lang.specs.declared.Front.{Front}
use Rattle.sk_lines.specs.declared.Refusal.{Refusal}
use Rattle.sk_lang.specs.Front.{ReadsFront, RefusesFront}

-- the sketch is refused on a line up to its `end`, or else what stands behind it, by `RefusesBehind`
abbrev pub IsRefusedAt : (Front → List ℕ → ℕ → Code → Type 0) → List ℕ → Refusal → Type 0
IsRefusedAt RefusesBehind bytes r =
    RefusesFront bytes r.line r.code ⊎ ((front : Front) × ReadsFront bytes front × RefusesBehind front (drop front.used bytes) r.line r.code)
