-- What an error says.
use Rattle.std.specs.Prelude.{◌≡◌, ⊤, ℕ, Option, Some}
use Rattle.sk_lines.specs.declared.code.Code.{Code}
use Rattle.sk_lines.specs.declared.error.EntryError.{EntryError}
use Rattle.sk_lines.specs.declared.error.EntryError.TheVariants.{Refused, NoMemory}
use Rattle.sk_lines.specs.declared.code.ReadError.{ReadError}
use Rattle.sk_lines.specs.declared.code.ReadError.TheVariants as read

-- the error says the code, or that memory ran out
abbrev pub IsRefusal : Option Code → EntryError → Type 0
IsRefusal code (Refused c) = code ≡ Some c
IsRefusal code NoMemory = ⊤

-- the error of a line, as that of the text
abbrev pub error_at : ℕ → EntryError → ReadError
error_at line (Refused code) = read.Refused (record { line = line; code = code })
error_at line NoMemory = read.NoMemory
