-- The lines on what a drawing says too much: the constraints that are left out, and how far off each is.
use Rattle.std.specs.Prelude.{ℕ, Bool, true, false, ◌&&◌, nat_le, List, [], ◌∷◌, ◌++◌, Option, None, Some, is_none, codes, unsigned_abs}
use Rattle.std.specs.List.{flat_map}
use Rattle.std.specs.Fmt.{decimal}
use Rattle.sk_base.specs.declared.ConId.{ConId}
use Rattle.sk_base.specs.declared.Sketch.{Sketch}
use Rattle.sk_base.specs.Spelling.{whole_text}
use Rattle.sk_entry.specs.NumberedConstraint.{constraint_words}
use Rattle.sk_tolerance.specs.declared.OffBy.{OffBy}
use Rattle.sk_tolerance.specs.declared.Turned.{Turned}
use Rattle.sk_report.specs.PlanReport.{sign_text}

-- how many parts are over
abbrev pub excess_head : ℕ → List ℕ
excess_head parts = codes "excess " ++ (decimal parts ++ codes "\n")

-- the constraint by its number and its line
abbrev pub left_words : Sketch → ConId → List ℕ
left_words s k = codes "c" ++ (decimal k.0 ++ (codes " : " ++ constraint_words s k))

abbrev pub left_line : Sketch → ConId → List ℕ
left_line s k = left_words s k ++ codes "\n"

abbrev pub left_lines : Sketch → List ConId → List ℕ
left_lines s left = flat_map (left_line s) left

-- it repeats what the others say where it isn't turned and is off by no more than the limit, and else it contradicts them
abbrev pub is_repeat : ℕ → OffBy → Bool
is_repeat limit off = is_none off.turned && nat_le (unsigned_abs off.off) limit

abbrev pub repeat_word : Bool → List ℕ
repeat_word true = codes " repeat off"
repeat_word false = codes " conflict off"

-- lengths, heights and blocks in nanometres, angles in parts per 10^9
abbrev pub off_unit : Bool → List ℕ
off_unit true = codes " nm"
off_unit false = codes " ppb"

abbrev pub turned_words : Option Turned → List ℕ
turned_words None = []
turned_words (Some t) = (codes " turned drawn " ++ (sign_text t.drawn ++ codes " placed")) ++ 32 ∷ whole_text t.placed

-- the constraint, these words, by how much it is off, and its sign where that is turned over
abbrev pub line_of_off : Sketch → List ℕ → ConId → OffBy → List ℕ
line_of_off s words k off = ((((left_words s k ++ words) ++ 32 ∷ whole_text off.off) ++ off_unit off.length) ++ turned_words off.turned) ++ codes "\n"

-- that of a constraint that is left out says what it is to the others
abbrev pub off_line : Sketch → ℕ → ConId → OffBy → List ℕ
off_line s limit k off = line_of_off s (repeat_word (is_repeat limit off)) k off

-- without the constraints that are left out the part is over still
abbrev pub stays_over : List ℕ
stays_over = codes "stays over\n"
