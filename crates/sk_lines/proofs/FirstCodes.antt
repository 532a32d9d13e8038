-- First codes of tables one behind the other.
use Rattle.std.proofs.Common.{◌≡◌, Bool, true, false, cond, List, [], ◌∷◌, ◌++◌, Some, None, refl}
use Rattle.sk_lines.specs.declared.code.Code.{Code}
use Rattle.sk_lines.specs.FirstCode.{first_code}

pub code_front : (rows more : List (Bool × Code)) (code : Code) → first_code rows ≡ Some code → first_code (rows ++ more) ≡ Some code
code_front [] more code is = cc
code_front (row ∷ rows) more code is = told row.0 refl is (code_front rows more code)
  where
    told : (t : Bool) → row.0 ≡ t → cond t (Some row.1) (first_code rows) ≡ Some code → (first_code rows ≡ Some code → first_code (rows ++ more) ≡ Some code) → cond row.0 (Some row.1) (first_code (rows ++ more)) ≡ Some code
    told true here is later = rw here is
    told false here is later = rw here (later is)

pub code_behind : (rows more : List (Bool × Code)) → first_code rows ≡ None → first_code (rows ++ more) ≡ first_code more
code_behind [] more is = refl
code_behind (row ∷ rows) more is = told row.0 refl is (code_behind rows more)
  where
    told : (t : Bool) → row.0 ≡ t → cond t (Some row.1) (first_code rows) ≡ None → (first_code rows ≡ None → first_code (rows ++ more) ≡ first_code more) → cond row.0 (Some row.1) (first_code (rows ++ more)) ≡ first_code more
    told true here is later = cc
    told false here is later = rw here (later is)

-- without a code the later rows have none
pub none_behind : (rows more : List (Bool × Code)) → first_code (rows ++ more) ≡ None → first_code more ≡ None
none_behind [] more is = is
none_behind (row ∷ rows) more is = told row.0 is (none_behind rows more)
  where
    told : (t : Bool) → cond t (Some row.1) (first_code (rows ++ more)) ≡ None → (first_code (rows ++ more) ≡ None → first_code more ≡ None) → first_code more ≡ None
    told true is later = absurd (cc)
    told false is later = later is
