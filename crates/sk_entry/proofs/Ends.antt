-- The first code of a constraint's names is its own, whatever tests stand behind them.
use Rattle.std.proofs.Common.{◌≡◌, ℕ, Bool, true, false, not, cond, List, Option, Some, None, Result, IsErr, IsErrAnd, ap, sym, ◌∙◌}
use Rattle.std.specs.List.{list_any}
use Rattle.sk_base.specs.declared.Sketch.{Sketch}
use Rattle.sk_base.proofs.Results.{err_is}
use Rattle.sk_lines.specs.declared.Keyword.{Keyword}
use Rattle.sk_lines.specs.declared.Code.{Code}
use Rattle.sk_lines.specs.declared.Code.TheVariants.{E4, E6, E7}
use Rattle.sk_lines.specs.FirstCode.{first_code, unless}
use Rattle.sk_entry.specs.Conditions.{has_bad_name, is_unknown, kinds_fit}
use Rattle.sk_entry.specs.Named.{element_named}
use Rattle.sk_entry.specs.Ends.{both_names, names_and_kinds_rows}

by_tests : (a b c : Bool) (x y z : Code) (rest : Option Code) (code : Code) → cond a (Some x) (cond b (Some y) (cond c (Some z) None)) ≡ Some code → cond a (Some x) (cond b (Some y) (cond c (Some z) rest)) ≡ Some code
by_tests true b c x y z rest code is = is
by_tests false true c x y z rest code is = is
by_tests false false true x y z rest code is = is
by_tests false false false x y z rest code is = cc

ends_first : (s : Sketch) (k : Keyword) (u v : List ℕ) (rest : Option Code) (code : Code) → first_code (names_and_kinds_rows s k u v) ≡ Some code
    → cond (list_any has_bad_name (both_names u v)) (Some E4) (cond (list_any (is_unknown s) (both_names u v)) (Some E6) (cond (not (kinds_fit k (element_named s u) (element_named s v))) (Some E7) rest)) ≡ Some code
ends_first s k u v rest code is = by_tests (list_any has_bad_name (both_names u v)) (list_any (is_unknown s) (both_names u v)) (not (kinds_fit k (element_named s u) (element_named s v))) E4 E6 E7 rest code is

-- a refusal of the names is that of the whole line
pub refused_first : {X : Type 0} (s : Sketch) (k : Keyword) (u v : List ℕ) (rest : Option Code) (made : X) (r : Result X Code) (code : Code) → IsErr r × IsErrAnd r (λ x. x ≡ code) → first_code (names_and_kinds_rows s k u v) ≡ Some code
    → r ≡ unless (cond (list_any has_bad_name (both_names u v)) (Some E4) (cond (list_any (is_unknown s) (both_names u v)) (Some E6) (cond (not (kinds_fit k (element_named s u) (element_named s v))) (Some E7) rest))) made
refused_first s k u v rest made r code refused is = err_is r code refused ∙ sym (ap (λ (o : Option Code). unless o made) (ends_first s k u v rest code is))
