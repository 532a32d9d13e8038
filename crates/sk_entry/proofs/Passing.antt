-- A line without a code passes each test, and a line that passes each test has no code.
use Rattle.std.proofs.Common.{◌≡◌, ℕ, false, not, ◌&&◌, ◌||◌, nat_le, nat_eq, List, length, None, refl}
use Rattle.std.specs.List.{list_any, zip}
use Rattle.sk_base.specs.declared.Sketch.{Sketch}
use Rattle.sk_base.proofs.Tables.{passed}
use Rattle.sk_lines.specs.declared.Keyword.{Keyword}
use Rattle.sk_lines.specs.Keywords.{places, declares}
use Rattle.sk_entry.specs.Conditions.{has_bad_name, is_taken, is_unknown, has_wrong_kinds, is_bad_number, is_zero_number, has_equals, has_same_names, is_drawn_flat, lacks_radius}
use Rattle.sk_lines.specs.FirstCode.{first_code}
use Rattle.sk_entry.specs.EntryCodes.{entry_rows}

-- what each test of an entry says
pub record Passes (s : Sketch) (k : Keyword) (rest : List (List ℕ)) : Type 0 where
  pub radius : lacks_radius k (length rest) ≡ false
  pub count : not (nat_eq (length rest) (length (places k (length rest)))) ≡ false
  pub names : list_any has_bad_name (zip (places k (length rest)) rest) ≡ false
  pub free : list_any (is_taken s) (zip (places k (length rest)) rest) ≡ false
  pub known : list_any (is_unknown s) (zip (places k (length rest)) rest) ≡ false
  pub kinds : has_wrong_kinds s k rest ≡ false
  pub numbers : list_any is_bad_number (zip (places k (length rest)) rest) ≡ false
  pub zeros : (list_any is_zero_number (zip (places k (length rest)) rest) || has_equals s k rest) ≡ false
  pub same : has_same_names k rest ≡ false
  pub flat : is_drawn_flat k rest ≡ false
  pub elements : (declares k && nat_le 2000 (length s.elements)) ≡ false
  pub constraints : (not (declares k) && nat_le 4000 (length s.constraints)) ≡ false

pub passes_from : (s : Sketch) (k : Keyword) (rest : List (List ℕ)) → first_code (entry_rows s k rest) ≡ None → Passes s k rest
passes_from s k rest clean =
    let a = passed _ _ _ clean in
    let b = passed _ _ _ a.1 in
    let c = passed _ _ _ b.1 in
    let d = passed _ _ _ c.1 in
    let e = passed _ _ _ d.1 in
    let f = passed _ _ _ e.1 in
    let g = passed _ _ _ f.1 in
    let h = passed _ _ _ g.1 in
    let i = passed _ _ _ h.1 in
    let j = passed _ _ _ i.1 in
    let m = passed _ _ _ j.1 in
    let n = passed _ _ _ m.1 in
    record { radius = a.0; count = b.0; names = c.0; free = d.0; known = e.0; kinds = f.0; numbers = g.0; zeros = h.0; same = i.0; flat = j.0; elements = m.0; constraints = n.0 }

pub passes_to : (s : Sketch) (k : Keyword) (rest : List (List ℕ)) → Passes s k rest → first_code (entry_rows s k rest) ≡ None
passes_to s k rest p = rw (p.radius, p.count, p.names, p.free, p.known, p.kinds, p.numbers, p.zeros, p.same, p.flat, p.elements, p.constraints) refl
