-- The words behind the first of a line, one by one.
use Rattle.std.proofs.Common.{◌≡◌, ◌⊎◌, inl, inr, ℕ, suc, ◌<◌, ◌==◌, Bool, true, false, not, List, [], ◌∷◌, ◌++◌, length, get_or, drop, Option, Some, None, Result, Ok, Err, IsErr, IsErrAnd, is_none, refl, sym, ap, ◌∙◌, arith, drop-cons, length-drop}
use Rattle.std.specs.Prelude.{MatchResult}
use Rattle.std.specs.List.{list_any, zip}
use Rattle.std.proofs.lemmas.Bool.Decides.{nat_tests}
use Rattle.std.proofs.lemmas.List.{drop_all}
use Rattle.sk_base.specs.declared.Placed.{Placed}
use Rattle.sk_base.specs.declared.Sketch.{Sketch}
use Rattle.sk_claims.specs.ClaimLines.{choice_of, are_fixed, is_choice_long, corner_rows, step_rows, limits_of, is_bad_whole, is_placed, name_rows, element_rows}
use Rattle.sk_claims.specs.declared.first_word.Figure.{Figure}
use Rattle.sk_base.proofs.Results.{err_is}
use Rattle.sk_lines.proofs.FirstCodes.{code_front, code_behind}
use Rattle.sk_lines.specs.ClusterWords.{is_bad_name}
use Rattle.sk_lines.specs.FirstCode.{first_code, unless}
use Rattle.sk_lines.specs.declared.Code.{Code}
use Rattle.sk_lines.specs.declared.Code.TheVariants.{E4, E5, E8}

-- one word further
take_one : (ws : List (List ℕ)) (i : ℕ) (w : List ℕ) (rest : List (List ℕ)) → i < length ws → w ≡ get_or ws i [] → drop (suc i) ws ≡ rest → drop i ws ≡ w ∷ rest
take_one ws i w rest below is behind = drop-cons ws i [] below ∙ (ap (λ (v : List ℕ). v ∷ drop (suc i) ws) (sym is) ∙ ap (λ (r : List (List ℕ)). w ∷ r) behind)

-- the eleven words of a step before its choice
pub behind_step : (ws : List (List ℕ)) (name joins x y z at a b c keeps kept : List ℕ) → 11 < length ws
    → name ≡ get_or ws 1 [] → joins ≡ get_or ws 2 [] → x ≡ get_or ws 3 [] → y ≡ get_or ws 4 [] → z ≡ get_or ws 5 [] → at ≡ get_or ws 6 []
    → a ≡ get_or ws 7 [] → b ≡ get_or ws 8 [] → c ≡ get_or ws 9 [] → keeps ≡ get_or ws 10 [] → kept ≡ get_or ws 11 []
    → drop 1 ws ≡ name ∷ joins ∷ x ∷ y ∷ z ∷ at ∷ a ∷ b ∷ c ∷ keeps ∷ kept ∷ drop 12 ws
behind_step ws name joins x y z at a b c keeps kept long p1 p2 p3 p4 p5 p6 p7 p8 p9 p10 p11 =
    take_one ws 1 name _ (omega (arith, long)) p1
    (take_one ws 2 joins _ (omega (arith, long)) p2
    (take_one ws 3 x _ (omega (arith, long)) p3
    (take_one ws 4 y _ (omega (arith, long)) p4
    (take_one ws 5 z _ (omega (arith, long)) p5
    (take_one ws 6 at _ (omega (arith, long)) p6
    (take_one ws 7 a _ (omega (arith, long)) p7
    (take_one ws 8 b _ (omega (arith, long)) p8
    (take_one ws 9 c _ (omega (arith, long)) p9
    (take_one ws 10 keeps _ (omega (arith, long)) p10
    (take_one ws 11 kept _ (omega (arith, long)) p11 refl))))))))))

is_long : (choice : List (List ℕ)) → (length choice ≡ 1) ⊎ (length choice ≡ 2) → is_choice_long choice ≡ true
is_long choice (inl one) = grind (arith, nat_tests)
is_long choice (inr two) = grind (arith, nat_tests)

pub long_choice : (ws : List (List ℕ)) → (length ws ≡ 13) ⊎ (length ws ≡ 14) → is_choice_long (drop 12 ws) ≡ true
long_choice ws (inl is) = is_long (drop 12 ws) (inl (rw length-drop (omega (arith, is))))
long_choice ws (inr is) = is_long (drop 12 ws) (inr (rw length-drop (omega (arith, is))))

-- the words of a step that has its fixed words and a choice
module _ (s : Sketch) (name joins x y z at a b c keeps kept : List ℕ) (choice : List (List ℕ)) (long : is_choice_long choice ≡ true) (fixed : are_fixed joins at keeps ≡ true) (says : is_none (choice_of choice) ≡ false) where
  abbrev names : List (Bool × Code)
  names = (list_any is_bad_name (name ∷ x ∷ y ∷ z ∷ kept ∷ []), E4) ∷ []

  abbrev corners : List (Bool × Code)
  corners = corner_rows s (a ∷ b ∷ c ∷ [])

  abbrev whole : List (List ℕ)
  whole = name ∷ joins ∷ x ∷ y ∷ z ∷ at ∷ a ∷ b ∷ c ∷ keeps ∷ kept ∷ choice

  by_names : first_code (step_rows s whole) ≡ first_code (names ++ corners)
  by_names = rw (long, fixed, says) refl

  pub bad_names : (code : Code) → first_code names ≡ Some code → first_code (step_rows s whole) ≡ Some code
  bad_names code is = by_names ∙ code_front names corners code is

  pub bad_corners : (code : Code) → first_code names ≡ None → first_code corners ≡ Some code → first_code (step_rows s whole) ≡ Some code
  bad_corners code none is = by_names ∙ (code_behind names corners none ∙ is)

  pub no_code : first_code names ≡ None → first_code corners ≡ None → first_code (step_rows s whole) ≡ None
  no_code none is = by_names ∙ (code_behind names corners none ∙ is)

-- the two last words of fourteen
pub two_last : (ws : List (List ℕ)) (a b : List ℕ) → length ws ≡ 14 → a ≡ get_or ws 12 [] → b ≡ get_or ws 13 [] → drop 12 ws ≡ a ∷ b ∷ []
two_last ws a b long p q =
    take_one ws 12 a _ (omega (arith, long)) p
    (take_one ws 13 b _ (omega (arith, long)) q (drop_all 14 ws (omega (arith, long))))

-- what a reader answers that stops at a code
pub made : {X : Type 0} (code : Option Code) (x y : X) → Ok y ≡ unless code x → (code ≡ None) × (y ≡ x)
made None x y is = (refl, cc)
made (Some c) x y is = cc

pub stopped : {X : Type 0} (code : Option Code) (x : X) (c : Code) → Err c ≡ unless code x → code ≡ Some c
stopped None x c is = cc
stopped (Some d) x c is = cc

pub said : {X : Type 0} (code : Option Code) (x : X) (all : List X) → all ≡ x ∷ [] → MatchResult (unless code x) (λ y. (code ≡ None) × (all ≡ y ∷ [])) (λ c. code ≡ Some c)
said None x all is = (refl, is)
said (Some c) x all is = refl

pub both_said : {X Y : Type 0} (code : Option Code) (x : X) (y : Y) (all : List X) (more : List Y) → all ≡ x ∷ [] → more ≡ y ∷ []
    → MatchResult (unless {X = X × Y} code (x, y)) (λ (both : X × Y). (code ≡ None) × (all ≡ both.0 ∷ []) × (more ≡ both.1 ∷ [])) (λ c. code ≡ Some c)
both_said None x y all more is there = (refl, is, there)
both_said (Some c) x y all more is there = refl

pub some_said : {X : Type 0} (code : Option Code) (x : X) (all : Option X) → all ≡ Some x → MatchResult (unless code x) (λ y. (code ≡ None) × (all ≡ Some y)) (λ c. code ≡ Some c)
some_said None x all is = (refl, is)
some_said (Some c) x all is = refl

-- a code of the name is that of the whole element line
pub refused_name : {X : Type 0} (s : Sketch) (p : Placed) (kind : Figure) (name : List ℕ) (numbers : List (List ℕ)) (made : X) (r : Result X Code) (code : Code) → IsErr r × IsErrAnd r (λ x. x ≡ code)
    → not (length numbers == length (limits_of kind)) ≡ false → first_code (name_rows s kind name) ≡ Some code → r ≡ unless (first_code (element_rows s p kind (name ∷ numbers))) made
refused_name s p kind name numbers made r code refused count is =
    let whole : first_code (element_rows s p kind (name ∷ numbers)) ≡ Some code = rw count (code_front (name_rows s kind name) ((list_any is_bad_whole (zip (limits_of kind) numbers), E8) ∷ (is_placed s p name, E5) ∷ []) code is) in
    err_is r code refused ∙ sym (ap (λ (o : Option Code). unless o made) whole)
