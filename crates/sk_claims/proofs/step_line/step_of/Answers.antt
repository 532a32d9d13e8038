use Rattle.std.proofs.Common.{◌≡◌, ◌⊎◌, inl, inr, ◌<◌, ◌∙◌, true, Some, is_none, sym, ap, map, length, drop, arith, refl}
use Rattle.std.proofs.lemmas.Bool.Decides.{nat_tests}
use Rattle.std.proofs.lemmas.List.{length-map}
use Rattle.sk_lines.specs.Words.{bytes_of}
use Rattle.sk_claims.proofs.step_line.step_of.Goals as goal
use Rattle.sk_claims.proofs.StepWords.{behind_step, long_choice, bad_names, bad_corners, no_code, made, stopped}
use Rattle.sk_claims.proofs.step_line.step_of.Goals.{else-words-ne13-via-then-words-ne13+else-words-ne14, else-words-ne13-via-else-words-ne13}
use Rattle.sk_claims.specs.ClaimLines.{are_fixed, choice_of}
use Rattle.sk_base.proofs.Results.{err_is}

pub returns-in_err-joining : goal.returns-in_err-joining
returns-in_err-joining c =
    let ws = map (bytes_of c.args.line.now) c.args.words.now in
    let same = length-map c.args.words.now (bytes_of c.args.line.now) in
    let two : (length ws ≡ 13) ⊎ (length ws ≡ 14) = elim c.else-words-ne13.branch [
      | else-words-ne13-via-then-words-ne13+else-words-ne14 w ↦ inr (omega (arith, same, w.if-words-ne14))
      | else-words-ne13-via-else-words-ne13 w ↦ inl (omega (arith, same, w.if-words-ne13))
    ] in
    let many : 11 < length ws = elim two [ inl is ↦ omega (arith, is) | inr is ↦ omega (arith, is) ] in
    let rest = behind_step ws c.word-name.result.now c.word-joins.result.now c.word-x.result.now c.word-y.result.now c.word-z.result.now c.word-at.result.now c.word-a.result.now c.word-b.result.now c.word-c.result.now c.word-keeps.result.now c.word-kept.result.now
    many c.word-name.ensures c.word-joins.ensures c.word-x.ensures c.word-y.ensures c.word-z.ensures c.word-at.ensures c.word-a.ensures c.word-b.ensures c.word-c.ensures c.word-keeps.ensures c.word-kept.ensures in
    let long = long_choice ws two in
    let fixed : are_fixed c.word-joins.result.now c.word-at.result.now c.word-keeps.result.now ≡ true = grind (arith, nat_tests, c.are_fixed.ensures, c.if-not-are_fixed.false) in
    let choice : choice_of (drop 12 ws) ≡ Some c.in-Some.choice = sym c.choice_said.ensures ∙ c.in-Some.is in
    let says = ap (λ o. is_none o) choice in
    rw (err_is c.from_residual.result c.in_err-joining.field-0.0 c.from_residual.ensures)
    (rw rest (bad_names c.args.s.now c.word-name.result.now c.word-joins.result.now c.word-x.result.now c.word-y.result.now c.word-z.result.now c.word-at.result.now c.word-a.result.now c.word-b.result.now c.word-c.result.now c.word-keeps.result.now c.word-kept.result.now (drop 12 ws) long fixed says c.in_err-joining.field-0.0 (stopped _ _ _ (sym c.in_err-joining.was ∙ c.joining_of.ensures))))

pub returns-in_err-corners : goal.returns-in_err-corners
returns-in_err-corners c =
    let ws = map (bytes_of c.args.line.now) c.args.words.now in
    let same = length-map c.args.words.now (bytes_of c.args.line.now) in
    let two : (length ws ≡ 13) ⊎ (length ws ≡ 14) = elim c.else-words-ne13.branch [
      | else-words-ne13-via-then-words-ne13+else-words-ne14 w ↦ inr (omega (arith, same, w.if-words-ne14))
      | else-words-ne13-via-else-words-ne13 w ↦ inl (omega (arith, same, w.if-words-ne13))
    ] in
    let many : 11 < length ws = elim two [ inl is ↦ omega (arith, is) | inr is ↦ omega (arith, is) ] in
    let rest = behind_step ws c.word-name.result.now c.word-joins.result.now c.word-x.result.now c.word-y.result.now c.word-z.result.now c.word-at.result.now c.word-a.result.now c.word-b.result.now c.word-c.result.now c.word-keeps.result.now c.word-kept.result.now
    many c.word-name.ensures c.word-joins.ensures c.word-x.ensures c.word-y.ensures c.word-z.ensures c.word-at.ensures c.word-a.ensures c.word-b.ensures c.word-c.ensures c.word-keeps.ensures c.word-kept.ensures in
    let long = long_choice ws two in
    let fixed : are_fixed c.word-joins.result.now c.word-at.result.now c.word-keeps.result.now ≡ true = grind (arith, nat_tests, c.are_fixed.ensures, c.if-not-are_fixed.false) in
    let choice : choice_of (drop 12 ws) ≡ Some c.in-Some.choice = sym c.choice_said.ensures ∙ c.in-Some.is in
    let says = ap (λ o. is_none o) choice in
    let names = made _ _ _ (sym c.in_ok-joining.was ∙ c.joining_of.ensures) in
    rw (err_is c.from_residual-in_err-corners.result c.in_err-corners.field-0.0 c.from_residual-in_err-corners.ensures)
    (rw rest (bad_corners c.args.s.now c.word-name.result.now c.word-joins.result.now c.word-x.result.now c.word-y.result.now c.word-z.result.now c.word-at.result.now c.word-a.result.now c.word-b.result.now c.word-c.result.now c.word-keeps.result.now c.word-kept.result.now (drop 12 ws) long fixed says c.in_err-corners.field-0.0 names.0 (stopped _ _ _ (sym c.in_err-corners.was ∙ c.corners_of.ensures))))

pub returns : goal.returns
returns c =
    let ws = map (bytes_of c.args.line.now) c.args.words.now in
    let same = length-map c.args.words.now (bytes_of c.args.line.now) in
    let two : (length ws ≡ 13) ⊎ (length ws ≡ 14) = elim c.else-words-ne13.branch [
      | else-words-ne13-via-then-words-ne13+else-words-ne14 w ↦ inr (omega (arith, same, w.if-words-ne14))
      | else-words-ne13-via-else-words-ne13 w ↦ inl (omega (arith, same, w.if-words-ne13))
    ] in
    let many : 11 < length ws = elim two [ inl is ↦ omega (arith, is) | inr is ↦ omega (arith, is) ] in
    let rest = behind_step ws c.word-name.result.now c.word-joins.result.now c.word-x.result.now c.word-y.result.now c.word-z.result.now c.word-at.result.now c.word-a.result.now c.word-b.result.now c.word-c.result.now c.word-keeps.result.now c.word-kept.result.now
    many c.word-name.ensures c.word-joins.ensures c.word-x.ensures c.word-y.ensures c.word-z.ensures c.word-at.ensures c.word-a.ensures c.word-b.ensures c.word-c.ensures c.word-keeps.ensures c.word-kept.ensures in
    let long = long_choice ws two in
    let fixed : are_fixed c.word-joins.result.now c.word-at.result.now c.word-keeps.result.now ≡ true = grind (arith, nat_tests, c.are_fixed.ensures, c.if-not-are_fixed.false) in
    let choice : choice_of (drop 12 ws) ≡ Some c.in-Some.choice = sym c.choice_said.ensures ∙ c.in-Some.is in
    let says = ap (λ o. is_none o) choice in
    let names = made _ _ _ (sym c.in_ok-joining.was ∙ c.joining_of.ensures) in
    let at = made _ _ _ (sym c.in_ok-corners.was ∙ c.corners_of.ensures) in
    rw rest (no_code c.args.s.now c.word-name.result.now c.word-joins.result.now c.word-x.result.now c.word-y.result.now c.word-z.result.now c.word-at.result.now c.word-a.result.now c.word-b.result.now c.word-c.result.now c.word-keeps.result.now c.word-kept.result.now (drop 12 ws) long fixed says names.0 at.0, rw (choice, c.step_at.ensures, names.1, at.1) refl)
