-- Room for the replies that are still to come.
use Rattle.std.proofs.Common.{◌≡◌, ℕ, ◌+◌, ◌<◌, ◌≤◌, false, List, [], ◌∷◌, ◌++◌, length, take, sym, ap, subst, ◌∙◌, arith, append_assoc, append-nil, length-append}
use Rattle.std.specs.Prelude.{All}
use Rattle.sk_lines.specs.Lines.{is_line_feed, lines_in}
use Rattle.sk_live_lines.specs.Heard.{HasHeard, HasRoom, AreWithin, KeepsRoom, IsRoomy}
use Rattle.sk_live_lines.proofs.Hearings.{LongAlike, heard_part, heard_line, said_is, some_so_far}
use Rattle.sk_live_lines.proofs.TurnEnds.{finished_answered}

module _ {X : Type 0} (replies : X → List ℕ → X → List ℕ → Type 0) (ends : X → List ℕ → Type 0) where
  -- a text of replies has no more bytes than there may be
  so_far_within : (first : X) (taken kept : List ℕ) (now : X) (text rest : List ℕ) (most : ℕ) → length taken ≤ 4294967295 → AreWithin replies first (taken ++ rest) most → HasHeard replies first taken kept now text → length text ≤ most
  so_far_within first taken kept now text rest most fits within at = within text (some_so_far replies ends first taken kept now text rest at fits)

  pub room_same : (kept : List ℕ) (now : X) (room : ℕ) → KeepsRoom replies kept now room kept now room []
  room_same kept now room first taken rest most fits within (text, at, enough) = (text, subst (λ (z : List ℕ). HasHeard replies first z kept now text) (sym (append-nil taken)) at, enough)

  pub room_part : (kept : List ℕ) (now : X) (room : ℕ) (bytes : List ℕ) → All (λ b. is_line_feed b ≡ false) bytes → KeepsRoom replies kept now room (take 202 (kept ++ bytes)) now room bytes
  room_part kept now room bytes solid first taken rest most fits within (text, at, enough) = (text, heard_part replies first taken kept now text bytes at solid, enough)

  -- the reply to a line that has come to its end fits
  fits_at : LongAlike replies → (kept : List ℕ) (old new : X) (room : ℕ) (front heard said more : List ℕ) (others : List (List ℕ)) → All (λ b. is_line_feed b ≡ false) front
      → heard ≡ take 202 (kept ++ front) ++ 10 ∷ [] → lines_in heard ≡ said ∷ others → replies old said new more
      → (first : X) (taken rest : List ℕ) (most : ℕ) → length (taken ++ (front ++ 10 ∷ [])) ≤ 4294967295 → AreWithin replies first (taken ++ ((front ++ 10 ∷ []) ++ rest)) most → (text : List ℕ) → HasHeard replies first taken kept old text
      → HasHeard replies first (taken ++ (front ++ 10 ∷ [])) [] new (text ++ more) × (length text + length more ≤ most)
  fits_at alike kept old new room front heard said more others solid heard_is lines_are replied first taken rest most fits within text at =
      let next = heard_line replies alike first taken kept old new text more front at solid (subst (λ (z : List ℕ). replies old z new more) (said_is replies first taken kept old text front heard said others at solid heard_is lines_are) replied) in
      let few = so_far_within first (taken ++ (front ++ 10 ∷ [])) [] new (text ++ more) rest most fits (subst (λ (z : List ℕ). AreWithin replies first z most) (sym (append_assoc taken (front ++ 10 ∷ []) rest)) within) next in
      let sum = length-append text more in
      (next, omega (arith, few, sum))

  pub room_answered : LongAlike replies → (kept : List ℕ) (old new : X) (room left : ℕ) (front heard said more : List ℕ) (others : List (List ℕ)) → All (λ b. is_line_feed b ≡ false) front
      → heard ≡ take 202 (kept ++ front) ++ 10 ∷ [] → lines_in heard ≡ said ∷ others → replies old said new more → (length more ≤ room → room ≤ left + length more) → KeepsRoom replies kept old room [] new left (front ++ 10 ∷ [])
  room_answered alike kept old new room left front heard said more others solid heard_is lines_are replied keeps first taken rest most fits within (text, at, enough) =
      let (next, few) = fits_at alike kept old new room front heard said more others solid heard_is lines_are replied first taken rest most fits within text at in
      let still = keeps (omega (arith, few, enough)) in
      let sum = length-append text more in
      (text ++ more, next, omega (arith, still, enough, sum))

  pub reply_fits : LongAlike replies → (kept : List ℕ) (old new : X) (room : ℕ) (bytes front after heard said more : List ℕ) (others : List (List ℕ)) → bytes ≡ (front ++ 10 ∷ []) ++ after → All (λ b. is_line_feed b ≡ false) front
      → heard ≡ take 202 (kept ++ front) ++ 10 ∷ [] → lines_in heard ≡ said ∷ others → replies old said new more → IsRoomy replies kept old room bytes → length more ≤ room
  reply_fits alike kept old new room bytes front after heard said more others cut solid heard_is lines_are replied (first, taken, rest, most, fits, within, (text, at, enough)) =
      let size = ap length cut in
      let bytes_sum = length-append (front ++ 10 ∷ []) after in
      let all_sum = length-append taken bytes in
      let front_sum = length-append taken (front ++ 10 ∷ []) in
      let whole : taken ++ (bytes ++ rest) ≡ taken ++ ((front ++ 10 ∷ []) ++ (after ++ rest)) = ap (λ (z : List ℕ). taken ++ (z ++ rest)) cut ∙ ap (λ (z : List ℕ). taken ++ z) (append_assoc (front ++ 10 ∷ []) after rest) in
      let both = fits_at alike kept old new room front heard said more others solid heard_is lines_are replied first taken (after ++ rest) most (omega (arith, size, bytes_sum, all_sum, front_sum, fits))
      (subst (λ (z : List ℕ). AreWithin replies first z most) whole within) text at in
      let few = both.1 in
      omega (arith, few, enough)

  -- the reply to the last line, which has no line feed, fits
  pub last_fits : LongAlike replies → (kept : List ℕ) (old new : X) (room : ℕ) (heard said more : List ℕ) (others : List (List ℕ)) → heard ≡ kept → 0 < length kept → lines_in heard ≡ said ∷ others → replies old said new more
      → (first : X) (taken : List ℕ) (most : ℕ) → length taken ≤ 4294967295 → AreWithin replies first taken most → HasRoom replies first taken kept old most room → length more ≤ room
  last_fits alike kept old new room heard said more others heard_is some lines_are replied first taken most fits within (text, at, enough) =
      let few = within (text ++ more) (finished_answered replies ends first taken kept old text at alike fits heard said more others new heard_is some lines_are replied).0 in
      let sum = length-append text more in
      omega (arith, few, sum, enough)

  -- one after another
  pub room_more : (kept here_kept new_kept : List ℕ) (old here new : X) (room mid left : ℕ) (xs ys : List ℕ)
      → KeepsRoom replies kept old room here_kept here mid xs → KeepsRoom replies here_kept here mid new_kept new left ys → KeepsRoom replies kept old room new_kept new left (xs ++ ys)
  room_more kept here_kept new_kept old here new room mid left xs ys one two first taken rest most fits within has =
      let sum = length-append taken (xs ++ ys) in
      let parts = length-append xs ys in
      let front = length-append taken xs in
      let whole : taken ++ ((xs ++ ys) ++ rest) ≡ taken ++ (xs ++ (ys ++ rest)) = ap (λ (z : List ℕ). taken ++ z) (append_assoc xs ys rest) in
      let here_has = one first taken (ys ++ rest) most (omega (arith, sum, parts, front, fits)) (subst (λ (z : List ℕ). AreWithin replies first z most) whole within) has in
      subst (λ (z : List ℕ). HasRoom replies first z new_kept new most left) (append_assoc taken xs ys)
      (two first (taken ++ xs) rest most (subst (λ (z : List ℕ). length z ≤ 4294967295) (sym (append_assoc taken xs ys)) fits)
      (subst (λ (z : List ℕ). AreWithin replies first z most) (whole ∙ sym (append_assoc taken xs (ys ++ rest))) within) here_has)

  pub roomy_behind : (kept here_kept : List ℕ) (old here : X) (room mid : ℕ) (xs ys : List ℕ) → KeepsRoom replies kept old room here_kept here mid xs → IsRoomy replies kept old room (xs ++ ys) → IsRoomy replies here_kept here mid ys
  roomy_behind kept here_kept old here room mid xs ys one (first, taken, rest, most, fits, within, has) =
      let sum = length-append taken (xs ++ ys) in
      let parts = length-append xs ys in
      let front = length-append taken xs in
      let whole : taken ++ ((xs ++ ys) ++ rest) ≡ taken ++ (xs ++ (ys ++ rest)) = ap (λ (z : List ℕ). taken ++ z) (append_assoc xs ys rest) in (
        first,
        taken ++ xs,
        rest,
        most,
        subst (λ (z : List ℕ). length z ≤ 4294967295) (sym (append_assoc taken xs ys)) fits,
        subst (λ (z : List ℕ). AreWithin replies first z most) (whole ∙ sym (append_assoc taken xs (ys ++ rest))) within,
        one first taken (ys ++ rest) most (omega (arith, sum, parts, front, fits)) (subst (λ (z : List ℕ). AreWithin replies first z most) whole within) has,
      )

  -- a piece was taken, and there is room for all replies
  pub roomy_turn : (kept : List ℕ) (now : X) (room : ℕ) (first : X) (taken piece rest : List ℕ) (most : ℕ) → length (taken ++ piece) ≤ 4294967295 → HasRoom replies first taken kept now most room → AreWithin replies first (taken ++ (piece ++ rest)) most
      → IsRoomy replies kept now room piece
  roomy_turn kept now room first taken piece rest most fits has within = (first, taken, rest, most, fits, within, has)
