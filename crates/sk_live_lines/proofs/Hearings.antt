-- What is heard, byte by byte and line by line.
use Rattle.std.proofs.Common.{◌≡◌, ◌==◌, ℕ, ◌+◌, ◌<◌, ◌≤◌, ◌-◌, Bool, true, false, List, [], ◌∷◌, ◌++◌, length, take, map, refl, sym, ap, subst, ◌∙◌, arith, inl, inr, None, Some, Option, append_assoc, append-nil, length-append}
use Rattle.std.specs.Prelude.{All, if◌then◌else◌, slice_index}
use Rattle.std.specs.Str.Lines.{strip_carriage_return}
use Rattle.std.specs.Io.KnownBytes.{Appends}
use Rattle.std.proofs.lemmas.Bool.{cases_lt}
use Rattle.std.proofs.lemmas.List.{take_all, take-append-le, length-take-le}
use Rattle.std.proofs.lemmas.List.Elements.{All-append, All-nil, All-take}
use Rattle.std.proofs.lemmas.List.Splits.{slice_split_at}
use Rattle.std.proofs.Math.Seq.{take-append-add}
use Rattle.sk_io.proofs.Moved.{Appends-more}
use Rattle.sk_lines.specs.Lines.{is_line_feed, without_empty_end, lines_in, EndsLine}
use Rattle.sk_lines.proofs.WholeLines.{lines_in-append}
use Rattle.sk_live_lines.specs.declared.ending.TurnEnd.{TurnEnd}
use Rattle.sk_live_lines.specs.declared.ending.TurnEnd.TheVariants.{Done, WriteFault, NoMemory}
use Rattle.sk_live_lines.specs.Answering.{AreAnswered, AnswersSome, EndsAtLine, Ends}
use Rattle.sk_live_lines.specs.Heard.{HasHeard, GoesOn, EndsHeard, EndsAmong, Stops}
use Rattle.sk_live_lines.specs.InTime.{in_time}
use Rattle.sk_live_lines.proofs.InTimes.{first_in_time}

-- a front of a front, and more behind it
pub take_twice : (n : ℕ) (xs ys : List ℕ) → take n (take n xs ++ ys) ≡ take n (xs ++ ys)
take_twice n xs ys =
    elim (cases_lt n (length xs)) [
      | inl more ↦ (
          let long : length (take n xs) ≡ n = length-take-le n xs (omega (arith, more)) in
          take-append-le n (take n xs) ys (omega (arith, long)) ∙ take_all n (take n xs) (omega (arith, long)) ∙ sym (take-append-le n xs ys (omega (arith, more))))
      | inr few ↦ ap (λ (zs : List ℕ). take n (zs ++ ys)) (take_all n xs few)
    ]

strip_shorter : (line : List ℕ) → length line ≤ length (strip_carriage_return line) + 1
strip_shorter line = by (slice_index line (length line - 1) == 13)
  where
    by : (t : Bool) → length line ≤ length (if t then take (length line - 1) line else line) + 1
    by true = let fewer = length-take-le (length line - 1) line (omega arith) in omega (arith, fewer)
    by false = omega arith

-- one line with its line feed
ended_alone : (line : List ℕ) → All (λ b. is_line_feed b ≡ false) line → lines_in (line ++ 10 ∷ []) ≡ strip_carriage_return line ∷ []
ended_alone line solid = ap (λ (parts : List (List ℕ)). map strip_carriage_return (without_empty_end parts)) (slice_split_at is_line_feed line 10 [] solid refl)

module _ {X : Type 0} (replies : X → List ℕ → X → List ℕ → Type 0) where
  -- one more line is answered
  pub answered_more : (old : X) (before : List (List ℕ)) (mid : X) (text : List ℕ) → AreAnswered replies old before mid text
      → (line : List ℕ) (new : X) (more : List ℕ) → replies mid line new more → AreAnswered replies old (before ++ line ∷ []) new (text ++ more)
  answered_more old [] mid text (mid_is, text_is) line new more replied =
      (new, more, [], subst (λ (z : X). replies z line new more) mid_is replied, (refl, refl), ap (λ (front : List ℕ). front ++ more) text_is ∙ sym (append-nil more))
  answered_more old (first ∷ before) mid text (next, said, rest, here, further, text_is) line new more replied =
      (next, said, rest ++ more, here, answered_more next before mid rest further line new more replied, ap (λ (front : List ℕ). front ++ more) text_is ∙ append_assoc said rest more)

  -- bytes without a line feed are a part of the line that is being heard
  pub heard_part : (first : X) (taken kept : List ℕ) (now : X) (text bytes : List ℕ) → HasHeard replies first taken kept now text → All (λ b. is_line_feed b ≡ false) bytes
      → HasHeard replies first (taken ++ bytes) (take 202 (kept ++ bytes)) now text
  heard_part first taken kept now text bytes at solid = record {
    lines = at.lines;
    line = at.line ++ bytes;
    cut = ap (λ (z : List ℕ). z ++ bytes) at.cut ∙ append_assoc at.lines at.line bytes;
    whole = at.whole;
    solid = All-append (λ b. is_line_feed b ≡ false) at.line bytes at.solid solid;
    kept_is = ap (λ (z : List ℕ). take 202 (z ++ bytes)) at.kept_is ∙ take_twice 202 at.line bytes;
    answered = at.answered;
  }

  -- lines of more than 200 bytes are all answered alike
  abbrev pub LongAlike : Type 0
  LongAlike = (old new : X) (line other text : List ℕ) → 200 < length line → 200 < length other → replies old line new text → replies old other new text

  -- what is kept of a line is answered as the line
  pub kept_answered : LongAlike → (old new : X) (line text : List ℕ) → replies old (strip_carriage_return (take 202 line)) new text → replies old (strip_carriage_return line) new text
  kept_answered alike old new line text replied =
      elim (cases_lt 202 (length line)) [
        | inl more ↦ (
            let size = length-take-le 202 line (omega (arith, more)) in
            let one = strip_shorter (take 202 line) in
            let other = strip_shorter line in
            alike old new (strip_carriage_return (take 202 line)) (strip_carriage_return line) text (omega (arith, one, size)) (omega (arith, other, more)) replied)
        | inr few ↦ subst (λ (z : List ℕ). replies old (strip_carriage_return z) new text) (take_all 202 line few) replied
      ]

  -- lines and the next one
  line_behind : (lines line : List ℕ) → EndsLine lines → All (λ b. is_line_feed b ≡ false) line → lines_in (lines ++ (line ++ 10 ∷ [])) ≡ lines_in lines ++ strip_carriage_return line ∷ []
  line_behind lines line whole solid =
      lines_in-append lines (line ++ 10 ∷ []) whole
      ∙ ap (λ (ls : List (List ℕ)). lines_in lines ++ ls) (ended_alone line solid)

  -- a line that has come to its end is answered
  pub heard_line : LongAlike → (first : X) (taken kept : List ℕ) (now new : X) (text more bytes : List ℕ) → HasHeard replies first taken kept now text → All (λ b. is_line_feed b ≡ false) bytes
      → replies now (strip_carriage_return (take 202 (kept ++ bytes))) new more → HasHeard replies first (taken ++ (bytes ++ 10 ∷ [])) [] new (text ++ more)
  heard_line alike first taken kept now new text more bytes at solid replied =
      let line = at.line ++ bytes in
      let kept_is : take 202 (kept ++ bytes) ≡ take 202 line = ap (λ (z : List ℕ). take 202 (z ++ bytes)) at.kept_is ∙ take_twice 202 at.line bytes in
      let true_reply = kept_answered alike now new line more (subst (λ (z : List ℕ). replies now (strip_carriage_return z) new more) kept_is replied) in
      let all_solid = All-append (λ b. is_line_feed b ≡ false) at.line bytes at.solid solid in
      record {
        lines = at.lines ++ (line ++ 10 ∷ []);
        line = [];
        cut =
            ap (λ (z : List ℕ). z ++ (bytes ++ 10 ∷ [])) at.cut
            ∙ append_assoc at.lines at.line (bytes ++ 10 ∷ [])
            ∙ ap (λ (z : List ℕ). at.lines ++ z) (sym (append_assoc at.line bytes (10 ∷ [])))
            ∙ sym (append-nil (at.lines ++ (line ++ 10 ∷ [])));
        whole = inr (at.lines ++ line, sym (append_assoc at.lines line (10 ∷ [])));
        solid = All-nil (λ b. is_line_feed b ≡ false);
        kept_is = refl;
        answered = subst (λ (ls : List (List ℕ)). AreAnswered replies first ls new (text ++ more)) (sym (line_behind at.lines line at.whole all_solid))
            (answered_more first (lines_in at.lines) now text at.answered (strip_carriage_return line) new more true_reply);
      }

  -- the line that is cut off what is kept, with its line feed
  pub said_is : (first : X) (taken kept : List ℕ) (now : X) (text front bytes said : List ℕ) (rest : List (List ℕ)) → HasHeard replies first taken kept now text → All (λ b. is_line_feed b ≡ false) front
      → bytes ≡ take 202 (kept ++ front) ++ 10 ∷ [] → lines_in bytes ≡ said ∷ rest → said ≡ strip_carriage_return (take 202 (kept ++ front))
  said_is first taken kept now text front bytes said rest at solid bytes_are lines_are =
      let kept_solid : All (λ b. is_line_feed b ≡ false) kept = subst (λ (z : List ℕ). All (λ b. is_line_feed b ≡ false) z) (sym at.kept_is) (All-take (λ b. is_line_feed b ≡ false) 202 at.line at.solid) in
      let alone = ended_alone (take 202 (kept ++ front)) (All-take (λ b. is_line_feed b ≡ false) 202 (kept ++ front) (All-append (λ b. is_line_feed b ≡ false) kept front kept_solid solid)) in
      let same : said ∷ rest ≡ strip_carriage_return (take 202 (kept ++ front)) ∷ [] = sym lines_are ∙ ap lines_in bytes_are ∙ alone in
      cc

  -- a line that has come to its end is answered, and the reply was gained
  pub answered_at : LongAlike → (kept : List ℕ) (old new : X) (before now : Option (List ℕ)) (front bytes said text : List ℕ) (rest : List (List ℕ)) → All (λ b. is_line_feed b ≡ false) front
      → bytes ≡ take 202 (kept ++ front) ++ 10 ∷ [] → lines_in bytes ≡ said ∷ rest → replies old said new text → Appends before now text → GoesOn replies kept old before [] new now (front ++ 10 ∷ [])
  answered_at alike kept old new before now front bytes said more rest solid bytes_are lines_are replied appended first taken text at = (
    more,
    appended,
    heard_line alike first taken kept old new text more front at solid
        (subst (λ (z : List ℕ). replies old z new more) (said_is first taken kept old text front bytes said rest at solid bytes_are lines_are) replied),
  )

  -- nothing more was gained
  pub part_heard : (kept : List ℕ) (now : X) (before gained : Option (List ℕ)) (bytes : List ℕ) → All (λ b. is_line_feed b ≡ false) bytes → Appends before gained [] → GoesOn replies kept now before (take 202 (kept ++ bytes)) now gained bytes
  part_heard kept now before gained bytes solid none first taken text at =
      ([], none, subst (λ (z : List ℕ). HasHeard replies first (taken ++ bytes) (take 202 (kept ++ bytes)) now z) (sym (append-nil text)) (heard_part first taken kept now text bytes at solid))

  -- nothing more was gained, and nothing was taken
  pub same_heard : (first : X) (taken kept : List ℕ) (now : X) (text : List ℕ) → HasHeard replies first taken kept now text → HasHeard replies first (taken ++ []) kept now (text ++ [])
  same_heard first taken kept now text at =
      subst (λ (z : List ℕ). HasHeard replies first z kept now (text ++ [])) (sym (append-nil taken)) (subst (λ (z : List ℕ). HasHeard replies first taken kept now z) (sym (append-nil text)) at)

nothing_gained : (a : Option (List ℕ)) → Appends a a []
nothing_gained None = tt
nothing_gained (Some xs) = sym (append-nil xs)

module _ {X : Type 0} (replies : X → List ℕ → X → List ℕ → Type 0) (ends : X → List ℕ → Type 0) where
  -- no line of more than 200 bytes ends it
  abbrev pub LongGoesOn : Type 0
  LongGoesOn = (state : X) (line : List ℕ) → ends state line → length line ≤ 200

  -- what is kept of a line ends it as the line does
  kept_ends : LongGoesOn → (now : X) (line : List ℕ) → ends now (strip_carriage_return (take 202 line)) → ends now (strip_carriage_return line)
  kept_ends short now line is =
      elim (cases_lt 202 (length line)) [
        | inl more ↦ absurd (
            let size = length-take-le 202 line (omega (arith, more)) in
            let one = strip_shorter (take 202 line) in
            let few = short now (strip_carriage_return (take 202 line)) is in
            omega (arith, one, size, few))
        | inr few ↦ subst (λ (z : List ℕ). ends now (strip_carriage_return z)) (take_all 202 line few) is
      ]

  -- the lines that are whole are those answered so far
  pub some_so_far : (first : X) (taken kept : List ℕ) (now : X) (text rest : List ℕ) → HasHeard replies first taken kept now text → length taken ≤ 4294967295 → AnswersSome replies first (lines_in (in_time (taken ++ rest))) text
  some_so_far first taken kept now text rest at fits =
      let size = ap length at.cut in
      let sum = length-append at.lines at.line in
      let others = first_in_time (taken ++ rest) at.lines (at.line ++ rest) (ap (λ (z : List ℕ). z ++ rest) at.cut ∙ append_assoc at.lines at.line rest) at.whole (omega (arith, size, sum, fits)) in
      record { before = lines_in at.lines; after = others.0; parts = others.1; now = now; answered = at.answered }

  -- how it ends at a line behind the lines that are whole
  pub stopped_at : LongAlike replies → LongGoesOn → (first : X) (taken kept : List ℕ) (now : X) (text : List ℕ) (at : HasHeard replies first taken kept now text) (line bytes : List ℕ) (behind : List (List ℕ))
      → lines_in (in_time bytes) ≡ lines_in at.lines ++ strip_carriage_return line ∷ behind → (before gained : Option (List ℕ)) (end : TurnEnd) → Stops replies ends now (strip_carriage_return (take 202 line)) before gained end
      → (more : List ℕ) × Appends before gained more × Ends replies ends first bytes end (text ++ more)
  stopped_at alike short first taken kept now text at line bytes behind parts before gained Done (is, none) = (
    [],
    none,
    (
      record { before = lines_in at.lines; after = strip_carriage_return line ∷ behind; parts = parts; now = now; answered = subst (λ (z : List ℕ). AreAnswered replies first (lines_in at.lines) now z) (sym (append-nil text)) at.answered },
      kept_ends short now line is,
      λ same. cc,
    ),
  )
  stopped_at alike short first taken kept now text at line bytes behind parts before gained NoMemory none = (
    [],
    none,
    record { before = lines_in at.lines; after = strip_carriage_return line ∷ behind; parts = parts; now = now; answered = subst (λ (z : List ℕ). AreAnswered replies first (lines_in at.lines) now z) (sym (append-nil text)) at.answered },
  )
  stopped_at alike short first taken kept now text at line bytes behind parts before gained WriteFault (new, said, replied, (n, within, front)) =
      let sum = length-append text said in (
        take n said,
        front,
        (
          text ++ said,
          length text + n,
          record {
            before = lines_in at.lines ++ strip_carriage_return line ∷ [];
            after = behind;
            parts = parts ∙ sym (append_assoc (lines_in at.lines) (strip_carriage_return line ∷ []) behind);
            now = new;
            answered = answered_more replies first (lines_in at.lines) now text at.answered (strip_carriage_return line) new said (kept_answered replies alike now new line said replied);
          },
          omega (arith, sum, within),
          sym (take-append-add text said n),
        ),
      )
  stopped_at alike short first taken kept now text at line bytes behind parts before gained end stops = absurd stops

  -- want of memory
  pub out_of_memory : (kept : List ℕ) (now : X) (before gained : Option (List ℕ)) (bytes : List ℕ) → Appends before gained [] → EndsHeard replies ends kept now before gained bytes NoMemory
  out_of_memory kept now before gained bytes none first taken text rest at fits =
      let sum = length-append taken bytes in (
        [],
        none,
        subst (λ (z : List ℕ). AnswersSome replies first (lines_in (in_time (taken ++ (bytes ++ rest)))) z) (sym (append-nil text)) (some_so_far first taken kept now text (bytes ++ rest) at (omega (arith, sum, fits))),
      )

  -- how it ends at a line that has come to its end
  pub ended_at : LongAlike replies → LongGoesOn → (kept : List ℕ) (now : X) (before gained : Option (List ℕ)) (bytes front after : List ℕ) → bytes ≡ (front ++ 10 ∷ []) ++ after → All (λ b. is_line_feed b ≡ false) front
      → (heard said : List ℕ) (others : List (List ℕ)) → heard ≡ take 202 (kept ++ front) ++ 10 ∷ [] → lines_in heard ≡ said ∷ others
      → (end : TurnEnd) → Stops replies ends now said before gained end → EndsHeard replies ends kept now before gained bytes end
  ended_at alike short kept now before gained bytes front after cut solid heard said more heard_is lines_are end said_stops first taken text rest at fits =
      let stops = subst (λ (z : List ℕ). Stops replies ends now z before gained end) (said_is replies first taken kept now text front heard said more at solid heard_is lines_are) said_stops in
      let line = at.line ++ front in
      let kept_is : take 202 (kept ++ front) ≡ take 202 line = ap (λ (z : List ℕ). take 202 (z ++ front)) at.kept_is ∙ take_twice 202 at.line front in
      let all_solid = All-append (λ b. is_line_feed b ≡ false) at.line front at.solid solid in
      let whole : taken ++ (bytes ++ rest) ≡ (at.lines ++ (line ++ 10 ∷ [])) ++ (after ++ rest) =
      ap (λ (z : List ℕ). taken ++ (z ++ rest)) cut
      ∙ ap (λ (z : List ℕ). taken ++ z) (append_assoc (front ++ 10 ∷ []) after rest)
      ∙ ap (λ (z : List ℕ). z ++ ((front ++ 10 ∷ []) ++ (after ++ rest))) at.cut
      ∙ append_assoc at.lines at.line ((front ++ 10 ∷ []) ++ (after ++ rest))
      ∙ ap (λ (z : List ℕ). at.lines ++ z) (sym (append_assoc at.line (front ++ 10 ∷ []) (after ++ rest)) ∙ ap (λ (z : List ℕ). z ++ (after ++ rest)) (sym (append_assoc at.line front (10 ∷ []))))
      ∙ sym (append_assoc at.lines (line ++ 10 ∷ []) (after ++ rest)) in
      let taken_size = ap length at.cut in
      let taken_sum = length-append at.lines at.line in
      let all_sum = length-append taken bytes in
      let bytes_size = ap length cut in
      let bytes_sum = length-append (front ++ 10 ∷ []) after in
      let front_sum = length-append front (10 ∷ []) in
      let line_sum = length-append at.line front in
      let line_end = length-append line (10 ∷ []) in
      let lines_end = length-append at.lines (line ++ 10 ∷ []) in
      let others = first_in_time (taken ++ (bytes ++ rest)) (at.lines ++ (line ++ 10 ∷ [])) (after ++ rest) whole (inr (at.lines ++ line, sym (append_assoc at.lines line (10 ∷ []))))
      (omega (arith, taken_size, taken_sum, all_sum, bytes_size, bytes_sum, front_sum, line_sum, line_end, lines_end, fits)) in
      let parts : lines_in (in_time (taken ++ (bytes ++ rest))) ≡ lines_in at.lines ++ strip_carriage_return line ∷ others.0 =
      others.1 ∙ ap (λ (ls : List (List ℕ)). ls ++ others.0) (line_behind replies at.lines line at.whole all_solid) ∙ append_assoc (lines_in at.lines) (strip_carriage_return line ∷ []) others.0 in
      stopped_at alike short first taken kept now text at line (taken ++ (bytes ++ rest)) others.0 parts before gained end (subst (λ (z : List ℕ). Stops replies ends now (strip_carriage_return z) before gained end) kept_is stops)

  -- one after another
  pub goes_on_more : (kept here_kept new_kept : List ℕ) (old here new : X) (before mid now : Option (List ℕ)) (xs ys : List ℕ)
      → GoesOn replies kept old before here_kept here mid xs → GoesOn replies here_kept here mid new_kept new now ys → GoesOn replies kept old before new_kept new now (xs ++ ys)
  goes_on_more kept here_kept new_kept old here new before mid now xs ys one two first taken text at =
      let (more, appended, heard) = one first taken text at in
      let (further, appended', heard') = two first (taken ++ xs) (text ++ more) heard in (
        more ++ further,
        Appends-more before mid now more further appended appended',
        subst (λ (z : List ℕ). HasHeard replies first z new_kept new (text ++ (more ++ further))) (append_assoc taken xs ys)
            (subst (λ (z : List ℕ). HasHeard replies first ((taken ++ xs) ++ ys) new_kept new z) (append_assoc text more further) heard'),
      )

  pub ends_behind : (kept here_kept : List ℕ) (old here : X) (before mid now : Option (List ℕ)) (xs ys : List ℕ) (end : TurnEnd)
      → GoesOn replies kept old before here_kept here mid xs → EndsHeard replies ends here_kept here mid now ys end → EndsHeard replies ends kept old before now (xs ++ ys) end
  ends_behind kept here_kept old here before mid now xs ys end one two first taken text rest at fits =
      let (more, appended, heard) = one first taken text at in
      let (further, appended', ended) = two first (taken ++ xs) (text ++ more) rest heard (subst (λ (z : List ℕ). length z ≤ 4294967295) (sym (append_assoc taken xs ys)) fits) in
      let whole : (taken ++ xs) ++ (ys ++ rest) ≡ taken ++ ((xs ++ ys) ++ rest) = append_assoc taken xs (ys ++ rest) ∙ ap (λ (z : List ℕ). taken ++ z) (sym (append_assoc xs ys rest)) in (
        more ++ further,
        Appends-more before mid now more further appended appended',
        subst (λ (z : List ℕ). Ends replies ends first z end (text ++ (more ++ further))) whole
            (subst (λ (z : List ℕ). Ends replies ends first ((taken ++ xs) ++ (ys ++ rest)) end z) (append_assoc text more further) ended),
      )

  -- a line that has come to its end ends it
  pub done_at : LongGoesOn → (kept : List ℕ) (now : X) (before gained : Option (List ℕ)) (bytes front after : List ℕ) → bytes ≡ (front ++ 10 ∷ []) ++ after → All (λ b. is_line_feed b ≡ false) front
      → (heard said : List ℕ) (others : List (List ℕ)) → heard ≡ take 202 (kept ++ front) ++ 10 ∷ [] → lines_in heard ≡ said ∷ others
      → Stops replies ends now said before gained Done → EndsAmong replies ends kept now before gained bytes
  done_at short kept now before gained bytes front after cut solid heard said others heard_is lines_are (is, none) first taken text at =
      let line = at.line ++ front in
      let all_solid = All-append (λ b. is_line_feed b ≡ false) at.line front at.solid solid in
      let kept_is : take 202 (kept ++ front) ≡ take 202 line = ap (λ (z : List ℕ). take 202 (z ++ front)) at.kept_is ∙ take_twice 202 at.line front in
      let said_as : said ≡ strip_carriage_return (take 202 line) = said_is replies first taken kept now text front heard said others at solid heard_is lines_are ∙ ap strip_carriage_return kept_is in
      let whole : taken ++ bytes ≡ (at.lines ++ (line ++ 10 ∷ [])) ++ after =
      ap (λ (z : List ℕ). taken ++ z) cut
      ∙ ap (λ (z : List ℕ). z ++ ((front ++ 10 ∷ []) ++ after)) at.cut
      ∙ append_assoc at.lines at.line ((front ++ 10 ∷ []) ++ after)
      ∙ ap (λ (z : List ℕ). at.lines ++ z) (sym (append_assoc at.line (front ++ 10 ∷ []) after) ∙ ap (λ (z : List ℕ). z ++ after) (sym (append_assoc at.line front (10 ∷ []))))
      ∙ sym (append_assoc at.lines (line ++ 10 ∷ []) after) in
      let size = ap length cut in
      let sum = length-append (front ++ 10 ∷ []) after in
      let front_sum = length-append front (10 ∷ []) in (
        [],
        after,
        none,
        record {
          front = at.lines ++ (line ++ 10 ∷ []);
          cut = whole;
          whole = inr (at.lines ++ line, sym (append_assoc at.lines line (10 ∷ [])));
          before = lines_in at.lines;
          last = strip_carriage_return line;
          lines = line_behind replies at.lines line at.whole all_solid;
          now = now;
          answered = subst (λ (z : List ℕ). AreAnswered replies first (lines_in at.lines) now z) (sym (append-nil text)) at.answered;
          ended = kept_ends short now line (subst (λ (z : List ℕ). ends now z) said_as is);
        },
        omega (arith, size, sum, front_sum),
      )

  -- bytes behind which a line ends it
  pub among_behind : (kept here_kept : List ℕ) (old here : X) (before mid now : Option (List ℕ)) (xs ys : List ℕ)
      → GoesOn replies kept old before here_kept here mid xs → EndsAmong replies ends here_kept here mid now ys → EndsAmong replies ends kept old before now (xs ++ ys)
  among_behind kept here_kept old here before mid now xs ys one two first taken text at =
      let (more, appended, heard) = one first taken text at in
      let (further, behind, appended', ended, few) = two first (taken ++ xs) (text ++ more) heard in
      let sum = length-append xs ys in (
        more ++ further,
        behind,
        Appends-more before mid now more further appended appended',
        subst (λ (z : List ℕ). EndsAtLine replies ends first z (text ++ (more ++ further)) behind) (append_assoc taken xs ys)
            (subst (λ (z : List ℕ). EndsAtLine replies ends first ((taken ++ xs) ++ ys) z behind) (append_assoc text more further) ended),
        omega (arith, sum, few),
      )
