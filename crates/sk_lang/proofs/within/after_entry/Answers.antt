use Rattle.std.proofs.Common.{◌≡◌, ◌+◌, ℕ, List, Result, Ok, Err, IfOk, MatchResult, map, sym, ap, ◌∙◌, subst}
use Rattle.sk_base.specs.declared.Sketch.{Sketch}
use Rattle.sk_lines.specs.Words.{bytes_of}
use Rattle.sk_lines.specs.declared.Version.{Version}
use Rattle.sk_lang.specs.declared.progress.Progress.{Progress}
use Rattle.sk_lang.specs.declared.progress.Progress.TheVariants.{Within, After}
use Rattle.sk_base.specs.declared.Elem.{Elem}
use Rattle.sk_base.specs.declared.ConId.{ConId}
use Rattle.sk_entry.specs.declared.Entry.TheVariants as entry
use Rattle.sk_lines.specs.declared.EntryError.{EntryError}
use Rattle.sk_lang.specs.Progress.{progress_after}
use Rattle.sk_lang.specs.Codes.{code_of, other_rows}
use Rattle.sk_lines.specs.FirstCode.{first_code}
use Rattle.sk_entry.specs.Entry.{IsEntryOf}
use Rattle.sk_entry.proofs.Declaring.{element_is_new, says_other, other_has_words}
use Rattle.sk_lang.proofs.EntryCodes.{other_ends, entry_refused, other_code, other_refused}
use Rattle.sk_lang.proofs.within.after_entry.Goals as goal

ended : (v : Version) (s t : Sketch) (line : List ℕ) (A : Type 0) (E : EntryError → Type 0) (result : Result Progress EntryError) → t ≡ s → progress_after (Within v s) line ≡ After v s → MatchResult result (λ after. A × (after ≡ After v t)) E → IfOk result (λ after. after ≡ progress_after (Within v s) line)
ended v s t line A E (Ok after) same ends is = is.1 ∙ ap (λ (u : Sketch). After v u) same ∙ sym ends
ended v s t line A E (Err e) same ends is = tt

pub with_element-requires : goal.with_element-requires
with_element-requires c =
    let elem : Elem = record { 0 = c.len.result + 1 } in
    let con : ConId = record { 0 = c.len-2.result + 1 } in
    let said : IsEntryOf c.args.version c.args.draft c.args.line.now elem con (entry.Element c.in-Element.element) =
    subst (IsEntryOf c.args.version c.args.draft c.args.line.now elem con) c.in-Element.is c.in_ok-entry_in.ensures.entry in
    element_is_new c.args.version c.args.draft c.args.line.now elem con c.in-Element.element c.in_ok-entry_in.ensures.clean said

pub after_end-requires-clause-some : goal.after_end-requires-clause-some
after_end-requires-clause-some c =
    let line = c.args.line.now in
    let words = c.in-Other.words in
    let elem : Elem = record { 0 = c.len.result + 1 } in
    let con : ConId = record { 0 = c.len-2.result + 1 } in
    let said : IsEntryOf c.args.version c.args.draft line elem con (entry.Other words) =
    subst (IsEntryOf c.args.version c.args.draft line elem con) c.in-Other.is c.in_ok-entry_in.ensures.entry in
    let some = other_has_words c.args.version line words (says_other c.args.version c.args.draft line elem con words said) in rw c.as_slice.ensures some

pub returns-in-Other-clause-progress : goal.returns-in-Other-clause-progress
returns-in-Other-clause-progress c =
    let line = c.args.line.now in
    let words = c.in-Other.words in
    let elem : Elem = record { 0 = c.len.result + 1 } in
    let con : ConId = record { 0 = c.len-2.result + 1 } in
    let said : IsEntryOf c.args.version c.args.draft line elem con (entry.Other words) =
    subst (IsEntryOf c.args.version c.args.draft line elem con) c.in-Other.is c.in_ok-entry_in.ensures.entry in
    let ends = other_ends c.args.version c.args.draft line words (says_other c.args.version c.args.draft line elem con words said) in
    ended c.args.version c.args.draft c.into_sketch.result line _ _ c.after_end.result c.into_sketch.ensures ends c.after_end.ensures

pub returns-in_err-entry_in-clause-refused : goal.returns-in_err-entry_in-clause-refused
returns-in_err-entry_in-clause-refused c =
    entry_refused c.args.version c.args.draft c.args.line.now c.from_residual.result c.in_err-entry_in.field-0.0 c.from_residual.ensures c.in_err-entry_in.ensures.refused

pub returns-in-Other-clause-refused : goal.returns-in-Other-clause-refused
returns-in-Other-clause-refused c =
    let line = c.args.line.now in
    let words = c.in-Other.words in
    let elem : Elem = record { 0 = c.len.result + 1 } in
    let con : ConId = record { 0 = c.len-2.result + 1 } in
    let said : IsEntryOf c.args.version c.args.draft line elem con (entry.Other words) =
    subst (IsEntryOf c.args.version c.args.draft line elem con) c.in-Other.is c.in_ok-entry_in.ensures.entry in
    let code = other_code c.args.version c.args.draft line words c.in_ok-entry_in.ensures.clean (says_other c.args.version c.args.draft line elem con words said) in
    let same : first_code (other_rows c.into_sketch.result (map (bytes_of line) c.as_slice.result.now)) ≡ code_of (Within c.args.version c.args.draft) line = rw (c.into_sketch.ensures, c.as_slice.ensures) (sym code) in
    other_refused c.after_end.result _ _ _ c.after_end.ensures same
