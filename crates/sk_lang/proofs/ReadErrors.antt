-- The error of a line is a refusal of the text.
use Rattle.std.proofs.Common.{◌≡◌, ℕ, ◌+◌, ◌<◌, ◌≤◌, false, List, [], length, refl}
use Rattle.sk_base.specs.declared.Sketch.{Sketch}
use Rattle.sk_lines.specs.declared.EntryError.{EntryError}
use Rattle.sk_lines.specs.declared.EntryError.TheVariants.{Refused, NoMemory}
use Rattle.sk_lines.specs.declared.Version.{Version}
use Rattle.sk_lang.specs.declared.progress.Progress.{Progress}
use Rattle.sk_lang.specs.declared.progress.Progress.TheVariants.{Before, Within, After}
use Rattle.sk_lines.specs.Lines.{IsFirstLine}
use Rattle.sk_lang.specs.Codes.{code_of}
use Rattle.sk_lines.specs.Refusals.{IsRefusal, error_at}
use Rattle.sk_lang.specs.Reading.{IsRefusalOf, has_ended}
use Rattle.sk_lang.specs.Front.{IsFrontRefusal, without_end}
use Rattle.sk_lang.proofs.Standing.{StandsAt, refused_here, front_refused_here, front_empty_here, front_unended_here}

pub refusal_at : (bytes rest line after : List ℕ) (progress : Progress) (count : ℕ) (error : EntryError) → length bytes ≤ 1048576 → StandsAt bytes rest progress count → 0 < length rest → IsFirstLine rest line after → IsRefusal (code_of progress line) error → IsRefusalOf bytes (error_at (count + 1) error)
refusal_at bytes rest line after progress count (Refused code) fits at more first is = refused_here bytes rest line after progress count code fits at more first is
refusal_at bytes rest line after progress count NoMemory fits at more first is = tt

pub front_refusal_at : (bytes rest line after : List ℕ) (progress : Progress) (count : ℕ) (error : EntryError) → length bytes ≤ 1048576 → StandsAt bytes rest progress count → 0 < length rest → IsFirstLine rest line after → has_ended progress ≡ false → IsRefusal (code_of progress line) error → IsFrontRefusal bytes (error_at (count + 1) error)
front_refusal_at bytes rest line after progress count (Refused code) fits at more first unended is = front_refused_here bytes rest line after progress count code fits at more first unended is
front_refusal_at bytes rest line after progress count NoMemory fits at more first unended is = tt

-- the text ends before its sketch does
pub front_unended : (bytes : List ℕ) (progress : Progress) (count : ℕ) → length bytes ≤ 1048576 → StandsAt bytes [] progress count → has_ended progress ≡ false → IsFrontRefusal bytes (without_end progress count)
front_unended bytes Before count fits at unended = front_empty_here bytes count fits at
front_unended bytes (Within v s) count fits at unended = front_unended_here bytes v s count fits at
front_unended bytes (After v s) count fits at unended = cc

pub ended_no_more : (progress : Progress) → ((v : Version) (s : Sketch) → progress ≡ After v s → ⊥) → has_ended progress ≡ false
ended_no_more Before never = refl
ended_no_more (Within v s) never = refl
ended_no_more (After v s) never = absurd (never v s refl)
