use Rattle.std.proofs.Common.{◌≡◌, ℕ, List, None, Result, Ok, Err, IfOk}
use Rattle.std.proofs.lemmas.Result.{IfOk-weaker}
use Rattle.sk_base.specs.declared.Elem.{Elem}
use Rattle.sk_base.specs.declared.ConId.{ConId}
use Rattle.sk_base.specs.declared.Sketch.{Sketch}
use Rattle.sk_base.specs.SoundSketch.{IsSoundSketch}
use Rattle.sk_lines.specs.declared.Version.{Version}
use Rattle.sk_entry.specs.declared.entry.Entry.{Entry}
use Rattle.sk_lines.specs.declared.EntryError.{EntryError}
use Rattle.sk_entry.specs.Entry.{entry_code, IsEntryOf, StandsOn, IsNumbered}
use Rattle.sk_entry.proofs.Said.{stands_on, is_numbered}
use Rattle.sk_entry.proofs.Sound.{AreAbove, Grows, says_sound}
use Rattle.sk_entry.proofs.line.read_entry.Goals as goal

sound : (v : Version) (s : Sketch) (line : List ℕ) (elem : Elem) (con : ConId) (result : Result Entry EntryError) → IsSoundSketch s → AreAbove s elem con → IfOk result (λ _. entry_code v s line ≡ None) → IfOk result (IsEntryOf v s line elem con) → IfOk result (Grows s)
sound v s line elem con (Ok said) is above clean says = says_sound v s line elem con said is above clean says
sound v s line elem con (Err e) is above clean says = tt

pub returns-clause-sound : goal.returns-clause-sound
returns-clause-sound c =
    let above : AreAbove c.args.s.now c.args.elem c.args.con = record { elements = c.requires.elem_above; constraints = c.requires.con_above } in
    sound c.args.v c.args.s.now c.args.line.now c.args.elem c.args.con c.entry_in.result c.requires.sound above c.entry_in.ensures.clean c.entry_in.ensures.entry

pub returns-clause-stands_on : goal.returns-clause-stands_on
returns-clause-stands_on c =
    let says = IsEntryOf c.args.v c.args.s.now c.args.line.now c.args.elem c.args.con in
    IfOk-weaker c.entry_in.result says (StandsOn c.args.v c.args.line.now) (stands_on c.args.v c.args.s.now c.args.line.now c.args.elem c.args.con) c.entry_in.ensures.entry

pub returns-clause-numbered : goal.returns-clause-numbered
returns-clause-numbered c =
    let says = IsEntryOf c.args.v c.args.s.now c.args.line.now c.args.elem c.args.con in
    IfOk-weaker c.entry_in.result says (IsNumbered c.args.elem c.args.con) (is_numbered c.args.v c.args.s.now c.args.line.now c.args.elem c.args.con) c.entry_in.ensures.entry
