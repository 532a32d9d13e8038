use Rattle.std.proofs.Common.{◌<◌, ℕ, List, length, Result, Ok, Err, IfOk}
use Rattle.sk_base.specs.declared.Sketch.{Sketch}
use Rattle.sk_base.specs.SoundSketch.{IsSoundSketch}
use Rattle.sk_lines.specs.declared.ReadError.{ReadError}
use Rattle.sk_lang.specs.Reading.{Reads}
use Rattle.sk_lang.proofs.Readable.{readable_sound}
use Rattle.sk_lang.proofs.read.read_sketch.Goals as goal

sound : (bytes : List ℕ) (result : Result Sketch ReadError) → IfOk result (Reads bytes) → IfOk result IsSoundSketch
sound bytes (Ok s) is = (readable_sound bytes s is).0
sound bytes (Err e) is = tt

some : (bytes : List ℕ) (result : Result Sketch ReadError) → IfOk result (Reads bytes) → IfOk result (λ s. 0 < length s.elements)
some bytes (Ok s) is = (readable_sound bytes s is).1
some bytes (Err e) is = tt

pub returns-clause-sound : goal.returns-clause-sound
returns-clause-sound c = sound c.args.bytes.now c.read_behind.result c.read_behind.ensures.reads

pub returns-clause-some : goal.returns-clause-some
returns-clause-some c = some c.args.bytes.now c.read_behind.result c.read_behind.ensures.reads
