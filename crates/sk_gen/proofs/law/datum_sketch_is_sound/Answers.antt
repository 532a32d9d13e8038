use Rattle.std.proofs.Common.{◌-◌, arith}
use Rattle.sk_gen.proofs.Soundness.{datum_is_sound}
use Rattle.sk_gen.proofs.law.datum_sketch_is_sound.Goals as goal

pub returns : goal.returns
returns c n least most = datum_is_sound (n - 2) (omega arith)
