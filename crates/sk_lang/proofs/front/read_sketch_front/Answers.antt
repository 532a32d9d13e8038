use Rattle.sk_lang.proofs.FrontLines.{few_behind}
use Rattle.sk_lang.proofs.Readable.{readable_sound}
use Rattle.sk_lang.proofs.front.read_sketch_front.Goals as goal

pub returns-clause-sound : goal.returns-clause-sound
returns-clause-sound c = (readable_sound _ _ c.in_ok-read_front.ensures.reads.reads).0

pub returns-clause-some : goal.returns-clause-some
returns-clause-some c = (readable_sound _ _ c.in_ok-read_front.ensures.reads.reads).1

pub returns-clause-lines : goal.returns-clause-lines
returns-clause-lines c = few_behind c.args.bytes.now _ c.in_ok-read_front.ensures.reads
