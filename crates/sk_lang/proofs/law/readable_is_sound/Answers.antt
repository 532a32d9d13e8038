use Rattle.sk_lang.proofs.Readable.{readable_sound, readable_numbered}
use Rattle.sk_lang.proofs.law.readable_is_sound.Goals as goal

pub returns-clause-sound : goal.returns-clause-sound
returns-clause-sound c bytes s reads = (readable_sound bytes s reads).0

pub returns-clause-some : goal.returns-clause-some
returns-clause-some c bytes s reads = (readable_sound bytes s reads).1

pub returns-clause-numbered : goal.returns-clause-numbered
returns-clause-numbered c = readable_numbered
