use Rattle.sk_edits.proofs.Drawing.{drop_sound, length_set_sound, ratio_set_sound, erase_sound}
use Rattle.sk_edits.proofs.law.stays_sound.Goals as goal

pub returns-clause-dropped : goal.returns-clause-dropped
returns-clause-dropped c = drop_sound

pub returns-clause-length : goal.returns-clause-length
returns-clause-length c = length_set_sound

pub returns-clause-turned : goal.returns-clause-turned
returns-clause-turned c = ratio_set_sound

pub returns-clause-erased : goal.returns-clause-erased
returns-clause-erased c = erase_sound
