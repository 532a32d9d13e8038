use Rattle.sk_lines.proofs.Amounts.{length_from_to, ratio_sound}
use Rattle.sk_lines.proofs.law.quantities_are_sound.Goals as goal

pub returns-clause-length : goal.returns-clause-length
returns-clause-length c = length_from_to

pub returns-clause-ratio : goal.returns-clause-ratio
returns-clause-ratio c = ratio_sound
