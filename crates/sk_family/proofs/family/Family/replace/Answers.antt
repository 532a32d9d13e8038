use Rattle.sk_family.proofs.Soundness.{joined_of}
use Rattle.sk_family.proofs.family.Family.replace.Goals as goal

pub replace_all-requires-clause-from : goal.replace_all-requires-clause-from
replace_all-requires-clause-from c = joined_of c.requires.from
