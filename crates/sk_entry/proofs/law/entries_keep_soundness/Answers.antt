use Rattle.sk_entry.proofs.Sound.{says_sound}
use Rattle.sk_entry.proofs.law.entries_keep_soundness.Goals as goal

pub returns : goal.returns
returns c v s line elem con said sound elements constraints clean is = says_sound v s line elem con said sound (record { elements = elements; constraints = constraints }) clean is
