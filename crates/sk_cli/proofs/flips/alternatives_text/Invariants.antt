use Rattle.sk_cli.proofs.FlipsTold.{ToldSoFar}
use Rattle.sk_cli.proofs.flips.alternatives_text.Given as goal

abbrev pub invariant-loop-alternative : goal.invariant-loop-alternative
invariant-loop-alternative l = ToldSoFar l.s l.bits l.found l.alternative-index l.number l.text
