-- What an offer is answered.
use Rattle.std.specs.Prelude.{ℕ, List, ◌++◌, codes}
use Rattle.std.specs.Fmt.{decimal}
use Rattle.sk_offers.specs.declared.Answer.{Answer}
use Rattle.sk_offers.specs.declared.Answer.TheVariants.{Taken, Stale, Idle}
use Rattle.sk_text.specs.ClusterName.{cluster_name}

abbrev pub answer_words : Answer → List ℕ
answer_words (Taken n) = codes "taken " ++ cluster_name n
answer_words (Stale n) = codes "stale " ++ cluster_name n
answer_words Idle = codes "idle"

-- the answer to an offer of that worker
abbrev pub answer_line : ℕ → Answer → List ℕ
answer_line worker answer = codes "offer " ++ (decimal worker ++ (codes " " ++ (answer_words answer ++ codes "\n")))
