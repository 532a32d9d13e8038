use Rattle.sk_request.proofs.KeyNames.{found_behind}
use Rattle.sk_request.proofs.settings.behind.Goals as goal

pub returns-clause-some : goal.returns-clause-some
returns-clause-some c =
    (found_behind (λ x. x.now) c.args.name.now c.args.word.now c.strip_prefix.result (rw (c.as_bytes.ensures.value, c.as_bytes-2.ensures.value) at c.strip_prefix.ensures.cases)).0

pub returns-clause-none : goal.returns-clause-none
returns-clause-none c =
    (found_behind (λ x. x.now) c.args.name.now c.args.word.now c.strip_prefix.result (rw (c.as_bytes.ensures.value, c.as_bytes-2.ensures.value) at c.strip_prefix.ensures.cases)).1
