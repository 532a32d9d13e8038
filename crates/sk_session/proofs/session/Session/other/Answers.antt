use Rattle.std.proofs.Common.{Some}
use Rattle.std.specs.Prelude.{map, drop}
use Rattle.std.proofs.lemmas.Result.{IfOk-weaker}
use Rattle.sk_lines.specs.Words.{bytes_of}
use Rattle.sk_session.proofs.ToSolve.{obeyed_some}
use Rattle.sk_session.proofs.session.Session.other.Goals as goal

pub returns-in-Some-clause-solve : goal.returns-in-Some-clause-solve
returns-in-Some-clause-solve c =
    let rest = drop 1 (map (bytes_of c.args.line.now) c.args.words.now) in
    IfOk-weaker c.obey.result _ _ (λ said obeys is. obeyed_some c.args.self.now c.obey.new.self (Some c.in-Some.command) rest said obeys is) c.obey.ensures.ok
