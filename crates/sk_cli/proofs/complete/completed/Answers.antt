use Rattle.std.proofs.lemmas.Result.{IfOk-weaker}
use Rattle.sk_answers.specs.declared.Answer.{Answer}
use Rattle.sk_cli.specs.CompleteAnswer.{IsCompletedOrNot, IsCompleteAnswer}
use Rattle.sk_cli.proofs.CompleteTold.{as_answer}
use Rattle.sk_cli.proofs.complete.completed.Goals as goal

pub returns-in-Ok : goal.returns-in-Ok
returns-in-Ok c =
    let bytes = c.args.bytes.now in
    let s = c.in-Ok.sketch in
    IfOk-weaker c.completed_or_not.result (λ (answer : Answer). IsCompletedOrNot s answer.status answer.text) (λ (answer : Answer). IsCompleteAnswer bytes answer.status answer.text)
    (λ answer told. as_answer bytes answer.status answer.text s c.in-Ok.ensures.reads told) c.completed_or_not.ensures
