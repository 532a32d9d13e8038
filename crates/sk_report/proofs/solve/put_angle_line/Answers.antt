use Rattle.std.proofs.Common.{ap, ◌∙◌, ◌++◌}
use Rattle.sk_report.proofs.Appending.{three_put}
use Rattle.sk_report.proofs.solve.put_angle_line.Goals as goal

pub returns : goal.returns
returns c =
    let head = c.in_ok-put.ensures.ok ∙ ap (λ bytes. c.args.text.now ++ bytes) (c.as_bytes.ensures.value ∙ c.in_ok-head.ensures.ok) in
    three_put c.put-2.result c.args.text.now _ _ _ c.put.new.self c.put_spotted_or_none.new.text c.put-2.new.self
    head c.in_ok-put_spotted_or_none.ensures c.put-2.ensures.ok
