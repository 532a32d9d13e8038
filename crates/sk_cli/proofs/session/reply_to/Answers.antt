use Rattle.sk_cli.proofs.session.reply_to.Goals as goal

pub returns-in-Ok-clause-ok : goal.returns-in-Ok-clause-ok
returns-in-Ok-clause-ok g c =
    let sound = rw c.sketch.ensures.sketch at c.sketch.ensures.sound in
    let says = rw c.sketch.ensures.sketch at c.in_ok-text.ensures in
    let appended = rw c.as_bytes.ensures at c.in-Ok.ensures.ok in
    let sure = rw c.as_bytes.ensures at c.write_all.ensures.sure in
    (c.in_ok-reply.reply, c.in_ok-text.text, record { answers = c.in_ok-reply.ensures.answer; sound = sound; says = says }, appended, c.goes_on.ensures, λ few. (sure few).2)

pub returns-in-Ok-clause-sure : goal.returns-in-Ok-clause-sure
returns-in-Ok-clause-sure g c each =
    let sound = rw c.sketch.ensures.sketch at c.sketch.ensures.sound in
    let says = rw c.sketch.ensures.sketch at c.in_ok-text.ensures in
    let fits = each _ c.in_ok-reply.reply c.in_ok-text.text (record { answers = c.in_ok-reply.ensures.answer; sound = sound; says = says }) in
    let sure = rw c.as_bytes.ensures at c.write_all.ensures.sure in
    ((sure fits).0, λ failed. cc)
