use Rattle.std.proofs.Common.{◌+◌, ◌<◌, ℕ, List, sym, subst, length, arith}
use Rattle.std.proofs.lemmas.Result.{IfOk-weaker}
use Rattle.sk_lines.specs.Lines.{lines_in}
use Rattle.sk_claims.specs.PlaceReading.{ReadsPlaces}
use Rattle.sk_answers.specs.declared.answer.Answer.{Answer}
use Rattle.sk_answers.specs.MeasureAnswer.{IsMeasurement, IsMeasureAnswer}
use Rattle.sk_answers.proofs.Behind.{rest_of}
use Rattle.sk_answers.proofs.MeasureTold.{as_answer}
use Rattle.sk_answers.proofs.measure.measured.Goals as goal

pub read_places-requires : goal.read_places-requires
read_places-requires c =
    subst (λ (rest : List ℕ). c.in-Ok.front.lines + length (lines_in rest) < 4294967295) (sym (rest_of c.in-Ok.front.used c.args.bytes.now))
    (let few = c.in-Ok.ensures.lines in let fits = c.in-Ok.ensures.reads.fits in omega (arith, few, fits))

pub returns-in-Ok-read_places : goal.returns-in-Ok-read_places
returns-in-Ok-read_places c =
    let front = c.in-Ok.front in
    let claim = c.in-Ok-read_places.claim in
    let reads = subst (λ (rest : List ℕ). ReadsPlaces front.sketch rest claim) (rest_of front.used c.args.bytes.now) c.in-Ok-read_places.ensures.reads in
    IfOk-weaker c.measurement.result (λ (answer : Answer). IsMeasurement c.args.limit front.sketch claim answer.status answer.text) (λ (answer : Answer). IsMeasureAnswer c.args.limit c.args.bytes.now answer.status answer.text)
    (λ answer measured. as_answer c.args.limit c.args.bytes.now answer.status answer.text (front, claim, record { sketch = c.in-Ok.ensures.reads; placed = reads }, measured))
    c.measurement.ensures
