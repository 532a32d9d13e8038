use Rattle.std.proofs.Common.{◌≡◌, ◌++◌, ◌∷◌, ap, ◌∙◌, append_assoc, rules}
use Rattle.std.specs.Prelude.{codes}
use Rattle.sk_base.specs.Spelling.{whole_text}
use Rattle.sk_report.specs.PlanReport.{sign_text}
use Rattle.sk_report.proofs.excess.put_turned.Goals as goal

pub returns-in_ok-put_number-in-Some : goal.returns-in_ok-put_number-in-Some
returns-in_ok-put_number-in-Some c =
    let words = codes " turned drawn " ++ (sign_text c.in-Some.turned.drawn ++ codes " placed") in
    let number = 32 ∷ whole_text c.in-Some.turned.placed in
    let told = c.in_ok-put-in-Some.ensures.ok ∙ ap (λ bytes. c.args.text.now ++ bytes) (c.as_bytes.ensures.value ∙ c.in_ok-format-in-Some.ensures.ok) in
    let head : c.put.new.self ≡ c.args.text.now ++ words = rw c.sign_text-drawn.ensures at told in
    let last : c.put_number.new.text ≡ c.put.new.self ++ number = search rules in
    rw c.in-Some.is (last ∙ ap (λ zs. zs ++ number) head ∙ append_assoc c.args.text.now words number)
