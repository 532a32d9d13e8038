use Rattle.std.proofs.Common.{◌≡◌, ◌++◌, ◌∷◌, ap, ◌∙◌, rules}
use Rattle.sk_base.specs.Spelling.{whole_text}
use Rattle.sk_report.specs.ExcessReport.{off_unit}
use Rattle.sk_report.proofs.Appending.{six_put}
use Rattle.sk_report.proofs.excess.put_line_of_off.Goals as goal

pub returns : goal.returns
returns c =
    let words : c.put.new.self ≡ c.put_left_words.new.text ++ c.args.words.now =
    c.in_ok-put.ensures.ok ∙ ap (λ bytes. c.put_left_words.new.text ++ bytes) c.as_bytes.ensures.value in
    let number : c.put_number.new.text ≡ c.put.new.self ++ 32 ∷ whole_text c.args.off.now.off = search rules in
    let unit : c.put-2.new.self ≡ c.put_number.new.text ++ off_unit c.args.off.now.length = c.in_ok-put-2.ensures.ok ∙ ap (λ bytes. c.put_number.new.text ++ bytes) (c.as_bytes-2.ensures.value ∙ c.off_unit.ensures) in
    six_put c.put-3.result c.args.text.now _ _ _ _ _ _ c.put_left_words.new.text c.put.new.self c.put_number.new.text c.put-2.new.self c.put_turned.new.text c.put-3.new.self
    c.in_ok-put_left_words.ensures words number unit c.in_ok-put_turned.ensures c.put-3.ensures.ok
