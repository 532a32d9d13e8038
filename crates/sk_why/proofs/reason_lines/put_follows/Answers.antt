use Rattle.std.specs.Prelude.{codes}
use Rattle.std.specs.List.{flat_map}
use Rattle.sk_report.specs.ExcessReport.{left_words}
use Rattle.sk_why.specs.WhyLines.{because_word}
use Rattle.sk_report.proofs.Appending.{four_put}
use Rattle.sk_why.proofs.reason_lines.put_follows.Goals as goal

pub returns : goal.returns
returns c =
    four_put c.put-2.result c.args.text.now (left_words c.args.s.now c.args.number) (codes " follows from") (flat_map because_word c.args.because.now) (codes "\n")
    c.put_left_words.new.text c.put.new.self c.put_numbers.new.text c.put-2.new.self
    c.in_ok-put_left_words.ensures c.in_ok-put.ensures.ok c.in_ok-put_numbers.ensures c.put-2.ensures.ok
