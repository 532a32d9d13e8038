use Rattle.std.proofs.Common.{ℕ, sym, subst, ◌∙◌}
use Rattle.std.proofs.lemmas.List.{length-take-le}
use Rattle.sk_lines.specs.Words.{StandInOrder}
use Rattle.sk_lines.proofs.Splitting.{words_of_front}
use Rattle.sk_lines.proofs.split.words_before.Goals as goal

pub returns-clause-words : goal.returns-clause-words
returns-clause-words c =
    let items = c.in_ok-words_between_blanks.field-0.items in
    let order = subst (λ (n : ℕ). StandInOrder 0 items n) (length-take-le c.args.end c.args.line.now c.requires) c.in_ok-words_between_blanks.ensures.order in
    sym (words_of_front c.args.line.now c.args.end 0 items order) ∙ c.in_ok-words_between_blanks.ensures.words
