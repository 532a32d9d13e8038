use Rattle.std.proofs.Common.{◌≡◌, Bool, Some, ◌∷◌, [], refl, sym, subst}
use Rattle.std.specs.Prelude.{map, drop, not}
use Rattle.std.proofs.lemmas.Result.{IfOk-weaker}
use Rattle.sk_lines.specs.Words.{bytes_of}
use Rattle.sk_lines.specs.declared.Code.TheVariants.{E3, E18}
use Rattle.sk_lines.specs.EndLine.{is_none_left}
use Rattle.sk_lines.specs.FirstCode.{first_code}
use Rattle.sk_edits.specs.declared.Command.{Command}
use Rattle.sk_session.specs.SessionCodes.{command_rows}
use Rattle.sk_session.specs.State.{sketch_in}
use Rattle.sk_session.specs.Replies.{Plans, Obeys, ByCode}
use Rattle.sk_session.proofs.Coding.{by_code_as}
use Rattle.sk_session.proofs.session.Session.obey.Goals as goal

pub returns-in-Plan-clause-ok : goal.returns-in-Plan-clause-ok
returns-in-Plan-clause-ok c =
    let old = c.args.self.now in
    let rest = drop 1 (map (bytes_of c.args.line.now) c.args.words.now) in
    IfOk-weaker c.answer_plan.result _ _ (λ said h.
    (let both : Plans old said → Plans old said × (old ≡ old) = λ plans. (plans, refl) in
    subst (λ (k : Command). ByCode (first_code (command_rows old (Some k) rest)) old (Obeys old (Some k) rest said old) said old) (sym c.in-Plan.is)
    (by_code_as _ old said old both
    (subst (λ (t : Bool). ByCode (first_code ((not t, E3) ∷ (is_none_left (sketch_in old).elements, E18) ∷ [])) old (Plans old said) said old) c.is_alone-alone.ensures h)))) c.answer_plan.ensures
