use Rattle.std.proofs.Common.{◌≡◌, ◌∷◌, [], ℕ, List, map, drop, get_or, ap, subst, ◌∙◌}
use Rattle.std.specs.Prelude.{OnErr}
use Rattle.std.proofs.lemmas.Result.{IfOk-weaker}
use Rattle.sk_base.specs.Numbering.{elem_number, con_number}
use Rattle.sk_lines.specs.declared.Word.{Word}
use Rattle.sk_lines.specs.Words.{bytes_of}
use Rattle.sk_entry.specs.declared.Entry.TheVariants as entry
use Rattle.sk_edits.specs.declared.Edit.TheVariants as edit
use Rattle.sk_entry.specs.Entry.{IsEntryOf, StandsOn, IsNumbered}
use Rattle.sk_entry.specs.declared.Entry.{Entry}
use Rattle.sk_lines.specs.Comments.{words_under}
use Rattle.sk_lines.specs.FirstCode.{first_code}
use Rattle.sk_lines.specs.declared.Version.TheVariants.{Two}
use Rattle.sk_session.specs.declared.reply.Reply.TheVariants as reply
use Rattle.sk_edits.specs.Commands.{command_of}
use Rattle.sk_session.specs.SessionCodes.{command_rows}
use Rattle.sk_session.specs.State.{sketch_in}
use Rattle.sk_session.specs.Replies.{Obeys, ByCode, IsHalted, next_elem, next_con}
use Rattle.sk_session.proofs.Coding.{answers_entry, answers_command}
use Rattle.sk_session.proofs.ToSolve.{taken_otherwise}
use Rattle.sk_session.proofs.session.Session.enter.Goals as goal

pub declare-requires-clause-number : goal.declare-requires-clause-number
declare-requires-clause-number c =
    let old = c.args.self.now in
    ap elem_number (subst (IsNumbered (next_elem old) (next_con old)) c.in-Element.is c.requires.numbered)

pub constrain-requires-clause-number : goal.constrain-requires-clause-number
constrain-requires-clause-number c =
    let old = c.args.self.now in
    ap con_number (subst (IsNumbered (next_elem old) (next_con old)) c.in-Constraint.is c.requires.numbered)

pub returns-in-Element-clause-ok : goal.returns-in-Element-clause-ok
returns-in-Element-clause-ok c =
    let old = c.args.self.now in
    let line = c.args.line.now in
    let e = c.in-Element.element in
    let is = subst (λ (x : Entry). IsEntryOf Two (sketch_in old) line (next_elem old) (next_con old) x) c.in-Element.is c.requires.entry in
    let begins = subst (StandsOn Two line) c.in-Element.is c.requires.stands_on in
    IfOk-weaker c.declare.result _ _ (λ said takes.
    answers_entry old line (entry.Element e) c.requires.clean is begins (edit.Element e) (reply.Declared e.number) said c.declare.new.self (λ h. h) takes) c.declare.ensures.ok

pub returns-in-Constraint-clause-ok : goal.returns-in-Constraint-clause-ok
returns-in-Constraint-clause-ok c =
    let old = c.args.self.now in
    let line = c.args.line.now in
    let e = c.in-Constraint.constraint in
    let is = subst (λ (x : Entry). IsEntryOf Two (sketch_in old) line (next_elem old) (next_con old) x) c.in-Constraint.is c.requires.entry in
    let begins = subst (StandsOn Two line) c.in-Constraint.is c.requires.stands_on in
    IfOk-weaker c.constrain.result _ _ (λ said takes.
    answers_entry old line (entry.Constraint e) c.requires.clean is begins (edit.Constraint e) (reply.Constrained e.number) said c.constrain.new.self (λ h. h) takes) c.constrain.ensures.ok

pub returns-in-Other-clause-ok : goal.returns-in-Other-clause-ok
returns-in-Other-clause-ok c =
    let old = c.args.self.now in
    let line = c.args.line.now in
    let words = c.in-Other.words in
    let is = subst (λ (x : Entry). IsEntryOf Two (sketch_in old) line (next_elem old) (next_con old) x) c.in-Other.is c.requires.entry in
    let told = subst (StandsOn Two line) c.in-Other.is c.requires.stands_on in
    let b = told.0 in
    let same : map (bytes_of line) c.as_slice.result.now ≡ b.first ∷ b.rest = ap (λ (xs : List Word). map (bytes_of line) xs) c.as_slice.ensures ∙ told.1.0 ∙ b.words in
    IfOk-weaker c.other.result _ _ (λ said obeys.
    answers_command old line words c.requires.clean is b said c.other.new.self
    (subst (λ (ws : List (List ℕ)). ByCode (first_code (command_rows old (command_of (get_or ws 0 [])) (drop 1 ws))) old (Obeys old (command_of (get_or ws 0 [])) (drop 1 ws) said c.other.new.self) said c.other.new.self) same obeys)) c.other.ensures.ok

pub returns-in-Other-clause-err : goal.returns-in-Other-clause-err
returns-in-Other-clause-err c =
    let old = c.args.self.now in
    let line = c.args.line.now in
    let told = subst (StandsOn Two line) c.in-Other.is c.requires.stands_on in
    let same : map (bytes_of line) c.as_slice.result.now ≡ words_under Two line = ap (λ (xs : List Word). map (bytes_of line) xs) c.as_slice.ensures ∙ told.1.0 in
    subst (λ (ws : List (List ℕ)). OnErr c.other.result (IsHalted old ws c.other.new.self)) same c.other.ensures.err

pub returns-in-Element-clause-solve : goal.returns-in-Element-clause-solve
returns-in-Element-clause-solve c =
    IfOk-weaker c.declare.result _ _ (λ said takes is. absurd (taken_otherwise _ _ _ _ _ _ (λ e. cc) takes is)) c.declare.ensures.ok

pub returns-in-Constraint-clause-solve : goal.returns-in-Constraint-clause-solve
returns-in-Constraint-clause-solve c =
    IfOk-weaker c.constrain.result _ _ (λ said takes is. absurd (taken_otherwise _ _ _ _ _ _ (λ e. cc) takes is)) c.constrain.ensures.ok
