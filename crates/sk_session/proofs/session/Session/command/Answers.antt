use Rattle.std.proofs.Common.{◌≡◌, ◌<◌, Some, get_or, sym, subst, ◌∙◌, arith}
use Rattle.std.specs.Prelude.{All}
use Rattle.std.proofs.lemmas.List.Elements.{Contains-get_or}
use Rattle.std.proofs.lemmas.Result.{IfOk-weaker}
use Rattle.sk_base.specs.declared.Element.{Element}
use Rattle.sk_base.specs.declared.Constraint.{Constraint}
use Rattle.sk_base.specs.declared.Sketch.{Sketch}
use Rattle.sk_session.specs.declared.reply.Reply.TheVariants as reply
use Rattle.sk_entry.specs.Entry.{entry_code}
use Rattle.sk_lines.specs.Refusals.{IsRefusal}
use Rattle.sk_lines.specs.declared.EntryError.{EntryError}
use Rattle.sk_lines.specs.declared.Version.TheVariants.{Two}
use Rattle.sk_session.specs.State.{sketch_in}
use Rattle.sk_session.proofs.Coding.{answers_refused}
use Rattle.sk_edits.proofs.Numbers.{elements_below, constraints_below}
use Rattle.sk_session.proofs.session.Session.command.Goals as goal

pub read_entry-requires-clause-elem_above : goal.read_entry-requires-clause-elem_above
read_entry-requires-clause-elem_above c =
    let old = c.args.self.now in
    let above : All (λ (x : Element). x.number.0 < c.next_elem.result) (sketch_in old).elements =
    λ k d k_in. (let below = elements_below old.edits (get_or (sketch_in old).elements k d) (Contains-get_or (sketch_in old).elements k d k_in) in let next = c.next_elem.ensures in omega arith) in
    subst (λ (s : Sketch). All (λ (x : Element). x.number.0 < c.next_elem.result) s.elements) (sym c.sketch.ensures.sketch) above

pub read_entry-requires-clause-con_above : goal.read_entry-requires-clause-con_above
read_entry-requires-clause-con_above c =
    let old = c.args.self.now in
    let above : All (λ (x : Constraint). x.number.0 < c.next_con.result) (sketch_in old).constraints =
    λ k d k_in. (let below = constraints_below old.edits (get_or (sketch_in old).constraints k d) (Contains-get_or (sketch_in old).constraints k d k_in) in let next = c.next_con.ensures in omega arith) in
    subst (λ (s : Sketch). All (λ (x : Constraint). x.number.0 < c.next_con.result) s.constraints) (sym c.sketch.ensures.sketch) above

pub returns-in-Err-clause-answer : goal.returns-in-Err-clause-answer
returns-in-Err-clause-answer c =
    let old = c.args.self.now in
    let line = c.args.line.now in
    let s = sketch_in old in
    let refused : IsRefusal (entry_code Two s line) c.in-Err.error =
    subst (λ (t : Sketch). IsRefusal (entry_code Two t line) c.in-Err.error) c.sketch.ensures.sketch c.in-Err.ensures.refused in
    IfOk-weaker c.refusal.result _ _ (λ said told.
    let (code, error_is, said_is) = told in
    let is : entry_code Two s line ≡ Some code = subst (λ (e : EntryError). IsRefusal (entry_code Two s line) e) error_is refused in
    answers_refused old line code said is said_is) c.refusal.ensures

pub returns-in-Err-clause-solve : goal.returns-in-Err-clause-solve
returns-in-Err-clause-solve c =
    IfOk-weaker c.refusal.result _ _ (λ said told is. (let (code, error_is, said_is) = told in let clash : reply.Solve ≡ reply.Refused code = sym is ∙ said_is in cc)) c.refusal.ensures
