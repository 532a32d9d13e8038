use Rattle.std.proofs.Common.{◌≡◌, ◌∷◌, [], Ok, Err, map, drop, refl, sym, subst}
use Rattle.std.proofs.lemmas.Result.{IfOk-weaker}
use Rattle.sk_base.specs.declared.Sketch.{Sketch}
use Rattle.sk_base.specs.SoundSketch.{IsSoundSketch}
use Rattle.sk_lines.specs.Words.{bytes_of}
use Rattle.sk_edits.specs.declared.Edit.{Edit}
use Rattle.sk_lines.specs.FirstCode.{first_code}
use Rattle.sk_lines.specs.declared.Code.TheVariants.{S5}
use Rattle.sk_session.specs.declared.reply.Reply.TheVariants as reply
use Rattle.sk_edits.specs.Commands.{change_rows, edit_made, from_made}
use Rattle.sk_session.specs.SessionCodes.{is_spent}
use Rattle.sk_edits.specs.Making.{CanMake, HasSoundValue}
use Rattle.sk_session.specs.State.{sketch_in}
use Rattle.sk_session.specs.Replies.{Stands, ByCode}
use Rattle.sk_lines.proofs.FirstCodes.{code_front}
use Rattle.sk_session.proofs.Coding.{takes_by_code}
use Rattle.sk_edits.proofs.Possible.{can_change, from_ok, from_err}
use Rattle.sk_session.proofs.session.Session.alter.Goals as goal

pub accept-requires-clause-can : goal.accept-requires-clause-can
accept-requires-clause-can c =
    let s = sketch_in c.args.self.now in
    let rest = drop 1 (map (bytes_of c.args.line.now) c.args.words.now) in
    let sound : IsSoundSketch s = subst (λ (t : Sketch). IsSoundSketch t) c.sketch.ensures.sketch c.sketch.ensures.sound in
    let is : Ok c.in-Ok.edit ≡ from_made (first_code (change_rows s c.args.change rest)) (edit_made s c.args.change rest) =
    subst (λ (t : Sketch). Ok c.in-Ok.edit ≡ from_made (first_code (change_rows t c.args.change rest)) (edit_made t c.args.change rest)) c.sketch.ensures.sketch c.in-Ok.ensures.made in
    let told = from_ok (first_code (change_rows s c.args.change rest)) (edit_made s c.args.change rest) c.in-Ok.edit is in
    let can = can_change s sound c.args.change rest told.0 in
    let same : can.0 ≡ c.in-Ok.edit = (let one = can.1 in let other = told.1 in cc) in
    subst (λ (e : Edit). CanMake e s) same (can.2 (subst HasSoundValue (sym same) c.in-Ok.ensures.value))

pub returns-in-Err-clause-ok : goal.returns-in-Err-clause-ok
returns-in-Err-clause-ok c =
    let s = sketch_in c.args.self.now in
    let rest = drop 1 (map (bytes_of c.args.line.now) c.args.words.now) in
    let sound : IsSoundSketch s = subst (λ (t : Sketch). IsSoundSketch t) c.sketch.ensures.sketch c.sketch.ensures.sound in
    let is : Err c.in-Err.code ≡ from_made (first_code (change_rows s c.args.change rest)) (edit_made s c.args.change rest) =
    subst (λ (t : Sketch). Err c.in-Err.code ≡ from_made (first_code (change_rows t c.args.change rest)) (edit_made t c.args.change rest)) c.sketch.ensures.sketch c.in-Err.ensures.made in
    let code = code_front (change_rows s c.args.change rest) ((is_spent c.args.self.now, S5) ∷ []) c.in-Err.code (from_err s sound c.args.change rest c.in-Err.code is) in
    let old = c.args.self.now in
    subst (λ o. ByCode o old (Stands old (edit_made s c.args.change rest) reply.Done (reply.Refused c.in-Err.code) old) (reply.Refused c.in-Err.code) old) (sym code) (refl, refl)

pub returns-in-Ok-clause-ok : goal.returns-in-Ok-clause-ok
returns-in-Ok-clause-ok c =
    let s = sketch_in c.args.self.now in
    let rest = drop 1 (map (bytes_of c.args.line.now) c.args.words.now) in
    let is : Ok c.in-Ok.edit ≡ from_made (first_code (change_rows s c.args.change rest)) (edit_made s c.args.change rest) =
    subst (λ (t : Sketch). Ok c.in-Ok.edit ≡ from_made (first_code (change_rows t c.args.change rest)) (edit_made t c.args.change rest)) c.sketch.ensures.sketch c.in-Ok.ensures.made in
    let told = from_ok (first_code (change_rows s c.args.change rest)) (edit_made s c.args.change rest) c.in-Ok.edit is in
    IfOk-weaker c.accept.result _ _ (λ said takes.
    takes_by_code (change_rows s c.args.change rest) (is_spent c.args.self.now) (edit_made s c.args.change rest) c.args.self.now c.in-Ok.edit reply.Done said c.accept.new.self told.0 told.1 takes) c.accept.ensures.ok
