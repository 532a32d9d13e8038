use Rattle.sk_edits.proofs.Possible.{can_declare}
use Rattle.sk_session.proofs.session.Session.declare.Goals as goal

pub accept-requires-clause-can : goal.accept-requires-clause-can
accept-requires-clause-can c = can_declare c.args.self.now.edits c.args.element c.requires.number c.requires.was_sound c.requires.sound
