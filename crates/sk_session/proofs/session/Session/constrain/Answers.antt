use Rattle.sk_edits.proofs.Possible.{can_constrain}
use Rattle.sk_session.proofs.session.Session.constrain.Goals as goal

pub accept-requires-clause-can : goal.accept-requires-clause-can
accept-requires-clause-can c = can_constrain c.args.self.now.edits c.args.constraint c.requires.number c.requires.was_sound c.requires.sound
