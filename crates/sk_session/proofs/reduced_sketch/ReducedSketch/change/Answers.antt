use Rattle.std.proofs.Common.{sym, subst}
use Rattle.sk_base.specs.declared.Sketch.{Sketch}
use Rattle.sk_edits.specs.Making.{CanMake}
use Rattle.sk_session.specs.Following.{IsReachedIn}
use Rattle.sk_session.specs.Past.{edit_of, Stood}
use Rattle.sk_session.proofs.reduced_sketch.ReducedSketch.change.Goals as goal

pub change-requires-clause-can : goal.change-requires-clause-can
change-requires-clause-can c = subst (λ (s : Sketch). CanMake (edit_of c.args.done.now) s) (sym c.self.view_is) c.requires.can

pub change-requires-clause-stood : goal.change-requires-clause-stood
change-requires-clause-stood c = subst (λ (s : Sketch). Stood c.args.done.now s) (sym c.self.view_is) c.requires.stood

pub change-requires-clause-reached : goal.change-requires-clause-reached
change-requires-clause-reached c = subst (λ (s : Sketch). IsReachedIn s c.args.family.now) (sym c.self.view_is) c.requires.reached
