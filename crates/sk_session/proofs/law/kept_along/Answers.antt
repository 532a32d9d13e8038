use Rattle.sk_session.proofs.Following.{follows_edit, follows_undo}
use Rattle.sk_session.proofs.law.kept_along.Goals as goal

pub returns-clause-follows : goal.returns-clause-follows
returns-clause-follows c e s old new was_sound sound can reach follows = follows_edit s old new was_sound sound e can reach follows

pub returns-clause-follows_back : goal.returns-clause-follows_back
returns-clause-follows_back c e s old new was_sound sound can reach follows = follows_undo s old new was_sound sound e can reach follows
