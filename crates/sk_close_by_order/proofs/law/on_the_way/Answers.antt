use Rattle.sk_close_by_order.proofs.Runs.{picks_sound, picks_room}
use Rattle.sk_close_by_order.proofs.law.on_the_way.Goals as goal

pub returns-clause-sound : goal.returns-clause-sound
returns-clause-sound g c graph = picks_sound g.P.Picker.answer g.P.Picker.after graph

pub returns-clause-room : goal.returns-clause-room
returns-clause-room g c graph = picks_room g.P.Picker.answer g.P.Picker.after graph
