use Rattle.std.specs.Prelude.{map}
use Rattle.sk_close_by_order.specs.Orders.{place_of, next_call}
use Rattle.sk_close_by_order.specs.Run.{merge_of}
use Rattle.sk_close_by_order.proofs.Runs.{picks_sound, picks_room}
use Rattle.sk_session.proofs.closing.close_by_run.Goals as goal

pub returns-in_err-close_family-clause-sound : goal.returns-in_err-close_family-clause-sound
returns-in_err-close_family-clause-sound c =
    let (ms, last, leads) = c.in_err-close_family.ensures.err in
    picks_sound place_of next_call c.args.graph.now c.args.family.now c.close_family.new.family c.new-picker.result last ms c.requires.was_sound leads

pub returns-in_err-close_family-clause-room : goal.returns-in_err-close_family-clause-room
returns-in_err-close_family-clause-room c =
    let (ms, last, leads) = c.in_err-close_family.ensures.err in
    picks_room place_of next_call c.args.graph.now c.args.family.now c.close_family.new.family c.new-picker.result last ms c.requires.was_sound leads

pub returns-clause-sound : goal.returns-clause-sound
returns-clause-sound c =
    picks_sound place_of next_call c.args.graph.now c.args.family.now c.close_family.new.family c.new-picker.result c.close_family.new.picker (map merge_of c.in_ok-close_family.field-0)
    c.requires.was_sound c.in_ok-close_family.ensures.run.leads

pub returns-clause-room : goal.returns-clause-room
returns-clause-room c =
    picks_room place_of next_call c.args.graph.now c.args.family.now c.close_family.new.family c.new-picker.result c.close_family.new.picker (map merge_of c.in_ok-close_family.field-0)
    c.requires.was_sound c.in_ok-close_family.ensures.run.leads
