use Rattle.std.proofs.Common.{inl, inr, refl}
use Rattle.sk_measure.specs.Items.{constraint}
use Rattle.sk_tolerance.proofs.worst.Worst.with_distance.Goals as goal

pub returns-in-PointPoint : goal.returns-in-PointPoint
returns-in-PointPoint c = λ items told.
    let more = c.with.ensures c.args.p.now items (constraint c.args.e.now) told c.own_least.ensures refl in
    elim c.in-PointPoint.is [ inl h ↦ rw h.1 more | inr h ↦ rw h.2 more ]
