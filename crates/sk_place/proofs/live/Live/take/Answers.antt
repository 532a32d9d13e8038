use Rattle.std.proofs.Common.{ℕ, List as Items, Option as Maybe, Some, None, IsSome, get_or, set, sym, subst, ap, ◌∙◌}
use Rattle.sk_place.specs.Slots.{slot_of, slots_of}
use Rattle.sk_place.proofs.Keys.{read, slot_at, own_left, slots_left, never_none}
use Rattle.sk_place.proofs.live.Live.take.Goals as goal

pub invariant_of-self : goal.invariant_of-self
invariant_of-self g c =
    rw c.in-Some.ensures.new
    (own_left c.self.inside.boxes c.remove.new.self c.self.inside.keys c.args.step c.in-Some.key c.self.invariant (slot_at c.self.inside.keys c.args.step (Some c.in-Some.key) c.in-Some.ensures.old) c.remove.ensures.updates)

pub unreachable-requires : goal.unreachable-requires
unreachable-requires g c =
    never_none c.self.inside.boxes c.self.inside.keys c.args.step (slot_at c.self.inside.keys c.args.step None c.in-None.ensures.old)
    (subst (λ (slots : Items (Maybe _)). IsSome (get_or slots c.args.step None)) (sym c.self.view_is) c.requires)

pub returns-clause-boxes : goal.returns-clause-boxes
returns-clause-boxes g c =
    ap (λ (slots : Items (Maybe _)). get_or slots c.args.step None) (sym c.self.view_is)
    ∙ read c.self.inside.boxes c.self.inside.keys c.args.step
    ∙ ap (λ (k : Maybe ℕ). slot_of c.self.inside.boxes k) (slot_at c.self.inside.keys c.args.step (Some c.in-Some.key) c.in-Some.ensures.old)
    ∙ c.remove.ensures.value

pub returns-clause-rest : goal.returns-clause-rest
returns-clause-rest g c =
    ap (λ (keys : Items (Maybe ℕ)). slots_of c.remove.new.self keys) c.in-Some.ensures.new
    ∙ slots_left c.self.inside.boxes c.remove.new.self c.self.inside.keys c.args.step c.in-Some.key c.self.invariant (slot_at c.self.inside.keys c.args.step (Some c.in-Some.key) c.in-Some.ensures.old) c.remove.ensures.updates
    ∙ ap (λ (slots : Items (Maybe _)). set slots c.args.step None) c.self.view_is
