use Rattle.std.proofs.Common.{◌++◌, ◌∷◌, [], ℕ, List as Items, Option as Maybe, Some, ap, ◌∙◌}
use Rattle.sk_base.proofs.Searches.{on_ok}
use Rattle.sk_place.specs.Slots.{slots_of, HaveOwnKeys}
use Rattle.sk_place.proofs.Keys.{own_still, own_more, slots_more, either_way}
use Rattle.sk_place.proofs.live.Live.push.Goals as goal

pub invariant_of-self-2 : goal.invariant_of-self-2
invariant_of-self-2 g c =
    either_way (λ (keys : Items (Maybe ℕ)). HaveOwnKeys c.insert.new.self keys) c.push.result c.push.new.self (c.self.inside.keys ++ Some c.in_ok-key.key ∷ []) c.self.inside.keys
    c.push.ensures.ok c.push.ensures.err
    (own_more c.self.inside.boxes c.insert.new.self c.self.inside.keys c.in_ok-key.key c.args.boxes c.self.invariant c.in_ok-key.ensures.was_vacant c.in_ok-key.ensures.updates)
    (own_still c.self.inside.boxes c.insert.new.self c.self.inside.keys c.in_ok-key.key c.args.boxes c.self.invariant c.in_ok-key.ensures.was_vacant c.in_ok-key.ensures.updates)

pub returns : goal.returns
returns g c =
    on_ok c.push.result c.push.ensures.ok (λ is.
    ap (λ (keys : Items (Maybe ℕ)). slots_of c.insert.new.self keys) is
    ∙ slots_more c.self.inside.boxes c.insert.new.self c.self.inside.keys c.in_ok-key.key c.args.boxes c.self.invariant c.in_ok-key.ensures.was_vacant c.in_ok-key.ensures.updates
    ∙ ap (λ (slots : Items (Maybe _)). slots ++ Some c.args.boxes ∷ []) c.self.view_is)
