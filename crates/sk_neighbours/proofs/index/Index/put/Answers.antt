use Rattle.std.proofs.Common.{◌≡◌, ◌⊎◌, subst, List}
use Rattle.std.specs.Prelude.{Contains}
use Rattle.sk_base.specs.declared.Elem.{Elem}
use Rattle.sk_neighbours.specs.Indexed.{holders_of}
use Rattle.sk_neighbours.proofs.Putting.{put_index, put_held, put_updates}
use Rattle.sk_neighbours.proofs.index.Index.put.Goals as goal

pub returns-clause-index : goal.returns-clause-index
returns-clause-index c =
    put_index c.args.self.now c.add_holders.new.self c.args.cluster.now c.in_ok-key.key c.requires.greatest c.in_ok-key.ensures.was_vacant
    (put_updates c.args.self.now c.add_holders.new.self c.args.cluster.now c.in_ok-copy.copy c.in_ok-key.key c.insert.new.self c.in_ok-copy.ensures c.in_ok-add_holders.ensures.live c.in_ok-key.ensures.updates)
    (λ e k. (
      subst (λ (l : List Elem). Contains (holders_of c.add_holders.new.self e) k → (Contains (holders_of c.args.self.now e) k ⊎ (Contains l e × (k ≡ c.in_ok-key.key)))) c.as_slice.ensures (c.in_ok-add_holders.ensures.holders e k).0,
      subst (λ (l : List Elem). (Contains (holders_of c.args.self.now e) k ⊎ (Contains l e × (k ≡ c.in_ok-key.key))) → Contains (holders_of c.add_holders.new.self e) k) c.as_slice.ensures (c.in_ok-add_holders.ensures.holders e k).1,
    )) c.in_ok-add_holders.ensures.order c.requires.index c.requires.rises

pub returns-clause-held : goal.returns-clause-held
returns-clause-held c =
    put_held c.args.self.now c.add_holders.new.self c.args.cluster.now c.in_ok-key.key c.requires.greatest c.in_ok-key.ensures.was_vacant
    (put_updates c.args.self.now c.add_holders.new.self c.args.cluster.now c.in_ok-copy.copy c.in_ok-key.key c.insert.new.self c.in_ok-copy.ensures c.in_ok-add_holders.ensures.live c.in_ok-key.ensures.updates)
    (λ e k. (
      subst (λ (l : List Elem). Contains (holders_of c.add_holders.new.self e) k → (Contains (holders_of c.args.self.now e) k ⊎ (Contains l e × (k ≡ c.in_ok-key.key)))) c.as_slice.ensures (c.in_ok-add_holders.ensures.holders e k).0,
      subst (λ (l : List Elem). (Contains (holders_of c.args.self.now e) k ⊎ (Contains l e × (k ≡ c.in_ok-key.key))) → Contains (holders_of c.add_holders.new.self e) k) c.as_slice.ensures (c.in_ok-add_holders.ensures.holders e k).1,
    )) c.in_ok-add_holders.ensures.order c.requires.index c.requires.rises
