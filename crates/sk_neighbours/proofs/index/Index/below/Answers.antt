use Rattle.std.proofs.Common.{sym, subst, List, ℕ, take}
use Rattle.std.specs.Prelude.{AllPairs, Contains, ◌↔◌}
use Rattle.sk_neighbours.specs.Indexed.{IsBelowAt, RisesIn}
use Rattle.sk_neighbours.proofs.Walking.{in_front_of}
use Rattle.sk_neighbours.proofs.index.Index.below.Goals as goal

pub count_below-requires-clause-in_order : goal.count_below-requires-clause-in_order
count_below-requires-clause-in_order c = subst (λ (l : List ℕ). AllPairs (RisesIn c.args.self.now.live) l) (sym c.holders-keys.ensures) (c.requires.in_order c.args.elem)

pub count_below-requires-clause-held : goal.count_below-requires-clause-held
count_below-requires-clause-held c k k_in =
    let (d, is, e_in) = c.requires.leads c.args.elem k (subst (λ (l : List ℕ). Contains l k) c.holders-keys.ensures k_in) in (d, is)

pub returns : goal.returns
returns c k =
    subst (λ (l : List ℕ). Contains (take c.count_below.result c.holders-keys.result.now) k ↔ (Contains l k × IsBelowAt c.args.self.now c.args.name k)) c.holders-keys.ensures
    (in_front_of (IsBelowAt c.args.self.now c.args.name) c.holders-keys.result.now c.count_below.result c.count_below.ensures.before c.count_below.ensures.after k)
