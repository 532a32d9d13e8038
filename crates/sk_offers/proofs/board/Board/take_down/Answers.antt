use Rattle.std.proofs.Common.{ap, refl, sym, subst}
use Rattle.sk_base.specs.declared.Name.TheVariants.{Step}
use Rattle.sk_rules.specs.declared.Taken.{Taken}
use Rattle.sk_rules.specs.Merges.{IsLeastShared}
use Rattle.sk_rules.specs.Taking.{IsTaken}
use Rattle.sk_offers.specs.Offering.{Table, TakesDown}
use Rattle.sk_offers.proofs.Boards.{sound_after}
use Rattle.sk_offers.proofs.board.Board.take_down.Goals as goal

-- what is put down is a merge that is taken
is_taken : (c : goal.In-Ok) → IsTaken c.self.inside.graph c.self.inside.family (record { step = Step c.next_step.result; merge = c.args.merge; shared = c.args.shared })
is_taken c = record {
  falls = c.requires.falls;
  shared = subst (λ (t : Table). IsLeastShared t.graph t.family c.args.merge c.args.shared) (sym c.self.view_is) c.requires.shown;
  is_next = ap Step c.next_step.ensures;
}

pub invariant_of-self-in-Ok : goal.invariant_of-self-in-Ok
invariant_of-self-in-Ok c =
    sound_after (record { graph = c.self.inside.graph; family = c.self.inside.family; taken = c.self.inside.taken }) c.self.invariant
    (record { step = Step c.next_step.result; merge = c.args.merge; shared = c.args.shared }) (is_taken c)
    c.do_merge.new.family c.in-Ok.ensures.ok c.in-Ok.ensures.step c.in-Ok.ensures.fewer
    c.push.new.self c.in_ok-push.ensures.ok

pub returns-in-Ok-clause-ok : goal.returns-in-Ok-clause-ok
returns-in-Ok-clause-ok c =
    let put : Taken = record { step = Step c.next_step.result; merge = c.args.merge; shared = c.args.shared } in
    let new : Table = record { graph = c.self.inside.graph; family = c.do_merge.new.family; taken = c.push.new.self } in
    subst (λ (t : Table). TakesDown t c.args.merge new) c.self.view_is (record {
      put = put;
      merge = refl;
      is_taken = is_taken c;
      table = rw (c.in-Ok.ensures.ok, c.in_ok-push.ensures.ok) refl;
    })
