use Rattle.std.specs.Prelude.{IsNone}
use Rattle.std.proofs.Common.{refl, sym, subst}
use Rattle.sk_verify.proofs.checking.check_elements.Goals as goal

pub returns-in-None-clause-ok : goal.returns-in-None-clause-ok
returns-in-None-clause-ok c = record { joined = c.requires.joined; told = c.unplaced.ensures.none.0 (subst (λ o. IsNone o) (sym c.in-None.is) refl) }
