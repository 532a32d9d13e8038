use Rattle.std.proofs.Common.{List, subst}
use Rattle.sk_base.specs.declared.Element.{Element}
use Rattle.sk_verify.specs.Stepping.{IsTelling}
use Rattle.sk_verify.proofs.Answering.{none_untold, some_untold}
use Rattle.sk_verify.proofs.told.unplaced.Goals as goal

telling : (c : goal.After-first_untold) → IsTelling c.args.claim.now c.args.s.now.elements c.first_untold.result
telling c = subst (λ (xs : List Element). IsTelling c.args.claim.now xs c.first_untold.result) c.as_slice.ensures c.first_untold.ensures

pub returns-clause-none : goal.returns-clause-none
returns-clause-none c = none_untold c.args.claim.now c.args.s.now.elements c.first_untold.result (telling c)

pub returns-clause-some : goal.returns-clause-some
returns-clause-some c = some_untold c.args.claim.now c.args.s.now.elements c.first_untold.result (telling c)
