use Rattle.std.proofs.Common.{sym, ap, ◌∙◌, refl}
use Rattle.sk_base.proofs.Searches.{if_none}
use Rattle.sk_family.specs.declared.Overlap.{Overlap}
use Rattle.sk_family.specs.Sharing.{shared}
use Rattle.sk_rules.proofs.LeastPairs.{none_first, none_second, first_two}
use Rattle.sk_rules.proofs.shared.least_pair.Goals as goal

pub returns-in_err-first-clause-none : goal.returns-in_err-first-clause-none
returns-in_err-first-clause-none c =
    let xs = c.args.a.now.elements in
    let ys = c.args.b.now.elements in
    if_none c.from_residual.result (none_first xs ys (shared xs ys) refl (sym (ap (λ (o : Overlap). o.first) c.common-overlap.ensures.counted) ∙ c.in_err-first.was))

pub returns-in_err-second-clause-none : goal.returns-in_err-second-clause-none
returns-in_err-second-clause-none c =
    let xs = c.args.a.now.elements in
    let ys = c.args.b.now.elements in
    if_none c.from_residual-in_err-second.result (none_second xs ys (shared xs ys) refl (sym (ap (λ (o : Overlap). o.second) c.common-overlap.ensures.counted) ∙ c.in_err-second.was))

pub returns-clause-some : goal.returns-clause-some
returns-clause-some c =
    let xs = c.args.a.now.elements in
    let ys = c.args.b.now.elements in
    first_two xs ys c.requires (shared xs ys) refl c.in_ok-first.first c.in_ok-second.second
    (sym (ap (λ (o : Overlap). o.first) c.common-overlap.ensures.counted) ∙ c.in_ok-first.was)
    (sym (ap (λ (o : Overlap). o.second) c.common-overlap.ensures.counted) ∙ c.in_ok-second.was)
