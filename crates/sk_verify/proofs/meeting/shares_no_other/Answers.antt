use Rattle.std.proofs.Common.{◌≡◌, ◌≢◌, inl, inr, refl, arith}
use Rattle.std.specs.Prelude.{Contains}
use Rattle.std.proofs.lemmas.List.Elements.{Contains-get_or}
use Rattle.sk_base.specs.declared.Elem.{Elem}
use Rattle.sk_base.specs.Numbering.{elem_exact}
use Rattle.sk_base.proofs.Searches.{none_more, none_at_all, refused}
use Rattle.sk_base.proofs.Unions.{which}
use Rattle.sk_verify.proofs.meeting.shares_no_other.Goals as goal

pub returns-then-is_other_in : goal.returns-then-is_other_in
returns-then-is_other_in c =
    let found = c.is_other_in.ensures.0 c.if-is_other_in.true in
    (λ never. absurd (cc), λ all. absurd (found.0 (all _ (Contains-get_or c.args.xs.now c.loop-x.x-index (record { 0 = 0 }) c.loop-x-test.true, found.1))))

pub loop-x-preserved : goal.loop-x-preserved
loop-x-preserved c = none_more (λ (x : Elem). (x ≢ c.args.elem) × Contains c.args.ys.now x) c.args.xs.now c.loop-x.x-index c.loop-x.invariant (record { 0 = 0 }) c.loop-x-test.true (refused (rw c.if-is_other_in.false at c.is_other_in.ensures.1))

pub returns : goal.returns
returns c = (
  λ is e shared. (let other : ¬ ((e ≢ c.args.elem) × Contains c.args.ys.now e) = none_at_all (λ (x : Elem). (x ≢ c.args.elem) × Contains c.args.ys.now x) c.args.xs.now c.loop-x.x-index c.loop-x.invariant c.loop-x-test.false e shared.0 in
      elim (which e.0 c.args.elem.0) [
        | inl less ↦ absurd (other ((λ same. absurd (let level : e.0 ≡ c.args.elem.0 = cc in omega arith)), shared.1))
        | inr (inl level) ↦ elem_exact e c.args.elem level
        | inr (inr more) ↦ absurd (other ((λ same. absurd (let level : e.0 ≡ c.args.elem.0 = cc in omega arith)), shared.1))
      ]),
  λ all. refl,
)
