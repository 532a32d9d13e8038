use Rattle.std.proofs.Common.{◌≡◌, ◌+◌, ◌<◌, ◌≤◌, ◌++◌, List, [], ◌∷◌, length, get_or, map, take, sym, ap, subst, ◌∙◌}
use Rattle.std.specs.Prelude.{Contains}
use Rattle.std.proofs.lemmas.List.{take_more, take_all, map-append}
use Rattle.std.proofs.lemmas.List.Elements.{Contains-get_or}
use Rattle.sk_base.specs.declared.ConId.{ConId}
use Rattle.sk_base.specs.declared.Constraint.{Constraint}
use Rattle.sk_answers.specs.MeasureReport.{measured_line}
use Rattle.sk_answers.specs.OffsThere.{AreOffsPut}
use Rattle.sk_answers.proofs.OffLines.{offs_more}
use Rattle.sk_answers.proofs.measure.each_off.Goals as goal

abbrev numbers : List Constraint → List ConId
numbers cs = map (λ (c : Constraint). c.number) cs

pub put_one-requires-clause-there : goal.put_one-requires-clause-there
put_one-requires-clause-there c =
    let s = c.args.s.now in
    let i = c.loop-constraint.constraint-index in
    let x : Constraint = c.constraint-item.result in
    let inside = subst (λ (cs : List Constraint). i < length cs) c.as_slice-constraint-items.ensures c.loop-constraint-test.true in
    let its_place : x ≡ get_or s.constraints i x = subst (λ (cs : List Constraint). x ≡ get_or cs i x) c.as_slice-constraint-items.ensures c.constraint-item.is in
    subst (λ (y : Constraint). Contains s.constraints y) (sym its_place) (Contains-get_or s.constraints i x inside)

pub loop-constraint-preserved : goal.loop-constraint-preserved
loop-constraint-preserved c =
    let s = c.args.s.now in
    let at = c.args.at.now in
    let x : Constraint = c.constraint-item.result in
    let i = c.loop-constraint.constraint-index in
    let inside = subst (λ (cs : List Constraint). i < length cs) c.as_slice-constraint-items.ensures c.loop-constraint-test.true in
    let its_place : x ≡ get_or s.constraints i x = subst (λ (cs : List Constraint). x ≡ get_or cs i x) c.as_slice-constraint-items.ensures c.constraint-item.is in
    let (off, there, put) = c.in_ok-put_one.ensures in
    let front : take (i + 1) s.constraints ≡ take i s.constraints ++ x ∷ [] = take_more s.constraints i x inside ∙ ap (λ y. take i s.constraints ++ y ∷ []) (sym its_place) in
    let named : numbers (take (i + 1) s.constraints) ≡ numbers (take i s.constraints) ++ x.number ∷ [] = ap numbers front ∙ map-append (λ (y : Constraint). y.number) (take i s.constraints) (x ∷ []) in
    let told = offs_more (measured_line s) s at (numbers (take i s.constraints)) x.number off c.loop-constraint.text c.loop-constraint.invariant there in
    subst (λ text. AreOffsPut (measured_line s) s at (numbers (take (i + 1) s.constraints)) text) (sym put)
    (subst (λ ks. AreOffsPut (measured_line s) s at ks (c.loop-constraint.text ++ measured_line s x.number off)) (sym named) told)

pub returns : goal.returns
returns c =
    let s = c.args.s.now in
    let i = c.loop-constraint.constraint-index in
    let ended = subst (λ (cs : List Constraint). length cs ≤ i) c.as_slice-constraint-items.ensures c.loop-constraint-test.false in
    subst (λ (cs : List Constraint). AreOffsPut (measured_line s) s c.args.at.now (numbers cs) c.loop-constraint.text) (take_all i s.constraints ended) c.loop-constraint.invariant
