use Rattle.std.proofs.Common.{◌≡◌, ◌==◌, List, get_or, rules, sym, subst}
use Rattle.std.specs.Prelude.{Some, find}
use Rattle.std.proofs.lemmas.List.Sorted.{answers_always}
use Rattle.sk_base.specs.declared.graph.Edge.{Edge}
use Rattle.sk_base.specs.Rising.{IsRising}
use Rattle.sk_base.proofs.Halves.{found_first, none_first}
use Rattle.sk_base.proofs.graph.Graph.edge.Goals as goal

pub returns-in-Ok : goal.returns-in-Ok
returns-in-Ok c =
    let edges : List Edge = c.as_slice-edges.result.now in
    let found = c.in-Ok.ensures.position (λ (x : Edge). x.id.0) (answers_always _ _ _ (λ f a r g called. search rules)) in
    let rises : IsRising (λ (x : Edge). x.id.0) edges = rw c.as_slice-edges.ensures c.requires in
    let first = found_first (λ (x : Edge). x.id.0) edges c.args.number.0 rises c.in-Ok.i c.in-Ok.ensures.bound found _ in
    sym (subst (λ (xs : List Edge). find (λ (x : Edge). x.id.0 == c.args.number.0) xs ≡ Some (get_or edges c.in-Ok.i _)) c.as_slice-edges.ensures first)

pub returns-in-Err : goal.returns-in-Err
returns-in-Err c =
    let edges : List Edge = c.as_slice-edges.result.now in
    let found = c.in-Err.ensures.position (λ (x : Edge). x.id.0) (answers_always _ _ _ (λ f a r g called. search rules)) in
    let rises : IsRising (λ (x : Edge). x.id.0) edges = rw c.as_slice-edges.ensures c.requires in
    let none = none_first (λ (x : Edge). x.id.0) edges c.args.number.0 rises c.in-Err.field-0 found in
    sym (rw c.as_slice-edges.ensures at none)
