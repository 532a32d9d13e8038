use Rattle.std.proofs.Common.{rules}
use Rattle.std.proofs.lemmas.List.Sorted.{answers_always}
use Rattle.sk_base.specs.declared.Kind.TheVariants.{Point}
use Rattle.sk_base.specs.declared.Node.{Node}
use Rattle.sk_close_by_angles.proofs.Finding.{point_found, no_point}
use Rattle.sk_close_by_angles.proofs.tie_merges.is_point.Goals as goal

pub returns-in-Ok : goal.returns-in-Ok
returns-in-Ok c =
    point_found c.args.graph.now c.as_slice-nodes.result.now c.as_slice-nodes.ensures c.requires c.args.elem c.in-Ok.place c.in-Ok.ensures.bound
    (c.in-Ok.ensures.position (λ (x : Node). x.elem.0) (answers_always _ _ _ (λ f a r g called. search rules)))
    (record { elem = record { 0 = 0 }; kind = Point }) c.is_point_node.result c.is_point_node.ensures

pub returns-in-Err : goal.returns-in-Err
returns-in-Err c = (
  (λ h. absurd (cc)),
  (λ h. absurd (no_point c.args.graph.now c.as_slice-nodes.result.now c.as_slice-nodes.ensures c.requires c.args.elem c.in-Err.field-0
      (c.in-Err.ensures.position (λ (x : Node). x.elem.0) (answers_always _ _ _ (λ f a r g called. search rules))) h)),
)
