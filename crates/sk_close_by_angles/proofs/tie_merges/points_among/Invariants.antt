use Rattle.std.proofs.Common.{◌≡◌, [], take}
use Rattle.sk_base.specs.declared.Elem.{Elem}
use Rattle.sk_base.specs.declared.Kind.TheVariants.{Point}
use Rattle.sk_base.specs.SoundGraph.{HasNode}
use Rattle.sk_triangles.specs.Growing.{GrowsBy, FromSome}
use Rattle.sk_close_by_angles.proofs.tie_merges.points_among.Given as goal

abbrev pub invariant-loop-elem : goal.invariant-loop-elem
invariant-loop-elem l = GrowsBy (FromSome (λ (e d : Elem). HasNode l.graph e Point × (d ≡ e)) (take l.elem-index l.elements)) [] l.points
