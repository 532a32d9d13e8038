use Rattle.std.proofs.Common.{◌≡◌, ◌∙◌, refl}
use Rattle.sk_gen.specs.DatumSketch.{point_name}
use Rattle.sk_gen.proofs.PointNames.{point_is_named}
use Rattle.sk_gen.proofs.elements.point_label.Goals as goal

pub label-requires : goal.label-requires
label-requires c =
    let bytes : c.as_bytes.result.now ≡ point_name c.args.k = c.as_bytes.ensures.value ∙ c.in_ok-name.ensures.ok in
    rw (bytes, point_is_named c.args.k c.requires) refl
