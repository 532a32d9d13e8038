use Rattle.std.proofs.Common.{sym}
use Rattle.std.proofs.lemmas.List.Elements.{All-contains}
use Rattle.sk_base.specs.declared.Element.{Element}
use Rattle.sk_base.specs.SoundSketch.{IsSoundShape}
use Rattle.sk_base.proofs.Finding.{found_in}
use Rattle.sk_drawn.proofs.values.shape_in.Goals as goal

pub returns-in-Some-clause-sound : goal.returns-in-Some-clause-sound
returns-in-Some-clause-sound c =
    All-contains (λ (x : Element). IsSoundShape x.shape) _ _ c.requires.shapes_sound (found_in _ _ _ (sym c.in-Some.ensures)).0
