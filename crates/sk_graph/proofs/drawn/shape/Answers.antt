use Rattle.std.proofs.Common.{sym}
use Rattle.std.proofs.lemmas.List.Elements.{All-contains}
use Rattle.sk_base.specs.declared.sketch.Element.{Element}
use Rattle.sk_base.specs.SoundSketch.{IsSoundShape}
use Rattle.sk_base.proofs.Finding.{found_in}
use Rattle.sk_orient.proofs.Papers.{on_paper}
use Rattle.sk_graph.proofs.drawn.shape.Goals as goal

pub returns-clause-sound : goal.returns-clause-sound
returns-clause-sound c =
    All-contains (λ (x : Element). IsSoundShape x.shape) _ _ c.requires.sketch.shapes_sound (found_in _ _ _ (sym c.in-Some.ensures)).0

pub returns-clause-on_paper : goal.returns-clause-on_paper
returns-clause-on_paper c =
    on_paper _ (All-contains (λ (x : Element). IsSoundShape x.shape) _ _ c.requires.sketch.shapes_sound (found_in _ _ _ (sym c.in-Some.ensures)).0)
