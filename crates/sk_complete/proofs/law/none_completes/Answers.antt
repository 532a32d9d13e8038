use Rattle.std.proofs.Common.{List, length, sym, subst}
use Rattle.std.specs.Prelude.{All, ◌<◌}
use Rattle.sk_base.specs.declared.Element.{Element}
use Rattle.sk_base.specs.Drawn.{IsLine}
use Rattle.sk_complete.proofs.Angles.{ring_already}
use Rattle.sk_complete.proofs.Hopeless.{few_lines, enough_alone}
use Rattle.sk_complete.proofs.OverAlready.{over_already}
use Rattle.sk_complete.proofs.law.none_completes.Goals as goal

pub returns-clause-lines : goal.returns-clause-lines
returns-clause-lines c s t among sound (many, lines) =
    few_lines t sound
    (subst (λ (es : List Element). 2 < length es) (sym among.elements) many)
    (subst (λ (es : List Element). All (λ (e : Element). IsLine e.shape) es) (sym among.elements) lines)

pub returns-clause-enough : goal.returns-clause-enough
returns-clause-enough c s t among sound some enough well = enough_alone s t among sound some well enough

pub returns-clause-over : goal.returns-clause-over
returns-clause-over c s t among s_sound t_sound some (j, judged, is) = over_already s t among s_sound t_sound j judged is some

pub returns-clause-angles : goal.returns-clause-angles
returns-clause-angles c s t among s_sound t_sound some ring = ring_already s t among s_sound t_sound ring some
