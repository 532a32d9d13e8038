-- What a sound sketch draws is within the limits.
use Rattle.sk_base.specs.declared.sketch.Shape.{Shape}
use Rattle.sk_base.specs.declared.sketch.Shape.TheVariants.{Point, Line, Circle}
use Rattle.sk_base.specs.SoundSketch.{IsSoundShape}
use Rattle.sk_orient.specs.DrawnSigns.{IsOnPaper}

pub on_paper : (x : Shape) → IsSoundShape x → IsOnPaper x
on_paper (Point x y) sound = sound
on_paper (Line x1 y1 x2 y2) sound = (sound.0, sound.1, sound.2, sound.3)
on_paper (Circle x y r) sound = (sound.0, sound.1)
