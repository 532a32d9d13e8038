-- Rings of lines and parts, in which an angle is told more than once.
use Rattle.std.specs.Prelude.{◌≢◌, List, Contains}
use Rattle.sk_base.specs.declared.Elem.{Elem}
use Rattle.sk_base.specs.declared.Graph.{Graph}
use Rattle.sk_base.specs.declared.Sketch.{Sketch}
use Rattle.sk_family.specs.Rules.{IsLine}
use Rattle.sk_graph.specs.SketchGraph.{graph_of}
use Rattle.sk_plan.specs.Judged.{IsTheJudgement}
use Rattle.sk_verdict.specs.declared.Judgement.{Judgement}
use Rattle.sk_verdict.specs.declared.Part.{Part}

-- a chain of lines leads from the one to the other, and each two neighbours of it lie in one part other than this one
pub data AreTiedBeside (g : Graph) (parts : List Part) (but : Part) : Elem → Elem → Type 0 where
  same_line : {l : Elem} → AreTiedBeside g parts but l l
  by_part : {l m n : Elem} → IsLine g m → (p : Part) → Contains parts p → p ≢ but → Contains p.elements l → Contains p.elements m → AreTiedBeside g parts but m n → AreTiedBeside g parts but l n

-- two different lines of one part are tied by the other parts, so that their angle is told twice
pub record IsRing (g : Graph) (parts : List Part) : Type 0 where
  pub part : Part
  pub part_in : Contains parts part
  pub one : Elem
  pub other : Elem
  pub differ : one ≢ other
  pub one_line : IsLine g one
  pub other_line : IsLine g other
  pub one_in : Contains part.elements one
  pub other_in : Contains part.elements other
  pub tied : AreTiedBeside g parts part one other

-- the parts of the sketch tell an angle twice
abbrev pub HasRing : Sketch → Type 0
HasRing s = (j : Judgement) × IsTheJudgement (graph_of s) j × IsRing (graph_of s) j.parts
