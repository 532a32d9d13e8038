-- The own sketch of a part that is over makes one cluster with all its elements.
use Rattle.std.proofs.Common.{◌≡◌, inl, inr, List, [], ◌∷◌, ap, sym, subst, ◌∙◌, arith}
use Rattle.std.specs.Prelude.{Contains, map}
use Rattle.sk_base.specs.declared.Elem.{Elem}
use Rattle.sk_base.specs.declared.Constraint.{Constraint}
use Rattle.sk_base.specs.declared.Sketch.{Sketch}
use Rattle.sk_base.specs.SoundSketch.{IsSoundSketch}
use Rattle.sk_family.specs.Body.{Start}
use Rattle.sk_graph.specs.SketchGraph.{graph_of}
use Rattle.sk_rules.specs.Excess.{weight_where, is_inside, held}
use Rattle.sk_verdict.specs.declared.Judgement.{Judgement}
use Rattle.sk_verdict.specs.declared.Part.{Part}
use Rattle.sk_verdict.specs.Judging.{IsOver}
use Rattle.sk_verdict.specs.OneCluster.{IsOneCluster}
use Rattle.sk_verdict.specs.Parts.{AreOfOnePart, part_with}
use Rattle.sk_plan.specs.ConstraintStarts.{constraint_start}
use Rattle.sk_plan.specs.Judged.{IsTheJudgement}
use Rattle.sk_plan.proofs.Starts.{starts_are}
use Rattle.sk_parts.specs.OwnSketch.{part_sketch}
use Rattle.sk_parts.proofs.Drawing.{part_is_sound}
use Rattle.sk_parts.proofs.OwnGraph.{own_node, own_held}
use Rattle.sk_parts.proofs.Sharing.{lone_without}
use Rattle.sk_parts.proofs.WellParts.{alone_in_own}

-- a lone element holds nothing
lone_holds_nothing : (s : Sketch) (e : Elem) → IsSoundSketch s → held (graph_of s) (e ∷ []) ≡ 0
lone_holds_nothing s e sound =
    sym (own_held s (e ∷ []) sound)
    ∙ ap (λ (ss : List Start). weight_where (is_inside (e ∷ [])) ss)
    (starts_are (part_sketch s (e ∷ [])) (part_is_sound s (e ∷ []) sound) ∙ ap (λ (cs : List Constraint). map constraint_start cs) (lone_without s e sound))

-- a part that is over is one cluster in its own sketch
pub over_is_one : (s : Sketch) (j : Judgement) (p : Part) → IsSoundSketch s → IsTheJudgement (graph_of s) j → Contains j.parts p → IsOver p → IsOneCluster (graph_of (part_sketch s p.elements))
over_is_one s j p sound is p_in over =
    let part = ((is.every is.normal is.is_normal).parts p).0 p_in in
    of_cluster p.elements part.0 (subst (λ (q : Part). IsOver q) part.1 over)
  where
    of_cluster : (xs : List Elem) → AreOfOnePart (graph_of s) is.normal xs → IsOver (part_with (graph_of s) xs) → IsOneCluster (graph_of (part_sketch s xs))
    of_cluster xs (inl (x, x_in, same)) over =
        subst (λ (ys : List Elem). IsOneCluster (graph_of (part_sketch s ys))) same
        (let (n, normal, just_it) = alone_in_own s is.normal sound is.is_normal x x_in in record {
          family = n;
          normal = normal;
          whole = x;
          alone = just_it;
          has_nodes = λ m m_in. (own_node s x.elements m m_in).1;
        })
    of_cluster xs (inr (e, lone, same)) over =
        absurd (let none = lone_holds_nothing s e sound in
        let over_alone : IsOver (part_with (graph_of s) (e ∷ [])) = subst (λ (ys : List Elem). IsOver (part_with (graph_of s) ys)) (sym same) over in omega (arith, none, over_alone))
