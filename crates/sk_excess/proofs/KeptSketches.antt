-- Sketches without the constraints that are left out: they are sound, and so are their graphs.
use Rattle.std.proofs.Common.{◌≡◌, ◌<◌, Bool, true, false, cond, List, [], ◌∷◌, get_or, refl, ap, sym, ◌∙◌, arith}
use Rattle.std.specs.Prelude.{map, filter, not, Option, None, Some}
use Rattle.std.specs.List.{filter_map, cons_option}
use Rattle.std.proofs.lemmas.List.Filters.{length-filter_both}
use Rattle.std.proofs.lemmas.List.Elements.{All-filter}
use Rattle.sk_base.specs.declared.ConId.{ConId}
use Rattle.sk_base.specs.declared.Edge.{Edge}
use Rattle.sk_base.specs.declared.Block.{Block}
use Rattle.sk_base.specs.declared.Graph.{Graph}
use Rattle.sk_base.specs.declared.Rule.{Rule}
use Rattle.sk_base.specs.declared.Rule.TheVariants as rule
use Rattle.sk_base.specs.declared.Constraint.{Constraint}
use Rattle.sk_base.specs.declared.Sketch.{Sketch}
use Rattle.sk_base.specs.SoundSketch.{IsSoundSketch, IsSoundRule}
use Rattle.sk_base.proofs.Pairs.{pairs_filter}
use Rattle.sk_graph.specs.SketchGraph.{node_of, rule_edge, edge_of, block_of, graph_of}
use Rattle.sk_graph.proofs.Drawing.{rule_alike}
use Rattle.sk_graph.proofs.Soundness.{given_edge_id, given_block_id}
use Rattle.sk_excess.specs.LeftOut.{is_kept, kept_graph}
use Rattle.sk_excess.specs.KeptSketch.{kept_sketch}

-- what is given for the items that pass is what passes of what is given
given_filtered : {X Y : Type 0} (f : X → Option Y) (p : X → Bool) (q : Y → Bool) → ((x : X) (y : Y) → f x ≡ Some y → q y ≡ p x) → (xs : List X)
    → filter_map f (filter p xs) ≡ filter q (filter_map f xs)
given_filtered f p q agree [] = refl
given_filtered {Y = Y} f p q agree (x ∷ xs) = told (f x) refl (p x) refl (given_filtered f p q agree xs)
  where
    told : (o : Option Y) → f x ≡ o → (t : Bool) → p x ≡ t → filter_map f (filter p xs) ≡ filter q (filter_map f xs)
        → filter_map f (cond t (x ∷ filter p xs) (filter p xs)) ≡ filter q (cons_option o (filter_map f xs))
    told None is true passes rest = ap (λ z. cons_option z (filter_map f (filter p xs))) is ∙ rest
    told None is false fails rest = rest
    told (Some y) is true passes rest =
        ap (λ z. cons_option z (filter_map f (filter p xs))) is ∙ ap (λ l. y ∷ l) rest
        ∙ sym (ap (λ b. cond b (y ∷ filter q (filter_map f xs)) (filter q (filter_map f xs))) (agree x y is ∙ passes))
    told (Some y) is false fails rest =
        rest ∙ sym (ap (λ b. cond b (y ∷ filter q (filter_map f xs)) (filter q (filter_map f xs))) (agree x y is ∙ fails))

given_same : {X Y : Type 0} (f h : X → Option Y) → ((x : X) → f x ≡ h x) → (xs : List X) → filter_map f xs ≡ filter_map h xs
given_same f h same [] = refl
given_same f h same (x ∷ xs) = ap (λ o. cons_option o (filter_map f xs)) (same x) ∙ ap (λ l. cons_option (h x) l) (given_same f h same xs)

module _ (left : List ConId) (s : Sketch) where
  abbrev kept : Sketch
  kept = kept_sketch left s

  abbrev passes : Constraint → Bool
  passes c = is_kept left c.number

  -- its elements are drawn as they were
  edge_stays : (id : ConId) (r : Rule) → rule_edge kept id r ≡ rule_edge s id r
  edge_stays id (rule.Distance u v len) = refl
  edge_stays id (rule.On u v) = refl
  edge_stays id (rule.Tangent u v) = refl
  edge_stays id (rule.Outside u v) = refl
  edge_stays id (rule.Inside u v) = refl
  edge_stays id (rule.Angle l m ratio) = refl
  edge_stays id (rule.Block pins) = refl

  pub kept_graph_is : graph_of kept ≡ kept_graph left (graph_of s)
  kept_graph_is =
      ap (λ (es : List Edge). let h : Graph = record { nodes = map node_of s.elements; edges = es; blocks = filter_map block_of kept.constraints } in h)
      (given_same (edge_of kept) (edge_of s) (λ c. edge_stays c.number c.rule) kept.constraints
      ∙ given_filtered (edge_of s) passes (λ (e : Edge). is_kept left e.id) (λ c e is. ap (λ (k : ConId). is_kept left k) (given_edge_id s c e is)) s.constraints)
      ∙ ap (λ (bs : List Block). let h : Graph = record { nodes = map node_of s.elements; edges = filter (λ (e : Edge). is_kept left e.id) (filter_map (edge_of s) s.constraints); blocks = bs } in h)
      (given_filtered block_of passes (λ (b : Block). is_kept left b.id) (λ c b is. ap (λ (k : ConId). is_kept left k) (given_block_id c b is)) s.constraints)

  pub kept_is_sound : IsSoundSketch s → IsSoundSketch kept
  kept_is_sound sound = record {
    elements_rise = sound.elements_rise;
    constraints_rise = pairs_filter (λ (x y : Constraint). x.number.0 < y.number.0) passes s.constraints sound.constraints_rise;
    labels_are_names = sound.labels_are_names;
    labels_differ = sound.labels_differ;
    few_elements = sound.few_elements;
    few_constraints = (let both = length-filter_both passes (λ (c : Constraint). not (passes c)) (λ c. refl) s.constraints in let few = sound.few_constraints in omega arith);
    shapes_sound = sound.shapes_sound;
    rules_sound = λ k d below.
        rule_alike s kept (get_or (filter passes s.constraints) k d).rule (λ u named. refl)
        (All-filter passes (λ (c : Constraint). IsSoundRule s c.rule) s.constraints sound.rules_sound k d below);
  }
