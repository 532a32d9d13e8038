-- The graph of a sketch by new numbers is its graph, each node, each constraint and each block by new numbers.
use Rattle.std.proofs.Common.{◌≡◌, ℤ, true, false, Bool, cond, List, [], ◌∷◌, map, refl, sym, ap, ◌∙◌}
use Rattle.std.specs.Prelude.{Contains, Option, Some, None, IsSome, nat_lt}
use Rattle.std.specs.List.{filter_map, cons_option}
use Rattle.std.specs.Option.{option_map}
use Rattle.std.proofs.lemmas.List.Elements.{All-contains}
use Rattle.std.proofs.lemmas.Simd.{map-map}
use Rattle.sk_base.specs.declared.Block.{Block}
use Rattle.sk_base.specs.declared.ConId.{ConId}
use Rattle.sk_base.specs.declared.Constraint.{Constraint}
use Rattle.sk_base.specs.declared.Edge.{Edge}
use Rattle.sk_base.specs.declared.Elem.{Elem}
use Rattle.sk_base.specs.declared.Graph.{Graph}
use Rattle.sk_base.specs.declared.Node.{Node}
use Rattle.sk_base.specs.declared.Rule.{Rule}
use Rattle.sk_base.specs.declared.Rule.TheVariants.{Distance, On, Tangent, Outside, Inside, Angle}
use Rattle.sk_base.specs.declared.Rule.TheVariants as rules
use Rattle.sk_base.specs.declared.Shape.{Shape}
use Rattle.sk_base.specs.declared.Sketch.{Sketch}
use Rattle.sk_base.specs.declared.Um.{Um}
use Rattle.sk_base.specs.Drawn.{shape_of, is_line}
use Rattle.sk_base.specs.SoundSketch.{IsSoundSketch, IsSoundRule, MayJoin, MayBeApart, MayLieOn, AreCircles, MayNest}
use Rattle.sk_base.proofs.Members.{contains_head, contains_later}
use Rattle.sk_graph.specs.SketchGraph.{node_of, drawn_as, apart, distance_edge, on_edge, tangent_edge, rule_edge, edge_of, rule_block, block_of, graph_of}
use Rattle.sk_graph.proofs.Fittings.{both_drawn}
use Rattle.sk_graph.proofs.Given.{given_from}
use Rattle.sk_graph.proofs.Soundness.{drawn_in, given_edge_id, given_block_id}
use Rattle.sk_lang.specs.Renumbered.{place_of as new_element, pin_renumbered, rule_renumbered}
use Rattle.sk_claims.specs.ClaimText.{IsDeclared}
use Rattle.sk_edits.specs.Making.{HasConstraint}
use Rattle.sk_laws.specs.NewNumbers.{new_constraint}
use Rattle.sk_laws.proofs.Renumbering.{each_renumbered, element_renumbered, constraint_renumbered, element_order, drawn_again}

abbrev pub node_renumbered : Sketch → Node → Node
node_renumbered s n = record n { elem = new_element s n.elem }

abbrev pub edge_renumbered : Sketch → Edge → Edge
edge_renumbered s e = record { id = new_constraint s e.id; u = new_element s e.u; v = new_element s e.v; measure = e.measure }

abbrev pub block_renumbered : Sketch → Block → Block
block_renumbered s b = record { id = new_constraint s b.id; pins = map (pin_renumbered s) b.pins }

abbrev pub graph_renumbered : Sketch → Graph → Graph
graph_renumbered s g = record { nodes = map (node_renumbered s) g.nodes; edges = map (edge_renumbered s) g.edges; blocks = map (block_renumbered s) g.blocks }

-- where what each gives is mapped, so is what all give
module _ {X Y Z W : Type 0} (f : X → Option Y) (h : Z → Option W) (r : X → Z) (q : Y → W) where
  given_again : (xs : List X) → ((x : X) → Contains xs x → h (r x) ≡ option_map q (f x)) → filter_map h (map r xs) ≡ map q (filter_map f xs)
  given_again [] same = refl
  given_again (x ∷ xs) same =
      ap (λ o. cons_option o (filter_map h (map r xs))) (same x (contains_head x xs))
      ∙ ap (λ ys. cons_option (option_map q (f x)) ys) (given_again xs (λ y y_in. same y (contains_later x xs y y_in)))
      ∙ by (f x)
    where
      by : (o : Option Y) → cons_option (option_map q o) (map q (filter_map f xs)) ≡ map q (cons_option o (filter_map f xs))
      by None = refl
      by (Some y) = refl

block_again : (s : Sketch) (k : ConId) (rule : Rule) → rule_block (new_constraint s k) (rule_renumbered s rule) ≡ option_map (block_renumbered s) (rule_block k rule)
block_again s k (Distance u v len) = refl
block_again s k (On u v) = refl
block_again s k (Tangent u v) = refl
block_again s k (Outside u v) = refl
block_again s k (Inside u v) = refl
block_again s k (Angle l m ratio) = refl
block_again s k (rules.Block pins) = refl

-- what is drawn is declared
drawn_declared : (s : Sketch) (u : Elem) → IsSome (shape_of s u) → IsDeclared s u
drawn_declared s u some = by (shape_of s u) refl some
  where
    by : (o : Option Shape) → shape_of s u ≡ o → IsSome o → IsDeclared s u
    by None is some = cc
    by (Some shape) is some = let found = drawn_in s u shape is in (found.0, found.1, found.2)

joined_declared : (s : Sketch) (fits : Shape → Shape → Type 0) (u v : Elem) → MayJoin s fits u v → IsDeclared s u × IsDeclared s v
joined_declared s fits u v may = let drawn = both_drawn s fits u v may in (drawn_declared s u drawn.first, drawn_declared s v drawn.second)

module _ (s : Sketch) (sound : IsSoundSketch s) where
  module _ (k : ConId) where
    either_again : (t : Bool) (x y x' y' : Edge) → x' ≡ edge_renumbered s x → y' ≡ edge_renumbered s y → cond t x' y' ≡ edge_renumbered s (cond t x y)
    either_again true x y x' y' first second = first
    either_again false x y x' y' first second = second

    apart_again : (u v : Elem) (len : ℤ) → IsDeclared s u × IsDeclared s v → apart (new_constraint s k) (new_element s u) (new_element s v) len ≡ edge_renumbered s (apart k u v len)
    apart_again u v len (u_in, v_in) = rw (element_order s sound u v u_in v_in) (either_again (nat_lt u.0 v.0) _ _ _ _ refl refl)

    distance_again : (u v : Elem) (len : Um) (a b : Shape) → IsDeclared s u × IsDeclared s v → distance_edge (new_constraint s k) (new_element s u) (new_element s v) len a b ≡ edge_renumbered s (distance_edge k u v len a b)
    distance_again u v len a b both = either_again (is_line a) _ _ _ _ refl (either_again (is_line b) _ _ _ _ refl (apart_again u v len.0 both))

    on_again : (u v : Elem) (b : Shape) → IsDeclared s u × IsDeclared s v → on_edge (new_constraint s k) (new_element s u) (new_element s v) b ≡ edge_renumbered s (on_edge k u v b)
    on_again u v b both = either_again (is_line b) _ _ _ _ refl (apart_again u v _ both)

    tangent_again : (u v : Elem) (a b : Shape) → tangent_edge (new_constraint s k) (new_element s u) (new_element s v) a b ≡ edge_renumbered s (tangent_edge k u v a b)
    tangent_again u v a b = either_again (is_line a) _ _ _ _ refl refl

    edge_again : (rule : Rule) → IsSoundRule s rule → rule_edge (each_renumbered s) (new_constraint s k) (rule_renumbered s rule) ≡ option_map (edge_renumbered s) (rule_edge s k rule)
    edge_again (Distance u v len) fits = rw (drawn_again s sound u, drawn_again s sound v) (ap Some (distance_again u v len (drawn_as s u) (drawn_as s v) (joined_declared s MayBeApart u v fits.0)))
    edge_again (On u v) fits = rw (drawn_again s sound v) (ap Some (on_again u v (drawn_as s v) (joined_declared s MayLieOn u v fits)))
    edge_again (Tangent u v) fits = rw (drawn_again s sound u, drawn_again s sound v) (ap Some (tangent_again u v (drawn_as s u) (drawn_as s v)))
    edge_again (Outside u v) fits = rw (drawn_again s sound u, drawn_again s sound v) (ap Some (apart_again u v _ (joined_declared s AreCircles u v fits)))
    edge_again (Inside u v) fits = rw (drawn_again s sound u, drawn_again s sound v) (ap Some (apart_again u v _ (joined_declared s MayNest u v fits)))
    edge_again (Angle l m ratio) fits = rw (drawn_again s sound l, drawn_again s sound m) refl
    edge_again (rules.Block pins) fits = refl

  pub graph_again : graph_of (each_renumbered s) ≡ graph_renumbered s (graph_of s)
  graph_again =
      let make : List Node → List Edge → List Block → Graph = λ nodes edges blocks. record { nodes = nodes; edges = edges; blocks = blocks } in
      let again = each_renumbered s in
      let g = graph_of s in
      let nodes : (graph_of again).nodes ≡ map (node_renumbered s) g.nodes = map-map node_of (element_renumbered s) s.elements ∙ sym (map-map (node_renumbered s) node_of s.elements) in
      let edges : (graph_of again).edges ≡ map (edge_renumbered s) g.edges = given_again (edge_of s) (edge_of again) (constraint_renumbered s) (edge_renumbered s) s.constraints
      (λ c c_in. edge_again c.number c.rule (All-contains (λ (d : Constraint). IsSoundRule s d.rule) s.constraints c sound.rules_sound c_in)) in
      let blocks : (graph_of again).blocks ≡ map (block_renumbered s) g.blocks = given_again block_of block_of (constraint_renumbered s) (block_renumbered s) s.constraints (λ c c_in. block_again s c.number c.rule) in
      ap (λ n. make n (graph_of again).edges (graph_of again).blocks) nodes ∙ ap (λ e. make (map (node_renumbered s) g.nodes) e (graph_of again).blocks) edges
      ∙ ap (λ b. make (map (node_renumbered s) g.nodes) (map (edge_renumbered s) g.edges) b) blocks

pub edge_numbered : (s : Sketch) (e : Edge) → Contains (graph_of s).edges e → HasConstraint s e.id
edge_numbered s e e_in = (let from = given_from (edge_of s) s.constraints e e_in in (from.0, from.1, sym (given_edge_id s from.0 e from.2)))

pub block_numbered : (s : Sketch) (b : Block) → Contains (graph_of s).blocks b → HasConstraint s b.id
block_numbered s b b_in = (let from = given_from block_of s.constraints b b_in in (from.0, from.1, sym (given_block_id from.0 b from.2)))
