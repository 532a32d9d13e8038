-- What the constraints of a well sketch weigh.
use Rattle.std.proofs.Common.{◌≡◌, ◌≢◌, ℕ, ◌+◌, ◌*◌, ◌-◌, ◌<◌, Bool, true, List, [], ◌∷◌, length, refl, ap, sym, subst, ◌∙◌, arith}
use Rattle.std.specs.Prelude.{All, Contains, filter, map, not, sum_by}
use Rattle.std.specs.List.{filter_map}
use Rattle.std.proofs.lemmas.List.{length-map}
use Rattle.std.proofs.lemmas.List.Elements.{All-head, All-tail}
use Rattle.std.proofs.lemmas.List.Filters.{sum_by-filter_both}
use Rattle.std.proofs.lemmas.List.Sums.{sum_by-cons}
use Rattle.sk_base.specs.declared.Edge.{Edge}
use Rattle.sk_base.specs.declared.Block.{Block}
use Rattle.sk_base.specs.declared.Graph.{Graph}
use Rattle.sk_base.specs.declared.Constraint.{Constraint}
use Rattle.sk_base.specs.declared.Rule.{Rule}
use Rattle.sk_base.specs.declared.Rule.TheVariants as rule
use Rattle.sk_base.specs.declared.Sketch.{Sketch}
use Rattle.sk_base.specs.Numbering.{con_number, con_exact}
use Rattle.sk_base.specs.Pins.{AreSoundPins}
use Rattle.sk_base.specs.SoundSketch.{IsSoundSketch, IsSoundRule}
use Rattle.sk_base.proofs.Members.{contains_head, contains_later, contains_mapped, mapped_from, contains_filtered, filtered_from}
use Rattle.sk_base.proofs.Numbers.{among_found, found_among}
use Rattle.sk_base.proofs.Pairs.{pairs_filter, pairs_same}
use Rattle.sk_base.proofs.Unions.{rising_apart}
use Rattle.sk_family.specs.Body.{Start, starts, edge_start, block_start}
use Rattle.sk_graph.specs.SketchGraph.{graph_of, node_of, edge_of, block_of, drawn_as, distance_edge, on_edge, tangent_edge, outside_edge, inside_edge, angle_edge}
use Rattle.sk_graph.proofs.Soundness.{graph_is_sound, rule_sound}
use Rattle.sk_rules.specs.Excess.{weight, weight_of, is_owned}
use Rattle.sk_rules.proofs.SummedWeights.{found_owned}
use Rattle.sk_rules.proofs.WeighedGraphs.{edge_weighs_one, block_weighs, sums_starts}
use Rattle.sk_tree.specs.LegalPlan.{numbers_of}
use Rattle.sk_plan.specs.Judged.{IsWell}
use Rattle.sk_plan.proofs.SomePlans.{well_due}
use Rattle.sk_complete.specs.Weights.{rule_weight, constraint_weight, weight_together, due_for}
use Rattle.sk_complete.specs.Begun.{HasAmong, number_of, is_numbered_in, besides}

-- where all pass, all are kept
pub all_kept : {X : Type 0} (p : X → Bool) (xs : List X) → ((x : X) → Contains xs x → p x ≡ true) → filter p xs ≡ xs
all_kept p [] all = refl
all_kept p (x ∷ xs) all = rw (all x (contains_head x xs)) (ap (λ ys. x ∷ ys) (all_kept p xs (λ y h. all y (contains_later x xs y h))))

-- all constraints of a graph weigh what all starts weigh
pub whole_weight : (g : Graph) → weight_of g (numbers_of g) ≡ sum_by weight (starts g)
whole_weight g =
    ap (λ ss. sum_by weight ss) (all_kept (is_owned (numbers_of g)) (starts g)
    (λ s h. found_owned (numbers_of g) s (contains_mapped (λ (t : Start). t.number) (starts g) s h)))

-- what edges and blocks weigh
abbrev total : List Edge → List Block → ℕ
total es bs = sum_by weight (map edge_start es) + sum_by weight (map block_start bs)

edge_more : (e : Edge) (es : List Edge) (bs : List Block) (n : ℕ) → e.u ≢ e.v → total es bs ≡ n → total (e ∷ es) bs ≡ 1 + n
edge_more e es bs n differ is =
    let more = sum_by-cons weight (edge_start e) (map edge_start es) in
    let one = edge_weighs_one e differ in
    omega arith

block_more : (b : Block) (es : List Edge) (bs : List Block) (n : ℕ) → AreSoundPins b.pins → total es bs ≡ n → total es (b ∷ bs) ≡ 2 * length b.pins - 3 + n
block_more b es bs n sound is =
    let more = sum_by-cons weight (block_start b) (map block_start bs) in
    let one = block_weighs b sound in
    omega arith

module _ (s : Sketch) (sketch : IsSoundSketch s) where
  rule_more : (c : Constraint) (r : Rule) (cs : List Constraint) (n : ℕ) → r ≡ c.rule → IsSoundRule s r → total (filter_map (edge_of s) cs) (filter_map block_of cs) ≡ n
      → total (filter_map (edge_of s) (record { number = c.number; rule = r } ∷ cs)) (filter_map block_of (record { number = c.number; rule = r } ∷ cs)) ≡ rule_weight r + n
  rule_more c (rule.Distance u v len) cs n same sound is =
      edge_more (distance_edge c.number u v len (drawn_as s u) (drawn_as s v)) (filter_map (edge_of s) cs) (filter_map block_of cs) n (rule_sound s sketch c.number (rule.Distance u v len) sound).0 is
  rule_more c (rule.On u v) cs n same sound is =
      edge_more (on_edge c.number u v (drawn_as s v)) (filter_map (edge_of s) cs) (filter_map block_of cs) n (rule_sound s sketch c.number (rule.On u v) sound).0 is
  rule_more c (rule.Tangent u v) cs n same sound is =
      edge_more (tangent_edge c.number u v (drawn_as s u) (drawn_as s v)) (filter_map (edge_of s) cs) (filter_map block_of cs) n (rule_sound s sketch c.number (rule.Tangent u v) sound).0 is
  rule_more c (rule.Outside u v) cs n same sound is =
      edge_more (outside_edge c.number u v (drawn_as s u) (drawn_as s v)) (filter_map (edge_of s) cs) (filter_map block_of cs) n (rule_sound s sketch c.number (rule.Outside u v) sound).0 is
  rule_more c (rule.Inside u v) cs n same sound is =
      edge_more (inside_edge c.number u v (drawn_as s u) (drawn_as s v)) (filter_map (edge_of s) cs) (filter_map block_of cs) n (rule_sound s sketch c.number (rule.Inside u v) sound).0 is
  rule_more c (rule.Angle l m ratio) cs n same sound is =
      edge_more (angle_edge c.number l m ratio (drawn_as s l) (drawn_as s m)) (filter_map (edge_of s) cs) (filter_map block_of cs) n (rule_sound s sketch c.number (rule.Angle l m ratio) sound).0 is
  rule_more c (rule.Block pins) cs n same sound is =
      block_more (record { id = c.number; pins = pins }) (filter_map (edge_of s) cs) (filter_map block_of cs) n sound.sound is

  all_weigh : (cs : List Constraint) → All (λ (c : Constraint). IsSoundRule s c.rule) cs → total (filter_map (edge_of s) cs) (filter_map block_of cs) ≡ weight_together cs
  all_weigh [] sound = refl
  all_weigh (c ∷ cs) sound =
      let first = All-head (λ (d : Constraint). IsSoundRule s d.rule) c cs sound in
      let rest = all_weigh cs (All-tail (λ (d : Constraint). IsSoundRule s d.rule) c cs sound) in
      rule_more c c.rule cs (weight_together cs) refl first rest ∙ sym (sum_by-cons constraint_weight c cs)

  -- all constraints of the graph weigh what the sketch's weigh
  pub graph_weighs : weight_of (graph_of s) (numbers_of (graph_of s)) ≡ weight_together s.constraints
  graph_weighs =
      whole_weight (graph_of s) ∙ sums_starts weight (graph_of s) (graph_is_sound s sketch)
      ∙ all_weigh s.constraints sketch.rules_sound

  -- a well sketch weighs what is due
  pub well_weighs : 0 < length s.elements → IsWell (graph_of s) → weight_together s.constraints ≡ due_for s
  well_weighs some well =
      sym graph_weighs ∙ well_due s sketch some well ∙ ap (λ n. 2 * n - 3) (length-map s.elements node_of)

module _ (s t : Sketch) (among : HasAmong s t) (sound : IsSoundSketch t) where
  ours : (c : Constraint) → Contains t.constraints c → is_numbered_in s c ≡ true → Contains s.constraints c
  ours c c_in told =
      let (d, d_in, is) = mapped_from number_of s.constraints c.number (among_found con_number con_exact (map number_of s.constraints) c.number told) in
      let same : d ≡ c = rising_apart (λ (x : Constraint). x.number.0) t.constraints sound.constraints_rise d c (among.constraints d d_in) c_in (ap con_number is) in
      subst (λ (z : Constraint). Contains s.constraints z) same d_in

  -- those of t whose numbers s has are the constraints of s
  pub kept_are : filter (is_numbered_in s) t.constraints ≡ s.constraints
  kept_are =
      pairs_same (λ (x y : Constraint). x.number.0 < y.number.0) (λ x h. absurd (omega (arith, h))) (λ x y h k. absurd (omega (arith, h, k)))
      (filter (is_numbered_in s) t.constraints) s.constraints
      (pairs_filter (λ (x y : Constraint). x.number.0 < y.number.0) (is_numbered_in s) t.constraints sound.constraints_rise) among.rise
      (λ c h. (let was = filtered_from (is_numbered_in s) t.constraints c h in ours c was.0 was.1))
      (λ c h. contains_filtered (is_numbered_in s) t.constraints c (among.constraints c h)
      (found_among con_number (map number_of s.constraints) c.number (contains_mapped number_of s.constraints c h)))

  -- what t has besides weighs the rest
  pub both_weigh : weight_together s.constraints + weight_together (besides s t) ≡ weight_together t.constraints
  both_weigh =
      subst (λ (cs : List Constraint). weight_together cs + weight_together (besides s t) ≡ weight_together t.constraints) kept_are
      (sum_by-filter_both (is_numbered_in s) (λ (c : Constraint). not (is_numbered_in s c)) (λ c. refl) constraint_weight t.constraints)

  pub missing_weight : 0 < length s.elements → IsWell (graph_of t) → weight_together s.constraints + weight_together (besides s t) ≡ due_for s
  missing_weight some well =
      let as_many = ap (λ es. length es) among.elements in
      let all = well_weighs t sound (omega (arith, as_many, some)) well in
      let due = ap (λ n. 2 * n - 3) as_many in
      omega (arith, all, both_weigh, due)
