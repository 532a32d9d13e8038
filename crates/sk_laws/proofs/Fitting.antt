-- Where all constraints that are left out repeat those that stay, all of them fit where these place the elements.
use Rattle.std.proofs.Common.{◌≡◌, inl, inr, ℕ, ℤ, ◌≤◌, Bool, true, false, List, [], ◌∷◌, unsigned_abs, refl, sym, subst, arith}
use Rattle.std.specs.Prelude.{Contains, Option, None, Some, is_none, nat_le, not}
use Rattle.std.specs.List.{flat_map}
use Rattle.std.proofs.lemmas.Bool.{and_parts}
use Rattle.std.proofs.lemmas.Bool.Decides.{nat_tests}
use Rattle.std.proofs.lemmas.List.Elements.{Contains-append_left, Contains-append_right, Contains-append_cases}
use Rattle.sk_base.specs.declared.Block.{Block}
use Rattle.sk_base.specs.declared.ConId.{ConId}
use Rattle.sk_base.specs.declared.Constraint.{Constraint}
use Rattle.sk_base.specs.declared.Edge.{Edge}
use Rattle.sk_base.specs.declared.Elem.{Elem}
use Rattle.sk_base.specs.declared.Graph.{Graph}
use Rattle.sk_base.specs.declared.Kind.TheVariants as kinds
use Rattle.sk_base.specs.declared.Measure.{Measure}
use Rattle.sk_base.specs.declared.Measure.TheVariants.{PointPoint, PointLine, LineLine}
use Rattle.sk_base.specs.declared.Node.{Node}
use Rattle.sk_base.specs.declared.Placed.{Placed}
use Rattle.sk_base.specs.declared.Rule.{Rule}
use Rattle.sk_base.specs.declared.Rule.TheVariants as rule
use Rattle.sk_base.specs.declared.Sketch.{Sketch}
use Rattle.sk_base.specs.SoundGraph.{IsSoundGraph, HasNode}
use Rattle.sk_base.specs.SoundSketch.{IsSoundSketch}
use Rattle.sk_base.proofs.Members.{contains_none, contains_head, contains_later, contains_mapped, contains_filtered}
use Rattle.sk_graph.specs.SketchGraph.{graph_of}
use Rattle.sk_graph.proofs.Soundness.{graph_is_sound}
use Rattle.sk_measure.specs.Holding.{tolerance_of}
use Rattle.sk_measure.specs.Items.{Item, normal, constraint, block, Holds, IsOffBy}
use Rattle.sk_measure.specs.Placing.{PlacesExactly}
use Rattle.sk_measure.proofs.Widening.{holds_more}
use Rattle.sk_tolerance.specs.declared.OffBy.{OffBy}
use Rattle.sk_tolerance.specs.declared.Turned.{Turned}
use Rattle.sk_tolerance.specs.Telling.{IsCompared}
use Rattle.sk_tolerance.specs.Tolerances.{normals, normal_of_kind, constraints, everything, AllHold}
use Rattle.sk_tolerance.specs.Turns.{senses, constraint_signs, AllAsDrawn}
use Rattle.sk_tolerance.proofs.Merging.{merged_constraints}
use Rattle.sk_tolerance.proofs.Worsts.{contains_flat}
use Rattle.sk_excess.specs.LeftOut.{is_number, is_kept}
use Rattle.sk_excess.specs.KeptSketch.{kept_sketch}
use Rattle.sk_excess.proofs.SomeLess.{number_in}
use Rattle.sk_excess.proofs.KeptSketches.{kept_graph_is, kept_is_sound}
use Rattle.sk_report.specs.ExcessReport.{is_repeat}
use Rattle.sk_answers.specs.OffsThere.{IsOffThere}
use Rattle.sk_laws.specs.Repeats.{AllFit}
use Rattle.sk_answers.proofs.OffLines.{numbered}

-- what isn't kept is left out
gone_in : (left : List ConId) (k : ConId) → is_kept left k ≡ false → Contains left k
gone_in left k gone = by (is_number left k) refl gone
  where
    by : (t : Bool) → is_number left k ≡ t → not t ≡ false → Contains left k
    by true is gone = number_in left k is
    by false is gone = cc

-- what some items give, each its list
from_flat : {X Y : Type 0} (f : X → List Y) (xs : List X) (y : Y) → Contains (flat_map f xs) y → (x : X) × Contains xs x × Contains (f x) y
from_flat f [] y h = absurd (contains_none y h)
from_flat f (x ∷ xs) y h =
    elim (Contains-append_cases (f x) (flat_map f xs) y h) [
      | inl here ↦ (x, contains_head x xs, here)
      | inr later ↦ (let found = from_flat f xs y later in (found.0, contains_later x xs found.0 found.1, found.2))
    ]

one_tolerance : (m : Measure) (n : ℕ) → n ≡ tolerance_of m n n
one_tolerance (PointPoint len) n = refl
one_tolerance (PointLine len side) n = refl
one_tolerance (LineLine ratio sense) n = refl

few : (m limit : ℕ) → nat_le m limit ≡ true → m ≤ limit
few m limit is = grind (arith, nat_tests)

none_compared : (signs : List Turned) (turned : Option Turned) → is_none turned ≡ true → IsCompared signs turned → AllAsDrawn signs
none_compared signs None none compared = compared
none_compared signs (Some t) none compared = absurd (cc)

module _ (limit : ℕ) (own : Sketch) (sound : IsSoundSketch own) (left : List ConId) (at : Placed) where
  abbrev kept : Sketch
  kept = kept_sketch left own

  -- its elements are drawn as they were
  senses_stay : (k : ConId) (r : Rule) → senses own at k r ≡ senses kept at k r
  senses_stay k (rule.Distance u v len) = refl
  senses_stay k (rule.On u v) = refl
  senses_stay k (rule.Tangent u v) = refl
  senses_stay k (rule.Outside u v) = refl
  senses_stay k (rule.Inside u v) = refl
  senses_stay k (rule.Angle l m ratio) = refl
  senses_stay k (rule.Block pins) = refl

  kept_edge : (e : Edge) → Contains (graph_of own).edges e → is_kept left e.id ≡ true → Contains (graph_of kept).edges e
  kept_edge e e_in stays =
      subst (λ (g : Graph). Contains g.edges e) (sym (kept_graph_is left own)) (contains_filtered (λ (d : Edge). is_kept left d.id) (graph_of own).edges e e_in stays)

  kept_block : (b : Block) → Contains (graph_of own).blocks b → is_kept left b.id ≡ true → Contains (graph_of kept).blocks b
  kept_block b b_in stays =
      subst (λ (g : Graph). Contains g.blocks b) (sym (kept_graph_is left own)) (contains_filtered (λ (d : Block). is_kept left d.id) (graph_of own).blocks b b_in stays)

  kept_graph_sound : IsSoundGraph (graph_of kept)
  kept_graph_sound = graph_is_sound kept (kept_is_sound left own sound)

  of_constraint : (item : Item) → Contains (constraints (graph_of kept)) item → Contains (everything (graph_of kept)) item
  of_constraint item h = Contains-append_right (normals (graph_of kept).nodes) (constraints (graph_of kept)) item h

  edge_item : (e : Edge) → Contains (graph_of kept).edges e → Contains (everything (graph_of kept)) (constraint e)
  edge_item e e_in = of_constraint (constraint e) ((merged_constraints (graph_of kept) kept_graph_sound).second (constraint e) (contains_mapped (λ (d : Edge). constraint d) (graph_of kept).edges e e_in))

  block_item : (b : Block) → Contains (graph_of kept).blocks b → Contains (everything (graph_of kept)) (block b)
  block_item b b_in = of_constraint (block b) ((merged_constraints (graph_of kept) kept_graph_sound).first (block b) (contains_mapped (λ (d : Block). block d) (graph_of kept).blocks b b_in))

  line_item : (line : Elem) → HasNode (graph_of own) line kinds.Line → Contains (everything (graph_of kept)) (normal line)
  line_item line h =
      Contains-append_left (normals (graph_of kept).nodes) (constraints (graph_of kept)) (normal line)
      (contains_flat (λ (n : Node). normal_of_kind n.elem n.kind) (graph_of kept).nodes (record { elem = line; kind = kinds.Line }) (normal line) h (contains_head (normal line) []))

  -- it is off by no more than the limit
  off_holds : (item : Item) (off : ℤ) → IsOffBy at item off → nat_le (unsigned_abs off) limit ≡ true → Holds at item limit
  off_holds item off by is = holds_more at item (unsigned_abs off) limit (few (unsigned_abs off) limit is) by.size.holds

  repeat_parts : (off : OffBy) → is_repeat limit off ≡ true → (is_none off.turned ≡ true) × (nat_le (unsigned_abs off.off) limit ≡ true)
  repeat_parts off is = and_parts (is_none off.turned) (nat_le (unsigned_abs off.off) limit) is

  module _ (none : AllHold at (everything (graph_of kept)) limit) (drawn : AllAsDrawn (constraint_signs kept at kept.constraints))
      (repeats : (k : ConId) → Contains left k → (off : OffBy) × IsOffThere at own k off × (is_repeat limit off ≡ true)) where
    edge_fits : (e : Edge) → Contains (graph_of own).edges e → Holds at (constraint e) limit
    edge_fits e e_in = by (is_kept left e.id) refl
      where
        by : (t : Bool) → is_kept left e.id ≡ t → Holds at (constraint e) limit
        by true stays = none (constraint e) (edge_item e (kept_edge e e_in stays))
        by false gone = (
            let (off, there, is) = repeats e.id (gone_in left e.id gone) in
            off_holds (constraint e) off.off (there.by.edge e e_in refl).by (repeat_parts off is).1)

    block_fits : (b : Block) → Contains (graph_of own).blocks b → Holds at (block b) limit
    block_fits b b_in = by (is_kept left b.id) refl
      where
        by : (t : Bool) → is_kept left b.id ≡ t → Holds at (block b) limit
        by true stays = none (block b) (block_item b (kept_block b b_in stays))
        by false gone = (
            let (off, there, is) = repeats b.id (gone_in left b.id gone) in
            off_holds (block b) off.off (there.by.block b b_in refl).by (repeat_parts off is).1)

    sign_fits : (c : Constraint) → Contains own.constraints c → AllAsDrawn (senses own at c.number c.rule)
    sign_fits c c_in = by (is_kept left c.number) refl
      where
        by : (t : Bool) → is_kept left c.number ≡ t → AllAsDrawn (senses own at c.number c.rule)
        by true stays = λ sign here. drawn sign
            (contains_flat (λ (d : Constraint). senses kept at d.number d.rule) kept.constraints c sign (contains_filtered (λ (d : Constraint). is_kept left d.number) own.constraints c c_in stays)
            (subst (λ (signs : List Turned). Contains signs sign) (senses_stay c.number c.rule) here))
        by false gone = (
            let (off, there, is) = repeats c.number (gone_in left c.number gone) in
            let first = there.numbered in
            let second = numbered own sound c c_in c.number refl in
            let one : there.constraint ≡ c = cc in
            subst (λ (d : Constraint). AllAsDrawn (senses own at c.number d.rule)) one
            (none_compared (senses own at c.number there.constraint.rule) off.turned (repeat_parts off is).0 there.turned))

    pub all_fit : PlacesExactly (graph_of own) at → AllFit limit own at
    all_fit exactly = record {
      exactly = exactly;
      holds = record {
        lines = λ line h. none (normal line) (line_item line h);
        edges = λ e h. subst (λ (n : ℕ). Holds at (constraint e) n) (one_tolerance e.measure limit) (edge_fits e h);
        blocks = block_fits;
      };
      drawn = λ sign h. (let found = from_flat (λ (c : Constraint). senses own at c.number c.rule) own.constraints sign h in sign_fits found.0 found.1 sign found.2);
    }
