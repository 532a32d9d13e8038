-- How far off a constraint is doesn't hang on the numbers of elements and constraints.
use Rattle.std.proofs.Common.{◌≡◌, ℕ, ℤ, Bool, List, [], ◌∷◌, ◌++◌, map, refl, sym, ap, subst, ◌∙◌, arith, get_or}
use Rattle.std.specs.Prelude.{◌↔◌, AllPairs, Contains, Option, Some, None, find, unsigned_abs}
use Rattle.std.specs.Option.{option_map}
use Rattle.std.proofs.lemmas.Bool.Decides.{nat_tests}
use Rattle.std.proofs.lemmas.List.{length-map, map-append}
use Rattle.std.proofs.lemmas.Simd.{map-map}
use Rattle.std.proofs.Math.ListN.{get_or-map}
use Rattle.sk_base.specs.declared.At.{At}
use Rattle.sk_base.specs.declared.Block.{Block}
use Rattle.sk_base.specs.declared.ConId.{ConId}
use Rattle.sk_base.specs.declared.Edge.{Edge}
use Rattle.sk_base.specs.declared.Elem.{Elem}
use Rattle.sk_base.specs.declared.Graph.{Graph}
use Rattle.sk_base.specs.declared.Measure.{Measure}
use Rattle.sk_base.specs.declared.Name.TheVariants.{Con}
use Rattle.sk_base.specs.declared.Pin.{Pin}
use Rattle.sk_base.specs.declared.Placed.{Placed}
use Rattle.sk_base.specs.declared.Rule.{Rule}
use Rattle.sk_base.specs.declared.Rule.TheVariants.{Distance, On, Tangent, Outside, Inside, Angle}
use Rattle.sk_base.specs.declared.Rule.TheVariants as rules
use Rattle.sk_base.specs.declared.Sketch.{Sketch}
use Rattle.sk_base.specs.declared.Spot.{Spot}
use Rattle.sk_base.specs.Numbering.{con_exact}
use Rattle.sk_base.specs.SoundSketch.{IsSoundSketch}
use Rattle.sk_base.proofs.Members.{mapped_from}
use Rattle.sk_base.proofs.Pairs.{pairs_map, pairs_weaken}
use Rattle.sk_graph.specs.SketchGraph.{graph_of}
use Rattle.sk_lang.specs.Renumbered.{place_of as new_element, pin_renumbered, rule_renumbered}
use Rattle.sk_measure.specs.Holding.{IsMet, AreAsGiven, FallsShort}
use Rattle.sk_measure.specs.Items.{Item, constraint, block, Holds, GivesLess, IsOffBy, IsPairMet}
use Rattle.sk_measure.specs.Least.{IsLeast}
use Rattle.sk_measure.specs.Placing.{lies}
use Rattle.sk_tolerance.specs.declared.OffBy.{OffBy}
use Rattle.sk_tolerance.specs.declared.Turned.{Turned}
use Rattle.sk_tolerance.specs.BlockTurns.{twos, threes, turn_given, is_turn, corners}
use Rattle.sk_tolerance.specs.First.{IsFirst}
use Rattle.sk_tolerance.specs.Offs.{IsEdgeOff, IsBlockOff, IsOff}
use Rattle.sk_tolerance.specs.Telling.{IsCompared}
use Rattle.sk_tolerance.specs.Turns.{block_turns, senses, IsTurned, IsAsDrawn}
use Rattle.sk_answers.specs.OffsThere.{IsOffThere}
use Rattle.sk_claims.specs.ClaimText.{IsDeclared}
use Rattle.sk_edits.specs.Making.{HasConstraint}
use Rattle.sk_laws.specs.NewNumbers.{new_constraint}
use Rattle.sk_laws.proofs.Renumbering.{each_renumbered, places_renumbered, constraint_renumbered, find_alike, same_constraint, constraint_again, drawn_again, lies_again}
use Rattle.sk_laws.proofs.RenumberedGraphs.{edge_renumbered, block_renumbered, graph_renumbered, graph_again, edge_numbered, block_numbered}

-- ---- offs

-- where two properties hold of the same numbers, the least number of the one is that of the other
pub least_alike : (P Q : ℕ → Type 0) → ((n : ℕ) → P n ↔ Q n) → (n : ℕ) → IsLeast P n → IsLeast Q n
least_alike P Q alike n is = record { holds = (alike n).0 is.holds; least = λ m h. is.least m ((alike m).1 h) }

-- where two items hold alike, they are off alike
module _ (p q : Placed) (x y : Item) (alike : (n : ℕ) → Holds p x n ↔ Holds q y n) where
  off_again : (GivesLess p x → GivesLess q y) → (GivesLess q y → GivesLess p x) → (off : ℤ) → IsOffBy p x off → IsOffBy q y off
  off_again less_to less_from off by = record {
    size = least_alike (Holds p x) (Holds q y) alike (unsigned_abs off) by.size;
    less = ((λ below. less_to (by.less.0 below)), (λ less. by.less.1 (less_from less)));
  }

met_there : (m : Measure) (a b c d : At) (n : ℕ) → a ≡ c → b ≡ d → IsMet m a b n → IsMet m c d n
met_there m a b c d n first second met = subst (λ (z : At). IsMet m c z n) second (subst (λ (z : At). IsMet m z b n) first met)

short_there : (m : Measure) (a b c d : At) → a ≡ c → b ≡ d → FallsShort m a b → FallsShort m c d
short_there m a b c d first second short = subst (λ (z : At). FallsShort m c z) second (subst (λ (z : At). FallsShort m z b) first short)

given_there : (x y : Pin) (a b c d : At) (n : ℕ) → a ≡ c → b ≡ d → AreAsGiven x y a b n → AreAsGiven x y c d n
given_there x y a b c d n first second given = subst (λ (z : At). AreAsGiven x y c z n) second (subst (λ (z : At). AreAsGiven x y z b n) first given)

pairs_of_mapped : {X Y : Type 0} (R : Y → Y → Type 0) (f : X → Y) (xs : List X) → AllPairs R (map f xs) → AllPairs (λ x y. R (f x) (f y)) xs
pairs_of_mapped R f xs r i j d i_j j_in =
    let size = length-map xs f in
    subst (λ z. R (f (get_or xs i d)) z) (get_or-map f xs j d) (subst (λ z. R z (get_or (map f xs) j (f d))) (get_or-map f xs i d) (r i j (f d) i_j (omega arith)))

-- the first item with a property is mapped to the first that has one alike
pub first_mapped : {X Y : Type 0} (f : X → Y) (P : X → Type 0) (Q : Y → Type 0) → ((x : X) → P x → Q (f x)) → ((x : X) → Q (f x) → P x) → (xs : List X) (x : X) → IsFirst P xs x → IsFirst Q (map f xs) (f x)
first_mapped f P Q to from xs x first = record {
  before = map f first.before;
  after = map f first.after;
  parts = ap (map f) first.parts ∙ map-append f first.before (x ∷ first.after);
  has = to x first.has;
  none_before = λ y h. (let found = mapped_from f first.before y h in subst (λ z. ¬ Q z) found.2 (λ has. first.none_before found.0 found.1 (from found.0 has)));
}

-- ---- signs

-- the twos and threes of a list that is mapped
module _ {X Y : Type 0} (f : X → Y) where
  abbrev two_mapped : X × X → Y × Y
  two_mapped two = (f two.0, f two.1)

  abbrev three_mapped : X × X × X → Y × Y × Y
  three_mapped three = (f three.0, f three.1, f three.2)

  twos_mapped : (xs : List X) → twos (map f xs) ≡ map two_mapped (twos xs)
  twos_mapped [] = refl
  twos_mapped (x ∷ xs) =
      ap (λ (ys : List (Y × Y)). map (λ y. (f x, y)) (map f xs) ++ ys) (twos_mapped xs)
      ∙ ap (λ (ys : List (Y × Y)). ys ++ map two_mapped (twos xs)) (map-map (λ y. (f x, y)) f xs ∙ sym (map-map two_mapped (λ y. (x, y)) xs))
      ∙ sym (map-append two_mapped (map (λ y. (x, y)) xs) (twos xs))

  threes_mapped : (xs : List X) → threes (map f xs) ≡ map three_mapped (threes xs)
  threes_mapped [] = refl
  threes_mapped (x ∷ xs) =
      let with_two : Y × Y → Y × Y × Y = λ two. (f x, two.0, two.1) in
      let with_x : X × X → X × X × X = λ two. (x, two.0, two.1) in
      ap (λ (ys : List (Y × Y × Y)). map with_two (twos (map f xs)) ++ ys) (threes_mapped xs)
      ∙ ap (λ (ys : List (Y × Y)). map with_two ys ++ map three_mapped (threes xs)) (twos_mapped xs)
      ∙ ap (λ (ys : List (Y × Y × Y)). ys ++ map three_mapped (threes xs)) (map-map with_two two_mapped (twos xs) ∙ sym (map-map three_mapped with_x (twos xs)))
      ∙ sym (map-append three_mapped (map with_x (twos xs)) (threes xs))

corners_again : (s : Sketch) (pins : List Pin) → corners (map (pin_renumbered s) pins) ≡ option_map (three_mapped (pin_renumbered s)) (corners pins)
corners_again s pins =
    let turns : Pin × Pin × Pin → Bool = λ three. is_turn (turn_given three) in
    ap (find turns) (threes_mapped (pin_renumbered s) pins) ∙ find_alike (three_mapped (pin_renumbered s)) turns turns (threes pins) (λ three h. refl)

-- the sign of that constraint
abbrev pub turned_renumbered : ConId → Turned → Turned
turned_renumbered k sign = record sign { at = Con k.0 }

abbrev pub off_renumbered : ConId → OffBy → OffBy
off_renumbered k off = record off { turned = option_map (turned_renumbered k) off.turned }

compared_again : (k : ConId) (signs : List Turned) (turned : Option Turned) → IsCompared signs turned → IsCompared (map (turned_renumbered k) signs) (option_map (turned_renumbered k) turned)
compared_again k signs None all =
    λ sign h. (let found = mapped_from (turned_renumbered k) signs sign h in subst (λ (t : Turned). IsAsDrawn t) found.2 (all found.0 found.1))
compared_again k signs (Some t) first = first_mapped (turned_renumbered k) IsTurned IsTurned (λ x turned. turned) (λ x turned. turned) signs t first

-- ---- a constraint

module _ (s : Sketch) (sound : IsSoundSketch s) (at : Placed) (declared : (spot : Spot) → Contains at.spots spot → IsDeclared s spot.elem) where
  lies_there : (u : Elem) → lies (places_renumbered s at) (new_element s u) ≡ lies at u
  lies_there u = lies_again s sound at declared u

  pub constraint_holds : (e : Edge) (n : ℕ) → Holds at (constraint e) n ↔ Holds (places_renumbered s at) (constraint (edge_renumbered s e)) n
  constraint_holds e n = (
    (λ h. met_there e.measure (lies at e.u) (lies at e.v) _ _ n (sym (lies_there e.u)) (sym (lies_there e.v)) h),
    (λ h. met_there e.measure _ _ (lies at e.u) (lies at e.v) n (lies_there e.u) (lies_there e.v) h),
  )

  edge_off_again : (k : ConId) (e : Edge) (off : OffBy) → IsEdgeOff at e off → IsEdgeOff (places_renumbered s at) (edge_renumbered s e) (off_renumbered k off)
  edge_off_again k e off is = record {
    length = is.length;
    by = off_again at (places_renumbered s at) (constraint e) (constraint (edge_renumbered s e)) (constraint_holds e)
        (λ h. short_there e.measure (lies at e.u) (lies at e.v) _ _ (sym (lies_there e.u)) (sym (lies_there e.v)) h)
        (λ h. short_there e.measure _ _ (lies at e.u) (lies at e.v) (lies_there e.u) (lies_there e.v) h) off.off is.by;
  }

  pair_to : (n : ℕ) (a b : Pin) → IsPairMet at n a b → IsPairMet (places_renumbered s at) n (pin_renumbered s a) (pin_renumbered s b)
  pair_to n a b met = given_there a b (lies at a.elem) (lies at b.elem) _ _ n (sym (lies_there a.elem)) (sym (lies_there b.elem)) met

  pair_from : (n : ℕ) (a b : Pin) → IsPairMet (places_renumbered s at) n (pin_renumbered s a) (pin_renumbered s b) → IsPairMet at n a b
  pair_from n a b met = given_there a b _ _ (lies at a.elem) (lies at b.elem) n (lies_there a.elem) (lies_there b.elem) met

  pub block_holds : (b : Block) (n : ℕ) → Holds at (block b) n ↔ Holds (places_renumbered s at) (block (block_renumbered s b)) n
  block_holds b n = (
    (λ met. pairs_map (IsPairMet (places_renumbered s at) n) (pin_renumbered s) b.pins
        (pairs_weaken (IsPairMet at n) (λ (x y : Pin). IsPairMet (places_renumbered s at) n (pin_renumbered s x) (pin_renumbered s y)) b.pins met (λ x y x_in y_in h. pair_to n x y h))),
    (λ met. pairs_weaken (λ (x y : Pin). IsPairMet (places_renumbered s at) n (pin_renumbered s x) (pin_renumbered s y)) (IsPairMet at n) b.pins
        (pairs_of_mapped (IsPairMet (places_renumbered s at) n) (pin_renumbered s) b.pins met) (λ x y x_in y_in h. pair_from n x y h)),
  )

  block_off_again : (k : ConId) (b : Block) (off : OffBy) → IsBlockOff at b off → IsBlockOff (places_renumbered s at) (block_renumbered s b) (off_renumbered k off)
  block_off_again k b off is = record {
    length = is.length;
    by = off_again at (places_renumbered s at) (block b) (block (block_renumbered s b)) (block_holds b) (λ h. h) (λ h. h) off.off is.by;
  }

  -- the new number is that of one constraint alone
  number_back : (k j : ConId) → HasConstraint s k → new_constraint s k ≡ new_constraint s j → k ≡ j
  number_back k j numbered is =
      let tests = same_constraint s sound k j numbered in
      let same : (new_constraint s k).0 ≡ (new_constraint s j).0 = ap (λ (i : ConId). i.0) is in
      con_exact k j (grind (arith, nat_tests, tests, same))

  by_again : (k : ConId) (off : OffBy) → IsOff at (graph_of s) k off → IsOff (places_renumbered s at) (graph_renumbered s (graph_of s)) (new_constraint s k) (off_renumbered (new_constraint s k) off)
  by_again k off is = record {
    edge = λ e e_in named.
        (let (d, d_in, made) = mapped_from (edge_renumbered s) (graph_of s).edges e e_in in
        let same : d.id ≡ k = number_back d.id k (edge_numbered s d d_in) (ap (λ (x : Edge). x.id) made ∙ named) in
        subst (λ (x : Edge). IsEdgeOff (places_renumbered s at) x (off_renumbered (new_constraint s k) off)) made (edge_off_again (new_constraint s k) d off (is.edge d d_in same)));
    block = λ b b_in named.
        (let (d, d_in, made) = mapped_from (block_renumbered s) (graph_of s).blocks b b_in in
        let same : d.id ≡ k = number_back d.id k (block_numbered s d d_in) (ap (λ (x : Block). x.id) made ∙ named) in
        subst (λ (x : Block). IsBlockOff (places_renumbered s at) x (off_renumbered (new_constraint s k) off)) made (block_off_again (new_constraint s k) d off (is.block d d_in same)));
  }

  turns_again : (k new : ConId) (three : Option (Pin × Pin × Pin)) → block_turns (places_renumbered s at) new (option_map (three_mapped (pin_renumbered s)) three) ≡ map (turned_renumbered new) (block_turns at k three)
  turns_again k new None = refl
  turns_again k new (Some three) = rw (lies_there three.0.elem, lies_there three.1.elem, lies_there three.2.elem) refl

  senses_again : (k new : ConId) (rule : Rule) → senses (each_renumbered s) (places_renumbered s at) new (rule_renumbered s rule) ≡ map (turned_renumbered new) (senses s at k rule)
  senses_again k new (Distance u v len) = refl
  senses_again k new (On u v) = refl
  senses_again k new (Tangent u v) = refl
  senses_again k new (Outside u v) = refl
  senses_again k new (Inside u v) = refl
  senses_again k new (Angle l m ratio) = rw (drawn_again s sound l, drawn_again s sound m, lies_there l, lies_there m) refl
  senses_again k new (rules.Block pins) = ap (block_turns (places_renumbered s at) new) (corners_again s pins) ∙ turns_again k new (corners pins)

  -- a constraint is off by as much, by its new number
  pub off_there_again : (k : ConId) (off : OffBy) → IsOffThere at s k off → IsOffThere (places_renumbered s at) (each_renumbered s) (new_constraint s k) (off_renumbered (new_constraint s k) off)
  off_there_again k off is = record {
    constraint = constraint_renumbered s is.constraint;
    numbered = constraint_again s sound k ∙ ap (option_map (constraint_renumbered s)) is.numbered;
    by = subst (λ (g : Graph). IsOff (places_renumbered s at) g (new_constraint s k) (off_renumbered (new_constraint s k) off)) (sym (graph_again s sound)) (by_again k off is.by);
    turned = subst (λ (signs : List Turned). IsCompared signs (option_map (turned_renumbered (new_constraint s k)) off.turned)) (sym (senses_again k (new_constraint s k) is.constraint.rule))
        (compared_again (new_constraint s k) (senses s at k is.constraint.rule) off.turned is.turned);
  }
