-- What is told and what is searched of two lists, put together in order of number.
use Rattle.std.proofs.Common.{◌≡◌, ◌≢◌, inl, inr, ℕ, ◌<◌, ◌≤◌, List, [], ◌∷◌, ◌++◌, refl, sym, subst, ap, ◌∙◌, arith}
use Rattle.std.specs.Prelude.{Contains, Option, None, Some, MatchOption, Bool, true, false, nat_lt, if◌then◌else◌, AllPairs}
use Rattle.std.proofs.lemmas.Bool.Decides.{nat_tests}
use Rattle.sk_base.specs.declared.Block.{Block}
use Rattle.sk_base.specs.declared.Edge.{Edge}
use Rattle.sk_base.specs.declared.Graph.{Graph}
use Rattle.sk_base.specs.declared.Measure.{Measure}
use Rattle.sk_base.specs.declared.Measure.TheVariants.{PointPoint, PointLine, LineLine}
use Rattle.sk_base.specs.declared.Placed.{Placed}
use Rattle.sk_base.specs.Numbering.{con_exact}
use Rattle.sk_base.specs.Rising.{IsRising, union}
use Rattle.sk_base.specs.SoundGraph.{IsSoundGraph, HasRisingBlocks, HasBlocksApart}
use Rattle.sk_base.proofs.Members.{contains_none, contains_head, contains_mapped, mapped_from}
use Rattle.sk_base.proofs.Pairs.{pairs_map, pairs_tail, pairs_head}
use Rattle.sk_base.proofs.Unions.{rising_none, rising_cons, rising_union, union_cases, union_right, union_of_apart}
use Rattle.sk_tolerance.specs.declared.beyond.Beyond.{Beyond}
use Rattle.sk_tolerance.specs.declared.spotted.Spotted.{Spotted}
use Rattle.sk_measure.specs.Items.{Item, constraint, block, Holds, IsOwnLeast}
use Rattle.sk_tolerance.specs.Tolerances.{AreMerged, spotted_as, number_in, number_of, AllHold, IsAbove, IsFirstBeyond, rigid, between, distances, distance_of_measure, constraints, lengthwise}
use Rattle.sk_tolerance.specs.First.{IsFirst, earlier}
use Rattle.sk_tolerance.specs.Telling.{IsTold, IsSearched, is_worse_at}
use Rattle.sk_tolerance.proofs.Firsts.{first_inside}
use Rattle.sk_tolerance.proofs.Rising.{first_rising, none_below}
use Rattle.sk_tolerance.proofs.Passings.{excludes}
use Rattle.sk_measure.proofs.Widening.{holds_more}
use Rattle.sk_tolerance.proofs.Worsts.{on_distance}

pub swapped : (xs ys all : List Item) → AreMerged xs ys all → AreMerged ys xs all
swapped xs ys all merged = record {
  first_rises = merged.second_rises;
  second_rises = merged.first_rises;
  rises = merged.rises;
  first = merged.second;
  second = merged.first;
  no_others = λ item h. elim (merged.no_others item h) [ inl left ↦ inr left | inr right ↦ inl right ];
}

-- what is first in one list, and not behind anything in the other
pub first_in : (P : Item → Type 0) (xs ys all : List Item) → AreMerged xs ys all → (x : Item) → IsFirst P xs x → ((z : Item) → Contains ys z → number_of z < number_of x → ¬ P z) → IsFirst P all x
first_in P xs ys all merged x first rest = first_rising number_of P all merged.rises x (merged.first x (first_inside P xs x first)) first.has
    (λ z z_in lt. elim (merged.no_others z z_in) [
      | inl left ↦ none_below number_of P xs merged.first_rises x first z left lt
      | inr right ↦ rest z right lt
    ])

-- what is found in both lists, each by the name of its first item with P; else all items have Q
module _ {A : Type 0} (at : A → Spotted) (P Q : Item → Type 0) (excludes : (item : Item) → Q item → ¬ P item) (Finds : List Item → A → Type 0)
    (found : (items : List Item) (a : A) → Finds items a → (x : Item) × IsFirst P items x × (spotted_as x ≡ at a))
    (finds : (items others : List Item) (a : A) (f : Finds items a) → IsFirst P others (found items a f).0 → Finds others a) where
  -- of two lists that are put together in order of number
  module _ (xs ys all : List Item) (merged : AreMerged xs ys all) where
    -- the first of one list, where nothing of the other is before it
    in_front : (a : A) → Finds xs a → ((z : Item) → Contains ys z → number_of z < number_in (at a) → ¬ P z) → Finds all a
    in_front a here rest =
        let x = found xs a here in
        finds xs all a here (first_in P xs ys all merged x.0 x.1 (λ z z_in lt. rest z z_in (subst (λ (n : ℕ). number_of z < n) (ap number_in x.2) lt)))

    -- nothing of a list has P before what is found in it
    none_before : (a : A) → Finds ys a → (z : Item) → Contains ys z → number_of z < number_in (at a) → ¬ P z
    none_before a here z z_in lt =
        let y = found ys a here in
        none_below number_of P ys merged.second_rises y.0 y.1 z z_in (subst (λ (n : ℕ). number_of z < n) (sym (ap number_in y.2)) lt)

  module _ (xs ys all : List Item) (merged : AreMerged xs ys all) where
    one_of : (a b : A) (test : Bool) → nat_lt (number_in (at a)) (number_in (at b)) ≡ test → Finds xs a → Finds ys b → MatchOption (if test then Some a else Some b) ((item : Item) → Contains all item → Q item) (Finds all)
    one_of a b true is left right =
        in_front xs ys all merged a left (λ z z_in lt.
        (let before : number_in (at a) < number_in (at b) = grind (arith, nat_tests) in
        none_before xs ys all merged b right z z_in (omega arith)))
    one_of a b false is left right =
        in_front ys xs all (swapped xs ys all merged) b right (λ z z_in lt.
        (let before : number_in (at b) ≤ number_in (at a) = grind (arith, nat_tests) in
        none_before ys xs all (swapped xs ys all merged) a left z z_in (omega arith)))

    pub found_in_both : (one other : Option A) → MatchOption one ((item : Item) → Contains xs item → Q item) (Finds xs) → MatchOption other ((item : Item) → Contains ys item → Q item) (Finds ys)
        → MatchOption (earlier (λ a. number_in (at a)) one other) ((item : Item) → Contains all item → Q item) (Finds all)
    found_in_both None None left right = λ item h. elim (merged.no_others item h) [ inl l ↦ left item l | inr r ↦ right item r ]
    found_in_both None (Some b) left right = in_front ys xs all (swapped xs ys all merged) b right (λ z z_in lt. excludes z (left z z_in))
    found_in_both (Some a) None left right = in_front xs ys all merged a left (λ z z_in lt. excludes z (right z z_in))
    found_in_both (Some a) (Some b) left right = one_of a b (nat_lt (number_in (at a)) (number_in (at b))) refl left right

module _ (p : Placed) (xs ys all : List Item) (merged : AreMerged xs ys all) where
  all_of_both : (n : ℕ) → AllHold p xs n → AllHold p ys n → AllHold p all n
  all_of_both n left right item h = elim (merged.no_others item h) [ inl l ↦ left item l | inr r ↦ right item r ]

  told_in : (n : ℕ) (at : Spotted) → IsTold p xs (record { least = n; at = Some at }) → AllHold p ys n → ((z : Item) → Contains ys z → number_of z < number_in at → ¬ IsOwnLeast p z n) → IsTold p all (record { least = n; at = Some at })
  told_in n at told held rest = record {
    least = record {
      holds = all_of_both n told.least.holds held;
      least = λ m h. told.least.least m (λ z z_in. h z (merged.first z z_in));
    };
    at = record {
      item = told.at.item;
      first = first_in (λ i. IsOwnLeast p i n) xs ys all merged told.at.item told.at.first (λ z z_in lt. rest z z_in (subst (λ (m : ℕ). number_of z < m) (ap number_in told.at.named) lt));
      named = told.at.named;
    };
  }

  -- nothing is told of a list that is empty
  told_beside_none : (n : ℕ) (at : Spotted) → IsTold p xs (record { least = n; at = Some at }) → ys ≡ [] → IsTold p all (record { least = n; at = Some at })
  told_beside_none n at told none =
      told_in n at told
      (λ z z_in. absurd (contains_none z (subst (λ zs. Contains zs z) none z_in)))
      (λ z z_in lt. absurd (contains_none z (subst (λ zs. Contains zs z) none z_in)))

  -- the least number of the other list isn't greater, and where it is the same its first item is behind
  told_before : (n m : ℕ) (at beside : Spotted) → IsTold p xs (record { least = n; at = Some at }) → IsTold p ys (record { least = m; at = Some beside })
      → m ≤ n → (n ≡ m → number_in at ≤ number_in beside) → IsTold p all (record { least = n; at = Some at })
  told_before n m at beside told other le tie =
      told_in n at told (λ z z_in. holds_more p z m n le (other.least.holds z z_in)) (λ z z_in lt own.
      (let fewer : n ≤ m = own.least m (other.least.holds z z_in) in
      let same : n ≡ m = omega arith in
      let before : number_in at ≤ number_in beside = tie same in
      let named : number_of other.at.item ≡ number_in beside = ap number_in other.at.named in
      none_below number_of (λ i. IsOwnLeast p i m) ys merged.second_rises other.at.item other.at.first z z_in (omega arith) (subst (λ k. IsOwnLeast p z k) same own)))

-- ---- what is searched

pub searched_merged : (p : Placed) (xs ys all : List Item) → AreMerged xs ys all → (limit : ℕ) (a b : Option Beyond) → IsSearched p xs limit a → IsSearched p ys limit b → IsSearched p all limit (earlier (λ (x : Beyond). number_in x.at) a b)
searched_merged p xs ys all merged limit = found_in_both (λ (x : Beyond). x.at) (IsAbove p limit) (λ item. Holds p item limit) (excludes p limit) (λ items b. IsFirstBeyond p items limit b)
    (λ items b beyond. (beyond.item, beyond.first, beyond.named))
    (λ items others b beyond first. record { item = beyond.item; first = first; named = beyond.named; least = beyond.least; limited = beyond.limited })
    xs ys all merged

-- ---- what is told

module _ (p : Placed) (xs ys all : List Item) (merged : AreMerged xs ys all) where
  no_item : (zs : List Item) → ((z : Item) → Contains zs z → ⊥) → zs ≡ []
  no_item [] none = refl
  no_item (z ∷ zs) none = absurd (none z (contains_head z zs))

  told_none_of : (n m : ℕ) → IsTold p xs (record { least = n; at = None }) → IsTold p ys (record { least = m; at = None }) → IsTold p all (record { least = m; at = None })
  told_none_of n m left right =
      let empty : (z : Item) → Contains all z → ⊥ = λ z z_in. elim (merged.no_others z z_in) [
        | inl l ↦ contains_none z (subst (λ zs. Contains zs z) left.at l)
        | inr r ↦ contains_none z (subst (λ zs. Contains zs z) right.at r)
      ] in
      record {
        least = record {
          holds = λ z z_in. absurd (empty z z_in);
          least = λ k h. right.least.least k (λ z z_in. h z (merged.second z z_in));
        };
        at = no_item all empty;
      }

  pub told_first : (n : ℕ) (at : Option Spotted) (m : ℕ) (beside : Option Spotted) → is_worse_at n at m beside ≡ true → IsTold p xs (record { least = n; at = at }) → IsTold p ys (record { least = m; at = beside })
      → IsTold p all (record { least = n; at = at })
  told_first n None m beside worse left right = absurd (cc)
  told_first n (Some at) m None worse left right = told_beside_none p xs ys all merged n at left right.at
  told_first n (Some at) m (Some beside) worse left right =
      told_before p xs ys all merged n m at beside left right (grind (arith, nat_tests)) (λ same. grind (arith, nat_tests))

  pub told_second : (n : ℕ) (at : Option Spotted) (m : ℕ) (beside : Option Spotted) → is_worse_at n at m beside ≡ false → IsTold p xs (record { least = n; at = at }) → IsTold p ys (record { least = m; at = beside })
      → IsTold p all (record { least = m; at = beside })
  told_second n None m None worse left right = told_none_of n m left right
  told_second n None m (Some beside) worse left right = told_beside_none p ys xs all (swapped xs ys all merged) m beside right left.at
  told_second n (Some at) m None worse left right = absurd (cc)
  told_second n (Some at) m (Some beside) worse left right =
      told_before p ys xs all (swapped xs ys all merged) m n beside at right left (grind (arith, nat_tests)) (λ same. grind (arith, nat_tests))

-- ---- the constraints of a graph

distances_rise : (edges : List Edge) → AllPairs (λ (x y : Edge). x.id.0 < y.id.0) edges → IsRising number_of (distances edges)
distances_rise [] rise = rising_none number_of
distances_rise (e ∷ edges) rise = front e.measure (distances_rise edges (pairs_tail (λ (x y : Edge). x.id.0 < y.id.0) e edges rise))
  where
    ahead : IsRising number_of (distances edges) → IsRising number_of (constraint e ∷ distances edges)
    ahead rest = rising_cons number_of (constraint e) (distances edges) rest (λ y h.
        (let found = on_distance edges y h in
        let below : e.id.0 < found.0.id.0 = pairs_head (λ (x y : Edge). x.id.0 < y.id.0) e edges rise found.0 found.1 in
        subst (λ (z : Item). e.id.0 < number_of z) found.2 below))

    front : (m : Measure) → IsRising number_of (distances edges) → IsRising number_of (distance_of_measure e m ++ distances edges)
    front (PointPoint len) rest = ahead rest
    front (PointLine len side) rest = ahead rest
    front (LineLine ratio sense) rest = rest

module _ (g : Graph) (rise : HasRisingBlocks g) (blocks_apart : HasBlocksApart g) where
  rigid_rise : IsRising number_of (rigid g.blocks)
  rigid_rise = pairs_map (λ (x y : Item). number_of x < number_of y) (λ (b : Block). block b) g.blocks rise

  -- items of blocks and of edges have different numbers
  apart : (items : List Item) → ((z : Item) → Contains items z → (e : Edge) × Contains g.edges e × (constraint e ≡ z)) → (x y : Item) → Contains (rigid g.blocks) x → Contains items y → number_of x ≢ number_of y
  apart items of_edges x y x_in y_in same =
      let found = mapped_from (λ (b : Block). block b) g.blocks x x_in in
      let edge = of_edges y y_in in
      let block_id : found.0.id.0 ≡ number_of x = ap number_of found.2 in
      let edge_id : edge.0.id.0 ≡ number_of y = ap number_of edge.2 in
      blocks_apart edge.0 found.0 edge.1 found.1 (con_exact edge.0.id found.0.id (edge_id ∙ sym same ∙ sym block_id))

  -- among edges' items each block is put in
  rigid_in : (items : List Item) → ((z : Item) → Contains items z → (e : Edge) × Contains g.edges e × (constraint e ≡ z)) → (z : Item) → Contains (rigid g.blocks) z → Contains (union number_of (rigid g.blocks) items) z
  rigid_in items of_edges = union_of_apart number_of (rigid g.blocks) items rigid_rise (apart items of_edges)

  pub block_in : (b : Block) → Contains g.blocks b → Contains (constraints g) (block b)
  block_in b b_in = rigid_in (between g.edges) (mapped_from (λ (e : Edge). constraint e) g.edges) (block b) (contains_mapped (λ (b : Block). block b) g.blocks b b_in)

module _ (g : Graph) (sound : IsSoundGraph g) where
  between_rise : IsRising number_of (between g.edges)
  between_rise = pairs_map (λ (x y : Item). number_of x < number_of y) (λ (e : Edge). constraint e) g.edges sound.edges_rise

  merged_with : (items : List Item) → IsRising number_of items → ((z : Item) → Contains items z → (e : Edge) × Contains g.edges e × (constraint e ≡ z)) → AreMerged (rigid g.blocks) items (union number_of (rigid g.blocks) items)
  merged_with items rise of_edges = record {
    first_rises = rigid_rise g sound.blocks_rise sound.blocks_apart;
    second_rises = rise;
    rises = rising_union number_of (rigid g.blocks) items rise;
    first = rigid_in g sound.blocks_rise sound.blocks_apart items of_edges;
    second = union_right number_of (rigid g.blocks) items;
    no_others = union_cases number_of (rigid g.blocks) items;
  }

  pub merged_lengthwise : AreMerged (rigid g.blocks) (distances g.edges) (lengthwise g)
  merged_lengthwise = merged_with (distances g.edges) (distances_rise g.edges sound.edges_rise) (on_distance g.edges)

  pub merged_constraints : AreMerged (rigid g.blocks) (between g.edges) (constraints g)
  merged_constraints = merged_with (between g.edges) between_rise (mapped_from (λ (e : Edge). constraint e) g.edges)

  pub has_blocks : (b : Block) → Contains g.blocks b → Contains (lengthwise g) (block b)
  has_blocks b h = merged_lengthwise.first (block b) (contains_mapped (λ (b : Block). block b) g.blocks b h)

-- without blocks there are just the constraints between two elements
pub without_blocks : (g : Graph) → g.blocks ≡ [] → (lengthwise g ≡ distances g.edges) × (constraints g ≡ between g.edges)
unfolding union
without_blocks g none = (rw none refl, rw none refl)
