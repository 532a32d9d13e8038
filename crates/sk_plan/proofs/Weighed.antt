-- What constraints weigh among elements, counted by edges and pins.
use Rattle.std.proofs.Common.{◌≡◌, ◌≢◌, inl, inr, refl, ℕ, zero, suc, ◌+◌, ◌≤◌, ◌*◌, ◌-◌, Bool, true, false, cond, List, [], ◌∷◌, ap, sym, ◌∙◌, arith}
use Rattle.std.specs.Prelude.{Contains, AllPairs, map, sum_by, count_by, filter, ◌&&◌}
use Rattle.std.proofs.lemmas.List.Elements.{All-contains}
use Rattle.std.proofs.lemmas.List.Sums.{sum_by-cons, length-filter}
use Rattle.sk_base.specs.declared.Elem.{Elem}
use Rattle.sk_base.specs.declared.Edge.{Edge}
use Rattle.sk_base.specs.declared.Block.{Block}
use Rattle.sk_base.specs.declared.Pin.{Pin}
use Rattle.sk_base.specs.declared.Graph.{Graph}
use Rattle.sk_base.specs.declared.Kind.TheVariants.{Point, Line}
use Rattle.sk_base.specs.declared.Node.{Node}
use Rattle.sk_base.specs.Pins.{AreSoundPins, elements_of}
use Rattle.sk_base.specs.SoundGraph.{IsSoundGraph, HasNode}
use Rattle.sk_base.specs.Numbering.{is_elem, elem_number, elem_exact}
use Rattle.sk_base.specs.Rising.{put, union}
use Rattle.sk_base.proofs.Distinct.{same_length}
use Rattle.sk_base.proofs.Members.{contains_head, contains_later, contains_cases, contains_one, contains_filtered, filtered_from}
use Rattle.sk_base.proofs.Numbers.{elem_found}
use Rattle.sk_base.proofs.Pairs.{pairs_filter, pairs_map}
use Rattle.sk_base.proofs.Unions.{which, put_first, put_same, put_later, rising_none, rising_union, rising_apart}
use Rattle.sk_family.proofs.GraphStarts.{from_start, among_start, edge_starts}
use Rattle.sk_family.specs.Body.{Start, start_number, edge_start, block_start, starts}
use Rattle.sk_rules.specs.Excess.{has_ends_in, HasTwoEach}
use Rattle.sk_family.specs.Rules.{IsLine}
use Rattle.sk_rules.proofs.WeighedGraphs.{sums_starts}
use Rattle.sk_plan.specs.Sparse.{weight_within, weight_among, angles_among, pins_weight, AreLines}
use Rattle.sk_plan.proofs.Counts.{count_none}

-- two bits
two_ends_weigh : (a b : Bool) → 2 * (cond a 1 0 + cond b 1 0) - 3 ≡ cond (a && b) 1 0
two_ends_weigh true true = refl
two_ends_weigh true false = refl
two_ends_weigh false true = refl
two_ends_weigh false false = refl

count_two_of : {X : Type 0} (p : X → Bool) (x y : X) → count_by p (x ∷ y ∷ []) ≡ cond (p x) 1 0 + cond (p y) 1 0
count_two_of p x y = (let more = sum_by-cons (λ z. cond (p z) 1 0) x (y ∷ []) in let last = sum_by-cons (λ z. cond (p z) 1 0) y [] in omega arith)

module _ (xs : List Elem) where
  -- of two different ends as many are there, in whatever order they stand
  ends_there : (e : Edge) → e.u ≢ e.v → count_by (is_elem xs) (edge_start e).elements ≡ cond (is_elem xs e.u) 1 0 + cond (is_elem xs e.v) 1 0
  unfolding union put
  ends_there e differ =
      let there = count_two_of (is_elem xs) e.u e.v in
      let turned = count_two_of (is_elem xs) e.v e.u in
      elim (which e.u.0 e.v.0) [
        | inl less ↦ rw (put_first elem_number e.u e.v [] less) (omega arith)
        | inr (inl same) ↦ absurd (differ (elem_exact e.u e.v same))
        | inr (inr more) ↦ rw (put_later elem_number e.u e.v [] more) (omega arith)
      ]

  edge_weighs : (e : Edge) → e.u ≢ e.v → weight_within xs (edge_start e) ≡ cond (has_ends_in xs e) 1 0
  edge_weighs e differ = ap (λ (n : ℕ). 2 * n - 3) (ends_there e differ) ∙ two_ends_weigh (is_elem xs e.u) (is_elem xs e.v)

  edges_weigh : (es : List Edge) → ((e : Edge) → Contains es e → e.u ≢ e.v) → sum_by (weight_within xs) (map edge_start es) ≡ count_by (has_ends_in xs) es
  edges_weigh [] two = refl
  edges_weigh (e ∷ es) two =
      let more = sum_by-cons (weight_within xs) (edge_start e) (map edge_start es) in
      let count = sum_by-cons (λ (d : Edge). cond (has_ends_in xs d) 1 0) e es in
      let one = edge_weighs e (two e (contains_head e es)) in
      let rest = edges_weigh es (λ d h. two d (contains_later e es d h)) in
      omega arith

  pins_counted : (pins : List Pin) → count_by (is_elem xs) (elements_of pins) ≡ count_by (λ (pin : Pin). is_elem xs pin.elem) pins
  pins_counted [] = refl
  pins_counted (pin ∷ pins) =
      let more = sum_by-cons (λ (e : Elem). cond (is_elem xs e) 1 0) pin.elem (elements_of pins) in
      let count = sum_by-cons (λ (q : Pin). cond (is_elem xs q.elem) 1 0) pin pins in
      let rest = pins_counted pins in
      omega arith

  -- of a block's elements as many are there as of its pins
  pins_there : (b : Block) → AreSoundPins b.pins → count_by (is_elem xs) (block_start b).elements ≡ count_by (λ (pin : Pin). is_elem xs pin.elem) b.pins
  pins_there b sound =
      let rise = rising_union elem_number (elements_of b.pins) [] (rising_none elem_number) in
      let start_differ : AllPairs (λ (d e : Elem). d ≢ e) (block_start b).elements = λ i j d i_j j_in same. (let less = rise i j d i_j j_in in let level = ap elem_number same in absurd (omega arith)) in
      let pins_differ : AllPairs (λ (d e : Elem). d ≢ e) (elements_of b.pins) = pairs_map (λ (d e : Elem). d ≢ e) (λ (pin : Pin). pin.elem) b.pins sound.elements_differ in
      let same = same_length (filter (is_elem xs) (block_start b).elements) (filter (is_elem xs) (elements_of b.pins))
      (pairs_filter (λ (d e : Elem). d ≢ e) (is_elem xs) (block_start b).elements start_differ)
      (pairs_filter (λ (d e : Elem). d ≢ e) (is_elem xs) (elements_of b.pins) pins_differ)
      (λ e. (
        (λ h. (
            let was = filtered_from (is_elem xs) (block_start b).elements e h in
            contains_filtered (is_elem xs) (elements_of b.pins) e (from_start (elements_of b.pins) e was.0) was.1)),
        (λ h. (
            let was = filtered_from (is_elem xs) (elements_of b.pins) e h in
            contains_filtered (is_elem xs) (block_start b).elements e (among_start (elements_of b.pins) e was.0) was.1)),
      )) in
      let start = length-filter (is_elem xs) (block_start b).elements in
      let pins = length-filter (is_elem xs) (elements_of b.pins) in
      let counted = pins_counted b.pins in
      omega arith

  blocks_weigh : (bs : List Block) → ((b : Block) → Contains bs b → AreSoundPins b.pins) → sum_by (weight_within xs) (map block_start bs) ≡ sum_by (pins_weight xs) bs
  blocks_weigh [] sound = refl
  blocks_weigh (b ∷ bs) sound =
      let more = sum_by-cons (weight_within xs) (block_start b) (map block_start bs) in
      let sums = sum_by-cons (pins_weight xs) b bs in
      let one = ap (λ (n : ℕ). 2 * n - 3) (pins_there b (sound b (contains_head b bs))) in
      let rest = blocks_weigh bs (λ d h. sound d (contains_later b bs d h)) in
      omega arith

  -- where no pin is there, blocks weigh nothing
  none_weigh : (bs : List Block) → ((b : Block) (pin : Pin) → Contains bs b → Contains b.pins pin → is_elem xs pin.elem ≡ true → ⊥) → sum_by (pins_weight xs) bs ≡ 0
  none_weigh [] apart = refl
  none_weigh (b ∷ bs) apart =
      let sums = sum_by-cons (pins_weight xs) b bs in
      let none = count_none (λ (pin : Pin). is_elem xs pin.elem) b.pins (λ pin pin_in passes. apart b pin (contains_head b bs) pin_in passes) in
      let rest = none_weigh bs (λ d pin d_in. apart d pin (contains_later b bs d d_in)) in
      omega arith

pub elements_weigh : (g : Graph) → IsSoundGraph g → (xs : List Elem) → weight_among g xs ≡ count_by (has_ends_in xs) g.edges + sum_by (pins_weight xs) g.blocks
elements_weigh g sound xs =
    let both = sums_starts (weight_within xs) g sound in
    let edges = edges_weigh xs g.edges sound.two_ends in
    let blocks = blocks_weigh xs g.blocks (λ b h. (sound.blocks_sound b h).pins) in
    omega arith

-- a point is no line
sound_pins : (g : Graph) → IsSoundGraph g → (b : Block) (pin : Pin) → Contains g.blocks b → Contains b.pins pin → ¬ IsLine g pin.elem
sound_pins g sound b pin b_in pin_in line =
    let point = All-contains (λ (q : Pin). HasNode g q.elem Point) b.pins pin (sound.blocks_sound b b_in).at_points pin_in in
    let same = rising_apart (λ (n : Node). n.elem.0) g.nodes sound.nodes_rise (record { elem = pin.elem; kind = Line }) (record { elem = pin.elem; kind = Point }) line point refl in
    let kinds : Line ≡ Point = ap (λ (n : Node). n.kind) same in
    absurd (cc)

pub lines_weigh : (g : Graph) → IsSoundGraph g → (lines : List Elem) → AreLines g lines → weight_among g lines ≡ angles_among g lines
lines_weigh g sound lines are_lines =
    let all = elements_weigh g sound lines in
    let none = none_weigh lines g.blocks (λ b pin b_in pin_in passes. sound_pins g sound b pin b_in pin_in (are_lines pin.elem (elem_found lines pin.elem passes))) in
    omega arith

-- 1 for what isn't nothing
abbrev pub one_at_most : ℕ → ℕ
one_at_most zero = 0
one_at_most (suc n) = 1

pub some_joined : (n : ℕ) → one_at_most n ≢ 0 → n ≢ 0
some_joined zero some is = some refl
some_joined (suc n) some is = (let never : suc n ≡ 0 = is in absurd (cc))

-- 1 for a constraint with two elements among some
abbrev pub joins : List Elem → Start → ℕ
joins xs s = one_at_most (weight_within xs s)

module _ (w : Start → ℕ) where
  put_adds : (s : Start) (ss : List Start) → sum_by w ss ≤ sum_by w (put start_number s ss)
  unfolding put
  put_adds s [] = omega arith
  put_adds s (t ∷ ss) =
      elim (which (start_number s) (start_number t)) [
        | inl first ↦ rw (put_first start_number s t ss first) (let more = sum_by-cons w s (t ∷ ss) in omega arith)
        | inr (inl same) ↦ rw (put_same start_number s t ss same) (omega arith)
        | inr (inr later) ↦ rw (put_later start_number s t ss later) (
            let more = sum_by-cons w t (put start_number s ss) in
            let was = sum_by-cons w t ss in
            let rest = put_adds s ss in
            omega arith)
      ]

  union_adds : (ss ts : List Start) → sum_by w ts ≤ sum_by w (union start_number ss ts)
  unfolding union
  union_adds [] ts = omega arith
  union_adds (s ∷ ss) ts = (let rest = union_adds ss ts in let more = put_adds s (union start_number ss ts) in omega arith)

-- two ends of one constraint differ
ends_differ : (g : Graph) → HasTwoEach g → (e : Edge) → Contains g.edges e → e.u ≢ e.v
ends_differ g two e e_in same =
    let (a, b, differ, a_in, b_in) = two (edge_start e) (edge_starts g e e_in) in
    differ (sym (is_first a a_in) ∙ is_first b b_in)
  where
    is_first : (z : Elem) → Contains (edge_start e).elements z → e.u ≡ z
    is_first z z_in =
        elim (contains_cases e.u (e.v ∷ []) z (from_start (e.u ∷ e.v ∷ []) z z_in)) [
          | inl first ↦ first
          | inr second ↦ same ∙ contains_one e.v z second
        ]

one_bit : (b : Bool) → one_at_most (cond b 1 0) ≡ cond b 1 0
one_bit true = refl
one_bit false = refl

edges_join : (xs : List Elem) (es : List Edge) → ((e : Edge) → Contains es e → e.u ≢ e.v) → count_by (has_ends_in xs) es ≡ sum_by (joins xs) (map edge_start es)
edges_join xs [] differ = refl
edges_join xs (e ∷ es) differ =
    let more = sum_by-cons (joins xs) (edge_start e) (map edge_start es) in
    let count = sum_by-cons (λ (d : Edge). cond (has_ends_in xs d) 1 0) e es in
    let one : joins xs (edge_start e) ≡ cond (has_ends_in xs e) 1 0 = ap one_at_most (edge_weighs xs e (differ e (contains_head e es))) ∙ one_bit (has_ends_in xs e) in
    let rest = edges_join xs es (λ d h. differ d (contains_later e es d h)) in
    omega arith

-- each angle between lines joins two of them
pub angles_join : (g : Graph) → HasTwoEach g → (xs : List Elem) → angles_among g xs ≤ sum_by (joins xs) (starts g)
angles_join g two xs =
    let edges = edges_join xs g.edges (ends_differ g two) in
    let all = union_adds (joins xs) (map block_start g.blocks) (map edge_start g.edges) in
    omega arith
