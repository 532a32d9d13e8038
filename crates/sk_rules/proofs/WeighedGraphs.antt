-- What the constraints of a sound graph weigh.
use Rattle.std.proofs.Common.{◌≡◌, ◌≢◌, inl, inr, refl, ℕ, ◌+◌, ◌<◌, ◌≤◌, Bool, true, false, cond, List, [], ◌∷◌, length, ap, sym, subst, ◌∙◌, arith}
use Rattle.std.specs.Prelude.{Contains, AllPairs, map, filter, sum_by, count_by, ◌||◌, ◌==◌}
use Rattle.std.specs.List.{list_all}
use Rattle.std.proofs.lemmas.List.{length-map}
use Rattle.std.proofs.lemmas.List.Sums.{sum_by-cons}
use Rattle.std.proofs.lemmas.Bool.{and_parts}
use Rattle.sk_base.specs.declared.Elem.{Elem}
use Rattle.sk_base.specs.declared.ConId.{ConId}
use Rattle.sk_base.specs.declared.Edge.{Edge}
use Rattle.sk_base.specs.declared.Block.{Block}
use Rattle.sk_base.specs.declared.Pin.{Pin}
use Rattle.sk_base.specs.declared.Graph.{Graph}
use Rattle.sk_base.specs.SoundGraph.{HasRisingEdges, IsSoundGraph}
use Rattle.sk_base.specs.Pins.{elements_of, AreSoundPins}
use Rattle.sk_base.specs.Numbering.{is_elem, elem_number, elem_exact, con_number, con_exact}
use Rattle.sk_base.specs.Rising.{IsRising, put, union}
use Rattle.sk_base.proofs.Distinct.{same_length}
use Rattle.sk_base.proofs.Members.{contains_none, contains_head, contains_later, contains_one, contains_cases, contains_mapped, mapped_from}
use Rattle.sk_base.proofs.Numbers.{elem_found, found_elem}
use Rattle.sk_base.proofs.Pairs.{pairs_head, pairs_tail, pairs_map}
use Rattle.sk_base.proofs.Sizes.{union_apart}
use Rattle.sk_base.proofs.Unions.{which, put_first, put_later, rising_none, rising_union, union_cases, rising_one}
use Rattle.sk_base.proofs.Filters.{same_tests}
use Rattle.sk_family.specs.Body.{Body, Start, start_number, edge_start, block_start, starts, initial_bodies}
use Rattle.sk_family.specs.Starting.{start_with}
use Rattle.sk_family.proofs.GraphStarts.{among_start, from_start, both_ends, start_comes, starts_rise, found_start}
use Rattle.sk_rules.specs.Reach.{Reach}
use Rattle.sk_rules.specs.Excess.{weight, weight_where, weight_of, is_inside, is_owned, held, has_ends_in, has_pins_in, block_weight, HasTwoEach}
use Rattle.sk_rules.proofs.Counting.{reached_tight}
use Rattle.sk_rules.proofs.SummedWeights.{weighs_one, weighs_more, weighs_by_one, none_weigh, weights_add, owned_found, found_owned, found_inside, inside_found}

module _ (w : Start → ℕ) where
  -- a start of a number that none has is put in
  sums_put : (s : Start) (ss : List Start) → ((t : Start) → Contains ss t → start_number s ≢ start_number t) → sum_by w (put start_number s ss) ≡ w s + sum_by w ss
  unfolding put
  sums_put s [] other = sum_by-cons w s []
  sums_put s (t ∷ ss) other =
      elim (which (start_number s) (start_number t)) [
        | inl first ↦ rw (put_first start_number s t ss first) (sum_by-cons w s (t ∷ ss))
        | inr (inl same) ↦ absurd (other t (contains_head t ss) same)
        | inr (inr later) ↦ rw (put_later start_number s t ss later) (
            let more = sum_by-cons w t (put start_number s ss) in
            let rest = sums_put s ss (λ u h. other u (contains_later t ss u h)) in
            let was = sum_by-cons w t ss in
            omega arith)
      ]

  -- what is summed over a union of constraints of different numbers is summed over both
  sums_union : (ss ts : List Start) → IsRising start_number ss → ((s t : Start) → Contains ss s → Contains ts t → start_number s ≢ start_number t) → sum_by w (union start_number ss ts) ≡ sum_by w ts + sum_by w ss
  unfolding union
  sums_union [] ts rise apart = omega arith
  sums_union (s ∷ ss) ts rise apart =
      let rest = sums_union ss ts (pairs_tail (λ x y. start_number x < start_number y) s ss rise) (λ x y x_in. apart x y (contains_later s ss x x_in)) in
      let one = sums_put s (union start_number ss ts) (λ t t_in same. elim (union_cases start_number ss ts t t_in) [
        | inl left ↦ (let less = pairs_head (λ x y. start_number x < start_number y) s ss rise t left in absurd (omega arith))
        | inr right ↦ apart s t (contains_head s ss) right same
      ]) in
      let more = sum_by-cons w s ss in
      omega arith

-- an edge weighs 1
pub edge_weighs_one : (e : Edge) → e.u ≢ e.v → weight (edge_start e) ≡ 1
edge_weighs_one e differ =
    let size = union_apart elem_number elem_exact (e.u ∷ []) (e.v ∷ []) (rising_one elem_number e.u)
    (λ z in_u in_v. differ (contains_one e.u z in_u ∙ sym (contains_one e.v z in_v))) in
    let same = ap (λ (xs : List Elem). length xs) (both_ends e.u e.v) in
    omega arith

-- a block of k pins starts with k elements
pub block_weighs : (b : Block) → AreSoundPins b.pins → weight (block_start b) ≡ block_weight b
block_weighs b sound =
    let distinct : AllPairs (λ (d e : Elem). d ≢ e) (elements_of b.pins) = pairs_map (λ (d e : Elem). d ≢ e) (λ (pin : Pin). pin.elem) b.pins sound.elements_differ in
    let rise = rising_union elem_number (elements_of b.pins) [] (rising_none elem_number) in
    let same = same_length (union elem_number (elements_of b.pins) []) (elements_of b.pins)
    (λ i j d i_j j_in same. (let less = rise i j d i_j j_in in let level = ap elem_number same in absurd (omega arith)))
    distinct
    (λ e. (from_start (elements_of b.pins) e, among_start (elements_of b.pins) e)) in
    let size : length (elements_of b.pins) ≡ length b.pins = rw length-map in
    omega arith

module _ (xs : List Elem) where
  edge_inside : (e : Edge) → is_inside xs (edge_start e) ≡ has_ends_in xs e
  edge_inside e =
      same_tests (is_inside xs (edge_start e)) (has_ends_in xs e)
      (λ passes. (
      let each = found_inside xs (edge_start e) passes in
      rw (found_elem xs e.u (each e.u (among_start (e.u ∷ e.v ∷ []) e.u (contains_head e.u (e.v ∷ [])))))
      (found_elem xs e.v (each e.v (among_start (e.u ∷ e.v ∷ []) e.v (contains_later e.u (e.v ∷ []) e.v (contains_head e.v [])))))))
      (λ passes. (
      let both = and_parts (is_elem xs e.u) (is_elem xs e.v) passes in
      inside_found xs (edge_start e) (λ d d_in. elim (contains_cases e.u (e.v ∷ []) d (from_start (e.u ∷ e.v ∷ []) d d_in)) [
        | inl left ↦ subst (λ z. Contains xs z) left (elem_found xs e.u both.0)
        | inr right ↦ subst (λ z. Contains xs z) (contains_one e.v d right) (elem_found xs e.v both.1)
      ])))

  edges_weigh : (es : List Edge) → ((e : Edge) → Contains es e → e.u ≢ e.v) → weight_where (is_inside xs) (map edge_start es) ≡ count_by (has_ends_in xs) es
  edges_weigh [] two = refl
  edges_weigh (e ∷ es) two =
      weighs_more (is_inside xs) (edge_start e) (map edge_start es)
      ∙ told (is_inside xs (edge_start e)) (has_ends_in xs e) (edge_inside e) (edge_weighs_one e (two e (contains_head e es)))
      (weight_where (is_inside xs) (map edge_start es)) (count_by (has_ends_in xs) es) (edges_weigh es (λ d h. two d (contains_later e es d h)))
      ∙ sym (sum_by-cons (λ (d : Edge). cond (has_ends_in xs d) 1 0) e es)
    where
      told : (a b : Bool) → a ≡ b → weight (edge_start e) ≡ 1 → (m n : ℕ) → m ≡ n → weighs_one a (edge_start e) m ≡ cond b 1 0 + n
      told a true same one m n level = subst (λ c. weighs_one c (edge_start e) m ≡ 1 + n) (sym same) (omega arith)
      told a false same one m n level = subst (λ c. weighs_one c (edge_start e) m ≡ 0 + n) (sym same) (omega arith)

  pins_inside : (b : Block) → is_inside xs (block_start b) ≡ has_pins_in xs b
  pins_inside b =
      same_tests (is_inside xs (block_start b)) (has_pins_in xs b)
      (λ passes. (
      let each = found_inside xs (block_start b) passes in
      all b.pins (λ pin h. each pin.elem (among_start (elements_of b.pins) pin.elem (contains_mapped (λ (q : Pin). q.elem) b.pins pin h)))))
      (λ passes. inside_found xs (block_start b) (λ e e_in. (
      let pin = mapped_from (λ (q : Pin). q.elem) b.pins e (from_start (elements_of b.pins) e e_in) in
      subst (λ z. Contains xs z) pin.2 (every b.pins passes pin.0 pin.1))))
    where
      all : (pins : List Pin) → ((pin : Pin) → Contains pins pin → Contains xs pin.elem) → list_all (λ (pin : Pin). is_elem xs pin.elem) pins ≡ true
      all [] within = refl
      all (pin ∷ pins) within = rw (found_elem xs pin.elem (within pin (contains_head pin pins))) (all pins (λ q h. within q (contains_later pin pins q h)))

      every : (pins : List Pin) → list_all (λ (pin : Pin). is_elem xs pin.elem) pins ≡ true → (pin : Pin) → Contains pins pin → Contains xs pin.elem
      every [] passes pin h = absurd (contains_none pin h)
      every (q ∷ pins) passes pin h =
          let both = and_parts (is_elem xs q.elem) (list_all (λ (r : Pin). is_elem xs r.elem) pins) passes in
          elim (contains_cases q pins pin h) [
            | inl here ↦ subst (λ (r : Pin). Contains xs r.elem) here (elem_found xs q.elem both.0)
            | inr later ↦ every pins both.1 pin later
          ]

  blocks_weigh : (bs : List Block) → ((b : Block) → Contains bs b → AreSoundPins b.pins) → weight_where (is_inside xs) (map block_start bs) ≡ sum_by block_weight (filter (has_pins_in xs) bs)
  blocks_weigh [] sound = refl
  blocks_weigh (b ∷ bs) sound =
      weighs_more (is_inside xs) (block_start b) (map block_start bs)
      ∙ told (is_inside xs (block_start b)) (has_pins_in xs b) (pins_inside b) (block_weighs b (sound b (contains_head b bs)))
      (weight_where (is_inside xs) (map block_start bs)) (blocks_weigh bs (λ d h. sound d (contains_later b bs d h)))
    where
      told : (a c : Bool) → a ≡ c → weight (block_start b) ≡ block_weight b → (m : ℕ) → m ≡ sum_by block_weight (filter (has_pins_in xs) bs)
          → weighs_one a (block_start b) m ≡ sum_by block_weight (cond c (b ∷ filter (has_pins_in xs) bs) (filter (has_pins_in xs) bs))
      told a true same weighs m level =
          let more = sum_by-cons block_weight b (filter (has_pins_in xs) bs) in
          subst (λ d. weighs_one d (block_start b) m ≡ sum_by block_weight (b ∷ filter (has_pins_in xs) bs)) (sym same) (omega arith)
      told a false same weighs m level = subst (λ d. weighs_one d (block_start b) m ≡ sum_by block_weight (filter (has_pins_in xs) bs)) (sym same) level

numbers_apart : (g : Graph) → IsSoundGraph g → (s t : Start) → Contains (map block_start g.blocks) s → Contains (map edge_start g.edges) t → start_number s ≢ start_number t
numbers_apart g sound s t s_in t_in same =
    let block = mapped_from block_start g.blocks s s_in in
    let edge = mapped_from edge_start g.edges t t_in in
    let block_id : block.0.id.0 ≡ start_number s = ap start_number block.2 in
    let edge_id : edge.0.id.0 ≡ start_number t = ap start_number edge.2 in
    sound.blocks_apart edge.0 block.0 edge.1 block.1 (con_exact edge.0.id block.0.id (edge_id ∙ sym same ∙ sym block_id))

-- what is summed over all constraints of a sound graph is summed over edges and blocks
pub sums_starts : (w : Start → ℕ) (g : Graph) → IsSoundGraph g → sum_by w (starts g) ≡ sum_by w (map edge_start g.edges) + sum_by w (map block_start g.blocks)
sums_starts w g sound =
    sums_union w (map block_start g.blocks) (map edge_start g.edges) (pairs_map (λ (s t : Start). start_number s < start_number t) block_start g.blocks sound.blocks_rise) (numbers_apart g sound)

pub held_counts : (g : Graph) → IsSoundGraph g → (xs : List Elem) → held g xs ≡ count_by (has_ends_in xs) g.edges + sum_by block_weight (filter (has_pins_in xs) g.blocks)
held_counts g sound xs =
    let both = sums_starts (λ s. weighs_one (is_inside xs s) s 0) g sound in
    let all = weighs_by_one (is_inside xs) (starts g) in
    let of_edges = weighs_by_one (is_inside xs) (map edge_start g.edges) in
    let of_blocks = weighs_by_one (is_inside xs) (map block_start g.blocks) in
    let edges = edges_weigh xs g.edges sound.two_ends in
    let blocks = blocks_weigh xs g.blocks (λ b h. (sound.blocks_sound b h).pins) in
    omega arith

-- a list whose items differ has two, where it has as many
pub two_of : {X : Type 0} (xs : List X) → 2 ≤ length xs → AllPairs (λ (x y : X). x ≢ y) xs → (x : X) × (y : X) × (x ≢ y) × Contains xs x × Contains xs y
two_of [] many differ = absurd (omega arith)
two_of (x ∷ []) many differ = absurd (omega arith)
two_of (x ∷ y ∷ xs) many differ = (x, y, pairs_head (λ a b. a ≢ b) x (y ∷ xs) differ y (contains_head y xs), contains_head x (y ∷ xs), contains_later x (y ∷ xs) y (contains_head y xs))

-- each constraint of a sound graph starts with two different elements
pub sound_two_each : (g : Graph) → IsSoundGraph g → HasTwoEach g
sound_two_each g sound s s_in =
    elim (start_comes g s s_in) [
      | inr (e, e_in, is) ↦ subst HasTwo is (
        e.u,
        e.v,
        sound.two_ends e e_in,
        among_start (e.u ∷ e.v ∷ []) e.u (contains_head e.u (e.v ∷ [])),
        among_start (e.u ∷ e.v ∷ []) e.v (contains_later e.u (e.v ∷ []) e.v (contains_head e.v [])),
      )
      | inl (b, b_in, is) ↦ (
          let pins = (sound.blocks_sound b b_in).pins in
          let (p, q, differ, p_in, q_in) = two_of (elements_of b.pins) (rw length-map pins.at_least) (pairs_map (λ (d e : Elem). d ≢ e) (λ (pin : Pin). pin.elem) b.pins pins.elements_differ) in
          subst HasTwo is (
            p,
            q,
            differ,
            among_start (elements_of b.pins) p p_in,
            among_start (elements_of b.pins) q q_in,
          ))
    ]
  where
    HasTwo : Start → Type 0
    HasTwo t = (a : Elem) × (c : Elem) × (a ≢ c) × Contains t.elements a × Contains t.elements c

-- a constraint of the graph is all that its number weighs
module _ (g : Graph) (rise : HasRisingEdges g) where
  weighs_alone : (ss : List Start) → IsRising start_number ss → (s : Start) → Contains ss s → weight_where (is_owned (s.number ∷ [])) ss ≡ weight s
  weighs_alone [] r s s_in = absurd (contains_none s s_in)
  weighs_alone (t ∷ ss) r s s_in =
      let more = weighs_more (is_owned (s.number ∷ [])) t ss in
      elim (contains_cases t ss s s_in) [
        | inl here ↦ (
            let none = none_weigh (is_owned (s.number ∷ [])) ss (λ u u_in passes. (
            let less = pairs_head (λ x y. start_number x < start_number y) t ss r u u_in in
            let same = ap con_number (contains_one s.number u.number (owned_found (s.number ∷ []) u passes)) in
            let level = ap start_number here in
            absurd (omega arith))) in
            let is : is_owned (s.number ∷ []) t ≡ true = found_owned (s.number ∷ []) t (subst (λ (z : Start). Contains (s.number ∷ []) z.number) (sym here) (contains_head s.number [])) in
            let one = ap (λ b. weighs_one b t (weight_where (is_owned (s.number ∷ [])) ss)) is in
            let level = ap weight here in
            omega arith)
        | inr later ↦ (
            let rest = weighs_alone ss (pairs_tail (λ x y. start_number x < start_number y) t ss r) s later in
            let less = pairs_head (λ x y. start_number x < start_number y) t ss r s later in
            let is : is_owned (s.number ∷ []) t ≡ false = not_true (is_owned (s.number ∷ []) t) (λ passes. (
            let same = ap con_number (contains_one s.number t.number (owned_found (s.number ∷ []) t passes)) in absurd (omega arith))) in
            let one = ap (λ b. weighs_one b t (weight_where (is_owned (s.number ∷ [])) ss)) is in
            omega arith)
      ]
    where
      not_true : (b : Bool) → (b ≡ true → ⊥) → b ≡ false
      not_true true h = absurd (h refl)
      not_true false h = refl

  -- what constraints of the graph weigh together, one by one
  pub weighs_each : (owned : List ConId) → IsRising con_number owned → ((k : ConId) → Contains owned k → (s : Start) × Contains (starts g) s × (s.number ≡ k))
      → weight_of g owned ≡ sum_by (λ (k : ConId). weight (start_with g k)) owned
  weighs_each [] r there = nothing (starts g)
    where
      nothing : (ss : List Start) → weight_where (is_owned []) ss ≡ 0
      nothing [] = refl
      nothing (s ∷ ss) = nothing ss
  weighs_each (k ∷ ks) r there =
      let (s, s_in, is) = there k (contains_head k ks) in
      let first : weight_of g (k ∷ []) ≡ weight s = subst (λ (j : ConId). weight_of g (j ∷ []) ≡ weight s) is (weighs_alone (starts g) (starts_rise g rise) s s_in) in
      let found = ap weight (found_start g rise s k s_in is) in
      let rest = weighs_each ks (pairs_tail (λ (i j : ConId). i.0 < j.0) k ks r) (λ j h. there j (contains_later k ks j h)) in
      let both = weights_add (is_owned (k ∷ [])) (is_owned ks) (is_owned (k ∷ ks)) (starts g)
      (λ t t_in. ends (k.0 == t.number.0) (is_owned ks t))
      (λ t t_in left right. (
      let here = contains_one k t.number (owned_found (k ∷ []) t left) in
      let less = pairs_head (λ (i j : ConId). i.0 < j.0) k ks r t.number (owned_found ks t right) in
      let level = ap con_number here in
      absurd (omega arith))) in
      let sums = sum_by-cons (λ (j : ConId). weight (start_with g j)) k ks in
      omega arith
    where
      ends : (a b : Bool) → (a || b) ≡ ((a || false) || b)
      ends true b = refl
      ends false b = refl

-- without blocks what a body owns weighs as much as it has
pub owned_count : (g : Graph) → IsSoundGraph g → g.blocks ≡ [] → (f : List Body) → Reach g (initial_bodies g) f → (x : Body) → Contains f x → weight_of g x.owned ≡ length x.owned
owned_count g sound none f reached x x_in =
    let tight = reached_tight g f sound.edges_rise reached in
    let there : (k : ConId) → Contains x.owned k → (s : Start) × Contains (starts g) s × (s.number ≡ k) = λ k k_in. (let s = tight.inside x x_in k k_in in (s.0, s.1, s.2)) in
    weighs_each g sound.edges_rise x.owned (tight.family.rising x x_in).owned there
    ∙ ones x.owned (λ k k_in. (
    let (s, s_in, is) = there k k_in in
    ap weight (found_start g sound.edges_rise s k s_in is) ∙ elim (start_comes g s s_in) [
      | inl (b, b_in, b_is) ↦ absurd (contains_none b (subst (λ bs. Contains bs b) none b_in))
      | inr (e, e_in, e_is) ↦ subst (λ t. weight t ≡ 1) e_is (edge_weighs_one e (sound.two_ends e e_in))
    ]))
  where
    ones : (ks : List ConId) → ((k : ConId) → Contains ks k → weight (start_with g k) ≡ 1) → sum_by (λ (k : ConId). weight (start_with g k)) ks ≡ length ks
    ones [] each = refl
    ones (k ∷ ks) each =
        let more = sum_by-cons (λ (j : ConId). weight (start_with g j)) k ks in
        let one = each k (contains_head k ks) in
        let rest = ones ks (λ j h. each j (contains_later k ks j h)) in
        omega arith
