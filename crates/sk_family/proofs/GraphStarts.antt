-- What the constraints of a graph start with.
use Rattle.std.proofs.Common.{◌≡◌, ◌≢◌, inl, inr, ℕ, suc, ◌+◌, ◌-◌, ◌<◌, ◌≤◌, ◌==◌, get_or, drop, drop-cons, refl, true, false, List, [], ◌∷◌, ◌++◌, length, ap, sym, subst, ◌∙◌, arith, length-append}
use Rattle.std.specs.Prelude.{Contains, None, Some, map, unwrap_or}
use Rattle.std.proofs.lemmas.Bool.Decides.{nat_tests}
use Rattle.std.proofs.lemmas.List.{length-map, drop_all}
use Rattle.std.proofs.lemmas.List.Elements.{Contains-append_left, Contains-append_right, Contains-append_cases}
use Rattle.sk_base.specs.declared.Elem.{Elem}
use Rattle.sk_base.specs.declared.ConId.{ConId}
use Rattle.sk_base.specs.declared.Edge.{Edge}
use Rattle.sk_base.specs.declared.Block.{Block}
use Rattle.sk_base.specs.declared.Pin.{Pin}
use Rattle.sk_base.specs.declared.Graph.{Graph}
use Rattle.sk_base.specs.SoundGraph.{HasRisingEdges, HasRisingBlocks, HasBlocksApart, IsSoundGraph}
use Rattle.sk_base.specs.Lookups.{edge_numbered, block_numbered}
use Rattle.sk_base.specs.Numbering.{elem_number, elem_exact, con_number, con_exact}
use Rattle.sk_base.specs.Pins.{elements_of}
use Rattle.sk_base.specs.Rising.{IsRising, put, union}
use Rattle.sk_base.proofs.Distinct.{no_longer}
use Rattle.sk_base.proofs.Finding.{found_in, none_found, found_rising}
use Rattle.sk_base.proofs.Members.{contains_none, mapped_from, contains_mapped}
use Rattle.sk_base.proofs.Pairs.{pairs_map}
use Rattle.sk_base.proofs.Splits.{pairs_append}
use Rattle.sk_base.proofs.Unions.{rising_none, rising_union, rising_apart, union_left, union_right, union_cases, union_of_apart, rising_differ}
use Rattle.sk_family.specs.Body.{Start, start_number, edge_start, block_start, starts}
use Rattle.sk_family.specs.Starting.{any_start, start_with}
use Rattle.sk_family.specs.Starts.{IsStartOf}

-- a constraint starts with just the elements that it is between
pub among_start : (xs : List Elem) (e : Elem) → Contains xs e → Contains (union elem_number xs []) e
among_start xs e e_in = union_left elem_number elem_exact xs [] e e_in

pub from_start : (xs : List Elem) (e : Elem) → Contains (union elem_number xs []) e → Contains xs e
from_start xs e e_in = elim (union_cases elem_number xs [] e e_in) [ inl left ↦ left | inr right ↦ absurd (contains_none e right) ]

pub both_ends : (u v : Elem) → union elem_number (u ∷ []) (v ∷ []) ≡ union elem_number (u ∷ v ∷ []) []
unfolding union put
both_ends u v = refl

module _ (g : Graph) where
  pub start_comes : (s : Start) → Contains (starts g) s → IsStartOf g s
  start_comes s h =
      elim (union_cases start_number (map block_start g.blocks) (map edge_start g.edges) s h) [
        | inl left ↦ inl (mapped_from block_start g.blocks s left)
        | inr right ↦ inr (mapped_from edge_start g.edges s right)
      ]

  pub edge_starts : (e : Edge) → Contains g.edges e → Contains (starts g) (edge_start e)
  edge_starts e e_in = union_right start_number (map block_start g.blocks) (map edge_start g.edges) (edge_start e) (contains_mapped edge_start g.edges e e_in)

  pub block_starts : HasRisingBlocks g → HasBlocksApart g → (b : Block) → Contains g.blocks b → Contains (starts g) (block_start b)
  block_starts rise apart b b_in =
      union_of_apart start_number (map block_start g.blocks) (map edge_start g.edges)
      (pairs_map (λ (s t : Start). start_number s < start_number t) block_start g.blocks rise)
      (λ s t s_in t_in same. (
      let block = mapped_from block_start g.blocks s s_in in
      let edge = mapped_from edge_start g.edges t t_in in
      let block_id : block.0.id.0 ≡ start_number s = ap start_number block.2 in
      let edge_id : edge.0.id.0 ≡ start_number t = ap start_number edge.2 in
      apart edge.0 block.0 edge.1 block.1 (con_exact edge.0.id block.0.id (edge_id ∙ sym same ∙ sym block_id))))
      (block_start b) (contains_mapped block_start g.blocks b b_in)

  pub starts_exactly : HasRisingBlocks g → HasBlocksApart g → (s : Start) → IsStartOf g s → Contains (starts g) s
  starts_exactly rise apart s (inl (b, b_in, is)) = subst (λ (t : Start). Contains (starts g) t) is (block_starts rise apart b b_in)
  starts_exactly rise apart s (inr (e, e_in, is)) = subst (λ (t : Start). Contains (starts g) t) is (edge_starts e e_in)

  pub starts_rise : HasRisingEdges g → IsRising start_number (starts g)
  starts_rise rise =
      rising_union start_number (map block_start g.blocks) (map edge_start g.edges) (pairs_map (λ (s t : Start). start_number s < start_number t) edge_start g.edges rise)

  -- constraints are told apart by their numbers
  pub start_at : HasRisingEdges g → (s t : Start) → Contains (starts g) s → Contains (starts g) t → s.number ≡ t.number → s ≡ t
  start_at rise s t s_in t_in same = rising_apart start_number (starts g) (starts_rise rise) s t s_in t_in (ap con_number same)

  -- the start of a constraint of the graph is the one that is found by its number
  pub found_start : HasRisingEdges g → (s : Start) (k : ConId) → Contains (starts g) s → s.number ≡ k → start_with g k ≡ s
  found_start rise s k s_in is =
      subst (λ (i : ConId). start_with g i ≡ s) is
      (ap (λ o. unwrap_or o any_start) (found_rising start_number (starts g) (starts_rise rise) s s_in))

  -- no more constraints start than there are
  pub starts_few : HasRisingEdges g → length (starts g) ≤ length g.edges + length g.blocks
  starts_few rise =
      let all = no_longer (starts g) (map edge_start g.edges ++ map block_start g.blocks)
      (λ i j d i_j j_in same. (let less = starts_rise rise i j d i_j j_in in let level = ap start_number same in absurd (omega arith)))
      (λ s s_in. elim (start_comes s s_in) [
        | inl (b, b_in, is) ↦ subst (λ t. Contains (map edge_start g.edges ++ map block_start g.blocks) t) is
            (Contains-append_right (map edge_start g.edges) (map block_start g.blocks) (block_start b) (contains_mapped block_start g.blocks b b_in))
        | inr (e, e_in, is) ↦ subst (λ t. Contains (map edge_start g.edges ++ map block_start g.blocks) t) is
            (Contains-append_left (map edge_start g.edges) (map block_start g.blocks) (edge_start e) (contains_mapped edge_start g.edges e e_in))
      ]) in
      let joined = length-append (map edge_start g.edges) (map block_start g.blocks) in
      let edges : length (map edge_start g.edges) ≡ length g.edges = rw length-map in
      let blocks : length (map block_start g.blocks) ≡ length g.blocks = rw length-map in
      omega arith

-- of a sound graph as many start as there are constraints and blocks
pub starts_many : (g : Graph) → IsSoundGraph g → length (starts g) ≡ length g.edges + length g.blocks
starts_many g sound =
    let few = starts_few g sound.edges_rise in
    let all = no_longer (map edge_start g.edges ++ map block_start g.blocks) (starts g)
    (pairs_append (λ (s t : Start). s ≢ t) (map edge_start g.edges) (map block_start g.blocks)
    (rising_differ start_number (map edge_start g.edges) (pairs_map (λ (s t : Start). start_number s < start_number t) edge_start g.edges sound.edges_rise))
    (rising_differ start_number (map block_start g.blocks) (pairs_map (λ (s t : Start). start_number s < start_number t) block_start g.blocks sound.blocks_rise))
    (λ s t s_in t_in same. (
    let edge = mapped_from edge_start g.edges s s_in in
    let block = mapped_from block_start g.blocks t t_in in
    sound.blocks_apart edge.0 block.0 edge.1 block.1 (ap (λ (u : Start). u.number) (edge.2 ∙ same ∙ sym block.2)))))
    (λ s s_in. elim (Contains-append_cases (map edge_start g.edges) (map block_start g.blocks) s s_in) [
      | inl left ↦ (let edge = mapped_from edge_start g.edges s left in subst (λ t. Contains (starts g) t) edge.2 (edge_starts g edge.0 edge.1))
      | inr right ↦ (let block = mapped_from block_start g.blocks s right in subst (λ t. Contains (starts g) t) block.2 (block_starts g sound.blocks_rise sound.blocks_apart block.0 block.1))
    ]) in
    let joined = length-append (map edge_start g.edges) (map block_start g.blocks) in
    let edges : length (map edge_start g.edges) ≡ length g.edges = rw length-map in
    let blocks : length (map block_start g.blocks) ≡ length g.blocks = rw length-map in
    omega arith

-- where there are no blocks, just the edges start
pub edges_alone : (g : Graph) → g.blocks ≡ [] → starts g ≡ map edge_start g.edges
unfolding union
edges_alone g no_blocks = ap (λ (bs : List Block). union start_number (map block_start bs) (map edge_start g.edges)) no_blocks

-- where there is neither, nothing starts
pub no_starts : (g : Graph) → g.edges ≡ [] → g.blocks ≡ [] → starts g ≡ []
no_starts g no_edges no_blocks = edges_alone g no_blocks ∙ ap (λ (es : List Edge). map edge_start es) no_edges

pub edge_rises : (e : Edge) → IsRising elem_number (edge_start e).elements
edge_rises e = rising_union elem_number (e.u ∷ e.v ∷ []) [] (rising_none elem_number)

pub block_rises : (b : Block) → IsRising elem_number (block_start b).elements
block_rises b = rising_union elem_number (elements_of b.pins) [] (rising_none elem_number)

pub elements_rise : (g : Graph) (s : Start) → Contains (starts g) s → IsRising elem_number s.elements
elements_rise g s s_in =
    elim (start_comes g s s_in) [
      | inl (b, b_in, is) ↦ subst (λ (t : Start). IsRising elem_number t.elements) is (block_rises b)
      | inr (e, e_in, is) ↦ subst (λ (t : Start). IsRising elem_number t.elements) is (edge_rises e)
    ]

-- what is found among edges, or else among blocks, has the start of that number
module _ (g : Graph) (rise : HasRisingEdges g) (k : ConId) where
  abbrev pub edge_found : Edge → Type 0
  edge_found e = edge_numbered g k.0 ≡ Some e

  pub with_edge : (e : Edge) → edge_found e → start_with g k ≡ edge_start e
  with_edge e found =
      let is = found_in (λ (x : Edge). x.id.0 == k.0) g.edges e found in
      let level : e.id.0 ≡ k.0 = (let passes = is.1 in grind (arith, nat_tests)) in
      found_start g rise (edge_start e) k (edge_starts g e is.0) (con_exact e.id k level)

  no_edge : edge_numbered g k.0 ≡ None → (e : Edge) → Contains g.edges e → e.id.0 ≢ k.0
  no_edge none e e_in level =
      let fails = none_found (λ (x : Edge). x.id.0 == k.0) g.edges none e e_in in
      let passes : (e.id.0 == k.0) ≡ true = grind (arith, nat_tests) in
      let never : true ≡ false = sym passes ∙ fails in cc

  pub with_block : HasRisingBlocks g → edge_numbered g k.0 ≡ None → (b : Block) → block_numbered g k.0 ≡ Some b
      → (s : Start) → Contains (starts g) s → s.number ≡ k → start_with g k ≡ block_start b
  with_block blocks_rise none b found s s_in s_is =
      let is = found_in (λ (x : Block). x.id.0 == k.0) g.blocks b found in
      let level : b.id.0 ≡ k.0 = (let passes = is.1 in grind (arith, nat_tests)) in
      elim (start_comes g s s_in) [
        | inr (e, e_in, e_is) ↦ absurd (no_edge none e e_in (ap start_number e_is ∙ ap con_number s_is))
        | inl (d, d_in, d_is) ↦ (
            let d_level : d.id.0 ≡ k.0 = ap start_number d_is ∙ ap con_number s_is in
            let same : d ≡ b = rising_apart (λ (x : Block). x.id.0) g.blocks blocks_rise d b d_in is.0 (d_level ∙ sym level) in
            found_start g rise s k s_in s_is ∙ sym d_is ∙ ap block_start same)
      ]

  pub with_none : edge_numbered g k.0 ≡ None → block_numbered g k.0 ≡ None
      → (s : Start) → Contains (starts g) s → s.number ≡ k → ⊥
  with_none none no_block s s_in s_is =
      elim (start_comes g s s_in) [
        | inr (e, e_in, e_is) ↦ no_edge none e e_in (ap start_number e_is ∙ ap con_number s_is)
        | inl (d, d_in, d_is) ↦ (
            let fails = none_found (λ (x : Block). x.id.0 == k.0) g.blocks no_block d d_in in
            let level : d.id.0 ≡ k.0 = ap start_number d_is ∙ ap con_number s_is in
            let passes : (d.id.0 == k.0) ≡ true = grind (arith, nat_tests) in
            let never : true ≡ false = sym passes ∙ fails in cc)
      ]

-- the elements of the pins from a place on
abbrev pub elements_from : ℕ → List Pin → List Elem
elements_from i pins = union elem_number (elements_of (drop i pins)) []

pub pins_end : (pins : List Pin) → [] ≡ elements_from (length pins) pins
unfolding union
pins_end pins = ap (λ (ps : List Pin). union elem_number (elements_of ps) []) (sym (drop_all (length pins) pins (omega arith)))

pub pins_earlier : (pins : List Pin) (i : ℕ) (d : Pin) → 0 < i → i ≤ length pins → (elements : List Elem) → elements ≡ elements_from i pins
    → union elem_number ((get_or pins (i - 1) d).elem ∷ []) elements ≡ elements_from (i - 1) pins
unfolding union
pins_earlier pins i d above within elements so_far =
    let pin = get_or pins (i - 1) d in
    let one_less : suc (i - 1) ≡ i = omega arith in
    let earlier : drop (i - 1) pins ≡ pin ∷ drop i pins = drop-cons pins (i - 1) d (omega arith) ∙ ap (λ (j : ℕ). pin ∷ drop j pins) one_less in
    ap (put elem_number pin.elem) so_far ∙ ap (λ (ps : List Pin). union elem_number (elements_of ps) []) (sym earlier)
