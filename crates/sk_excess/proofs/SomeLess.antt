-- Graphs with some of their constraints, and with some of these.
use Rattle.std.proofs.Common.{◌≡◌, ◌⊎◌, inl, inr, ℕ, ◌<◌, Bool, true, false, cond, List, [], ◌∷◌, refl, ap, sym, subst, ◌∙◌, arith}
use Rattle.std.specs.Prelude.{Contains, filter, not, nat_lt, ◌↔◌, ◌&&◌}
use Rattle.std.proofs.lemmas.Bool.{and_parts, and_from, not_from_false, false_from_ne_true}
use Rattle.std.proofs.lemmas.Bool.Decides.{nat_tests}
use Rattle.sk_base.specs.declared.ConId.{ConId}
use Rattle.sk_base.specs.declared.Edge.{Edge}
use Rattle.sk_base.specs.declared.Block.{Block}
use Rattle.sk_base.specs.declared.Graph.{Graph}
use Rattle.sk_base.specs.SoundGraph.{IsSoundGraph}
use Rattle.sk_base.specs.Numbering.{con_number, con_exact}
use Rattle.sk_base.proofs.Filters.{filter_both, same_tests}
use Rattle.sk_base.proofs.Members.{contains_head, contains_later, contains_filtered, filtered_from}
use Rattle.sk_base.proofs.Numbers.{among_found, found_among}
use Rattle.sk_family.specs.Body.{edge_start, block_start}
use Rattle.sk_family.proofs.GraphStarts.{edge_starts, block_starts}
use Rattle.sk_rules.specs.JustSome.{with_just}
use Rattle.sk_rules.proofs.JustSome.{all_pass, in_part}
use Rattle.sk_excess.specs.LeftOut.{is_number, is_kept, kept_graph, above, HasConstraint}

-- what is one of some numbers, what is kept, and what is above
pub number_in : (numbers : List ConId) (k : ConId) → is_number numbers k ≡ true → Contains numbers k
number_in numbers k = among_found con_number con_exact numbers k

pub in_number : (numbers : List ConId) (k : ConId) → Contains numbers k → is_number numbers k ≡ true
in_number numbers k = found_among con_number numbers k

pub not_kept : (left : List ConId) (k : ConId) → Contains left k → is_kept left k ≡ false
not_kept left k h = ap not (in_number left k h)

pub kept_not : (left : List ConId) (k : ConId) → is_kept left k ≡ true → ¬ Contains left k
kept_not left k passes h = (let never : true ≡ false = sym passes ∙ not_kept left k h in absurd (cc))

pub none_kept : (left : List ConId) (k : ConId) → (¬ Contains left k) → is_kept left k ≡ true
none_kept left k out = not_from_false (is_number left k) (false_from_ne_true (is_number left k) (λ passes. out (number_in left k passes)))

pub in_above : (k : ConId) (numbers : List ConId) (j : ConId) → Contains (above k numbers) j ↔ (Contains numbers j × (k.0 < j.0))
in_above k numbers j = (
  (λ h. (let was = filtered_from (λ (i : ConId). nat_lt k.0 i.0) numbers j h in (was.0, less k.0 j.0 was.1))),
  (λ h. contains_filtered (λ (i : ConId). nat_lt k.0 i.0) numbers j h.0 (passes k.0 j.0 h.1)),
)
  where
    less : (a b : ℕ) → nat_lt a b ≡ true → a < b
    less a b h = grind (arith, nat_tests)

    passes : (a b : ℕ) → a < b → nat_lt a b ≡ true
    passes a b h = grind (arith, nat_tests)

-- where two tests agree on a list
filter_agree_in : {X : Type 0} (p q : X → Bool) (xs : List X) → ((x : X) → Contains xs x → p x ≡ q x) → filter p xs ≡ filter q xs
filter_agree_in p q [] same = refl
filter_agree_in p q (x ∷ xs) same =
    ap (λ b. cond b (x ∷ filter p xs) (filter p xs)) (same x (contains_head x xs))
    ∙ ap (λ l. cond (q x) (x ∷ l) l) (filter_agree_in p q xs (λ y h. same y (contains_later x xs y h)))

module _ (g : Graph) where
  -- those that pass one test, and of these those that pass another
  pub just_twice : (p q : ConId → Bool) → with_just q (with_just p g) ≡ with_just (λ k. p k && q k) g
  just_twice p q =
      sym (ap (λ (es : List Edge). let h : Graph = record { nodes = g.nodes; edges = es; blocks = filter (λ (b : Block). p b.id && q b.id) g.blocks } in h)
      (filter_both (λ (e : Edge). p e.id) (λ (e : Edge). q e.id) (λ (e : Edge). p e.id && q e.id) (λ e. refl) g.edges)
      ∙ ap (λ (bs : List Block). let h : Graph = record { nodes = g.nodes; edges = filter (λ (e : Edge). q e.id) (filter (λ (e : Edge). p e.id) g.edges); blocks = bs } in h)
      (filter_both (λ (b : Block). p b.id) (λ (b : Block). q b.id) (λ (b : Block). p b.id && q b.id) (λ b. refl) g.blocks))

  pub kept_none : kept_graph [] g ≡ g
  kept_none = all_pass g

  module _ (sound : IsSoundGraph g) where
    -- tests that agree on the graph's constraints
    pub just_agree : (p q : ConId → Bool) → ((k : ConId) → HasConstraint g k → p k ≡ q k) → with_just p g ≡ with_just q g
    just_agree p q same =
        ap (λ (es : List Edge). let h : Graph = record { nodes = g.nodes; edges = es; blocks = filter (λ (b : Block). p b.id) g.blocks } in h)
        (filter_agree_in (λ (e : Edge). p e.id) (λ (e : Edge). q e.id) g.edges (λ e e_in. same e.id (edge_start e, edge_starts g e e_in, refl)))
        ∙ ap (λ (bs : List Block). let h : Graph = record { nodes = g.nodes; edges = filter (λ (e : Edge). q e.id) g.edges; blocks = bs } in h)
        (filter_agree_in (λ (b : Block). p b.id) (λ (b : Block). q b.id) g.blocks
        (λ b b_in. same b.id (block_start b, block_starts g sound.blocks_rise sound.blocks_apart b b_in, refl)))

    pub just_all : (p : ConId → Bool) → ((k : ConId) → HasConstraint g k → p k ≡ true) → with_just p g ≡ g
    just_all p passes = just_agree p (λ k. true) passes ∙ all_pass g

    -- what the graph of those that pass has
    pub part_has : (p : ConId → Bool) (k : ConId) → HasConstraint (with_just p g) k → HasConstraint g k × (p k ≡ true)
    part_has p k (s, s_in, is) =
        let was = (in_part g p sound s).0 s_in in
        ((s, was.0, is), subst (λ (j : ConId). p j ≡ true) is was.1)

    pub has_part : (p : ConId → Bool) (k : ConId) → HasConstraint g k → p k ≡ true → HasConstraint (with_just p g) k
    has_part p k (s, s_in, is) passes = (s, (in_part g p sound s).1 (s_in, subst (λ (j : ConId). p j ≡ true) (sym is) passes), is)

    -- the same numbers are left out
    pub kept_same : (some other : List ConId) → ((k : ConId) → Contains some k ↔ Contains other k) → kept_graph some g ≡ kept_graph other g
    kept_same some other same =
        just_agree (is_kept some) (is_kept other) (λ k has. same_tests (is_kept some k) (is_kept other k)
        (λ passes. none_kept other k (λ h. kept_not some k passes ((same k).1 h)))
        (λ passes. none_kept some k (λ h. kept_not other k passes ((same k).0 h))))

    -- some are left out, and then more
    pub kept_twice : (some more all : List ConId) → ((k : ConId) → Contains all k ↔ (Contains some k ⊎ Contains more k)) → kept_graph more (kept_graph some g) ≡ kept_graph all g
    kept_twice some more all are =
        just_twice (is_kept some) (is_kept more)
        ∙ just_agree (λ k. is_kept some k && is_kept more k) (is_kept all) (λ k has. same_tests (is_kept some k && is_kept more k) (is_kept all k)
        (λ passes. (
        let both = and_parts (is_kept some k) (is_kept more k) passes in
        none_kept all k (λ h. elim ((are k).0 h) [ inl early ↦ kept_not some k both.0 early | inr late ↦ kept_not more k both.1 late ])))
        (λ passes. and_from (is_kept some k) (is_kept more k)
        (none_kept some k (λ h. kept_not all k passes ((are k).1 (inl h))))
        (none_kept more k (λ h. kept_not all k passes ((are k).1 (inr h))))))
