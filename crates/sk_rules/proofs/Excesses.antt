-- What merging adds to the excess.
use Rattle.std.proofs.Common.{◌≡◌, ◌≢◌, inl, inr, refl, ℕ, ◌+◌, ◌*◌, ◌<◌, Bool, true, false, List, [], ◌∷◌, length, sym, ap, arith}
use Rattle.std.specs.Prelude.{Contains, filter, not, pos, ◌+ℤ◌, ◌-ℤ◌}
use Rattle.std.proofs.lemmas.Int.{ints}
use Rattle.std.proofs.lemmas.List.Filters.{length-filter_both}
use Rattle.sk_base.specs.declared.Elem.{Elem}
use Rattle.sk_base.specs.declared.Graph.{Graph}
use Rattle.sk_base.specs.SoundGraph.{HasRisingEdges}
use Rattle.sk_base.specs.Numbering.{elem_number, con_number, elem_exact, is_elem}
use Rattle.sk_base.specs.Rising.{IsRising, union}
use Rattle.sk_base.proofs.Members.{contains_filtered, filtered_from}
use Rattle.sk_base.proofs.Pairs.{pairs_filter}
use Rattle.sk_base.proofs.Unions.{rising_union, rising_same, union_left, union_right, union_cases}
use Rattle.sk_base.proofs.Sizes.{union_apart}
use Rattle.sk_family.specs.Body.{Body, join, join_all, initial_bodies}
use Rattle.sk_family.specs.Sharing.{shared}
use Rattle.sk_rules.specs.Reach.{Reach}
use Rattle.sk_rules.specs.Excess.{weight_of, excess_of, shared_by_two, shared_by_three}
use Rattle.sk_rules.proofs.Families.{IsFamily}
use Rattle.sk_rules.proofs.NormalForm.{reached_family}
use Rattle.sk_rules.proofs.Counting.{owned_apart}
use Rattle.sk_rules.proofs.SummedWeights.{weighs_both}
use Rattle.sk_base.proofs.Numbers.{elem_found, found_elem}

not_there : (b : Bool) → not b ≡ true → b ≡ true → ⊥
not_there true h t = absurd (cc)
not_there false h t = absurd (cc)

-- a union has what both have, but for what they share
module _ (xs ys : List Elem) (xs_rise : IsRising elem_number xs) (ys_rise : IsRising elem_number ys) where
  abbrev others : List Elem
  others = filter (λ (e : Elem). not (is_elem ys e)) xs

  in_others : (e : Elem) → Contains xs e → (b : Bool) → is_elem ys e ≡ b → Contains (union elem_number others ys) e
  in_others e e_in true is = union_right elem_number others ys e (elem_found ys e is)
  in_others e e_in false is =
      union_left elem_number elem_exact others ys e (contains_filtered (λ (d : Elem). not (is_elem ys d)) xs e e_in (ap not is))

  same_union : union elem_number xs ys ≡ union elem_number others ys
  same_union =
      rising_same elem_number (union elem_number xs ys) (union elem_number others ys)
      (rising_union elem_number xs ys ys_rise) (rising_union elem_number others ys ys_rise)
      (λ e h. elim (union_cases elem_number xs ys e h) [
        | inl left ↦ in_others e left (is_elem ys e) refl
        | inr right ↦ union_right elem_number others ys e right
      ])
      (λ e h. elim (union_cases elem_number others ys e h) [
        | inl left ↦ union_left elem_number elem_exact xs ys e (filtered_from (λ (d : Elem). not (is_elem ys d)) xs e left).0
        | inr right ↦ union_right elem_number xs ys e right
      ])

  pub union_size : length (union elem_number xs ys) + length (shared xs ys) ≡ length xs + length ys
  union_size =
      let apart = union_apart elem_number elem_exact others ys (pairs_filter (λ (d e : Elem). d.0 < e.0) (λ (e : Elem). not (is_elem ys e)) xs xs_rise)
      (λ e h there. not_there (is_elem ys e) (filtered_from (λ (d : Elem). not (is_elem ys d)) xs e h).1 (found_elem ys e there)) in
      let both = length-filter_both (is_elem ys) (λ (e : Elem). not (is_elem ys e)) (λ e. refl) xs in
      let same : length (union elem_number xs ys) ≡ length (union elem_number others ys) = ap length same_union in
      omega (arith, apart, both, same)

of_two : (na nb n k oa ob o : ℕ) → n + k ≡ na + nb → o ≡ oa + ob
    → ((pos (o + 3) -ℤ pos (2 * n)) +ℤ pos 3) ≡ (((pos (oa + 3) -ℤ pos (2 * na)) +ℤ (pos (ob + 3) -ℤ pos (2 * nb))) +ℤ pos (2 * k))
of_two na nb n k oa ob o size count = omega (arith, ints)

of_three : (na nb nc nab n k l oa ob oc oab o : ℕ) → nab + k ≡ na + nb → n + l ≡ nab + nc → oab ≡ oa + ob → o ≡ oab + oc
    → ((pos (o + 3) -ℤ pos (2 * n)) +ℤ pos 6) ≡ (((pos (oa + 3) -ℤ pos (2 * na)) +ℤ ((pos (ob + 3) -ℤ pos (2 * nb)) +ℤ (pos (oc + 3) -ℤ pos (2 * nc)))) +ℤ pos (2 * (k + l)))
of_three na nb nc nab n k l oa ob oc oab o h1 h2 h3 h4 = omega (arith, ints)

module _ (g : Graph) (f : List Body) (rises : HasRisingEdges g) (reached : Reach g (initial_bodies g) f) where
  family : IsFamily f
  family = reached_family g f rises reached

  pub excess_of_pair : (a b : Body) → Contains f a → Contains f b → a ≢ b → (excess_of g (join_all (a ∷ b ∷ [])) +ℤ pos 3) ≡ ((excess_of g a +ℤ excess_of g b) +ℤ pos (2 * shared_by_two a b))
  unfolding union
  excess_of_pair a b a_in b_in differ =
      let a_rises = family.rising a a_in in
      let b_rises = family.rising b b_in in
      of_two (length a.elements) (length b.elements) (length (union elem_number a.elements b.elements)) (shared_by_two a b)
      (weight_of g a.owned) (weight_of g b.owned) (weight_of g (union con_number a.owned b.owned))
      (union_size a.elements b.elements a_rises.elements b_rises.elements)
      (weighs_both g a.owned b.owned (owned_apart f family a b a_in b_in differ))

  pub excess_of_triangle : (a b c : Body) → Contains f a → Contains f b → Contains f c → a ≢ b → b ≢ c → c ≢ a
      → (excess_of g (join_all (a ∷ b ∷ c ∷ [])) +ℤ pos 6) ≡ ((excess_of g a +ℤ (excess_of g b +ℤ excess_of g c)) +ℤ pos (2 * shared_by_three a b c))
  unfolding union
  excess_of_triangle a b c a_in b_in c_in a_b b_c c_a =
      let a_rises = family.rising a a_in in
      let b_rises = family.rising b b_in in
      let c_rises = family.rising c c_in in
      of_three (length a.elements) (length b.elements) (length c.elements) (length (union elem_number a.elements b.elements))
      (length (union elem_number (union elem_number a.elements b.elements) c.elements)) (shared_by_two a b) (shared_by_two (join a b) c)
      (weight_of g a.owned) (weight_of g b.owned) (weight_of g c.owned) (weight_of g (union con_number a.owned b.owned)) (weight_of g (union con_number (union con_number a.owned b.owned) c.owned))
      (union_size a.elements b.elements a_rises.elements b_rises.elements)
      (union_size (union elem_number a.elements b.elements) c.elements (rising_union elem_number a.elements b.elements b_rises.elements) c_rises.elements)
      (weighs_both g a.owned b.owned (owned_apart f family a b a_in b_in a_b))
      (weighs_both g (union con_number a.owned b.owned) c.owned
      (λ k h. elim (union_cases con_number a.owned b.owned k h) [
        | inl left ↦ owned_apart f family a c a_in c_in (λ e. c_a (sym e)) k left
        | inr right ↦ owned_apart f family b c b_in c_in b_c k right
      ]))
