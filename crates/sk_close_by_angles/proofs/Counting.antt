-- A sound family has few merges by the tie rule.
use Rattle.std.proofs.Common.{◌≡◌, ◌≢◌, inl, inr, ◌*◌, ◌^◌, ◌<◌, List, [], ◌∷◌, sym, subst, arith, length, length-append, zero-mul, suc-mul}
use Rattle.std.specs.Prelude.{AllPairs, Contains, map}
use Rattle.std.specs.List.{flat_map}
use Rattle.std.proofs.lemmas.Nat.{mul-lt}
use Rattle.std.proofs.lemmas.List.{length-map}
use Rattle.std.proofs.lemmas.List.Elements.{Contains-append_left, Contains-append_right}
use Rattle.sk_base.specs.declared.Graph.{Graph}
use Rattle.sk_base.proofs.Distinct.{no_longer}
use Rattle.sk_base.proofs.Members.{contains_none, contains_cases, contains_mapped}
use Rattle.sk_base.proofs.Pairs.{pairs_weaken}
use Rattle.sk_family.specs.declared.Cluster.{Cluster}
use Rattle.sk_family.specs.Clusters.{Clusters, IsSound}
use Rattle.sk_family.specs.declared.Merge.{Merge}
use Rattle.sk_family.specs.declared.Merge.TheVariants.{Two, Three}
use Rattle.sk_family.specs.Merges.{names_of}
use Rattle.sk_open_triples.specs.MergeOrder.{ComesFirst}
use Rattle.sk_close_by_order.proofs.OneRun.{names_irreflexive}
use Rattle.sk_close_by_angles.specs.WideChoices.{CanTakeByTie, AreTieMerges}

-- each of some items with each of others
module _ {X Y Z : Type 0} (both : X → Y → Z) (ys : List Y) where
  abbrev each_with : List X → List Z
  each_with xs = flat_map (λ x. map (both x) ys) xs

  count_each : (xs : List X) → length (each_with xs) ≡ length xs * length ys
  count_each [] = sym (zero-mul (length ys))
  count_each (x ∷ xs) =
      let these = length-map ys (both x) in
      let whole = length-append (map (both x) ys) (each_with xs) in
      let more = suc-mul (length xs) (length ys) in
      omega (arith, these, whole, more, count_each xs)

  in_each : (xs : List X) (x : X) (y : Y) → Contains xs x → Contains ys y → Contains (each_with xs) (both x y)
  in_each [] x y x_in y_in = absurd (contains_none x x_in)
  in_each (z ∷ xs) x y x_in y_in =
      elim (contains_cases z xs x x_in) [
        | inl here ↦ Contains-append_left (map (both z) ys) (each_with xs) (both x y) (subst (λ w. Contains (map (both w) ys) (both x y)) (sym here) (contains_mapped (both x) ys y y_in))
        | inr later ↦ Contains-append_right (map (both z) ys) (each_with xs) (both x y) (in_each xs x y later y_in)
      ]

module _ (g : Graph) (f : Clusters) where
  abbrev two_of : Cluster → Cluster → Merge
  two_of a b = Two a.name b.name

  abbrev all_twos : List Merge
  all_twos = each_with two_of f.live f.live

  among_twos : (m : Merge) → CanTakeByTie g f m → Contains all_twos m
  among_twos (Two x y) (falls, (a, b, a_is, b_is, meets)) =
      subst (λ n. Contains all_twos (Two n y)) a_is.has_name (subst (λ n. Contains all_twos (Two a.name n)) b_is.has_name (in_each two_of f.live f.live a b a_is.lives b_is.lives))
  among_twos (Three x y z) (falls, never) = absurd never

  pub few_ties : IsSound f → (merges : List Merge) → AreTieMerges g f merges → length merges < 2 ^ 64
  few_ties sound merges all =
      let apart : AllPairs (λ (m n : Merge). m ≢ n) merges =
      pairs_weaken ComesFirst (λ (m n : Merge). m ≢ n) merges all.in_order (λ m n m_in n_in before same. names_irreflexive (names_of n) (subst (λ (k : Merge). ComesFirst k n) same before)) in
      let within = no_longer merges all_twos apart (λ m m_in. among_twos m ((all.exactly m).0 m_in)) in
      let count = count_each two_of f.live f.live in
      let bound = mul-lt (length f.live) (length f.live) (2 ^ 32) (2 ^ 32) sound.few sound.few in
      omega (arith, within, count, bound)
