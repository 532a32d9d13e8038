-- Each family has a list of choices.
use Rattle.std.proofs.Common.{◌≡◌, ◌⊎◌, inl, inr, refl, List, [], ◌∷◌, sym, subst, ◌∙◌}
use Rattle.std.specs.Prelude.{Contains, AllPairs}
use Rattle.sk_base.specs.declared.Name.{Name}
use Rattle.sk_base.specs.declared.Graph.{Graph}
use Rattle.sk_base.specs.ClusterNames.{IsBelow}
use Rattle.sk_base.proofs.Members.{contains_none, contains_head, contains_cases, contains_mapped}
use Rattle.sk_base.proofs.Pairs.{pairs_head}
use Rattle.sk_family.specs.declared.Cluster.{Cluster}
use Rattle.sk_family.specs.Clusters.{Clusters, IsNamed, live_names}
use Rattle.sk_family.proofs.Naming.{below_chain, below_tells}
use Rattle.sk_family.specs.declared.Merge.{Merge}
use Rattle.sk_family.specs.declared.Merge.TheVariants.{Two, Three}
use Rattle.sk_family.specs.Merges.{names_of}
use Rattle.sk_rules.proofs.SettledRules.{holds_decided, falls_decided}
use Rattle.sk_open_triples.specs.MergeOrder.{NamesBefore, ComesFirst}
use Rattle.sk_close_by_order.specs.Choices.{AreTriples, AreChoices}
use Rattle.sk_rules.specs.Merges.{CanTake}
use Rattle.sk_close_by_order.proofs.OneRun.{names_irreflexive, names_asymmetric}
use Rattle.sk_base.proofs.Deciding.{Decided, both}
use Rattle.sk_base.proofs.Selecting.{selected, times, in_times, from_times}

module _ (g : Graph) (f : Clusters) where
  pub take_decided : (m : Merge) → Decided (CanTake g f m)
  take_decided m = both (falls_decided m) (holds_decided g f m)

  name_lives : (n : Name) (c : Cluster) → IsNamed f n c → Contains (live_names f) n
  name_lives n c h = subst (λ (m : Name). Contains (live_names f) m) h.has_name (contains_mapped (λ (d : Cluster). d.name) f.live c h.lives)

  pub pairs : List Merge
  pairs = times Two (live_names f) (live_names f)

  three_of : Name → (Name × Name) → Merge
  three_of x rest = Three x rest.0 rest.1

  two_of : Name → Name → (Name × Name)
  two_of y z = (y, z)

  triples : List Merge
  triples = times three_of (live_names f) (times two_of (live_names f) (live_names f))

  -- each pair of live names is listed
  pub names_listed : (x y : Name) (a b : Cluster) → IsNamed f x a → IsNamed f y b → Contains pairs (Two x y)
  unfolding pairs
  names_listed x y a b x_is y_is = in_times Two (live_names f) (live_names f) x y (name_lives x a x_is) (name_lives y b y_is)

  pair_listed : (x y : Name) → CanTake g f (Two x y) → Contains pairs (Two x y)
  pair_listed x y (falls, (a, b, x_is, y_is, shares)) = names_listed x y a b x_is y_is

  triple_listed : (x y z : Name) → CanTake g f (Three x y z) → Contains triples (Three x y z)
  unfolding triples three_of two_of
  triple_listed x y z (falls, (a, b, c, x_is, y_is, z_is, meets)) =
      in_times three_of (live_names f) (times two_of (live_names f) (live_names f)) x (y, z) (name_lives x a x_is)
      (in_times two_of (live_names f) (live_names f) y z (name_lives y b y_is) (name_lives z c z_is))

  from_pairs : (m : Merge) → Contains pairs m → (x : Name) × (y : Name) × (m ≡ Two x y)
  unfolding pairs
  from_pairs m h = (let found = from_times Two (live_names f) (live_names f) m h in (found.0, found.1, sym found.2))

names_tell : (ms ns : List Name) → NamesBefore ms ns ⊎ ((ms ≡ ns) ⊎ NamesBefore ns ms)
names_tell [] [] = inr (inl refl)
names_tell [] (n ∷ ns) = inl tt
names_tell (m ∷ ms) [] = inr (inr tt)
names_tell (m ∷ ms) (n ∷ ns) =
    elim (below_tells m n) [
      | inl below ↦ inl (inl below)
      | inr (inr above) ↦ inr (inr (inl above))
      | inr (inl same) ↦ elim (names_tell ms ns) [
        | inl before ↦ inl (inr (same, before))
        | inr (inl rest) ↦ inr (inl (cc))
        | inr (inr after) ↦ inr (inr (inr (sym same, after)))
      ]
    ]

names_chain : (ls ms ns : List Name) → NamesBefore ls ms → NamesBefore ms ns → NamesBefore ls ns
names_chain [] [] ns h k = absurd h
names_chain [] (m ∷ ms) [] h k = absurd k
names_chain [] (m ∷ ms) (n ∷ ns) h k = tt
names_chain (l ∷ ls) [] ns h k = absurd h
names_chain (l ∷ ls) (m ∷ ms) [] h k = absurd k
names_chain (l ∷ ls) (m ∷ ms) (n ∷ ns) (inl below) (inl next) = inl (below_chain l m n below next)
names_chain (l ∷ ls) (m ∷ ms) (n ∷ ns) (inl below) (inr (same, rest)) = inl (subst (λ k. IsBelow l k) same below)
names_chain (l ∷ ls) (m ∷ ms) (n ∷ ns) (inr (same, rest)) (inl next) = inl (subst (λ k. IsBelow k n) (sym same) next)
names_chain (l ∷ ls) (m ∷ ms) (n ∷ ns) (inr (same, h)) (inr (level, k)) = inr (same ∙ level, names_chain ls ms ns h k)

by_names : (m n : Merge) → names_of m ≡ names_of n → m ≡ n
by_names (Two x y) (Two p q) e = cc
by_names (Two x y) (Three p q r) e = absurd (cc)
by_names (Three x y z) (Two p q) e = absurd (cc)
by_names (Three x y z) (Three p q r) e = cc

merges_tell : (m n : Merge) → ComesFirst m n ⊎ ((m ≡ n) ⊎ ComesFirst n m)
merges_tell m n =
    elim (names_tell (names_of m) (names_of n)) [
      | inl before ↦ inl before
      | inr (inl same) ↦ inr (inl (by_names m n same))
      | inr (inr after) ↦ inr (inr after)
    ]

merges_chain : (l m n : Merge) → ComesFirst l m → ComesFirst m n → ComesFirst l n
merges_chain l m n = names_chain (names_of l) (names_of m) (names_of n)

-- those of some merges that may be taken, in order
in_order : (g : Graph) (f : Clusters) (merges : List Merge) → (ms : List Merge) × AllPairs ComesFirst ms × ((m : Merge) → (Contains ms m → CanTake g f m) × (Contains merges m → CanTake g f m → Contains ms m) × (Contains ms m → Contains merges m))
in_order g f merges =
    let found = selected ComesFirst merges_tell merges_chain (λ m. CanTake g f m) (take_decided g f) merges in
    (found.0, found.1, λ m. ((λ h. ((found.2 m).0 h).1), (λ listed can. (found.2 m).1 (listed, can)), (λ h. ((found.2 m).0 h).0)))

module _ (g : Graph) (f : Clusters) where
  triples_only : ((p q : Name) → ¬ CanTake g f (Two p q)) → (choices : List Merge) × AreTriples g f choices
  triples_only none =
      let found = in_order g f (triples g f) in
      (found.0, record { no_pair = none; in_order = found.1; exactly = λ m. ((found.2 m).0, listed m found.0 (found.2 m).1) })
    where
      listed : (m : Merge) (ms : List Merge) → (Contains (triples g f) m → CanTake g f m → Contains ms m) → CanTake g f m → Contains ms m
      listed (Two x y) ms h can = absurd (none x y can)
      listed (Three x y z) ms h can = h (triple_listed g f x y z can) can

  pub some_choices : (choices : List Merge) × AreChoices g f choices
  some_choices = (let found = in_order g f (pairs g f) in told found.0 found.1 found.2)
    where
      told : (ms : List Merge) → AllPairs ComesFirst ms → ((m : Merge) → (Contains ms m → CanTake g f m) × (Contains (pairs g f) m → CanTake g f m → Contains ms m) × (Contains ms m → Contains (pairs g f) m)) → (choices : List Merge) × AreChoices g f choices
      told [] rises is =
          let rest = triples_only (λ p q can. contains_none (Two p q) ((is (Two p q)).1 (pair_listed g f p q can) can)) in (rest.0, inr rest.1)
      told (m ∷ ms) rises is = (
        m ∷ [],
        inl (
          m,
          refl,
          record {
            can_take = (is m).0 (contains_head m ms);
            is_pair = from_pairs g f m ((is m).2 (contains_head m ms));
            first = λ p q can before. elim (contains_cases m ms (Two p q) ((is (Two p q)).1 (pair_listed g f p q can) can)) [
              | inl same ↦ names_irreflexive (names_of m) (subst (λ (k : Merge). ComesFirst k m) (sym same) before)
              | inr later ↦ names_asymmetric (names_of (Two p q)) (names_of m) before (pairs_head ComesFirst m ms rises (Two p q) later)
            ];
          },
        ),
      )
