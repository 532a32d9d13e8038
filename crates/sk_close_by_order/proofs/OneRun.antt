-- A family has one list of choices, and a picker one run from it.
use Rattle.std.proofs.Common.{◌≡◌, inl, inr, refl, ℕ, List, [], ◌∷◌, ap, sym, subst, ◌∙◌, length}
use Rattle.std.specs.Prelude.{slice_get, Some}
use Rattle.sk_base.specs.declared.Name.{Name}
use Rattle.sk_base.specs.declared.Graph.{Graph}
use Rattle.sk_base.specs.ClusterNames.{IsBelow}
use Rattle.sk_base.proofs.Pairs.{pairs_same}
use Rattle.std.proofs.lemmas.Option.{same_Some}
use Rattle.sk_family.specs.Clusters.{Clusters}
use Rattle.sk_family.proofs.Naming.{below_irreflexive, below_asymmetric, below_tells}
use Rattle.sk_family.specs.declared.Merge.{Merge}
use Rattle.sk_family.specs.declared.Merge.TheVariants.{Two}
use Rattle.sk_family.specs.Merges.{names_of}
use Rattle.sk_rules.specs.Merges.{merged, CanTake}
use Rattle.sk_open_triples.specs.MergeOrder.{NamesBefore, ComesFirst}
use Rattle.sk_close_by_order.specs.Choices.{IsFirstPair, AreTriples, AreChoices}
use Rattle.sk_close_by_order.specs.Run.{PicksLeadBy}

pub names_irreflexive : (ns : List Name) → ¬ NamesBefore ns ns
names_irreflexive [] h = h
names_irreflexive (n ∷ ns) (inl below) = below_irreflexive n below
names_irreflexive (n ∷ ns) (inr (same, rest)) = names_irreflexive ns rest

pub names_asymmetric : (ms ns : List Name) → NamesBefore ms ns → ¬ NamesBefore ns ms
names_asymmetric [] [] h g = h
names_asymmetric [] (n ∷ ns) h g = g
names_asymmetric (m ∷ ms) [] h g = h
names_asymmetric (m ∷ ms) (n ∷ ns) (inl below) (inl above) = below_asymmetric m n below above
names_asymmetric (m ∷ ms) (n ∷ ns) (inl below) (inr (same, rest)) = below_irreflexive m (subst (λ l. IsBelow m l) same below)
names_asymmetric (m ∷ ms) (n ∷ ns) (inr (same, rest)) (inl above) = below_irreflexive n (subst (λ l. IsBelow n l) same above)
names_asymmetric (m ∷ ms) (n ∷ ns) (inr (same, h)) (inr (back, g)) = names_asymmetric ms ns h g

-- of two pairs one comes first, or they are the same
pairs_told : (x y p q : Name) → ¬ ComesFirst (Two x y) (Two p q) → ¬ ComesFirst (Two p q) (Two x y) → Two x y ≡ Two p q
pairs_told x y p q not_before not_after =
    elim (below_tells x p) [
      | inl below ↦ absurd (not_before (inl below))
      | inr (inr above) ↦ absurd (not_after (inl above))
      | inr (inl first) ↦ elim (below_tells y q) [
        | inl below ↦ absurd (not_before (inr (first, inl below)))
        | inr (inr above) ↦ absurd (not_after (inr (sym first, inl above)))
        | inr (inl second) ↦ cc
      ]
    ]

first_is_one : (g : Graph) (f : Clusters) (m n : Merge) → IsFirstPair g f m → IsFirstPair g f n → m ≡ n
first_is_one g f m n one other =
    let (x, y, m_is) = one.is_pair in
    let (p, q, n_is) = other.is_pair in
    let m_can : CanTake g f (Two x y) = subst (λ (k : Merge). CanTake g f k) m_is one.can_take in
    let n_can : CanTake g f (Two p q) = subst (λ (k : Merge). CanTake g f k) n_is other.can_take in
    m_is ∙ pairs_told x y p q
    (λ h. other.first x y m_can (subst (λ (k : Merge). ComesFirst (Two x y) k) (sym n_is) h))
    (λ h. one.first p q n_can (subst (λ (k : Merge). ComesFirst (Two p q) k) (sym m_is) h))
    ∙ sym n_is

no_pair_beside : (g : Graph) (f : Clusters) (m : Merge) (choices : List Merge) → IsFirstPair g f m → AreTriples g f choices → ⊥
no_pair_beside g f m choices one triples =
    let (x, y, is) = one.is_pair in
    triples.no_pair x y (subst (λ (k : Merge). CanTake g f k) is one.can_take)

pub choices_are_one : (g : Graph) (f : Clusters) (one other : List Merge) → AreChoices g f one → AreChoices g f other → one ≡ other
choices_are_one g f one other (inl (m, m_is, m_first)) (inl (n, n_is, n_first)) =
    m_is ∙ ap (λ (k : Merge). k ∷ []) (first_is_one g f m n m_first n_first) ∙ sym n_is
choices_are_one g f one other (inl (m, m_is, m_first)) (inr triples) = absurd (no_pair_beside g f m other m_first triples)
choices_are_one g f one other (inr triples) (inl (n, n_is, n_first)) = absurd (no_pair_beside g f n one n_first triples)
choices_are_one g f one other (inr ours) (inr theirs) =
    pairs_same ComesFirst (λ m. names_irreflexive (names_of m)) (λ m n. names_asymmetric (names_of m) (names_of n)) one other ours.in_order theirs.in_order
    (λ m h. (theirs.exactly m).1 ((ours.exactly m).0 h)) (λ m h. (ours.exactly m).1 ((theirs.exactly m).0 h))

pub nothing_picked : (n : ℕ) (m : Merge) → slice_get [] n ≡ Some m → ⊥
nothing_picked n m e = cc

-- where a family has one list of choices, a picker has one run
module _ {P : Type 0} (are : Clusters → List Merge → Type 0) (one_list : (f : Clusters) (xs ys : List Merge) → are f xs → are f ys → xs ≡ ys)
    (answer : P → ℕ → ℕ) (after : P → ℕ → P) where
  -- where there is no choice none is picked
  stopped : (f : Clusters) (p : P) (choices : List Merge) (m : Merge) → are f choices → slice_get choices (answer p (length choices)) ≡ Some m → are f [] → ⊥
  stopped f p choices m these picked none =
      let empty : choices ≡ [] = one_list f choices [] these none in
      nothing_picked (answer p (length choices)) m (ap (λ cs. slice_get cs (answer p (length choices))) (sym empty) ∙ picked)

  -- the same start leads the same way as long as there are choices
  pub runs_are_one : (f : Clusters) (p : P) (ms ns : List Merge) (one other : Clusters) (last end : P)
      → PicksLeadBy are answer after f p ms one last → are one [] → PicksLeadBy are answer after f p ns other end → are other []
      → (ms ≡ ns) × (one ≡ other) × (last ≡ end)
  runs_are_one f p [] [] one other last end (one_is, last_is) none (other_is, end_is) no_more =
      (refl, one_is ∙ sym other_is, last_is ∙ sym end_is)
  runs_are_one f p [] (n ∷ ns) one other last end (one_is, last_is) none (choices, these, picked, rest) no_more =
      absurd (stopped f p choices n these picked (subst (λ (h : Clusters). are h []) one_is none))
  runs_are_one f p (m ∷ ms) [] one other last end (choices, these, picked, rest) none (other_is, end_is) no_more =
      absurd (stopped f p choices m these picked (subst (λ (h : Clusters). are h []) other_is no_more))
  runs_are_one f p (m ∷ ms) (n ∷ ns) one other last end (cs, cs_are, m_picked, ms_lead) none (ds, ds_are, n_picked, ns_lead) no_more =
      let lists : cs ≡ ds = one_list f cs ds cs_are ds_are in
      let same : m ≡ n = same_Some m n (sym m_picked ∙ ap (λ ks. slice_get ks (answer p (length ks))) lists ∙ n_picked) in
      let moved : PicksLeadBy are answer after (merged f m) (after p (length cs)) ns other end =
      subst (λ (k : Merge). PicksLeadBy are answer after (merged f k) (after p (length cs)) ns other end) (sym same)
      (subst (λ ks. PicksLeadBy are answer after (merged f n) (after p (length ks)) ns other end) (sym lists) ns_lead) in
      let (rest, ends, lasts) = runs_are_one (merged f m) (after p (length cs)) ms ns one other last end ms_lead none moved no_more in
      (cc, ends, lasts)
