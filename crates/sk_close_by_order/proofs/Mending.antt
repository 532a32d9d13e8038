-- What is known of a family's merges, from one turn to the next.
use Rattle.std.proofs.Common.{◌≡◌, inl, inr, refl, List, [], ◌∷◌, ◌++◌, sym, subst, ◌∙◌, ap, Bool, true, false, arith, cond}
use Rattle.std.specs.Prelude.{◌↔◌, Contains, not, ◌||◌}
use Rattle.std.proofs.lemmas.List.Elements.{Contains-append_left, Contains-append_right, Contains-append_cases}
use Rattle.std.proofs.lemmas.List.Folds.{list_any-append}
use Rattle.sk_base.specs.declared.Name.{Name}
use Rattle.sk_base.specs.declared.Name.TheVariants.{Con, Step}
use Rattle.sk_base.specs.declared.Graph.{Graph}
use Rattle.sk_base.specs.ClusterNames.{IsBelow, is_named, name_eq}
use Rattle.sk_family.specs.declared.Cluster.{Cluster}
use Rattle.sk_family.specs.Clusters.{Clusters, IsSound, replaced, IsWithin}
use Rattle.sk_base.proofs.Splits.{pairs_append}
use Rattle.sk_base.proofs.Filters.{filter_both, neither}
use Rattle.sk_family.proofs.Naming.{among_named, named_among, below_others, is_it_below}
use Rattle.sk_family.specs.declared.Merge.{Merge}
use Rattle.sk_family.specs.declared.Merge.TheVariants.{Two, Three}
use Rattle.sk_rules.specs.Merges.{CanTake, TakesFrom}
use Rattle.sk_open_triples.specs.MergeOrder.{ComesFirst}
use Rattle.sk_close_by_order.specs.Choices.{AreTriples}
use Rattle.sk_open_triples.specs.Avoiding.{avoiding, names_one_of}
use Rattle.sk_close_by_order.specs.Known.{AreKept, NoPairBelow, Knows}
use Rattle.sk_close_by_order.proofs.Lefts.{mended, no_pair_after}
use Rattle.sk_close_by_order.specs.Gather.{AreUncovered}
use Rattle.sk_family.proofs.Lasting.{live_below_next, named_below_next}

module _ (g : Graph) (f : Clusters) (sound : IsSound f) where
  -- where no pair may merge, all triples kept are the choices
  pub kept_are_choices : (kept : List Merge) → ((p q : Name) → ¬ CanTake g f (Two p q)) → AreKept g f (λ x. IsBelow x (Step f.next_step)) kept → AreTriples g f kept
  kept_are_choices kept no_pair are = record {
    no_pair = no_pair;
    in_order = are.in_order;
    exactly = λ m. ((λ m_in. (are.right m m_in).0), every m);
  }
    where
      every : (m : Merge) → CanTake g f m → Contains kept m
      every (Two p q) can = absurd (no_pair p q can)
      every (Three x y z) can = placed can
        where
          placed : CanTake g f (Three x y z) → Contains kept (Three x y z)
          placed (falls, (a, b, c, a_is, b_is, c_is, meets)) = are.all x y z (named_below_next f sound x a a_is) (falls, (a, b, c, a_is, b_is, c_is, meets))

  pub no_pair_at_all : NoPairBelow f (Step f.next_step) → (p q : Name) → ¬ CanTake g f (Two p q)
  no_pair_at_all no_pair p q (below, (a, b, a_is, b_is, two)) =
      no_pair a b a_is.lives b_is.lives (live_below_next f sound a a_is.lives)
      (subst (λ n. IsBelow n a.name) (sym b_is.has_name) (subst (λ n. IsBelow q n) (sym a_is.has_name) below)) two

  -- the triples below a name and those of the other clusters, put behind, are all
  pub kept_more : (bound : Name) (kept found : List Merge) → AreKept g f (λ x. IsBelow x bound) kept → AreUncovered g f bound found
      → AreKept g f (λ x. IsBelow x (Step f.next_step)) (kept ++ found)
  kept_more bound kept found are uncovered = record {
    in_order = pairs_append ComesFirst kept found are.in_order uncovered.in_order (λ m n m_in n_in. before m n (are.right m m_in) ((uncovered.exactly n).0 n_in));
    right = λ m h. elim (Contains-append_cases kept found m h) [ inl old ↦ was m (are.right m old) | inr new ↦ is_new m ((uncovered.exactly m).0 new) ];
    all = λ x y z below can. every x y z can;
  }
    where
      before : (m n : Merge) → CanTake g f m × ((x : Name) × (y : Name) × (z : Name) × (m ≡ Three x y z) × IsBelow x bound) → (c : Cluster) × (Contains f.live c × ¬ IsBelow c.name bound) × TakesFrom g f c n → ComesFirst m n
      before m n (can, (x, y, z, is, below)) (c, (c_in, above), (can_n, (p, q, n_is))) =
          subst (λ k. ComesFirst k n) (sym is) (subst (λ k. ComesFirst (Three x y z) k) (sym n_is) (inl (below_others x bound c.name below above)))

      was : (m : Merge) → CanTake g f m × ((x : Name) × (y : Name) × (z : Name) × (m ≡ Three x y z) × IsBelow x bound) → CanTake g f m × ((x : Name) × (y : Name) × (z : Name) × (m ≡ Three x y z) × IsBelow x (Step f.next_step))
      was m (can, (x, y, z, is, below)) = (can, (x, y, z, is, of_live x y z (subst (λ k. CanTake g f k) is can)))
        where
          of_live : (x y z : Name) → CanTake g f (Three x y z) → IsBelow x (Step f.next_step)
          of_live x y z (falls, (a, b, c, a_is, b_is, c_is, meets)) = named_below_next f sound x a a_is

      is_new : (m : Merge) → (c : Cluster) × (Contains f.live c × ¬ IsBelow c.name bound) × TakesFrom g f c m → CanTake g f m × ((x : Name) × (y : Name) × (z : Name) × (m ≡ Three x y z) × IsBelow x (Step f.next_step))
      is_new m (c, (c_in, above), (can, (p, q, m_is))) = (can, (c.name, p, q, m_is, live_below_next f sound c c_in))

      every : (x y z : Name) → CanTake g f (Three x y z) → Contains (kept ++ found) (Three x y z)
      every x y z (falls, (a, b, c, a_is, b_is, c_is, meets)) =
          let can : CanTake g f (Three x y z) = (falls, (a, b, c, a_is, b_is, c_is, meets)) in
          elim (is_it_below x bound) [
            | inl below ↦ Contains-append_left kept found (Three x y z) (are.all x y z below can)
            | inr above ↦ Contains-append_right kept found (Three x y z)
                ((uncovered.exactly (Three x y z)).1 (a, (a_is.lives, subst (λ n. ¬ IsBelow n bound) (sym a_is.has_name) above), (can, (y, z, ap (λ n. Three n y z) (sym a_is.has_name)))))
          ]

-- whether a merge names one of more names
both_named : (p q r s : Bool) → ((p || q) || (r || s)) ≡ ((p || r) || (q || s))
both_named true q true s = refl
both_named true q false s = refl
both_named false true true s = refl
both_named false true false s = refl
both_named false false r s = refl

either_more : (gone more : List Name) (x y : Name) → (is_named (gone ++ more) x || is_named (gone ++ more) y) ≡ ((is_named gone x || is_named gone y) || (is_named more x || is_named more y))
either_more gone more x y =
    ap (λ b. b || is_named (gone ++ more) y) (list_any-append (λ n. name_eq n x) gone more)
    ∙ ap (λ b. (is_named gone x || is_named more x) || b) (list_any-append (λ n. name_eq n y) gone more)
    ∙ both_named (is_named gone x) (is_named more x) (is_named gone y) (is_named more y)

avoiding_more : (gone more : List Name) (m : Merge) → names_one_of (gone ++ more) m ≡ (names_one_of gone m || names_one_of more m)
avoiding_more gone more (Two x y) = either_more gone more x y
avoiding_more gone more (Three x y z) =
    ap (λ b. b || (is_named (gone ++ more) y || is_named (gone ++ more) z)) (list_any-append (λ n. name_eq n x) gone more)
    ∙ ap (λ b. (is_named gone x || is_named more x) || b) (either_more gone more y z)
    ∙ both_named (is_named gone x) (is_named more x) (is_named gone y || is_named gone z) (is_named more y || is_named more z)

pub avoiding_both : (gone more : List Name) (kept : List Merge) → avoiding (gone ++ more) kept ≡ avoiding more (avoiding gone kept)
avoiding_both gone more kept =
    filter_both (λ m. not (names_one_of gone m)) (λ m. not (names_one_of more m)) (λ m. not (names_one_of (gone ++ more) m)) (λ m. ap not (avoiding_more gone more m) ∙ neither (names_one_of gone m) (names_one_of more m)) kept

-- names that are among the same are named by the same merges
named_same : (xs ys : List Name) → ((n : Name) → Contains xs n ↔ Contains ys n) → (n : Name) → is_named xs n ≡ is_named ys n
named_same xs ys same n = told (is_named xs n) (is_named ys n) refl refl
  where
    told : (p q : Bool) → is_named xs n ≡ p → is_named ys n ≡ q → is_named xs n ≡ is_named ys n
    told true true p_is q_is = p_is ∙ sym q_is
    told false false p_is q_is = p_is ∙ sym q_is
    told true false p_is q_is = (let both : true ≡ false = sym (named_among ys n ((same n).0 (among_named xs n p_is))) ∙ q_is in absurd (cc))
    told false true p_is q_is = (let both : true ≡ false = sym (named_among xs n ((same n).1 (among_named ys n q_is))) ∙ p_is in absurd (cc))

pub avoiding_same : (xs ys : List Name) → ((n : Name) → Contains xs n ↔ Contains ys n) → (kept : List Merge) → avoiding xs kept ≡ avoiding ys kept
avoiding_same xs ys same [] = refl
avoiding_same xs ys same (Two x y ∷ ms) =
    ap (λ b. cond (not b) (Two x y ∷ avoiding xs ms) (avoiding xs ms)) (ap (λ b. b || is_named xs y) (named_same xs ys same x) ∙ ap (λ b. is_named ys x || b) (named_same xs ys same y))
    ∙ ap (λ l. cond (not (names_one_of ys (Two x y))) (Two x y ∷ l) l) (avoiding_same xs ys same ms)
avoiding_same xs ys same (Three x y z ∷ ms) =
    ap (λ b. cond (not b) (Three x y z ∷ avoiding xs ms) (avoiding xs ms))
    (ap (λ b. b || (is_named xs y || is_named xs z)) (named_same xs ys same x) ∙ ap (λ b. is_named ys x || (b || is_named xs z)) (named_same xs ys same y) ∙ ap (λ b. is_named ys x || (is_named ys y || b)) (named_same xs ys same z))
    ∙ ap (λ l. cond (not (names_one_of ys (Three x y z))) (Three x y z ∷ l) l) (avoiding_same xs ys same ms)

pub avoiding_none : (kept : List Merge) → avoiding [] kept ≡ kept
avoiding_none [] = refl
avoiding_none (Two x y ∷ ms) = ap (λ l. Two x y ∷ l) (avoiding_none ms)
avoiding_none (Three x y z ∷ ms) = ap (λ l. Three x y z ∷ l) (avoiding_none ms)

-- after a merge the same is known, with the names of the merged clusters among those that are gone
pub knows_after : (clear covered : Name) (kept : List Merge) (gone names : List Name) (g : Graph) (f : Clusters) → IsSound f
    → Knows clear covered kept gone g f → Knows clear covered kept (gone ++ names) g (replaced f names)
knows_after clear covered kept gone names g f sound knows = record {
  clear_within = still clear knows.clear_within;
  covered_within = still covered knows.covered_within;
  no_pair = no_pair_after f names g sound clear knows.clear_within knows.no_pair;
  keeps = subst (λ l. AreKept g (replaced f names) (λ x. IsBelow x covered) l) (sym (avoiding_both gone names kept))
      (mended f names g sound covered knows.covered_within (avoiding gone kept) knows.keeps);
}
  where
    still : (bound : Name) → IsWithin f bound → IsWithin (replaced f names) bound
    still (Con k) within h = h
    still (Step k) within h = within (omega (arith, h))
