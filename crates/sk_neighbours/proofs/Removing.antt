-- A cluster taken out of the index.
use Rattle.std.proofs.Common.{◌≡◌, ◌≢◌, inl, inr, ℕ, ◌+◌, ◌<◌, ◌≤◌, List, [], ◌∷◌, ◌++◌, length, get_or, take, sym, subst, ◌∙◌, ap}
use Rattle.std.specs.Prelude.{◌↔◌, Contains, AllPairs, None, Some}
use Rattle.std.proofs.lemmas.List.{take_all, take_more}
use Rattle.std.proofs.lemmas.List.Elements.{Contains-append_left, Contains-append_right, Contains-append_cases}
use Rattle.slab.specs.Slab.{get, Updates}
use Rattle.sk_base.specs.declared.Elem.{Elem}
use Rattle.sk_family.specs.declared.Cluster.{Cluster}
use Rattle.sk_base.proofs.Members.{contains_none, contains_head, contains_one}
use Rattle.sk_base.proofs.Pairs.{pairs_weaken}
use Rattle.std.proofs.lemmas.Option.{same_Some}
use Rattle.sk_neighbours.specs.declared.index.Index.{Index}
use Rattle.sk_neighbours.specs.Indexed.{IsHeld, IsIndex, RisesIn, holders_of}

-- new has the key at just these elements less than old
abbrev pub DropsKey : Index → Index → List Elem → ℕ → Type 0
DropsKey old new elements key = (e : Elem) (k : ℕ) → Contains (holders_of new e) k ↔ (Contains (holders_of old e) k × ¬ (Contains elements e × (k ≡ key)))

pub drops_none : (ix : Index) (xs : List Elem) (key : ℕ) → DropsKey ix ix (take 0 xs) key
drops_none ix xs key e k = ((λ h. (h, (λ (e_in, _). contains_none e e_in))), (λ (h, _). h))

pub drops_more : (start old new : Index) (xs : List Elem) (key i : ℕ) (d : Elem) → i < length xs → DropsKey start old (take i xs) key
    → ((e : Elem) (k : ℕ) → Contains (holders_of new e) k ↔ (Contains (holders_of old e) k × ¬ ((e ≡ get_or xs i d) × (k ≡ key))))
    → DropsKey start new (take (i + 1) xs) key
drops_more start old new xs key i d i_in so_far one e k =
    let split : take (i + 1) xs ≡ take i xs ++ get_or xs i d ∷ [] = take_more xs i d i_in in (
      (λ h. (
          let mid = (one e k).0 h in
          let first = (so_far e k).0 mid.0 in (
            first.0,
            (λ (e_in, is). elim (Contains-append_cases (take i xs) (get_or xs i d ∷ []) e (subst (λ l. Contains l e) split e_in)) [
              | inl before ↦ first.1 (before, is)
              | inr here ↦ mid.1 (sym (contains_one (get_or xs i d) e here), is)
            ]),
          ))),
      (λ (was, apart). (one e k).1 (
        (so_far e k).1 (was, (λ (e_in, is). apart (subst (λ l. Contains l e) (sym split) (Contains-append_left (take i xs) (get_or xs i d ∷ []) e e_in), is))),
        (λ (same, is). apart (
          subst (λ l. Contains l e) (sym split) (Contains-append_right (take i xs) (get_or xs i d ∷ []) e (subst (λ x. Contains (get_or xs i d ∷ []) x) (sym same) (contains_head (get_or xs i d) []))),
          is,
        )),
      )),
    )

pub drops_all : (old new : Index) (xs : List Elem) (key i : ℕ) → length xs ≤ i → DropsKey old new (take i xs) key → DropsKey old new xs key
drops_all old new xs key i over so_far = subst (λ l. DropsKey old new l key) (take_all i xs over) so_far

module _ (old new : Index) (cluster : Cluster) (key : ℕ) (index : IsIndex old) (at_key : get old.live key ≡ Some cluster) (updates : Updates old.live new.live key None)
    (drops : DropsKey old new cluster.elements key)
    (order : (e : Elem) → AllPairs (RisesIn old.live) (holders_of old e) → AllPairs (RisesIn old.live) (holders_of new e)) where
  not_key : (k : ℕ) (c : Cluster) → get new.live k ≡ Some c → k ≢ key
  not_key k c is same = (let both : Some c ≡ None = sym is ∙ ap (λ j. get new.live j) same ∙ updates.changed in absurd (cc))

  was : (k : ℕ) (c : Cluster) → get new.live k ≡ Some c → get old.live k ≡ Some c
  was k c is = sym (updates.others k (not_key k c is)) ∙ is

  pub removed_held : (c : Cluster) → IsHeld new c ↔ (IsHeld old c × (c ≢ cluster))
  removed_held c = (
    (λ (k, is). ((k, was k c is), (λ same. not_key k c is (index.once k key c (was k c is) (at_key ∙ ap Some (sym same)))))),
    (λ ((k, is), other). (k, updates.others k (λ same. other (same_Some _ _ (sym is ∙ ap (λ j. get old.live j) same ∙ at_key))) ∙ is)),
  )

  pub removed_index : IsIndex new
  removed_index = record {
    leads = λ e k k_in. (
        let (k_was, apart) = (drops e k).0 k_in in
        let (c, is, e_in) = index.leads e k k_was in
        let other : k ≢ key = λ same. apart (subst (λ (x : Cluster). Contains x.elements e) (same_Some _ _ (sym is ∙ ap (λ j. get old.live j) same ∙ at_key)) e_in, same) in
        (c, updates.others k other ∙ is, e_in));
    finds = λ e k c is e_in. (drops e k).1 (index.finds e k c (was k c is) e_in, (λ (_, same). not_key k c is same));
    in_order = λ e. pairs_weaken (RisesIn old.live) (RisesIn new.live) (holders_of new e) (order e (index.in_order e)) (λ j k j_in k_in rises c d c_is d_is. rises c d (was j c c_is) (was k d d_is));
    once = λ j k c j_is k_is. index.once j k c (was j c j_is) (was k c k_is);
    rises = λ c (k, is). index.rises c (k, was k c is);
  }
