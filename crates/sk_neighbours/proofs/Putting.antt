-- A cluster put into the index.
use Rattle.std.proofs.Common.{◌≡◌, ◌≢◌, ◌⊎◌, inl, inr, refl, ℕ, ◌+◌, ◌<◌, ◌≤◌, List, [], ◌∷◌, ◌++◌, length, get_or, take, sym, subst, ◌∙◌, ap, arith}
use Rattle.std.specs.Prelude.{◌↔◌, Contains, AllPairs, None, Some}
use Rattle.std.proofs.lemmas.List.{take_all, take_more}
use Rattle.std.proofs.lemmas.List.Elements.{Contains-append_left, Contains-append_right, Contains-append_cases}
use Rattle.slab.specs.Slab.{Slab, get, Updates}
use Rattle.sk_base.specs.declared.Elem.{Elem}
use Rattle.sk_base.specs.Numbering.{elem_number}
use Rattle.sk_family.specs.declared.Cluster.{Cluster}
use Rattle.sk_base.specs.Rising.{IsRising}
use Rattle.sk_base.proofs.Members.{contains_none, contains_head, contains_one, nat_settles}
use Rattle.sk_neighbours.specs.declared.index.Index.{Index}
use Rattle.sk_base.specs.ClusterNames.{IsBelow}
use Rattle.sk_base.proofs.Pairs.{pairs_push, pairs_weaken}
use Rattle.sk_family.proofs.Naming.{below_irreflexive}
use Rattle.sk_base.proofs.Deciding.{elem_settles}
use Rattle.std.proofs.lemmas.Option.{same_Some}
use Rattle.sk_triangles.proofs.Fronts.{front_more, front_before}
use Rattle.sk_neighbours.specs.Indexed.{HoldersGrow, IsHeld, IsIndex, RisesIn, holders_of}

-- new has the key at just these elements more than old
abbrev pub PutsKey : Index → Index → List Elem → ℕ → Type 0
PutsKey old new elements key = (e : Elem) (k : ℕ) → Contains (holders_of new e) k ↔ (Contains (holders_of old e) k ⊎ (Contains elements e × (k ≡ key)))

pub puts_none : (ix : Index) (xs : List Elem) (key : ℕ) → PutsKey ix ix (take 0 xs) key
puts_none ix xs key e k = ((λ h. inl h), (λ h. elim h [ inl was ↦ was | inr (e_in, is) ↦ absurd (contains_none e e_in) ]))

pub puts_more : (start old new : Index) (xs : List Elem) (key i : ℕ) (d : Elem) → i < length xs → PutsKey start old (take i xs) key
    → ((e : Elem) (k : ℕ) → Contains (holders_of new e) k ↔ (Contains (holders_of old e) k ⊎ ((e ≡ get_or xs i d) × (k ≡ key))))
    → PutsKey start new (take (i + 1) xs) key
puts_more start old new xs key i d i_in so_far one e k =
    let split : take (i + 1) xs ≡ take i xs ++ get_or xs i d ∷ [] = take_more xs i d i_in in (
      (λ h. elim ((one e k).0 h) [
        | inl was ↦ elim ((so_far e k).0 was) [ inl first ↦ inl first | inr (e_in, is) ↦ inr (subst (λ l. Contains l e) (sym split) (Contains-append_left (take i xs) (get_or xs i d ∷ []) e e_in), is) ]
        | inr (same, is) ↦ inr (subst (λ l. Contains l e) (sym split) (Contains-append_right (take i xs) (get_or xs i d ∷ []) e (subst (λ x. Contains (get_or xs i d ∷ []) x) (sym same) (contains_head (get_or xs i d) []))), is)
      ]),
      (λ h. elim h [
        | inl first ↦ (one e k).1 (inl ((so_far e k).1 (inl first)))
        | inr (e_in, is) ↦ elim (Contains-append_cases (take i xs) (get_or xs i d ∷ []) e (subst (λ l. Contains l e) split e_in)) [
          | inl before ↦ (one e k).1 (inl ((so_far e k).1 (inr (before, is))))
          | inr here ↦ (one e k).1 (inr (sym (contains_one (get_or xs i d) e here), is))
        ]
      ]),
    )

pub puts_all : (old new : Index) (xs : List Elem) (key i : ℕ) → length xs ≤ i → PutsKey old new (take i xs) key → PutsKey old new xs key
puts_all old new xs key i over so_far = subst (λ l. PutsKey old new l key) (take_all i xs over) so_far

-- the elements so far have the key behind their others, and the rest are as they were
pub record PutsBehind (start ix : Index) (so_far : List Elem) (key : ℕ) : Type 0 where
  pub grow : (e : Elem) → HoldersGrow start ix key e
  pub apart : (e : Elem) → ¬ Contains so_far e → holders_of ix e ≡ holders_of start e

pub behind_none : (ix : Index) (xs : List Elem) (key : ℕ) → PutsBehind ix ix (take 0 xs) key
behind_none ix xs key = record { grow = λ e. inl refl; apart = λ e apart. refl }

pub behind_more : (start old new : Index) (xs : List Elem) → IsRising elem_number xs → (key i : ℕ) (d : Elem) → i < length xs → PutsBehind start old (take i xs) key
    → holders_of new (get_or xs i d) ≡ holders_of old (get_or xs i d) ++ key ∷ [] → ((e : Elem) → e ≢ get_or xs i d → holders_of new e ≡ holders_of old e)
    → PutsBehind start new (take (i + 1) xs) key
behind_more start old new xs rise key i d i_in so_far here others = record {
  grow = λ e. elim (elem_settles e (get_or xs i d)) [
    | inl same ↦ inr (subst (λ x. holders_of new x ≡ holders_of start x ++ key ∷ []) (sym same) (here ∙ ap (λ l. l ++ key ∷ []) (so_far.apart (get_or xs i d) not_before)))
    | inr other ↦ elim (so_far.grow e) [ inl was ↦ inl (others e other ∙ was) | inr more ↦ inr (others e other ∙ more) ]
  ];
  apart = λ e apart. others e (λ same. apart ((front_more xs i d i_in e).1 (inr (sym same)))) ∙ so_far.apart e (λ before. apart ((front_more xs i d i_in e).1 (inl before)));
}
  where
    not_before : ¬ Contains (take i xs) (get_or xs i d)
    not_before h = (let less = front_before xs i d i_in (λ x y. elem_number x < elem_number y) rise (get_or xs i d) h in absurd (omega (arith, less)))

module _ (old new : Index) (cluster : Cluster) (key : ℕ) (greatest : (c : Cluster) → IsHeld old c → IsBelow c.name cluster.name) (was_vacant : get old.live key ≡ None) (updates : Updates old.live new.live key (Some cluster))
    (puts : PutsKey old new cluster.elements key) (grow : (e : Elem) → HoldersGrow old new key e) (index : IsIndex old) (rises : IsRising elem_number cluster.elements) where
  is_new : ¬ IsHeld old cluster
  is_new held = below_irreflexive cluster.name (greatest cluster held)

  old_stays : (k : ℕ) (c : Cluster) → get old.live k ≡ Some c → get new.live k ≡ Some c
  old_stays k c is =
      elim (nat_settles k key) [
        | inl same ↦ (let both : Some c ≡ None = sym is ∙ ap (λ j. get old.live j) same ∙ was_vacant in absurd (cc))
        | inr other ↦ updates.others k other ∙ is
      ]

  was_or_new : (k : ℕ) (c : Cluster) → get new.live k ≡ Some c → (get old.live k ≡ Some c) ⊎ ((k ≡ key) × (c ≡ cluster))
  was_or_new k c is =
      elim (nat_settles k key) [
        | inl same ↦ inr (same, same_Some _ _ (sym is ∙ ap (λ j. get new.live j) same ∙ updates.changed))
        | inr other ↦ inl (sym (updates.others k other) ∙ is)
      ]

  pub put_held : (c : Cluster) → IsHeld new c ↔ (IsHeld old c ⊎ (c ≡ cluster))
  put_held c = (
    (λ (k, is). elim (was_or_new k c is) [ inl was ↦ inl (k, was) | inr (_, same) ↦ inr same ]),
    (λ h. elim h [ inl (k, is) ↦ (k, old_stays k c is) | inr same ↦ (key, updates.changed ∙ ap Some (sym same)) ]),
  )

  -- the keys of an element are those of older clusters
  was_at : (e : Elem) (k : ℕ) (c : Cluster) → Contains (holders_of old e) k → get new.live k ≡ Some c → get old.live k ≡ Some c
  was_at e k c k_in is =
      elim (was_or_new k c is) [
        | inl was ↦ was
        | inr (same, _) ↦ (
            let (d, d_is, _) = index.leads e k k_in in
            let both : Some d ≡ None = sym d_is ∙ ap (λ j. get old.live j) same ∙ was_vacant in absurd (cc))
      ]

  in_order : (e : Elem) → AllPairs (RisesIn new.live) (holders_of new e)
  in_order e =
      let were : AllPairs (RisesIn new.live) (holders_of old e) =
      pairs_weaken (RisesIn old.live) (RisesIn new.live) (holders_of old e) (index.in_order e) (λ j k j_in k_in rises c d c_is d_is. rises c d (was_at e j c j_in c_is) (was_at e k d k_in d_is)) in
      elim (grow e) [
        | inl same ↦ subst (λ l. AllPairs (RisesIn new.live) l) (sym same) were
        | inr more ↦ subst (λ l. AllPairs (RisesIn new.live) l) (sym more)
            (pairs_push (RisesIn new.live) (holders_of old e) key were
            (λ k k_in c d c_is d_is. subst (λ (x : Cluster). IsBelow c.name x.name) (same_Some _ _ (sym updates.changed ∙ d_is)) (greatest c (k, was_at e k c k_in c_is))))
      ]

  pub put_index : IsIndex new
  put_index = record {
    leads = λ e k k_in. elim ((puts e k).0 k_in) [
      | inl was ↦ (let found = index.leads e k was in (found.0, old_stays k found.0 found.1, found.2))
      | inr (e_in, is) ↦ (cluster, ap (λ j. get new.live j) is ∙ updates.changed, e_in)
    ];
    finds = λ e k c is e_in. elim (was_or_new k c is) [
      | inl was ↦ (puts e k).1 (inl (index.finds e k c was e_in))
      | inr (same, one) ↦ (puts e k).1 (inr (subst (λ (x : Cluster). Contains x.elements e) one e_in, same))
    ];
    in_order = in_order;
    once = λ j k c j_is k_is. elim (was_or_new j c j_is) [
      | inl j_was ↦ elim (was_or_new k c k_is) [
        | inl k_was ↦ index.once j k c j_was k_was
        | inr (_, same) ↦ absurd (is_new (j, j_was ∙ ap Some same))
      ]
      | inr (j_here, j_same) ↦ elim (was_or_new k c k_is) [
        | inl k_was ↦ absurd (is_new (k, k_was ∙ ap Some j_same))
        | inr (k_here, _) ↦ j_here ∙ sym k_here
      ]
    ];
    rises = λ c (k, is). elim (was_or_new k c is) [
      | inl was ↦ index.rises c (k, was)
      | inr (_, one) ↦ subst (λ (x : Cluster). IsRising elem_number x.elements) (sym one) rises
    ];
  }

pub put_updates : (old new : Index) (cluster copy : Cluster) (key : ℕ) (between : Slab Cluster) → copy ≡ cluster → new.live ≡ between → Updates old.live between key (Some copy)
    → Updates old.live new.live key (Some cluster)
put_updates old new cluster copy key between same live updates =
    subst (λ (s : Slab Cluster). Updates old.live s key (Some cluster)) (sym live) (subst (λ (x : Cluster). Updates old.live between key (Some x)) same updates)
