-- The order of names, and what a name tells of a sound family.
use Rattle.std.proofs.Common.{◌≡◌, ◌≢◌, ◌⊎◌, inl, inr, refl, ℕ, ◌<◌, Bool, true, false, List, [], ◌∷◌, ap, sym, subst, ◌∙◌, arith, length, get_or}
use Rattle.std.specs.Prelude.{Contains, AllPairs, not, ◌||◌}
use Rattle.std.proofs.lemmas.Bool.Decides.{nat_tests}
use Rattle.std.proofs.lemmas.List.Elements.{Contains-get_or}
use Rattle.sk_base.specs.declared.Name.{Name}
use Rattle.sk_base.specs.declared.Name.TheVariants.{Con, Step}
use Rattle.sk_base.specs.ClusterNames.{IsBelow, name_eq, is_named}
use Rattle.sk_family.specs.declared.cluster.Cluster.{Cluster}
use Rattle.sk_family.specs.Body.{Body}
use Rattle.sk_family.specs.Clusters.{Clusters, bodies, body_of, named, IsNamed, IsSound}
pub use Rattle.sk_family.specs.Clusters.{ByName}
use Rattle.sk_base.proofs.Members.{contains_none, contains_head, contains_later, contains_cases, contains_mapped, contains_filtered, filtered_from}
use Rattle.sk_base.proofs.Pairs.{pairs_tell, pairs_same, pairs_filter}
use Rattle.sk_base.proofs.Unions.{which}

pub below_irreflexive : (n : Name) → ¬ IsBelow n n
below_irreflexive (Con k) h = absurd (omega arith)
below_irreflexive (Step k) h = absurd (omega arith)

pub below_asymmetric : (m n : Name) → IsBelow m n → ¬ IsBelow n m
below_asymmetric (Con j) (Con k) h i = absurd (omega arith)
below_asymmetric (Con j) (Step k) h i = i
below_asymmetric (Step j) (Con k) h i = h
below_asymmetric (Step j) (Step k) h i = absurd (omega arith)

pub below_chain : (l m n : Name) → IsBelow l m → IsBelow m n → IsBelow l n
below_chain (Con i) (Con j) (Con k) h g = omega arith
below_chain (Con i) (Con j) (Step k) h g = tt
below_chain (Con i) (Step j) (Con k) h g = absurd g
below_chain (Con i) (Step j) (Step k) h g = tt
below_chain (Step i) (Con j) n h g = absurd h
below_chain (Step i) (Step j) (Con k) h g = g
below_chain (Step i) (Step j) (Step k) h g = omega arith

pub below_differs : (m n : Name) → IsBelow m n → m ≢ n
below_differs m n h e = below_irreflexive n (subst (λ l. IsBelow l n) e h)

-- of two names one is below the other, or they are the same
pub below_tells : (m n : Name) → IsBelow m n ⊎ ((m ≡ n) ⊎ IsBelow n m)
below_tells (Con j) (Con k) = elim (which j k) [ inl less ↦ inl less | inr (inl level) ↦ inr (inl (ap Con level)) | inr (inr more) ↦ inr (inr more) ]
below_tells (Con j) (Step k) = inl tt
below_tells (Step j) (Con k) = inr (inr tt)
below_tells (Step j) (Step k) = elim (which j k) [ inl less ↦ inl less | inr (inl level) ↦ inr (inl (ap Step level)) | inr (inr more) ↦ inr (inr more) ]

-- what is below a name is below all that aren't
pub below_others : (x bound n : Name) → IsBelow x bound → ¬ IsBelow n bound → IsBelow x n
below_others x bound n below not_below =
    elim (below_tells x n) [
      | inl less ↦ less
      | inr (inl same) ↦ absurd (not_below (subst (λ l. IsBelow l bound) same below))
      | inr (inr above) ↦ absurd (not_below (below_chain n x bound above below))
    ]

pub is_it_below : (x bound : Name) → IsBelow x bound ⊎ ¬ IsBelow x bound
is_it_below x bound =
    elim (below_tells x bound) [
      | inl below ↦ inl below
      | inr (inl same) ↦ inr (λ h. below_irreflexive x (subst (λ l. IsBelow x l) (sym same) h))
      | inr (inr above) ↦ inr (below_asymmetric bound x above)
    ]

pub name_eq_true : (m n : Name) → name_eq m n ≡ true → m ≡ n
name_eq_true (Con j) (Con k) h = (let same : j ≡ k = grind (arith, nat_tests) in ap Con same)
name_eq_true (Con j) (Step k) h = absurd (cc)
name_eq_true (Step j) (Con k) h = absurd (cc)
name_eq_true (Step j) (Step k) h = (let same : j ≡ k = grind (arith, nat_tests) in ap Step same)

pub name_eq_same : (n : Name) → name_eq n n ≡ true
name_eq_same (Con k) = grind (arith, nat_tests)
name_eq_same (Step k) = grind (arith, nat_tests)

pub among_named : (names : List Name) (n : Name) → is_named names n ≡ true → Contains names n
among_named [] n h = absurd (cc)
among_named (m ∷ ms) n h = told (name_eq m n) refl h (among_named ms n)
  where
    told : (b : Bool) → name_eq m n ≡ b → (b || is_named ms n) ≡ true → (is_named ms n ≡ true → Contains ms n) → Contains (m ∷ ms) n
    told true is h rest = subst (λ l. Contains (m ∷ ms) l) (name_eq_true m n is) (contains_head m ms)
    told false is h rest = contains_later m ms n (rest h)

pub named_among : (names : List Name) (n : Name) → Contains names n → is_named names n ≡ true
named_among [] n h = absurd (contains_none n h)
named_among (m ∷ ms) n h =
    elim (contains_cases m ms n h) [
      | inl here ↦ subst (λ l. (name_eq m l || is_named ms l) ≡ true) here (ap (λ b. b || is_named ms m) (name_eq_same m))
      | inr later ↦ told (name_eq m n) (named_among ms n later)
    ]
  where
    told : (b : Bool) → is_named ms n ≡ true → (b || is_named ms n) ≡ true
    told true h = refl
    told false h = h

module _ (f : Clusters) (sound : IsSound f) where
  pub one_of_name : (n : Name) (a b : Cluster) → IsNamed f n a → IsNamed f n b → a ≡ b
  one_of_name n a b a_is b_is =
      elim (pairs_tell ByName f.live sound.names_rise a b a_is.lives b_is.lives) [
        | inl same ↦ same
        | inr (inl before) ↦ absurd (below_differs a.name b.name before (a_is.has_name ∙ sym b_is.has_name))
        | inr (inr after) ↦ absurd (below_differs b.name a.name after (b_is.has_name ∙ sym a_is.has_name))
      ]

  -- a body tells its cluster
  pub one_of_body : (a b : Cluster) → Contains f.live a → Contains f.live b → body_of a ≡ body_of b → a ≡ b
  one_of_body a b a_in b_in same =
      let own = sound.each_owns a a_in in
      sound.owned_apart a b own.0 a_in b_in own.1 (subst (λ (x : Body). Contains x.owned own.0) same own.1)

  -- no two clusters have the same elements, where no two bodies have
  pub elements_apart : ((x y : Body) → Contains (bodies f) x → Contains (bodies f) y → x.elements ≡ y.elements → x ≡ y) → AllPairs (λ (c d : Cluster). c.elements ≢ d.elements) f.live
  elements_apart one i j z i_j j_in same =
      let c = get_or f.live i z in
      let d = get_or f.live j z in
      let c_in : Contains f.live c = Contains-get_or f.live i z (omega arith) in
      let d_in : Contains f.live d = Contains-get_or f.live j z j_in in
      let is : c ≡ d = one_of_body c d c_in d_in (one (body_of c) (body_of d) (contains_mapped body_of f.live c c_in) (contains_mapped body_of f.live d d_in) same) in
      below_differs c.name d.name (sound.names_rise i j z i_j j_in) (ap (λ (b : Cluster). b.name) is)

  -- the named clusters are these, where these stand in order and have just those names
  pub named_are : (names : List Name) (these : List Cluster) → ((i j : ℕ) (d : Cluster) → i < j → j < length these → ByName (get_or these i d) (get_or these j d))
      → ((c : Cluster) → Contains these c → Contains f.live c × Contains names c.name)
      → ((c : Cluster) → Contains f.live c → Contains names c.name → Contains these c)
      → named names f.live ≡ these
  named_are names these in_order have only =
      pairs_same ByName (λ c. below_irreflexive c.name) (λ a b. below_asymmetric a.name b.name)
      (named names f.live) these
      (pairs_filter ByName (λ (c : Cluster). is_named names c.name) f.live sound.names_rise) in_order
      (λ c h. (let was = filtered_from (λ (d : Cluster). is_named names d.name) f.live c h in only c was.0 (among_named names c.name was.1)))
      (λ c h. contains_filtered (λ (d : Cluster). is_named names d.name) f.live c (have c h).0 (named_among names c.name (have c h).1))

pub unnamed_true : (names : List Name) (n : Name) → ¬ Contains names n → not (is_named names n) ≡ true
unnamed_true names n apart = told (is_named names n) refl
  where
    told : (b : Bool) → is_named names n ≡ b → not (is_named names n) ≡ true
    told true is = absurd (apart (among_named names n is))
    told false is = ap not is

pub not_named : (names : List Name) (n : Name) → not (is_named names n) ≡ true → ¬ Contains names n
not_named names n h n_in = (let both : not true ≡ true = sym (ap not (named_among names n n_in)) ∙ h in absurd (cc))

-- two clusters of one name, where names rise, are one
pub one_by_name : (clusters : List Cluster) → AllPairs ByName clusters → (a b : Cluster) → Contains clusters a → Contains clusters b → a.name ≡ b.name → a ≡ b
one_by_name clusters rise a b a_in b_in named =
    elim (pairs_tell ByName clusters rise a b a_in b_in) [
      | inl same ↦ same
      | inr (inl before) ↦ absurd (below_differs a.name b.name before named)
      | inr (inr after) ↦ absurd (below_differs b.name a.name after (sym named))
    ]
