-- A search by halves for where a front of a list ends whose items pass a test.
use Rattle.std.proofs.Common.{◌≡◌, ◌≢◌, inl, inr, refl, true, false, Bool, ℕ, suc, ◌+◌, ◌-◌, ◌<◌, ◌≤◌, List, ◌∷◌, length, length-drop, drop-cons, get_or, take, drop, ap, sym, subst, ◌∙◌, arith}
use Rattle.std.specs.Prelude.{Contains, AllPairs, IsTrue, ◌↔◌, nat_lt}
use Rattle.std.specs.List.Sorted.{IsPartitionedBy, IsPartitionPoint}
use Rattle.std.proofs.lemmas.Bool.Decides.{nat_tests}
use Rattle.std.proofs.lemmas.List.{get_or-take, get_or-drop, length-take, take_all}
use Rattle.std.proofs.lemmas.List.Elements.{Contains-get_or}
use Rattle.sk_base.specs.declared.Name.{Name}
use Rattle.sk_base.specs.declared.Name.TheVariants.{Con, Step}
use Rattle.sk_base.specs.ClusterNames.{IsBelow}
use Rattle.sk_base.proofs.Unions.{which}
use Rattle.sk_base.proofs.Searches.{refused}
use Rattle.sk_family.specs.declared.cluster.Cluster.{Cluster}
use Rattle.sk_family.specs.Clusters.{ByName}
use Rattle.sk_family.proofs.Naming.{below_chain, below_differs}
use Rattle.sk_base.proofs.Splits.{in_drop, in_either, pairs_drop}
use Rattle.sk_base.proofs.Members.{contains_head, contains_cases}
use Rattle.sk_base.proofs.Pairs.{pairs_head}

module _ {X : Type 0} (p : X → Bool) (xs : List X) where
  -- where an item that passes stands behind others only that pass
  pub passing_front : (R : X → X → Type 0) → AllPairs R xs → ((x y : X) → Contains xs x → Contains xs y → R x y → p y ≡ true → p x ≡ true) → IsPartitionedBy p xs
  passing_front R pairs before i j d order j_in passes =
      elim (which i j) [
        | inl less ↦ before (get_or xs i d) (get_or xs j d) (Contains-get_or xs i d (omega arith)) (Contains-get_or xs j d j_in) (pairs i j d less j_in) passes
        | inr (inl level) ↦ subst (λ k. p (get_or xs k d) ≡ true) (sym level) passes
        | inr (inr more) ↦ absurd (omega arith)
      ]

  module _ (place : ℕ) (point : IsPartitionPoint (λ y. p y ≡ true) (λ y. p y ≡ false) xs place) where
    pub front_passes : (x : X) → Contains (take place xs) x → p x ≡ true
    front_passes x (k, k_in, is) =
        let short : length (take place xs) ≤ place = omega (arith, length-take place xs) in
        let k_low : k < place = omega arith in
        subst (λ y. p y ≡ true) (sym (get_or-take place xs k x k_low) ∙ is) (point.0 k x (omega arith) k_low)

    pub rest_fails : (x : X) → Contains (drop place xs) x → p x ≡ false
    rest_fails x (k, k_in, is) =
        let rest = length-drop place xs in
        subst (λ y. p y ≡ false) (sym (get_or-drop place xs k x) ∙ is) (point.1 (place + k) x (omega arith) (omega arith))

-- whether the one name is below the other
abbrev pub is_before : Name → Name → Bool
is_before (Con j) (Con k) = nat_lt j k
is_before (Con j) (Step k) = true
is_before (Step j) (Con k) = false
is_before (Step j) (Step k) = nat_lt j k

pub before_below : (m n : Name) → is_before m n ≡ true → IsBelow m n
before_below (Con j) (Con k) h = grind (arith, nat_tests)
before_below (Con j) (Step k) h = tt
before_below (Step j) (Con k) h = absurd (cc)
before_below (Step j) (Step k) h = grind (arith, nat_tests)

pub below_before : (m n : Name) → IsBelow m n → is_before m n ≡ true
below_before (Con j) (Con k) h = grind (arith, nat_tests)
below_before (Con j) (Step k) h = refl
below_before (Step j) (Con k) h = absurd h
below_before (Step j) (Step k) h = grind (arith, nat_tests)

-- a test that tells whether the one name is below the other
pub tells_before : (b : Bool) (m n : Name) → IsTrue b ↔ IsBelow m n → b ≡ is_before m n
tells_before true m n told = sym (below_before m n (told.0 refl))
tells_before false m n told = refused_before (is_before m n) refl
  where
    refused_before : (t : Bool) → is_before m n ≡ t → false ≡ is_before m n
    refused_before true is = absurd (refused told.1 (before_below m n is))
    refused_before false is = sym is

pub not_below : (m n : Name) → is_before m n ≡ false → ¬ IsBelow m n
not_below m n fails below = (let passes : is_before m n ≡ true = below_before m n below in absurd (cc))

pub names_partition : (clusters : List Cluster) (name : Name) → AllPairs ByName clusters → IsPartitionedBy (λ (c : Cluster). is_before c.name name) clusters
names_partition clusters name rise =
    passing_front (λ (c : Cluster). is_before c.name name) clusters ByName rise
    (λ x y x_in y_in x_y y_name. below_before x.name name (below_chain x.name y.name name x_y (before_below y.name name y_name)))

-- what a name's place says of the clusters
module _ (clusters : List Cluster) (name : Name) (place : ℕ) (before : (c : Cluster) → Contains (take place clusters) c → IsBelow c.name name)
    (after : (c : Cluster) → Contains (drop place clusters) c → ¬ IsBelow c.name name) where
  rest : List Cluster
  rest = take (length clusters - place) (drop place clusters)

  rest_is : rest ≡ drop place clusters
  unfolding rest
  rest_is = (let long = length-drop place clusters in take_all (length clusters - place) (drop place clusters) (omega arith))

  pub in_rest : (c : Cluster) → Contains (take (length clusters - place) (drop place clusters)) c ↔ (Contains clusters c × ¬ IsBelow c.name name)
  unfolding rest
  in_rest c = (
    (λ h. (let at = subst (λ l. Contains l c) rest_is h in (in_drop place clusters c at, after c at))),
    (λ (c_in, above). subst (λ l. Contains l c) (sym rest_is) (elim (in_either place clusters c c_in) [ inl front ↦ absurd (above (before c front)) | inr back ↦ back ])),
  )

  pub rest_rises : AllPairs ByName clusters → AllPairs ByName (take (length clusters - place) (drop place clusters))
  unfolding rest
  rest_rises rise = subst (λ l. AllPairs ByName l) (sym rest_is) (pairs_drop ByName place clusters rise)

  -- where no cluster stands at the place, or one of another name, none has it
  pub none_past : length clusters ≤ place → (c : Cluster) → Contains clusters c → c.name ≢ name
  none_past past c c_in = below_differs c.name name (before c (subst (λ l. Contains l c) (sym (take_all place clusters past)) c_in))

  pub none_other : AllPairs ByName clusters → place < length clusters → (first : Cluster) → first ≡ get_or clusters place first → first.name ≢ name → (c : Cluster) → Contains clusters c → c.name ≢ name
  none_other rise place_in first is other c c_in named =
      let split : drop place clusters ≡ first ∷ drop (suc place) clusters = drop-cons clusters place first place_in ∙ ap (λ x. x ∷ drop (suc place) clusters) (sym is) in
      elim (in_either place clusters c c_in) [
        | inl front ↦ below_differs c.name name (before c front) named
        | inr back ↦ elim (contains_cases first (drop (suc place) clusters) c (subst (λ l. Contains l c) split back)) [
          | inl here ↦ other (ap (λ (x : Cluster). x.name) here ∙ named)
          | inr later ↦ after first (subst (λ l. Contains l first) (sym split) (contains_head first (drop (suc place) clusters)))
              (subst (λ n. IsBelow first.name n) named (pairs_head ByName first (drop (suc place) clusters) (subst (λ l. AllPairs ByName l) split (pairs_drop ByName place clusters rise)) c later))
        ]
      ]
