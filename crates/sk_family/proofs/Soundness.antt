-- What is made from a sound family is sound.
use Rattle.std.proofs.Common.{◌≡◌, inl, inr, ℕ, ◌<◌, true, false, List, [], ◌∷◌, length, get_or, refl, ap, sym, subst, ◌∙◌, arith, ◌≤◌, length-append}
use Rattle.std.specs.Prelude.{Contains, map, not, All, AllPairs, ◌≢◌}
use Rattle.std.proofs.lemmas.List.Elements.{Contains-push_cases, Contains-get_or, All-head, All-tail}
use Rattle.std.proofs.lemmas.Bool.Decides.{nat_tests}
use Rattle.std.proofs.lemmas.List.{length-map}
use Rattle.std.proofs.lemmas.List.Filters.{length-filter_both}
use Rattle.sk_base.specs.declared.Name.{Name}
use Rattle.sk_base.specs.declared.Name.TheVariants.{Con, Step}
use Rattle.sk_base.specs.declared.ConId.{ConId}
use Rattle.sk_base.specs.declared.Graph.{Graph}
use Rattle.sk_base.specs.SoundGraph.{IsSoundGraph}
use Rattle.sk_base.specs.ClusterNames.{IsBelow, name_eq, is_named}
use Rattle.sk_base.specs.Numbering.{elem_number, con_number}
use Rattle.sk_base.specs.Rising.{IsRising}
use Rattle.sk_family.specs.declared.cluster.Cluster.{Cluster}
use Rattle.sk_family.specs.Body.{Body, Start, IsRisingBody, starting, starts}
use Rattle.sk_family.specs.Clusters.{Clusters, body_of, start_of, initial_clusters, named, unnamed, made_of, whole_from, replaced, CanBeReplaced, IsSound, IsLive}
use Rattle.sk_family.specs.Joining.{CanBeJoined}
use Rattle.sk_base.proofs.Members.{contains_none, contains_head, contains_later, contains_one, mapped_from, contains_mapped, contains_filtered, filtered_from, contains_some}
use Rattle.sk_base.proofs.Pairs.{pairs_push, pairs_filter, pairs_map}
use Rattle.sk_base.proofs.Unions.{rising_apart, rising_one}
use Rattle.sk_family.proofs.Bodies.{each_within, owner_of}
use Rattle.sk_family.proofs.GraphStarts.{starts_rise, starts_few, elements_rise}
use Rattle.sk_family.proofs.Naming.{named_among}
use Rattle.sk_family.proofs.Wholes.{made_rises}

pub rising_starting : (e : Start) → IsRising elem_number e.elements → IsRisingBody (starting e)
rising_starting e rises = record {
  elements = rises;
  owned = rising_one con_number e.number;
}

pub con_inside : (j k : ℕ) → Con j ≡ Con k → j ≡ k
con_inside j k e = cc

pub sound_initial : (g : Graph) → IsSoundGraph g → IsSound (initial_clusters g)
sound_initial g sound_graph = (let rises = starts_rise g sound_graph.edges_rise in record {
  few = rw length-map (let few = starts_few g sound_graph.edges_rise in let bound = sound_graph.few_constraints in omega arith);
  names_rise = pairs_map (λ (a b : Cluster). IsBelow a.name b.name) start_of (starts g) rises;
  bodies_rise = λ c c_in. (let found = mapped_from start_of (starts g) c c_in in
      subst (λ z. IsRisingBody (body_of z)) found.2 (rising_starting found.0 (elements_rise g found.0 found.1)));
  each_owns = λ c c_in. (let found = mapped_from start_of (starts g) c c_in in
      subst (λ (z : Cluster). (k : ConId) × Contains z.owned k) found.2 (found.0.number, contains_head found.0.number []));
  owned_apart = λ a b k a_in b_in a_k b_k. (
      let one = mapped_from start_of (starts g) a a_in in
      let other = mapped_from start_of (starts g) b b_in in
      let one_id : one.0.number ≡ k = contains_one one.0.number k (subst (λ (z : Cluster). Contains z.owned k) (sym one.2) a_k) in
      let other_id : other.0.number ≡ k = contains_one other.0.number k (subst (λ (z : Cluster). Contains z.owned k) (sym other.2) b_k) in
      let same : one.0 ≡ other.0 = rising_apart (λ (e : Start). e.number.0) (starts g) rises one.0 other.0 one.1 other.1 (ap con_number (one_id ∙ sym other_id)) in
      sym one.2 ∙ ap start_of same ∙ other.2);
  starts_own_their_own = λ c k c_in named. (
      let found = mapped_from start_of (starts g) c c_in in
      let number : found.0.number.0 ≡ k = con_inside found.0.number.0 k (ap (λ (z : Cluster). z.name) found.2 ∙ named) in
      ap (λ (z : Cluster). z.owned) (sym found.2) ∙ ap (λ (n : ℕ). record { 0 = n } ∷ []) number);
  steps_below = λ c k c_in named. (
      let found = mapped_from start_of (starts g) c c_in in
      let never : Con found.0.number.0 ≡ Step k = ap (λ (z : Cluster). z.name) found.2 ∙ named in
      absurd (cc));
  merged_own_two = λ c k c_in named. (
      let found = mapped_from start_of (starts g) c c_in in
      let never : Con found.0.number.0 ≡ Step k = ap (λ (z : Cluster). z.name) found.2 ∙ named in
      absurd (cc));
})

-- a list with two different items has two places
two_in : {X : Type 0} (xs : List X) (a b : X) → a ≢ b → Contains xs a → Contains xs b → 1 < length xs
two_in [] a b differ a_in b_in = absurd (contains_none a a_in)
two_in (x ∷ []) a b differ a_in b_in = absurd (differ (sym (contains_one x a a_in) ∙ contains_one x b b_in))
two_in (x ∷ y ∷ rest) a b differ a_in b_in = omega arith

-- no live name is the next step's
other_than_next : (next : ℕ) (n : Name) → ((k : ℕ) → n ≡ Step k → k < next) → name_eq n (Step next) ≡ false
other_than_next next (Con j) below = refl
other_than_next next (Step j) below = (let less : j < next = below j refl in grind (arith, nat_tests))

pub live_below : (f : Clusters) → IsSound f → (n : Name) → IsLive f n → (k : ℕ) → n ≡ Step k → k < f.next_step
live_below f sound n lives k is = sound.steps_below lives.0 k lives.1.lives (lives.1.has_name ∙ is)

pub next_unnamed : (f : Clusters) → IsSound f → (names : List Name) → All (λ n. IsLive f n) names → is_named names (Step f.next_step) ≡ false
next_unnamed f sound [] live = refl
next_unnamed f sound (n ∷ names) live =
    rw (other_than_next f.next_step n (live_below f sound n (All-head (λ m. IsLive f m) n names live)))
    (next_unnamed f sound names (All-tail (λ m. IsLive f m) n names live))

pub below_next : (next : ℕ) (n : Name) → ((k : ℕ) → n ≡ Step k → k < next) → IsBelow n (Step next)
below_next next (Con j) below = tt
below_next next (Step j) below = below j refl

step_inside : (j k : ℕ) → Step j ≡ Step k → j ≡ k
step_inside j k e = cc

pub some_of : {f : Clusters} {names : List Name} → CanBeReplaced f names → 0 < length names
some_of can = elim can.two_or_three [ inl two ↦ omega arith | inr three ↦ omega arith ]

module _ (f : Clusters) (names : List Name) (sound : IsSound f) where
  whole : Cluster
  whole = whole_from (Step f.next_step) names f.live

  -- a cluster that stays was there and has none of the names
  stayed : (c : Cluster) → Contains (unnamed names f.live) c → Contains f.live c × (not (is_named names c.name) ≡ true)
  stayed c h = filtered_from (λ (d : Cluster). not (is_named names d.name)) f.live c h

  -- what the whole owns, a cluster of one of the names did
  named_owner : (k : ConId) → Contains (made_of names f.live).owned k → (c : Cluster) × Contains f.live c × (is_named names c.name ≡ true) × Contains c.owned k
  named_owner k h =
      let owner = owner_of (map body_of (named names f.live)) k h in
      let found = mapped_from body_of (named names f.live) owner.0 owner.1 in
      let was = filtered_from (λ (d : Cluster). is_named names d.name) f.live found.0 found.1 in
      (found.0, was.0, was.1, subst (λ (b : Body). Contains b.owned k) (sym found.2) owner.2)

  apart_from_whole : (c : Cluster) (k : ConId) → Contains (unnamed names f.live) c → Contains c.owned k → Contains (made_of names f.live).owned k → ⊥
  apart_from_whole c k c_in c_k whole_k =
      let owner = named_owner k whole_k in
      let was = stayed c c_in in
      let same : owner.0 ≡ c = sound.owned_apart owner.0 c k owner.1 was.0 owner.3 c_k in
      let is_one : is_named names c.name ≡ true = subst (λ (d : Cluster). is_named names d.name ≡ true) same owner.2 in
      let never : false ≡ true = subst (λ b. not b ≡ true) is_one was.1 in
      absurd (cc)

  -- a cluster of one of the names is among the named ones
  is_named_one : (n : Name) → Contains names n → (live : IsLive f n) → Contains (named names f.live) live.0
  is_named_one n n_in live =
      contains_filtered (λ (d : Cluster). is_named names d.name) f.live live.0 live.1.lives
      (named_among names live.0.name (subst (λ m. Contains names m) (sym live.1.has_name) n_in))

  whole_owns_of : (c : Cluster) → Contains (named names f.live) c → (k : ConId) → Contains c.owned k → Contains (made_of names f.live).owned k
  whole_owns_of c c_in k k_in =
      (each_within (map body_of (named names f.live)) (body_of c) (contains_mapped body_of (named names f.live) c c_in)).owned k k_in

  -- where some are named, some live one is
  some_named : 0 < length names → All (λ n. IsLive f n) names → (c : Cluster) × Contains (named names f.live) c
  some_named some live = first_of names refl some live
    where
      first_of : (ns : List Name) → ns ≡ names → 0 < length ns → All (λ n. IsLive f n) ns → (c : Cluster) × Contains (named names f.live) c
      first_of [] is some live = absurd (omega arith)
      first_of (n ∷ ns) is some live =
          let first = All-head (λ m. IsLive f m) n ns live in
          (first.0, is_named_one n (subst (λ ms. Contains ms n) is (contains_head n ns)) first)

  whole_owns : 0 < length names → All (λ n. IsLive f n) names → (k : ConId) × Contains (made_of names f.live).owned k
  whole_owns some live =
      let first = some_named some live in
      let own = sound.each_owns first.0 (filtered_from (λ (d : Cluster). is_named names d.name) f.live first.0 first.1).0 in
      (own.0, whole_owns_of first.0 first.1 own.0 own.1)

  -- two different clusters own two different constraints
  whole_owns_two : CanBeJoined f names → 1 < length (made_of names f.live).owned
  whole_owns_two can = first_two names refl can.at_least_two can.all_live can.differ
    where
      first_two : (ns : List Name) → ns ≡ names → 1 < length ns → All (λ n. IsLive f n) ns → AllPairs (λ (m n : Name). m ≢ n) ns → 1 < length (made_of names f.live).owned
      first_two [] is many live differ = absurd (omega (arith, many))
      first_two (n ∷ []) is many live differ = absurd (omega (arith, many))
      first_two (n ∷ m ∷ ns) is many live differ =
          let first = All-head (λ l. IsLive f l) n (m ∷ ns) live in
          let second = All-head (λ l. IsLive f l) m ns (All-tail (λ l. IsLive f l) n (m ∷ ns) live) in
          let own = sound.each_owns first.0 first.1.lives in
          let other = sound.each_owns second.0 second.1.lives in
          two_in (made_of names f.live).owned own.0 other.0
          (λ same. differ 0 1 n (omega arith) (omega arith)
          (sym first.1.has_name
          ∙ ap (λ (c : Cluster). c.name) (sound.owned_apart first.0 second.0 other.0 first.1.lives second.1.lives (subst (λ k. Contains first.0.owned k) same own.1) other.1)
          ∙ second.1.has_name))
          (whole_owns_of first.0 (is_named_one n (subst (λ ms. Contains ms n) is (contains_head n (m ∷ ns))) first) own.0 own.1)
          (whole_owns_of second.0 (is_named_one m (subst (λ ms. Contains ms m) is (contains_later n (m ∷ ns) m (contains_head m ns))) second) other.0 other.1)

  -- two of the names have two clusters
  two_named : CanBeJoined f names → 1 < length (named names f.live)
  two_named can = first_two names refl can.at_least_two can.all_live can.differ
    where
      first_two : (ns : List Name) → ns ≡ names → 1 < length ns → All (λ n. IsLive f n) ns → AllPairs (λ (m n : Name). m ≢ n) ns → 1 < length (named names f.live)
      first_two [] is many live differ = absurd (omega (arith, many))
      first_two (n ∷ []) is many live differ = absurd (omega (arith, many))
      first_two (n ∷ m ∷ ns) is many live differ =
          let first = All-head (λ l. IsLive f l) n (m ∷ ns) live in
          let second = All-head (λ l. IsLive f l) m ns (All-tail (λ l. IsLive f l) n (m ∷ ns) live) in
          two_in (named names f.live) first.0 second.0
          (λ same. differ 0 1 n (omega arith) (omega arith) (sym first.1.has_name ∙ ap (λ (c : Cluster). c.name) same ∙ second.1.has_name))
          (is_named_one n (subst (λ ms. Contains ms n) is (contains_head n (m ∷ ns))) first)
          (is_named_one m (subst (λ ms. Contains ms m) is (contains_later n (m ∷ ns) m (contains_head m ns))) second)

  -- so the whole leaves fewer
  pub joined_fewer : CanBeJoined f names → length (replaced f names).live < length f.live
  joined_fewer can =
      let both = length-filter_both (λ (d : Cluster). is_named names d.name) (λ (d : Cluster). not (is_named names d.name)) (λ d. refl) f.live in
      let size = length-append (unnamed names f.live) (whole_from (Step f.next_step) names f.live ∷ []) in
      let two = two_named can in
      omega (arith, both, size, two)

  -- the whole takes the place of at least one
  no_more : 0 < length names → All (λ n. IsLive f n) names → length (replaced f names).live ≤ length f.live
  no_more some live =
      let first = some_named some live in
      let both = length-filter_both (λ (d : Cluster). is_named names d.name) (λ (d : Cluster). not (is_named names d.name)) (λ d. refl) f.live in
      let size = length-append (unnamed names f.live) (whole_from (Step f.next_step) names f.live ∷ []) in
      let some_one : 0 < length (named names f.live) = contains_some (named names f.live) first.0 first.1 in
      omega (arith, both, size, some_one)

  pub sound_joined : CanBeJoined f names → IsSound (replaced f names)
  unfolding whole
  sound_joined can = (let some : 0 < length names = omega (arith, can.at_least_two) in let live = can.all_live in record {
    few = (let fewer = no_more some live in let few = sound.few in omega arith);
    names_rise = pairs_push (λ (a b : Cluster). IsBelow a.name b.name) (unnamed names f.live) whole
        (pairs_filter (λ (a b : Cluster). IsBelow a.name b.name) (λ (d : Cluster). not (is_named names d.name)) f.live sound.names_rise)
        (λ x h. below_next f.next_step x.name (λ k is. sound.steps_below x k (stayed x h).0 is));
    bodies_rise = λ c c_in. elim (Contains-push_cases (unnamed names f.live) whole c c_in) [
      | inl old ↦ sound.bodies_rise c (stayed c old).0
      | inr is ↦ subst (λ (d : Cluster). IsRisingBody (body_of d)) is (made_rises names f.live (λ k d h. sound.bodies_rise (get_or f.live k d) (Contains-get_or f.live k d h)))
    ];
    each_owns = λ c c_in. elim (Contains-push_cases (unnamed names f.live) whole c c_in) [
      | inl old ↦ sound.each_owns c (stayed c old).0
      | inr is ↦ subst (λ (d : Cluster). (k : ConId) × Contains d.owned k) is (whole_owns some live)
    ];
    owned_apart = λ a b k a_in b_in a_k b_k. elim (Contains-push_cases (unnamed names f.live) whole a a_in) [
      | inl a_old ↦ elim (Contains-push_cases (unnamed names f.live) whole b b_in) [
        | inl b_old ↦ sound.owned_apart a b k (stayed a a_old).0 (stayed b b_old).0 a_k b_k
        | inr b_is ↦ absurd (apart_from_whole a k a_old a_k (subst (λ (d : Cluster). Contains d.owned k) (sym b_is) b_k))
      ]
      | inr a_is ↦ elim (Contains-push_cases (unnamed names f.live) whole b b_in) [
        | inl b_old ↦ absurd (apart_from_whole b k b_old b_k (subst (λ (d : Cluster). Contains d.owned k) (sym a_is) a_k))
        | inr b_is ↦ sym a_is ∙ b_is
      ]
    ];
    starts_own_their_own = λ c k c_in has_name. elim (Contains-push_cases (unnamed names f.live) whole c c_in) [
      | inl old ↦ sound.starts_own_their_own c k (stayed c old).0 has_name
      | inr is ↦ (let never : Step f.next_step ≡ Con k = ap (λ (d : Cluster). d.name) is ∙ has_name in absurd (cc))
    ];
    steps_below = λ c k c_in has_name. elim (Contains-push_cases (unnamed names f.live) whole c c_in) [
      | inl old ↦ (let below : k < f.next_step = sound.steps_below c k (stayed c old).0 has_name in omega arith)
      | inr is ↦ (let level : f.next_step ≡ k = step_inside f.next_step k (ap (λ (d : Cluster). d.name) is ∙ has_name) in omega arith)
    ];
    merged_own_two = λ c k c_in has_name. elim (Contains-push_cases (unnamed names f.live) whole c c_in) [
      | inl old ↦ sound.merged_own_two c k (stayed c old).0 has_name
      | inr is ↦ subst (λ (d : Cluster). 1 < length d.owned) is (whole_owns_two can)
    ];
  })

pub joined_of : {f : Clusters} {names : List Name} → CanBeReplaced f names → CanBeJoined f names
joined_of can = record {
  at_least_two = elim can.two_or_three [ inl two ↦ omega arith | inr three ↦ omega arith ];
  all_live = can.all_live;
  differ = can.differ;
}

pub sound_replaced : (f : Clusters) (names : List Name) → IsSound f → CanBeReplaced f names → IsSound (replaced f names)
sound_replaced f names sound can = sound_joined f names sound (joined_of can)

-- the starting clusters hold the starting bodies
pub starting_bodies : (es : List Start) → map body_of (map start_of es) ≡ map starting es
starting_bodies [] = refl
starting_bodies (e ∷ es) = ap (λ (bs : List Body). starting e ∷ bs) (starting_bodies es)
