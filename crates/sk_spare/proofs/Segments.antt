-- A segment of constraints that is set aside, settled at once. For each of them there is a normal family without it
-- that merging leads to from the family of the others.
use Rattle.std.proofs.Common.{◌≡◌, ◌⊎◌, inl, inr, refl, ℕ, ◌+◌, ◌-◌, ◌*◌, ◌≤◌, Bool, true, false, List, [], ◌∷◌, ◌++◌, length, sym, subst, ◌∙◌, ap, arith}
use Rattle.std.specs.Prelude.{Contains, map, filter, sum_by, ◌↔◌}
use Rattle.std.proofs.lemmas.Bool.{false_from_ne_true}
use Rattle.std.proofs.lemmas.List.Elements.{Contains-append_left, Contains-append_right, Contains-append_cases}
use Rattle.std.proofs.lemmas.List.Sums.{sum_by-append, sum_by-cons}
use Rattle.sk_base.specs.declared.ConId.{ConId}
use Rattle.sk_base.specs.declared.Graph.{Graph}
use Rattle.sk_base.specs.SoundGraph.{IsSoundGraph}
use Rattle.sk_base.specs.Numbering.{elem_number, con_number}
use Rattle.sk_base.specs.Rising.{IsRising}
use Rattle.sk_base.proofs.Deciding.{con_settles}
use Rattle.sk_base.proofs.Distinct.{no_longer}
use Rattle.sk_base.proofs.Members.{contains_none, contains_head, contains_one, contains_mapped, mapped_from, contains_filtered, filtered_from}
use Rattle.sk_family.specs.declared.Cluster.{Cluster}
use Rattle.sk_family.specs.Clusters.{Clusters, bodies, body_of}
use Rattle.sk_family.specs.Body.{Body, Start, starts, starting, initial_bodies}
use Rattle.sk_family.specs.Starting.{start_with}
use Rattle.sk_family.proofs.GraphStarts.{found_start}
use Rattle.sk_rules.specs.Reach.{Reach, IsClosed, IsNormal}
use Rattle.sk_rules.specs.Keeping.{IsReached, IsOwned, CarriesOver, Completes}
use Rattle.sk_rules.specs.Excess.{weight, weight_of, is_owned, AreConstraints}
use Rattle.sk_rules.proofs.Counting.{HasEnough, IsTight, reached_tight}
use Rattle.sk_rules.proofs.Keeping.{contains_settles, kept_is_reached}
use Rattle.sk_rules.proofs.KeptClusters.{reached_as_it_is}
use Rattle.sk_rules.proofs.KeptFamily.{each_owned}
use Rattle.sk_rules.proofs.NormalForm.{reached_family, reach_covers}
use Rattle.sk_rules.proofs.SummedWeights.{weighs_at_least, owned_found, found_owned}
use Rattle.sk_rules.proofs.WeighedGraphs.{weighs_each}
use Rattle.sk_rules.proofs.Takable.{reach_on}
use Rattle.sk_rules.specs.JustSome.{with_just}
use Rattle.sk_spare.specs.Sparing.{HoldsAll, IsSpare}
use Rattle.sk_spare.specs.Trying.{trial_graph, some_holds}
use Rattle.sk_spare.specs.Halving.{IsBeside, IsIn, cluster_weight}
use Rattle.sk_rules.proofs.JustSome.{in_part, sound_part}
use Rattle.sk_spare.proofs.Graphs.{in_trial, sound_trial}
use Rattle.sk_spare.proofs.LeavingOut.{distinct, trial_decides}
use Rattle.sk_spare.proofs.Lighter.{weighs_something}
use Rattle.sk_spare.proofs.Deciding.{owned_constraints, owner_in, one_decides, not_told, found_nothing}
use Rattle.sk_spare.proofs.Holding.{test_tells}
use Rattle.sk_rules.proofs.SomeClosed.{some_closed}
use Rattle.sk_spare.proofs.Budget.{left_over, HaveEnough, made_along}

-- what a body weighs as a constraint between all its elements
abbrev pub body_weight : Body → ℕ
body_weight b = 2 * length b.elements - 3

-- the same of the clusters with these bodies
pub clusters_weigh : (cs : List Cluster) → sum_by cluster_weight cs ≡ sum_by body_weight (map body_of cs)
clusters_weigh [] = refl
clusters_weigh (c ∷ cs) =
    let one = sum_by-cons cluster_weight c cs in
    let other = sum_by-cons body_weight (body_of c) (map body_of cs) in
    let rest = clusters_weigh cs in
    omega arith

abbrev first_owned : List ConId → ConId
first_owned [] = record { 0 = 0 }
first_owned (k ∷ ks) = k

first_in : (ks : List ConId) (k : ConId) → Contains ks k → Contains ks (first_owned ks)
first_in [] k h = absurd (contains_none k h)
first_in (j ∷ ks) k h = contains_head j ks

-- the body as a piece, with one of the constraints that it owns
abbrev piece_of : Body → Start
piece_of b = record { number = first_owned b.owned; elements = b.elements }

sum_mapped : {X : Type 0} (to : X → Start) (xs : List X) → sum_by weight (map to xs) ≡ sum_by (λ x. weight (to x)) xs
sum_mapped to [] = refl
sum_mapped to (x ∷ xs) =
    let one = sum_by-cons weight (to x) (map to xs) in
    let other = sum_by-cons (λ y. weight (to y)) x xs in
    let rest = sum_mapped to xs in
    omega arith

module _ (g : Graph) (f : List Body) (x : Body) (sound : IsSoundGraph g) (is : IsIn g f x) (aside : List ConId) (within : (k : ConId) → Contains aside k → Contains x.owned k)
    (p : ConId → Bool) (others : List Body) (beside : IsBeside g x.owned aside p others) where
  part_sound : IsSoundGraph (with_just p g)
  part_sound = sound_part g p sound

  others_tight : IsTight (with_just p g) others
  others_tight = reached_tight (with_just p g) others part_sound.edges_rise beside.made

  start_there : (k : ConId) → Contains x.owned k → (s : Start) × Contains (starts g) s × (s.number ≡ k)
  start_there = (owned_constraints g f sound is.normal x is.in_family).there

  -- what is set aside the others don't own
  not_owned : (k : ConId) → Contains aside k → ¬ IsOwned others k
  not_owned k k_in (b, b_in, owns) =
      let (s, s_in, s_is, inside) = others_tight.inside b b_in k owns in
      let passes : p k ≡ true = subst (λ (j : ConId). p j ≡ true) s_is ((in_part g p sound s).0 s_in).1 in
      ((beside.exactly k).0 passes).1 k_in

  -- and they own what is not
  owned_else : (s : Start) → Contains (starts g) s → Contains x.owned s.number → ¬ Contains aside s.number → IsOwned others s.number
  owned_else s s_in owned out =
      each_owned (with_just p g) others (reached_as_it_is (with_just p g) others beside.made) s
      ((in_part g p sound s).1 (s_in, (beside.exactly s.number).1 (owned, out)))

  pub aside_constraints : IsRising con_number aside → AreConstraints g aside
  aside_constraints rise = record {
    rise = rise;
    few = (
        let few = (owned_constraints g f sound is.normal x is.in_family).few in
        let fewer = no_longer aside x.owned (distinct con_number aside rise) within in
        omega (arith, few, fewer));
    there = λ k k_in. start_there k (within k k_in);
  }

  module _ (k : ConId) (k_in : Contains aside k) where
    abbrev trial : Graph
    trial = trial_graph x.owned k g

    trial_sound : IsSoundGraph trial
    trial_sound = sound_trial g k x.owned sound

    -- the starts of the constraints that are set aside, but for the one
    abbrev back : List Start
    back = filter (is_owned aside) (starts trial)

    abbrev together : List Body
    together = others ++ map starting back

    completes : Completes trial others together
    completes y = (
      (λ h. elim (Contains-append_cases others (map starting back) y h) [
        | inl kept ↦ inl kept
        | inr put ↦ (
            let (s, s_in, s_is) = mapped_from starting back y put in
            let was = filtered_from (is_owned aside) (starts trial) s s_in in
            inr (s, was.0, not_owned s.number (owned_found aside s was.1), sym s_is))
      ]),
      (λ h. elim h [
        | inl kept ↦ Contains-append_left others (map starting back) y kept
        | inr (s, s_in, out, y_is) ↦ (
            let was = (in_trial g k sound x.owned s).0 s_in in
            let set_aside : Contains aside s.number = elim (contains_settles con_settles aside s.number) [
              | inl there ↦ there
              | inr not_there ↦ absurd (out (owned_else s was.0 was.1 not_there))
            ] in
            subst (λ (z : Body). Contains together z) (sym y_is)
            (Contains-append_right others (map starting back) (starting s)
            (contains_mapped starting back s (contains_filtered (is_owned aside) (starts trial) s s_in (found_owned aside s set_aside)))))
      ]),
    )

    carries : (y : Body) → Contains others y → CarriesOver (with_just p g) trial y
    carries y y_in = record {
      starts = λ e e_in owns. (
          let was = (in_part g p sound e).0 e_in in
          let passes = (beside.exactly e.number).0 was.1 in
          contains_mapped starting (starts trial) e
          ((in_trial g k sound x.owned e).1 (was.0, passes.0, λ same. passes.1 (subst (λ (j : ConId). Contains aside j) (sym same) k_in))));
      lines = λ e e_in line. line;
    }

    reached : IsReached trial together
    reached =
        kept_is_reached (with_just p g) trial others others together trial_sound.edges_rise (reached_as_it_is (with_just p g) others beside.made)
        (λ y h. h) carries completes

    -- the normal family without the one
    closing : (n : List Body) × Reach trial reached.reached_as n × IsClosed trial n
    closing = some_closed trial reached.reached_as

    abbrev end : List Body
    end = closing.0

    normal : IsNormal trial end
    normal = record { reached = reach_on trial (initial_bodies trial) reached.reached_as end reached.reach closing.1; closed = closing.2 }

    decides : IsSpare g k ↔ HoldsAll end x.elements
    decides = trial_decides g f end k x sound (owner_in g f x is k (within k k_in)) normal

    -- where the others hold all elements of the owner, it may go
    pub held_already : HoldsAll others x.elements → IsSpare g k
    held_already (b, b_in, holds) =
        let around = reach_covers trial reached.reached_as end closing.1 b ((reached.same b).1 (Contains-append_left others (map starting back) b b_in)) in
        decides.1 (around.0, around.1, λ e e_in. around.2.elements e (holds e e_in))

    -- the pieces: the others, and each constraint that is set aside
    abbrev pieces : List Start
    pieces = map piece_of others ++ map (start_with g) aside

    pieces_weigh : IsRising con_number aside → sum_by weight pieces ≡ sum_by body_weight others + weight_of g aside
    pieces_weigh rise =
        let sums = sum_by-append weight (map piece_of others) (map (start_with g) aside) in
        let one : sum_by weight (map piece_of others) ≡ sum_by body_weight others = sum_mapped piece_of others in
        let other : sum_by weight (map (start_with g) aside) ≡ sum_by (λ (j : ConId). weight (start_with g j)) aside = sum_mapped (start_with g) aside in
        let each = weighs_each g sound.edges_rise aside rise (λ j j_in. start_there j (within j j_in)) in
        omega (arith, sums, one, other, each)

    has_piece : (y : Body) (s : Start) → Contains pieces s → Contains y.owned s.number → y.elements ≡ s.elements → HasEnough pieces y
    has_piece y s s_in owns same =
        let least = weighs_at_least (is_owned y.owned) pieces s s_in (found_owned y.owned s owns) in
        let level : length y.elements ≡ length s.elements = ap length same in
        omega arith

    piece_aside : (s : Start) → Contains (starts g) s → Contains aside s.number → Contains pieces s
    piece_aside s s_in there =
        subst (λ (t : Start). Contains pieces t) (found_start g sound.edges_rise s s.number s_in refl)
        (Contains-append_right (map piece_of others) (map (start_with g) aside) (start_with g s.number) (contains_mapped (start_with g) aside s.number there))

    made_at_first : HaveEnough pieces reached.reached_as
    made_at_first = record {
      family = reached_family trial reached.reached_as trial_sound.edges_rise reached.reach;
      each = λ y y_in. elim (Contains-append_cases others (map starting back) y ((reached.same y).0 y_in)) [
        | inl kept ↦ (
            let owned = others_tight.family.owns y kept in
            has_piece y (piece_of y) (Contains-append_left (map piece_of others) (map (start_with g) aside) (piece_of y) (contains_mapped piece_of others y kept))
            (first_in y.owned owned.0 owned.1) refl)
        | inr put ↦ (
            let (s, s_in, s_is) = mapped_from starting back y put in
            let was = filtered_from (is_owned aside) (starts trial) s s_in in
            let in_graph = ((in_trial g k sound x.owned s).0 was.0).0 in
            subst (λ (z : Body). HasEnough pieces z) s_is
            (has_piece (starting s) s (piece_aside s in_graph (owned_found aside s was.1)) (contains_head s.number []) refl))
      ];
    }

    -- where all pieces together are too few for the elements of the owner, it may not go
    pub too_few : IsRising con_number aside → sum_by body_weight others + weight_of g aside + 3 ≤ 2 * length x.elements → ¬ IsSpare g k
    too_few rise few s =
        let (y, y_in, holds) = decides.0 s in
        let made = made_along pieces trial reached.reached_as end closing.1 made_at_first in
        let enough = made.each y y_in in
        let (t, t_in, t_is) = start_there k (within k k_in) in
        let out : Contains y.owned t.number → ⊥ = λ owns. (
        let (u, u_in, u_is, inside) = (reached_tight trial end trial_sound.edges_rise normal.reached).inside y y_in t.number owns in
        ((in_trial g k sound x.owned u).0 u_in).2 (u_is ∙ t_is)) in
        let most = left_over (is_owned y.owned) pieces t (piece_aside t t_in (subst (λ (j : ConId). Contains aside j) (sym t_is) k_in))
        (false_from_ne_true (is_owned y.owned t) (λ passes. out (owned_found y.owned t passes))) in
        let some = weighs_something g sound t t_in in
        let all = pieces_weigh rise in
        let tight = reached_tight g f sound.edges_rise is.normal.reached in
        let longer = no_longer x.elements y.elements (distinct elem_number x.elements (tight.family.rising x is.in_family).elements) holds in
        absurd (omega (arith, enough, most, some, all, longer, few))

-- one constraint at most
lone : (ks : List ConId) (k : ConId) → length ks ≤ 1 → Contains ks k → ks ≡ k ∷ []
lone [] k few h = absurd (contains_none k h)
lone (j ∷ []) k few h = ap (λ i. i ∷ []) (contains_one j k h)
lone (j ∷ i ∷ ks) k few h = absurd (omega arith)

-- what is found of a segment that is settled at once
module _ (g : Graph) (x : Body) (sound : IsSoundGraph g) (owner : (f : List Body) × IsIn g f x) (aside : List ConId) (rise : IsRising con_number aside)
    (owned : (k : ConId) → Contains aside k → Contains x.owned k) (family : Clusters) (beside : (p : ConId → Bool) × IsBeside g x.owned aside p (bodies family)) where
  pub constraints_aside : AreConstraints g aside
  constraints_aside = aside_constraints g owner.0 x sound owner.1 aside owned beside.0 (bodies family) beside.1 rise

  pub found_all : some_holds family.live x.elements ≡ true → (old : List ConId) (k : ConId) → Contains (old ++ aside) k ↔ (Contains old k ⊎ (Contains aside k × IsSpare g k))
  found_all passes old k = (
    (λ h. elim (Contains-append_cases old aside k h) [
      | inl before ↦ inl before
      | inr here ↦ inr (here, held_already g owner.0 x sound owner.1 aside owned beside.0 (bodies family) beside.1 k here ((test_tells family.live x.elements).0 passes))
    ]),
    (λ h. elim h [ inl before ↦ Contains-append_left old aside k before | inr here ↦ Contains-append_right old aside k here.0 ]),
  )

  -- of one constraint at most, the family decides
  pub found_unless : length aside ≤ 1 → some_holds family.live x.elements ≡ false → (old : List ConId) (k : ConId) → Contains old k ↔ (Contains old k ⊎ (Contains aside k × IsSpare g k))
  found_unless few fails old = found_nothing (λ k. IsSpare g k) old aside not_spare
    where
      not_spare : (k : ConId) → Contains aside k → ¬ IsSpare g k
      not_spare k k_in =
          let alone = subst (λ (ks : List ConId). IsBeside g x.owned ks beside.0 (bodies family)) (lone aside k few k_in) beside.1 in
          not_told (some_holds family.live x.elements) (one_decides g owner.0 x sound owner.1 k (owned k k_in) beside.0 family alone (some_holds family.live x.elements) refl) fails

  pub found_nowhere : sum_by cluster_weight family.live + weight_of g aside + 3 ≤ 2 * length x.elements → (old : List ConId) (k : ConId)
      → Contains old k ↔ (Contains old k ⊎ (Contains aside k × IsSpare g k))
  found_nowhere few old =
      found_nothing (λ k. IsSpare g k) old aside (λ k k_in. too_few g owner.0 x sound owner.1 aside owned beside.0 (bodies family) beside.1 k k_in rise
      (let same = clusters_weigh family.live in omega (arith, same, few)))
