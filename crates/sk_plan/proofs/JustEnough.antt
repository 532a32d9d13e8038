-- Where the last family owns just enough, each family before it did, and each merge was of three
-- bodies that meet once.
use Rattle.std.proofs.Common.{◌≡◌, ◌⊎◌, inl, inr, ℕ, ◌+◌, ◌*◌, ◌≤◌, List, [], ◌∷◌, length, refl, sym, subst, ◌∙◌, arith}
use Rattle.std.specs.Prelude.{Contains}
use Rattle.sk_base.specs.declared.Elem.{Elem}
use Rattle.sk_base.specs.declared.Graph.{Graph}
use Rattle.sk_base.specs.SoundGraph.{HasRisingEdges}
use Rattle.sk_base.specs.Numbering.{elem_number, con_number, elem_exact}
use Rattle.sk_base.specs.Rising.{union}
use Rattle.sk_family.specs.Body.{Body, join_all, initial_bodies}
use Rattle.sk_base.proofs.Members.{contains_head, contains_later, contains_one, contains_cases}
use Rattle.sk_base.proofs.Unions.{union_left, union_right, union_cases}
use Rattle.sk_base.proofs.Deciding.{elem_settles}
use Rattle.sk_base.proofs.Sizes.{union_shares_one, union_shares_two, union_shares_three}
use Rattle.sk_family.specs.Rules.{IsShared, IsTriangle}
use Rattle.sk_rules.specs.Reach.{CanMerge, Step, Reach, stays, goes, IsNormal}
use Rattle.sk_rules.specs.Excess.{weight_of, held, OwnsEnough, HasTwoEach}
use Rattle.sk_rules.proofs.Families.{IsFamily}
use Rattle.sk_rules.proofs.NormalForm.{among_settles}
use Rattle.sk_rules.proofs.Counting.{IsTight, step_tight, initial_tight, reached_tight, owned_apart, owned_is_held}
use Rattle.sk_rules.proofs.SummedWeights.{weighs_both}
use Rattle.sk_tree.specs.Meeting.{MeetsOnce}
use Rattle.sk_plan.specs.Sparse.{OwnsJustEnough, AllOwnJustEnough, AreThreeMeetingOnce, EachMeetsOnce, HoldsNoneTooMany}

-- three bodies a, b, c that meet in p, q, r: how many elements a and b make, and how many all
module _ (g : Graph) (f : List Body) (family : IsFamily f) (a b c : Body) (a_in : Contains f a) (b_in : Contains f b) (c_in : Contains f c) (p q r : Elem) (t : IsTriangle g a.elements b.elements c.elements p q r) where
  two_size : ℕ
  two_size = length (union elem_number a.elements b.elements)

  all_size : ℕ
  all_size = length (union elem_number (union elem_number a.elements b.elements) c.elements)

  at_first : two_size + 1 ≤ length a.elements + length b.elements
  unfolding two_size
  at_first = union_shares_one elem_number elem_exact a.elements b.elements (family.rising b b_in).elements p t.a_shared.0 t.a_shared.1

  -- no more are shared where the sizes are just these
  module _ (two_just : two_size + 1 ≡ length a.elements + length b.elements) (all_just : all_size + 2 ≡ two_size + length c.elements) where
    in_two : (e : Elem) → Contains a.elements e ⊎ Contains b.elements e → Contains (union elem_number a.elements b.elements) e
    in_two e (inl left) = union_left elem_number elem_exact a.elements b.elements e left
    in_two e (inr right) = union_right elem_number a.elements b.elements e right

    only_p : (e : Elem) → IsShared a.elements b.elements e → e ≡ p
    unfolding two_size
    only_p e shared =
        elim (elem_settles e p) [
          | inl same ↦ same
          | inr other ↦ (let size = union_shares_two elem_number elem_exact a.elements b.elements (family.rising b b_in).elements e p other shared.0 t.a_shared.0 shared.1 t.a_shared.1 in absurd (omega arith))
        ]

    -- q and r are all that the first two share with the third
    only_two : (e : Elem) → Contains a.elements e ⊎ Contains b.elements e → Contains c.elements e → (e ≡ q) ⊎ (e ≡ r)
    unfolding two_size all_size
    only_two e e_two e_c =
        elim (elem_settles e q) [
          | inl is_q ↦ inl is_q
          | inr not_q ↦ elim (elem_settles e r) [
            | inl is_r ↦ inr is_r
            | inr not_r ↦ (
                let size = union_shares_three elem_number elem_exact (union elem_number a.elements b.elements) c.elements (family.rising c c_in).elements
                e q r not_q t.differ.1 (λ same. not_r (sym same))
                (in_two e e_two) (in_two q (inr t.b_shared.0)) (in_two r (inl t.c_shared.1))
                e_c t.b_shared.1 t.c_shared.0 in
                absurd (omega arith))
          ]
        ]

    meets_once : MeetsOnce g a.elements b.elements c.elements p q r
    meets_once = record {
      triangle = t;
      only_a = only_p;
      only_b = λ e shared. elim (only_two e (inr shared.0) shared.1) [
        | inl is_q ↦ is_q
        | inr is_r ↦ (
            let is_p : e ≡ p = only_p e (subst (λ z. Contains a.elements z) (sym is_r) t.c_shared.1, shared.0) in
            absurd (t.differ.2 (sym is_r ∙ is_p)))
      ];
      only_c = λ e shared. elim (only_two e (inl shared.1) shared.0) [
        | inl is_q ↦ (
            let is_p : e ≡ p = only_p e (shared.1, subst (λ z. Contains b.elements z) (sym is_q) t.b_shared.0) in
            absurd (t.differ.0 (sym is_p ∙ is_q)))
        | inr is_r ↦ is_r
      ];
    }

-- what is merged into one that owns just enough
pub record WasJustEnough (g : Graph) (merged : List Body) : Type 0 where
  pub each : AllOwnJustEnough g merged
  pub once : AreThreeMeetingOnce g merged

pub all_of_three : (P : Body → Type 0) (a b c : Body) → P a → P b → P c → (x : Body) → Contains (a ∷ b ∷ c ∷ []) x → P x
all_of_three P a b c p q r x h =
    elim (contains_cases a (b ∷ c ∷ []) x h) [
      | inl is ↦ subst P is p
      | inr rest ↦ elim (contains_cases b (c ∷ []) x rest) [
        | inl is ↦ subst P is q
        | inr last ↦ subst P (contains_one c x last) r
      ]
    ]

module _ (f : List Body) (family : IsFamily f) where
  merged_just_enough : (g : Graph) (merged : List Body) → CanMerge g merged → ((x : Body) → Contains merged x → Contains f x) → ((x : Body) → Contains merged x → OwnsEnough g x) → OwnsJustEnough g (join_all merged) → WasJustEnough g merged
  unfolding union two_size all_size
  merged_just_enough g [] can among each just = absurd can
  merged_just_enough g (a ∷ []) can among each just = absurd can
  merged_just_enough g (a ∷ b ∷ []) (differ, (p, q, pair)) among each just =
      let a_in = among a (contains_head a (b ∷ [])) in
      let b_at = contains_later a (b ∷ []) b (contains_head b []) in
      let b_in = among b b_at in
      let size = union_shares_two elem_number elem_exact a.elements b.elements (family.rising b b_in).elements p q pair.differ pair.a_shared.0 pair.b_shared.0 pair.a_shared.1 pair.b_shared.1 in
      let count = weighs_both g a.owned b.owned (owned_apart f family a b a_in b_in differ) in
      absurd (too_many (length a.elements) (length b.elements) (length (union elem_number a.elements b.elements)) (weight_of g a.owned) (weight_of g b.owned) (weight_of g (union con_number a.owned b.owned))
      (each a (contains_head a (b ∷ []))) (each b b_at) size count just)
    where
      too_many : (na nb n oa ob o : ℕ) → 2 * na ≤ oa + 3 → 2 * nb ≤ ob + 3 → n + 2 ≤ na + nb → o ≡ oa + ob → o + 3 ≡ 2 * n → ⊥
      too_many na nb n oa ob o ha hb size count just = omega arith
  merged_just_enough g (a ∷ b ∷ c ∷ []) (a_b, b_c, c_a, (p, q, r, t)) among each just =
      let a_at = contains_head a (b ∷ c ∷ []) in
      let b_at = contains_later a (b ∷ c ∷ []) b (contains_head b (c ∷ [])) in
      let c_at = contains_later a (b ∷ c ∷ []) c (contains_later b (c ∷ []) c (contains_head c [])) in
      let a_in = among a a_at in
      let b_in = among b b_at in
      let c_in = among c c_at in
      let first = at_first g f family a b c a_in b_in c_in p q r t in
      let q_in = union_right elem_number a.elements b.elements q t.b_shared.0 in
      let r_in = union_left elem_number elem_exact a.elements b.elements r t.c_shared.1 in
      let second = union_shares_two elem_number elem_exact (union elem_number a.elements b.elements) c.elements (family.rising c c_in).elements q r t.differ.1 q_in r_in t.b_shared.1 t.c_shared.0 in
      let count_one = weighs_both g a.owned b.owned (owned_apart f family a b a_in b_in a_b) in
      let count_two = weighs_both g (union con_number a.owned b.owned) c.owned
      (λ k h. elim (union_cases con_number a.owned b.owned k h) [
        | inl left ↦ owned_apart f family a c a_in c_in (λ e. c_a (sym e)) k left
        | inr right ↦ owned_apart f family b c b_in c_in b_c k right
      ]) in
      let sizes = just_sizes (length a.elements) (length b.elements) (length c.elements) (length (union elem_number a.elements b.elements))
      (length (union elem_number (union elem_number a.elements b.elements) c.elements))
      (weight_of g a.owned) (weight_of g b.owned) (weight_of g c.owned) (weight_of g (union con_number a.owned b.owned)) (weight_of g (union con_number (union con_number a.owned b.owned) c.owned))
      (each a a_at) (each b b_at) (each c c_at) first second count_one count_two just in
      record {
        each = all_of_three (OwnsJustEnough g) a b c sizes.0 sizes.1 sizes.2;
        once = (p, q, r, meets_once g f family a b c a_in b_in c_in p q r t sizes.3 sizes.4);
      }
    where
      just_sizes : (na nb nc nab n oa ob oc oab o : ℕ) → 2 * na ≤ oa + 3 → 2 * nb ≤ ob + 3 → 2 * nc ≤ oc + 3 → nab + 1 ≤ na + nb → n + 2 ≤ nab + nc → oab ≡ oa + ob → o ≡ oab + oc → o + 3 ≡ 2 * n → (oa + 3 ≡ 2 * na) × (ob + 3 ≡ 2 * nb) × (oc + 3 ≡ 2 * nc) × (nab + 1 ≡ na + nb) × (n + 2 ≡ nab + nc)
      just_sizes na nb nc nab n oa ob oc oab o ha hb hc h1 h2 h3 h4 just = (omega arith, omega arith, omega arith, omega arith, omega arith)
  merged_just_enough g (a ∷ b ∷ c ∷ d ∷ rest) can among each just = absurd can

module _ (g : Graph) (old new : List Body) (one : Step g old new) (tight : IsTight g old) (just : AllOwnJustEnough g new) where
  step_was : WasJustEnough g one.merged
  step_was =
      merged_just_enough old tight.family g one.merged one.can_merge one.among (λ y h. tight.enough y (one.among y h))
      (just (join_all one.merged) ((one.replaces (join_all one.merged)).1 (inl refl)))

  step_back : AllOwnJustEnough g old
  step_back x x_in =
      elim (among_settles one.merged x) [
        | inl merged ↦ step_was.each x merged
        | inr stays_out ↦ just x ((one.replaces x).1 (inr (x_in, stays_out)))
      ]

-- the excess never falls, so where it is none in the end, it is none before
pub reach_back : (g : Graph) (f n : List Body) → Reach g f n → IsTight g f → AllOwnJustEnough g n → AllOwnJustEnough g f
reach_back g f n stays tight just = just
reach_back g f n (goes {mid = mid} one rest) tight just =
    step_back g f mid one tight (reach_back g mid n rest (step_tight g f mid one tight) just)

pub step_once : (g : Graph) (f mid n : List Body) (one : Step g f mid) → Reach g mid n → IsTight g f → AllOwnJustEnough g n → AreThreeMeetingOnce g one.merged
step_once g f mid n one rest tight just =
    (step_was g f mid one tight (reach_back g mid n rest (step_tight g f mid one tight) just)).once

each_once : (g : Graph) (f n : List Body) (way : Reach g f n) → IsTight g f → AllOwnJustEnough g n → EachMeetsOnce way
each_once g f n stays tight just = tt
each_once g f n (goes {mid = mid} one rest) tight just =
    (step_once g f mid n one rest tight just, each_once g mid n rest (step_tight g f mid one tight) just)

pub way_meets_once : (g : Graph) (f : List Body) (way : Reach g (initial_bodies g) f) → HasRisingEdges g → AllOwnJustEnough g f → EachMeetsOnce way
way_meets_once g f way rises just = each_once g (initial_bodies g) f way (initial_tight g rises) just

pub none_too_many : (g : Graph) (f : List Body) → HasRisingEdges g → HasTwoEach g → IsNormal g f → HoldsNoneTooMany g f → AllOwnJustEnough g f
none_too_many g f rises two normal none x x_in =
    let enough : 2 * length x.elements ≤ weight_of g x.owned + 3 = (reached_tight g f rises normal.reached).enough x x_in in
    let all = owned_is_held g f rises two normal x x_in in
    let most : held g x.elements + 3 ≤ 2 * length x.elements = none x x_in in
    just (length x.elements) (weight_of g x.owned) (held g x.elements) enough all most
  where
    just : (n o h : ℕ) → 2 * n ≤ o + 3 → o ≡ h → h + 3 ≤ 2 * n → o + 3 ≡ 2 * n
    just n o h p q r = omega arith
