-- The excess is never negative, and in a closed family the owned constraints are the held ones.
use Rattle.std.proofs.Common.{◌≡◌, ◌≢◌, inl, inr, ℕ, ◌+◌, ◌*◌, ◌≤◌, List, [], ◌∷◌, length, sym, subst, arith}
use Rattle.std.specs.Prelude.{◌↔◌, Contains}
use Rattle.sk_base.specs.declared.Elem.{Elem}
use Rattle.sk_base.specs.declared.ConId.{ConId}
use Rattle.sk_base.specs.declared.Graph.{Graph}
use Rattle.sk_base.specs.SoundGraph.{HasRisingEdges}
use Rattle.sk_base.specs.Numbering.{elem_number, con_number, elem_exact}
use Rattle.sk_base.specs.Rising.{union}
use Rattle.sk_family.specs.Body.{Body, Start, starts, join_all, starting, initial_bodies}
use Rattle.sk_base.proofs.Members.{contains_head, contains_later, contains_one, contains_mapped, mapped_from}
use Rattle.sk_base.proofs.Unions.{union_left, union_right, union_cases}
use Rattle.sk_family.proofs.Bodies.{each_within, owner_of}
use Rattle.sk_base.proofs.Sizes.{union_shares_one, union_shares_two}
use Rattle.sk_base.proofs.Filters.{same_tests}
use Rattle.sk_rules.specs.Reach.{CanMerge, Step, Reach, IsNormal}
use Rattle.sk_rules.specs.Excess.{weight_of, weight_where, is_owned, is_inside, held, HasInside, HasTwoEach, OwnsEnough}
use Rattle.sk_family.proofs.GraphStarts.{start_at}
use Rattle.sk_rules.proofs.SummedWeights.{same_weight, owned_found, found_owned, inside_found, found_inside, weighs_apart, weighs_itself}
use Rattle.sk_rules.proofs.Families.{IsFamily, step_family, initial_family, kept_along}
use Rattle.sk_rules.proofs.NormalForm.{reach_covers, one_of_two}

pub record IsTight (g : Graph) (f : List Body) : Type 0 where
  pub family : IsFamily f
  pub enough : (x : Body) → Contains f x → OwnsEnough g x
  pub inside : (x : Body) → Contains f x → (k : ConId) → Contains x.owned k → HasInside g x k

-- the pieces that the body owns weigh enough for its elements
abbrev pub HasEnough : List Start → Body → Type 0
HasEnough ss x = 2 * length x.elements ≤ weight_where (is_owned x.owned) ss + 3

module _ (f : List Body) (family : IsFamily f) where
  pub owned_apart : (a b : Body) → Contains f a → Contains f b → a ≢ b → (k : ConId) → Contains a.owned k → ¬ Contains b.owned k
  owned_apart a b a_in b_in differ k a_k b_k = differ (family.apart a b k a_in b_in a_k b_k)

  -- the one that two or three make has enough where each has
  pub merged_enough : (ss : List Start) (g : Graph) (merged : List Body) → CanMerge g merged → ((x : Body) → Contains merged x → Contains f x) → ((x : Body) → Contains merged x → HasEnough ss x) → HasEnough ss (join_all merged)
  unfolding union
  merged_enough ss g [] can among each = absurd can
  merged_enough ss g (a ∷ []) can among each = absurd can
  merged_enough ss g (a ∷ b ∷ []) (differ, (p, q, pair)) among each =
      let a_in = among a (contains_head a (b ∷ [])) in
      let b_in = among b (contains_later a (b ∷ []) b (contains_head b [])) in
      let a_enough = each a (contains_head a (b ∷ [])) in
      let b_enough = each b (contains_later a (b ∷ []) b (contains_head b [])) in
      let size = union_shares_two elem_number elem_exact a.elements b.elements (family.rising b b_in).elements p q pair.differ pair.a_shared.0 pair.b_shared.0 pair.a_shared.1 pair.b_shared.1 in
      let count = weighs_apart ss a.owned b.owned (owned_apart a b a_in b_in differ) in
      enough_of_two (length a.elements) (length b.elements) (length (union elem_number a.elements b.elements)) (weight_where (is_owned a.owned) ss) (weight_where (is_owned b.owned) ss) (weight_where (is_owned (union con_number a.owned b.owned)) ss)
      a_enough b_enough size count
    where
      enough_of_two : (na nb n oa ob o : ℕ) → 2 * na ≤ oa + 3 → 2 * nb ≤ ob + 3 → n + 2 ≤ na + nb → o ≡ oa + ob → 2 * n ≤ o + 3
      enough_of_two na nb n oa ob o ha hb size count = omega arith
  merged_enough ss g (a ∷ b ∷ c ∷ []) (a_b, b_c, c_a, (p, q, r, t)) among each =
      let b_at = contains_later a (b ∷ c ∷ []) b (contains_head b (c ∷ [])) in
      let c_at = contains_later a (b ∷ c ∷ []) c (contains_later b (c ∷ []) c (contains_head c [])) in
      let a_in = among a (contains_head a (b ∷ c ∷ [])) in
      let b_in = among b b_at in
      let c_in = among c c_at in
      let first = union_shares_one elem_number elem_exact a.elements b.elements (family.rising b b_in).elements p t.a_shared.0 t.a_shared.1 in
      let q_in = union_right elem_number a.elements b.elements q t.b_shared.0 in
      let r_in = union_left elem_number elem_exact a.elements b.elements r t.c_shared.1 in
      let second = union_shares_two elem_number elem_exact (union elem_number a.elements b.elements) c.elements (family.rising c c_in).elements q r t.differ.1 q_in r_in t.b_shared.1 t.c_shared.0 in
      let count_one = weighs_apart ss a.owned b.owned (owned_apart a b a_in b_in a_b) in
      let count_two = weighs_apart ss (union con_number a.owned b.owned) c.owned
      (λ k h. elim (union_cases con_number a.owned b.owned k h) [
        | inl left ↦ owned_apart a c a_in c_in (λ e. c_a (sym e)) k left
        | inr right ↦ owned_apart b c b_in c_in b_c k right
      ]) in
      enough_of_three (length a.elements) (length b.elements) (length c.elements) (length (union elem_number a.elements b.elements))
      (length (union elem_number (union elem_number a.elements b.elements) c.elements))
      (weight_where (is_owned a.owned) ss) (weight_where (is_owned b.owned) ss) (weight_where (is_owned c.owned) ss) (weight_where (is_owned (union con_number a.owned b.owned)) ss) (weight_where (is_owned (union con_number (union con_number a.owned b.owned) c.owned)) ss)
      (each a (contains_head a (b ∷ c ∷ []))) (each b b_at) (each c c_at) first second count_one count_two
    where
      enough_of_three : (na nb nc nab n oa ob oc oab o : ℕ) → 2 * na ≤ oa + 3 → 2 * nb ≤ ob + 3 → 2 * nc ≤ oc + 3 → nab + 1 ≤ na + nb → n + 2 ≤ nab + nc → oab ≡ oa + ob → o ≡ oab + oc → 2 * n ≤ o + 3
      enough_of_three na nb nc nab n oa ob oc oab o ha hb hc h1 h2 h3 h4 = omega arith
  merged_enough ss g (a ∷ b ∷ c ∷ d ∷ rest) can among each = absurd can

pub step_tight : (g : Graph) (old new : List Body) → Step g old new → IsTight g old → IsTight g new
step_tight g old new m tight = record {
  family = step_family g old new m tight.family;
  enough = λ x x_in. elim ((m.replaces x).0 x_in) [
    | inl is ↦ subst (λ z. OwnsEnough g z) (sym is) (merged_enough old tight.family (starts g) g m.merged m.can_merge m.among (λ y h. tight.enough y (m.among y h)))
    | inr stayed ↦ tight.enough x stayed.0
  ];
  inside = λ x x_in k x_k. elim ((m.replaces x).0 x_in) [
    | inl is ↦ (
        let owner = owner_of m.merged k (subst (λ (z : Body). Contains z.owned k) is x_k) in
        let was = tight.inside owner.0 (m.among owner.0 owner.1) k owner.2 in
        let inside = each_within m.merged owner.0 owner.1 in
        subst (λ z. HasInside g z k) (sym is) (was.0, was.1, was.2, λ e e_in. inside.elements e (was.3 e e_in)))
    | inr stayed ↦ tight.inside x stayed.0 k x_k
  ];
}

pub initial_tight : (g : Graph) → HasRisingEdges g → IsTight g (initial_bodies g)
initial_tight g rises = record {
  family = initial_family g rises;
  enough = λ x x_in. (let found = mapped_from starting (starts g) x x_in in
      subst (λ z. OwnsEnough g z) found.2 (let least = weighs_itself g found.0 found.1 in omega arith));
  inside = λ x x_in k x_k. (
      let found = mapped_from starting (starts g) x x_in in
      let is : found.0.number ≡ k = contains_one found.0.number k (subst (λ (z : Body). Contains z.owned k) (sym found.2) x_k) in
      subst (λ z. HasInside g z k) found.2 (found.0, found.1, is, λ e e_in. e_in));
}

pub reached_tight : (g : Graph) (f : List Body) → HasRisingEdges g → Reach g (initial_bodies g) f → IsTight g f
reached_tight g f rises reached = kept_along g (IsTight g) (step_tight g) (initial_bodies g) f reached (initial_tight g rises)

-- in a normal family a constraint with all its elements inside is owned
pub inside_owned : (g : Graph) (f : List Body) → HasTwoEach g → IsNormal g f → (x : Body) → Contains f x → (s : Start) → Contains (starts g) s → ((e : Elem) → Contains s.elements e → Contains x.elements e) → Contains x.owned s.number
inside_owned g f two normal x x_in s s_in within =
    let around = reach_covers g (initial_bodies g) f normal.reached (starting s) (contains_mapped starting (starts g) s s_in) in
    let (a, b, differ, a_in, b_in) = two s s_in in
    let same : x ≡ around.0 = one_of_two g f normal.closed x around.0 x_in around.1 (
      a,
      b,
      record {
        differ = differ;
        a_shared = (within a a_in, around.2.elements a a_in);
        b_shared = (within b b_in, around.2.elements b b_in);
      },
    ) in
    subst (λ (z : Body). Contains z.owned s.number) (sym same) (around.2.owned s.number (contains_head s.number []))

-- and what a body owns there are just the constraints with all their elements inside
pub owned_inside : (g : Graph) (f : List Body) → HasRisingEdges g → HasTwoEach g → IsNormal g f → (x : Body) → Contains f x → (k : ConId) → Contains x.owned k ↔ HasInside g x k
owned_inside g f rises two normal x x_in k = (
  (reached_tight g f rises normal.reached).inside x x_in k,
  (λ (s, s_in, is, within). subst (λ j. Contains x.owned j) is (inside_owned g f two normal x x_in s s_in within)),
)

pub owned_is_held : (g : Graph) (f : List Body) → HasRisingEdges g → HasTwoEach g → IsNormal g f → (x : Body) → Contains f x → weight_of g x.owned ≡ held g x.elements
owned_is_held g f rises two normal x x_in =
    same_weight (is_owned x.owned) (is_inside x.elements) (starts g) (λ s s_in. same_tests (is_owned x.owned s) (is_inside x.elements s)
    (λ passes. (
    let (t, t_in, is, within) = (owned_inside g f rises two normal x x_in s.number).0 (owned_found x.owned s passes) in
    inside_found x.elements s (subst (λ (u : Start). (e : Elem) → Contains u.elements e → Contains x.elements e) (start_at g rises t s t_in s_in is) within)))
    (λ passes. found_owned x.owned s (inside_owned g f two normal x x_in s s_in (found_inside x.elements s passes))))
