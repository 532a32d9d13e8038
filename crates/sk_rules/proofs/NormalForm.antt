-- All normal families of a graph are the same, by containment: where each body of a family lies in
-- one of a closed family, it does after a merge too. That is proved for every rule by which what may
-- merge in a family lies in one body of each closed family around it.
use Rattle.std.proofs.Common.{◌≡◌, ◌≢◌, ◌⊎◌, inl, inr, List, [], ◌∷◌, refl, sym, subst, ◌∙◌}
use Rattle.std.specs.Prelude.{Contains}
use Rattle.sk_base.specs.declared.Elem.{Elem}
use Rattle.sk_base.specs.declared.Graph.{Graph}
use Rattle.sk_base.specs.SoundGraph.{HasRisingEdges}
use Rattle.sk_family.specs.Body.{Body, join_all, initial_bodies, SameBodies}
use Rattle.sk_base.proofs.Members.{contains_none, contains_head, contains_later, contains_one, contains_cases}
use Rattle.sk_family.proofs.Bodies.{Within, within_itself, within_along, each_within, whole_within, same_within, body_settles}
use Rattle.sk_family.specs.Rules.{IsShared, SharesTwo, MeetsInThree}
use Rattle.sk_rules.specs.Reach.{CanMerge, AreAmong, StepBy, ReachBy, IsClosedBy, IsNormalBy, Reach, IsClosed, IsNormal, either_rule}
use Rattle.sk_rules.proofs.Families.{IsFamily, NamesSome, some_merges, initial_family, step_family_by, kept_by}

-- each body of f lies in one of n
abbrev pub IsCovered : List Body → List Body → Type 0
IsCovered f n = (x : Body) → Contains f x → (y : Body) × Contains n y × Within x y

-- what may merge in a family lies in one body of each closed family that covers it
abbrev pub Gathers : (List Body → List Body → Type 0) → Type 0
Gathers rule =
    (f n : List Body) → IsCovered f n → IsClosedBy rule n → (some : List Body) → AreAmong some f → rule f some
    → (y : Body) × Contains n y × ((x : Body) → Contains some x → Within x y)

pub shared_within : {a b c d : Body} → Within a c → Within b d → (e : Elem) → IsShared a.elements b.elements e → IsShared c.elements d.elements e
shared_within p q e h = (p.elements e h.0, q.elements e h.1)

shares_within : {a b c d : Body} → Within a c → Within b d → SharesTwo a.elements b.elements → SharesTwo c.elements d.elements
shares_within p q (a, b, s) = (a, b, record { differ = s.differ; a_shared = shared_within p q a s.a_shared; b_shared = shared_within p q b s.b_shared })

meets_within : (g : Graph) {a b c p q r : Body} → Within a p → Within b q → Within c r → MeetsInThree g a.elements b.elements c.elements → MeetsInThree g p.elements q.elements r.elements
meets_within g in_p in_q in_r (a, b, c, m) = (
  a,
  b,
  c,
  record {
    a_shared = shared_within in_p in_q a m.a_shared;
    b_shared = shared_within in_q in_r b m.b_shared;
    c_shared = shared_within in_r in_p c m.c_shared;
    differ = m.differ;
    not_all_lines = m.not_all_lines;
  },
)

pub two_among : (f : List Body) (a b : Body) → Contains f a → Contains f b → AreAmong (a ∷ b ∷ []) f
two_among f a b a_in b_in x h =
    elim (contains_cases a (b ∷ []) x h) [
      | inl is ↦ subst (λ z. Contains f z) is a_in
      | inr rest ↦ subst (λ z. Contains f z) (contains_one b x rest) b_in
    ]

three_among : (f : List Body) (a b c : Body) → Contains f a → Contains f b → Contains f c → AreAmong (a ∷ b ∷ c ∷ []) f
three_among f a b c a_in b_in c_in x h =
    elim (contains_cases a (b ∷ c ∷ []) x h) [
      | inl is ↦ subst (λ z. Contains f z) is a_in
      | inr rest ↦ two_among f b c b_in c_in x rest
    ]

module _ (g : Graph) (n : List Body) (closed : IsClosed g n) where
  -- in a closed family, bodies that share two elements are one
  pub one_of_two : (a b : Body) → Contains n a → Contains n b → SharesTwo a.elements b.elements → a ≡ b
  one_of_two a b a_in b_in shares =
      elim (body_settles a b) [ inl same ↦ same | inr other ↦ absurd (closed (a ∷ b ∷ []) (two_among n a b a_in b_in) (other, shares)) ]

  -- no other one has the elements of one that has two
  pub one_of_elements : (a b : Body) → Contains n a → Contains n b → (u : Elem) × (v : Elem) × (u ≢ v) × Contains a.elements u × Contains a.elements v → a.elements ≡ b.elements → a ≡ b
  one_of_elements a b a_in b_in (u, v, differ, u_in, v_in) same =
      one_of_two a b a_in b_in (
        u,
        v,
        record {
          differ = differ;
          a_shared = (u_in, subst (λ es. Contains es u) same u_in);
          b_shared = (v_in, subst (λ es. Contains es v) same v_in);
        },
      )

  -- and bodies that meet in three are one: where two of them are, they share two elements with the third
  one_of_three : (a b c : Body) → Contains n a → Contains n b → Contains n c → MeetsInThree g a.elements b.elements c.elements → (a ≡ b) × (b ≡ c)
  one_of_three a b c a_in b_in c_in (p, q, r, m) =
      elim (body_settles a b) [
        | inl a_b ↦ (
          a_b,
          one_of_two b c b_in c_in (
            q,
            r,
            record {
              differ = m.differ.1;
              a_shared = m.b_shared;
              b_shared = (subst (λ (z : Body). Contains z.elements r) a_b m.c_shared.1, m.c_shared.0);
            },
          ),
        )
        | inr a_not_b ↦ elim (body_settles b c) [
          | inl b_c ↦ (
            one_of_two a b a_in b_in (
              p,
              r,
              record {
                differ = λ e. m.differ.2 (sym e);
                a_shared = m.a_shared;
                b_shared = (m.c_shared.1, subst (λ (z : Body). Contains z.elements r) (sym b_c) m.c_shared.0);
              },
            ),
            b_c,
          )
          | inr b_not_c ↦ elim (body_settles c a) [
            | inl c_a ↦ (let a_b : a ≡ b = one_of_two a b a_in b_in (
              p,
              q,
              record {
                differ = m.differ.0;
                a_shared = m.a_shared;
                b_shared = (subst (λ (z : Body). Contains z.elements q) c_a m.b_shared.1, m.b_shared.0);
              },
            ) in (a_b, sym (c_a ∙ a_b)))
            | inr c_not_a ↦ absurd (closed (a ∷ b ∷ c ∷ []) (three_among n a b c a_in b_in c_in) (a_not_b, b_not_c, c_not_a, (p, q, r, m)))
          ]
        ]
      ]

  -- what may merge lies in one body of the closed family, where each lies in one
  pub one_around : (merged : List Body) → CanMerge g merged → IsCovered merged n → (y : Body) × Contains n y × ((x : Body) → Contains merged x → Within x y)
  one_around [] can covered = absurd can
  one_around (a ∷ []) can covered = absurd can
  one_around (a ∷ b ∷ []) can covered =
      let p = covered a (contains_head a (b ∷ [])) in
      let q = covered b (contains_later a (b ∷ []) b (contains_head b [])) in
      let same : p.0 ≡ q.0 = one_of_two p.0 q.0 p.1 q.1 (shares_within p.2 q.2 can.1) in (
        p.0,
        p.1,
        λ x h. elim (contains_cases a (b ∷ []) x h) [
          | inl is ↦ subst (λ z. Within z p.0) is p.2
          | inr rest ↦ subst (λ z. Within z p.0) (contains_one b x rest) (subst (λ z. Within b z) (sym same) q.2)
        ],
      )
  one_around (a ∷ b ∷ c ∷ []) can covered =
      let p = covered a (contains_head a (b ∷ c ∷ [])) in
      let q = covered b (contains_later a (b ∷ c ∷ []) b (contains_head b (c ∷ []))) in
      let r = covered c (contains_later a (b ∷ c ∷ []) c (contains_later b (c ∷ []) c (contains_head c []))) in
      let same = one_of_three p.0 q.0 r.0 p.1 q.1 r.1 (meets_within g p.2 q.2 r.2 can.3) in (
        p.0,
        p.1,
        λ x h. elim (contains_cases a (b ∷ c ∷ []) x h) [
          | inl is ↦ subst (λ z. Within z p.0) is p.2
          | inr rest ↦ elim (contains_cases b (c ∷ []) x rest) [
            | inl is ↦ subst (λ z. Within z p.0) is (subst (λ z. Within b z) (sym same.0) q.2)
            | inr last ↦ subst (λ z. Within z p.0) (contains_one c x last) (subst (λ z. Within c z) (sym (same.0 ∙ same.1)) r.2)
          ]
        ],
      )
  one_around (a ∷ b ∷ c ∷ d ∷ rest) can covered = absurd can

pub either_gathers : (g : Graph) → Gathers (either_rule g)
either_gathers g f n covered closed some among can = one_around g n closed some can (λ x h. covered x (among x h))

-- either it is among them, or it is not
pub among_settles : (bodies : List Body) (x : Body) → Contains bodies x ⊎ (¬ Contains bodies x)
among_settles [] x = inr (contains_none x)
among_settles (b ∷ bs) x =
    elim (body_settles b x) [
      | inl here ↦ inl (subst (λ z. Contains (b ∷ bs) z) here (contains_head b bs))
      | inr not_here ↦ elim (among_settles bs x) [
        | inl later ↦ inl (contains_later b bs x later)
        | inr not_later ↦ inr (λ h. elim (contains_cases b bs x h) [ inl here ↦ not_here here | inr later ↦ not_later later ])
      ]
    ]

covers_along : (f m n : List Body) → IsCovered f m → IsCovered m n → IsCovered f n
covers_along f m n p q x x_in =
    let y = p x x_in in
    let z = q y.0 y.1 in
    (z.0, z.1, within_along y.2 z.2)

covers_itself : (f : List Body) → IsCovered f f
covers_itself f x x_in = (x, x_in, within_itself x)

module _ (rule : List Body → List Body → Type 0) where
  -- what a merge leaves covers what was there
  step_covers : (old new : List Body) → StepBy rule old new → IsCovered old new
  step_covers old new m x x_in =
      elim (among_settles m.merged x) [
        | inl merged ↦ (join_all m.merged, (m.replaces (join_all m.merged)).1 (inl refl), each_within m.merged x merged)
        | inr stays_out ↦ (x, (m.replaces x).1 (inr (x_in, stays_out)), within_itself x)
      ]

  pub covers_by : (f n : List Body) → ReachBy rule f n → IsCovered f n
  covers_by f n reached =
      kept_by rule (λ m. IsCovered f m) (λ old new one covered. covers_along f old new covered (step_covers old new one)) f n reached (covers_itself f)

  pub family_by : NamesSome rule → (g : Graph) (f : List Body) → HasRisingEdges g → ReachBy rule (initial_bodies g) f → IsFamily f
  family_by some g f rises reached = kept_by rule IsFamily (step_family_by rule some) (initial_bodies g) f reached (initial_family g rises)

  module _ (gathers : Gathers rule) where
    -- a merge keeps a family inside a closed one
    pub step_inside : (n : List Body) → IsClosedBy rule n → (old new : List Body) → StepBy rule old new → IsCovered old n → IsCovered new n
    step_inside n closed old new m covered x x_in =
        elim ((m.replaces x).0 x_in) [
          | inr stayed ↦ covered x stayed.0
          | inl is ↦ (
              let around = gathers old n covered closed m.merged m.among m.can_merge in
              (around.0, around.1, subst (λ z. Within z around.0) (sym is) (whole_within m.merged around.2)))
        ]

    -- each body of what merging leads to lies in one of each normal family
    pub covered_by : (g : Graph) (f n : List Body) → ReachBy rule (initial_bodies g) f → IsNormalBy rule g n → IsCovered f n
    covered_by g f n reached normal =
        kept_by rule (λ m. IsCovered m n) (step_inside n normal.closed) (initial_bodies g) f reached (covers_by (initial_bodies g) n normal.reached)

    module _ (some : NamesSome rule) (g : Graph) (rises : HasRisingEdges g) where
      normal_inside : (one other : List Body) → IsNormalBy rule g one → IsNormalBy rule g other → (x : Body) → Contains one x → Contains other x
      normal_inside one other p q x x_in =
          let ours = family_by some g one rises p.reached in
          let theirs = family_by some g other rises q.reached in
          let y = covered_by g one other p.reached q x x_in in
          let z = covered_by g other one q.reached p y.0 y.1 in
          let k = ours.owns x x_in in
          let back : x ≡ z.0 = ours.apart x z.0 k.0 x_in z.1 k.1 (z.2.owned k.0 (y.2.owned k.0 k.1)) in
          let same : x ≡ y.0 = same_within x y.0 (ours.rising x x_in) (theirs.rising y.0 y.1) y.2 (subst (λ w. Within y.0 w) (sym back) z.2) in
          subst (λ w. Contains other w) (sym same) y.1

      pub same_by : (one other : List Body) → IsNormalBy rule g one → IsNormalBy rule g other → SameBodies one other
      same_by one other p q x = (normal_inside one other p q x, normal_inside other one q p x)

pub reach_covers : (g : Graph) (f n : List Body) → Reach g f n → IsCovered f n
reach_covers g = covers_by (either_rule g)

pub reached_family : (g : Graph) (f : List Body) → HasRisingEdges g → Reach g (initial_bodies g) f → IsFamily f
reached_family g = family_by (either_rule g) (some_merges g) g

pub normal_same : (g : Graph) (one other : List Body) → HasRisingEdges g → IsNormal g one → IsNormal g other → SameBodies one other
normal_same g one other rises p q = same_by (either_rule g) (either_gathers g) (some_merges g) g rises one other p q
