-- From each family merging leads to a closed one: whether some bodies may merge is settled, and each merge leaves fewer.
use Rattle.std.proofs.Common.{◌≢◌, inl, inr, ℕ, zero, suc, ◌+◌, ◌<◌, ◌≤◌, List, [], ◌∷◌, length, sym, subst, ◌∙◌, arith}
use Rattle.std.specs.Prelude.{◌↔◌, Contains}
use Rattle.sk_base.specs.declared.Graph.{Graph}
use Rattle.sk_base.proofs.Deciding.{Decided, both, denied, moved, some_in}
use Rattle.sk_base.proofs.Members.{contains_none, contains_head, contains_later, contains_cases}
use Rattle.sk_family.specs.Body.{Body, join_all}
use Rattle.sk_family.proofs.Bodies.{body_settles}
use Rattle.sk_family.specs.Rules.{MeetsInThree}
use Rattle.sk_rules.specs.Reach.{CanMerge, AreAmong, Step, Reach, IsClosed, stays, goes}
use Rattle.sk_rules.proofs.NormalForm.{two_among, among_settles}
use Rattle.sk_rules.proofs.SettledRules.{shares_decided, meets_decided}

-- what is left of a family without some of its bodies
record LeftOf (merged f : List Body) : Type 0 where
  left : List Body
  exactly : (x : Body) → Contains left x ↔ (Contains f x × ¬ Contains merged x)
  no_more : length left ≤ length f
  one_less : (a : Body) → Contains f a → Contains merged a → length left + 1 ≤ length f
  two_less : (a b : Body) → a ≢ b → Contains f a → Contains f b → Contains merged a → Contains merged b → length left + 2 ≤ length f

module _ (merged : List Body) where
  drops : (z : Body) (f : List Body) → Contains merged z → LeftOf merged f → LeftOf merged (z ∷ f)
  drops z f z_in rest = record {
    left = rest.left;
    exactly = λ x. (
      (λ h. (let was = (rest.exactly x).0 h in (contains_later z f x was.0, was.1))),
      (λ h. elim (contains_cases z f x h.0) [
        | inl here ↦ absurd (h.1 (subst (λ (w : Body). Contains merged w) here z_in))
        | inr later ↦ (rest.exactly x).1 (later, h.1)
      ]),
    );
    no_more = (let fewer = rest.no_more in omega arith);
    one_less = λ a a_f a_m. (let fewer = rest.no_more in omega arith);
    two_less = λ a b differ a_f b_f a_m b_m. elim (contains_cases z f a a_f) [
      | inl a_is ↦ elim (contains_cases z f b b_f) [
        | inl b_is ↦ absurd (differ (sym a_is ∙ b_is))
        | inr b_later ↦ (let fewer = rest.one_less b b_later b_m in omega arith)
      ]
      | inr a_later ↦ (let fewer = rest.one_less a a_later a_m in omega arith)
    ];
  }

  keeps : (z : Body) (f : List Body) → ¬ Contains merged z → LeftOf merged f → LeftOf merged (z ∷ f)
  keeps z f z_out rest = record {
    left = z ∷ rest.left;
    exactly = λ x. (
      (λ h. elim (contains_cases z rest.left x h) [
        | inl here ↦ subst (λ (w : Body). Contains (z ∷ f) w × ¬ Contains merged w) here (contains_head z f, z_out)
        | inr later ↦ (let was = (rest.exactly x).0 later in (contains_later z f x was.0, was.1))
      ]),
      (λ h. elim (contains_cases z f x h.0) [
        | inl here ↦ subst (λ (w : Body). Contains (z ∷ rest.left) w) here (contains_head z rest.left)
        | inr later ↦ contains_later z rest.left x ((rest.exactly x).1 (later, h.1))
      ]),
    );
    no_more = (let fewer = rest.no_more in omega arith);
    one_less = λ a a_f a_m. (let fewer = rest.one_less a (behind a a_f a_m) a_m in omega arith);
    two_less = λ a b differ a_f b_f a_m b_m. (let fewer = rest.two_less a b differ (behind a a_f a_m) (behind b b_f b_m) a_m b_m in omega arith);
  }
    where
      behind : (a : Body) → Contains (z ∷ f) a → Contains merged a → Contains f a
      behind a a_f a_m =
          elim (contains_cases z f a a_f) [
            | inl is ↦ absurd (z_out (subst (λ (w : Body). Contains merged w) (sym is) a_m))
            | inr later ↦ later
          ]

  left_of : (f : List Body) → LeftOf merged f
  left_of [] = record {
    left = [];
    exactly = λ x. ((λ h. absurd (contains_none x h)), (λ h. absurd (contains_none x h.0)));
    no_more = omega arith;
    one_less = λ a a_f a_m. absurd (contains_none a a_f);
    two_less = λ a b differ a_f b_f a_m b_m. absurd (contains_none a a_f);
  }
  left_of (z ∷ f) =
      elim (among_settles merged z) [
        | inl z_in ↦ drops z f z_in (left_of f)
        | inr z_out ↦ keeps z f z_out (left_of f)
      ]

module _ (g : Graph) where
  two_decided : (a b : Body) → Decided (CanMerge g (a ∷ b ∷ []))
  two_decided a b = both (denied (body_settles a b)) (shares_decided a.elements b.elements)

  three_decided : (a b c : Body) → Decided (CanMerge g (a ∷ b ∷ c ∷ []))
  three_decided a b c =
      moved (λ (h : ((a ≢ b) × (b ≢ c)) × ((c ≢ a) × MeetsInThree g a.elements b.elements c.elements)). (h.0.0, h.0.1, h.1.0, h.1.1))
      (λ (h : CanMerge g (a ∷ b ∷ c ∷ [])). ((h.0, h.1), (h.2, h.3)))
      (both (both (denied (body_settles a b)) (denied (body_settles b c))) (both (denied (body_settles c a)) (meets_decided g a.elements b.elements c.elements)))

  -- what may merge has two different bodies
  two_differ : (some : List Body) → CanMerge g some → (a : Body) × (b : Body) × (a ≢ b) × Contains some a × Contains some b
  two_differ [] can = absurd can
  two_differ (a ∷ []) can = absurd can
  two_differ (a ∷ b ∷ []) can = (a, b, can.0, contains_head a (b ∷ []), contains_later a (b ∷ []) b (contains_head b []))
  two_differ (a ∷ b ∷ c ∷ []) can = (a, b, can.0, contains_head a (b ∷ c ∷ []), contains_later a (b ∷ c ∷ []) b (contains_head b (c ∷ [])))
  two_differ (a ∷ b ∷ c ∷ d ∷ rest) can = absurd can

  module _ (f : List Body) where
    abbrev HasPair : Type 0
    HasPair = (a : Body) × Contains f a × ((b : Body) × Contains f b × CanMerge g (a ∷ b ∷ []))

    abbrev HasTriple : Type 0
    HasTriple = (a : Body) × Contains f a × ((b : Body) × Contains f b × ((c : Body) × Contains f c × CanMerge g (a ∷ b ∷ c ∷ [])))

    -- some of its bodies may merge
    abbrev CanGoOn : Type 0
    CanGoOn = (some : List Body) × AreAmong some f × CanMerge g some

    three_in : (a b c : Body) → Contains f a → Contains f b → Contains f c → AreAmong (a ∷ b ∷ c ∷ []) f
    three_in a b c a_in b_in c_in x h =
        elim (contains_cases a (b ∷ c ∷ []) x h) [
          | inl is ↦ subst (λ (z : Body). Contains f z) is a_in
          | inr rest ↦ two_among f b c b_in c_in x rest
        ]

    neither : ¬ HasPair → ¬ HasTriple → (some : List Body) → AreAmong some f → ¬ CanMerge g some
    neither no_pair no_triple [] among can = can
    neither no_pair no_triple (a ∷ []) among can = can
    neither no_pair no_triple (a ∷ b ∷ []) among can =
        no_pair (a, among a (contains_head a (b ∷ [])), (b, among b (contains_later a (b ∷ []) b (contains_head b [])), can))
    neither no_pair no_triple (a ∷ b ∷ c ∷ []) among can =
        no_triple (
          a,
          among a (contains_head a (b ∷ c ∷ [])),
          (
            b,
            among b (contains_later a (b ∷ c ∷ []) b (contains_head b (c ∷ []))),
            (c, among c (contains_later a (b ∷ c ∷ []) c (contains_later b (c ∷ []) c (contains_head c []))), can),
          ),
        )
    neither no_pair no_triple (a ∷ b ∷ c ∷ d ∷ rest) among can = can

    pair_decided : Decided HasPair
    pair_decided = some_in (λ a. (b : Body) × Contains f b × CanMerge g (a ∷ b ∷ [])) (λ a. some_in (λ b. CanMerge g (a ∷ b ∷ [])) (λ b. two_decided a b) f) f

    triple_decided : Decided HasTriple
    triple_decided =
        some_in (λ a. (b : Body) × Contains f b × ((c : Body) × Contains f c × CanMerge g (a ∷ b ∷ c ∷ []))) (λ a.
        some_in (λ b. (c : Body) × Contains f c × CanMerge g (a ∷ b ∷ c ∷ [])) (λ b.
        some_in (λ c. CanMerge g (a ∷ b ∷ c ∷ [])) (λ c. three_decided a b c) f) f) f

    on_decided : Decided CanGoOn
    on_decided =
        elim pair_decided [
          | inl (a, a_in, (b, b_in, can)) ↦ inl (a ∷ b ∷ [], two_among f a b a_in b_in, can)
          | inr no_pair ↦ elim triple_decided [
            | inl (a, a_in, (b, b_in, (c, c_in, can))) ↦ inl (a ∷ b ∷ c ∷ [], three_in a b c a_in b_in c_in, can)
            | inr no_triple ↦ inr (λ h. neither no_pair no_triple h.0 h.1 h.2)
          ]
        ]

    -- the family after a merge is shorter
    merge : CanGoOn → (after : List Body) × Step g f after × (length after < length f)
    merge (some, among, can) =
        let rest = left_of some f in
        let (a, b, differ, a_in, b_in) = two_differ some can in
        let fewer = rest.two_less a b differ (among a a_in) (among b b_in) a_in b_in in (
          join_all some ∷ rest.left,
          record {
            merged = some;
            can_merge = can;
            among = among;
            replaces = λ x. (
              (λ h. elim (contains_cases (join_all some) rest.left x h) [ inl here ↦ inl (sym here) | inr later ↦ inr ((rest.exactly x).0 later) ]),
              (λ h. elim h [
                | inl is ↦ subst (λ (w : Body). Contains (join_all some ∷ rest.left) w) (sym is) (contains_head (join_all some) rest.left)
                | inr stayed ↦ contains_later (join_all some) rest.left x ((rest.exactly x).1 stayed)
              ]),
            );
          },
          omega arith,
        )

  -- a closed family that merging leads to
  abbrev HasClosed : List Body → Type 0
  HasClosed f = (n : List Body) × Reach g f n × IsClosed g n

  closed_within : (most : ℕ) (f : List Body) → length f ≤ most → HasClosed f
  closed_within zero f few =
      elim (on_decided f) [
        | inr none ↦ (f, stays, λ some among can. none (some, among, can))
        | inl more ↦ (let less = (merge f more).2 in absurd (omega arith))
      ]
  closed_within (suc most) f few =
      elim (on_decided f) [
        | inr none ↦ (f, stays, λ some among can. none (some, among, can))
        | inl more ↦ (
            let (after, one, less) = merge f more in
            let (n, reach, closed) = closed_within most after (omega arith) in
            (n, goes one reach, closed))
      ]

  pub some_closed : (f : List Body) → (n : List Body) × Reach g f n × IsClosed g n
  some_closed f = closed_within (length f) f (omega arith)
