-- Bodies that meet once make a sparse one where each is sparse, and have few angles where each has few.
use Rattle.std.proofs.Common.{◌≡◌, ◌≢◌, ◌⊎◌, inl, inr, ℕ, zero, suc, ◌+◌, ◌-◌, ◌*◌, ◌≤◌, true, cond, List, [], ◌∷◌, length, refl, ap, sym, subst, arith}
use Rattle.std.specs.Prelude.{Contains, AllPairs, count_by, sum_by, filter, ◌&&◌}
use Rattle.std.proofs.lemmas.List.Sums.{count_by-le-length, length-filter}
use Rattle.std.proofs.lemmas.Bool.{and_parts}
use Rattle.sk_base.specs.declared.Elem.{Elem}
use Rattle.sk_base.specs.declared.Graph.{Graph}
use Rattle.sk_base.specs.SoundGraph.{HasRisingEdges}
use Rattle.sk_base.specs.Numbering.{is_elem, elem_number}
use Rattle.sk_base.specs.Rising.{IsRising}
use Rattle.sk_family.specs.Body.{Body, Start, start_number, starts, join_all, starting, initial_bodies}
use Rattle.sk_base.proofs.Distinct.{no_longer}
use Rattle.sk_base.proofs.Members.{contains_head, contains_later, contains_one, contains_cases, contains_mapped, mapped_from, contains_filtered, filtered_from}
use Rattle.sk_base.proofs.Pairs.{pairs_filter}
use Rattle.sk_base.proofs.Unions.{which}
use Rattle.sk_family.proofs.Bodies.{each_within, owner_of}
use Rattle.sk_family.proofs.GraphStarts.{starts_rise, start_at, elements_rise}
use Rattle.sk_rules.specs.Reach.{Reach, stays, goes, IsNormal}
use Rattle.sk_rules.specs.Excess.{is_owned, HasTwoEach}
use Rattle.sk_rules.proofs.NormalForm.{reach_covers, one_of_two}
use Rattle.sk_rules.proofs.WeighedGraphs.{two_of}
use Rattle.sk_rules.proofs.SummedWeights.{owned_found, found_owned}
use Rattle.sk_base.proofs.Numbers.{elem_found, found_elem}
use Rattle.sk_tree.specs.Meeting.{MeetsOnce}
use Rattle.sk_plan.specs.Sparse.{weight_within, weight_among, angles_among, AreDistinct, AreIn, AreLines, AreThreeMeetingOnce, EachMeetsOnce, HoldsNoneTooMany, IsSparse, HasFewAngles, IsSparseAmong, HasFewAnglesAmong}
use Rattle.sk_plan.proofs.Counts.{count_within, count_two, count_three, count_single, sum_spread, sum_within, sum_single, one_of_three, if_owned}
use Rattle.sk_plan.proofs.Weighed.{one_at_most, some_joined, joins, angles_join}
use Rattle.sk_plan.proofs.JustEnough.{way_meets_once, none_too_many}

-- what the constraints that the body owns weigh together, by some weights
abbrev pub owned_weight : (Start → ℕ) → Body → Start → ℕ
owned_weight w x s = cond (is_owned x.owned s) (w s) 0

abbrev pub owned_among : Graph → (Start → ℕ) → Body → ℕ
owned_among g w x = sum_by (owned_weight w x) (starts g)

-- how many of the elements are its own
abbrev pub own_count : Body → List Elem → ℕ
own_count x xs = count_by (is_elem x.elements) xs

-- a sum of what three have, where each two share at most one, and the three at most t
pub record Parts (e ea eb ec k ka kb kc t : ℕ) : Type 0 where
  pub constraints : e ≤ ea + (eb + ec)
  pub a_most : ka ≤ k
  pub b_most : kb ≤ k
  pub c_most : kc ≤ k
  pub ab_most : ka + kb ≤ k + 1
  pub bc_most : kb + kc ≤ k + 1
  pub ca_most : kc + ka ≤ k + 1
  pub all_most : (ka + kb) + kc ≤ k + t

sparse_sum : (e ea eb ec k ka kb kc : ℕ) → Parts e ea eb ec k ka kb kc 3 → (ea ≡ 0) ⊎ (ea + 3 ≤ 2 * ka) → (eb ≡ 0) ⊎ (eb + 3 ≤ 2 * kb) → (ec ≡ 0) ⊎ (ec + 3 ≤ 2 * kc) → (e ≡ 0) ⊎ (e + 3 ≤ 2 * k)
sparse_sum e ea eb ec k ka kb kc p ha hb hc =
    let h = p.constraints in let h1 = p.a_most in let h2 = p.b_most in let h3 = p.c_most in
    let h4 = p.ab_most in let h5 = p.bc_most in let h6 = p.ca_most in let h7 = p.all_most in
    elim ha [
      | inl a_none ↦ elim hb [
        | inl b_none ↦ elim hc [
          | inl c_none ↦ inl (omega arith)
          | inr c_few ↦ inr (omega arith)
        ]
        | inr b_few ↦ elim hc [ inl c_none ↦ inr (omega arith) | inr c_few ↦ inr (omega arith) ]
      ]
      | inr a_few ↦ elim hb [
        | inl b_none ↦ elim hc [ inl c_none ↦ inr (omega arith) | inr c_few ↦ inr (omega arith) ]
        | inr b_few ↦ elim hc [ inl c_none ↦ inr (omega arith) | inr c_few ↦ inr (omega arith) ]
      ]
    ]

angle_sum : (e ea eb ec k ka kb kc : ℕ) → Parts e ea eb ec k ka kb kc 2 → (ea ≡ 0) ⊎ (ea + 1 ≤ ka) → (eb ≡ 0) ⊎ (eb + 1 ≤ kb) → (ec ≡ 0) ⊎ (ec + 1 ≤ kc) → (e ≡ 0) ⊎ (e + 1 ≤ k)
angle_sum e ea eb ec k ka kb kc p ha hb hc =
    let h = p.constraints in let h1 = p.a_most in let h2 = p.b_most in let h3 = p.c_most in
    let h4 = p.ab_most in let h5 = p.bc_most in let h6 = p.ca_most in let h7 = p.all_most in
    elim ha [
      | inl a_none ↦ elim hb [
        | inl b_none ↦ elim hc [
          | inl c_none ↦ inl (omega arith)
          | inr c_few ↦ inr (omega arith)
        ]
        | inr b_few ↦ elim hc [ inl c_none ↦ inr (omega arith) | inr c_few ↦ inr (omega arith) ]
      ]
      | inr a_few ↦ elim hb [
        | inl b_none ↦ elim hc [ inl c_none ↦ inr (omega arith) | inr c_few ↦ inr (omega arith) ]
        | inr b_few ↦ elim hc [ inl c_none ↦ inr (omega arith) | inr c_few ↦ inr (omega arith) ]
      ]
    ]

module _ (g : Graph) (a b c : Body) (p q r : Elem) (once : MeetsOnce g a.elements b.elements c.elements p q r) (xs : List Elem) (distinct : AreDistinct xs) (w : Start → ℕ) where
  unfoldable pub whole : Body
  whole = join_all (a ∷ b ∷ c ∷ [])

  inside_whole : (x : Body) → Contains (a ∷ b ∷ c ∷ []) x → (y : Elem) → is_elem x.elements y ≡ true → is_elem whole.elements y ≡ true
  unfolding whole
  inside_whole x x_in y y_x = found_elem (join_all (a ∷ b ∷ c ∷ [])).elements y ((each_within (a ∷ b ∷ c ∷ []) x x_in).elements y (elem_found x.elements y y_x))

  a_at : Contains (a ∷ b ∷ c ∷ []) a
  a_at = contains_head a (b ∷ c ∷ [])

  b_at : Contains (a ∷ b ∷ c ∷ []) b
  b_at = contains_later a (b ∷ c ∷ []) b (contains_head b (c ∷ []))

  c_at : Contains (a ∷ b ∷ c ∷ []) c
  c_at = contains_later a (b ∷ c ∷ []) c (contains_later b (c ∷ []) c (contains_head c []))

  -- each owned constraint was owned by one of the three
  spread : owned_among g w whole ≤ owned_among g w a + (owned_among g w b + owned_among g w c)
  unfolding whole
  spread =
      sum_spread (owned_weight w (join_all (a ∷ b ∷ c ∷ []))) (owned_weight w a) (owned_weight w b) (owned_weight w c) (starts g)
      (λ s s_in. one_of_three (is_owned (join_all (a ∷ b ∷ c ∷ [])).owned s) (is_owned a.owned s) (is_owned b.owned s) (is_owned c.owned s) (w s) (λ passes. (
      let owner = owner_of (a ∷ b ∷ c ∷ []) s.number (owned_found (join_all (a ∷ b ∷ c ∷ [])).owned s passes) in
      let told : is_owned owner.0.owned s ≡ true = found_owned owner.0.owned s owner.2 in
      elim (contains_cases a (b ∷ c ∷ []) owner.0 owner.1) [
        | inl is ↦ inl (subst (λ (z : Body). is_owned z.owned s ≡ true) (sym is) told)
        | inr rest ↦ elim (contains_cases b (c ∷ []) owner.0 rest) [
          | inl is ↦ inr (inl (subst (λ (z : Body). is_owned z.owned s ≡ true) (sym is) told))
          | inr last ↦ inr (inr (subst (λ (z : Body). is_owned z.owned s ≡ true) (sym (contains_one c owner.0 last)) told))
        ]
      ])))

  -- of the elements, only the shared one is in both of two
  pub shared_few : (x y : Body) (z : Elem) → ((e : Elem) → Contains x.elements e × Contains y.elements e → e ≡ z) → (count_by (λ e. is_elem x.elements e && is_elem y.elements e) xs ≡ 0) ⊎ ((count_by (λ e. is_elem x.elements e && is_elem y.elements e) xs ≡ 1) × Contains xs z × ((is_elem x.elements z && is_elem y.elements z) ≡ true))
  shared_few x y z only =
      count_single (λ e. is_elem x.elements e && is_elem y.elements e) z xs distinct
      (λ e e_in passes. (let parts = and_parts (is_elem x.elements e) (is_elem y.elements e) passes in
      only e (elem_found x.elements e parts.0, elem_found y.elements e parts.1)))

  shared_at_most : (x y : Body) (z : Elem) → ((e : Elem) → Contains x.elements e × Contains y.elements e → e ≡ z) → count_by (λ e. is_elem x.elements e && is_elem y.elements e) xs ≤ 1
  shared_at_most x y z only = elim (shared_few x y z only) [ inl none ↦ omega arith | inr one ↦ (let is = one.0 in omega arith) ]

  pair_most : (x y : Body) (z : Elem) → Contains (a ∷ b ∷ c ∷ []) x → Contains (a ∷ b ∷ c ∷ []) y → ((e : Elem) → Contains x.elements e × Contains y.elements e → e ≡ z) → own_count x xs + own_count y xs ≤ own_count whole xs + 1
  pair_most x y z x_in y_in only =
      let two = count_two (is_elem x.elements) (is_elem y.elements) (is_elem whole.elements) xs (inside_whole x x_in) (inside_whole y y_in) in
      let few = shared_at_most x y z only in
      omega arith

  pub parts : (t : ℕ) → count_by (λ e. is_elem a.elements e && is_elem b.elements e) xs + (count_by (λ e. is_elem b.elements e && is_elem c.elements e) xs + count_by (λ e. is_elem c.elements e && is_elem a.elements e) xs) ≤ t → Parts (owned_among g w whole) (owned_among g w a) (owned_among g w b) (owned_among g w c) (own_count whole xs) (own_count a xs) (own_count b xs) (own_count c xs) t
  parts t most = record {
    constraints = spread;
    a_most = count_within (is_elem a.elements) (is_elem whole.elements) xs (λ y y_in. inside_whole a a_at y);
    b_most = count_within (is_elem b.elements) (is_elem whole.elements) xs (λ y y_in. inside_whole b b_at y);
    c_most = count_within (is_elem c.elements) (is_elem whole.elements) xs (λ y y_in. inside_whole c c_at y);
    ab_most = pair_most a b p a_at b_at once.only_a;
    bc_most = pair_most b c q b_at c_at once.only_b;
    ca_most = pair_most c a r c_at a_at once.only_c;
    all_most = (
        let all = count_three (is_elem a.elements) (is_elem b.elements) (is_elem c.elements) (is_elem whole.elements) xs (inside_whole a a_at) (inside_whole b b_at) (inside_whole c c_at) in
        omega arith);
  }

  at_most_three : Parts (owned_among g w whole) (owned_among g w a) (owned_among g w b) (owned_among g w c) (own_count whole xs) (own_count a xs) (own_count b xs) (own_count c xs) 3
  at_most_three =
      let one = shared_at_most a b p once.only_a in
      let two = shared_at_most b c q once.only_b in
      let last = shared_at_most c a r once.only_c in
      parts 3 (omega arith)

  -- of lines, not all three shared elements are there
  at_most_two : AreLines g xs → Parts (owned_among g w whole) (owned_among g w a) (owned_among g w b) (owned_among g w c) (own_count whole xs) (own_count a xs) (own_count b xs) (own_count c xs) 2
  at_most_two lines =
      let one = shared_at_most a b p once.only_a in
      let two = shared_at_most b c q once.only_b in
      let last = shared_at_most c a r once.only_c in
      elim (shared_few a b p once.only_a) [
        | inl none ↦ parts 2 (omega arith)
        | inr p_there ↦ elim (shared_few b c q once.only_b) [
          | inl none ↦ parts 2 (omega arith)
          | inr q_there ↦ elim (shared_few c a r once.only_c) [
            | inl none ↦ parts 2 (omega arith)
            | inr r_there ↦ absurd (once.triangle.not_all_lines (lines p p_there.1, lines q q_there.1, lines r r_there.1))
          ]
        ]
      ]

-- what it owns weighs nothing among the elements, or little for how many of them are its own
abbrev pub OwnsFew : Graph → Body → Type 0
OwnsFew g x = (xs : List Elem) → AreDistinct xs → (owned_among g (weight_within xs) x ≡ 0) ⊎ (owned_among g (weight_within xs) x + 3 ≤ 2 * own_count x xs)

abbrev pub OwnsFewAngles : Graph → Body → Type 0
OwnsFewAngles g x = (xs : List Elem) → AreDistinct xs → AreLines g xs → (owned_among g (joins xs) x ≡ 0) ⊎ (owned_among g (joins xs) x + 1 ≤ own_count x xs)

pub few_whole : (g : Graph) (a b c : Body) (p q r : Elem) → MeetsOnce g a.elements b.elements c.elements p q r → OwnsFew g a → OwnsFew g b → OwnsFew g c → OwnsFew g (join_all (a ∷ b ∷ c ∷ []))
unfolding whole
few_whole g a b c p q r once few_a few_b few_c xs distinct =
    let w = weight_within xs in
    sparse_sum (owned_among g w (join_all (a ∷ b ∷ c ∷ []))) (owned_among g w a) (owned_among g w b) (owned_among g w c) (own_count (join_all (a ∷ b ∷ c ∷ [])) xs) (own_count a xs) (own_count b xs) (own_count c xs)
    (at_most_three g a b c p q r once xs distinct w) (few_a xs distinct) (few_b xs distinct) (few_c xs distinct)

few_angles_whole : (g : Graph) (a b c : Body) (p q r : Elem) → MeetsOnce g a.elements b.elements c.elements p q r → OwnsFewAngles g a → OwnsFewAngles g b → OwnsFewAngles g c → OwnsFewAngles g (join_all (a ∷ b ∷ c ∷ []))
unfolding whole
few_angles_whole g a b c p q r once few_a few_b few_c xs distinct lines =
    let w = joins xs in
    angle_sum (owned_among g w (join_all (a ∷ b ∷ c ∷ []))) (owned_among g w a) (owned_among g w b) (owned_among g w c) (own_count (join_all (a ∷ b ∷ c ∷ [])) xs) (own_count a xs) (own_count b xs) (own_count c xs)
    (at_most_two g a b c p q r once xs distinct w lines) (few_a xs distinct lines) (few_b xs distinct lines) (few_c xs distinct lines)

-- what holds of a body that three make by meeting once, where it holds of the three, holds to the end
module _ (g : Graph) (P : Body → Type 0) (makes : (a b c : Body) (p q r : Elem) → MeetsOnce g a.elements b.elements c.elements p q r → P a → P b → P c → P (join_all (a ∷ b ∷ c ∷ []))) where
  whole_keeps : (merged : List Body) → AreThreeMeetingOnce g merged → ((x : Body) → Contains merged x → P x) → P (join_all merged)
  whole_keeps [] once each = absurd once
  whole_keeps (a ∷ []) once each = absurd once
  whole_keeps (a ∷ b ∷ []) once each = absurd once
  whole_keeps (a ∷ b ∷ c ∷ []) (p, q, r, once) each =
      makes a b c p q r once
      (each a (contains_head a (b ∷ c ∷ [])))
      (each b (contains_later a (b ∷ c ∷ []) b (contains_head b (c ∷ []))))
      (each c (contains_later a (b ∷ c ∷ []) c (contains_later b (c ∷ []) c (contains_head c []))))
  whole_keeps (a ∷ b ∷ c ∷ d ∷ rest) once each = absurd once

  pub kept_once : (f n : List Body) (way : Reach g f n) → EachMeetsOnce way → ((x : Body) → Contains f x → P x) → (x : Body) → Contains n x → P x
  kept_once f n stays once each = each
  kept_once f n (goes {mid = mid} one rest) (here, later) each =
      kept_once mid n rest later (λ x x_in. elim ((one.replaces x).0 x_in) [
        | inl is ↦ subst P (sym is) (whole_keeps one.merged here (λ y h. each y (one.among y h)))
        | inr stayed ↦ each x stayed.0
      ])

-- at the start a body owns one constraint, and of its elements as many are there as it has there
module _ (g : Graph) (rises : HasRisingEdges g) (s : Start) (s_in : Contains (starts g) s) (xs : List Elem) (distinct : AreDistinct xs) where
  pub starts_weigh : (w : Start → ℕ) → owned_among g w (starting s) ≤ w s
  starts_weigh w =
      sum_single (is_owned (s.number ∷ [])) w s (starts g) (differ (starts g) (starts_rise g rises))
      (λ t t_in passes. start_at g rises t s t_in s_in (sym (contains_one s.number t.number (owned_found (s.number ∷ []) t passes))))
    where
      differ : (ss : List Start) → IsRising start_number ss → AllPairs (λ (t u : Start). t ≢ u) ss
      differ ss r i j d i_j j_len same = (let below = r i j d i_j j_len in let level = ap start_number same in absurd (omega arith))

  -- as many of its elements are among these as of these are its own
  starts_there : count_by (is_elem xs) s.elements ≤ own_count (starting s) xs
  starts_there =
      let mine = pairs_filter (λ (d e : Elem). d ≢ e) (is_elem xs) s.elements (differ (elements_rise g s s_in)) in
      let within = no_longer (filter (is_elem xs) s.elements) (filter (is_elem s.elements) xs) mine (λ e e_in. (
      let was = filtered_from (is_elem xs) s.elements e e_in in
      contains_filtered (is_elem s.elements) xs e (elem_found xs e was.1) (found_elem s.elements e was.0))) in
      let here = length-filter (is_elem xs) s.elements in
      let there = length-filter (is_elem s.elements) xs in
      omega arith
    where
      differ : IsRising elem_number s.elements → AllPairs (λ (d e : Elem). d ≢ e) s.elements
      differ r i j d i_j j_len same = (let below = r i j d i_j j_len in let level = ap elem_number same in absurd (omega arith))

few_of : (weight own there : ℕ) → weight ≤ 2 * there - 3 → there ≤ own → (weight ≡ 0) ⊎ (weight + 3 ≤ 2 * own)
few_of weight own there most less = elim (which weight 0) [ inl never ↦ inl (omega arith) | inr (inl none) ↦ inl none | inr (inr some) ↦ inr (omega arith) ]

pub initial_few : (g : Graph) → HasRisingEdges g → (x : Body) → Contains (initial_bodies g) x → OwnsFew g x
initial_few g rises x x_in =
    let found = mapped_from starting (starts g) x x_in in
    subst (OwnsFew g) found.2 (λ xs distinct.
    few_of (owned_among g (weight_within xs) (starting found.0)) (own_count (starting found.0) xs) (count_by (is_elem xs) found.0.elements)
    (starts_weigh g rises found.0 found.1 xs distinct (weight_within xs)) (starts_there g rises found.0 found.1 xs distinct))

few_angles_of_start : (weight own there n : ℕ) → n ≡ 2 * there - 3 → weight ≤ one_at_most n → there ≤ own → (weight ≡ 0) ⊎ (weight + 1 ≤ own)
few_angles_of_start weight own there zero is most less = inl (omega arith)
few_angles_of_start weight own there (suc n) is most less = inr (omega arith)

initial_few_angles : (g : Graph) → HasRisingEdges g → (x : Body) → Contains (initial_bodies g) x → OwnsFewAngles g x
initial_few_angles g rises x x_in =
    let found = mapped_from starting (starts g) x x_in in
    subst (OwnsFewAngles g) found.2 (λ xs distinct lines.
    few_angles_of_start (owned_among g (joins xs) (starting found.0)) (own_count (starting found.0) xs) (count_by (is_elem xs) found.0.elements) (weight_within xs found.0) refl
    (starts_weigh g rises found.0 found.1 xs distinct (joins xs)) (starts_there g rises found.0 found.1 xs distinct))

-- what has two elements among some weighs something there
two_there : (g : Graph) (s : Start) → Contains (starts g) s → (xs : List Elem) → weight_within xs s ≢ 0 → (a : Elem) × (b : Elem) × (a ≢ b) × (Contains s.elements a × Contains xs a) × (Contains s.elements b × Contains xs b)
two_there g s s_in xs some =
    let there = filter (is_elem xs) s.elements in
    let size = length-filter (is_elem xs) s.elements in
    let (a, b, differ, a_in, b_in) = two_of there (many (length there) (omega arith)) (pairs_filter (λ (d e : Elem). d ≢ e) (is_elem xs) s.elements (apart (elements_rise g s s_in))) in
    let a_was = filtered_from (is_elem xs) s.elements a a_in in
    let b_was = filtered_from (is_elem xs) s.elements b b_in in
    (a, b, differ, (a_was.0, elem_found xs a a_was.1), (b_was.0, elem_found xs b b_was.1))
  where
    many : (n : ℕ) → n ≡ count_by (is_elem xs) s.elements → 2 ≤ n
    many n is = elim (which 1 n) [ inl more ↦ omega arith | inr (inl one) ↦ absurd (some (omega arith)) | inr (inr none) ↦ absurd (some (omega arith)) ]

    apart : IsRising elem_number s.elements → AllPairs (λ (d e : Elem). d ≢ e) s.elements
    apart r i j d i_j j_len same = (let below = r i j d i_j j_len in let level = ap elem_number same in absurd (omega arith))

-- where each merge on the way is of three bodies that meet once, each body owns few
module _ (g : Graph) (rises : HasRisingEdges g) (f : List Body) (way : Reach g (initial_bodies g) f) (once : EachMeetsOnce way) (x : Body) (x_in : Contains f x) where
  owns_few : OwnsFew g x
  owns_few = kept_once g (OwnsFew g) (few_whole g) (initial_bodies g) f way once (initial_few g rises) x x_in

  owns_few_angles : OwnsFewAngles g x
  owns_few_angles = kept_once g (OwnsFewAngles g) (few_angles_whole g) (initial_bodies g) f way once (initial_few_angles g rises) x x_in

  -- where it owns each constraint that weighs something among them
  module _ (xs : List Elem) (distinct : AreDistinct xs) (own : (s : Start) → Contains (starts g) s → weight_within xs s ≢ 0 → Contains x.owned s.number) where
    all_owned : (w : Start → ℕ) → ((s : Start) → w s ≢ 0 → weight_within xs s ≢ 0) → sum_by w (starts g) ≤ owned_among g w x
    all_owned w some_weight =
        sum_within w (owned_weight w x) (starts g)
        (λ s s_in. if_owned (is_owned x.owned s) (w s) (λ some. found_owned x.owned s (own s s_in (some_weight s some))))

    pub sparse_of : 2 ≤ length xs → weight_among g xs + 3 ≤ 2 * length xs
    sparse_of two =
        let few = owns_few xs distinct in
        let all = all_owned (weight_within xs) (λ s some. some) in
        let most = count_by-le-length (is_elem x.elements) xs in
        elim few [ inl is_none ↦ omega arith | inr some ↦ omega arith ]

    pub few_angles_of : HasTwoEach g → AreLines g xs → 1 ≤ length xs → angles_among g xs + 1 ≤ length xs
    few_angles_of two lines one =
        let few = owns_few_angles xs distinct lines in
        let angles = angles_join g two xs in
        let all = all_owned (joins xs) (λ s. some_joined (weight_within xs s)) in
        let most = count_by-le-length (is_elem x.elements) xs in
        elim few [ inl is_none ↦ omega arith | inr some ↦ omega arith ]

  -- where it owns each constraint
  module _ (own : (s : Start) → Contains (starts g) s → Contains x.owned s.number) where
    pub sparse_all : IsSparse g
    sparse_all xs distinct = sparse_of xs distinct (λ s s_in some. own s s_in)

    pub few_angles_all : HasTwoEach g → HasFewAngles g
    few_angles_all two xs distinct = few_angles_of xs distinct (λ s s_in some. own s s_in) two

-- in a normal family with no constraint too many, each body is sparse
module _ (g : Graph) (f : List Body) (rises : HasRisingEdges g) (two : HasTwoEach g) (normal : IsNormal g f) (none : HoldsNoneTooMany g f) (x : Body) (x_in : Contains f x) where
  -- of elements of its own, the body owns each constraint that weighs something among them
  owned_inside : (xs : List Elem) → AreIn xs x.elements → (s : Start) → Contains (starts g) s → weight_within xs s ≢ 0 → Contains x.owned s.number
  owned_inside xs own s s_in some =
      let (a, b, differ, a_in, b_in) = two_there g s s_in xs some in
      let around = reach_covers g (initial_bodies g) f normal.reached (starting s) (contains_mapped starting (starts g) s s_in) in
      let same : x ≡ around.0 = one_of_two g f normal.closed x around.0 x_in around.1 (
        a,
        b,
        record {
          differ = differ;
          a_shared = (own a a_in.1, around.2.elements a a_in.0);
          b_shared = (own b b_in.1, around.2.elements b b_in.0);
        },
      ) in
      subst (λ (z : Body). Contains z.owned s.number) (sym same) (around.2.owned s.number (contains_head s.number []))

  each_once : EachMeetsOnce normal.reached
  each_once = way_meets_once g f normal.reached rises (none_too_many g f rises two normal none)

  pub sparse : IsSparseAmong g x.elements
  sparse xs distinct own = sparse_of g rises f normal.reached each_once x x_in xs distinct (owned_inside xs own)

  pub few_angles : HasFewAnglesAmong g x.elements
  few_angles xs distinct own = few_angles_of g rises f normal.reached each_once x x_in xs distinct (owned_inside xs own) two
