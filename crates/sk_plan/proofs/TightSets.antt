-- Where each merge on the way is of three bodies that meet once, elements of a body among which it owns just enough, 2k - 3
-- for k of them, are made one body by what lies among them alone.
use Rattle.std.proofs.Common.{◌≡◌, ◌⊎◌, inl, inr, ℕ, ◌+◌, ◌*◌, ◌≤◌, Bool, true, false, cond, List, [], ◌∷◌, length, refl, ap, sym, subst, arith}
use Rattle.std.specs.Prelude.{Contains, count_by, filter, ◌&&◌}
use Rattle.sk_base.specs.declared.ConId.{ConId}
use Rattle.sk_base.specs.declared.Elem.{Elem}
use Rattle.sk_base.specs.declared.Graph.{Graph}
use Rattle.sk_base.specs.declared.Kind.TheVariants.{Line}
use Rattle.sk_base.specs.declared.Node.{Node}
use Rattle.sk_base.specs.SoundGraph.{IsSoundGraph}
use Rattle.sk_base.specs.Numbering.{is_elem}
use Rattle.std.proofs.lemmas.List.Sums.{sum_by-cons}
use Rattle.sk_base.proofs.Members.{contains_none, contains_head, contains_later, contains_one, contains_cases, contains_mapped, mapped_from, contains_filtered, filtered_from}
use Rattle.sk_base.proofs.Numbers.{elem_found, found_elem}
use Rattle.sk_family.specs.Body.{Body, Start, starts, starting, initial_bodies, join_all}
use Rattle.sk_family.proofs.Bodies.{Within, each_within, holder_of}
use Rattle.sk_rules.specs.Excess.{weight, is_inside, is_owned, held, HasTwoEach}
use Rattle.sk_rules.specs.JustSome.{with_just}
use Rattle.sk_rules.specs.Reach.{CanMerge, Reach, IsNormal}
use Rattle.sk_rules.proofs.Counting.{inside_owned}
use Rattle.sk_rules.proofs.JustSome.{in_part}
use Rattle.sk_rules.proofs.NormalForm.{IsCovered, either_gathers, reach_covers}
use Rattle.sk_rules.proofs.SummedWeights.{weighs_one, weighs_by_one, found_inside, found_owned}
use Rattle.sk_tree.specs.Meeting.{MeetsOnce}
use Rattle.sk_plan.specs.Sparse.{weight_within, AreDistinct, AreIn, EachMeetsOnce, HoldsNoneTooMany}
use Rattle.sk_plan.proofs.Counts.{bit, count_within, count_all, sum_within}
use Rattle.sk_plan.proofs.JustEnough.{all_of_three, way_meets_once, none_too_many}
use Rattle.sk_plan.proofs.Sparsity.{whole, owned_weight, owned_among, own_count, Parts, OwnsFew, shared_few, parts, few_whole, initial_few, starts_weigh, kept_once}

-- what a constraint weighs that lies among the elements
abbrev pub inside_weight : List Elem → Start → ℕ
inside_weight xs s = cond (is_inside xs s) (weight s) 0

-- all elements of a constraint inside are there
inside_less : (xs : List Elem) (s : Start) → inside_weight xs s ≤ weight_within xs s
inside_less xs s = told (is_inside xs s) refl
  where
    told : (b : Bool) → is_inside xs s ≡ b → cond b (weight s) 0 ≤ weight_within xs s
    told true inside = (let all = count_all (is_elem xs) s.elements (λ e e_in. found_elem xs e (found_inside xs s inside e e_in)) in omega arith)
    told false outside = omega arith

cond_less : (b : Bool) (m n : ℕ) → m ≤ n → cond b m 0 ≤ cond b n 0
cond_less true m n less = less
cond_less false m n less = omega arith

-- few of what lies among them, where few weigh something there
few_inside : (g : Graph) (x : Body) → OwnsFew g x → (xs : List Elem) → AreDistinct xs → (owned_among g (inside_weight xs) x ≡ 0) ⊎ (owned_among g (inside_weight xs) x + 3 ≤ 2 * own_count x xs)
few_inside g x few xs distinct =
    let less = sum_within (owned_weight (inside_weight xs) x) (owned_weight (weight_within xs) x) (starts g) (λ s s_in. cond_less (is_owned x.owned s) (inside_weight xs s) (weight_within xs s) (inside_less xs s)) in
    elim (few xs distinct) [ inl none ↦ inl (omega arith) | inr some ↦ inr (omega arith) ]

-- where one test passes on as many as a weaker one, what passes the weaker one passes it
count_equal : {X : Type 0} (p q : X → Bool) (xs : List X) → ((y : X) → Contains xs y → p y ≡ true → q y ≡ true) → count_by q xs ≤ count_by p xs → (y : X) → Contains xs y → q y ≡ true → p y ≡ true
count_equal p q [] within most y y_in passes = absurd (contains_none y y_in)
count_equal p q (x ∷ xs) within most y y_in passes =
    let p_more = sum_by-cons (λ z. cond (p z) 1 0) x xs in
    let q_more = sum_by-cons (λ z. cond (q z) 1 0) x xs in
    let rest = count_within p q xs (λ z z_in. within z (contains_later x xs z z_in)) in
    let here = bit_less (p x) (q x) (within x (contains_head x xs)) in
    elim (contains_cases x xs y y_in) [
      | inl is ↦ (
          let one : bit (q x) ≡ 1 = ap bit (subst (λ z. q z ≡ true) (sym is) passes) in
          subst (λ z. p z ≡ true) is (full (p x) (omega arith)))
      | inr later ↦ count_equal p q xs (λ z z_in. within z (contains_later x xs z z_in)) (omega arith) y later passes
    ]
  where
    bit_less : (a b : Bool) → (a ≡ true → b ≡ true) → bit a ≤ bit b
    bit_less true b is = (let one : bit b ≡ 1 = ap bit (is refl) in omega arith)
    bit_less false b is = omega arith

    full : (b : Bool) → 1 ≤ bit b → b ≡ true
    full true some = refl
    full false some = absurd (omega (arith, some))

-- the body owns just enough among the elements
abbrev pub HasTight : Graph → List Elem → Body → Type 0
HasTight g xs x = owned_among g (inside_weight xs) x + 3 ≡ 2 * own_count x xs

-- Elements among which the body owns just enough: of the graph with constraints among which are all that lie among these,
-- each normal family has a body with those that are the body's.
abbrev pub IsMadeWithin : Graph → Body → Type 0
IsMadeWithin g x =
    (xs : List Elem) → AreDistinct xs → HasTight g xs x
    → (p : ConId → Bool) → ((s : Start) → Contains (starts g) s → is_inside xs s ≡ true → p s.number ≡ true)
    → (n : List Body) → IsNormal (with_just p g) n → (y : Body) × Contains n y × ((e : Elem) → Contains xs e → Contains x.elements e → Contains y.elements e)

-- at the start the one constraint lies among them
pub lone_inside : (g : Graph) → IsSoundGraph g → (s : Start) → Contains (starts g) s → (xs : List Elem) → AreDistinct xs → HasTight g xs (starting s) → is_inside xs s ≡ true
lone_inside g sound s s_in xs distinct tight = told (is_inside xs s) refl
  where
    odd : (k e : ℕ) → e ≡ 0 → e + 3 ≡ 2 * k → ⊥
    odd k e none is = omega arith

    told : (b : Bool) → is_inside xs s ≡ b → is_inside xs s ≡ true
    told true inside = inside
    told false outside =
        let most = starts_weigh g sound.edges_rise s s_in xs distinct (inside_weight xs) in
        let none : inside_weight xs s ≡ 0 = ap (λ b. cond b (weight s) 0) outside in
        absurd (odd (own_count (starting s) xs) (owned_among g (inside_weight xs) (starting s)) (omega arith) tight)

initial_made : (g : Graph) → IsSoundGraph g → (x : Body) → Contains (initial_bodies g) x → IsMadeWithin g x
initial_made g sound x x_in =
    let (s, s_in, is) = mapped_from starting (starts g) x x_in in
    subst (IsMadeWithin g) is (λ xs distinct tight p lets n normal. (
    let there = (in_part g p sound s).1 (s_in, lets s s_in (lone_inside g sound s s_in xs distinct tight)) in
    let around = reach_covers (with_just p g) (initial_bodies (with_just p g)) n normal.reached (starting s) (contains_mapped starting (starts (with_just p g)) s there) in
    (around.0, around.1, λ e e_xs e_s. around.2.elements e e_s)))

-- where three own few, and the whole just enough: each owns just enough and all shared elements are there, or one has all
tight_cases : (e ea eb ec k ka kb kc t : ℕ) → Parts e ea eb ec k ka kb kc t → t ≤ 3 → (ea ≡ 0) ⊎ (ea + 3 ≤ 2 * ka) → (eb ≡ 0) ⊎ (eb + 3 ≤ 2 * kb) → (ec ≡ 0) ⊎ (ec + 3 ≤ 2 * kc) → e + 3 ≡ 2 * k
    → ((ea + 3 ≡ 2 * ka) × (eb + 3 ≡ 2 * kb) × (ec + 3 ≡ 2 * kc) × (3 ≤ t)) ⊎ (((ea + 3 ≡ 2 * ka) × (k ≤ ka)) ⊎ (((eb + 3 ≡ 2 * kb) × (k ≤ kb)) ⊎ ((ec + 3 ≡ 2 * kc) × (k ≤ kc))))
tight_cases e ea eb ec k ka kb kc t p few ha hb hc tight =
    let h = p.constraints in let h1 = p.a_most in let h2 = p.b_most in let h3 = p.c_most in
    let h4 = p.ab_most in let h5 = p.bc_most in let h6 = p.ca_most in let h7 = p.all_most in
    elim ha [
      | inl a_none ↦ elim hb [
        | inl b_none ↦ elim hc [
          | inl c_none ↦ absurd (omega arith)
          | inr c_few ↦ inr (inr (inr (omega arith, omega arith)))
        ]
        | inr b_few ↦ elim hc [ inl c_none ↦ inr (inr (inl (omega arith, omega arith))) | inr c_few ↦ absurd (omega arith) ]
      ]
      | inr a_few ↦ elim hb [
        | inl b_none ↦ elim hc [ inl c_none ↦ inr (inl (omega arith, omega arith)) | inr c_few ↦ absurd (omega arith) ]
        | inr b_few ↦ elim hc [ inl c_none ↦ absurd (omega arith) | inr c_few ↦ inl (omega arith, omega arith, omega arith, omega arith) ]
      ]
    ]

-- how many of the elements both have
abbrev both_have : List Elem → Body → Body → ℕ
both_have xs x y = count_by (λ e. is_elem x.elements e && is_elem y.elements e) xs

module _ (g : Graph) (a b c : Body) (p q r : Elem) (once : MeetsOnce g a.elements b.elements c.elements p q r) (xs : List Elem) (distinct : AreDistinct xs) where
  abbrev shared_there : ℕ
  shared_there = both_have xs a b + (both_have xs b c + both_have xs c a)

  sums : Parts (owned_among g (inside_weight xs) (join_all (a ∷ b ∷ c ∷ []))) (owned_among g (inside_weight xs) a) (owned_among g (inside_weight xs) b) (owned_among g (inside_weight xs) c)
      (own_count (join_all (a ∷ b ∷ c ∷ [])) xs) (own_count a xs) (own_count b xs) (own_count c xs) shared_there
  unfolding whole
  sums = parts g a b c p q r once xs distinct (inside_weight xs) shared_there (omega arith)

  one_at_most : (x y : Body) (z : Elem) → ((e : Elem) → Contains x.elements e × Contains y.elements e → e ≡ z) → both_have xs x y ≤ 1
  one_at_most x y z only = elim (shared_few g a b c p q r once xs distinct (inside_weight xs) x y z only) [ inl none ↦ omega (arith, none) | inr one ↦ (let is = one.0 in omega (arith, is)) ]

  one_there : (x y : Body) (z : Elem) → ((e : Elem) → Contains x.elements e × Contains y.elements e → e ≡ z) → 1 ≤ both_have xs x y → Contains xs z
  one_there x y z only some = elim (shared_few g a b c p q r once xs distinct (inside_weight xs) x y z only) [ inl none ↦ absurd (omega (arith, none, some)) | inr one ↦ one.1 ]

-- those of the elements that a body has, as a body that owns nothing
abbrev those : List Elem → Body → Body
those xs x = record { elements = filter (is_elem x.elements) xs; owned = [] }

among_those : (xs : List Elem) (x : Body) (e : Elem) → Contains xs e → Contains x.elements e → Contains (those xs x).elements e
among_those xs x e e_xs e_x = contains_filtered (is_elem x.elements) xs e e_xs (found_elem x.elements e e_x)

has_those : (xs : List Elem) (x : Body) (e : Elem) → Contains (those xs x).elements e → Contains x.elements e
has_those xs x e h = elem_found x.elements e (filtered_from (is_elem x.elements) xs e h).1

in_those : (xs : List Elem) (x y : Body) → ((e : Elem) → Contains xs e → Contains x.elements e → Contains y.elements e) → Within (those xs x) y
in_those xs x y has = record {
  elements = λ e h. (let was = filtered_from (is_elem x.elements) xs e h in has e was.0 (elem_found x.elements e was.1));
  owned = λ k h. absurd (contains_none k h);
}

abbrev line_at : Elem → Node
line_at e = record { elem = e; kind = Line }

three_covered : (a b c : Body) (n : List Body) → (y : Body) × Contains n y × Within a y → (y : Body) × Contains n y × Within b y → (y : Body) × Contains n y × Within c y → IsCovered (a ∷ b ∷ c ∷ []) n
three_covered a b c n of_a of_b of_c = all_of_three (λ (x : Body). (y : Body) × Contains n y × Within x y) a b c of_a of_b of_c

-- an element of the whole is one of the three
pub of_three : (a b c : Body) (e : Elem) → Contains (join_all (a ∷ b ∷ c ∷ [])).elements e → Contains a.elements e ⊎ (Contains b.elements e ⊎ Contains c.elements e)
of_three a b c e e_in =
    let (x, x_in, x_e) = holder_of (a ∷ b ∷ c ∷ []) e e_in in
    elim (contains_cases a (b ∷ c ∷ []) x x_in) [
      | inl is ↦ inl (subst (λ (z : Body). Contains z.elements e) (sym is) x_e)
      | inr rest ↦ elim (contains_cases b (c ∷ []) x rest) [
        | inl is ↦ inr (inl (subst (λ (z : Body). Contains z.elements e) (sym is) x_e))
        | inr last ↦ inr (inr (subst (λ (z : Body). Contains z.elements e) (sym (contains_one c x last)) x_e))
      ]
    ]

-- one of them has all that the whole has, where it has as many
pub has_all : (some : List Body) (x : Body) → Contains some x → (xs : List Elem) → own_count (join_all some) xs ≤ own_count x xs → (e : Elem) → Contains xs e → Contains (join_all some).elements e → Contains x.elements e
has_all some x x_in xs most e e_xs e_in =
    elem_found x.elements e
    (count_equal (is_elem x.elements) (is_elem (join_all some).elements) xs
    (λ d d_in passes. found_elem (join_all some).elements d ((each_within some x x_in).elements d (elem_found x.elements d passes)))
    most e e_xs (found_elem (join_all some).elements e e_in))

module _ (g : Graph) (a b c : Body) (p q r : Elem) (once : MeetsOnce g a.elements b.elements c.elements p q r) (few_a : OwnsFew g a) (few_b : OwnsFew g b) (few_c : OwnsFew g c) where
  -- where the whole owns just enough, each of the three does and the shared elements are there, or one of them has all
  pub split_tight : (xs : List Elem) → AreDistinct xs → HasTight g xs (join_all (a ∷ b ∷ c ∷ []))
      → (((x : Body) → Contains (a ∷ b ∷ c ∷ []) x → HasTight g xs x) × Contains xs p × Contains xs q × Contains xs r)
      ⊎ ((x : Body) × Contains (a ∷ b ∷ c ∷ []) x × HasTight g xs x × (own_count (join_all (a ∷ b ∷ c ∷ [])) xs ≤ own_count x xs))
  split_tight xs distinct tight =
      let ab_few = one_at_most g a b c p q r once xs distinct a b p once.only_a in
      let bc_few = one_at_most g a b c p q r once xs distinct b c q once.only_b in
      let ca_few = one_at_most g a b c p q r once xs distinct c a r once.only_c in
      elim (tight_cases (owned_among g (inside_weight xs) (join_all (a ∷ b ∷ c ∷ []))) (owned_among g (inside_weight xs) a) (owned_among g (inside_weight xs) b) (owned_among g (inside_weight xs) c)
      (own_count (join_all (a ∷ b ∷ c ∷ [])) xs) (own_count a xs) (own_count b xs) (own_count c xs) (shared_there g a b c p q r once xs distinct)
      (sums g a b c p q r once xs distinct) (omega (arith, ab_few, bc_few, ca_few)) (few_inside g a few_a xs distinct) (few_inside g b few_b xs distinct) (few_inside g c few_c xs distinct) tight) [
        | inl (a_tight, b_tight, c_tight, all_three) ↦ inl (
          all_of_three (λ (x : Body). HasTight g xs x) a b c a_tight b_tight c_tight,
          one_there g a b c p q r once xs distinct a b p once.only_a (omega (arith, all_three, bc_few, ca_few)),
          one_there g a b c p q r once xs distinct b c q once.only_b (omega (arith, all_three, ab_few, ca_few)),
          one_there g a b c p q r once xs distinct c a r once.only_c (omega (arith, all_three, ab_few, bc_few)),
        )
        | inr (inl (a_tight, all)) ↦ inr (a, contains_head a (b ∷ c ∷ []), a_tight, all)
        | inr (inr (inl (b_tight, all))) ↦ inr (b, contains_later a (b ∷ c ∷ []) b (contains_head b (c ∷ [])), b_tight, all)
        | inr (inr (inr (c_tight, all))) ↦ inr (c, contains_later a (b ∷ c ∷ []) c (contains_later b (c ∷ []) c (contains_head c [])), c_tight, all)
      ]

module _ (g : Graph) (a b c : Body) (p q r : Elem) (once : MeetsOnce g a.elements b.elements c.elements p q r)
    (few_a : OwnsFew g a) (few_b : OwnsFew g b) (few_c : OwnsFew g c) (made_a : IsMadeWithin g a) (made_b : IsMadeWithin g b) (made_c : IsMadeWithin g c) where
  abbrev three : List Body
  three = a ∷ b ∷ c ∷ []

  -- what one of them that has all makes is what the whole makes
  one_makes : (x : Body) → Contains three x → IsMadeWithin g x → (xs : List Elem) → AreDistinct xs → owned_among g (inside_weight xs) x + 3 ≡ 2 * own_count x xs → own_count (join_all three) xs ≤ own_count x xs
      → (passes : ConId → Bool) → ((s : Start) → Contains (starts g) s → is_inside xs s ≡ true → passes s.number ≡ true)
      → (n : List Body) → IsNormal (with_just passes g) n → (y : Body) × Contains n y × ((e : Elem) → Contains xs e → Contains (join_all three).elements e → Contains y.elements e)
  one_makes x x_in made xs distinct tight most passes lets n normal =
      let (y, y_in, has) = made xs distinct tight passes lets n normal in
      (y, y_in, λ e e_xs e_in. has e e_xs (has_all three x x_in xs most e e_xs e_in))

  -- the three among the elements may merge as the three may
  those_merge : (h : Graph) (xs : List Elem) → h.nodes ≡ g.nodes → Contains xs p → Contains xs q → Contains xs r → CanMerge h (those xs a ∷ those xs b ∷ those xs c ∷ [])
  those_merge h xs nodes p_there q_there r_there =
      let tri = once.triangle in (
        (λ same. (
            let r_b = has_those xs b r (subst (λ (z : Body). Contains z.elements r) same (among_those xs a r r_there tri.c_shared.1)) in
            tri.differ.2 (once.only_a r (tri.c_shared.1, r_b)))),
        (λ same. (
            let p_c = has_those xs c p (subst (λ (z : Body). Contains z.elements p) same (among_those xs b p p_there tri.a_shared.1)) in
            tri.differ.2 (sym (once.only_c p (p_c, tri.a_shared.0))))),
        (λ same. (
            let q_a = has_those xs a q (subst (λ (z : Body). Contains z.elements q) same (among_those xs c q q_there tri.b_shared.1)) in
            tri.differ.0 (sym (once.only_a q (q_a, tri.b_shared.0))))),
        (
          p,
          q,
          r,
          record {
            a_shared = (among_those xs a p p_there tri.a_shared.0, among_those xs b p p_there tri.a_shared.1);
            b_shared = (among_those xs b q q_there tri.b_shared.0, among_those xs c q q_there tri.b_shared.1);
            c_shared = (among_those xs c r r_there tri.c_shared.0, among_those xs a r r_there tri.c_shared.1);
            differ = tri.differ;
            not_all_lines = subst (λ (ns : List Node). ¬ (Contains ns (line_at p) × Contains ns (line_at q) × Contains ns (line_at r))) (sym nodes) tri.not_all_lines;
          },
        ),
      )

  each_made : (x : Body) → Contains three x → IsMadeWithin g x
  each_made = all_of_three (IsMadeWithin g) a b c made_a made_b made_c

  made_whole : IsMadeWithin g (join_all three)
  made_whole xs distinct tight passes lets n normal =
      let theirs = those xs a ∷ those xs b ∷ those xs c ∷ [] in
      elim (split_tight g a b c p q r once few_a few_b few_c xs distinct tight) [
        | inl (each, p_there, q_there, r_there) ↦ (
            let (ya, ya_in, has_a) = made_a xs distinct (each a (contains_head a (b ∷ c ∷ []))) passes lets n normal in
            let (yb, yb_in, has_b) = made_b xs distinct (each b (contains_later a (b ∷ c ∷ []) b (contains_head b (c ∷ [])))) passes lets n normal in
            let (yc, yc_in, has_c) = made_c xs distinct (each c (contains_later a (b ∷ c ∷ []) c (contains_later b (c ∷ []) c (contains_head c [])))) passes lets n normal in
            let (y, y_in, around) = either_gathers (with_just passes g) theirs n
            (three_covered (those xs a) (those xs b) (those xs c) n (ya, ya_in, in_those xs a ya has_a) (yb, yb_in, in_those xs b yb has_b) (yc, yc_in, in_those xs c yc has_c))
            normal.closed theirs (λ x h. h) (those_merge (with_just passes g) xs refl p_there q_there r_there) in (
              y,
              y_in,
              λ e e_xs e_in. elim (of_three a b c e e_in) [
                | inl e_a ↦ (around (those xs a) (contains_head (those xs a) (those xs b ∷ those xs c ∷ []))).elements e (among_those xs a e e_xs e_a)
                | inr (inl e_b) ↦ (around (those xs b) (contains_later (those xs a) (those xs b ∷ those xs c ∷ []) (those xs b) (contains_head (those xs b) (those xs c ∷ [])))).elements e (among_those xs b e e_xs e_b)
                | inr (inr e_c) ↦ (around (those xs c) (contains_later (those xs a) (those xs b ∷ those xs c ∷ []) (those xs c) (contains_later (those xs b) (those xs c ∷ []) (those xs c) (contains_head (those xs c) [])))).elements e (among_those xs c e e_xs e_c)
              ],
            ))
        | inr (x, x_in, x_tight, all) ↦ one_makes x x_in (each_made x x_in) xs distinct x_tight all passes lets n normal
      ]

-- along a way on which each merge meets once
pub made_within : (g : Graph) → IsSoundGraph g → (f : List Body) (way : Reach g (initial_bodies g) f) → EachMeetsOnce way → (x : Body) → Contains f x → IsMadeWithin g x
made_within g sound f way once x x_in =
    (kept_once g (λ (z : Body). OwnsFew g z × IsMadeWithin g z)
    (λ a b c p q r meets of_a of_b of_c. (few_whole g a b c p q r meets of_a.0 of_b.0 of_c.0, made_whole g a b c p q r meets of_a.0 of_b.0 of_c.0 of_a.1 of_b.1 of_c.1))
    (initial_bodies g) f way once (λ z z_in. (initial_few g sound.edges_rise z z_in, initial_made g sound z z_in)) x x_in).1

-- what lies among elements of a body that owns all of it
pub held_tight : (g : Graph) (x : Body) (xs : List Elem) → AreIn xs x.elements → ((s : Start) → Contains (starts g) s → is_inside xs s ≡ true → Contains x.owned s.number) → held g xs + 3 ≡ 2 * length xs → HasTight g xs x
held_tight g x xs own owns tight =
    let all : own_count x xs ≡ length xs = count_all (is_elem x.elements) xs (λ e e_in. found_elem x.elements e (own e e_in)) in
    let one = weighs_by_one (is_inside xs) (starts g) in
    let most = sum_within (owned_weight (inside_weight xs) x) (λ s. weighs_one (is_inside xs s) s 0) (starts g) (λ s s_in. less (is_owned x.owned s) (is_inside xs s) s) in
    let least = sum_within (λ s. weighs_one (is_inside xs s) s 0) (owned_weight (inside_weight xs) x) (starts g)
    (λ s s_in. more (is_owned x.owned s) (is_inside xs s) s (λ inside. found_owned x.owned s (owns s s_in inside))) in
    omega (arith, all, one, most, least, tight)
  where
    less : (owned inside : Bool) (s : Start) → cond owned (cond inside (weight s) 0) 0 ≤ weighs_one inside s 0
    less true true s = omega arith
    less true false s = omega arith
    less false true s = omega arith
    less false false s = omega arith

    more : (owned inside : Bool) (s : Start) → (inside ≡ true → owned ≡ true) → weighs_one inside s 0 ≤ cond owned (cond inside (weight s) 0) 0
    more owned false s is = omega arith
    more true true s is = omega arith
    more false true s is = absurd (let never : false ≡ true = is refl in cc)

-- in a normal family with no constraint too many: elements of a body among which constraints weigh just enough
module _ (g : Graph) (f : List Body) (sound : IsSoundGraph g) (two : HasTwoEach g) (normal : IsNormal g f) (none : HoldsNoneTooMany g f) (x : Body) (x_in : Contains f x) where
  pub tight_made : (xs : List Elem) → AreDistinct xs → AreIn xs x.elements → held g xs + 3 ≡ 2 * length xs
      → (p : ConId → Bool) → ((s : Start) → Contains (starts g) s → is_inside xs s ≡ true → p s.number ≡ true)
      → (n : List Body) → IsNormal (with_just p g) n → (y : Body) × Contains n y × ((e : Elem) → Contains xs e → Contains y.elements e)
  tight_made xs distinct own tight p lets n normal_there =
      let all = held_tight g x xs own (λ s s_in inside. inside_owned g f two normal x x_in s s_in (λ e e_in. own e (found_inside xs s inside e e_in))) tight in
      let (y, y_in, has) = made_within g sound f normal.reached (way_meets_once g f normal.reached sound.edges_rise (none_too_many g f sound.edges_rise two normal none)) x x_in xs distinct all p lets n normal_there in
      (y, y_in, λ e e_in. has e e_in (own e e_in))
