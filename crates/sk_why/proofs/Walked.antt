-- What is read off the tree of what is kept: it holds the elements together, and lies in each set that is as tight and has them.
use Rattle.std.proofs.Common.{◌≡◌, ◌≢◌, ◌⊎◌, inl, inr, ◌≤◌, Bool, true, false, cond, List, [], ◌∷◌, ◌++◌, refl, ap, sym, subst, ◌∙◌}
use Rattle.std.specs.Prelude.{Contains, filter, not}
use Rattle.std.specs.List.{list_all}
use Rattle.std.proofs.lemmas.Bool.{and_parts, and_from}
use Rattle.std.proofs.lemmas.List.Elements.{Contains-append_cases, Contains-append_left, Contains-append_right}
use Rattle.sk_base.specs.declared.ConId.{ConId}
use Rattle.sk_base.specs.declared.Elem.{Elem}
use Rattle.sk_base.specs.declared.Graph.{Graph}
use Rattle.sk_base.specs.SoundGraph.{IsSoundGraph}
use Rattle.sk_base.specs.Numbering.{is_elem}
use Rattle.sk_base.proofs.Members.{contains_none, contains_head, contains_later, contains_one, contains_cases, contains_mapped, contains_filtered, filtered_from}
use Rattle.sk_base.proofs.Numbers.{elem_found, found_elem}
use Rattle.sk_family.specs.Body.{Body, Start, starts, starting, initial_bodies, join_all}
use Rattle.sk_family.proofs.Bodies.{Within, each_within}
use Rattle.sk_family.proofs.GraphStarts.{start_at}
use Rattle.sk_rules.specs.Excess.{is_inside}
use Rattle.sk_rules.specs.JustSome.{with_just}
use Rattle.sk_rules.specs.Reach.{CanMerge, IsNormal}
use Rattle.sk_rules.proofs.JustSome.{in_part}
use Rattle.sk_rules.proofs.NormalForm.{IsCovered, either_gathers, reach_covers}
use Rattle.sk_tree.specs.Meeting.{MeetsOnce}
use Rattle.sk_plan.specs.Sparse.{AreDistinct, AreIn}
use Rattle.sk_plan.proofs.JustEnough.{all_of_three}
use Rattle.sk_plan.proofs.Joined.{once_back}
use Rattle.sk_plan.proofs.Sparsity.{OwnsFew, own_count, few_whole, initial_few}
use Rattle.sk_plan.proofs.TightSets.{HasTight, lone_inside, of_three, has_all, split_tight}
use Rattle.sk_spare.specs.Sparing.{HoldsAll}
use Rattle.sk_excess.specs.LeftOut.{HasConstraint}
use Rattle.sk_why.specs.declared.branches.Branch.{Branch}
use Rattle.sk_why.specs.declared.branches.Branch.TheVariants.{Leaf, Join'}
use Rattle.sk_why.specs.BranchOf.{elements_of, is_new, joined, IsGrownBy}
use Rattle.sk_why.specs.Needed.{names_all, third_of, is_further, share_of, needed}

-- all pass
all_tells : {X : Type 0} (p : X → Bool) (xs : List X) → list_all p xs ≡ true → (y : X) → Contains xs y → p y ≡ true
all_tells p [] passes y y_in = absurd (contains_none y y_in)
all_tells p (x ∷ xs) passes y y_in =
    let both = and_parts (p x) (list_all p xs) passes in
    elim (contains_cases x xs y y_in) [ inl same ↦ subst (λ z. p z ≡ true) same both.0 | inr later ↦ all_tells p xs both.1 y later ]

all_found : {X : Type 0} (p : X → Bool) (xs : List X) → ((y : X) → Contains xs y → p y ≡ true) → list_all p xs ≡ true
all_found p [] each = refl
all_found p (x ∷ xs) each = and_from (p x) (list_all p xs) (each x (contains_head x xs)) (all_found p xs (λ y y_in. each y (contains_later x xs y y_in)))

-- what is joined is of the one or of the other
joined_tells : (xs ys : List Elem) (e : Elem) → Contains (joined xs ys) e → Contains xs e ⊎ Contains ys e
joined_tells xs ys e h =
    elim (Contains-append_cases xs (filter (is_new xs) ys) e h) [ inl one ↦ inl one | inr other ↦ inr (filtered_from (is_new xs) ys e other).0 ]

joined_first : (xs ys : List Elem) (e : Elem) → Contains xs e → Contains (joined xs ys) e
joined_first xs ys e h = Contains-append_left xs (filter (is_new xs) ys) e h

joined_second : (xs ys : List Elem) (e : Elem) → Contains ys e → Contains (joined xs ys) e
joined_second xs ys e h = told (is_elem xs e) refl
  where
    told : (b : Bool) → is_elem xs e ≡ b → Contains (joined xs ys) e
    told true old = joined_first xs ys e (elem_found xs e old)
    told false new = Contains-append_right xs (filter (is_new xs) ys) e (contains_filtered (is_new xs) ys e h (ap not new))

-- what one of a join's trees has to hold together
of_share : (t : Branch) (u v : Elem) (es : List Elem) (e : Elem) → Contains (share_of t u v es) e → (u ≡ e) ⊎ ((v ≡ e) ⊎ (Contains es e × Contains (elements_of t) e))
of_share t u v es e e_in =
    elim (contains_cases u (v ∷ filter (is_further (elements_of t) u v) es) e e_in) [
      | inl same ↦ inl same
      | inr rest ↦ elim (contains_cases v (filter (is_further (elements_of t) u v) es) e rest) [
        | inl same ↦ inr (inl same)
        | inr later ↦ (
            let was = filtered_from (is_further (elements_of t) u v) es e later in
            inr (inr (was.0, elem_found (elements_of t) e (and_parts (is_elem (elements_of t) e) (not (is_elem (u ∷ v ∷ []) e)) was.1).0)))
      ]
    ]

first_of : (t : Branch) (u v : Elem) (es : List Elem) → Contains (share_of t u v es) u
first_of t u v es = contains_head u (v ∷ filter (is_further (elements_of t) u v) es)

second_of : (t : Branch) (u v : Elem) (es : List Elem) → Contains (share_of t u v es) v
second_of t u v es = contains_later u (v ∷ filter (is_further (elements_of t) u v) es) v (contains_head v (filter (is_further (elements_of t) u v) es))

in_share : (t : Branch) (u v : Elem) (es : List Elem) (e : Elem) → Contains es e → Contains (elements_of t) e → Contains (share_of t u v es) e
in_share t u v es e e_in named = told (is_elem (u ∷ v ∷ []) e) refl
  where
    further : List Elem
    further = filter (is_further (elements_of t) u v) es

    told : (b : Bool) → is_elem (u ∷ v ∷ []) e ≡ b → Contains (share_of t u v es) e
    told true among =
        elim (contains_cases u (v ∷ []) e (elem_found (u ∷ v ∷ []) e among)) [
          | inl same ↦ subst (λ (d : Elem). Contains (share_of t u v es) d) same (first_of t u v es)
          | inr rest ↦ subst (λ (d : Elem). Contains (share_of t u v es) d) (contains_one v e rest) (second_of t u v es)
        ]
    told false others =
        contains_later u (v ∷ further) e
        (contains_later v further e
        (contains_filtered (is_further (elements_of t) u v) es e e_in
        (and_from (is_elem (elements_of t) e) (not (is_elem (u ∷ v ∷ []) e)) (found_elem (elements_of t) e named) (ap not others))))

-- a set of elements, as a body that owns nothing
abbrev as_body : List Elem → Body
as_body es = record { elements = es; owned = [] }

module _ (g : Graph) (sound : IsSoundGraph g) where
  -- a tree names the elements of its body
  pub names_tell : (t : Branch) (x : Body) → IsGrownBy g t x → (e : Elem) → Contains (elements_of t) e → Contains x.elements e
  names_tell (Leaf twig) x (s, s_in, is, els, same) e h =
      subst (λ (b : Body). Contains b.elements e) (sym same) (subst (λ (es : List Elem). Contains es e) (sym els) h)
  names_tell (Join' p elements shared one two three) x (a, b, c, third, a_made, b_made, c_made, some, once, same, els) e h =
      subst (λ (z : Body). Contains z.elements e) (sym same)
      (elim (joined_tells (joined (elements_of one) (elements_of two)) (elements_of three) e (subst (λ (es : List Elem). Contains es e) els h)) [
        | inl both ↦ elim (joined_tells (elements_of one) (elements_of two) e both) [
          | inl here ↦ (each_within (c ∷ b ∷ a ∷ []) a (contains_later c (b ∷ a ∷ []) a (contains_later b (a ∷ []) a (contains_head a [])))).elements e (names_tell one a a_made e here)
          | inr here ↦ (each_within (c ∷ b ∷ a ∷ []) b (contains_later c (b ∷ a ∷ []) b (contains_head b (a ∷ [])))).elements e (names_tell two b b_made e here)
        ]
        | inr here ↦ (each_within (c ∷ b ∷ a ∷ []) c (contains_head c (b ∷ a ∷ []))).elements e (names_tell three c c_made e here)
      ])

  pub names_found : (t : Branch) (x : Body) → IsGrownBy g t x → (e : Elem) → Contains x.elements e → Contains (elements_of t) e
  names_found (Leaf twig) x (s, s_in, is, els, same) e e_in =
      subst (λ (es : List Elem). Contains es e) els (subst (λ (b : Body). Contains b.elements e) same e_in)
  names_found (Join' p elements shared one two three) x (a, b, c, third, a_made, b_made, c_made, some, once, same, els) e e_in =
      subst (λ (es : List Elem). Contains es e) (sym els)
      (elim (of_three c b a e (subst (λ (z : Body). Contains z.elements e) same e_in)) [
        | inl e_c ↦ joined_second (joined (elements_of one) (elements_of two)) (elements_of three) e (names_found three c c_made e e_c)
        | inr (inl e_b) ↦ joined_first (joined (elements_of one) (elements_of two)) (elements_of three) e (joined_second (elements_of one) (elements_of two) e (names_found two b b_made e e_b))
        | inr (inr e_a) ↦ joined_first (joined (elements_of one) (elements_of two)) (elements_of three) e (joined_first (elements_of one) (elements_of two) e (names_found one a a_made e e_a))
      ])

  -- where it names all of some elements, its body has them
  pub all_named : (t : Branch) (x : Body) → IsGrownBy g t x → (es : List Elem) → names_all t es ≡ true → AreIn es x.elements
  all_named t x made es all e e_in = names_tell t x made e (elem_found (elements_of t) e (all_tells (λ (d : Elem). is_elem (elements_of t) d) es all e e_in))

  pub not_all_named : (t : Branch) (x : Body) → IsGrownBy g t x → (es : List Elem) → names_all t es ≡ false → ¬ AreIn es x.elements
  not_all_named t x made es fails has =
      let all : names_all t es ≡ true = all_found (λ (d : Elem). is_elem (elements_of t) d) es (λ e e_in. found_elem (elements_of t) e (names_found t x made e (has e e_in))) in
      absurd (cc)

  -- what a tree of a join has to hold together are elements of its body
  pub share_in : (t : Branch) (x : Body) → IsGrownBy g t x → (u v : Elem) → Contains x.elements u → Contains x.elements v → (es : List Elem) → AreIn (share_of t u v es) x.elements
  share_in t x made u v u_in v_in es e e_in =
      elim (of_share t u v es e e_in) [
        | inl same ↦ subst (λ (d : Elem). Contains x.elements d) same u_in
        | inr (inl same) ↦ subst (λ (d : Elem). Contains x.elements d) same v_in
        | inr (inr later) ↦ names_tell t x made e later.1
      ]

  module _ (p : ConId → Bool) (n : List Body) (normal : IsNormal (with_just p g) n) where
    -- three that have what is theirs together have all together
    three_together : (a b c : Body) (u v w : Elem) → MeetsOnce g a.elements b.elements c.elements u v w → (ds bs cs : List Elem) → AreIn ds a.elements → AreIn bs b.elements → AreIn cs c.elements
        → Contains ds u → Contains ds w → Contains bs u → Contains bs v → Contains cs v → Contains cs w → HoldsAll n ds → HoldsAll n bs → HoldsAll n cs
        → (y : Body) × Contains n y × AreIn ds y.elements × AreIn bs y.elements × AreIn cs y.elements
    three_together a b c u v w once ds bs cs ds_in bs_in cs_in ds_u ds_w bs_u bs_v cs_v cs_w (ya, ya_in, ya_has) (yb, yb_in, yb_has) (yc, yc_in, yc_has) =
        let theirs = as_body ds ∷ as_body bs ∷ as_body cs ∷ [] in
        let tri = once.triangle in
        let covered : IsCovered theirs n = all_of_three (λ (x : Body). (y : Body) × Contains n y × Within x y) (as_body ds) (as_body bs) (as_body cs)
        (ya, ya_in, record { elements = ya_has; owned = λ k h. absurd (contains_none k h) })
        (yb, yb_in, record { elements = yb_has; owned = λ k h. absurd (contains_none k h) })
        (yc, yc_in, record { elements = yc_has; owned = λ k h. absurd (contains_none k h) }) in
        let merge : CanMerge (with_just p g) theirs = (
          (λ same. tri.differ.2 (once.only_a w (ds_in w ds_w, bs_in w (subst (λ (x : Body). Contains x.elements w) same ds_w)))),
          (λ same. tri.differ.2 (sym (once.only_c u (cs_in u (subst (λ (x : Body). Contains x.elements u) same bs_u), ds_in u ds_u)))),
          (λ same. tri.differ.0 (sym (once.only_a v (ds_in v (subst (λ (x : Body). Contains x.elements v) same cs_v), bs_in v bs_v)))),
          (u, v, w, record { a_shared = (ds_u, bs_u); b_shared = (bs_v, cs_v); c_shared = (cs_w, ds_w); differ = tri.differ; not_all_lines = tri.not_all_lines }),
        ) in
        let (y, y_in, around) = either_gathers (with_just p g) theirs n covered normal.closed theirs (λ x h. h) merge in (
          y,
          y_in,
          (around (as_body ds) (contains_head (as_body ds) (as_body bs ∷ as_body cs ∷ []))).elements,
          (around (as_body bs) (contains_later (as_body ds) (as_body bs ∷ as_body cs ∷ []) (as_body bs) (contains_head (as_body bs) (as_body cs ∷ [])))).elements,
          (around (as_body cs) (contains_later (as_body ds) (as_body bs ∷ as_body cs ∷ []) (as_body cs) (contains_later (as_body bs) (as_body cs ∷ []) (as_body cs) (contains_head (as_body cs) [])))).elements,
        )

    -- where all that is needed passes, one cluster has the elements
    abbrev NeedsJust : Branch → Body → Type 0
    NeedsJust t x = (es : List Elem) → AreIn es x.elements → ((k : ConId) → Contains (needed t es) k → p k ≡ true) → HoldsAll n es

    pub needed_together : (t : Branch) (x : Body) → IsGrownBy g t x → NeedsJust t x
    needed_together (Leaf twig) x (s, s_in, is, els, same) es within lets =
        let there = (in_part g p sound s).1 (s_in, subst (λ (i : ConId). p i ≡ true) (sym is) (lets twig.number (contains_head twig.number []))) in
        let (y, y_in, around) = reach_covers (with_just p g) (initial_bodies (with_just p g)) n normal.reached (starting s) (contains_mapped starting (starts (with_just p g)) s there) in
        (y, y_in, λ e e_in. around.elements e (subst (λ (b : Body). Contains b.elements e) same (within e e_in)))
    needed_together (Join' q elements shared one two three) x (a, b, c, third, a_made, b_made, c_made, some, once, same, els) es within lets =
        told (needed_together one a a_made) (needed_together two b b_made) (needed_together three c c_made) (names_all one es) (names_all two es) (names_all three es) refl refl refl lets
      where
        w : Elem
        w = third_of shared.a shared.c

        third_is : w ≡ third
        third_is = ap (λ o. third_of shared.a o) some

        of_one : List Elem
        of_one = share_of one shared.a w es

        of_two : List Elem
        of_two = share_of two shared.a shared.b es

        of_last : List Elem
        of_last = share_of three shared.b w es

        all_three : List ConId
        all_three = needed one of_one ++ (needed two of_two ++ needed three of_last)

        meets : MeetsOnce g a.elements b.elements c.elements shared.a shared.b w
        meets = subst (λ (d : Elem). MeetsOnce g a.elements b.elements c.elements shared.a shared.b d) (sym third_is) once

        told : NeedsJust one a → NeedsJust two b → NeedsJust three c → (i j k : Bool) → names_all one es ≡ i → names_all two es ≡ j → names_all three es ≡ k
            → ((m : ConId) → Contains (cond i (needed one es) (cond j (needed two es) (cond k (needed three es) all_three))) m → p m ≡ true) → HoldsAll n es
        told in_a in_b in_c true j k i_is j_is k_is lets = in_a es (all_named one a a_made es i_is) lets
        told in_a in_b in_c false true k i_is j_is k_is lets = in_b es (all_named two b b_made es j_is) lets
        told in_a in_b in_c false false true i_is j_is k_is lets = in_c es (all_named three c c_made es k_is) lets
        told in_a in_b in_c false false false i_is j_is k_is lets =
            let tri = meets.triangle in
            let one_in = share_in one a a_made shared.a w tri.a_shared.0 tri.c_shared.1 es in
            let two_in = share_in two b b_made shared.a shared.b tri.a_shared.1 tri.b_shared.0 es in
            let last_in = share_in three c c_made shared.b w tri.b_shared.1 tri.c_shared.0 es in
            let (y, y_in, has_one, has_two, has_last) = three_together a b c shared.a shared.b w meets of_one of_two of_last one_in two_in last_in
            (first_of one shared.a w es) (second_of one shared.a w es) (first_of two shared.a shared.b es) (second_of two shared.a shared.b es) (first_of three shared.b w es) (second_of three shared.b w es)
            (in_a of_one one_in (λ m m_in. lets m (Contains-append_left (needed one of_one) (needed two of_two ++ needed three of_last) m m_in)))
            (in_b of_two two_in (λ m m_in. lets m (Contains-append_right (needed one of_one) (needed two of_two ++ needed three of_last) m (Contains-append_left (needed two of_two) (needed three of_last) m m_in))))
            (in_c of_last last_in (λ m m_in. lets m (Contains-append_right (needed one of_one) (needed two of_two ++ needed three of_last) m (Contains-append_right (needed two of_two) (needed three of_last) m m_in)))) in (
              y,
              y_in,
              λ e e_in. elim (of_three c b a e (subst (λ (z : Body). Contains z.elements e) same (within e e_in))) [
                | inl e_c ↦ has_last e (in_share three shared.b w es e e_in (names_found three c c_made e e_c))
                | inr (inl e_b) ↦ has_two e (in_share two shared.a shared.b es e e_in (names_found two b b_made e e_b))
                | inr (inr e_a) ↦ has_one e (in_share one shared.a w es e e_in (names_found one a a_made e e_a))
              ],
            )

-- these are constraints
abbrev AllConstraints : Graph → List ConId → Type 0
AllConstraints g ks = (k : ConId) → Contains ks k → HasConstraint g k

-- what is needed are constraints
pub needed_there : (g : Graph) (t : Branch) (x : Body) → IsGrownBy g t x → (es : List Elem) → AllConstraints g (needed t es)
needed_there g (Leaf twig) x (s, s_in, is, els, same) es k h = (s, s_in, is ∙ contains_one twig.number k h)
needed_there g (Join' p elements shared one two three) x (a, b, c, third, a_made, b_made, c_made, some, once, same, els) es k h =
    told (needed_there g one a a_made) (needed_there g two b b_made) (needed_there g three c c_made) (names_all one es) (names_all two es) (names_all three es) k h
  where
    of_one : List Elem
    of_one = share_of one shared.a (third_of shared.a shared.c) es

    of_two : List Elem
    of_two = share_of two shared.a shared.b es

    of_last : List Elem
    of_last = share_of three shared.b (third_of shared.a shared.c) es

    told : ((ds : List Elem) → AllConstraints g (needed one ds)) → ((ds : List Elem) → AllConstraints g (needed two ds)) → ((ds : List Elem) → AllConstraints g (needed three ds))
        → (i j m : Bool) → AllConstraints g (cond i (needed one es) (cond j (needed two es) (cond m (needed three es) (needed one of_one ++ (needed two of_two ++ needed three of_last)))))
    told in_a in_b in_c true j m k h = in_a es k h
    told in_a in_b in_c false true m k h = in_b es k h
    told in_a in_b in_c false false true k h = in_c es k h
    told in_a in_b in_c false false false k h =
        elim (Contains-append_cases (needed one of_one) (needed two of_two ++ needed three of_last) k h) [
          | inl first ↦ in_a of_one k first
          | inr rest ↦ elim (Contains-append_cases (needed two of_two) (needed three of_last) k rest) [ inl second ↦ in_b of_two k second | inr last ↦ in_c of_last k last ]
        ]

module _ (g : Graph) (sound : IsSoundGraph g) where
  -- the body of a tree owns few
  few_of_tree : (t : Branch) (x : Body) → IsGrownBy g t x → OwnsFew g x
  few_of_tree (Leaf twig) x (s, s_in, is, els, same) = subst (λ (b : Body). OwnsFew g b) (sym same) (initial_few g sound.edges_rise (starting s) (contains_mapped starting (starts g) s s_in))
  few_of_tree (Join' p elements shared one two three) x (a, b, c, third, a_made, b_made, c_made, some, once, same, els) =
      subst (λ (z : Body). OwnsFew g z) (sym same)
      (few_whole g c b a shared.b shared.a third (once_back g a.elements b.elements c.elements shared.a shared.b third once) (few_of_tree three c c_made) (few_of_tree two b b_made) (few_of_tree one a a_made))

  module _ (xs : List Elem) (distinct : AreDistinct xs) where
    -- what is needed lies inside of each set that is as tight and has the elements
    abbrev NeedsInside : Branch → Body → Type 0
    NeedsInside t x =
        HasTight g xs x → (es : List Elem) → AreIn es xs → AreIn es x.elements → (d e : Elem) → d ≢ e → Contains es d → Contains es e
        → (k : ConId) → Contains (needed t es) k → (s : Start) → Contains (starts g) s → s.number ≡ k → is_inside xs s ≡ true

    pub needed_inside : (t : Branch) (x : Body) → IsGrownBy g t x → NeedsInside t x
    needed_inside (Leaf twig) x (z, z_in, is, els, same) tight es there within d e differ d_in e_in k k_in s s_in number =
        let one : z ≡ s = start_at g sound.edges_rise z s z_in s_in (is ∙ sym (number ∙ sym (contains_one twig.number k k_in))) in
        subst (λ (y : Start). is_inside xs y ≡ true) one (lone_inside g sound z z_in xs distinct (subst (λ (y : Body). HasTight g xs y) same tight))
    needed_inside (Join' q elements shared one two three) x (a, b, c, third, a_made, b_made, c_made, some, once, same, els) tight es there within d e differ d_in e_in k k_in s s_in number =
        told (needed_inside one a a_made) (needed_inside two b b_made) (needed_inside three c c_made) (names_all one es) (names_all two es) (names_all three es) refl refl refl k_in
      where
        w : Elem
        w = third_of shared.a shared.c

        third_is : w ≡ third
        third_is = ap (λ o. third_of shared.a o) some

        of_one : List Elem
        of_one = share_of one shared.a w es

        of_two : List Elem
        of_two = share_of two shared.a shared.b es

        of_last : List Elem
        of_last = share_of three shared.b w es

        all_three : List ConId
        all_three = needed one of_one ++ (needed two of_two ++ needed three of_last)

        meets : MeetsOnce g a.elements b.elements c.elements shared.a shared.b w
        meets = subst (λ (z : Elem). MeetsOnce g a.elements b.elements c.elements shared.a shared.b z) (sym third_is) once

        meets_back : MeetsOnce g c.elements b.elements a.elements shared.b shared.a w
        meets_back = once_back g a.elements b.elements c.elements shared.a shared.b w meets

        whole_tight : HasTight g xs (join_all (c ∷ b ∷ a ∷ []))
        whole_tight = subst (λ (y : Body). HasTight g xs y) same tight

        halves : (((y : Body) → Contains (c ∷ b ∷ a ∷ []) y → HasTight g xs y) × Contains xs shared.b × Contains xs shared.a × Contains xs w)
            ⊎ ((y : Body) × Contains (c ∷ b ∷ a ∷ []) y × HasTight g xs y × (own_count (join_all (c ∷ b ∷ a ∷ [])) xs ≤ own_count y xs))
        halves = split_tight g c b a shared.b shared.a w meets_back (few_of_tree three c c_made) (few_of_tree two b b_made) (few_of_tree one a a_made) xs distinct whole_tight

        -- one that has all that the whole has
        all_in : (y : Body) → Contains (c ∷ b ∷ a ∷ []) y → own_count (join_all (c ∷ b ∷ a ∷ [])) xs ≤ own_count y xs → AreIn es y.elements
        all_in y y_in most z z_in = has_all (c ∷ b ∷ a ∷ []) y y_in xs most z (there z z_in) (subst (λ (v : Body). Contains v.elements z) same (within z z_in))

        -- two of the three share one element
        alike : (y z : Body) → Contains (c ∷ b ∷ a ∷ []) y → Contains (c ∷ b ∷ a ∷ []) z → (y ≡ z) ⊎ ((o : Elem) × ((v : Elem) → Contains y.elements v → Contains z.elements v → v ≡ o))
        alike y z y_in z_in = by (side y y_in) (side z z_in)
          where
            side : (v : Body) → Contains (c ∷ b ∷ a ∷ []) v → (c ≡ v) ⊎ ((b ≡ v) ⊎ (a ≡ v))
            side v h = elim (contains_cases c (b ∷ a ∷ []) v h) [
              | inl is ↦ inl is
              | inr rest ↦ elim (contains_cases b (a ∷ []) v rest) [ inl is ↦ inr (inl is) | inr last ↦ inr (inr (contains_one a v last)) ]
            ]

            has : {v u : Body} → v ≡ u → (i : Elem) → Contains u.elements i → Contains v.elements i
            has is i h = subst (λ (j : Body). Contains j.elements i) (sym is) h

            by : (c ≡ y) ⊎ ((b ≡ y) ⊎ (a ≡ y)) → (c ≡ z) ⊎ ((b ≡ z) ⊎ (a ≡ z)) → (y ≡ z) ⊎ ((o : Elem) × ((v : Elem) → Contains y.elements v → Contains z.elements v → v ≡ o))
            by (inl c_y) (inl c_z) = inl (sym c_y ∙ c_z)
            by (inl c_y) (inr (inl b_z)) = inr (shared.b, λ v v_y v_z. meets.only_b v (has b_z v v_z, has c_y v v_y))
            by (inl c_y) (inr (inr a_z)) = inr (w, λ v v_y v_z. meets.only_c v (has c_y v v_y, has a_z v v_z))
            by (inr (inl b_y)) (inl c_z) = inr (shared.b, λ v v_y v_z. meets.only_b v (has b_y v v_y, has c_z v v_z))
            by (inr (inl b_y)) (inr (inl b_z)) = inl (sym b_y ∙ b_z)
            by (inr (inl b_y)) (inr (inr a_z)) = inr (shared.a, λ v v_y v_z. meets.only_a v (has a_z v v_z, has b_y v v_y))
            by (inr (inr a_y)) (inl c_z) = inr (w, λ v v_y v_z. meets.only_c v (has c_z v v_z, has a_y v v_y))
            by (inr (inr a_y)) (inr (inl b_z)) = inr (shared.a, λ v v_y v_z. meets.only_a v (has a_y v v_y, has b_z v v_z))
            by (inr (inr a_y)) (inr (inr a_z)) = inl (sym a_y ∙ a_z)

        -- the one that names all of the elements is as tight
        one_tight : (z : Body) → Contains (c ∷ b ∷ a ∷ []) z → AreIn es z.elements → HasTight g xs z
        one_tight z z_in has =
            elim halves [
              | inl (each, there_b, there_a, there_w) ↦ each z z_in
              | inr (y, y_in, y_tight, most) ↦ elim (alike y z y_in z_in) [
                | inl is ↦ subst (λ (v : Body). HasTight g xs v) is y_tight
                | inr (o, only) ↦ absurd (differ (only d (all_in y y_in most d d_in) (has d d_in) ∙ sym (only e (all_in y y_in most e e_in) (has e e_in))))
              ]
            ]

        c_at : Contains (c ∷ b ∷ a ∷ []) c
        c_at = contains_head c (b ∷ a ∷ [])

        b_at : Contains (c ∷ b ∷ a ∷ []) b
        b_at = contains_later c (b ∷ a ∷ []) b (contains_head b (a ∷ []))

        a_at : Contains (c ∷ b ∷ a ∷ []) a
        a_at = contains_later c (b ∷ a ∷ []) a (contains_later b (a ∷ []) a (contains_head a []))

        shares_there : (t : Branch) (u v : Elem) → Contains xs u → Contains xs v → AreIn (share_of t u v es) xs
        shares_there t u v u_in v_in z z_in =
            elim (of_share t u v es z z_in) [
              | inl is ↦ subst (λ (i : Elem). Contains xs i) is u_in
              | inr (inl is) ↦ subst (λ (i : Elem). Contains xs i) is v_in
              | inr (inr later) ↦ there z later.0
            ]

        in_each : NeedsInside one a → NeedsInside two b → NeedsInside three c → ((y : Body) → Contains (c ∷ b ∷ a ∷ []) y → HasTight g xs y) → Contains xs shared.b → Contains xs shared.a → Contains xs w → Contains all_three k → is_inside xs s ≡ true
        in_each in_a in_b in_c each there_b there_a there_w h =
            let tri = meets.triangle in
            elim (Contains-append_cases (needed one of_one) (needed two of_two ++ needed three of_last) k h) [
              | inl of_a ↦ in_a (each a a_at) of_one (shares_there one shared.a w there_a there_w) (share_in g sound one a a_made shared.a w tri.a_shared.0 tri.c_shared.1 es)
                  shared.a w (λ is. tri.differ.2 (sym is)) (first_of one shared.a w es) (second_of one shared.a w es) k of_a s s_in number
              | inr rest ↦ elim (Contains-append_cases (needed two of_two) (needed three of_last) k rest) [
                | inl of_b ↦ in_b (each b b_at) of_two (shares_there two shared.a shared.b there_a there_b) (share_in g sound two b b_made shared.a shared.b tri.a_shared.1 tri.b_shared.0 es)
                    shared.a shared.b tri.differ.0 (first_of two shared.a shared.b es) (second_of two shared.a shared.b es) k of_b s s_in number
                | inr of_c ↦ in_c (each c c_at) of_last (shares_there three shared.b w there_b there_w) (share_in g sound three c c_made shared.b w tri.b_shared.1 tri.c_shared.0 es)
                    shared.b w tri.differ.1 (first_of three shared.b w es) (second_of three shared.b w es) k of_c s s_in number
              ]
            ]

        told : NeedsInside one a → NeedsInside two b → NeedsInside three c → (i j m : Bool) → names_all one es ≡ i → names_all two es ≡ j → names_all three es ≡ m
            → Contains (cond i (needed one es) (cond j (needed two es) (cond m (needed three es) all_three))) k → is_inside xs s ≡ true
        told in_a in_b in_c true j m i_is j_is m_is h = (let has = all_named g sound one a a_made es i_is in in_a (one_tight a a_at has) es there has d e differ d_in e_in k h s s_in number)
        told in_a in_b in_c false true m i_is j_is m_is h = (let has = all_named g sound two b b_made es j_is in in_b (one_tight b b_at has) es there has d e differ d_in e_in k h s s_in number)
        told in_a in_b in_c false false true i_is j_is m_is h = (let has = all_named g sound three c c_made es m_is in in_c (one_tight c c_at has) es there has d e differ d_in e_in k h s s_in number)
        told in_a in_b in_c false false false i_is j_is m_is h =
            elim halves [
              | inl (each, there_b, there_a, there_w) ↦ in_each in_a in_b in_c each there_b there_a there_w h
              | inr (y, y_in, y_tight, most) ↦ absurd (elim (contains_cases c (b ∷ a ∷ []) y y_in) [
                | inl is ↦ not_all_named g sound three c c_made es m_is (subst (λ (v : Body). AreIn es v.elements) (sym is) (all_in y y_in most))
                | inr rest ↦ elim (contains_cases b (a ∷ []) y rest) [
                  | inl is ↦ not_all_named g sound two b b_made es j_is (subst (λ (v : Body). AreIn es v.elements) (sym is) (all_in y y_in most))
                  | inr last ↦ not_all_named g sound one a a_made es i_is (subst (λ (v : Body). AreIn es v.elements) (sym (contains_one a y last)) (all_in y y_in most))
                ]
              ])
            ]
