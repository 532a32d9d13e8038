-- A merge of named clusters is a step, and where no merge holds the family is closed.
use Rattle.std.proofs.Common.{◌≡◌, ◌≢◌, ◌⊎◌, inl, inr, refl, ◌+◌, ◌<◌, Bool, true, false, List, [], ◌∷◌, ap, sym, subst, ◌∙◌, length, arith, length-append}
use Rattle.std.specs.Prelude.{Contains, map, not, AllPairs}
use Rattle.std.proofs.lemmas.List.Filters.{length-filter_both}
use Rattle.std.proofs.lemmas.List.Elements.{Contains-push_cases, Contains-push, Contains-append_left, All-nil, All-cons}
use Rattle.sk_base.specs.declared.Name.{Name}
use Rattle.sk_base.specs.declared.Name.TheVariants.{Step as StepName}
use Rattle.sk_base.specs.declared.Graph.{Graph}
use Rattle.sk_base.specs.declared.Elem.{Elem}
use Rattle.sk_base.specs.ClusterNames.{IsBelow, is_named}
use Rattle.sk_family.specs.declared.Cluster.{Cluster}
use Rattle.sk_family.specs.Body.{Body}
use Rattle.sk_family.specs.Clusters.{Clusters, body_of, bodies, named, unnamed, whole_from, replaced, CanBeReplaced, IsNamed, IsLive, IsSound}
use Rattle.sk_base.proofs.Members.{contains_none, contains_head, contains_later, contains_one, contains_cases, contains_mapped, mapped_from, contains_filtered, filtered_from}
use Rattle.sk_base.proofs.Pairs.{pairs_none, pairs_cons, pairs_tell}
use Rattle.sk_family.proofs.Meeting.{meets_back, meets_on, shares_back}
use Rattle.sk_family.proofs.Naming.{ByName, below_chain, below_differs, one_of_name, one_of_body, named_are}
use Rattle.sk_family.specs.declared.Merge.{Merge}
use Rattle.sk_family.specs.declared.Merge.TheVariants.{Two, Three}
use Rattle.sk_family.specs.Rules.{SharesTwo, MeetsInThree}
use Rattle.sk_rules.specs.Reach.{CanMerge, AreAmong, Replaces, Step, IsClosed}
use Rattle.sk_family.specs.Merges.{Falls, names_of}
use Rattle.sk_rules.specs.Merges.{Holds, merged}

above_differs : (x y : Name) → IsBelow y x → x ≢ y
above_differs x y h e = below_differs y x h (sym e)

apart_one : (n : Name) → AllPairs (λ (l m : Name). l ≢ m) (n ∷ [])
apart_one n = pairs_cons (λ (l m : Name). l ≢ m) n [] (pairs_none (λ (l m : Name). l ≢ m)) (λ m h. absurd (contains_none m h))

-- what a merge names may be replaced
pub can_be_replaced : (g : Graph) (f : Clusters) (m : Merge) → Falls m → Holds g f m → CanBeReplaced f (names_of m)
can_be_replaced g f (Two x y) falls (a, b, x_is, y_is, shares) = record {
  two_or_three = inl refl;
  all_live = All-cons (λ n. IsLive f n) x (y ∷ []) (a, x_is) (All-cons (λ n. IsLive f n) y [] (b, y_is) (All-nil (λ n. IsLive f n)));
  differ = pairs_cons (λ (m n : Name). m ≢ n) x (y ∷ []) (apart_one y) (λ n h. subst (λ l. x ≢ l) (contains_one y n h) (above_differs x y falls));
}
can_be_replaced g f (Three x y z) falls (a, b, c, x_is, y_is, z_is, meets) = record {
  two_or_three = inr refl;
  all_live = All-cons (λ n. IsLive f n) x (y ∷ z ∷ []) (a, x_is) (All-cons (λ n. IsLive f n) y (z ∷ []) (b, y_is) (All-cons (λ n. IsLive f n) z [] (c, z_is) (All-nil (λ n. IsLive f n))));
  differ = pairs_cons (λ (m n : Name). m ≢ n) x (y ∷ z ∷ [])
      (pairs_cons (λ (m n : Name). m ≢ n) y (z ∷ []) (apart_one z) (λ n h. subst (λ l. y ≢ l) (contains_one z n h) (above_differs y z falls.1)))
      (λ n h. elim (contains_cases y (z ∷ []) n h) [
        | inl is ↦ subst (λ l. x ≢ l) is (above_differs x y falls.0)
        | inr last ↦ subst (λ l. x ≢ l) (contains_one z n last) (above_differs x z (below_chain z y x falls.1 falls.0))
      ]);
}

module _ (f : Clusters) (sound : IsSound f) (names : List Name) where
  -- the bodies of the named clusters are replaced by what they make
  pub replaced_replaces : Replaces (bodies f) (map body_of (named names f.live)) (bodies (replaced f names))
  replaced_replaces x = (
    (λ h. (
        let found = mapped_from body_of (replaced f names).live x h in
        elim (Contains-push_cases (unnamed names f.live) (whole_from (StepName f.next_step) names f.live) found.0 found.1) [
          | inl old ↦ (
              let was = filtered_from (λ (d : Cluster). not (is_named names d.name)) f.live found.0 old in
              inr (
                subst (λ b. Contains (bodies f) b) found.2 (contains_mapped body_of f.live found.0 was.0),
                λ merged_in. (
                    let other = mapped_from body_of (named names f.live) x merged_in in
                    let named_one = filtered_from (λ (d : Cluster). is_named names d.name) f.live other.0 other.1 in
                    let same : other.0 ≡ found.0 = one_of_body f sound other.0 found.0 named_one.0 was.0 (other.2 ∙ sym found.2) in
                    let is_one : is_named names found.0.name ≡ true = subst (λ (d : Cluster). is_named names d.name ≡ true) same named_one.1 in
                    let never : false ≡ true = subst (λ b. not b ≡ true) is_one was.1 in
                    absurd (cc)),
              ))
          | inr is ↦ inl (sym found.2 ∙ ap body_of (sym is))
        ])),
    (λ h. elim h [
      | inl is ↦ subst (λ b. Contains (bodies (replaced f names)) b) (sym is)
          (contains_mapped body_of (replaced f names).live (whole_from (StepName f.next_step) names f.live) (Contains-push (unnamed names f.live) (whole_from (StepName f.next_step) names f.live)))
      | inr (old, not_merged) ↦ (
          let found = mapped_from body_of f.live x old in
          subst (λ b. Contains (bodies (replaced f names)) b) found.2 (contains_mapped body_of (replaced f names).live found.0
          (Contains-append_left (unnamed names f.live) (whole_from (StepName f.next_step) names f.live ∷ []) found.0
          (contains_filtered (λ (d : Cluster). not (is_named names d.name)) f.live found.0 found.1
          (stays (is_named names found.0.name) (λ is_one. not_merged (subst (λ b. Contains (map body_of (named names f.live)) b) found.2
          (contains_mapped body_of (named names f.live) found.0 (contains_filtered (λ (d : Cluster). is_named names d.name) f.live found.0 found.1 is_one)))))))))
    ]),
  )
    where
      stays : (b : Bool) → (b ≡ true → ⊥) → not b ≡ true
      stays true never = absurd (never refl)
      stays false never = refl

  pub named_among_bodies : AreAmong (map body_of (named names f.live)) (bodies f)
  named_among_bodies x h =
      let found = mapped_from body_of (named names f.live) x h in
      subst (λ b. Contains (bodies f) b) found.2
      (contains_mapped body_of f.live found.0 (filtered_from (λ (d : Cluster). is_named names d.name) f.live found.0 found.1).0)

module _ (g : Graph) (f : Clusters) (sound : IsSound f) where
  pub bodies_differ : (a b : Cluster) → Contains f.live a → Contains f.live b → IsBelow a.name b.name → body_of a ≢ body_of b
  bodies_differ a b a_in b_in before same =
      below_differs a.name b.name before (ap (λ (c : Cluster). c.name) (one_of_body f sound a b a_in b_in same))

  -- a live cluster of one of the names is one of these, where each name has one of these
  only_these : (names : List Name) (these : List Cluster) → ((n : Name) → Contains names n → (c : Cluster) × Contains these c × IsNamed f n c)
      → (c : Cluster) → Contains f.live c → Contains names c.name → Contains these c
  only_these names these each c c_in name_in =
      let found = each c.name name_in in
      let same : found.0 ≡ c = one_of_name f sound c.name found.0 c found.2 (record { lives = c_in; has_name = refl }) in
      subst (λ d. Contains these d) same found.1

  pub named_two : (x y : Name) (a b : Cluster) → IsBelow y x → IsNamed f x a → IsNamed f y b → named (x ∷ y ∷ []) f.live ≡ b ∷ a ∷ []
  named_two x y a b falls x_is y_is =
      let b_a : ByName b a = rw (y_is.has_name, x_is.has_name) falls in
      named_are f sound (x ∷ y ∷ []) (b ∷ a ∷ [])
      (pairs_cons ByName b (a ∷ []) (pairs_cons ByName a [] (pairs_none ByName) (λ z h. absurd (contains_none z h)))
      (λ z h. subst (λ w. ByName b w) (contains_one a z h) b_a))
      (λ c h. elim (contains_cases b (a ∷ []) c h) [
        | inl is ↦ subst (λ d. Contains f.live d × Contains (x ∷ y ∷ []) d.name) is
            (y_is.lives, rw y_is.has_name (contains_later x (y ∷ []) y (contains_head y [])))
        | inr rest ↦ subst (λ d. Contains f.live d × Contains (x ∷ y ∷ []) d.name) (contains_one a c rest)
            (x_is.lives, rw x_is.has_name (contains_head x (y ∷ [])))
      ])
      (only_these (x ∷ y ∷ []) (b ∷ a ∷ []) (λ n h. elim (contains_cases x (y ∷ []) n h) [
        | inl is ↦ (a, contains_later b (a ∷ []) a (contains_head a []), subst (λ m. IsNamed f m a) is x_is)
        | inr rest ↦ (b, contains_head b (a ∷ []), subst (λ m. IsNamed f m b) (contains_one y n rest) y_is)
      ]))

  pub named_three : (x y z : Name) (a b c : Cluster) → IsBelow y x → IsBelow z y → IsNamed f x a → IsNamed f y b → IsNamed f z c → named (x ∷ y ∷ z ∷ []) f.live ≡ c ∷ b ∷ a ∷ []
  named_three x y z a b c x_y y_z x_is y_is z_is =
      let b_a : ByName b a = rw (y_is.has_name, x_is.has_name) x_y in
      let c_b : ByName c b = rw (z_is.has_name, y_is.has_name) y_z in
      let c_a : ByName c a = below_chain c.name b.name a.name c_b b_a in
      named_are f sound (x ∷ y ∷ z ∷ []) (c ∷ b ∷ a ∷ [])
      (pairs_cons ByName c (b ∷ a ∷ [])
      (pairs_cons ByName b (a ∷ []) (pairs_cons ByName a [] (pairs_none ByName) (λ w h. absurd (contains_none w h)))
      (λ w h. subst (λ d. ByName b d) (contains_one a w h) b_a))
      (λ w h. elim (contains_cases b (a ∷ []) w h) [
        | inl is ↦ subst (λ d. ByName c d) is c_b
        | inr rest ↦ subst (λ d. ByName c d) (contains_one a w rest) c_a
      ]))
      (λ d h. elim (contains_cases c (b ∷ a ∷ []) d h) [
        | inl is ↦ subst (λ d. Contains f.live d × Contains (x ∷ y ∷ z ∷ []) d.name) is
            (z_is.lives, rw z_is.has_name (contains_later x (y ∷ z ∷ []) z (contains_later y (z ∷ []) z (contains_head z []))))
        | inr rest ↦ elim (contains_cases b (a ∷ []) d rest) [
          | inl is ↦ subst (λ d. Contains f.live d × Contains (x ∷ y ∷ z ∷ []) d.name) is
              (y_is.lives, rw y_is.has_name (contains_later x (y ∷ z ∷ []) y (contains_head y (z ∷ []))))
          | inr last ↦ subst (λ d. Contains f.live d × Contains (x ∷ y ∷ z ∷ []) d.name) (contains_one a d last)
              (x_is.lives, rw x_is.has_name (contains_head x (y ∷ z ∷ [])))
        ]
      ])
      (only_these (x ∷ y ∷ z ∷ []) (c ∷ b ∷ a ∷ []) (λ n h. elim (contains_cases x (y ∷ z ∷ []) n h) [
        | inl is ↦ (a, contains_later c (b ∷ a ∷ []) a (contains_later b (a ∷ []) a (contains_head a [])), subst (λ m. IsNamed f m a) is x_is)
        | inr rest ↦ elim (contains_cases y (z ∷ []) n rest) [
          | inl is ↦ (b, contains_later c (b ∷ a ∷ []) b (contains_head b (a ∷ [])), subst (λ m. IsNamed f m b) is y_is)
          | inr last ↦ (c, contains_head c (b ∷ a ∷ []), subst (λ m. IsNamed f m c) (contains_one z n last) z_is)
        ]
      ]))

  -- the named ones that may merge, replaced, make a step
  abbrev pub step_of : (names : List Name) → CanMerge g (map body_of (named names f.live)) → Step g (bodies f) (bodies (replaced f names))
  step_of names can = record {
    merged = map body_of (named names f.live);
    can_merge = can;
    among = named_among_bodies f sound names;
    replaces = replaced_replaces f sound names;
  }

  pub merge_can : (m : Merge) → Falls m → Holds g f m → CanMerge g (map body_of (named (names_of m) f.live))
  merge_can (Two x y) falls (a, b, x_is, y_is, shares) =
      let b_a : ByName b a = rw (y_is.has_name, x_is.has_name) falls in
      subst (λ cs. CanMerge g (map body_of cs)) (sym (named_two x y a b falls x_is y_is))
      (bodies_differ b a y_is.lives x_is.lives b_a, shares_back a.elements b.elements shares)
  merge_can (Three x y z) falls (a, b, c, x_is, y_is, z_is, meets) =
      let b_a : ByName b a = rw (y_is.has_name, x_is.has_name) falls.0 in
      let c_b : ByName c b = rw (z_is.has_name, y_is.has_name) falls.1 in
      let c_a : ByName c a = below_chain c.name b.name a.name c_b b_a in
      subst (λ cs. CanMerge g (map body_of cs)) (sym (named_three x y z a b c falls.0 falls.1 x_is y_is z_is)) (
        bodies_differ c b z_is.lives y_is.lives c_b,
        bodies_differ b a y_is.lives x_is.lives b_a,
        (λ e. bodies_differ c a z_is.lives x_is.lives c_a (sym e)),
        meets_back g a.elements b.elements c.elements meets,
      )

  abbrev pub merge_steps : (m : Merge) → Falls m → Holds g f m → Step g (bodies f) (bodies (merged f m))
  merge_steps m falls holds = step_of (names_of m) (merge_can m falls holds)

  -- as many fewer as are named, but for the one that they make
  pub fewer_by : (names : List Name) (these : List Cluster) → named names f.live ≡ these → length (replaced f names).live + length these ≡ length f.live + 1
  fewer_by names these is =
      let both = length-filter_both (λ (c : Cluster). is_named names c.name) (λ (c : Cluster). not (is_named names c.name)) (λ c. refl) f.live in
      let whole = length-append (unnamed names f.live) (whole_from (StepName f.next_step) names f.live ∷ []) in
      let count : length (named names f.live) ≡ length these = ap length is in
      omega (arith, both, whole, count)

  pub triangle_lessens : (x y z : Name) → Falls (Three x y z) → Holds g f (Three x y z) → length (merged f (Three x y z)).live + 2 ≡ length f.live
  triangle_lessens x y z falls (a, b, c, x_is, y_is, z_is, meets) =
      let by = fewer_by (x ∷ y ∷ z ∷ []) (c ∷ b ∷ a ∷ []) (named_three x y z a b c falls.0 falls.1 x_is y_is z_is) in omega arith

  fewer_of : (names : List Name) (these : List Cluster) → named names f.live ≡ these → 1 < length these → length (replaced f names).live < length f.live
  fewer_of names these is some =
      let both = length-filter_both (λ (c : Cluster). is_named names c.name) (λ (c : Cluster). not (is_named names c.name)) (λ c. refl) f.live in
      let whole = length-append (unnamed names f.live) (whole_from (StepName f.next_step) names f.live ∷ []) in
      let count : length (named names f.live) ≡ length these = ap length is in
      omega (arith, both, whole, count, some)

  -- a merge leaves fewer clusters
  pub merge_lessens : (m : Merge) → Falls m → Holds g f m → length (merged f m).live < length f.live
  merge_lessens (Two x y) falls (a, b, x_is, y_is, shares) =
      fewer_of (x ∷ y ∷ []) (b ∷ a ∷ []) (named_two x y a b falls x_is y_is) (omega arith)
  merge_lessens (Three x y z) falls (a, b, c, x_is, y_is, z_is, meets) =
      fewer_of (x ∷ y ∷ z ∷ []) (c ∷ b ∷ a ∷ []) (named_three x y z a b c falls.0 falls.1 x_is y_is z_is) (omega arith)

  -- where no merge holds, no bodies may merge
  module _ (none : (m : Merge) → Falls m → ¬ Holds g f m) where
    named_itself : (c : Cluster) → Contains f.live c → IsNamed f c.name c
    named_itself c c_in = record { lives = c_in; has_name = refl }

    never_two : (a b : Cluster) → Contains f.live a → Contains f.live b → ByName b a → ¬ SharesTwo a.elements b.elements
    never_two a b a_in b_in b_a shares = none (Two a.name b.name) b_a (a, b, named_itself a a_in, named_itself b b_in, shares)

    never_three : (a b c : Cluster) → Contains f.live a → Contains f.live b → Contains f.live c → ByName b a → ByName c b → ¬ MeetsInThree g a.elements b.elements c.elements
    never_three a b c a_in b_in c_in b_a c_b meets =
        none (Three a.name b.name c.name) (b_a, c_b) (a, b, c, named_itself a a_in, named_itself b b_in, named_itself c c_in, meets)

    -- of two clusters with different bodies, one is named first
    in_order : (a b : Cluster) → Contains f.live a → Contains f.live b → body_of a ≢ body_of b → ByName a b ⊎ ByName b a
    in_order a b a_in b_in differ =
        elim (pairs_tell ByName f.live sound.names_rise a b a_in b_in) [
          | inl same ↦ absurd (differ (ap body_of same))
          | inr either ↦ either
        ]

    no_three : (a b c : Cluster) → Contains f.live a → Contains f.live b → Contains f.live c → ByName a b ⊎ ByName b a → ByName b c ⊎ ByName c b → ByName c a ⊎ ByName a c
        → ¬ MeetsInThree g a.elements b.elements c.elements
    no_three a b c a_in b_in c_in (inl a_b) (inl b_c) c_a m =
        never_three c b a c_in b_in a_in b_c a_b (meets_back g a.elements b.elements c.elements m)
    no_three a b c a_in b_in c_in (inr b_a) (inr c_b) c_a m =
        never_three a b c a_in b_in c_in b_a c_b m
    no_three a b c a_in b_in c_in (inl a_b) (inr c_b) (inl c_a) m =
        never_three b a c b_in a_in c_in a_b c_a (meets_on g c.elements b.elements a.elements (meets_back g a.elements b.elements c.elements m))
    no_three a b c a_in b_in c_in (inl a_b) (inr c_b) (inr a_c) m =
        never_three b c a b_in c_in a_in c_b a_c (meets_on g a.elements b.elements c.elements m)
    no_three a b c a_in b_in c_in (inr b_a) (inl b_c) (inl c_a) m =
        never_three a c b a_in c_in b_in c_a b_c
        (meets_on g b.elements a.elements c.elements (meets_on g c.elements b.elements a.elements (meets_back g a.elements b.elements c.elements m)))
    no_three a b c a_in b_in c_in (inr b_a) (inl b_c) (inr a_c) m =
        never_three c a b c_in a_in b_in a_c b_a (meets_on g b.elements c.elements a.elements (meets_on g a.elements b.elements c.elements m))

    pub closed_by_merges : IsClosed g (bodies f)
    closed_by_merges [] among can = can
    closed_by_merges (p ∷ []) among can = can
    closed_by_merges (p ∷ q ∷ []) among can =
        let a = mapped_from body_of f.live p (among p (contains_head p (q ∷ []))) in
        let b = mapped_from body_of f.live q (among q (contains_later p (q ∷ []) q (contains_head q []))) in
        let differ : body_of a.0 ≢ body_of b.0 = λ e. can.0 (sym a.2 ∙ e ∙ b.2) in
        let shares : SharesTwo a.0.elements b.0.elements =
        rw (ap (λ (x : Body). x.elements) a.2, ap (λ (x : Body). x.elements) b.2) can.1 in
        elim (in_order a.0 b.0 a.1 b.1 differ) [
          | inl a_b ↦ never_two b.0 a.0 b.1 a.1 a_b (shares_back a.0.elements b.0.elements shares)
          | inr b_a ↦ never_two a.0 b.0 a.1 b.1 b_a shares
        ]
    closed_by_merges (p ∷ q ∷ r ∷ []) among can =
        let a = mapped_from body_of f.live p (among p (contains_head p (q ∷ r ∷ []))) in
        let b = mapped_from body_of f.live q (among q (contains_later p (q ∷ r ∷ []) q (contains_head q (r ∷ [])))) in
        let c = mapped_from body_of f.live r (among r (contains_later p (q ∷ r ∷ []) r (contains_later q (r ∷ []) r (contains_head r [])))) in
        let meets : MeetsInThree g a.0.elements b.0.elements c.0.elements =
        rw (ap (λ (x : Body). x.elements) a.2, ap (λ (x : Body). x.elements) b.2, ap (λ (x : Body). x.elements) c.2) can.3 in
        no_three a.0 b.0 c.0 a.1 b.1 c.1
        (in_order a.0 b.0 a.1 b.1 (λ e. can.0 (sym a.2 ∙ e ∙ b.2)))
        (in_order b.0 c.0 b.1 c.1 (λ e. can.1 (sym b.2 ∙ e ∙ c.2)))
        (in_order c.0 a.0 c.1 a.1 (λ e. can.2 (sym c.2 ∙ e ∙ a.2)))
        meets
    closed_by_merges (p ∷ q ∷ r ∷ t ∷ rest) among can = can
