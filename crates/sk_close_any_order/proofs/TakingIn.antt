-- A cluster that grows: what it takes in makes a step.
use Rattle.std.proofs.Common.{◌≡◌, ◌≢◌, ◌∙◌, inl, inr, refl, ℕ, ◌<◌, Bool, true, List, [], ◌∷◌, ◌++◌, ap, sym, subst, length, length-append, append_assoc, arith}
use Rattle.std.specs.Prelude.{◌↔◌, ◌⊎◌, Contains, not, slice_get, Some}
use Rattle.std.proofs.lemmas.List.Elements.{All-append, All-cons, All-nil}
use Rattle.sk_base.specs.declared.Elem.{Elem}
use Rattle.sk_base.specs.declared.Name.{Name}
use Rattle.sk_base.specs.declared.Graph.{Graph}
use Rattle.sk_base.specs.ClusterNames.{is_named}
use Rattle.sk_base.proofs.Filters.{filter_keeps}
use Rattle.sk_base.proofs.Members.{contains_none, contains_head, contains_later, contains_one, contains_cases, contains_mapped, mapped_from, filtered_from}
use Rattle.sk_base.proofs.Pairs.{pairs_none, pairs_push}
use Rattle.sk_rules.proofs.Keeping.{reach_then}
use Rattle.sk_family.specs.declared.Cluster.{Cluster}
use Rattle.sk_family.specs.Body.{Body, IsRisingBody, join_all}
use Rattle.sk_family.specs.Clusters.{Clusters, IsLive, IsNamed, IsSound, body_of, bodies, made_of, replaced, unnamed, HasElements}
use Rattle.sk_family.proofs.Bodies.{Within, each_within, whole_within, within_along, same_within, owner_of, holder_of, rising_whole}
use Rattle.sk_family.proofs.Naming.{not_named, one_of_name, one_of_body}
use Rattle.sk_family.proofs.Taking.{unnamed_more}
use Rattle.sk_rules.specs.Reach.{AreAmong, CanMerge, Reach, Replaces, Step, goes, stays}
use Rattle.sk_family.specs.declared.Merge.{Merge}
use Rattle.sk_family.specs.declared.Merge.TheVariants.{Two, Three}
use Rattle.sk_family.specs.Merges.{names_of}
use Rattle.sk_rules.proofs.Merging.{merge_steps, replaced_replaces}
use Rattle.sk_neighbours.specs.declared.Index.{Index}
use Rattle.sk_close_any_order.specs.declared.growth.Joining.TheVariants.{One, Both}
use Rattle.sk_close_any_order.specs.Grown.{IsMarkedIn, MarksTwo, Joins, HasGrown, IsGrown}
use Rattle.sk_triangles.specs.Marks.{IsMarked}
use Rattle.sk_rules.specs.Merges.{CanTake}
use Rattle.sk_neighbours.specs.Indexed.{IsHeld, IsIndex, KeepsLines, IsThirdAt, Represents}
use Rattle.sk_neighbours.proofs.Representing.{represents_left}
use Rattle.sk_family.proofs.Parts.{parts, in_parts, from_parts, parts_left, parts_right, parts_cases}

module _ (f : Clusters) (sound : IsSound f) where
  part_rises : (names : List Name) (b : Body) → Contains (parts f names) b → IsRisingBody b
  part_rises names b h =
      let (c, c_in, n_in, is) = from_parts f names b h in
      subst (λ x. IsRisingBody x) is (sound.bodies_rise c c_in)

  -- what is none of the parts isn't what they make, since that owns what they own
  pub differs_from_whole : (names : List Name) (b : Body) → Contains (bodies f) b → ¬ Contains (parts f names) b → b ≢ made_of names f.live
  differs_from_whole names b b_in apart same =
      let (c, c_in, is) = mapped_from body_of f.live b b_in in
      let (k, k_c) = sound.each_owns c c_in in
      let made_k = subst (λ (x : Body). Contains x.owned k) (is ∙ same) k_c in
      let (p, p_in, p_k) = owner_of (parts f names) k made_k in
      let (d, d_in, n_in, d_is) = from_parts f names p p_in in
      let one : d ≡ c = sound.owned_apart d c k d_in c_in (subst (λ (x : Body). Contains x.owned k) (sym d_is) p_k) k_c in
      apart (subst (λ x. Contains (parts f names) x) (ap body_of one ∙ is) (in_parts f names d d_in n_in))

  -- a cluster with none of the names is none of the parts
  pub apart_from_parts : (names : List Name) (c : Cluster) → Contains f.live c → ¬ Contains names c.name → ¬ Contains (parts f names) (body_of c)
  apart_from_parts names c c_in apart h =
      let (d, d_in, n_in, is) = from_parts f names (body_of c) h in
      apart (subst (λ (x : Cluster). Contains names x.name) (one_of_body f sound d c d_in c_in is) n_in)

  module _ (names more : List Name) (some : List Body) (some_are : (b : Body) → Contains some b ↔ Contains (parts f more) b) where
    whole : Body
    whole = made_of names f.live

    -- the whole and what it takes in make what all parts make
    joined_is : join_all (whole ∷ some) ≡ made_of (names ++ more) f.live
    unfolding whole
    joined_is =
        same_within (join_all (whole ∷ some)) (made_of (names ++ more) f.live)
        (rising_whole (whole ∷ some) (λ b b_in. elim (contains_cases whole some b b_in) [
          | inl is ↦ subst (λ x. IsRisingBody x) is (rising_whole (parts f names) (part_rises names))
          | inr later ↦ part_rises more b ((some_are b).0 later)
        ]))
        (rising_whole (parts f (names ++ more)) (part_rises (names ++ more)))
        (whole_within (whole ∷ some) (λ b b_in. elim (contains_cases whole some b b_in) [
          | inl is ↦ subst (λ x. Within x (made_of (names ++ more) f.live)) is
              (whole_within (parts f names) (λ p p_in. each_within (parts f (names ++ more)) p (parts_left f names more p p_in)))
          | inr later ↦ each_within (parts f (names ++ more)) b (parts_right f names more b ((some_are b).0 later))
        ]))
        (whole_within (parts f (names ++ more)) (λ p p_in. elim (parts_cases f names more p p_in) [
          | inl before ↦ within_along (each_within (parts f names) p before) (each_within (whole ∷ some) whole (contains_head whole some))
          | inr after ↦ each_within (whole ∷ some) p (contains_later whole some p ((some_are p).1 after))
        ]))

    among : ((n : Name) → Contains more n → ¬ Contains names n) → AreAmong (whole ∷ some) (bodies (replaced f names))
    unfolding whole
    among apart b b_in = elim (contains_cases whole some b b_in) [
      | inl is ↦ ((replaced_replaces f sound names) b).1 (inl (sym is))
      | inr later ↦ (
          let (c, c_in, n_in, c_is) = from_parts f more b ((some_are b).0 later) in
          ((replaced_replaces f sound names) b).1 (inr (
            subst (λ x. Contains (bodies f) x) c_is (contains_mapped body_of f.live c c_in),
            (λ h. apart_from_parts names c c_in (apart c.name n_in) (subst (λ x. Contains (parts f names) x) (sym c_is) h)),
          )))
    ]

    replaces : Replaces (bodies (replaced f names)) (whole ∷ some) (bodies (replaced f (names ++ more)))
    unfolding whole
    replaces b = (
      (λ h. elim ((replaced_replaces f sound (names ++ more) b).0 h) [
        | inl is ↦ inl (is ∙ sym joined_is)
        | inr (was, apart) ↦ inr (
          (replaced_replaces f sound names b).1 (inr (was, (λ p. apart (parts_left f names more b p)))),
          (λ among. elim (contains_cases whole some b among) [
            | inl is ↦ differs_from_whole names b was (λ p. apart (parts_left f names more b p)) (sym is)
            | inr later ↦ apart (parts_right f names more b ((some_are b).0 later))
          ]),
        )
      ]),
      (λ h. elim h [
        | inl is ↦ (replaced_replaces f sound (names ++ more) b).1 (inl (is ∙ joined_is))
        | inr (was, apart) ↦ elim ((replaced_replaces f sound names b).0 was) [
          | inl is ↦ absurd (apart (subst (λ x. Contains (whole ∷ some) x) (sym is) (contains_head whole some)))
          | inr (here, not_part) ↦ (replaced_replaces f sound (names ++ more) b).1 (inr (
            here,
            (λ p. elim (parts_cases f names more b p) [
              | inl before ↦ not_part before
              | inr after ↦ apart (contains_later whole some b ((some_are b).1 after))
            ]),
          ))
        ]
      ]),
    )

    pub step_in : (g : Graph) → ((n : Name) → Contains more n → ¬ Contains names n) → CanMerge g (made_of names f.live ∷ some) → Step g (bodies (replaced f names)) (bodies (replaced f (names ++ more)))
    unfolding whole
    step_in g apart can = record { merged = whole ∷ some; can_merge = can; among = among apart; replaces = replaces }

  -- the parts of one name, and of two
  pub one_part : (n : Name) (c : Cluster) → IsNamed f n c → (b : Body) → Contains (body_of c ∷ []) b ↔ Contains (parts f (n ∷ [])) b
  one_part n c c_is b = (
    (λ h. subst (λ x. Contains (parts f (n ∷ [])) x) (contains_one (body_of c) b h)
        (in_parts f (n ∷ []) c c_is.lives (subst (λ m. Contains (n ∷ []) m) (sym c_is.has_name) (contains_head n [])))),
    (λ h. (
        let (d, d_in, d_named, is) = from_parts f (n ∷ []) b h in
        let same : d ≡ c = one_of_name f sound n d c (record { lives = d_in; has_name = sym (contains_one n d.name d_named) }) c_is in
        subst (λ x. Contains (body_of c ∷ []) x) (ap body_of (sym same) ∙ is) (contains_head (body_of c) []))),
  )

  pub two_parts : (m n : Name) (c d : Cluster) → IsNamed f m c → IsNamed f n d → (b : Body) → Contains (body_of c ∷ body_of d ∷ []) b ↔ Contains (parts f (m ∷ n ∷ [])) b
  two_parts m n c d c_is d_is b = (
    (λ h. elim (contains_cases (body_of c) (body_of d ∷ []) b h) [
      | inl is ↦ parts_left f (m ∷ []) (n ∷ []) b ((one_part m c c_is b).0 (subst (λ x. Contains (body_of c ∷ []) x) is (contains_head (body_of c) [])))
      | inr later ↦ parts_right f (m ∷ []) (n ∷ []) b ((one_part n d d_is b).0 later)
    ]),
    (λ h. elim (parts_cases f (m ∷ []) (n ∷ []) b h) [
      | inl first ↦ subst (λ x. Contains (body_of c ∷ body_of d ∷ []) x) (contains_one (body_of c) b ((one_part m c c_is b).1 first)) (contains_head (body_of c) (body_of d ∷ []))
      | inr second ↦ contains_later (body_of c) (body_of d ∷ []) b ((one_part n d d_is b).1 second)
    ]),
  )

  -- one more name brings the elements of its cluster
  pub made_more : (names : List Name) (n : Name) (c : Cluster) → IsNamed f n c → (e : Elem)
      → Contains (made_of (names ++ n ∷ []) f.live).elements e ↔ (Contains (made_of names f.live).elements e ⊎ Contains c.elements e)
  made_more names n c c_is e = (
    (λ h. (
        let (b, b_in, b_e) = holder_of (parts f (names ++ n ∷ [])) e h in
        elim (parts_cases f names (n ∷ []) b b_in) [
          | inl before ↦ inl ((each_within (parts f names) b before).elements e b_e)
          | inr after ↦ inr (subst (λ (x : Body). Contains x.elements e) (sym (contains_one (body_of c) b ((one_part n c c_is b).1 after))) b_e)
        ])),
    (λ h. elim h [
      | inl before ↦ (whole_within (parts f names) (λ p p_in. each_within (parts f (names ++ n ∷ [])) p (parts_left f names (n ∷ []) p p_in))).elements e before
      | inr here ↦ (each_within (parts f (names ++ n ∷ [])) (body_of c)
          (parts_right f names (n ∷ []) (body_of c) ((one_part n c c_is (body_of c)).0 (contains_head (body_of c) [])))).elements e here
    ]),
  )

-- at first nothing is taken in
pub has_none : (ix : Index) (g : Graph) (f : Clusters) → Represents ix g f.live → HasGrown ix g f [] []
has_none ix g f r = record {
  represents = subst (λ (l : List Cluster). Represents ix g l) (sym (filter_keeps (λ (c : Cluster). not (is_named [] c.name)) f.live (λ c h. refl))) r;
  marked = λ e. (
    (λ h. absurd (no_mark e.0 h)),
    (λ h. absurd (let (b, b_in, b_e) = holder_of (parts f []) e h in let (c, c_in, n_in, is) = from_parts f [] b b_in in contains_none c.name n_in)),
  );
  all_live = λ k d below. absurd (omega arith);
  differ = pairs_none (λ (m n : Name). m ≢ n);
}
  where
    no_mark : (n : ℕ) → ¬ (slice_get [] n ≡ Some true)
    no_mark n h = cc

module _ (ix : Index) (g : Graph) (f : Clusters) (sound : IsSound f) (names : List Name) (marks : List Bool) (has : HasGrown ix g f names marks) where
  -- what the index still holds wasn't taken in
  pub not_taken : (c : Cluster) → IsHeld ix c → Contains f.live c × ¬ Contains names c.name
  not_taken c held =
      let was = filtered_from (λ (d : Cluster). not (is_named names d.name)) f.live c ((has.represents.held c).0 held) in
      (was.0, not_named names c.name was.1)

  pub itself_named : (n : Name) (c : Cluster) → IsHeld ix c → c.name ≡ n → IsNamed f n c
  itself_named n c held is = record { lives = (not_taken c held).0; has_name = is }

  -- one more is taken in
  module _ (new : Index) (n : Name) (c : Cluster) (c_is : IsNamed f n c) (apart : ¬ Contains names n) (index : IsIndex new)
      (held : (d : Cluster) → IsHeld new d ↔ (IsHeld ix d × ¬ Contains (n ∷ []) d.name)) (lines : KeepsLines ix new)
      (marks' : List Bool) (marked : (e : Elem) → IsMarked marks' e ↔ (IsMarked marks e ⊎ Contains c.elements e)) where
    pub has_more : HasGrown new g f (names ++ n ∷ []) marks'
    has_more = record {
      represents = subst (λ (l : List Cluster). Represents new g l) (sym (unnamed_more names (n ∷ []) f.live))
          (represents_left ix new g (n ∷ []) (unnamed names f.live) has.represents index held lines);
      marked = λ e. (
        (λ h. (made_more f sound names n c c_is e).1 (elim ((marked e).0 h) [ inl was ↦ inl ((has.marked e).0 was) | inr here ↦ inr here ])),
        (λ h. (marked e).1 (elim ((made_more f sound names n c c_is e).0 h) [ inl was ↦ inl ((has.marked e).1 was) | inr here ↦ inr here ])),
      );
      all_live = All-append (λ m. IsLive f m) names (n ∷ []) has.all_live (All-cons (λ m. IsLive f m) n [] (c, c_is) (All-nil (λ m. IsLive f m)));
      differ = pairs_push (λ (l m : Name). l ≢ m) names n has.differ (λ m m_in same. apart (subst (λ l. Contains names l) same m_in));
    }

  -- what may merge with it isn't one of it
  module _ (x : Cluster) (x_held : IsHeld ix x) where
    other_body : body_of x ≢ made_of names f.live
    other_body =
        let (x_in, apart) = not_taken x x_held in
        differs_from_whole f sound names (body_of x) (contains_mapped body_of f.live x x_in) (apart_from_parts f sound names x x_in apart)

    can_one : MarksTwo marks x.elements → CanMerge g (made_of names f.live ∷ body_of x ∷ [])
    can_one (a, b, differ, (a_x, a_m), (b_x, b_m)) = (
      (λ same. other_body (sym same)),
      (a, b, record { differ = differ; a_shared = ((has.marked a).0 a_m, a_x); b_shared = ((has.marked b).0 b_m, b_x) }),
    )

    can_both : (z : Cluster) → IsHeld ix z → z.name ≢ x.name → (a b c : Elem) → IsMarkedIn marks x.elements a → Contains x.elements b → Contains z.elements b → IsMarkedIn marks z.elements c
        → a ≢ b → IsThirdAt ix a b c → body_of z ≢ made_of names f.live → CanMerge g (made_of names f.live ∷ body_of x ∷ body_of z ∷ [])
    can_both z z_held other a b c (a_x, a_m) b_x b_z (c_z, c_m) a_b (c_a, c_b, lines) z_other = (
      (λ same. other_body (sym same)),
      (λ same. other (ap (λ (d : Cluster). d.name) (one_of_body f sound z x (not_taken z z_held).0 (not_taken x x_held).0 (sym same)))),
      z_other,
      (
        a,
        b,
        c,
        record {
          a_shared = ((has.marked a).0 a_m, a_x);
          b_shared = (b_x, b_z);
          c_shared = (c_z, (has.marked c).0 c_m);
          differ = (a_b, (λ e. c_b (sym e)), c_a);
          not_all_lines = λ (la, lb, lc). lines ((has.represents.lines a).1 la, (has.represents.lines b).1 lb, (has.represents.lines c).1 lc);
        },
      ),
    )

module _ (ix : Index) (g : Graph) (f : Clusters) (sound : IsSound f) (names : List Name) (marks : List Bool) (grown : IsGrown ix g f names marks) where
  reached_with : (more : List Name) (some : List Body) → ((b : Body) → Contains some b ↔ Contains (parts f more) b) → ((n : Name) → Contains more n → ¬ Contains names n)
      → CanMerge g (made_of names f.live ∷ some) → Reach g (bodies f) (bodies (replaced f (names ++ more)))
  reached_with more some some_are apart can =
      reach_then g (bodies f) (bodies (replaced f names)) (bodies (replaced f (names ++ more))) grown.reached (step_in f sound names more some some_are g apart can)

  pub reached_one : (n : Name) → Joins ix marks (One n) → Reach g (bodies f) (bodies (replaced f (names ++ n ∷ [])))
  reached_one n (x, held, is, two) =
      let apart = (not_taken ix g f sound names marks grown.has x held).1 in
      reached_with (n ∷ []) (body_of x ∷ []) (one_part f sound n x (itself_named ix g f sound names marks grown.has n x held is))
      (λ m m_in. subst (λ l. ¬ Contains names l) (is ∙ contains_one n m m_in) apart)
      (can_one ix g f sound names marks grown.has x held two)

  pub reached_both : (m n : Name) → Joins ix marks (Both m n) → Reach g (bodies f) (bodies (replaced f (names ++ m ∷ n ∷ [])))
  reached_both m n (x, held, is, (a, a_in, (b, b_x, (z, z_held, z_is, other, a_b, b_z, (c, c_in, third))))) =
      let has = grown.has in
      let x_apart = (not_taken ix g f sound names marks has x held).1 in
      let z_apart = (not_taken ix g f sound names marks has z z_held).1 in
      reached_with (m ∷ n ∷ []) (body_of x ∷ body_of z ∷ [])
      (two_parts f sound m n x z (itself_named ix g f sound names marks has m x held is) (itself_named ix g f sound names marks has n z z_held z_is))
      (λ l l_in. elim (contains_cases m (n ∷ []) l l_in) [
        | inl here ↦ subst (λ k. ¬ Contains names k) (is ∙ here) x_apart
        | inr later ↦ subst (λ k. ¬ Contains names k) (z_is ∙ contains_one n l later) z_apart
      ])
      (can_both ix g f sound names marks has x held z z_held (subst (λ k. k ≢ x.name) (sym z_is) other) a b c a_in b_x b_z c_in a_b third (other_body ix g f sound names marks has z z_held))

-- what the index holds may be taken in
module _ (ix : Index) (g : Graph) (f : Clusters) (sound : IsSound f) (names : List Name) (marks : List Bool) (has : HasGrown ix g f names marks) (n : Name) (x : Cluster) (held : IsHeld ix x) (is : x.name ≡ n) where
  pub held_lives : IsLive f n
  held_lives = (x, itself_named ix g f sound names marks has n x held is)

  pub held_apart : ¬ Contains names n
  held_apart = subst (λ l. ¬ Contains names l) is (not_taken ix g f sound names marks has x held).1

  pub held_some : (e : Elem) → Contains x.elements e → HasElements f n
  held_some e e_in c c_is = (e, subst (λ (d : Cluster). Contains d.elements e) (one_of_name f sound n x c (itself_named ix g f sound names marks has n x held is) c_is) e_in)

-- so it has grown
module _ (ix : Index) (g : Graph) (f : Clusters) (sound : IsSound f) (names : List Name) (marks : List Bool) (grown : IsGrown ix g f names marks) (new : Index) (names' : List Name) (marks' : List Bool) (has : HasGrown new g f names' marks') where
  pub grown_one : (n : Name) → Joins ix marks (One n) → names' ≡ names ++ n ∷ [] → IsGrown new g f names' marks'
  grown_one n joins is = record {
    has = has;
    at_least_two = (let long = ap length is in let sum = length-append names (n ∷ []) in let some = grown.at_least_two in omega (arith, long, sum, some));
    reached = subst (λ ns. Reach g (bodies f) (bodies (replaced f ns))) (sym is) (reached_one ix g f sound names marks grown n joins);
  }

  pub grown_both : (m n : Name) → Joins ix marks (Both m n) → names' ≡ (names ++ m ∷ []) ++ n ∷ [] → IsGrown new g f names' marks'
  grown_both m n joins is =
      let both : names' ≡ names ++ m ∷ n ∷ [] = is ∙ append_assoc names (m ∷ []) (n ∷ []) in
      record {
        has = has;
        at_least_two = (let long = ap length both in let sum = length-append names (m ∷ n ∷ []) in let some = grown.at_least_two in omega (arith, long, sum, some));
        reached = subst (λ ns. Reach g (bodies f) (bodies (replaced f ns))) (sym both) (reached_both ix g f sound names marks grown m n joins);
      }

-- and a merge that may be taken begins it
pub begun : (g : Graph) (f : Clusters) → IsSound f → (m : Merge) → CanTake g f m → (new : Index) (names : List Name) (marks : List Bool) → names ≡ names_of m → HasGrown new g f names marks → IsGrown new g f names marks
begun g f sound m can new names marks is has = record {
  has = has;
  at_least_two = subst (λ ns. 1 < length ns) (sym is) (two_or_more m);
  reached = subst (λ ns. Reach g (bodies f) (bodies (replaced f ns))) (sym is) (goes (merge_steps g f sound m can.0 can.1) stays);
}
  where
    two_or_more : (m : Merge) → 1 < length (names_of m)
    two_or_more (Two x y) = omega arith
    two_or_more (Three x y z) = omega arith
