-- The heir of a covered cluster: how it begins, how it grows by merges, and what its core's triples and its fresh elements tell.
use Rattle.std.proofs.Common.{◌≡◌, ◌≢◌, ◌⊎◌, inl, inr, refl, ℕ, List, [], ◌∷◌, ◌++◌, Bool, true, false, sym, subst, ◌∙◌, ap, arith}
use Rattle.std.specs.Prelude.{All, Contains, Some, not}
use Rattle.std.proofs.lemmas.List.Elements.{All-contains, Contains-append_left, Contains-append_right, Contains-append_cases}
use Rattle.sk_base.specs.declared.Elem.{Elem}
use Rattle.sk_base.specs.declared.Name.{Name}
use Rattle.sk_base.specs.declared.Name.TheVariants.{Con, Step}
use Rattle.sk_base.specs.declared.Graph.{Graph}
use Rattle.sk_base.specs.ClusterNames.{IsBelow, is_named}
use Rattle.sk_base.proofs.Members.{contains_none, contains_head, contains_one, contains_filtered, filtered_from}
use Rattle.sk_family.specs.declared.Cluster.{Cluster}
use Rattle.sk_family.specs.Body.{Body}
use Rattle.sk_family.specs.Clusters.{Clusters, IsLive, IsNamed, IsSound, body_of, replaced, unnamed, whole_from, IsWithin}
use Rattle.sk_family.proofs.Bodies.{each_within, holder_of}
use Rattle.sk_family.proofs.Naming.{among_named, below_irreflexive, below_chain, below_differs, not_named, one_of_name, unnamed_true, below_tells}
use Rattle.sk_family.specs.declared.Merge.{Merge}
use Rattle.sk_family.specs.declared.Merge.TheVariants.{Two, Three}
use Rattle.sk_family.specs.Merges.{Falls, names_of}
use Rattle.sk_rules.specs.Merges.{merged, CanTake}
use Rattle.sk_family.specs.Rules.{SharesTwo, MeetsInThree}
use Rattle.sk_family.proofs.Meeting.{meets_on, meets_swapped, shares_back}
use Rattle.sk_open_triples.specs.declared.Heir.{Heir}
use Rattle.sk_open_triples.specs.Avoiding.{avoiding}
use Rattle.sk_close_by_order.specs.Known.{AreKept, Knows, NoPairBelow}
use Rattle.sk_open_triples.specs.Inherited.{IsBeside}
use Rattle.sk_close_by_order.specs.Heirs.{IsKeptWith, IsNoHeir, IsHeir, IsHeirOf, IsFreshOn}
use Rattle.sk_close_by_order.proofs.Mending.{avoiding_none, no_pair_at_all}
use Rattle.sk_family.proofs.Lasting.{live_below_next}
use Rattle.sk_family.proofs.Parts.{parts, in_parts, from_parts}

module _ (g : Graph) (f : Clusters) (sound : IsSound f) where
  -- a triple that has the name and falls has the other two in order, and other than it
  beside_falls : (t : Merge) (n p q : Name) → Falls t → IsBeside t n p q → IsBelow q p × (p ≢ n) × (q ≢ n)
  beside_falls (Two x y) n p q falls beside = absurd beside
  beside_falls (Three x y z) n p q (xy, yz) (inl (x_is, y_is, z_is)) = (
    subst (λ k. IsBelow k p) z_is (subst (λ k. IsBelow z k) y_is yz),
    (λ e. below_irreflexive n (subst (λ k. IsBelow k n) (y_is ∙ e) (subst (λ k. IsBelow y k) x_is xy))),
    (λ e. below_irreflexive n (subst (λ k. IsBelow k n) (z_is ∙ e) (subst (λ k. IsBelow z k) x_is (below_chain z y x yz xy)))),
  )
  beside_falls (Three x y z) n p q (xy, yz) (inr (inl (other, y_is, x_is, z_is))) = (
    subst (λ k. IsBelow k p) z_is (subst (λ k. IsBelow z k) x_is (below_chain z y x yz xy)),
    (λ e. other (x_is ∙ e)),
    (λ e. below_irreflexive n (subst (λ k. IsBelow k n) (z_is ∙ e) (subst (λ k. IsBelow z k) y_is yz))),
  )
  beside_falls (Three x y z) n p q (xy, yz) (inr (inr (other, later, z_is, x_is, y_is))) = (
    subst (λ k. IsBelow k p) y_is (subst (λ k. IsBelow y k) x_is xy),
    (λ e. other (x_is ∙ e)),
    (λ e. later (y_is ∙ e)),
  )

  -- and where it may be taken, the named clusters make a triangle with the one of the name
  beside_meets : (t : Merge) (n p q : Name) → CanTake g f t → IsBeside t n p q → (a : Cluster) × (c : Cluster) × (d : Cluster) × IsNamed f n a × IsNamed f p c × IsNamed f q d × MeetsInThree g a.elements c.elements d.elements
  beside_meets (Two x y) n p q can beside = absurd beside
  beside_meets (Three x y z) n p q (falls, (a, b, c, a_is, b_is, c_is, meets)) (inl (x_is, y_is, z_is)) =
      (a, b, c, subst (λ k. IsNamed f k a) x_is a_is, subst (λ k. IsNamed f k b) y_is b_is, subst (λ k. IsNamed f k c) z_is c_is, meets)
  beside_meets (Three x y z) n p q (falls, (a, b, c, a_is, b_is, c_is, meets)) (inr (inl (other, y_is, x_is, z_is))) =
      (b, a, c, subst (λ k. IsNamed f k b) y_is b_is, subst (λ k. IsNamed f k a) x_is a_is, subst (λ k. IsNamed f k c) z_is c_is, meets_swapped g a.elements b.elements c.elements meets)
  beside_meets (Three x y z) n p q (falls, (a, b, c, a_is, b_is, c_is, meets)) (inr (inr (other, later, z_is, x_is, y_is))) = (
    c,
    a,
    b,
    subst (λ k. IsNamed f k c) z_is c_is,
    subst (λ k. IsNamed f k a) x_is a_is,
    subst (λ k. IsNamed f k b) y_is b_is,
    meets_on g b.elements c.elements a.elements (meets_on g a.elements b.elements c.elements meets),
  )

  itself : (c : Cluster) → Contains f.live c → IsNamed f c.name c
  itself c c_in = record { lives = c_in; has_name = refl }

  -- while all triples are kept and no pair may merge, each cluster is its own heir
  module _ (covered : Name) (all_covered : covered ≡ Step f.next_step) (kept : List Merge) (are : AreKept g f (λ x. IsBelow x covered) kept) (no_pair : (p q : Name) → ¬ CanTake g f (Two p q)) (a : Cluster) (a_in : Contains f.live a) where
    covers : (c : Cluster) → Contains f.live c → IsBelow c.name covered
    covers c c_in = subst (λ k. IsBelow c.name k) (sym all_covered) (live_below_next f sound c c_in)

    -- a triangle with two other clusters is kept, wherever the name stands among theirs
    is_kept : (c d : Cluster) → Contains f.live c → Contains f.live d → c.name ≢ a.name → d.name ≢ a.name → IsBelow d.name c.name → MeetsInThree g a.elements c.elements d.elements → IsKeptWith kept a.name c.name d.name
    is_kept c d c_in d_in c_other d_other falls meets =
        elim (below_tells c.name a.name) [
          | inl c_a ↦ (Three a.name c.name d.name, are.all a.name c.name d.name (covers a a_in) ((c_a, falls), (a, c, d, itself a a_in, itself c c_in, itself d d_in, meets)), inl (refl, refl, refl))
          | inr (inl same) ↦ absurd (c_other same)
          | inr (inr a_c) ↦ elim (below_tells d.name a.name) [
            | inl d_a ↦ (
              Three c.name a.name d.name,
              are.all c.name a.name d.name (covers c c_in) ((a_c, d_a), (c, a, d, itself c c_in, itself a a_in, itself d d_in, meets_swapped g a.elements c.elements d.elements meets)),
              inr (inl (c_other, refl, refl, refl)),
            )
            | inr (inl same) ↦ absurd (d_other same)
            | inr (inr a_d) ↦ (
              Three c.name d.name a.name,
              are.all c.name d.name a.name (covers c c_in) ((falls, a_d), (c, d, a, itself c c_in, itself d d_in, itself a a_in, meets_on g a.elements c.elements d.elements meets)),
              inr (inr (c_other, d_other, refl, refl, refl)),
            )
          ]
        ]

    no_two : (c : Cluster) → Contains f.live c → c.name ≢ a.name → ¬ SharesTwo a.elements c.elements
    no_two c c_in other two =
        elim (below_tells c.name a.name) [
          | inl below ↦ no_pair a.name c.name (below, (a, c, itself a a_in, itself c c_in, two))
          | inr (inl same) ↦ other same
          | inr (inr above) ↦ no_pair c.name a.name (above, (c, a, itself c c_in, itself a a_in, shares_back a.elements c.elements two))
        ]

    its_elements : (w : Cluster) → IsNamed f a.name w → a ≡ w
    its_elements w w_is = one_of_name f sound a.name a w (itself a a_in) w_is

    pub heir_begins : IsHeir g f covered kept [] (record { core = a.name; name = a.name }) []
    heir_begins = record {
      part = a.elements;
      lives = (a, itself a a_in);
      whole = λ w w_is e. (
        (λ h. inl (subst (λ (x : Cluster). Contains x.elements e) (sym (its_elements w w_is)) h)),
        (λ h. elim h [ inl was ↦ subst (λ (x : Cluster). Contains x.elements e) (its_elements w w_is) was | inr none ↦ absurd (contains_none e none) ]),
      );
      alone = λ c c_in other. covers c c_in;
      no_pair = no_two;
      had = λ c d c_in d_in c_other d_other falls. (
        (λ (t, t_in, beside). (
            let (x, y, z, x_is, y_is, z_is, meets) = beside_meets t a.name c.name d.name (are.right t t_in).0 beside in
            subst (λ (w : Cluster). MeetsInThree g w.elements c.elements d.elements) (one_of_name f sound a.name x a x_is (itself a a_in))
            (subst (λ (w : Cluster). MeetsInThree g x.elements w.elements d.elements) (one_of_name f sound c.name y c y_is (itself c c_in))
            (subst (λ (w : Cluster). MeetsInThree g x.elements y.elements w.elements) (one_of_name f sound d.name z d z_is (itself d d_in)) meets)))),
        is_kept c d c_in d_in c_other d_other falls,
      );
      known = λ p q (t, t_in, beside). (
          let can = (are.right t t_in).0 in
          let (x, y, z, x_is, y_is, z_is, meets) = beside_meets t a.name p q can beside in
          let (falls, p_other, q_other) = beside_falls t a.name p q can.0 beside in
          (falls, (p_other, inl (y, y_is)), (q_other, inl (z, z_is))));
      dead = λ n n_in. absurd (contains_none n n_in);
    }

  -- a merge that names the heir makes its heir
  module _ (covered : Name) (within : IsWithin f covered) (kept : List Merge) (gone : List Name) (heir : Heir) (fresh fresh' : List Elem) (is : IsHeir g f covered kept gone heir fresh)
      (names : List Name) (all_live : All (λ n. IsLive f n) names) (named : Contains names heir.name) (on : IsFreshOn f names heir.name fresh fresh') where
    abbrev next : Name
    next = Step f.next_step

    abbrev whole : Cluster
    whole = whole_from next names f.live

    abbrev after : Clusters
    after = replaced f names

    live_below : (n : Name) → IsLive f n → IsBelow n next
    live_below n (c, c_is) = subst (λ k. IsBelow k next) c_is.has_name (live_below_next f sound c c_is.lives)

    -- a cluster behind the merge stood before, under a name that it doesn't name, or it is the new one
    stood : (c : Cluster) → Contains after.live c → (Contains f.live c × ¬ Contains names c.name) ⊎ (whole ≡ c)
    stood c c_in =
        elim (Contains-append_cases (unnamed names f.live) (whole ∷ []) c c_in) [
          | inl old ↦ inl (let was = filtered_from (λ (d : Cluster). not (is_named names d.name)) f.live c old in (was.0, not_named names c.name was.1))
          | inr new ↦ inr (contains_one whole c new)
        ]

    -- where it isn't the new one, it stood under another name than the heir's
    stood_other : (c : Cluster) → Contains after.live c → c.name ≢ next → Contains f.live c × (c.name ≢ heir.name)
    stood_other c c_in other =
        elim (stood c c_in) [
          | inl (was, apart) ↦ (was, (λ same. apart (subst (λ k. Contains names k) (sym same) named)))
          | inr new ↦ absurd (other (ap (λ (d : Cluster). d.name) (sym new)))
        ]

    stays : (n : Name) → IsLive f n → ¬ Contains names n → IsLive after n
    stays n (c, c_is) apart = (
      c,
      record {
        lives = Contains-append_left (unnamed names f.live) (whole ∷ []) c
            (contains_filtered (λ (d : Cluster). not (is_named names d.name)) f.live c c_is.lives (unnamed_true names c.name (λ h. apart (subst (λ k. Contains names k) c_is.has_name h))));
        has_name = c_is.has_name;
      },
    )

    has : (c : Cluster) (e : Elem) → Contains f.live c → Contains names c.name → Contains c.elements e → Contains whole.elements e
    has c e c_in n_in e_in = (each_within (parts f names) (body_of c) (in_parts f names c c_in n_in)).elements e e_in

    has_old : (e : Elem) → Contains is.part e ⊎ Contains fresh e → Contains whole.elements e
    has_old e h =
        let (w, w_is) = is.lives in
        has w e w_is.lives (subst (λ k. Contains names k) (sym w_is.has_name) named) ((is.whole w w_is e).1 h)

    from_whole : (e : Elem) → Contains whole.elements e → Contains is.part e ⊎ Contains fresh' e
    from_whole e h =
        let (b, b_in, b_e) = holder_of (parts f names) e h in
        let (c, c_in, n_in, b_is) = from_parts f names b b_in in
        let e_in : Contains c.elements e = subst (λ (x : Body). Contains x.elements e) (sym b_is) b_e in
        elim (on.all c e c_in n_in e_in) [
          | inl new ↦ inr new
          | inr (w, w_is, e_w) ↦ elim ((is.whole w w_is e).0 e_w) [ inl part ↦ inl part | inr old ↦ inr (on.grows e old) ]
        ]

    to_whole : (e : Elem) → Contains is.part e ⊎ Contains fresh' e → Contains whole.elements e
    to_whole e h =
        elim h [
          | inl part ↦ has_old e (inl part)
          | inr new ↦ elim (on.right e new) [ inl old ↦ has_old e (inr old) | inr (c, c_in, n_in, e_in) ↦ has c e c_in n_in e_in ]
        ]

    new_is_whole : (w : Cluster) → IsNamed after next w → whole ≡ w
    new_is_whole w w_is =
        elim (stood w w_is.lives) [
          | inl (was, apart) ↦ absurd (below_irreflexive next (subst (λ k. IsBelow k next) w_is.has_name (live_below_next f sound w was)))
          | inr new ↦ new
        ]

    above_all : (n : Name) → IsBelow n next → n ≢ next
    above_all n below = below_differs n next below

    once_below : (n : Name) → IsBelow n next → IsBelow n (Step after.next_step)
    once_below (Con k) below = tt
    once_below (Step k) below = omega (arith, below)

    still_known : (n : Name) → IsNoHeir f gone heir.name n → IsNoHeir after (gone ++ names) next n
    still_known n (other, inl lives) = (
      above_all n (live_below n lives),
      told (is_named names n) refl,
    )
      where
        told : (b : Bool) → is_named names n ≡ b → IsLive after n ⊎ Contains (gone ++ names) n
        told true h = inr (Contains-append_right gone names n (among_named names n h))
        told false h = inl (stays n lives (not_named names n (ap not h)))
    still_known n (other, inr was) = (above_all n (is.dead n was).0, inr (Contains-append_left gone names n was))

    not_live : (n : Name) → IsBelow n next → ((c : Cluster) → IsNamed f n c → Contains names c.name) → ¬ IsLive after n
    not_live n below only (c, c_is) =
        elim (stood c c_is.lives) [
          | inl (was, apart) ↦ apart (only c (record { lives = was; has_name = c_is.has_name }))
          | inr new ↦ above_all n below (sym c_is.has_name ∙ ap (λ (d : Cluster). d.name) (sym new))
        ]

    pub heir_grows : IsHeir g after covered kept (gone ++ names) (record { core = heir.core; name = next }) fresh'
    heir_grows = record {
      part = is.part;
      lives = (whole, record { lives = Contains-append_right (unnamed names f.live) (whole ∷ []) whole (contains_head whole []); has_name = refl });
      whole = λ w w_is e. (
        (λ h. from_whole e (subst (λ (x : Cluster). Contains x.elements e) (sym (new_is_whole w w_is)) h)),
        (λ h. subst (λ (x : Cluster). Contains x.elements e) (new_is_whole w w_is) (to_whole e h)),
      );
      alone = λ c c_in other. (let was = stood_other c c_in other in is.alone c was.0 was.1);
      no_pair = λ c c_in other. (let was = stood_other c c_in other in is.no_pair c was.0 was.1);
      had = λ c d c_in d_in c_other d_other falls. (
          let c_was = stood_other c c_in c_other in
          let d_was = stood_other d d_in d_other in
          is.had c d c_was.0 d_was.0 c_was.1 d_was.1 falls);
      known = λ p q kept_with. (let was = is.known p q kept_with in (was.0, still_known p was.1, still_known q was.2));
      dead = λ n n_in. elim (Contains-append_cases gone names n n_in) [
        | inl was ↦ (once_below n (is.dead n was).0, not_live n (is.dead n was).0 (λ c c_is. absurd ((is.dead n was).1 (c, c_is))))
        | inr new ↦ (let lives = All-contains (λ k. IsLive f k) names n all_live new in
            (once_below n (live_below n lives), not_live n (live_below n lives) (λ c c_is. subst (λ k. Contains names k) (sym c_is.has_name) new)))
      ];
    }

-- while the worklist keeps all triples, and knows that no pair may merge, the live cluster of a name is its own heir
pub heir_of_all : (g : Graph) (f : Clusters) → IsSound f → (clear covered : Name) (kept : List Merge) (gone : List Name) (fresh : List Elem) (n : Name) (a : Cluster) → IsNamed f n a
    → gone ≡ [] → clear ≡ Step f.next_step → covered ≡ Step f.next_step → fresh ≡ [] → Knows clear covered kept gone g f → IsHeir g f covered kept gone (record { core = n; name = n }) fresh
heir_of_all g f sound clear covered kept gone fresh n a a_is gone_is clear_is covered_is fresh_is knows =
    let are : AreKept g f (λ x. IsBelow x covered) kept = subst (λ l. AreKept g f (λ x. IsBelow x covered) l) (ap (λ ns. avoiding ns kept) gone_is ∙ avoiding_none kept) knows.keeps in
    let no_pair : (p q : Name) → ¬ CanTake g f (Two p q) = no_pair_at_all g f sound (subst (λ m. NoPairBelow f m) clear_is knows.no_pair) in
    subst (λ m. IsHeir g f covered kept gone (record { core = m; name = m }) fresh) a_is.has_name
    (subst (λ ns. IsHeir g f covered kept ns (record { core = a.name; name = a.name }) fresh) (sym gone_is)
    (subst (λ es. IsHeir g f covered kept [] (record { core = a.name; name = a.name }) es) (sym fresh_is)
    (heir_begins g f sound covered covered_is kept are no_pair a a_is.lives)))

-- what a merge that names the heir makes of it, which isn't covered
pub heir_of_merge : (g : Graph) (f : Clusters) → IsSound f → (covered : Name) → IsWithin f covered → (kept : List Merge) (gone : List Name) (heir : Heir) (fresh more : List Elem) → IsHeir g f covered kept gone heir fresh
    → (m : Merge) → All (λ n. IsLive f n) (names_of m) → Contains (names_of m) heir.name → IsFreshOn f (names_of m) heir.name fresh more → Contains (gone ++ names_of m) heir.core
    → (step : ℕ) → step ≡ f.next_step → IsHeirOf g (merged f m) covered kept (gone ++ names_of m) (Some (record { core = heir.core; name = Step step })) more
heir_of_merge g f sound covered within kept gone heir fresh more is m all_live named on core step step_is =
    subst (λ k. IsHeirOf g (merged f m) covered kept (gone ++ names_of m) (Some (record { core = heir.core; name = Step k })) more) (sym step_is)
    (heir_grows g f sound covered within kept gone heir fresh more is (names_of m) all_live named on, within, core)
