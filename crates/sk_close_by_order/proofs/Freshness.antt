-- What the heir's fresh elements and its core's triples tell through the index.
use Rattle.std.proofs.Common.{◌≡◌, ◌≢◌, ◌⊎◌, inl, inr, refl, List, sym, subst, ◌∙◌, ap}
use Rattle.std.specs.Prelude.{◌↔◌, Contains, Option, None, Some}
use Rattle.sk_base.specs.declared.Elem.{Elem}
use Rattle.sk_base.specs.declared.Name.{Name}
use Rattle.sk_base.specs.declared.Graph.{Graph}
use Rattle.sk_base.specs.ClusterNames.{IsBelow}
use Rattle.sk_family.specs.declared.Cluster.{Cluster}
use Rattle.sk_family.specs.Clusters.{Clusters, IsLive, IsNamed, IsSound}
use Rattle.sk_family.proofs.Naming.{below_chain, below_differs, below_irreflexive, one_of_name, below_others, below_tells}
use Rattle.sk_family.specs.declared.Merge.{Merge}
use Rattle.sk_family.specs.declared.Merge.TheVariants.{Three}
use Rattle.sk_family.specs.Rules.{MeetsInThree}
use Rattle.sk_neighbours.specs.declared.Index.{Index}
use Rattle.sk_neighbours.specs.Indexed.{Represents}
use Rattle.sk_triangles.specs.Growing.{FromSome}
use Rattle.sk_open_triples.specs.declared.Heir.{Heir}
use Rattle.sk_neighbours.specs.declared.Third.TheVariants.{Either}
use Rattle.sk_rules.specs.Merges.{CanTake, TakesFrom}
use Rattle.sk_neighbours.specs.Partners.{Partner, PartnerOf}
use Rattle.sk_neighbours.specs.Triples.{AtCorner}
use Rattle.sk_close_by_order.specs.Gather.{IsUncovered}
use Rattle.sk_open_triples.specs.Inherited.{Inherits, IsBeside}
use Rattle.sk_close_by_order.specs.Heirs.{IsHeir, IsHeirOf, IsNoHeir, IsOfHeir, TellsFresh}
use Rattle.sk_neighbours.proofs.Gathered.{at_corner, found_at}
use Rattle.sk_rules.proofs.Takable.{can_triple, triple_can}

-- a name is another or the same
pub one_or_other : (m n : Name) → (m ≡ n) ⊎ (m ≢ n)
one_or_other m n =
    elim (below_tells m n) [
      | inl below ↦ inr (below_differs m n below)
      | inr (inl same) ↦ inl same
      | inr (inr above) ↦ inr (λ e. below_differs n m above (sym e))
    ]

module _ (ix : Index) (g : Graph) (f : Clusters) (sound : IsSound f) (r : Represents ix g f.live) (covered : Name) (kept : List Merge) (gone : List Name) (heir : Heir) (fresh : List Elem)
    (is : IsHeir g f covered kept gone heir fresh) (w : Cluster) (w_is : IsNamed f heir.name w) where
  fresh_within : (e : Elem) → Contains fresh e → Contains w.elements e
  fresh_within e e_in = (is.whole w w_is e).1 (inr e_in)

  other_below : (n : Name) → IsBelow n w.name → n ≢ heir.name
  other_below n below same = below_irreflexive w.name (subst (λ k. IsBelow k w.name) (same ∙ sym w_is.has_name) below)

  partners_by_fresh : (n : Name) → Partner ix w n → (e : Elem) × Contains fresh e × PartnerOf ix w e n
  partners_by_fresh n (y, held, below, (a, b, pair), named) =
      elim ((is.whole w w_is a).0 pair.a_shared.0) [
        | inr new ↦ (a, new, (y, held, pair.a_shared.1, below, (a, b, pair), named))
        | inl a_part ↦ elim ((is.whole w w_is b).0 pair.b_shared.0) [
          | inr new ↦ (b, new, (y, held, pair.b_shared.1, below, (a, b, pair), named))
          | inl b_part ↦ absurd (is.no_pair y ((r.held y).0 held) (other_below y.name below)
              (a, b, record { differ = pair.differ; a_shared = (a_part, pair.a_shared.1); b_shared = (b_part, pair.b_shared.1) }))
        ]
      ]

  module _ (apart : ¬ IsBelow heir.name covered) (listed : List Name) (same : (n : Name) → Contains listed n ↔ Contains gone n) where
    lives_on : (n : Name) → IsLive f n → ¬ Contains listed n
    lives_on n lives n_in = (is.dead n ((same n).0 n_in)).1 lives

    -- each triple of it is inherited, or has a fresh element as a corner
    of_heir : (m : Merge) → TakesFrom g f w m → FromSome (Inherits heir listed) kept m ⊎ FromSome (AtCorner Either ix w) fresh m
    of_heir m takes =
        let (y, z, y_in, z_in, y_below, z_below, (a, b, c, t), m_is) = can_triple g f sound w w_is.lives m takes in
        let z_w = three_below y z y_below z_below in
        elim ((is.whole w w_is a).0 t.a_shared.0) [
          | inr new ↦ inr (a, new, at_corner ix g f.live r w Either y z y_in z_in y_below z_w (below_differs z.name y.name z_below) a b c t m (inl (z_below, m_is)))
          | inl a_part ↦ elim ((is.whole w w_is c).0 t.c_shared.1) [
            | inr new ↦ inr (
              c,
              new,
              at_corner ix g f.live r w Either z y z_in y_in z_w y_below (λ e. below_differs z.name y.name z_below (sym e)) c b a
                  (record {
                    a_shared = (t.c_shared.1, t.c_shared.0);
                    b_shared = (t.b_shared.1, t.b_shared.0);
                    c_shared = (t.a_shared.1, t.a_shared.0);
                    differ = ((λ e. t.differ.1 (sym e)), (λ e. t.differ.0 (sym e)), (λ e. t.differ.2 (sym e)));
                    not_all_lines = λ (lc, lb, la). t.not_all_lines (la, lb, lc);
                  })
                  m (inr (z_below, m_is)),
            )
            | inl c_part ↦
                let (k, k_in, beside) = (is.had y z y_in z_in (other_below y.name y_below) (other_below z.name z_w) z_below).1
                (a, b, c, record { a_shared = (a_part, t.a_shared.1); b_shared = t.b_shared; c_shared = (t.c_shared.0, c_part); differ = t.differ; not_all_lines = t.not_all_lines }) in
                inl (
                  k,
                  k_in,
                  (
                    y.name,
                    z.name,
                    beside,
                    lives_on y.name (y, record { lives = y_in; has_name = refl }),
                    lives_on z.name (z, record { lives = z_in; has_name = refl }),
                    m_is ∙ ap (λ n. Three n y.name z.name) w_is.has_name,
                  ),
                )
          ]
        ]
      where
        three_below : (y z : Cluster) → IsBelow y.name w.name → IsBelow z.name y.name → IsBelow z.name w.name
        three_below y z y_below z_below = below_chain z.name y.name w.name z_below y_below

    lives_there : (n : Name) → IsNoHeir f gone heir.name n → ¬ Contains listed n → (c : Cluster) × IsNamed f n c × (c.name ≢ heir.name)
    lives_there n (other, inl (c, c_is)) apart_from = (c, c_is, (λ e. other (sym c_is.has_name ∙ e)))
    lives_there n (other, inr was) apart_from = absurd (apart_from ((same n).1 was))

    below_it : (c : Cluster) → Contains f.live c → c.name ≢ heir.name → IsBelow c.name w.name
    below_it c c_in other = below_others c.name covered w.name (is.alone c c_in other) (λ h. apart (subst (λ k. IsBelow k covered) w_is.has_name h))

    -- and those may be taken
    inherited_can : (m : Merge) → FromSome (Inherits heir listed) kept m → TakesFrom g f w m
    inherited_can m (t, t_in, (p, q, beside, p_lives, q_lives, m_is)) =
        let (falls, p_other, q_other) = is.known p q (t, t_in, beside) in
        let (c, c_is, c_other) = lives_there p p_other p_lives in
        let (d, d_is, d_other) = lives_there q q_other q_lives in
        let d_c : IsBelow d.name c.name = subst (λ k. IsBelow d.name k) (sym c_is.has_name) (subst (λ k. IsBelow k p) (sym d_is.has_name) falls) in
        let (x, y, z, tri) = (is.had c d c_is.lives d_is.lives c_other d_other d_c).0 (t, t_in, named_beside t p q c.name d.name (sym c_is.has_name) (sym d_is.has_name) beside) in
        let meets : MeetsInThree g w.elements c.elements d.elements = (
          x,
          y,
          z,
          record {
            a_shared = ((is.whole w w_is x).1 (inl tri.a_shared.0), tri.a_shared.1);
            b_shared = tri.b_shared;
            c_shared = (tri.c_shared.0, (is.whole w w_is z).1 (inl tri.c_shared.1));
            differ = tri.differ;
            not_all_lines = tri.not_all_lines;
          },
        ) in
        let can : CanTake g f (Three w.name c.name d.name) =
        ((below_it c c_is.lives c_other, d_c), (w, c, d, record { lives = w_is.lives; has_name = refl }, record { lives = c_is.lives; has_name = refl }, record { lives = d_is.lives; has_name = refl }, meets)) in
        let named : m ≡ Three w.name c.name d.name =
        m_is ∙ ap (λ n. Three n p q) (sym w_is.has_name) ∙ ap (λ n. Three w.name n q) (sym c_is.has_name) ∙ ap (λ n. Three w.name c.name n) (sym d_is.has_name) in
        (subst (λ n. CanTake g f n) (sym named) can, (c.name, d.name, named))
      where
        named_beside : (t : Merge) (p q n l : Name) → p ≡ n → q ≡ l → IsBeside t heir.core p q → IsBeside t heir.core n l
        named_beside t p q n l p_n q_l h = subst (λ k. IsBeside t heir.core n k) q_l (subst (λ k. IsBeside t heir.core k q) p_n h)

    -- what is found of it are just the triples that aren't covered
    pub heir_uncovered : (m : Merge) → IsOfHeir ix f kept heir listed fresh m ↔ IsUncovered g f covered m
    heir_uncovered m = (
      (λ h. (w, (w_is.lives, (λ below. apart (subst (λ k. IsBelow k covered) w_is.has_name below))), from_heir h)),
      (λ (x, (x_in, above), takes). to_heir (of_heir m (subst (λ (c : Cluster). TakesFrom g f c m) (it_is x x_in above) takes))),
    )
      where
        from_heir : IsOfHeir ix f kept heir listed fresh m → TakesFrom g f w m
        from_heir (inl inherited) = inherited_can m inherited
        from_heir (inr (x, x_is, (e, e_in, at))) =
            triple_can g f sound w w_is.lives m (found_at ix g f.live r w Either e (fresh_within e e_in) m (subst (λ (c : Cluster). AtCorner Either ix c e m) (one_of_name f sound heir.name x w x_is w_is) at))

        it_is : (x : Cluster) → Contains f.live x → ¬ IsBelow x.name covered → x ≡ w
        it_is x x_in above =
            elim (one_or_other x.name heir.name) [
              | inl named ↦ one_of_name f sound heir.name x w (record { lives = x_in; has_name = named }) w_is
              | inr other ↦ absurd (above (is.alone x x_in other))
            ]

        to_heir : FromSome (Inherits heir listed) kept m ⊎ FromSome (AtCorner Either ix w) fresh m → IsOfHeir ix f kept heir listed fresh m
        to_heir (inl h) = inl h
        to_heir (inr h) = inr (w, w_is, h)

-- all clusters of the family tell their partners by the fresh elements, if it is the heir
pub tells : (ix : Index) (g : Graph) (f : Clusters) → IsSound f → Represents ix g f.live → (covered : Name) (kept : List Merge) (gone : List Name) (heir : Option Heir) (fresh : List Elem)
    → IsHeirOf g f covered kept gone heir fresh → (x : Cluster) → Contains f.live x → TellsFresh ix heir fresh x
tells ix g f sound r covered kept gone None fresh none x x_in = tt
tells ix g f sound r covered kept gone (Some heir) fresh (is, _, _) x x_in = λ named. partners_by_fresh ix g f sound r covered kept gone heir fresh is x (record { lives = x_in; has_name = named })
