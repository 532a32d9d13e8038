-- What the walk finds are just the triples of clusters that meet: of three corners one is neither the
-- highest nor the lowest.
use Rattle.std.proofs.Common.{◌≡◌, ◌≢◌, ◌⊎◌, ◌∙◌, inl, inr, refl, ℕ, Bool, List, [], ◌∷◌, sym, subst, ap, arith}
use Rattle.std.specs.Prelude.{◌↔◌, Contains}
use Rattle.sk_base.specs.declared.Elem.{Elem}
use Rattle.sk_base.specs.declared.Name.{Name}
use Rattle.sk_base.specs.Numbering.{elem_exact}
use Rattle.sk_base.specs.ClusterNames.{IsBelow}
use Rattle.sk_base.proofs.Unions.{which}
use Rattle.sk_triangles.specs.declared.End.{End}
use Rattle.sk_triangles.specs.Ends.{end_of}
use Rattle.sk_triangles.specs.Growing.{FromSome}
use Rattle.sk_triangles.specs.Marks.{IsMarked}
use Rattle.sk_family.specs.declared.Cluster.{Cluster}
use Rattle.sk_family.specs.declared.Merge.{Merge}
use Rattle.sk_family.specs.declared.Merge.TheVariants.{Three}
use Rattle.sk_family.proofs.Naming.{below_chain, below_differs, below_tells}
use Rattle.sk_neighbours.specs.AllTriples.{EndsOf, IsMergeOfThree, IsTripleAmong, MeetMarked}
use Rattle.sk_neighbours.proofs.OneMerge.{falling_merge, merge_exchanged, merge_turned, one_merge}
use Rattle.sk_triangles.specs.Ranks.{IsLower, count_in}
use Rattle.sk_triangles.specs.Walk.{Found}

-- a lower element is another one, and of two others one is lower
lower_differs : (counts : List ℕ) (e c : Elem) → IsLower counts e c → c ≢ e
lower_differs counts e c (inl fewer) same = (let level = ap (λ (d : Elem). count_in counts d) same in absurd (omega arith))
lower_differs counts e c (inr (level, less)) same = (let number = ap (λ (d : Elem). d.0) same in absurd (omega arith))

one_is_lower : (counts : List ℕ) (a b : Elem) → a ≢ b → IsLower counts a b ⊎ IsLower counts b a
one_is_lower counts a b differ =
    elim (which (count_in counts a) (count_in counts b)) [
      | inl fewer ↦ inl (inl fewer)
      | inr (inr more) ↦ inr (inl more)
      | inr (inl level) ↦ elim (which a.0 b.0) [
        | inl less ↦ inl (inr (level, less))
        | inr (inl same) ↦ absurd (differ (elem_exact a b same))
        | inr (inr above) ↦ inr (inr (sym level, above))
      ]
    ]

module _ (lines : List Bool) where
  -- clusters that meet, begun at the next one, and with the first two exchanged
  on : (xs ys zs : List Elem) → MeetMarked lines xs ys zs → MeetMarked lines ys zs xs
  on xs ys zs (a, b, c, a_in, b_in, c_in, a_b, (c_a, c_b, marks)) = (b, c, a, b_in, c_in, a_in, (λ e. c_b (sym e)), (a_b, (λ e. c_a (sym e)), (λ (lb, lc, la). marks (la, lb, lc))))

  swapped : (xs ys zs : List Elem) → MeetMarked lines xs ys zs → MeetMarked lines ys xs zs
  swapped xs ys zs (a, b, c, (a_x, a_y), (b_y, b_z), (c_z, c_x), a_b, (c_a, c_b, marks)) =
      (a, c, b, (a_y, a_x), (c_x, c_z), (b_z, b_y), (λ e. c_a (sym e)), ((λ e. a_b (sym e)), (λ e. c_b (sym e)), (λ (la, lc, lb). marks (la, lb, lc))))

  module _ (clusters : List Cluster) where
    falling : (a b c : Cluster) → Contains clusters a → Contains clusters b → Contains clusters c → IsBelow b.name a.name → IsBelow c.name b.name → MeetMarked lines a.elements b.elements c.elements
        → (m : Merge) → IsMergeOfThree a.name b.name c.name m → IsTripleAmong lines clusters m
    falling a b c a_in b_in c_in b_a c_b meets m is =
        (a, b, c, a_in, b_in, c_in, b_a, c_b, meets, one_merge (a.name ∷ b.name ∷ c.name ∷ []) m (Three a.name b.name c.name) is (falling_merge a.name b.name c.name b_a c_b))

    with_third : (a b c : Cluster) → Contains clusters a → Contains clusters b → Contains clusters c → IsBelow b.name a.name → c.name ≢ a.name → c.name ≢ b.name → MeetMarked lines a.elements b.elements c.elements
        → (m : Merge) → IsMergeOfThree a.name b.name c.name m → IsTripleAmong lines clusters m
    with_third a b c a_in b_in c_in b_a c_a c_b meets m is =
        elim (below_tells c.name b.name) [
          | inl below ↦ falling a b c a_in b_in c_in b_a below meets m is
          | inr (inl same) ↦ absurd (c_b same)
          | inr (inr above) ↦ elim (below_tells c.name a.name) [
            | inl under ↦ falling a c b a_in c_in b_in under above
                (on b.elements a.elements c.elements (swapped a.elements b.elements c.elements meets)) m
                (merge_turned b.name a.name c.name m (merge_exchanged a.name b.name c.name m is))
            | inr (inl same) ↦ absurd (c_a same)
            | inr (inr over) ↦ falling c a b c_in a_in b_in over b_a
                (on b.elements c.elements a.elements (on a.elements b.elements c.elements meets)) m
                (merge_turned b.name c.name a.name m (merge_turned a.name b.name c.name m is))
          ]
        ]

    any : (a b c : Cluster) → Contains clusters a → Contains clusters b → Contains clusters c → b.name ≢ a.name → c.name ≢ a.name → c.name ≢ b.name → MeetMarked lines a.elements b.elements c.elements
        → (m : Merge) → IsMergeOfThree a.name b.name c.name m → IsTripleAmong lines clusters m
    any a b c a_in b_in c_in b_a c_a c_b meets m is =
        elim (below_tells b.name a.name) [
          | inl below ↦ with_third a b c a_in b_in c_in below c_a c_b meets m is
          | inr (inl same) ↦ absurd (b_a same)
          | inr (inr above) ↦ with_third b a c b_in a_in c_in above c_b c_a (swapped a.elements b.elements c.elements meets) m (merge_exchanged a.name b.name c.name m is)
        ]

module _ (lines : List Bool) (counts : List ℕ) (clusters : List Cluster) (ends : List End) (made : (x : End) → Contains ends x ↔ FromSome EndsOf clusters x) where
  -- each end is one of a cluster that has its corner and its element
  cluster_of : (x : End) → Contains ends x → (r : Cluster) × Contains clusters r × (r.name ≡ x.name) × Contains r.elements x.corner × Contains r.elements x.elem
  cluster_of x x_in =
      let (r, r_in, (c, c_r, (d, d_r, is))) = (made x).0 x_in in (
        r,
        r_in,
        sym (ap (λ (y : End). y.name) is),
        subst (λ e. Contains r.elements e) (sym (ap (λ (y : End). y.corner) is)) c_r,
        subst (λ e. Contains r.elements e) (sym (ap (λ (y : End). y.elem) is)) d_r,
      )

  end_in : (r : Cluster) → Contains clusters r → (c d : Elem) → Contains r.elements c → Contains r.elements d → Contains ends (end_of r.name c d)
  end_in r r_in c d c_r d_r = (made (end_of r.name c d)).1 (r, r_in, (c, c_r, (d, d_r, refl)))

  found_is : (m : Merge) → FromSome (Found IsMergeOfThree lines counts ends) ends m → IsTripleAmong lines clusters m
  found_is m (x, x_in, (lower, y, y_in, y_x, (y_not_x, (d_c, d_e, marks)), z, z_in, z_x, high, z_y, (x_not_z, y_not_z, triple))) =
      let (p, p_in, p_is, c_p, e_p) = cluster_of x x_in in
      let (q, q_in, q_is, e_q, d_q) = cluster_of y y_in in
      let (r, r_in, r_is, c_r, d_r) = cluster_of z z_in in
      let meets : MeetMarked lines r.elements p.elements q.elements = (
        x.corner,
        x.elem,
        y.elem,
        (subst (λ e. Contains r.elements e) z_x c_r, c_p),
        (e_p, subst (λ e. Contains q.elements e) y_x e_q),
        (d_q, subst (λ e. Contains r.elements e) z_y d_r),
        lower_differs counts x.elem x.corner lower,
        (d_c, d_e, marks),
      ) in
      let named : IsMergeOfThree r.name p.name q.name m =
      subst (λ n. IsMergeOfThree n p.name q.name m) (sym r_is) (subst (λ n. IsMergeOfThree z.name n q.name m) (sym p_is) (subst (λ n. IsMergeOfThree z.name x.name n m) (sym q_is) triple)) in
      any lines clusters r p q r_in p_in q_in (λ e. x_not_z (sym p_is ∙ e ∙ r_is)) (λ e. y_not_z (sym q_is ∙ e ∙ r_is)) (λ e. y_not_x (sym q_is ∙ e ∙ p_is)) meets m named

  -- l is lower than h, which is lower than d; u has h and d, v has h and l, w has l and d
  found : (u v w : Cluster) → Contains clusters u → Contains clusters v → Contains clusters w → (h l d : Elem) → Contains u.elements h → Contains v.elements h → Contains v.elements l → Contains w.elements l → Contains w.elements d → Contains u.elements d
      → IsLower counts l h → IsLower counts h d → v.name ≢ u.name → w.name ≢ u.name → w.name ≢ v.name → d ≢ h → d ≢ l → (IsMarked lines h × IsMarked lines l × IsMarked lines d → ⊥) → (m : Merge) → IsMergeOfThree u.name v.name w.name m
      → FromSome (Found IsMergeOfThree lines counts ends) ends m
  found u v w u_in v_in w_in h l d h_u h_v l_v l_w d_w d_u lower higher v_u w_u w_v d_h d_l marks m triple = (
    end_of v.name h l,
    end_in v v_in h l h_v l_v,
    (lower, end_of w.name l d, end_in w w_in l d l_w d_w, refl, (w_v, (d_h, d_l, marks)), end_of u.name h d, end_in u u_in h d h_u d_u, refl, higher, refl, (v_u, w_u, triple)),
  )

  -- each triple is found from a corner that is neither the highest nor the lowest
  module _ (x y z : Cluster) (x_in : Contains clusters x) (y_in : Contains clusters y) (z_in : Contains clusters z) (y_x : IsBelow y.name x.name) (z_y : IsBelow z.name y.name) (a b c : Elem)
      (a_x : Contains x.elements a) (a_y : Contains y.elements a) (b_y : Contains y.elements b) (b_z : Contains z.elements b) (c_z : Contains z.elements c) (c_x : Contains x.elements c)
      (a_b : a ≢ b) (c_a : c ≢ a) (c_b : c ≢ b) (marks : IsMarked lines a × IsMarked lines b × IsMarked lines c → ⊥) (m : Merge) (m_is : m ≡ Three x.name y.name z.name) where
    z_x : IsBelow z.name x.name
    z_x = below_chain z.name y.name x.name z_y y_x

    b_c : b ≢ c
    b_c e = c_b (sym e)

    y_not_x : y.name ≢ x.name
    y_not_x = below_differs y.name x.name y_x

    z_not_y : z.name ≢ y.name
    z_not_y = below_differs z.name y.name z_y

    z_not_x : z.name ≢ x.name
    z_not_x = below_differs z.name x.name z_x

    back : {X : Type 0} {p q : X} → p ≢ q → q ≢ p
    back differ same = differ (sym same)

    lines_of : IsMarked lines a → IsMarked lines b → IsMarked lines c → ⊥
    lines_of la lb lc = marks (la, lb, lc)

    in_order : IsMergeOfThree x.name y.name z.name m
    in_order = subst (λ n. IsMergeOfThree x.name y.name z.name n) (sym m_is) (falling_merge x.name y.name z.name y_x z_y)

    turned : IsMergeOfThree y.name z.name x.name m
    turned = merge_turned x.name y.name z.name m in_order

    exchanged : IsMergeOfThree y.name x.name z.name m
    exchanged = merge_exchanged x.name y.name z.name m in_order

    exchanged_turned : IsMergeOfThree x.name z.name y.name m
    exchanged_turned = merge_turned y.name x.name z.name m exchanged

    by_a_b : IsLower counts a b → IsLower counts b c → FromSome (Found IsMergeOfThree lines counts ends) ends m
    by_a_b first second =
        found z y x z_in y_in x_in b a c b_z b_y a_y a_x c_x c_z first second (back z_not_y) (back z_not_x) (back y_not_x) (back b_c) c_a
        (λ (lb, la, lc). lines_of la lb lc) m (merge_turned x.name z.name y.name m exchanged_turned)

    by_b_c : IsLower counts b c → IsLower counts c a → FromSome (Found IsMergeOfThree lines counts ends) ends m
    by_b_c first second =
        found x z y x_in z_in y_in c b a c_x c_z b_z b_y a_y a_x first second z_not_x y_not_x (back z_not_y) (back c_a) a_b
        (λ (lc, lb, la). lines_of la lb lc) m exchanged_turned

    by_c_a : IsLower counts c a → IsLower counts a b → FromSome (Found IsMergeOfThree lines counts ends) ends m
    by_c_a first second =
        found y x z y_in x_in z_in a c b a_y a_x c_x c_z b_z b_y first second (back y_not_x) z_not_y z_not_x (back a_b) b_c
        (λ (la, lc, lb). lines_of la lb lc) m exchanged

    by_c_b : IsLower counts c b → IsLower counts b a → FromSome (Found IsMergeOfThree lines counts ends) ends m
    by_c_b first second =
        found y z x y_in z_in x_in b c a b_y b_z c_z c_x a_x a_y first second z_not_y (back y_not_x) (back z_not_x) a_b (back c_a)
        (λ (lb, lc, la). lines_of la lb lc) m turned

    by_a_c : IsLower counts a c → IsLower counts c b → FromSome (Found IsMergeOfThree lines counts ends) ends m
    by_a_c first second =
        found z x y z_in x_in y_in c a b c_z c_x a_x a_y b_y b_z first second (back z_not_x) (back z_not_y) y_not_x b_c (back a_b)
        (λ (lc, la, lb). lines_of la lb lc) m (merge_turned y.name z.name x.name m turned)

    by_b_a : IsLower counts b a → IsLower counts a c → FromSome (Found IsMergeOfThree lines counts ends) ends m
    by_b_a first second =
        found x y z x_in y_in z_in a b c a_x a_y b_y b_z c_z c_x first second y_not_x z_not_x z_not_y c_a (back b_c)
        (λ (la, lb, lc). lines_of la lb lc) m in_order

    -- whichever of each two is lower, two of the three stand one after another
    ranked_has : FromSome (Found IsMergeOfThree lines counts ends) ends m
    ranked_has = chosen (one_is_lower counts a b a_b) (one_is_lower counts b c b_c) (one_is_lower counts c a c_a)
      where
        chosen : IsLower counts a b ⊎ IsLower counts b a → IsLower counts b c ⊎ IsLower counts c b → IsLower counts c a ⊎ IsLower counts a c → FromSome (Found IsMergeOfThree lines counts ends) ends m
        chosen (inl ab) (inl bc) ca = by_a_b ab bc
        chosen (inl ab) (inr cb) (inl ca) = by_c_a ca ab
        chosen (inl ab) (inr cb) (inr ac) = by_a_c ac cb
        chosen (inr ba) (inl bc) (inl ca) = by_b_c bc ca
        chosen (inr ba) (inl bc) (inr ac) = by_b_a ba ac
        chosen (inr ba) (inr cb) ca = by_c_b cb ba

  -- so what is found are just these triples
  pub found_among : (m : Merge) → FromSome (Found IsMergeOfThree lines counts ends) ends m ↔ IsTripleAmong lines clusters m
  found_among m = (
    found_is m,
    (λ (x, y, z, x_in, y_in, z_in, y_x, z_y, (a, b, c, (a_x, a_y), (b_y, b_z), (c_z, c_x), a_b, (c_a, c_b, marks)), m_is).
        ranked_has x y z x_in y_in z_in y_x z_y a b c a_x a_y b_y b_z c_z c_x a_b c_a c_b marks m m_is),
  )
