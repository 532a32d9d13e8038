-- A merge that may be taken has least elements by which its rule holds.
use Rattle.std.proofs.Common.{◌≡◌, ◌≢◌, ◌⊎◌, inl, inr, refl, ◌<◌, List, [], ◌∷◌, ap, sym, subst, ◌∙◌, arith}
use Rattle.std.specs.Prelude.{Contains, AllPairs, Some, None, ◌↔◌}
use Rattle.sk_base.specs.declared.Elem.{Elem}
use Rattle.sk_base.specs.declared.Graph.{Graph}
use Rattle.sk_base.specs.Numbering.{elem_exact, elem_number}
use Rattle.sk_base.proofs.Members.{contains_none, contains_head, contains_later, contains_one, contains_cases}
use Rattle.sk_base.proofs.Pairs.{pairs_tail, pairs_head}
use Rattle.sk_base.proofs.Unions.{which}
use Rattle.sk_family.specs.Clusters.{Clusters}
use Rattle.sk_family.specs.declared.Merge.{Merge}
use Rattle.sk_family.specs.declared.Merge.TheVariants.{Two, Three}
use Rattle.sk_rules.specs.declared.Shared.{Shared}
use Rattle.sk_family.specs.Rules.{IsShared, IsTriangle, SharesTwo, MeetsInThree}
use Rattle.sk_rules.specs.Merges.{Holds, IsLeastPair, ComesBefore, IsLeastTriangle, IsLeastShared}
use Rattle.sk_base.proofs.Deciding.{elem_settles, both, is_in}
use Rattle.sk_base.proofs.Selecting.{number_tells, selected, times, in_times}
use Rattle.sk_rules.proofs.SettledRules.{triangle_decided}

abbrev Lower : Elem → Elem → Type 0
Lower a b = a.0 < b.0

lower_tells : (a b : Elem) → Lower a b ⊎ ((a ≡ b) ⊎ Lower b a)
lower_tells = number_tells elem_number elem_exact

lower_chain : (a b c : Elem) → Lower a b → Lower b c → Lower a c
lower_chain a b c h k = omega arith

lower_differs : (a b : Elem) → Lower a b → a ≢ b
lower_differs a b h e = (let same = ap (λ (x : Elem). x.0) e in absurd (omega arith))

pub least_pair : (xs ys : List Elem) → SharesTwo xs ys → (a : Elem) × (b : Elem) × IsLeastPair xs ys a b
least_pair xs ys (p, q, pair) =
    let found = selected Lower lower_tells lower_chain (λ e. IsShared xs ys e) (λ e. both (is_in elem_settles xs e) (is_in elem_settles ys e)) xs in
    told found.0 found.1 found.2
  where
    told : (es : List Elem) → AllPairs Lower es → ((e : Elem) → Contains es e ↔ (Contains xs e × IsShared xs ys e)) → (a : Elem) × (b : Elem) × IsLeastPair xs ys a b
    told [] rises is = absurd (contains_none p ((is p).1 (pair.a_shared.0, pair.a_shared)))
    told (e ∷ []) rises is =
        absurd (pair.differ (sym (contains_one e p ((is p).1 (pair.a_shared.0, pair.a_shared))) ∙ contains_one e q ((is q).1 (pair.b_shared.0, pair.b_shared))))
    told (a ∷ b ∷ es) rises is =
        let below : Lower a b = pairs_head Lower a (b ∷ es) rises b (contains_head b es) in (
          a,
          b,
          record {
            pair = record {
              differ = lower_differs a b below;
              a_shared = ((is a).0 (contains_head a (b ∷ es))).1;
              b_shared = ((is b).0 (contains_later a (b ∷ es) b (contains_head b es))).1;
            };
            ascends = below;
            least = λ e shared. elim (contains_cases a (b ∷ es) e ((is e).1 (shared.0, shared))) [
              | inl first ↦ inl (sym first)
              | inr rest ↦ elim (contains_cases b es e rest) [
                | inl second ↦ inr (let same = ap (λ (x : Elem). x.0) second in omega arith)
                | inr later ↦ inr (let less : Lower b e = pairs_head Lower b es (pairs_tail Lower a (b ∷ es) rises) e later in omega arith)
              ]
            ];
          },
        )

record Corners : Type 0 where
  p : Elem
  q : Elem
  r : Elem

abbrev Before : Corners → Corners → Type 0
Before t u = ComesBefore t.p t.q t.r u.p u.q u.r

make : Elem → Elem → Elem → Corners
make x y z = record { p = x; q = y; r = z }

alike : (t u : Corners) → t.p ≡ u.p → t.q ≡ u.q → t.r ≡ u.r → t ≡ u
unfolding make
alike t u a b c = ap (λ x. make x t.q t.r) a ∙ ap (λ y. make u.p y t.r) b ∙ ap (λ z. make u.p u.q z) c

before_tells : (t u : Corners) → Before t u ⊎ ((t ≡ u) ⊎ Before u t)
before_tells t u =
    elim (which t.p.0 u.p.0) [
      | inl less ↦ inl (inl less)
      | inr (inr more) ↦ inr (inr (inl more))
      | inr (inl p_is) ↦ (let p_same = elem_exact t.p u.p p_is in elim (which t.q.0 u.q.0) [
        | inl less ↦ inl (inr (p_same, inl less))
        | inr (inr more) ↦ inr (inr (inr (sym p_same, inl more)))
        | inr (inl q_is) ↦ (let q_same = elem_exact t.q u.q q_is in elim (which t.r.0 u.r.0) [
          | inl less ↦ inl (inr (p_same, inr (q_same, less)))
          | inr (inr more) ↦ inr (inr (inr (sym p_same, inr (sym q_same, more))))
          | inr (inl r_is) ↦ inr (inl (alike t u p_same q_same (elem_exact t.r u.r r_is)))
        ])
      ])
    ]

number_of : {a b : Elem} → a ≡ b → a.0 ≡ b.0
number_of e = ap (λ (x : Elem). x.0) e

before_chain : (t u v : Corners) → Before t u → Before u v → Before t v
before_chain t u v (inl h) (inl k) = inl (omega arith)
before_chain t u v (inl h) (inr (same, k)) = inl (let level = number_of same in omega arith)
before_chain t u v (inr (same, h)) (inl k) = inl (let level = number_of same in omega arith)
before_chain t u v (inr (same, inl h)) (inr (level, inl k)) = inr (same ∙ level, inl (omega arith))
before_chain t u v (inr (same, inl h)) (inr (level, inr (next, k))) = inr (same ∙ level, inl (let flat = number_of next in omega arith))
before_chain t u v (inr (same, inr (next, h))) (inr (level, inl k)) = inr (same ∙ level, inl (let flat = number_of next in omega arith))
before_chain t u v (inr (same, inr (next, h))) (inr (level, inr (flat, k))) = inr (same ∙ level, inr (next ∙ flat, omega arith))

before_irreflexive : (t : Corners) → ¬ Before t t
before_irreflexive t (inl h) = absurd (omega arith)
before_irreflexive t (inr (same, inl h)) = absurd (omega arith)
before_irreflexive t (inr (same, inr (next, h))) = absurd (omega arith)

-- the corners from three lists
cornered : Elem → (Elem × Elem) → Corners
cornered x rest = record { p = x; q = rest.0; r = rest.1 }

paired : Elem → Elem → (Elem × Elem)
paired y z = (y, z)

corners_in : (xs ys zs : List Elem) (a b c : Elem) → Contains xs a → Contains ys b → Contains zs c
    → Contains (times cornered xs (times paired ys zs)) (record { p = a; q = b; r = c })
unfolding cornered paired
corners_in xs ys zs a b c a_in b_in c_in = in_times cornered xs (times paired ys zs) a (b, c) a_in (in_times paired ys zs b c b_in c_in)

pub least_triangle : (g : Graph) (xs ys zs : List Elem) → MeetsInThree g xs ys zs → (a : Elem) × (b : Elem) × (c : Elem) × IsLeastTriangle g xs ys zs a b c
least_triangle g xs ys zs (a, b, c, t) =
    let found = selected Before before_tells before_chain (λ u. IsTriangle g xs ys zs u.p u.q u.r) (λ u. triangle_decided g xs ys zs u.p u.q u.r) (times cornered xs (times paired ys zs)) in
    told found.0 found.1 found.2
  where
    told : (us : List Corners) → AllPairs Before us → ((u : Corners) → Contains us u ↔ (Contains (times cornered xs (times paired ys zs)) u × IsTriangle g xs ys zs u.p u.q u.r))
        → (a : Elem) × (b : Elem) × (c : Elem) × IsLeastTriangle g xs ys zs a b c
    told [] rises is = absurd (contains_none (record { p = a; q = b; r = c }) ((is (record { p = a; q = b; r = c })).1 (corners_in xs ys zs a b c t.a_shared.0 t.b_shared.0 t.c_shared.0, t)))
    told (u ∷ us) rises is = (
      u.p,
      u.q,
      u.r,
      record {
        triangle = ((is u).0 (contains_head u us)).1;
        least = λ p q r other before. (
            let v : Corners = record { p = p; q = q; r = r } in
            elim (contains_cases u us v ((is v).1 (corners_in xs ys zs p q r other.a_shared.0 other.b_shared.0 other.c_shared.0, other))) [
              | inl same ↦ before_irreflexive u (subst (λ (w : Corners). Before w u) (sym same) before)
              | inr later ↦ before_irreflexive v (before_chain v u v before (pairs_head Before u us rises v later))
            ]);
      },
    )

pub some_shared : (g : Graph) (f : Clusters) (m : Merge) → Holds g f m → (s : Shared) × IsLeastShared g f m s
some_shared g f (Two x y) (a, b, x_is, y_is, shares) =
    let found = least_pair a.elements b.elements shares in
    (record { a = found.0; b = found.1; c = None }, (a, b, x_is, y_is, found.2, refl))
some_shared g f (Three x y z) (a, b, c, x_is, y_is, z_is, meets) =
    let found = least_triangle g a.elements b.elements c.elements meets in
    (record { a = found.0; b = found.1; c = Some found.2 }, (a, b, c, x_is, y_is, z_is, (found.2, refl, found.3)))
