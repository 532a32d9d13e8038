-- Whether the rules let clusters be merged is settled.
use Rattle.std.proofs.Common.{◌≡◌, ◌≢◌, List}
use Rattle.std.specs.Prelude.{Contains}
use Rattle.sk_base.specs.declared.Elem.{Elem}
use Rattle.sk_base.specs.declared.Kind.TheVariants.{Line}
use Rattle.sk_base.specs.declared.Name.{Name}
use Rattle.sk_base.specs.declared.Graph.{Graph}
use Rattle.sk_base.proofs.Deciding.{Decided, both, three, denied, moved, some_in, is_in, elem_settles, node_settles, name_below, name_settles}
use Rattle.sk_family.specs.declared.Cluster.{Cluster}
use Rattle.sk_family.specs.Clusters.{Clusters, IsNamed}
use Rattle.sk_family.specs.declared.Merge.{Merge}
use Rattle.sk_family.specs.declared.Merge.TheVariants.{Two, Three}
use Rattle.sk_family.specs.Merges.{Falls}
use Rattle.sk_rules.specs.Merges.{Holds}
use Rattle.sk_family.specs.Rules.{IsLine, SharesTwo, IsPair, IsTriangle, MeetsInThree}

pub line_decided : (g : Graph) (e : Elem) → Decided (IsLine g e)
line_decided g e = is_in node_settles g.nodes (record { elem = e; kind = Line })

pub pair_decided : (xs ys : List Elem) (a b : Elem) → Decided (IsPair xs ys a b)
pair_decided xs ys a b =
    moved (λ h. record { differ = h.0; a_shared = h.1; b_shared = h.2 }) (λ (p : IsPair xs ys a b). (p.differ, p.a_shared, p.b_shared))
    (three (denied (elem_settles a b)) (both (is_in elem_settles xs a) (is_in elem_settles ys a)) (both (is_in elem_settles xs b) (is_in elem_settles ys b)))

pub shares_decided : (xs ys : List Elem) → Decided (SharesTwo xs ys)
shares_decided xs ys =
    moved (λ (a, a_in, (b, b_in, pair)). (a, b, pair)) (λ (a, b, pair). (a, pair.a_shared.0, (b, pair.b_shared.0, pair)))
    (some_in (λ a. (b : Elem) × Contains xs b × IsPair xs ys a b) (λ a. some_in (λ b. IsPair xs ys a b) (λ b. pair_decided xs ys a b) xs) xs)

pub triangle_decided : (g : Graph) (xs ys zs : List Elem) (a b c : Elem) → Decided (IsTriangle g xs ys zs a b c)
triangle_decided g xs ys zs a b c =
    moved (λ (h : ((Contains xs a × Contains ys a) × (Contains ys b × Contains zs b)) × ((Contains zs c × Contains xs c) × (((a ≢ b) × (b ≢ c)) × (c ≢ a))) × ((IsLine g a × (IsLine g b × IsLine g c)) → ⊥)).
    record { a_shared = h.0.0; b_shared = h.0.1; c_shared = h.1.0; differ = (h.1.1.0.0, h.1.1.0.1, h.1.1.1); not_all_lines = λ l. h.2 (l.0, (l.1, l.2)) })
    (λ (t : IsTriangle g xs ys zs a b c). ((t.a_shared, t.b_shared), (t.c_shared, ((t.differ.0, t.differ.1), t.differ.2)), (λ l. t.not_all_lines (l.0, l.1.0, l.1.1))))
    (three (both (both (is_in elem_settles xs a) (is_in elem_settles ys a)) (both (is_in elem_settles ys b) (is_in elem_settles zs b)))
    (both (both (is_in elem_settles zs c) (is_in elem_settles xs c)) (both (both (denied (elem_settles a b)) (denied (elem_settles b c))) (denied (elem_settles c a))))
    (denied (both (line_decided g a) (both (line_decided g b) (line_decided g c)))))

pub meets_decided : (g : Graph) (xs ys zs : List Elem) → Decided (MeetsInThree g xs ys zs)
meets_decided g xs ys zs =
    moved (λ (a, a_in, (b, b_in, (c, c_in, t))). (a, b, c, t)) (λ (a, b, c, t). (a, t.a_shared.0, (b, t.b_shared.0, (c, t.c_shared.0, t))))
    (some_in (λ a. (b : Elem) × Contains ys b × ((c : Elem) × Contains zs c × IsTriangle g xs ys zs a b c)) (λ a.
    some_in (λ b. (c : Elem) × Contains zs c × IsTriangle g xs ys zs a b c) (λ b.
    some_in (λ c. IsTriangle g xs ys zs a b c) (λ c. triangle_decided g xs ys zs a b c) zs) ys) xs)

module _ (g : Graph) (f : Clusters) where
  named_decided : (n : Name) (c : Cluster) → Contains f.live c → Decided (IsNamed f n c)
  named_decided n c c_in = moved (λ e. record { lives = c_in; has_name = e }) (λ (h : IsNamed f n c). h.has_name) (name_settles c.name n)

  -- whether some live cluster of that name is so
  pub some_named : (n : Name) (P : Cluster → Type 0) → ((c : Cluster) → Decided (P c)) → Decided ((c : Cluster) × IsNamed f n c × P c)
  some_named n P decide =
      moved (λ (c, c_in, h). (c, record { lives = c_in; has_name = h.0 }, h.1)) (λ (c, named, h). (c, named.lives, (named.has_name, h)))
      (some_in (λ (c : Cluster). (c.name ≡ n) × P c) (λ c. both (name_settles c.name n) (decide c)) f.live)

  pub holds_decided : (m : Merge) → Decided (Holds g f m)
  holds_decided (Two x y) =
      moved (λ (a, a_is, (b, b_is, h)). (a, b, a_is, b_is, h)) (λ (a, b, a_is, b_is, h). (a, a_is, (b, b_is, h)))
      (some_named x (λ a. (b : Cluster) × IsNamed f y b × SharesTwo a.elements b.elements) (λ a.
      some_named y (λ b. SharesTwo a.elements b.elements) (λ b. shares_decided a.elements b.elements)))
  holds_decided (Three x y z) =
      moved (λ (a, a_is, (b, b_is, (c, c_is, h))). (a, b, c, a_is, b_is, c_is, h)) (λ (a, b, c, a_is, b_is, c_is, h). (a, a_is, (b, b_is, (c, c_is, h))))
      (some_named x (λ a. (b : Cluster) × IsNamed f y b × ((c : Cluster) × IsNamed f z c × MeetsInThree g a.elements b.elements c.elements)) (λ a.
      some_named y (λ b. (c : Cluster) × IsNamed f z c × MeetsInThree g a.elements b.elements c.elements) (λ b.
      some_named z (λ c. MeetsInThree g a.elements b.elements c.elements) (λ c. meets_decided g a.elements b.elements c.elements))))

pub falls_decided : (m : Merge) → Decided (Falls m)
falls_decided (Two x y) = name_below y x
falls_decided (Three x y z) = both (name_below y x) (name_below z y)
