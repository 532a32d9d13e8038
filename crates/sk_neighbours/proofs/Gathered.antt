-- What the walks from a cluster of a family find are its pairs and triples with lower ones.
use Rattle.std.proofs.Common.{◌≢◌, inl, inr, List, sym}
use Rattle.std.specs.Prelude.{◌↔◌, Contains}
use Rattle.sk_base.specs.declared.Elem.{Elem}
use Rattle.sk_base.specs.declared.Name.{Name}
use Rattle.sk_base.specs.declared.Graph.{Graph}
use Rattle.sk_base.specs.ClusterNames.{IsBelow}
use Rattle.sk_triangles.specs.Marks.{IsThird}
use Rattle.sk_family.specs.declared.Cluster.{Cluster}
use Rattle.sk_family.specs.declared.Merge.{Merge}
use Rattle.sk_family.specs.Merges.{IsPairFrom, IsTripleFrom}
use Rattle.sk_family.specs.Rules.{IsTriangle, MeetsInThree}
use Rattle.sk_family.proofs.Meeting.{meets_turned}
use Rattle.sk_family.proofs.Naming.{below_chain}
use Rattle.sk_neighbours.specs.declared.index.Index.{Index}
use Rattle.sk_neighbours.specs.Indexed.{Represents, lines_in}
use Rattle.sk_neighbours.specs.declared.triples.Third.{Third}
use Rattle.sk_neighbours.specs.declared.triples.Third.TheVariants.{Below}
use Rattle.sk_neighbours.specs.Partners.{Partner}
use Rattle.sk_neighbours.specs.Triples.{AtCorner, IsPlaced, IsTripleOf, TriplesOf}

module _ (ix : Index) (g : Graph) (live : List Cluster) (r : Represents ix g live) where
  -- the third corner by the marks is that by the graph
  pub triangle_of : (xs ys zs : List Elem) (a b c : Elem) → Contains xs a → Contains ys a → Contains ys b → Contains zs b → Contains zs c → Contains xs c → a ≢ b → IsThird (lines_in ix) a b c → IsTriangle g xs ys zs a b c
  triangle_of xs ys zs a b c a_x a_y b_y b_z c_z c_x a_b (c_a, c_b, lines) = record {
    a_shared = (a_x, a_y);
    b_shared = (b_y, b_z);
    c_shared = (c_z, c_x);
    differ = (a_b, (λ e. c_b (sym e)), c_a);
    not_all_lines = λ (la, lb, lc). lines ((r.lines a).1 la, (r.lines b).1 lb, (r.lines c).1 lc);
  }

  pub third_of : (xs ys zs : List Elem) (a b c : Elem) → IsTriangle g xs ys zs a b c → IsThird (lines_in ix) a b c
  third_of xs ys zs a b c t = (t.differ.2, (λ e. t.differ.1 (sym e)), (λ (la, lb, lc). t.not_all_lines ((r.lines a).0 la, (r.lines b).0 lb, (r.lines c).0 lc)))

  module _ (x : Cluster) where
    -- what is found at one of its elements
    pub found_at : (third : Third) (a : Elem) → Contains x.elements a → (m : Merge) → AtCorner third ix x a m → IsTripleFrom g live x m
    found_at third a a_x m (y, z, y_held, z_held, y_x, z_x, placed, a_y, (b, c, a_b, (b_y, b_z), (c_z, c_x), makes), triple) =
        told triple
      where
        meets : MeetsInThree g x.elements y.elements z.elements
        meets = (a, b, c, triangle_of x.elements y.elements z.elements a b c a_x a_y b_y b_z c_z c_x a_b makes)

        told : IsTripleOf x.name y.name z.name m → IsTripleFrom g live x m
        told (inl (z_y, m_is)) = (y, z, (r.held y).0 y_held, (r.held z).0 z_held, y_x, z_y, meets, m_is)
        told (inr (y_z, m_is)) = (z, y, (r.held z).0 z_held, (r.held y).0 y_held, z_x, y_z, meets_turned g x.elements y.elements z.elements meets, m_is)

    -- and a triangle with a as its corner is found from there
    pub at_corner : (third : Third) (y z : Cluster) → Contains live y → Contains live z → IsBelow y.name x.name → IsBelow z.name x.name → IsPlaced third y.name z.name → (a b c : Elem)
        → IsTriangle g x.elements y.elements z.elements a b c → (m : Merge) → IsTripleOf x.name y.name z.name m → AtCorner third ix x a m
    at_corner third y z y_in z_in y_x z_x placed a b c t m triple =
        (y, z, (r.held y).1 y_in, (r.held z).1 z_in, y_x, z_x, placed, t.a_shared.1, (b, c, t.differ.0, t.b_shared, t.c_shared, third_of x.elements y.elements z.elements a b c t), triple)

    -- so all that are found are all there are
    pub triples_found : (m : Merge) → TriplesOf ix x m ↔ IsTripleFrom g live x m
    triples_found m = (
      (λ (a, a_x, at). found_at Below a a_x m at),
      (λ (y, z, y_in, z_in, y_x, z_y, (a, b, c, t), m_is). (a, t.a_shared.0, at_corner Below y z y_in z_in y_x (below_chain z.name y.name x.name z_y y_x) z_y a b c t m (inl (z_y, m_is)))),
    )

    pub partners_found : (n : Name) → Partner ix x n ↔ IsPairFrom live x n
    partners_found n = (
      (λ (y, held, below, two, named). (y, (r.held y).0 held, below, two, named)),
      (λ (y, y_in, below, two, named). (y, (r.held y).1 y_in, below, two, named)),
    )
