-- Two or three bodies that meet, told in another order.
use Rattle.std.proofs.Common.{List, sym}
use Rattle.sk_base.specs.declared.Elem.{Elem}
use Rattle.sk_base.specs.declared.Graph.{Graph}
use Rattle.sk_family.specs.Rules.{IsShared, MeetsInThree, SharesTwo}

shared_back : (xs ys : List Elem) (e : Elem) → IsShared xs ys e → IsShared ys xs e
shared_back xs ys e h = (h.1, h.0)

pub shares_back : (xs ys : List Elem) → SharesTwo xs ys → SharesTwo ys xs
shares_back xs ys (a, b, p) = (a, b, record { differ = p.differ; a_shared = shared_back xs ys a p.a_shared; b_shared = shared_back xs ys b p.b_shared })

-- the triangle in the other direction, and begun at the next corner
pub meets_back : (g : Graph) (xs ys zs : List Elem) → MeetsInThree g xs ys zs → MeetsInThree g zs ys xs
meets_back g xs ys zs (a, b, c, t) = (
  b,
  a,
  c,
  record {
    a_shared = shared_back ys zs b t.b_shared;
    b_shared = shared_back xs ys a t.a_shared;
    c_shared = shared_back zs xs c t.c_shared;
    differ = (λ e. t.differ.0 (sym e), λ e. t.differ.2 (sym e), λ e. t.differ.1 (sym e));
    not_all_lines = λ h. t.not_all_lines (h.1, h.0, h.2);
  },
)

pub meets_on : (g : Graph) (xs ys zs : List Elem) → MeetsInThree g xs ys zs → MeetsInThree g ys zs xs
meets_on g xs ys zs (a, b, c, t) = (
  b,
  c,
  a,
  record {
    a_shared = t.b_shared;
    b_shared = t.c_shared;
    c_shared = t.a_shared;
    differ = (t.differ.1, t.differ.2, t.differ.0);
    not_all_lines = λ h. t.not_all_lines (h.2, h.0, h.1);
  },
)

-- the triangle with two clusters exchanged
pub meets_turned : (g : Graph) (xs ys zs : List Elem) → MeetsInThree g xs ys zs → MeetsInThree g xs zs ys
meets_turned g xs ys zs h = meets_on g ys xs zs (meets_on g zs ys xs (meets_back g xs ys zs h))

-- the first two exchanged
pub meets_swapped : (g : Graph) (xs ys zs : List Elem) → MeetsInThree g xs ys zs → MeetsInThree g ys xs zs
meets_swapped g xs ys zs h = meets_on g zs ys xs (meets_back g xs ys zs h)
