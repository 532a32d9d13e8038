-- The clusters that hold some elements, as a walk through the index finds them.
use Rattle.std.proofs.Common.{◌≡◌, inl, inr, List, [], sym, subst}
use Rattle.std.specs.Prelude.{◌↔◌, Contains}
use Rattle.sk_base.specs.declared.Elem.{Elem}
use Rattle.sk_base.specs.declared.Name.{Name}
use Rattle.sk_base.specs.declared.Graph.{Graph}
use Rattle.sk_base.specs.ClusterNames.{IsBelow}
use Rattle.sk_base.proofs.Members.{contains_none}
use Rattle.sk_family.specs.Clusters.{Clusters}
use Rattle.sk_neighbours.specs.declared.Index.{Index}
use Rattle.sk_triangles.specs.Growing.{FromSome, GrowsBy}
use Rattle.sk_neighbours.specs.Walks.{HolderOf}
use Rattle.sk_close_by_order.specs.Gather.{HoldsSome}
use Rattle.sk_neighbours.specs.Indexed.{Represents}

-- the holders of some elements in the index of a family are its clusters that hold some
pub holds_some : (ix : Index) (g : Graph) (f : Clusters) → Represents ix g f.live → (es : List Elem) (bound n : Name) → FromSome (HolderOf ix bound) es n ↔ HoldsSome f es bound n
holds_some ix g f r es bound n = (
  (λ (e, e_in, (c, held, c_e, below, named)). (
    c,
    record { lives = (r.held c).0 held; has_name = named },
    subst (λ m. IsBelow m bound) named below,
    (e, e_in, c_e),
  )),
  (λ (c, is, below, (e, e_in, c_e)). (e, e_in, (c, (r.held c).1 is.lives, c_e, subst (λ m. IsBelow m bound) (sym is.has_name) below, is.has_name))),
)

-- what grew from nothing to just the holders, and was put in order, has the names of the clusters that hold some
pub names_told : (ix : Index) (g : Graph) (f : Clusters) → Represents ix g f.live → (es : List Elem) (bound : Name) (none found slice names : List Name) → none ≡ []
    → GrowsBy (FromSome (HolderOf ix bound) es) none found → slice ≡ found → ((n : Name) → Contains names n ↔ Contains slice n) → (n : Name) → Contains names n ↔ HoldsSome f es bound n
names_told ix g f r es bound none found slice names empty grows is same n = (
  (λ h. (holds_some ix g f r es bound n).0 (elim ((grows n).0 (subst (λ l. Contains l n) is ((same n).0 h))) [
    | inl was ↦ absurd (contains_none n (subst (λ l. Contains l n) empty was))
    | inr holds ↦ holds
  ])),
  (λ h. (same n).1 (subst (λ l. Contains l n) (sym is) ((grows n).1 (inr ((holds_some ix g f r es bound n).1 h))))),
)
