-- The triples at a corner are those of the ends at it.
use Rattle.std.proofs.Common.{◌≡◌, ◌≢◌, ◌∙◌, refl, List, ap, sym, subst}
use Rattle.std.specs.Prelude.{◌↔◌, Contains}
use Rattle.sk_base.specs.declared.Elem.{Elem}
use Rattle.sk_base.specs.declared.Name.{Name}
use Rattle.sk_triangles.specs.declared.End.{End}
use Rattle.sk_triangles.specs.Ends.{EndsAmong, end_of}
use Rattle.sk_triangles.specs.Growing.{FromSome}
use Rattle.sk_family.specs.declared.Cluster.{Cluster}
use Rattle.sk_family.specs.declared.Merge.{Merge}
use Rattle.sk_neighbours.specs.declared.index.Index.{Index}
use Rattle.sk_neighbours.specs.Indexed.{IsThirdAt}
use Rattle.sk_neighbours.specs.declared.triples.Third.{Third}
use Rattle.sk_neighbours.specs.Triples.{AtCorner, IsPlaced, IsTripleOf}
use Rattle.sk_neighbours.specs.Walked.{MeetAny, MeetAt, Meets}
use Rattle.sk_neighbours.specs.Walks.{AtElement}

abbrev pub ends_of : Elem → Cluster → End → Type 0
ends_of a y = EndsAmong y.name a y.elements

pub corner_met : (ix : Index) (third : Third) (x : Cluster) (a : Elem) (ends : List End) → ((e : End) → Contains ends e ↔ AtElement ends_of ix x.name a e) → (m : Merge)
    → FromSome (AtElement (MeetAny third ix ends x.name a) ix x.name) x.elements m ↔ AtCorner third ix x a m
corner_met ix third x a ends same m = (
  (λ (d, d_x, (z, z_held, d_z, z_x, (b, b_z, ((a_b, makes), e, e_in, e_b, (placed, m_is))))). (
      let (y, y_held, a_y, y_x, (b', b'_y, e_is)) = (same e).0 e_in in
      let at : b' ≡ b = sym (ap (λ (w : End). w.elem) e_is) ∙ e_b in
      let named : e.name ≡ y.name = ap (λ (w : End). w.name) e_is in (
        y,
        z,
        y_held,
        z_held,
        y_x,
        z_x,
        subst (λ n. IsPlaced third n z.name) named placed,
        a_y,
        (b, d, a_b, (subst (λ c. Contains y.elements c) at b'_y, b_z), (d_z, d_x), makes),
        subst (λ n. IsTripleOf x.name n z.name m) named m_is,
      ))),
  (λ (y, z, y_held, z_held, y_x, z_x, placed, a_y, (b, d, a_b, (b_y, b_z), (d_z, d_x), makes), m_is).
      (d, d_x, (z, z_held, d_z, z_x, (b, b_z, ((a_b, makes), end_of y.name a b, (same (end_of y.name a b)).1 (y, y_held, a_y, y_x, (b, b_y, refl)), refl, (placed, m_is)))))),
)

pub met_at : (third : Third) (ix : Index) (ends : List End) (x : Name) (a d : Elem) (z : Name) (b : Elem) (here : List End) → ((e : End) → Contains here e ↔ (Contains ends e × (e.elem ≡ b))) → (a ≢ b) × IsThirdAt ix a b d → (m : Merge)
    → FromSome (Meets third x z) here m ↔ MeetAt third ix ends x a d z b m
met_at third ix ends x a d z b here here_is corners m = (
  (λ (e, e_here, meets). (let (e_in, at) = (here_is e).0 e_here in (corners, e, e_in, at, meets))),
  (λ (are, e, e_in, at, meets). (e, (here_is e).1 (e_in, at), meets)),
)
