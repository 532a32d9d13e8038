-- The steps of the walk to all triangles.
use Rattle.std.proofs.Common.{◌≡◌, ◌∙◌, inl, inr, ℕ, ◌-◌, ◌<◌, ◌≤◌, Bool, List, length, length-take, get_or, take, refl, sym, subst, arith}
use Rattle.std.specs.Prelude.{◌↔◌, ◌⊎◌, Contains, Result, Ok, Err, IfOk}
use Rattle.std.specs.List.Sorted.{IsNonDecreasingBy, IsPartitionPoint}
use Rattle.std.proofs.lemmas.Bool.{cases_lt}
use Rattle.std.proofs.lemmas.List.{get_or-take, get_or_default}
use Rattle.sk_base.specs.declared.Elem.{Elem}
use Rattle.sk_base.specs.declared.Name.{Name}
use Rattle.sk_base.specs.Numbering.{elem_exact}
use Rattle.sk_base.proofs.Splits.{in_take, in_either, dropped_from, taken_from}
use Rattle.sk_triangles.specs.declared.ends.End.{End}
use Rattle.sk_triangles.specs.Ends.{corner_number}
use Rattle.sk_triangles.specs.Growing.{FromSome, GrowsBy}
use Rattle.sk_triangles.specs.Ranks.{IsHigh, IsHighOf, IsLower}
use Rattle.sk_triangles.specs.Walk.{DownBy, FoundFrom, GoesOn, JoinedBy, LastBy}

-- what is kept of the ends are the high ones
pub highs_are : (counts : List ℕ) (ends kept : List End) (x : End) → Contains kept x ↔ FromSome (IsHighOf counts) ends x → Contains kept x ↔ (Contains ends x × IsHigh counts x)
highs_are counts ends kept x same = (
  (λ h. (let (y, y_in, (is, high)) = same.0 h in (subst (λ w. Contains ends w) (sym is) y_in, subst (λ w. IsHigh counts w) (sym is) high))),
  (λ (x_in, high). same.1 (x, x_in, (refl, high))),
)

pub same_on_ok : {T E X : Type 0} (P : T → X → Type 0) (R Q : X → Type 0) (r : Result T E) → IfOk r (λ t. (x : X) → P t x ↔ R x) → ((x : X) → R x ↔ Q x) → IfOk r (λ t. (x : X) → P t x ↔ Q x)
same_on_ok P R Q (Ok t) same to = λ x. ((λ h. (to x).0 ((same x).0 h)), (λ h. (same x).1 ((to x).1 h)))
same_on_ok P R Q (Err e) same to = tt

module _ {M : Type 0} (keeps : Name → Name → Name → M → Type 0) (lines : List Bool) (highs : List End) where
  -- the ends at an element are those that have it
  pub joined_same : (x y : End) (here : List End) → ((z : End) → Contains here z ↔ (Contains highs z × (z.elem ≡ y.elem))) → GoesOn lines x y → (m : M) → FromSome (JoinedBy keeps x.name y.name) here m ↔ LastBy keeps lines highs x y m
  joined_same x y here here_is goes m = (
    (λ (z, z_here, joins). (let (z_in, at) = (here_is z).0 z_here in (goes, z, z_in, at, joins))),
    (λ (is, z, z_in, at, joins). (z, (here_is z).1 (z_in, at), joins)),
  )

module _ {M : Type 0} (keeps : Name → Name → Name → M → Type 0) (lines : List Bool) (counts : List ℕ) (ends highs : List End) where
  -- the ends from a corner are those that have it
  pub down_same : (x : End) (here : List End) → ((y : End) → Contains here y ↔ (Contains ends y × (y.corner ≡ x.elem))) → IsLower counts x.elem x.corner → (m : M) → FromSome (LastBy keeps lines highs x) here m ↔ DownBy keeps lines counts ends highs x m
  down_same x here here_is lower m = (
    (λ (y, y_here, last). (let (y_in, at) = (here_is y).0 y_here in (lower, y, y_in, at, last))),
    (λ (is, y, y_in, at, last). (y, (here_is y).1 (y_in, at), last)),
  )

  -- and with the highs from there they are what is found at it
  pub seen_found : (seen : List End) (c : Elem) → ((x : End) → Contains seen x ↔ (Contains ends x × (x.corner ≡ c))) → ((z : End) → Contains highs z ↔ (Contains seen z × IsHigh counts z)) → (m : M)
      → FromSome (DownBy keeps lines counts ends highs) seen m ↔ FoundFrom keeps lines counts ends c m
  seen_found seen c seen_is high_is m = (
    (λ (x, x_seen, (lower, y, y_in, y_at, (goes, z, z_high, z_at, joins))). (
        let (x_in, x_c) = (seen_is x).0 x_seen in
        let (z_seen, high) = (high_is z).0 z_high in
        let (z_in, z_c) = (seen_is z).0 z_seen in
        (x, x_in, x_c, (lower, y, y_in, y_at, goes, z, z_in, z_c ∙ sym x_c, high, z_at, joins)))),
    (λ (x, x_in, x_c, (lower, y, y_in, y_at, goes, z, z_in, z_x, high, z_at, joins)).
        (x, (seen_is x).1 (x_in, x_c), (lower, y, y_in, y_at, (goes, z, (high_is z).1 ((seen_is z).1 (z_in, z_x ∙ x_c), high), z_at, joins)))),
  )

module _ (ends : List End) (done next : ℕ) (d : End) (done_in : done < length ends)
    (point : IsPartitionPoint (λ (x : End). x.corner.0 ≤ (get_or ends done d).corner.0) (λ (x : End). (get_or ends done d).corner.0 < x.corner.0) ends next) where
  -- the first end of a corner stands before the first of a later one
  pub goes_on : done < next
  goes_on = elim (cases_lt done next) [ inl before ↦ before | inr after ↦ (let above : (get_or ends done d).corner.0 < (get_or ends done d).corner.0 = point.1 done d after done_in in absurd (omega arith)) ]

  module _ (rises : IsNonDecreasingBy corner_number ends) (next_in : next ≤ length ends) where
    -- those of the corner stand up to there
    up_to : (x : End) → Contains ends x → x.corner ≡ (get_or ends done d).corner → Contains (take next ends) x
    up_to x x_in same = elim (in_either next ends x x_in) [
      | inl front ↦ front
      | inr back ↦ (
          let (k, from, k_in, is) = dropped_from ends next x back in
          let at : get_or ends k d ≡ x = get_or_default ends k d x k_in ∙ is in
          let above = subst (λ (y : End). (get_or ends done d).corner.0 < y.corner.0) at (point.1 k d from k_in) in
          let level = subst (λ (c : Elem). c.0 ≡ (get_or ends done d).corner.0) (sym same) refl in
          absurd (omega arith))
    ]

    -- and those that stand before it, but not before the first, are of that corner
    of_corner : (x : End) → Contains (take next ends) x → Contains (take done ends) x ⊎ (Contains ends x × (x.corner ≡ (get_or ends done d).corner))
    of_corner x h =
        let (k, below, is) = taken_from ends next x next_in h in
        let at : get_or ends k d ≡ x = get_or_default ends k d x (omega arith) ∙ is in
        elim (cases_lt k done) [
          | inl before ↦ inl (k, (let size = length-take done ends in omega arith), get_or-take done ends k x before ∙ is)
          | inr from ↦ (
              let less = subst (λ (y : End). y.corner.0 ≤ (get_or ends done d).corner.0) at (point.0 k d (omega arith) below) in
              let more = subst (λ (y : End). (get_or ends done d).corner.0 ≤ y.corner.0) at (rises done k d from (omega arith)) in
              inr (in_take next ends x h, elem_exact x.corner (get_or ends done d).corner (omega arith)))
        ]

    further : (x : End) → Contains (take done ends) x → Contains (take next ends) x
    further x h =
        let (k, below, is) = taken_from ends done x (omega arith) h in
        let on = goes_on in
        let size = length-take next ends in
        (k, omega arith, get_or-take next ends k x (omega arith) ∙ is)

    -- so what the corner gives is what these give more
    pub grows_to : {M : Type 0} (kind : End → M → Type 0) (old mid new : List M) → GrowsBy (FromSome kind (take done ends)) old mid
        → GrowsBy (λ m. (x : End) × Contains ends x × (x.corner ≡ (get_or ends done d).corner) × kind x m) mid new → GrowsBy (FromSome kind (take next ends)) old new
    grows_to kind old mid new so_far here m = (
      (λ h. elim ((here m).0 h) [
        | inl was ↦ elim ((so_far m).0 was) [ inl first ↦ inl first | inr (x, x_in, is) ↦ inr (x, further x x_in, is) ]
        | inr (x, x_in, same, is) ↦ inr (x, up_to x x_in same, is)
      ]),
      (λ h. elim h [
        | inl first ↦ (here m).1 (inl ((so_far m).1 (inl first)))
        | inr (x, x_in, is) ↦ elim (of_corner x x_in) [
          | inl before ↦ (here m).1 (inl ((so_far m).1 (inr (x, before, is))))
          | inr (x_all, same) ↦ (here m).1 (inr (x, x_all, same, is))
        ]
      ]),
    )
