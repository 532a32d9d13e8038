-- What the test of clusters for a list of elements tells.
use Rattle.std.proofs.Common.{◌≡◌, inl, inr, Bool, true, false, List, [], ◌∷◌, refl, sym, subst}
use Rattle.std.specs.Prelude.{Contains, IsTrue, map, ◌↔◌, ◌||◌}
use Rattle.std.proofs.lemmas.Bool.{and_parts}
use Rattle.sk_base.specs.declared.Elem.{Elem}
use Rattle.sk_base.proofs.Members.{contains_none, contains_head, contains_later, contains_cases, contains_mapped}
use Rattle.sk_family.specs.declared.Cluster.{Cluster}
use Rattle.sk_family.specs.Body.{Body}
use Rattle.sk_family.specs.Clusters.{body_of}
use Rattle.sk_base.specs.Numbering.{is_elem}
use Rattle.sk_base.proofs.Numbers.{elem_found, found_elem}
use Rattle.sk_spare.specs.Sparing.{HoldsAll}
use Rattle.sk_spare.specs.Trying.{holds_all, some_holds}

all_held : (held elements : List Elem) → holds_all held elements ≡ true → (e : Elem) → Contains elements e → Contains held e
all_held held [] passes e h = absurd (contains_none e h)
all_held held (x ∷ rest) passes e h =
    let both = and_parts (is_elem held x) (holds_all held rest) passes in
    elim (contains_cases x rest e h) [
      | inl here ↦ elem_found held e (subst (λ z. is_elem held z ≡ true) here both.0)
      | inr later ↦ all_held held rest both.1 e later
    ]

held_all : (held elements : List Elem) → ((e : Elem) → Contains elements e → Contains held e) → holds_all held elements ≡ true
held_all held [] each = refl
held_all held (x ∷ rest) each =
    rw (found_elem held x (each x (contains_head x rest))) (held_all held rest (λ e h. each e (contains_later x rest e h)))

one_holds : (clusters : List Cluster) (elements : List Elem) → some_holds clusters elements ≡ true → (c : Cluster) × Contains clusters c × (holds_all c.elements elements ≡ true)
one_holds [] elements passes = absurd (cc)
one_holds (c ∷ rest) elements passes = told (holds_all c.elements elements) refl passes (one_holds rest elements)
  where
    told : (t : Bool) → holds_all c.elements elements ≡ t → (t || some_holds rest elements) ≡ true → (some_holds rest elements ≡ true → (d : Cluster) × Contains rest d × (holds_all d.elements elements ≡ true)) → (d : Cluster) × Contains (c ∷ rest) d × (holds_all d.elements elements ≡ true)
    told true is h later = (c, contains_head c rest, is)
    told false is h later = (let found = later h in (found.0, contains_later c rest found.0 found.1, found.2))

holds_one : (clusters : List Cluster) (elements : List Elem) (y : Body) → Contains (map body_of clusters) y → holds_all y.elements elements ≡ true → some_holds clusters elements ≡ true
holds_one [] elements y h holds = absurd (contains_none y h)
holds_one (c ∷ rest) elements y h holds =
    elim (contains_cases (body_of c) (map body_of rest) y h) [
      | inl here ↦ rw (subst (λ (z : Body). holds_all z.elements elements ≡ true) (sym here) holds) refl
      | inr later ↦ told (holds_all c.elements elements) (holds_one rest elements y later holds)
    ]
  where
    told : (t : Bool) → some_holds rest elements ≡ true → (t || some_holds rest elements) ≡ true
    told true h = refl
    told false h = h

pub test_tells : (clusters : List Cluster) (elements : List Elem) → IsTrue (some_holds clusters elements) ↔ HoldsAll (map body_of clusters) elements
test_tells clusters elements = (
  (λ passes. (let found = one_holds clusters elements passes in
      (body_of found.0, contains_mapped body_of clusters found.0 found.1, all_held found.0.elements elements found.2))),
  (λ h. holds_one clusters elements h.0 h.1 (held_all h.0.elements elements h.2)),
)
