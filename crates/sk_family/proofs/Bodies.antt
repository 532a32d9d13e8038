-- Bodies inside one another, and what joining two makes.
use Rattle.std.proofs.Common.{◌≡◌, ◌⊎◌, inl, inr, refl, ℕ, List, [], ◌∷◌, ap, subst, ◌∙◌}
use Rattle.std.specs.Prelude.{Contains, fold}
use Rattle.sk_base.specs.declared.Elem.{Elem}
use Rattle.sk_base.specs.declared.ConId.{ConId}
use Rattle.sk_base.specs.Numbering.{elem_number, con_number, elem_exact, con_exact}
use Rattle.sk_family.specs.Body.{Body, IsRisingBody, join, join_all, nothing}
use Rattle.sk_base.proofs.Members.{contains_none, contains_head, contains_later, contains_cases, Settles, list_settles}
use Rattle.sk_base.proofs.Deciding.{elem_settles, con_settles}
use Rattle.sk_base.proofs.Unions.{rising_none, rising_union, rising_same, union_left, union_right, union_cases}
use Rattle.sk_base.specs.Rising.{union}

pub same_body : (x y : Body) → x.elements ≡ y.elements → x.owned ≡ y.owned → x ≡ y
same_body x y elements owned =
    let first : x ≡ record { elements = y.elements; owned = x.owned } = ap (λ (es : List Elem). record { elements = es; owned = x.owned }) elements in
    let second : record { elements = y.elements; owned = x.owned } ≡ y = ap (λ (cs : List ConId). record { elements = y.elements; owned = cs }) owned in
    first ∙ second

pub body_settles : Settles Body
body_settles x y =
    elim (list_settles elem_settles x.elements y.elements) [
      | inr other ↦ inr (λ e. other (ap (λ (b : Body). b.elements) e))
      | inl elements ↦ elim (list_settles con_settles x.owned y.owned) [
        | inr other ↦ inr (λ e. other (ap (λ (b : Body). b.owned) e))
        | inl owned ↦ inl (same_body x y elements owned)
      ]
    ]

-- what the one holds and owns, the other does
pub record Within (a b : Body) : Type 0 where
  pub elements : (e : Elem) → Contains a.elements e → Contains b.elements e
  pub owned : (k : ConId) → Contains a.owned k → Contains b.owned k

pub within_itself : (a : Body) → Within a a
within_itself a = record { elements = λ e h. h; owned = λ k h. h }

pub within_along : {a b c : Body} → Within a b → Within b c → Within a c
within_along p q = record { elements = λ e h. q.elements e (p.elements e h); owned = λ k h. q.owned k (p.owned k h) }

pub left_within : (a b : Body) → Within a (join a b)
left_within a b = record {
  elements = union_left elem_number elem_exact a.elements b.elements;
  owned = union_left con_number con_exact a.owned b.owned;
}

pub right_within : (a b : Body) → Within b (join a b)
right_within a b = record {
  elements = union_right elem_number a.elements b.elements;
  owned = union_right con_number a.owned b.owned;
}

pub join_within : (a b : Body) {c : Body} → Within a c → Within b c → Within (join a b) c
join_within a b p q = record {
  elements = λ e h. elim (union_cases elem_number a.elements b.elements e h) [ inl left ↦ p.elements e left | inr right ↦ q.elements e right ];
  owned = λ k h. elim (union_cases con_number a.owned b.owned k h) [ inl left ↦ p.owned k left | inr right ↦ q.owned k right ];
}

pub rising_join : (a b : Body) → IsRisingBody b → IsRisingBody (join a b)
rising_join a b r = record {
  elements = rising_union elem_number a.elements b.elements r.elements;
  owned = rising_union con_number a.owned b.owned r.owned;
}

-- rising bodies inside one another are the same
pub same_within : (a b : Body) → IsRisingBody a → IsRisingBody b → Within a b → Within b a → a ≡ b
same_within a b r s p q =
    same_body a b
    (rising_same elem_number a.elements b.elements r.elements s.elements p.elements q.elements)
    (rising_same con_number a.owned b.owned r.owned s.owned p.owned q.owned)

-- what is made so far lies in the whole
so_far_within : (made : Body) (bodies : List Body) → Within made (fold join made bodies)
so_far_within made [] = within_itself made
so_far_within made (b ∷ bs) = within_along (left_within made b) (so_far_within (join made b) bs)

each_within_from : (made : Body) (bodies : List Body) (x : Body) → Contains bodies x → Within x (fold join made bodies)
each_within_from made [] x h = absurd (contains_none x h)
each_within_from made (b ∷ bs) x h =
    elim (contains_cases b bs x h) [
      | inl here ↦ subst (λ z. Within z (fold join made (b ∷ bs))) here (within_along (right_within made b) (so_far_within (join made b) bs))
      | inr later ↦ each_within_from (join made b) bs x later
    ]

whole_within_from : (made : Body) (bodies : List Body) {c : Body} → Within made c → ((x : Body) → Contains bodies x → Within x c) → Within (fold join made bodies) c
whole_within_from made [] made_in each = made_in
whole_within_from made (b ∷ bs) made_in each =
    whole_within_from (join made b) bs (join_within made b made_in (each b (contains_head b bs))) (λ x h. each x (contains_later b bs x h))

-- what joined bodies have, one of them has: its elements, or what it owns
module _ {X : Type 0} (number : X → ℕ) (part : Body → List X) (joins : (a b : Body) → part (join a b) ≡ union number (part a) (part b)) where
  part_from : (made : Body) (bodies : List Body) (k : X) → Contains (part (fold join made bodies)) k → Contains (part made) k ⊎ ((x : Body) × Contains bodies x × Contains (part x) k)
  part_from made [] k h = inl h
  part_from made (b ∷ bs) k h =
      elim (part_from (join made b) bs k h) [
        | inl made_now ↦ elim (union_cases number (part made) (part b) k (subst (λ ks. Contains ks k) (joins made b) made_now)) [
          | inl before ↦ inl before
          | inr here ↦ inr (b, contains_head b bs, here)
        ]
        | inr later ↦ inr (later.0, contains_later b bs later.0 later.1, later.2)
      ]

owned_from : (made : Body) (bodies : List Body) (k : ConId) → Contains (fold join made bodies).owned k → Contains made.owned k ⊎ ((x : Body) × Contains bodies x × Contains x.owned k)
owned_from = part_from con_number (λ (x : Body). x.owned) (λ a b. refl)

held_from : (made : Body) (bodies : List Body) (e : Elem) → Contains (fold join made bodies).elements e → Contains made.elements e ⊎ ((x : Body) × Contains bodies x × Contains x.elements e)
held_from = part_from elem_number (λ (x : Body). x.elements) (λ a b. refl)

rising_from : (made : Body) (bodies : List Body) → IsRisingBody made → ((x : Body) → Contains bodies x → IsRisingBody x) → IsRisingBody (fold join made bodies)
rising_from made [] r each = r
rising_from made (b ∷ bs) r each = rising_from (join made b) bs (rising_join made b (each b (contains_head b bs))) (λ x h. each x (contains_later b bs x h))

nothing_within : (c : Body) → Within nothing c
nothing_within c = record { elements = λ e h. absurd (contains_none e h); owned = λ k h. absurd (contains_none k h) }

-- each of the bodies lies in the whole, and the whole in what they all lie in
pub each_within : (bodies : List Body) (x : Body) → Contains bodies x → Within x (join_all bodies)
each_within = each_within_from nothing

pub whole_within : (bodies : List Body) {c : Body} → ((x : Body) → Contains bodies x → Within x c) → Within (join_all bodies) c
whole_within bodies {c} each = whole_within_from nothing bodies (nothing_within c) each

pub owner_of : (bodies : List Body) (k : ConId) → Contains (join_all bodies).owned k → (x : Body) × Contains bodies x × Contains x.owned k
owner_of bodies k h = elim (owned_from nothing bodies k h) [ inl none ↦ absurd (contains_none k none) | inr found ↦ found ]

pub holder_of : (bodies : List Body) (e : Elem) → Contains (join_all bodies).elements e → (x : Body) × Contains bodies x × Contains x.elements e
holder_of bodies e h = elim (held_from nothing bodies e h) [ inl none ↦ absurd (contains_none e none) | inr found ↦ found ]

pub rising_whole : (bodies : List Body) → ((x : Body) → Contains bodies x → IsRisingBody x) → IsRisingBody (join_all bodies)
rising_whole bodies each = rising_from nothing bodies (record { elements = rising_none elem_number; owned = rising_none con_number }) each
