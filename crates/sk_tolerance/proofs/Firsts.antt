-- The first item with a property, in lists that are put together.
use Rattle.std.proofs.Common.{◌≡◌, ◌⊎◌, refl, inl, inr, ℕ, ◌+◌, ◌<◌, List, [], ◌∷◌, ◌++◌, length, get_or, take, drop, sym, subst, ap, ◌∙◌, append_assoc, append-nil}
use Rattle.std.specs.Prelude.{Contains}
use Rattle.std.specs.List.{flat_map}
use Rattle.std.proofs.lemmas.Grind.{flat_map-append}
use Rattle.std.proofs.lemmas.List.{take_more, at_drop_more, take-append-drop}
use Rattle.std.proofs.lemmas.List.Elements.{Contains-append_right, Contains-append_cases}
use Rattle.sk_base.proofs.Members.{contains_none, contains_head, contains_later, contains_cases}
use Rattle.sk_base.proofs.Deciding.{Decided}
use Rattle.sk_tolerance.specs.First.{IsFirst}

pub appended : {X : Type 0} (P : X → Type 0) (xs ys : List X) (x : X) → IsFirst P xs x → IsFirst P (xs ++ ys) x
appended P xs ys x first = record {
  before = first.before;
  after = first.after ++ ys;
  parts = ap (λ zs. zs ++ ys) first.parts ∙ append_assoc first.before (x ∷ first.after) ys;
  has = first.has;
  none_before = first.none_before;
}

pub first_inside : {X : Type 0} (P : X → Type 0) (xs : List X) (x : X) → IsFirst P xs x → Contains xs x
first_inside P xs x first = subst (λ ys. Contains ys x) (sym first.parts) (Contains-append_right first.before (x ∷ first.after) x (contains_head x first.after))

-- all items are so, or one is the first that isn't
pub all_or_first : {X : Type 0} (P : X → Type 0) (xs : List X) → ((x : X) → Contains xs x → Decided (P x)) → ((x : X) → Contains xs x → P x) ⊎ ((x : X) × IsFirst (λ y. ¬ P y) xs x)
all_or_first P [] decide = inl (λ x h. absurd (contains_none x h))
all_or_first P (x ∷ xs) decide =
    elim (decide x (contains_head x xs)) [
      | inr fails ↦ inr (x, record { before = []; after = xs; parts = refl; has = fails; none_before = λ y h. absurd (contains_none y h) })
      | inl here ↦ elim (all_or_first P xs (λ y h. decide y (contains_later x xs y h))) [
        | inl all ↦ inl (λ y h. elim (contains_cases x xs y h) [ inl same ↦ subst (λ z. P z) same here | inr later ↦ all y later ])
        | inr (y, first) ↦ inr (
          y,
          record {
            before = x ∷ first.before;
            after = first.after;
            parts = ap (λ zs. x ∷ zs) first.parts;
            has = first.has;
            none_before = λ z h. elim (contains_cases x first.before z h) [
              | inl same ↦ (λ fails. fails (subst (λ u. P u) same here))
              | inr later ↦ first.none_before z later
            ];
          },
        )
      ]
    ]

module _ {X : Type 0} (P Q : X → Type 0) (excludes : (x : X) → Q x → ¬ P x) where
  -- each item has Q
  abbrev pub AllOf : List X → Type 0
  AllOf xs = (x : X) → Contains xs x → Q x

  pub all_more : (xs ys : List X) → AllOf xs → AllOf ys → AllOf (xs ++ ys)
  all_more xs ys first then' x h = elim (Contains-append_cases xs ys x h) [ inl early ↦ first x early | inr late ↦ then' x late ]

  pub behind : (xs ys : List X) (x : X) → AllOf xs → IsFirst P ys x → IsFirst P (xs ++ ys) x
  behind xs ys x none first = record {
    before = xs ++ first.before;
    after = first.after;
    parts = ap (λ zs. xs ++ zs) first.parts ∙ sym (append_assoc xs first.before (x ∷ first.after));
    has = first.has;
    none_before = λ y h. elim (Contains-append_cases xs first.before y h) [ inl early ↦ excludes y (none y early) | inr late ↦ first.none_before y late ];
  }

  module _ {Y : Type 0} (f : Y → List X) (ys : List Y) (i : ℕ) (d : Y) (inside : i < length ys) where
    -- one more
    pub flat_more : flat_map f (take (i + 1) ys) ≡ flat_map f (take i ys) ++ f (get_or ys i d)
    flat_more = ap (flat_map f) (take_more ys i d inside) ∙ (flat_map-append f (take i ys) (get_or ys i d ∷ []) ∙ ap (λ (zs : List X). flat_map f (take i ys) ++ zs) (append-nil (f (get_or ys i d))))

    flat_parts : flat_map f ys ≡ flat_map f (take i ys) ++ (f (get_or ys i d) ++ flat_map f (drop (i + 1) ys))
    flat_parts =
        let parts : ys ≡ take i ys ++ (get_or ys i d ∷ drop (i + 1) ys) = sym (take-append-drop i ys) ∙ at_drop_more (λ rest. take i ys ++ rest) ys i d inside in
        ap (flat_map f) parts ∙ flat_map-append f (take i ys) (get_or ys i d ∷ drop (i + 1) ys)

    pub all_so_far : AllOf (flat_map f (take i ys)) → AllOf (f (get_or ys i d)) → AllOf (flat_map f (take (i + 1) ys))
    all_so_far early here = subst AllOf (sym flat_more) (all_more _ _ early here)

    pub first_there : (x : X) → AllOf (flat_map f (take i ys)) → IsFirst P (f (get_or ys i d)) x → IsFirst P (flat_map f ys) x
    first_there x early here = subst (λ zs. IsFirst P zs x) (sym flat_parts) (behind _ _ x early (appended P _ _ x here))
