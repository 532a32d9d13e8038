-- Claims that are settled: each holds, or it does not.
use Rattle.std.proofs.Common.{suc, ◌≡◌, ◌⊎◌, inl, inr, List, [], ◌∷◌, ap, refl, sym, ◌∙◌, subst, ℕ, ◌<◌, arith}
use Rattle.std.specs.Prelude.{Contains, All}
use Rattle.std.proofs.lemmas.List.Elements.{All-nil, All-cons}
use Rattle.sk_base.specs.declared.numbered.ConId.{ConId}
use Rattle.sk_base.specs.declared.numbered.Elem.{Elem}
use Rattle.sk_base.specs.declared.measure.Kind.{Kind}
use Rattle.sk_base.specs.declared.measure.Kind.TheVariants.{Point, Line}
use Rattle.sk_base.specs.declared.graph.Node.{Node}
use Rattle.sk_base.specs.declared.name.Name.{Name}
use Rattle.sk_base.specs.declared.name.Name.TheVariants.{Con, Step}
use Rattle.sk_base.specs.ClusterNames.{IsBelow}
use Rattle.sk_base.specs.Numbering.{elem_number, con_number, elem_exact, con_exact}
use Rattle.sk_base.proofs.Members.{Settles, nat_settles, contains_none, contains_head, contains_later, contains_cases}
use Rattle.sk_base.proofs.Unions.{which}

abbrev pub Decided : Type 0 → Type 0
Decided A = A ⊎ (A → ⊥)

module _ {A B : Type 0} where
  pub both : Decided A → Decided B → Decided (A × B)
  both (inl a) (inl b) = inl (a, b)
  both (inl a) (inr never) = inr (λ h. never h.1)
  both (inr never) b = inr (λ h. never h.0)

  pub either : Decided A → Decided B → Decided (A ⊎ B)
  either (inl a) b = inl (inl a)
  either (inr never) (inl b) = inl (inr b)
  either (inr never) (inr nor) = inr (λ h. elim h [ inl a ↦ never a | inr b ↦ nor b ])

  pub moved : (A → B) → (B → A) → Decided A → Decided B
  moved to from (inl a) = inl (to a)
  moved to from (inr never) = inr (λ b. never (from b))

pub three : {A B C : Type 0} → Decided A → Decided B → Decided C → Decided (A × B × C)
three a b c = moved (λ h. (h.0, h.1.0, h.1.1)) (λ h. (h.0, (h.1, h.2))) (both a (both b c))

pub implied : {A B : Type 0} → Decided A → Decided B → Decided (A → B)
implied (inl a) (inl b) = inl (λ h. b)
implied (inl a) (inr never) = inr (λ h. never (h a))
implied (inr never) b = inl (λ a. absurd (never a))

pub denied : {A : Type 0} → Decided A → Decided (A → ⊥)
denied (inl a) = inr (λ never. never a)
denied (inr never) = inl never

module _ {X : Type 0} where
  -- whether some item of a list is so
  pub some_in : (P : X → Type 0) → ((x : X) → Decided (P x)) → (xs : List X) → Decided ((x : X) × Contains xs x × P x)
  some_in P decide [] = inr (λ (x, x_in, h). contains_none x x_in)
  some_in P decide (y ∷ ys) =
      elim (decide y) [
        | inl here ↦ inl (y, contains_head y ys, here)
        | inr not_here ↦ elim (some_in P decide ys) [
          | inl (x, x_in, h) ↦ inl (x, contains_later y ys x x_in, h)
          | inr none ↦ inr (λ (x, x_in, h). elim (contains_cases y ys x x_in) [
            | inl same ↦ not_here (subst (λ z. P z) (sym same) h)
            | inr later ↦ none (x, later, h)
          ])
        ]
      ]

  pub is_in : Settles X → (xs : List X) (x : X) → Decided (Contains xs x)
  is_in settles xs x =
      moved (λ (y, y_in, same). subst (λ z. Contains xs z) same y_in) (λ h. (x, h, refl)) (some_in (λ y. y ≡ x) (λ y. settles y x) xs)

-- whether each item of a list is so
pub each_decided : {X : Type 0} (P : X → Type 0) (xs : List X) → ((x : X) → Decided (P x)) → Decided ((x : X) → Contains xs x → P x)
each_decided P [] decide = inl (λ x h. absurd (contains_none x h))
each_decided P (y ∷ ys) decide =
    elim (decide y) [
      | inr fails ↦ inr (λ all. fails (all y (contains_head y ys)))
      | inl here ↦ elim (each_decided P ys decide) [
        | inr later ↦ inr (λ all. later (λ x h. all x (contains_later y ys x h)))
        | inl rest ↦ inl (λ x h. elim (contains_cases y ys x h) [ inl same ↦ subst (λ z. P z) same here | inr within ↦ rest x within ])
      ]
    ]

-- whether all are so
pub all_decided : {X : Type 0} (P : X → Type 0) → ((x : X) → Decided (P x)) → (xs : List X) → Decided (All P xs)
all_decided P decide [] = inl (All-nil P)
all_decided P decide (x ∷ xs) =
    elim (decide x) [
      | inr fails ↦ inr (λ h. fails (h 0 x (omega arith)))
      | inl here ↦ elim (all_decided P decide xs) [
        | inl rest ↦ inl (All-cons P x xs here rest)
        | inr later ↦ inr (λ h. later (λ k d k_in. h (suc k) d (omega arith)))
      ]
    ]

settles_by : {X : Type 0} (number : X → ℕ) → ((x y : X) → number x ≡ number y → x ≡ y) → Settles X
settles_by number exact x y =
    elim (nat_settles (number x) (number y)) [ inl same ↦ inl (exact x y same) | inr other ↦ inr (λ e. other (ap number e)) ]

pub elem_settles : Settles Elem
elem_settles = settles_by elem_number elem_exact

pub con_settles : Settles ConId
con_settles = settles_by con_number con_exact

pub kind_settles : Settles Kind
kind_settles Point Point = inl refl
kind_settles Point Line = inr (λ e. cc)
kind_settles Line Point = inr (λ e. cc)
kind_settles Line Line = inl refl

pub node_settles : Settles Node
node_settles a b =
    elim (elem_settles a.elem b.elem) [
      | inr other ↦ inr (λ e. other (ap (λ (n : Node). n.elem) e))
      | inl elem ↦ elim (kind_settles a.kind b.kind) [
        | inr other ↦ inr (λ e. other (ap (λ (n : Node). n.kind) e))
        | inl kind ↦ inl (ap (λ (e : Elem). make e a.kind) elem ∙ ap (λ (k : Kind). make b.elem k) kind)
      ]
    ]
  where
    make : Elem → Kind → Node
    make e k = record { elem = e; kind = k }

pub below_decided : (m n : ℕ) → Decided (m < n)
below_decided m n = elim (which m n) [
  | inl less ↦ inl less
  | inr (inl same) ↦ inr (λ h. omega arith)
  | inr (inr more) ↦ inr (λ h. omega arith)
]

pub name_below : (m n : Name) → Decided (IsBelow m n)
name_below (Con j) (Con k) = below_decided j k
name_below (Con j) (Step k) = inl tt
name_below (Step j) (Con k) = inr (λ h. h)
name_below (Step j) (Step k) = below_decided j k

pub name_settles : Settles Name
name_settles (Con j) (Con k) = elim (nat_settles j k) [ inl same ↦ inl (ap Con same) | inr other ↦ inr (λ e. other (cc)) ]
name_settles (Con j) (Step k) = inr (λ e. cc)
name_settles (Step j) (Con k) = inr (λ e. cc)
name_settles (Step j) (Step k) = elim (nat_settles j k) [ inl same ↦ inl (ap Step same) | inr other ↦ inr (λ e. other (cc)) ]
