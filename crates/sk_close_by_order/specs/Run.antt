-- Runs: at each turn a picker answers which of the choices is taken.
use Rattle.std.specs.Prelude.{◌≡◌, ℕ, List, [], ◌∷◌, length, slice_get, Some}
use Rattle.sk_base.specs.declared.Graph.{Graph}
use Rattle.sk_family.specs.Clusters.{Clusters}
use Rattle.sk_family.specs.declared.Merge.{Merge}
use Rattle.sk_rules.specs.declared.Taken.{Taken}
use Rattle.sk_rules.specs.Merges.{merged}
use Rattle.sk_close_by_order.specs.Choices.{AreChoices}

abbrev pub merge_of : Taken → Merge
merge_of t = t.merge

-- from this family and this state of the picker, the picked choices, one after another, lead to that
-- family and that state, where which lists are the choices of a family is a relation
abbrev pub PicksLeadBy : {P : Type 0} → (Clusters → List Merge → Type 0) → (P → ℕ → ℕ) → (P → ℕ → P) → Clusters → P → List Merge → Clusters → P → Type 0
PicksLeadBy are answer after f p [] end last = (end ≡ f) × (last ≡ p)
PicksLeadBy are answer after f p (m ∷ ms) end last =
    (choices : List Merge) × are f choices × (slice_get choices (answer p (length choices)) ≡ Some m)
    × PicksLeadBy are answer after (merged f m) (after p (length choices)) ms end last

-- the picked choices lead to the end, where there is no choice
pub record IsRunBy {P : Type 0} (are : Clusters → List Merge → Type 0) (answer : P → ℕ → ℕ) (after : P → ℕ → P) (f : Clusters) (p : P) (ms : List Merge) (end : Clusters) (last : P) : Type 0 where
  pub leads : PicksLeadBy are answer after f p ms end last
  pub ends : are end []

-- the same for the choices of the two rules
abbrev pub PicksLead : {P : Type 0} → (P → ℕ → ℕ) → (P → ℕ → P) → Graph → Clusters → P → List Merge → Clusters → P → Type 0
PicksLead answer after g f p ms end last = PicksLeadBy (AreChoices g) answer after f p ms end last

-- the family is one that picked choices lead to
abbrev pub IsOnTheWay : {P : Type 0} → (P → ℕ → ℕ) → (P → ℕ → P) → Graph → Clusters → P → Clusters → Type 0
IsOnTheWay {P} answer after g f p on_the_way = (ms : List Merge) × (last : P) × PicksLead answer after g f p ms on_the_way last

abbrev pub IsRun : {P : Type 0} → (P → ℕ → ℕ) → (P → ℕ → P) → Graph → Clusters → P → List Merge → Clusters → P → Type 0
IsRun answer after g f p ms end last = IsRunBy (AreChoices g) answer after f p ms end last
