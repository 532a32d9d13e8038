-- Runs by the three rules: at each turn a picker answers which of the choices is taken.
use Rattle.std.specs.Prelude.{ℕ, List}
use Rattle.sk_base.specs.declared.Graph.{Graph}
use Rattle.sk_family.specs.Clusters.{Clusters}
use Rattle.sk_family.specs.declared.Merge.{Merge}
use Rattle.sk_close_by_order.specs.Run.{PicksLeadBy, IsRunBy}
use Rattle.sk_close_by_angles.specs.WideChoices.{AreWideChoices}

-- from this family and this state of the picker, the picked choices, one after another, lead to that
-- family and that state
abbrev pub WidePicksLead : {P : Type 0} → (P → ℕ → ℕ) → (P → ℕ → P) → Graph → Clusters → P → List Merge → Clusters → P → Type 0
WidePicksLead answer after g f p ms end last = PicksLeadBy (AreWideChoices g) answer after f p ms end last

-- the picked choices lead to the end, where there is no choice
abbrev pub IsWideRun : {P : Type 0} → (P → ℕ → ℕ) → (P → ℕ → P) → Graph → Clusters → P → List Merge → Clusters → P → Type 0
IsWideRun answer after g f p ms end last = IsRunBy (AreWideChoices g) answer after f p ms end last
