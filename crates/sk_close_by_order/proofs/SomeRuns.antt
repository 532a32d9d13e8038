-- Each sound family and state of a picker has a run, and each sound graph a normal family.
use Rattle.std.proofs.Common.{◌≡◌, refl, ℕ, zero, suc, ◌<◌, ◌≤◌, List, [], ◌∷◌, ap, sym, length, get_or, arith}
use Rattle.std.specs.Prelude.{map}
use Rattle.std.proofs.lemmas.Option.{slice_get-get_or}
use Rattle.std.proofs.lemmas.List.Elements.{Contains-get_or}
use Rattle.sk_base.specs.declared.Graph.{Graph}
use Rattle.sk_base.specs.declared.Name.TheVariants.{Step}
use Rattle.sk_family.specs.Clusters.{Clusters, IsSound}
use Rattle.sk_family.proofs.Soundness.{sound_replaced}
use Rattle.sk_family.specs.declared.Merge.{Merge}
use Rattle.sk_rules.specs.declared.Taken.{Taken}
use Rattle.sk_family.specs.Merges.{names_of}
use Rattle.sk_rules.specs.Merges.{merged}
use Rattle.sk_rules.specs.Taking.{Leads}
use Rattle.sk_rules.proofs.Merging.{can_be_replaced, merge_lessens}
use Rattle.sk_close_by_order.specs.Choices.{AreChoices}
use Rattle.sk_close_by_order.specs.Run.{PicksLead, IsRun, merge_of}
use Rattle.sk_close_by_order.proofs.Runs.{choice_can}
use Rattle.sk_neighbours.proofs.Holding.{in_list}
use Rattle.sk_close_by_order.proofs.SomeChoices.{some_choices}
use Rattle.sk_close_by_order.proofs.SomeShared.{some_shared}

module _ {P : Type 0} (answer : P → ℕ → ℕ) (after : P → ℕ → P) (g : Graph) where
  pub record SomeRun (f : Clusters) (p : P) : Type 0 where
    pub merges : List Merge
    pub end : Clusters
    pub last : P
    pub run : IsRun answer after g f p merges end last

  module _ (below : (p : P) (n : ℕ) → 0 < n → answer p n < n) where
    turn : (f : Clusters) (p : P) → IsSound f → ((f' : Clusters) (p' : P) → IsSound f' → length f'.live < length f.live → SomeRun f' p')
        → (choices : List Merge) → AreChoices g f choices → SomeRun f p
    turn f p sound go [] are = record { merges = []; end = f; last = p; run = record { leads = (refl, refl); ends = are } }
    turn f p sound go (c ∷ cs) are =
        let place = answer p (length (c ∷ cs)) in
        let inside : place < length (c ∷ cs) = below p (length (c ∷ cs)) (omega arith) in
        let m = get_or (c ∷ cs) place c in
        let can = choice_can g f (c ∷ cs) are m (Contains-get_or (c ∷ cs) place c inside) in
        let rest = go (merged f m) (after p (length (c ∷ cs))) (sound_replaced f (names_of m) sound (can_be_replaced g f m can.0 can.1)) (merge_lessens g f sound m can.0 can.1) in
        record {
          merges = m ∷ rest.merges;
          end = rest.end;
          last = rest.last;
          run = record { leads = (c ∷ cs, are, slice_get-get_or (c ∷ cs) place c inside, rest.run.leads); ends = rest.run.ends };
        }

    some_run_within : (most : ℕ) (f : Clusters) (p : P) → IsSound f → length f.live ≤ most → SomeRun f p
    some_run_within zero f p sound few = (let found = some_choices g f in turn f p sound (λ f' p' sound' less. absurd (omega arith)) found.0 found.1)
    some_run_within (suc most) f p sound few =
        let found = some_choices g f in turn f p sound (λ f' p' sound' less. some_run_within most f' p' sound' (omega arith)) found.0 found.1

    pub some_run : (f : Clusters) (p : P) → IsSound f → SomeRun f p
    some_run f p sound = some_run_within (length f.live) f p sound (omega arith)

  -- the merges of a run with the least elements by which each holds
  pub taken_of : (f end : Clusters) (p last : P) (ms : List Merge) → IsSound f → PicksLead answer after g f p ms end last → (ts : List Taken) × Leads g f ts end × (map merge_of ts ≡ ms)
  taken_of f end p last [] sound (is, same) = ([], sym is, refl)
  taken_of f end p last (m ∷ ms) sound (choices, are, picked, rest) =
      let can = choice_can g f choices are m (in_list choices (answer p (length choices)) m picked) in
      let shared = some_shared g f m can.1 in
      let more = taken_of (merged f m) end (after p (length choices)) last ms (sound_replaced f (names_of m) sound (can_be_replaced g f m can.0 can.1)) rest in (
        record { step = Step f.next_step; merge = m; shared = shared.0 } ∷ more.0,
        (record { falls = can.0; shared = shared.1; is_next = refl }, more.1),
        ap (λ (ns : List Merge). m ∷ ns) more.2,
      )
