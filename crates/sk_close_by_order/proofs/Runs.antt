-- Runs that go on, and what the choices tell.
use Rattle.std.proofs.Common.{◌≡◌, inl, inr, ℕ, ◌+◌, ◌≤◌, List, [], ◌∷◌, ◌++◌, ap, sym, subst, ◌∙◌, length, arith}
use Rattle.std.specs.Prelude.{Contains, map, slice_get, Some, Result, Ok, Err, OnErr}
use Rattle.std.proofs.lemmas.List.{map-append}
use Rattle.sk_base.specs.declared.Graph.{Graph}
use Rattle.sk_family.specs.Clusters.{Clusters, bodies, IsSound}
use Rattle.sk_base.proofs.Members.{contains_none, contains_one}
use Rattle.sk_family.specs.declared.Merge.{Merge}
use Rattle.sk_rules.specs.declared.Taken.{Taken}
use Rattle.sk_family.specs.Merges.{Falls, names_of}
use Rattle.sk_rules.specs.Merges.{Holds, merged, CanTake}
use Rattle.sk_rules.specs.Taking.{IsTaken, Leads}
use Rattle.sk_rules.specs.Reach.{IsClosed}
use Rattle.sk_rules.proofs.Merging.{merge_lessens, closed_by_merges, can_be_replaced}
use Rattle.sk_family.proofs.Soundness.{sound_replaced}
use Rattle.sk_close_by_order.specs.Choices.{AreChoices}
use Rattle.sk_close_by_order.specs.Run.{PicksLead, merge_of}
use Rattle.sk_close_by_order.specs.Turns.{Answers}
use Rattle.sk_neighbours.proofs.Holding.{in_list}

pub choice_can : (g : Graph) (f : Clusters) (choices : List Merge) → AreChoices g f choices → (m : Merge) → Contains choices m → CanTake g f m
choice_can g f choices (inl (first, is, h)) m m_in =
    subst (λ n. CanTake g f n) (contains_one first m (subst (λ cs. Contains cs m) is m_in)) h.can_take
choice_can g f choices (inr h) m m_in = (h.exactly m).0 m_in

-- without a choice no merge may be taken
pub none_can : (g : Graph) (f : Clusters) → AreChoices g f [] → (m : Merge) → Falls m → ¬ Holds g f m
none_can g f (inl (first, is, h)) m falls holds = absurd (cc)
none_can g f (inr h) m falls holds = contains_none m ((h.exactly m).1 (falls, holds))

pub none_closes : (g : Graph) (f : Clusters) → IsSound f → AreChoices g f [] → IsClosed g (bodies f)
none_closes g f sound none = closed_by_merges g f sound (none_can g f none)

-- one more merge at the end of those that lead here
pub leads_more : (g : Graph) (f mid : Clusters) (ts : List Taken) (t : Taken) → Leads g f ts mid → IsTaken g mid t → Leads g f (ts ++ t ∷ []) (merged mid t.merge)
leads_more g f mid [] t is taken = (subst (λ (e : Clusters). IsTaken g e t) (sym is) taken, ap (λ (e : Clusters). merged e t.merge) is)
leads_more g f mid (u ∷ ts) t (first, rest) taken = (first, leads_more g (merged f u.merge) mid ts t rest taken)

module _ {P : Type 0} (answer : P → ℕ → ℕ) (after : P → ℕ → P) (g : Graph) where
  -- one more picked choice at the end of those that lead here
  pub picks_more : (f : Clusters) (p : P) (ms : List Merge) (mid : Clusters) (q : P) → PicksLead answer after g f p ms mid q
      → (choices : List Merge) → AreChoices g mid choices → (m : Merge) → slice_get choices (answer q (length choices)) ≡ Some m
      → PicksLead answer after g f p (ms ++ m ∷ []) (merged mid m) (after q (length choices))
  picks_more f p [] mid q (mid_is, q_is) choices are m picked = (
    choices,
    subst (λ (e : Clusters). AreChoices g e choices) mid_is are,
    subst (λ (r : P). slice_get choices (answer r (length choices)) ≡ Some m) q_is picked,
    (ap (λ (e : Clusters). merged e m) mid_is, ap (λ (r : P). after r (length choices)) q_is),
  )
  picks_more f p (n ∷ ms) mid q (first, first_are, first_picked, rest) choices are m picked =
      (first, first_are, first_picked, picks_more (merged f n) (after p (length first)) ms mid q rest choices are m picked)

  picked_can : (f : Clusters) (p : P) (choices : List Merge) → AreChoices g f choices → (m : Merge) → slice_get choices (answer p (length choices)) ≡ Some m → CanTake g f m
  picked_can f p choices are m picked = choice_can g f choices are m (in_list choices (answer p (length choices)) m picked)

  -- the choice that was answered may be taken
  pub answer_can : (f : Clusters) (p : P) (m : Merge) (q : P) → Answers answer after g f p (Some m) q → CanTake g f m
  answer_can f p m q (choices, are, picked, q_is) = picked_can f p choices are m picked

  -- the same, as a turn of the loop has it
  pub picks_turn : (f : Clusters) (p : P) (taken : List Taken) (mid : Clusters) (q : P) → PicksLead answer after g f p (map merge_of taken) mid q
      → (m : Merge) (last : P) → Answers answer after g mid q (Some m) last → (new : Clusters) → new ≡ merged mid m → PicksLead answer after g f p (map merge_of taken ++ m ∷ []) new last
  picks_turn f p taken mid q so_far m last (choices, are, picked, last_is) new new_is =
      subst (λ (r : P). PicksLead answer after g f p (map merge_of taken ++ m ∷ []) new r) (sym last_is)
      (subst (λ (e : Clusters). PicksLead answer after g f p (map merge_of taken ++ m ∷ []) e (after q (length choices))) (sym new_is)
      (picks_more f p (map merge_of taken) mid q so_far choices are m picked))

  -- with the merge that was taken put down
  pub picks_taken : (f : Clusters) (p : P) (taken : List Taken) (t : Taken) (m : Merge) → t.merge ≡ m → (new : Clusters) (last : P)
      → PicksLead answer after g f p (map merge_of taken ++ m ∷ []) new last → PicksLead answer after g f p (map merge_of (taken ++ t ∷ [])) new last
  picks_taken f p taken t m is new last leads =
      subst (λ ms. PicksLead answer after g f p ms new last) (sym (map-append merge_of taken (t ∷ []) ∙ ap (λ (n : Merge). map merge_of taken ++ n ∷ []) is)) leads

  -- picked choices lead to a sound family
  pub picks_sound : (f end : Clusters) (p last : P) (ms : List Merge) → IsSound f → PicksLead answer after g f p ms end last → IsSound end
  picks_sound f end p last [] sound (is, same) = subst (λ e. IsSound e) (sym is) sound
  picks_sound f end p last (m ∷ ms) sound (choices, are, picked, rest) =
      let can = picked_can f p choices are m picked in
      picks_sound (merged f m) end (after p (length choices)) last ms (sound_replaced f (names_of m) sound (can_be_replaced g f m can.0 can.1)) rest

  -- each merge takes one number, and leaves fewer clusters
  pub picks_room : (f end : Clusters) (p last : P) (ms : List Merge) → IsSound f → PicksLead answer after g f p ms end last → end.next_step + length end.live ≤ f.next_step + length f.live
  picks_room f end p last [] sound (is, same) = subst (λ (e : Clusters). e.next_step + length e.live ≤ f.next_step + length f.live) (sym is) (omega arith)
  picks_room f end p last (m ∷ ms) sound (choices, are, picked, rest) =
      let can = picked_can f p choices are m picked in
      let fewer = merge_lessens g f sound m can.0 can.1 in
      let later = picks_room (merged f m) end (after p (length choices)) last ms (sound_replaced f (names_of m) sound (can_be_replaced g f m can.0 can.1)) rest in
      omega arith
