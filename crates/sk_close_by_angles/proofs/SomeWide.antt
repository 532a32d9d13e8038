-- Each sound graph has a wide normal family: whether two lines are tied is settled, and each merge leaves fewer clusters.
use Rattle.std.proofs.Common.{◌≡◌, ◌⊎◌, inl, inr, refl, ℕ, zero, suc, ◌<◌, ◌≤◌, List, [], ◌∷◌, length, sym, subst, arith}
use Rattle.std.specs.Prelude.{Contains}
use Rattle.sk_base.specs.declared.Elem.{Elem}
use Rattle.sk_base.specs.declared.Graph.{Graph}
use Rattle.sk_base.specs.declared.Kind.TheVariants.{Point}
use Rattle.sk_base.specs.SoundGraph.{IsSoundGraph}
use Rattle.sk_base.proofs.Members.{contains_none, contains_head, contains_later, contains_cases}
use Rattle.sk_base.proofs.Pairs.{pairs_none}
use Rattle.sk_family.specs.declared.Cluster.{Cluster}
use Rattle.sk_family.specs.Body.{Body, starts, initial_bodies}
use Rattle.sk_family.specs.Clusters.{Clusters, IsNamed, IsSound, bodies, initial_clusters}
use Rattle.sk_base.proofs.Deciding.{elem_settles, Decided, both, either, is_in, moved, name_below, node_settles, some_in}
use Rattle.sk_family.proofs.Bodies.{within_itself}
use Rattle.sk_family.proofs.Soundness.{sound_initial, sound_replaced, starting_bodies}
use Rattle.sk_family.specs.declared.Merge.{Merge}
use Rattle.sk_family.specs.declared.Merge.TheVariants.{Two, Three}
use Rattle.sk_family.specs.Merges.{names_of}
use Rattle.sk_rules.specs.Merges.{merged}
use Rattle.sk_rules.specs.Reach.{stays, goes}
use Rattle.sk_family.specs.Rules.{IsLine}
use Rattle.sk_rules.proofs.Merging.{can_be_replaced, merge_lessens, merge_steps}
use Rattle.sk_open_triples.specs.MergeOrder.{ComesFirst}
use Rattle.sk_close_by_order.specs.Choices.{AreChoices}
use Rattle.sk_close_by_order.proofs.Runs.{choice_can, none_closes}
use Rattle.sk_close_by_angles.specs.Ties.{AreTied, itself, further, SharesPoint, HaveTiedLines, MeetsByTie, wide_rule}
use Rattle.sk_close_by_angles.specs.WideChoices.{CanTakeByTie}
use Rattle.sk_close_by_angles.specs.WideReach.{WideReach, WideStep, IsWideNormal}
use Rattle.sk_close_by_angles.proofs.Tying.{tied_covered, tied_in_one, tied_on, tied_start}
use Rattle.sk_close_by_angles.proofs.WideForm.{step_widens}
use Rattle.sk_close_by_angles.proofs.WideRuns.{reach_by_on, tie_lessens, tie_replaced, tie_steps, wide_closed}
use Rattle.sk_rules.proofs.SettledRules.{line_decided, some_named}
use Rattle.sk_close_by_order.proofs.SomeChoices.{names_listed, pairs, some_choices}

-- lines that one body more ties: those that the others tie, and those from which and to which the others lead by lines of it
module _ (g : Graph) (x : Body) (f : List Body) where
  abbrev Leads : Elem → Elem → Type 0
  Leads l m = (l ≡ m) ⊎ AreTied g f l m

  abbrev Leaves : Elem → Elem → Type 0
  Leaves n q = IsLine g q × Leads q n

  abbrev Enters : Elem → Elem → Elem → Type 0
  Enters l n p = IsLine g p × (Leads l p × ((q : Elem) × Contains x.elements q × Leaves n q))

  abbrev TiedBy : Elem → Elem → Type 0
  TiedBy l n = AreTied g f l n ⊎ ((p : Elem) × Contains x.elements p × Enters l n p)

  more : (l m : Elem) → AreTied g f l m → AreTied g (x ∷ f) l m
  more l m tied = tied_covered g f (x ∷ f) (λ y y_in. (y, contains_later x f y y_in, within_itself y)) l m tied

  to_tied : (l n : Elem) → TiedBy l n → AreTied g (x ∷ f) l n
  to_tied l n (inl tied) = more l n tied
  to_tied l n (inr (p, p_in, (p_line, (before, (q, q_in, (q_line, after)))))) =
      let here : AreTied g (x ∷ f) p q = tied_in_one g (x ∷ f) p q p_line q_line x (contains_head x f) p_in q_in in
      let on : AreTied g (x ∷ f) p n = elim after [
        | inl same ↦ subst (λ z. AreTied g (x ∷ f) p z) same here
        | inr tied ↦ tied_on g (x ∷ f) p q n here (more q n tied)
      ] in
      elim before [
        | inl same ↦ subst (λ z. AreTied g (x ∷ f) z n) (sym same) on
        | inr tied ↦ tied_on g (x ∷ f) l p n (more l p tied) on
      ]

  -- one link more in front
  linked_here : (l k n : Elem) → IsLine g l → IsLine g k → Contains x.elements l → Contains x.elements k → TiedBy k n → TiedBy l n
  linked_here l k n l_line k_line l_in k_in (inl tied) = inr (l, l_in, (l_line, (inl refl, (k, k_in, (k_line, inr tied)))))
  linked_here l k n l_line k_line l_in k_in (inr (p, p_in, (p_line, (before, after)))) = inr (l, l_in, (l_line, (inl refl, after)))

  linked_there : (l k n : Elem) → IsLine g l → IsLine g k → (y : Body) → Contains f y → Contains y.elements l → Contains y.elements k → TiedBy k n → TiedBy l n
  linked_there l k n l_line k_line y y_in l_in k_in (inl tied) = inl (further l_line y y_in l_in k_in tied)
  linked_there l k n l_line k_line y y_in l_in k_in (inr (p, p_in, (p_line, (inl same, after)))) =
      inr (p, p_in, (p_line, (inr (subst (λ z. AreTied g f l z) same (tied_in_one g f l k l_line k_line y y_in l_in k_in)), after)))
  linked_there l k n l_line k_line y y_in l_in k_in (inr (p, p_in, (p_line, (inr tied, after)))) =
      inr (p, p_in, (p_line, (inr (further l_line y y_in l_in k_in tied), after)))

  from_tied : (l n : Elem) → AreTied g (x ∷ f) l n → TiedBy l n
  from_tied l n (itself line y y_in l_in) =
      elim (contains_cases x f y y_in) [
        | inl here ↦ (let l_here = subst (λ (z : Body). Contains z.elements l) (sym here) l_in in inr (l, l_here, (line, (inl refl, (l, l_here, (line, inl refl))))))
        | inr later ↦ inl (itself line y later l_in)
      ]
  from_tied l n (further {m = k} line y y_in l_in k_in rest) =
      let k_line = tied_start g (x ∷ f) k n rest in
      elim (contains_cases x f y y_in) [
        | inl here ↦ linked_here l k n line k_line (subst (λ (z : Body). Contains z.elements l) (sym here) l_in) (subst (λ (z : Body). Contains z.elements k) (sym here) k_in) (from_tied k n rest)
        | inr later ↦ linked_there l k n line k_line y later l_in k_in (from_tied k n rest)
      ]

  tied_by_decided : ((l m : Elem) → Decided (AreTied g f l m)) → (l n : Elem) → Decided (TiedBy l n)
  tied_by_decided decide l n =
      either (decide l n) (some_in (Enters l n) (λ p. both (line_decided g p) (both (either (elem_settles l p) (decide l p))
      (some_in (Leaves n) (λ q. both (line_decided g q) (either (elem_settles q n) (decide q n))) x.elements))) x.elements)

none_tied : (g : Graph) (l m : Elem) → ¬ AreTied g [] l m
none_tied g l m (itself line x x_in l_in) = contains_none x x_in
none_tied g l m (further line x x_in l_in k_in rest) = contains_none x x_in

tied_decided : (g : Graph) (f : List Body) (l m : Elem) → Decided (AreTied g f l m)
tied_decided g [] l m = inr (none_tied g l m)
tied_decided g (x ∷ f) l m = moved (to_tied g x f l m) (from_tied g x f l m) (tied_by_decided g x f (tied_decided g f) l m)

meets_by_tie_decided : (g : Graph) (f : List Body) (xs ys : List Elem) → Decided (MeetsByTie g f xs ys)
meets_by_tie_decided g f xs ys = both shares tied
  where
    shares : Decided (SharesPoint g xs ys)
    shares =
        moved (λ (p, p_in, h). (p, h.0, (p_in, h.1))) (λ (p, point, h). (p, h.0, (point, h.1)))
        (some_in (λ p. Contains g.nodes (record { elem = p; kind = Point }) × Contains ys p) (λ p. both (is_in node_settles g.nodes (record { elem = p; kind = Point })) (is_in elem_settles ys p)) xs)

    tied : Decided (HaveTiedLines g f xs ys)
    tied =
        moved (λ (l, l_in, (m, m_in, h)). (l, m, l_in, m_in, h)) (λ (l, m, l_in, m_in, h). (l, l_in, (m, m_in, h)))
        (some_in (λ l. (m : Elem) × Contains ys m × AreTied g f l m) (λ l. some_in (λ m. AreTied g f l m) (λ m. tied_decided g f l m) ys) xs)

module _ (g : Graph) (f : Clusters) where
  can_decided : (m : Merge) → Decided (CanTakeByTie g f m)
  can_decided (Three x y z) = inr (λ h. h.1)
  can_decided (Two x y) =
      both (name_below y x) (moved (λ (a, a_is, (b, b_is, h)). (a, b, a_is, b_is, h)) (λ (a, b, a_is, b_is, h). (a, a_is, (b, b_is, h)))
      (some_named g f x (λ a. (b : Cluster) × IsNamed f y b × MeetsByTie g (bodies f) a.elements b.elements) (λ a.
      some_named g f y (λ b. MeetsByTie g (bodies f) a.elements b.elements) (λ b. meets_by_tie_decided g (bodies f) a.elements b.elements))))

  listed : (m : Merge) → CanTakeByTie g f m → Contains (pairs g f) m
  listed (Three x y z) h = absurd h.1
  listed (Two x y) (falls, (a, b, a_is, b_is, meets)) = names_listed g f x y a b a_is b_is

  -- some merge by the tie rule may be taken, or none
  tie_or_none : Decided ((m : Merge) × CanTakeByTie g f m)
  tie_or_none = moved (λ (m, m_in, can). (m, can)) (λ (m, can). (m, listed m can, can)) (some_in (λ m. CanTakeByTie g f m) can_decided (pairs g f))

pub record SomeWide (g : Graph) : Type 0 where
  pub family : Clusters
  pub sound : IsSound family
  pub normal : IsWideNormal g (bodies family)

module _ (g : Graph) where
  abbrev IsReached : Clusters → Type 0
  IsReached f = WideReach g (initial_bodies g) (bodies f)

  abbrev GoesOn : Clusters → Type 0
  GoesOn f = (next : Clusters) → IsSound next → IsReached next → length next.live < length f.live → SomeWide g

  on : (f next : Clusters) → IsReached f → WideStep g (bodies f) (bodies next) → IsReached next
  on f next reached step = reach_by_on (wide_rule g) (initial_bodies g) (bodies f) (bodies next) reached (goes step stays)

  -- no choice by the first two rules is left
  by_tie : (f : Clusters) → IsSound f → IsReached f → GoesOn f → AreChoices g f [] → SomeWide g
  by_tie f sound reached go none =
      elim (tie_or_none g f) [
        | inl (m, can) ↦ tied m can
        | inr never ↦ record {
          family = f;
          sound = sound;
          normal = record {
            reached = reached;
            closed = wide_closed g f sound (none_closes g f sound none) (record { in_order = pairs_none ComesFirst; exactly = λ m. ((λ h. absurd (contains_none m h)), (λ can. absurd (never (m, can)))) });
          };
        }
      ]
    where
      tied : (m : Merge) → CanTakeByTie g f m → SomeWide g
      tied (Three x y z) can = absurd can.1
      tied (Two x y) can =
          let fewer = tie_lessens g f sound (Two x y) can in
          go (merged f (Two x y)) (sound_replaced f (x ∷ y ∷ []) sound (tie_replaced g f x y can)) (on f (merged f (Two x y)) reached (tie_steps g f sound (Two x y) can)) (omega arith)

  turn : (f : Clusters) → IsSound f → IsReached f → GoesOn f → (choices : List Merge) → AreChoices g f choices → SomeWide g
  turn f sound reached go [] none = by_tie f sound reached go none
  turn f sound reached go (m ∷ ms) are =
      let can = choice_can g f (m ∷ ms) are m (contains_head m ms) in
      go (merged f m) (sound_replaced f (names_of m) sound (can_be_replaced g f m can.0 can.1))
      (on f (merged f m) reached (step_widens g (bodies f) (bodies (merged f m)) (merge_steps g f sound m can.0 can.1))) (merge_lessens g f sound m can.0 can.1)

  some_within : (most : ℕ) (f : Clusters) → IsSound f → IsReached f → length f.live ≤ most → SomeWide g
  some_within zero f sound reached few = (let found = some_choices g f in turn f sound reached (λ next next_sound next_reached less. absurd (omega arith)) found.0 found.1)
  some_within (suc most) f sound reached few =
      let found = some_choices g f in turn f sound reached (λ next next_sound next_reached less. some_within most next next_sound next_reached (omega arith)) found.0 found.1

  pub some_wide : IsSoundGraph g → SomeWide g
  some_wide sound =
      some_within (length (initial_clusters g).live) (initial_clusters g) (sound_initial g sound) (subst (λ f. WideReach g (initial_bodies g) f) (sym (starting_bodies (starts g))) stays) (omega arith)
