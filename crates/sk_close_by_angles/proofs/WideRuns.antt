-- Runs by the three rules that go on, and merges by the tie rule as steps.
use Rattle.std.proofs.Common.{◌≡◌, ◌≢◌, inl, inr, refl, ℕ, ◌+◌, ◌<◌, ◌==◌, true, List, [], ◌∷◌, ◌++◌, ap, sym, subst, ◌∙◌, length, arith, length-append}
use Rattle.std.specs.Prelude.{Contains, map, slice_get, Some}
use Rattle.std.proofs.lemmas.Bool.Decides.{nat_tests}
use Rattle.std.proofs.lemmas.List.Elements.{All-nil, All-cons}
use Rattle.sk_base.specs.declared.Name.{Name}
use Rattle.sk_base.specs.declared.Name.TheVariants.{Step as StepName}
use Rattle.sk_base.specs.declared.Elem.{Elem}
use Rattle.sk_base.specs.declared.Graph.{Graph}
use Rattle.sk_base.proofs.Members.{contains_none, contains_cases, contains_head, contains_later, contains_one, mapped_from}
use Rattle.sk_base.proofs.Pairs.{pairs_none, pairs_cons, pairs_tell}
use Rattle.sk_family.specs.declared.Cluster.{Cluster}
use Rattle.sk_family.specs.Body.{Body}
use Rattle.sk_family.specs.Clusters.{Clusters, body_of, bodies, named, unnamed, whole_from, CanBeReplaced, IsLive, IsNamed, IsSound, ByName, HasElements}
use Rattle.sk_family.proofs.Naming.{below_differs, one_of_name}
use Rattle.sk_family.specs.declared.Merge.{Merge}
use Rattle.sk_family.specs.declared.Merge.TheVariants.{Two, Three}
use Rattle.sk_family.specs.Merges.{names_of}
use Rattle.sk_rules.specs.Merges.{merged}
use Rattle.sk_rules.specs.Reach.{ReachBy, IsClosed, stays, goes}
use Rattle.sk_rules.proofs.Merging.{replaced_replaces, named_among_bodies, bodies_differ, named_two, fewer_by}
use Rattle.sk_close_by_order.specs.Choices.{AreChoices}
use Rattle.sk_close_by_order.specs.Run.{PicksLead}
use Rattle.sk_neighbours.proofs.Holding.{in_list}
use Rattle.sk_close_by_angles.specs.Ties.{SharesPoint, MeetsByTie, CanMergeByTie}
use Rattle.sk_close_by_angles.specs.WideReach.{WideStep, IsWideClosed}
use Rattle.sk_close_by_angles.specs.WideChoices.{CanTakeByTie, AreTieMerges}
use Rattle.sk_close_by_angles.specs.WideRun.{WidePicksLead}
use Rattle.sk_close_by_angles.specs.FollowedTies.{Takes}
use Rattle.sk_close_by_angles.proofs.Tying.{tied_back}

pub reach_by_on : (rule : List Body → List Body → Type 0) (f m n : List Body) → ReachBy rule f m → ReachBy rule m n → ReachBy rule f n
reach_by_on rule f m n stays rest = rest
reach_by_on rule f m n (goes {mid = mid} first more) rest = goes first (reach_by_on rule mid m n more rest)

nothing_there : (n : ℕ) (m : Merge) → slice_get [] n ≡ Some m → ⊥
nothing_there n m e = cc

module _ {P : Type 0} (answer : P → ℕ → ℕ) (after : P → ℕ → P) (g : Graph) where
  -- picked choices by the first two rules are picked choices by the three
  pub picks_widen : (f : Clusters) (p : P) (ms : List Merge) (end : Clusters) (last : P) → PicksLead answer after g f p ms end last → WidePicksLead answer after g f p ms end last
  picks_widen f p [] end last ends = ends
  picks_widen f p (m ∷ ms) end last (choices, are, picked, rest) = (
    choices,
    inl (are, λ empty. nothing_there (answer p (length choices)) m (subst (λ cs. slice_get cs (answer p (length choices)) ≡ Some m) empty picked)),
    picked,
    picks_widen (merged f m) (after p (length choices)) ms end last rest,
  )

  pub picks_on : (f : Clusters) (p : P) (ms : List Merge) (mid : Clusters) (q : P) → WidePicksLead answer after g f p ms mid q
      → (ns : List Merge) (end : Clusters) (last : P) → WidePicksLead answer after g mid q ns end last → WidePicksLead answer after g f p (ms ++ ns) end last
  picks_on f p [] mid q (mid_is, q_is) ns end last more =
      subst (λ (h : Clusters). WidePicksLead answer after g h p ns end last) mid_is (subst (λ (r : P). WidePicksLead answer after g mid r ns end last) q_is more)
  picks_on f p (m ∷ ms) mid q (choices, are, picked, rest) ns end last more =
      (choices, are, picked, picks_on (merged f m) (after p (length choices)) ms mid q rest ns end last more)

  -- one merge by the tie rule, where no other may be taken
  picks_tie : (f : Clusters) (p : P) (merges : List Merge) → AreChoices g f [] → AreTieMerges g f merges → (m : Merge) → slice_get merges (answer p (length merges)) ≡ Some m
      → WidePicksLead answer after g f p (m ∷ []) (merged f m) (after p (length merges))
  picks_tie f p merges none are m picked = (merges, inr (none, are), picked, (refl, refl))

  -- and behind it those of a run by the first two rules
  pub picks_by_tie : (start : Clusters) (p : P) (ms : List Merge) (f : Clusters) (q : P) → WidePicksLead answer after g start p ms f q → AreChoices g f []
      → (merges : List Merge) → AreTieMerges g f merges → (m : Merge) (r : P) → Takes answer after merges q (Some m) r
      → (mid : Clusters) → mid ≡ merged f m → (ns : List Merge) (end : Clusters) (last : P) → PicksLead answer after g mid r ns end last
      → (all : List Merge) × WidePicksLead answer after g start p all end last
  picks_by_tie start p ms f q picks none merges are m r (picked, r_is) mid mid_is ns end last more =
      let to_mid = picks_on start p ms f q picks (m ∷ []) (merged f m) (after q (length merges)) (picks_tie f q merges none are m picked) in
      let rest = subst (λ (h : Clusters). WidePicksLead answer after g h r ns end last) mid_is (picks_widen mid r ns end last more) in (
        (ms ++ m ∷ []) ++ ns,
        picks_on start p (ms ++ m ∷ []) (merged f m) (after q (length merges)) to_mid ns end last (subst (λ (s : P). WidePicksLead answer after g (merged f m) s ns end last) r_is rest),
      )

shares_point_back : (g : Graph) (xs ys : List Elem) → SharesPoint g xs ys → SharesPoint g ys xs
shares_point_back g xs ys (p, point, both) = (p, point, (both.1, both.0))

pub meets_back_by_tie : (g : Graph) (f : List Body) (xs ys : List Elem) → MeetsByTie g f xs ys → MeetsByTie g f ys xs
meets_back_by_tie g f xs ys (shares, (l, m, l_in, m_in, tied)) = (shares_point_back g xs ys shares, (m, l, m_in, l_in, tied_back g f l m tied))

-- what a merge by the tie rule names may be replaced
pub tie_replaced : (g : Graph) (f : Clusters) (x y : Name) → CanTakeByTie g f (Two x y) → CanBeReplaced f (x ∷ y ∷ [])
tie_replaced g f x y (falls, (a, b, x_is, y_is, meets)) = record {
  two_or_three = inl refl;
  all_live = All-cons (λ n. IsLive f n) x (y ∷ []) (a, x_is) (All-cons (λ n. IsLive f n) y [] (b, y_is) (All-nil (λ n. IsLive f n)));
  differ = pairs_cons (λ (m n : Name). m ≢ n) x (y ∷ [])
      (pairs_cons (λ (m n : Name). m ≢ n) y [] (pairs_none (λ (m n : Name). m ≢ n)) (λ n h. absurd (contains_none n h)))
      (λ n h e. below_differs y x falls (contains_one y n h ∙ sym e));
}

module _ (g : Graph) (f : Clusters) (sound : IsSound f) where
  tie_can : (x y : Name) → CanTakeByTie g f (Two x y) → CanMergeByTie g (bodies f) (map body_of (named (x ∷ y ∷ []) f.live))
  tie_can x y (falls, (a, b, x_is, y_is, meets)) =
      let b_a : ByName b a = rw (y_is.has_name, x_is.has_name) falls in
      subst (λ cs. CanMergeByTie g (bodies f) (map body_of cs)) (sym (named_two g f sound x y a b falls x_is y_is))
      (bodies_differ g f sound b a y_is.lives x_is.lives b_a, meets_back_by_tie g (bodies f) a.elements b.elements meets)

  pub tie_steps : (m : Merge) → CanTakeByTie g f m → WideStep g (bodies f) (bodies (merged f m))
  tie_steps (Two x y) can = record {
    merged = map body_of (named (x ∷ y ∷ []) f.live);
    can_merge = inr (tie_can x y can);
    among = named_among_bodies f sound (x ∷ y ∷ []);
    replaces = replaced_replaces f sound (x ∷ y ∷ []);
  }
  tie_steps (Three x y z) (falls, never) = absurd never

  -- what it names has an element
  pub tie_elements : (m : Merge) → CanTakeByTie g f m → (n : Name) → Contains (names_of m) n → HasElements f n
  tie_elements (Two x y) (falls, (a, b, x_is, y_is, ((p, point, both), tied))) n n_in c c_is =
      elim (contains_cases x (y ∷ []) n n_in) [
        | inl at_x ↦ (p, subst (λ (d : Cluster). Contains d.elements p) (one_of_name f sound n a c (subst (λ k. IsNamed f k a) at_x x_is) c_is) both.0)
        | inr later ↦ (p, subst (λ (d : Cluster). Contains d.elements p) (one_of_name f sound n b c (subst (λ k. IsNamed f k b) (contains_one y n later) y_is) c_is) both.1)
      ]
  tie_elements (Three x y z) (falls, never) n n_in c c_is = absurd never

  -- it leaves one cluster fewer
  pub tie_lessens : (m : Merge) → CanTakeByTie g f m → length (merged f m).live + 1 ≡ length f.live
  tie_lessens (Two x y) (falls, (a, b, x_is, y_is, meets)) =
      let by = fewer_by g f sound (x ∷ y ∷ []) (b ∷ a ∷ []) (named_two g f sound x y a b falls x_is y_is) in omega arith
  tie_lessens (Three x y z) (falls, never) = absurd never

  pub two_live : (m : Merge) → CanTakeByTie g f m → 1 < length f.live
  two_live m can =
      let less = tie_lessens m can in
      let some = length-append (unnamed (names_of m) f.live) (whole_from (StepName f.next_step) (names_of m) f.live ∷ []) in
      omega (arith, less, some)

  -- where no merge is left, no bodies may merge
  none_by_tie : AreTieMerges g f [] → (a b : Cluster) → Contains f.live a → Contains f.live b → ByName b a → ¬ MeetsByTie g (bodies f) a.elements b.elements
  none_by_tie none a b a_in b_in b_a meets =
      contains_none (Two a.name b.name)
      ((none.exactly (Two a.name b.name)).1 (b_a, (a, b, record { lives = a_in; has_name = refl }, record { lives = b_in; has_name = refl }, meets)))

  no_two : AreTieMerges g f [] → (a b : Cluster) → Contains f.live a → Contains f.live b → body_of a ≢ body_of b → ¬ MeetsByTie g (bodies f) a.elements b.elements
  no_two none a b a_in b_in differ meets =
      elim (pairs_tell ByName f.live sound.names_rise a b a_in b_in) [
        | inl same ↦ differ (ap body_of same)
        | inr (inl a_b) ↦ none_by_tie none b a b_in a_in a_b (meets_back_by_tie g (bodies f) a.elements b.elements meets)
        | inr (inr b_a) ↦ none_by_tie none a b a_in b_in b_a meets
      ]

  pub wide_closed : IsClosed g (bodies f) → AreTieMerges g f [] → IsWideClosed g (bodies f)
  wide_closed closed none some among (inl can) = closed some among can
  wide_closed closed none [] among (inr can) = can
  wide_closed closed none (p ∷ []) among (inr can) = can
  wide_closed closed none (p ∷ q ∷ []) among (inr can) =
      let a = mapped_from body_of f.live p (among p (contains_head p (q ∷ []))) in
      let b = mapped_from body_of f.live q (among q (contains_later p (q ∷ []) q (contains_head q []))) in
      no_two none a.0 b.0 a.1 b.1 (λ e. can.0 (sym a.2 ∙ e ∙ b.2))
      (rw (ap (λ (x : Body). x.elements) a.2, ap (λ (x : Body). x.elements) b.2) can.1)
  wide_closed closed none (p ∷ q ∷ r ∷ rest) among (inr can) = can

-- what was picked of all merges by the tie rule may be taken
pub picked_can : (g : Graph) (f : Clusters) (merges : List Merge) → AreTieMerges g f merges → (n : ℕ) (m : Merge) → slice_get merges n ≡ Some m → CanTakeByTie g f m
picked_can g f merges are n m picked = (are.exactly m).0 (in_list merges n m picked)

length_told : (n : ℕ) → (n == 0) ≡ true → n ≡ 0
length_told n h = grind (arith, nat_tests)

no_length : {X : Type 0} (xs : List X) → length xs ≡ 0 → xs ≡ []
no_length [] h = refl
no_length (x ∷ xs) h = absurd (omega arith)

pub empty_list : {X : Type 0} (xs : List X) → (length xs == 0) ≡ true → xs ≡ []
empty_list xs h = no_length xs (length_told (length xs) h)
