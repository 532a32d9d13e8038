-- A group: constraints that hold some elements together, and without any one of which they aren't.
use Rattle.std.proofs.Common.{◌≡◌, inl, inr, true, List, [], ◌∷◌, sym, subst, ◌∙◌}
use Rattle.std.specs.Prelude.{Contains, ◌&&◌}
use Rattle.std.proofs.lemmas.Bool.{and_parts, and_from}
use Rattle.sk_base.specs.declared.ConId.{ConId}
use Rattle.sk_base.specs.declared.Elem.{Elem}
use Rattle.sk_base.specs.declared.Graph.{Graph}
use Rattle.sk_base.specs.SoundGraph.{IsSoundGraph}
use Rattle.sk_base.proofs.Deciding.{con_settles}
use Rattle.sk_base.proofs.Filters.{same_tests}
use Rattle.sk_base.proofs.Members.{contains_head, contains_later, contains_one, contains_cases}
use Rattle.sk_family.specs.Body.{Body, Start, starts, initial_bodies, SameBodies}
use Rattle.sk_family.proofs.GraphStarts.{start_at}
use Rattle.sk_rules.specs.JustSome.{with_just}
use Rattle.sk_rules.specs.Reach.{IsNormal}
use Rattle.sk_rules.proofs.Beside.{passes_among, alone_graph, makes_itself}
use Rattle.sk_rules.proofs.Counting.{reached_tight, inside_owned}
use Rattle.sk_rules.proofs.JustSome.{in_part, sound_part}
use Rattle.sk_rules.proofs.Keeping.{contains_settles}
use Rattle.sk_rules.proofs.KeptClusters.{reached_as_it_is}
use Rattle.sk_rules.proofs.KeptFamily.{holds_ends}
use Rattle.sk_rules.proofs.NormalForm.{one_of_two}
use Rattle.sk_rules.proofs.SomeClosed.{some_closed}
use Rattle.sk_rules.proofs.WeighedGraphs.{sound_two_each}
use Rattle.sk_verdict.specs.Judging.{IsOver}
use Rattle.sk_verdict.specs.Parts.{part_with}
use Rattle.sk_verdict.proofs.Normals.{has_two}
use Rattle.sk_spare.specs.Sparing.{differs_from, without, IsSpare}
use Rattle.sk_spare.proofs.LeavingOut.{spare_is_over}
use Rattle.sk_excess.specs.LeftOut.{is_number}
use Rattle.sk_excess.proofs.OneClusters.{more_covers}
use Rattle.sk_excess.proofs.SomeLess.{number_in, in_number, just_twice, just_agree}
use Rattle.sk_excess.proofs.Without.{differs, to_differ}
use Rattle.sk_why.specs.Because.{AreTogether}
use Rattle.sk_why.proofs.Together.{together_with_more}

module _ (g : Graph) (sound : IsSoundGraph g) (es : List Elem) (ks : List ConId) (minimal : (k : ConId) → Contains ks k → ¬ AreTogether (without k (with_just (is_number ks) g)) es) where
  abbrev alone : Graph
  alone = with_just (is_number ks) g

  -- the cluster that has the elements owns all of them
  module _ (f : List Body) (normal : IsNormal alone f) (y : Body) (y_in : Contains f y) (has : (e : Elem) → Contains es e → Contains y.elements e) where
    its_own : AreTogether (alone_graph y.owned (λ k. true) alone) es
    its_own =
        let own = alone_graph y.owned (λ k. true) alone in
        let (m, reach, closed) = some_closed own (initial_bodies own) in
        let own_normal : IsNormal own m = record { reached = reach; closed = closed } in
        let just_it = makes_itself alone f y (sound_part g (is_number ks) sound) normal y_in m own_normal in
        record { family = m; normal = own_normal; holds = (y, (just_it y).1 (contains_head y []), has) }

    pub owns_all : (k : ConId) → Contains ks k → Contains y.owned k
    owns_all k k_in =
        elim (contains_settles con_settles y.owned k) [
          | inl there ↦ there
          | inr not_there ↦ absurd (minimal k k_in
              (together_with_more alone (sound_part g (is_number ks) sound) es (passes_among y.owned (λ j. true)) (differs_from k)
              (λ j j_has passes. to_differ k j (λ same. not_there (subst (λ (i : ConId). Contains y.owned i) (sym same) (number_in y.owned j (and_parts (is_number y.owned j) true passes).0))))
              its_own))
        ]

-- with a constraint between elements that they hold together, the group makes one cluster, and that is over
module _ (g : Graph) (sound : IsSoundGraph g) (c : Start) (c_in : Contains (starts g) c) (ks : List ConId) (c_out : ¬ Contains ks c.number)
    (enough : AreTogether (with_just (is_number ks) g) c.elements) (minimal : (k : ConId) → Contains ks k → ¬ AreTogether (without k (with_just (is_number ks) g)) c.elements) where
  abbrev few : Graph
  few = with_just (is_number ks) g

  abbrev all : Graph
  all = with_just (is_number (c.number ∷ ks)) g

  few_sound : IsSoundGraph few
  few_sound = sound_part g (is_number ks) sound

  all_sound : IsSoundGraph all
  all_sound = sound_part g (is_number (c.number ∷ ks)) sound

  abbrev holding_body : Body
  holding_body = enough.holds.0

  -- all elements that the group names are of the cluster that has these
  named_there : (t : Start) → Contains (starts all) t → (e : Elem) → Contains t.elements e → Contains holding_body.elements e
  named_there t t_in e e_in =
      let was = (in_part g (is_number (c.number ∷ ks)) sound t).0 t_in in
      elim (contains_cases c.number ks t.number (number_in (c.number ∷ ks) t.number was.1)) [
        | inl same ↦ (
            let is : t ≡ c = start_at g sound.edges_rise t c was.0 c_in (sym same) in
            enough.holds.2 e (subst (λ (s : Start). Contains s.elements e) is e_in))
        | inr later ↦ (
            let owned = owns_all g sound c.elements ks minimal enough.family enough.normal holding_body enough.holds.1 enough.holds.2 t.number later in
            let (s, s_in, is, within) = (reached_tight few enough.family few_sound.edges_rise enough.normal.reached).inside holding_body enough.holds.1 t.number owned in
            let same : s ≡ t = start_at g sound.edges_rise s t ((in_part g (is_number ks) sound s).0 s_in).0 was.0 is in
            within e (subst (λ (z : Start). Contains z.elements e) (sym same) e_in))
      ]

  module _ (f : List Body) (normal : IsNormal all f) where
    within_holding : (z : Body) → Contains f z → (e : Elem) → Contains z.elements e → Contains holding_body.elements e
    within_holding z z_in e e_in = (let (d, d_in, e_d) = holds_ends all f (reached_as_it_is all f normal.reached) z z_in e e_in in named_there d d_in e e_d)

    around : (x : Body) × Contains f x × ((e : Elem) → Contains holding_body.elements e → Contains x.elements e)
    around =
        let (x, x_in, within) = more_covers g sound (is_number ks) (is_number (c.number ∷ ks)) (λ k has passes. in_number (c.number ∷ ks) k (contains_later c.number ks k (number_in ks k passes))) enough.family enough.normal.reached f normal holding_body enough.holds.1 in
        (x, x_in, within.elements)

    only_around : (z : Body) → Contains f z → around.0 ≡ z
    only_around z z_in =
        let (u, v, differ, u_in, v_in) = has_two all f all_sound normal z z_in in
        one_of_two all f normal.closed around.0 z around.1 z_in (
          u,
          v,
          record { differ = differ; a_shared = (around.2 u (within_holding z z_in u u_in), u_in); b_shared = (around.2 v (within_holding z z_in v v_in), v_in) },
        )

    -- without the one more
    few_again : without c.number all ≡ few
    few_again =
        just_twice g (is_number (c.number ∷ ks)) (differs_from c.number)
        ∙ just_agree g sound (λ k. is_number (c.number ∷ ks) k && differs_from c.number k) (is_number ks) (λ k has. same_tests (is_number (c.number ∷ ks) k && differs_from c.number k) (is_number ks k)
        (λ passes. (
        let both = and_parts (is_number (c.number ∷ ks) k) (differs_from c.number k) passes in
        elim (contains_cases c.number ks k (number_in (c.number ∷ ks) k both.0)) [ inl same ↦ absurd (differs c.number k both.1 same) | inr later ↦ in_number ks k later ]))
        (λ passes. (
        let later = number_in ks k passes in
        and_from (is_number (c.number ∷ ks) k) (differs_from c.number k) (in_number (c.number ∷ ks) k (contains_later c.number ks k later))
        (to_differ c.number k (λ same. c_out (subst (λ (j : ConId). Contains ks j) (sym same) later))))))

    there : Contains (starts all) c
    there = (in_part g (is_number (c.number ∷ ks)) sound c).1 (c_in, in_number (c.number ∷ ks) c.number (contains_head c.number ks))

    owns_it : Contains around.0.owned c.number
    owns_it = inside_owned all f (sound_two_each all all_sound) normal around.0 around.1 c there (λ e e_in. around.2 e (enough.holds.2 e e_in))

    is_spare : IsSpare all c.number
    is_spare = record {
      family = f;
      owner = around.0;
      owns = record { normal = normal; in_family = around.1; owns = owns_it };
      left = enough.family;
      normal = subst (λ (h : Graph). IsNormal h enough.family) (sym few_again) enough.normal;
      holds = (holding_body, enough.holds.1, within_holding around.0 around.1);
    }

    pub group_is_over : (x : Body) × SameBodies f (x ∷ []) × IsOver (part_with all x.elements)
    group_is_over = (
      around.0,
      (λ z. (
        (λ z_in. subst (λ (w : Body). Contains (w ∷ []) z) (sym (only_around z z_in)) (contains_head z [])),
        (λ h. subst (λ (w : Body). Contains f w) (contains_one around.0 z h) around.1),
      )),
      spare_is_over all f c.number around.0 all_sound (record { normal = normal; in_family = around.1; owns = owns_it }) is_spare,
    )
