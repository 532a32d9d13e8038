-- The own sketch of a part that isn't over has the verdict well.
use Rattle.std.proofs.Common.{◌≡◌, inl, inr, refl, ℕ, ◌-◌, ◌*◌, ◌≤◌, ◌<◌, true, List, [], ◌∷◌, length, ap, sym, subst, ◌∙◌, arith}
use Rattle.std.specs.Prelude.{Contains, map}
use Rattle.sk_base.specs.declared.Elem.{Elem}
use Rattle.sk_base.specs.declared.Sketch.{Sketch}
use Rattle.sk_base.specs.declared.Graph.{Graph}
use Rattle.sk_base.specs.SoundGraph.{IsSoundGraph}
use Rattle.sk_base.specs.SoundSketch.{IsSoundSketch}
use Rattle.sk_base.proofs.Members.{contains_none, contains_head, contains_one, contains_mapped, mapped_from}
use Rattle.sk_family.specs.Body.{Body, Start, starts, starting, initial_bodies, SameBodies}
use Rattle.sk_family.proofs.GraphStarts.{start_at}
use Rattle.sk_graph.specs.SketchGraph.{graph_of}
use Rattle.sk_graph.proofs.Soundness.{graph_is_sound}
use Rattle.sk_rules.specs.Excess.{weight_where, is_inside, held}
use Rattle.sk_rules.specs.Reach.{Reach, IsNormal, stays}
use Rattle.sk_rules.proofs.Beside.{alone_graph, in_alone, makes_itself}
use Rattle.sk_rules.proofs.Closing.{no_merge_of_one}
use Rattle.sk_rules.proofs.Counting.{reached_tight, inside_owned}
use Rattle.sk_rules.proofs.KeptFamily.{unchanged_is_reached}
use Rattle.sk_rules.proofs.SomeClosed.{some_closed}
use Rattle.sk_rules.proofs.WeighedGraphs.{sound_two_each}
use Rattle.sk_verdict.specs.Parts.{IsLone, AreOfOnePart, elem_of, part_with}
use Rattle.sk_verdict.specs.Judging.{IsOver}
use Rattle.sk_plan.specs.Judged.{IsWell}
use Rattle.sk_plan.proofs.WellPlans.{well_of_one, named_in}
use Rattle.sk_plan.proofs.Wells.{by_none_named, no_items}
use Rattle.sk_parts.specs.OwnSketch.{part_sketch}
use Rattle.sk_parts.proofs.Drawing.{part_is_sound}
use Rattle.sk_parts.proofs.OwnGraph.{own_node, to_own_node, own_held, own_start}

at_most_due : (g : Graph) (xs : List Elem) → ¬ IsOver (part_with g xs) → held g xs ≤ 2 * length xs - 3
at_most_due g xs not_over = under (held g xs) (2 * length xs - 3) not_over
  where
    under : (h d : ℕ) → ¬ (d < h) → h ≤ d
    under h d not = omega (arith, not)

module _ (s : Sketch) (f : List Body) (sound : IsSoundSketch s) (normal : IsNormal (graph_of s) f) where
  abbrev whole : Graph
  whole = graph_of s

  whole_sound : IsSoundGraph whole
  whole_sound = graph_is_sound s sound

  module _ (x : Body) (x_in : Contains f x) where
    abbrev own : Graph
    own = graph_of (part_sketch s x.elements)

    own_sound : IsSoundGraph own
    own_sound = graph_is_sound (part_sketch s x.elements) (part_is_sound s x.elements sound)

    -- all that it owns passes
    abbrev alone : Graph
    alone = alone_graph x.owned (λ k. true) whole

    -- what it owns is what its own sketch has
    owned_start : (d : Start) → Contains (starts alone) d → Contains (starts own) d
    owned_start d d_in =
        let was = (in_alone whole whole_sound x.owned (λ k. true) d).0 d_in in
        let (start, start_in, is, within) = (reached_tight whole f whole_sound.edges_rise normal.reached).inside x x_in d.number was.1 in
        let same : start ≡ d = start_at whole whole_sound.edges_rise start d start_in was.0 is in
        (own_start s x.elements sound d).1 (was.0, subst (λ (t : Start). (e : Elem) → Contains t.elements e → Contains x.elements e) same within)

    start_owned : (d : Start) → Contains (starts own) d → Contains (starts alone) d
    start_owned d d_in =
        let was = (own_start s x.elements sound d).0 d_in in
        (in_alone whole whole_sound x.owned (λ k. true) d).1 (was.0, inside_owned whole f (sound_two_each whole whole_sound) normal x x_in d was.0 was.1, refl)

    same_start : SameBodies (initial_bodies alone) (initial_bodies own)
    same_start y = (
      (λ h. (let d = mapped_from starting (starts alone) y h in subst (λ z. Contains (initial_bodies own) z) d.2 (contains_mapped starting (starts own) d.0 (owned_start d.0 d.1)))),
      (λ h. (let d = mapped_from starting (starts own) y h in subst (λ z. Contains (initial_bodies alone) z) d.2 (contains_mapped starting (starts alone) d.0 (start_owned d.0 d.1)))),
    )

    -- merging its own sketch leads to it alone
    pub alone_in_own : (n : List Body) × IsNormal own n × SameBodies n (x ∷ [])
    alone_in_own =
        let (m, reach, closed) = some_closed alone (initial_bodies alone) in
        let just_it = makes_itself whole f x whole_sound normal x_in m (record { reached = reach; closed = closed }) in
        let there = unchanged_is_reached alone own m own_sound.edges_rise
        (λ d d_in e e_in line. (own_node s x.elements _ line).0)
        (record { reached_as = m; reach = reach; same = λ y. ((λ h. h), (λ h. h)) }) same_start in (
          there.reached_as,
          record {
            reached = there.reach;
            closed = λ some among can. no_merge_of_one own some x can (λ y h. sym (contains_one x y ((just_it y).0 ((there.same y).0 (among y h)))));
          },
          λ y. ((λ h. (just_it y).0 ((there.same y).0 h)), (λ h. (there.same y).1 ((just_it y).1 h))),
        )

    cluster_only : (n : List Body) → IsNormal own n → SameBodies n (x ∷ []) → (ys : List Elem) → AreOfOnePart own n ys → ys ≡ x.elements
    cluster_only n n_normal just_it ys (inl (y, y_in, same)) =
        sym same ∙ ap (λ (z : Body). z.elements) (sym (contains_one x y ((just_it y).0 y_in)))
    cluster_only n n_normal just_it ys (inr (e, lone, same)) =
        let node = mapped_from elem_of own.nodes e lone.is_node in
        let e_in = subst (λ d. Contains x.elements d) node.2 (own_node s x.elements node.0 node.1).1 in
        absurd (named_in own n n_normal.reached x ((just_it x).1 (contains_head x [])) e e_in lone.named_by_none)

    cluster_well : ¬ IsOver (part_with whole x.elements) → IsWell own
    cluster_well not_over =
        let (n, n_normal, just_it) = alone_in_own in
        let most : held own x.elements ≤ 2 * length x.elements - 3 = (let same = own_held s x.elements sound in let most = at_most_due whole x.elements not_over in omega (arith, same, most)) in
        well_of_one own n x.elements own_sound n_normal most
        (inl (x, (just_it x).1 (contains_head x []), refl))
        (cluster_only n n_normal just_it)

  module _ (e : Elem) (lone : IsLone whole e) where
    abbrev one : Graph
    one = graph_of (part_sketch s (e ∷ []))

    one_sound : IsSoundGraph one
    one_sound = graph_is_sound (part_sketch s (e ∷ [])) (part_is_sound s (e ∷ []) sound)

    no_start : (d : Start) → Contains (starts one) d → ⊥
    no_start d d_in =
        let was = (own_start s (e ∷ []) sound d).0 d_in in
        let (u, v, differ, u_in, v_in) = sound_two_each whole whole_sound d was.0 in
        differ (sym (contains_one e u (was.1 u u_in)) ∙ contains_one e v (was.1 v v_in))

    pub no_starts_alone : starts one ≡ []
    no_starts_alone = no_items (starts one) no_start

    nothing_merges : IsNormal one []
    nothing_merges = record {
      reached = subst (λ f. Reach one f []) (sym (ap (λ ss. map starting ss) no_starts_alone)) stays;
      closed = λ some among can. no_merge_of_one one some (record { elements = []; owned = [] }) can (λ y h. absurd (contains_none y (among y h)));
    }

    lone_in_own : IsLone one e
    lone_in_own =
        let node = mapped_from elem_of whole.nodes e lone.is_node in
        let node_in = to_own_node s (e ∷ []) node.0 node.1 (subst (λ d. Contains (e ∷ []) d) (sym node.2) (contains_head e [])) in
        record {
          is_node = subst (λ d. Contains (map elem_of one.nodes) d) node.2 (contains_mapped elem_of one.nodes node.0 node_in);
          named_by_none = by_none_named one one_sound e (λ d d_in. absurd (no_start d d_in));
        }

    lone_only : (ys : List Elem) → AreOfOnePart one [] ys → ys ≡ e ∷ []
    lone_only ys (inl (y, y_in, same)) = absurd (contains_none y y_in)
    lone_only ys (inr (d, d_lone, same)) =
        let node = mapped_from elem_of one.nodes d d_lone.is_node in
        let is : e ≡ node.0.elem = contains_one e node.0.elem (own_node s (e ∷ []) node.0 node.1).1 in
        sym same ∙ ap (λ (z : Elem). z ∷ []) (sym (is ∙ node.2))

    lone_well : IsWell one
    lone_well =
        let none : held one (e ∷ []) ≡ 0 = ap (λ (ss : List Start). weight_where (is_inside (e ∷ [])) ss) no_starts_alone in
        well_of_one one [] (e ∷ []) one_sound nothing_merges (omega (arith, none)) (inr (e, lone_in_own, refl)) lone_only

  -- so of a part of either kind
  pub part_is_well : (xs : List Elem) → AreOfOnePart whole f xs → ¬ IsOver (part_with whole xs) → IsWell (graph_of (part_sketch s xs))
  part_is_well xs (inl (x, x_in, same)) not_over =
      subst (λ ys. IsWell (graph_of (part_sketch s ys))) same (cluster_well x x_in (subst (λ ys. ¬ IsOver (part_with whole ys)) (sym same) not_over))
  part_is_well xs (inr (e, lone, same)) not_over =
      subst (λ ys. IsWell (graph_of (part_sketch s ys))) same (lone_well e lone)

  -- and it is one part in its own sketch
  pub own_one_part : (xs : List Elem) → AreOfOnePart whole f xs → (n : List Body) × IsNormal (graph_of (part_sketch s xs)) n × AreOfOnePart (graph_of (part_sketch s xs)) n xs
  own_one_part xs (inl (x, x_in, same)) =
      subst (λ ys. (n : List Body) × IsNormal (graph_of (part_sketch s ys)) n × AreOfOnePart (graph_of (part_sketch s ys)) n ys) same
      (let (n, n_normal, just_it) = alone_in_own x x_in in (n, n_normal, inl (x, (just_it x).1 (contains_head x []), refl)))
  own_one_part xs (inr (e, lone, same)) =
      subst (λ ys. (n : List Body) × IsNormal (graph_of (part_sketch s ys)) n × AreOfOnePart (graph_of (part_sketch s ys)) n ys) same
      ([], nothing_merges e lone, inr (e, lone_in_own e lone, refl))
