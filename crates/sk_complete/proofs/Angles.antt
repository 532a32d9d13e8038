-- Where the parts tell an angle twice, no well sketch has these constraints among its own.
use Rattle.std.proofs.Common.{◌≡◌, ◌≢◌, inl, inr, ◌<◌, ◌≤◌, Bool, true, false, List, ◌++◌, length, refl, ap, sym, subst, ◌∙◌, arith}
use Rattle.std.specs.Prelude.{◌==◌, Contains, filter, map, not, nat_lt}
use Rattle.std.specs.List.{list_any}
use Rattle.std.proofs.lemmas.Bool.Decides.{nat_tests}
use Rattle.std.proofs.lemmas.List.Elements.{Contains-append_left, Contains-append_right, Contains-append_cases}
use Rattle.sk_base.specs.declared.ConId.{ConId}
use Rattle.sk_base.specs.declared.Elem.{Elem}
use Rattle.sk_base.specs.declared.Element.{Element}
use Rattle.sk_base.specs.declared.Graph.{Graph}
use Rattle.sk_base.specs.declared.Node.{Node}
use Rattle.sk_base.specs.declared.Kind.TheVariants.{Line}
use Rattle.sk_base.specs.declared.Sketch.{Sketch}
use Rattle.sk_base.specs.Numbering.{con_number, con_exact}
use Rattle.sk_base.specs.SoundGraph.{IsSoundGraph}
use Rattle.sk_base.specs.SoundSketch.{IsSoundSketch}
use Rattle.sk_base.proofs.Members.{contains_one, contains_mapped, mapped_from, contains_filtered, filtered_from}
use Rattle.sk_base.proofs.Numbers.{among_found, found_among}
use Rattle.sk_family.specs.Body.{Body, Start, starts, starting, initial_bodies, SameBodies}
use Rattle.sk_family.specs.Rules.{IsLine}
use Rattle.sk_graph.specs.SketchGraph.{graph_of, node_of}
use Rattle.sk_graph.proofs.Soundness.{graph_is_sound}
use Rattle.sk_rules.specs.Keeping.{IsReached, IsOwned, Completes}
use Rattle.sk_rules.specs.Reach.{IsNormal}
use Rattle.sk_rules.proofs.Counting.{reached_tight}
use Rattle.sk_rules.proofs.Keeping.{kept_is_reached}
use Rattle.sk_rules.proofs.KeptFamily.{each_owned, kept_closes}
use Rattle.sk_rules.proofs.NormalForm.{one_of_elements}
use Rattle.sk_rules.proofs.SomeClosed.{some_closed}
use Rattle.sk_rules.proofs.WeighedGraphs.{sound_two_each}
use Rattle.sk_verdict.specs.declared.Judgement.{Judgement}
use Rattle.sk_verdict.specs.declared.Part.{Part}
use Rattle.sk_verdict.specs.declared.Verdict.TheVariants.{Well}
use Rattle.sk_verdict.specs.Judging.{IsJudgement, some_over}
use Rattle.sk_verdict.specs.Parts.{part_with}
use Rattle.sk_plan.specs.Judged.{IsWell}
use Rattle.sk_plan.specs.Sparse.{AllOwnJustEnough}
use Rattle.sk_plan.proofs.JustEnough.{none_too_many}
use Rattle.sk_plan.proofs.Starts.{start_there, start_of_some}
use Rattle.sk_plan.proofs.Wells.{few_same, well_told}
use Rattle.sk_complete.specs.Begun.{HasAmong}
use Rattle.sk_complete.specs.Rings.{AreTiedBeside, same_line, by_part, IsRing, HasRing}
use Rattle.sk_complete.proofs.Circles.{Around, here, by_body, HasCircle, circle_more, circle_to_end}
use Rattle.sk_complete.proofs.OverAlready.{few_held, differing}

-- a ring of parts is one of the family's bodies
module _ (g : Graph) (f : List Body) (j : Judgement) (judged : IsJudgement g f j) where
  -- a part with two different elements is that of a body
  body_of : (p : Part) → Contains j.parts p → (l m : Elem) → Contains p.elements l → Contains p.elements m → l ≢ m → (x : Body) × Contains f x × (x.elements ≡ p.elements)
  body_of p p_in l m l_in m_in differ =
      elim ((judged.parts p).0 p_in).0 [
        | inl body ↦ body
        | inr (e, lone, is) ↦ absurd (differ (sym (contains_one e l (subst (λ (es : List Elem). Contains es l) (sym is) l_in)) ∙ contains_one e m (subst (λ (es : List Elem). Contains es m) (sym is) m_in)))
      ]

  -- parts with the same elements are one
  same_part : (p q : Part) → Contains j.parts p → Contains j.parts q → p.elements ≡ q.elements → p ≡ q
  same_part p q p_in q_in same = ((judged.parts p).0 p_in).1 ∙ ap (λ (es : List Elem). part_with g es) same ∙ sym ((judged.parts q).0 q_in).1

  around_from : (but : Part) → Contains j.parts but → (x : Body) → x.elements ≡ but.elements → (l m : Elem) → AreTiedBeside g j.parts but l m → Around g f x l m
  around_from but but_in x x_is l m same_line = here
  around_from but but_in x x_is l m (by_part {m = k} line p p_in differs l_in k_in rest) =
      let more = around_from but but_in x x_is k m rest in
      elim ((judged.parts p).0 p_in).0 [
        | inl (y, y_in, is) ↦ by_body line y y_in (λ same. differs (same_part p but p_in but_in (sym is ∙ ap (λ (v : Body). v.elements) same ∙ x_is)))
            (subst (λ (es : List Elem). Contains es l) (sym is) l_in) (subst (λ (es : List Elem). Contains es k) (sym is) k_in) more
        | inr (e, lone, is) ↦ (
            let alike : l ≡ k = sym (contains_one e l (subst (λ (es : List Elem). Contains es l) (sym is) l_in)) ∙ contains_one e k (subst (λ (es : List Elem). Contains es k) (sym is) k_in) in
            subst (λ (d : Elem). Around g f x d m) (sym alike) more)
      ]

  circle_of : IsRing g j.parts → HasCircle g f
  circle_of ring =
      let (x, x_in, is) = body_of ring.part ring.part_in ring.one ring.other ring.one_in ring.other_in ring.differ in
      record {
        body = x;
        body_in = x_in;
        one = ring.one;
        other = ring.other;
        differ = ring.differ;
        one_line = ring.one_line;
        other_line = ring.other_line;
        one_in = subst (λ (es : List Elem). Contains es ring.one) (sym is) ring.one_in;
        other_in = subst (λ (es : List Elem). Contains es ring.other) (sym is) ring.other_in;
        tied = around_from ring.part ring.part_in x is ring.one ring.other ring.tied;
      }

-- and of another graph with the same lines
around_there : (g h : Graph) (f : List Body) (but : Body) → ((e : Elem) → IsLine g e → IsLine h e) → (l m : Elem) → Around g f but l m → Around h f but l m
around_there g h f but lines l m here = here
around_there g h f but lines l m (by_body {m = k} line y y_in differs l_in k_in rest) = by_body (lines k line) y y_in differs l_in k_in (around_there g h f but lines k m rest)

circle_there : (g h : Graph) (f : List Body) → ((e : Elem) → IsLine g e → IsLine h e) → HasCircle g f → HasCircle h f
circle_there g h f lines c = record {
  body = c.body;
  body_in = c.body_in;
  one = c.one;
  other = c.other;
  differ = c.differ;
  one_line = lines c.one c.one_line;
  other_line = lines c.other c.other_line;
  one_in = c.one_in;
  other_in = c.other_in;
  tied = around_there g h f c.body lines c.one c.other c.tied;
}

-- a family of one body has no ring
module _ (g : Graph) (f : List Body) (j : Judgement) (normal : IsNormal g f) (judged : IsJudgement g f j) (well : j.verdict ≡ Well) where
  one_body : (x y : Body) → Contains f x → Contains f y → x.elements ≡ y.elements
  one_body x y x_in y_in =
      let few : nat_lt 1 (length j.parts) ≡ false = (well_told (some_over j.parts) (nat_lt 1 (length j.parts)) (sym judged.verdict ∙ well)).1 in
      let one : length j.parts ≤ 1 = grind (arith, nat_tests) in
      ap (λ (p : Part). p.elements)
      (few_same j.parts (part_with g x.elements) (part_with g y.elements) one
      ((judged.parts (part_with g x.elements)).1 (inl (x, x_in, refl), refl))
      ((judged.parts (part_with g y.elements)).1 (inl (y, y_in, refl), refl)))

  no_chain : (x : Body) → Contains f x → (u v : Elem) → u ≢ v → Contains x.elements u → Contains x.elements v → (l m : Elem) → l ≢ m → ¬ Around g f x l m
  no_chain x x_in u v apart u_in v_in l m differ here = differ refl
  no_chain x x_in u v apart u_in v_in l m differ (by_body line y y_in differs l_in k_in rest) =
      differs (sym (one_of_elements g f normal.closed x y x_in y_in (u, v, apart, u_in, v_in) (one_body x y x_in y_in)))

  no_circle : ¬ HasCircle g f
  no_circle c = no_chain c.body c.body_in c.one c.other c.differ c.one_in c.other_in c.one c.other c.differ c.tied

module _ (s t : Sketch) (among : HasAmong s t) (s_sound : IsSoundSketch s) (t_sound : IsSoundSketch t) where
  abbrev old : Graph
  old = graph_of s

  abbrev new : Graph
  new = graph_of t

  old_sound : IsSoundGraph (graph_of s)
  old_sound = graph_is_sound s s_sound

  new_sound : IsSoundGraph (graph_of t)
  new_sound = graph_is_sound t t_sound

  same_nodes : (graph_of t).nodes ≡ (graph_of s).nodes
  same_nodes = ap (λ (es : List Element). map node_of es) among.elements

  lines_there : (e : Elem) → IsLine (graph_of s) e → IsLine (graph_of t) e
  lines_there e line = subst (λ (ns : List Node). Contains ns (record { elem = e; kind = Line })) (sym same_nodes) line

  lines_here : (e : Elem) → IsLine (graph_of t) e → IsLine (graph_of s) e
  lines_here e line = subst (λ (ns : List Node). Contains ns (record { elem = e; kind = Line })) same_nodes line

  -- what starts in the one starts in the other
  starts_there : (x : Start) → Contains (starts (graph_of s)) x → Contains (initial_bodies (graph_of t)) (starting x)
  starts_there x x_in =
      let (c, c_in, is) = start_of_some s s_sound x x_in in
      contains_mapped starting (starts (graph_of t)) x (subst (λ (y : Start). Contains (starts (graph_of t)) y) is (start_there t t_sound c (among.constraints c c_in)))

  module _ (f : List Body) (normal : IsNormal (graph_of s) f) where
    as_reached : IsReached (graph_of s) f
    as_reached = record { reached_as = f; reach = normal.reached; same = λ x. ((λ h. h), (λ h. h)) }

    start_con : Start → ConId
    start_con x = x.number

    is_old : Start → Bool
    is_old x = list_any (λ (k : ConId). k.0 == x.number.0) (map start_con (starts (graph_of s)))

    owned_then : (x : Start) → IsOwned f x.number → is_old x ≡ true
    unfolding is_old start_con
    owned_then x (y, y_in, owned) =
        let (d, d_in, is, within) = (reached_tight (graph_of s) f old_sound.edges_rise normal.reached).inside y y_in x.number owned in
        found_among con_number (map start_con (starts (graph_of s))) x.number
        (subst (λ (k : ConId). Contains (map start_con (starts (graph_of s))) k) is (contains_mapped start_con (starts (graph_of s)) d d_in))

    then_owned : (x : Start) → is_old x ≡ true → IsOwned f x.number
    unfolding is_old start_con
    then_owned x old_one =
        let found = among_found con_number con_exact (map start_con (starts (graph_of s))) x.number old_one in
        let (d, d_in, is) = mapped_from start_con (starts (graph_of s)) x.number found in
        subst (λ (k : ConId). IsOwned f k) is (each_owned (graph_of s) f as_reached d d_in)

    is_new : Start → Bool
    is_new x = not (is_old x)

    -- the family with what starts besides
    grown : List Body
    grown = f ++ map starting (filter is_new (starts (graph_of t)))

    free : (x : Start) → (b : Bool) → is_old x ≡ b → (¬ IsOwned f x.number) → is_new x ≡ true
    unfolding is_new
    free x true is not_owned = absurd (not_owned (then_owned x is))
    free x false is not_owned = ap not is

    grown_completes : Completes (graph_of t) f grown
    unfolding grown is_new
    grown_completes x = (
      (λ h. elim (Contains-append_cases f (map starting (filter is_new (starts (graph_of t)))) x h) [
        | inl kept ↦ inl kept
        | inr starts_so ↦ (
            let (d, d_in, is) = mapped_from starting (filter is_new (starts (graph_of t))) x starts_so in
            let was = filtered_from is_new (starts (graph_of t)) d d_in in
            inr (d, was.0, (λ owned. (let never : not true ≡ true = subst (λ (b : Bool). not b ≡ true) (owned_then d owned) was.1 in absurd (cc))), sym is))
      ]),
      (λ h. elim h [
        | inl kept ↦ Contains-append_left f (map starting (filter is_new (starts (graph_of t)))) x kept
        | inr (d, d_in, not_owned, is) ↦ subst (λ (y : Body). Contains (f ++ map starting (filter is_new (starts (graph_of t)))) y) (sym is)
            (Contains-append_right f (map starting (filter is_new (starts (graph_of t)))) (starting d)
            (contains_mapped starting (filter is_new (starts (graph_of t))) d (contains_filtered is_new (starts (graph_of t)) d d_in (free d (is_old d) refl not_owned))))
      ]),
    )

    in_grown : (x : Body) → Contains f x → Contains grown x
    unfolding grown
    in_grown x x_in = Contains-append_left f (map starting (filter is_new (starts (graph_of t)))) x x_in

    grown_reached : IsReached (graph_of t) grown
    grown_reached =
        kept_is_reached (graph_of s) (graph_of t) f f grown new_sound.edges_rise as_reached (λ x h. h)
        (λ x x_in. record { starts = λ d d_in owned. starts_there d d_in; lines = λ e e_in line. lines_here e line })
        grown_completes

    -- a ring of the one's family is a ring of the other's, where that owns just enough
    circle_at_end : (n : List Body) → IsNormal (graph_of t) n → AllOwnJustEnough (graph_of t) n → HasCircle (graph_of s) f → HasCircle (graph_of t) n
    circle_at_end n n_normal just ring =
        let r = grown_reached in
        let (end, reach, closed) = some_closed (graph_of t) r.reached_as in
        let begun : IsReached (graph_of t) r.reached_as = record { reached_as = r.reached_as; reach = r.reach; same = λ x. ((λ h. h), (λ h. h)) } in
        let same : SameBodies end n = kept_closes (graph_of t) r.reached_as end n new_sound.edges_rise begun reach closed n_normal in
        circle_more (graph_of t) end n (λ x h. (same x).0 h)
        (circle_to_end (graph_of t) r.reached_as end reach (reached_tight (graph_of t) r.reached_as new_sound.edges_rise r.reach) (λ x h. just x ((same x).0 h))
        (circle_more (graph_of t) grown r.reached_as (λ x h. (r.same x).1 h)
        (circle_more (graph_of t) f grown in_grown (circle_there (graph_of s) (graph_of t) f lines_there ring))))

  pub ring_already : HasRing s → 0 < length s.elements → ¬ IsWell (graph_of t)
  ring_already (j, judged, ring) some (k, told, well) =
      let here_there = judged.every judged.normal judged.is_normal in
      let end = told.normal in
      let there = told.every told.normal told.is_normal in
      let circle = circle_of (graph_of s) judged.normal j here_there ring in
      let some_there : 0 < length t.elements = subst (λ (es : List Element). 0 < length es) (sym among.elements) some in
      let just = none_too_many (graph_of t) told.normal new_sound.edges_rise (sound_two_each (graph_of t) new_sound) told.is_normal
      (λ x x_in. (let (apart, two) = differing (graph_of t) told.normal new_sound told.is_normal x x_in in few_held t t_sound some_there (k, told, well) x.elements apart two)) in
      no_circle (graph_of t) told.normal k told.is_normal there well (circle_at_end judged.normal judged.is_normal told.normal told.is_normal just circle)
