-- A second run over the merges, which writes a plan's step for each.
use Rattle.std.proofs.Common.{◌≡◌, ℕ, suc, ◌+◌, ◌<◌, ◌≤◌, List, [], ◌∷◌, ◌++◌, length, get_or, take, drop, drop-cons, append_assoc, ap, sym, subst, ◌∙◌, refl, arith}
use Rattle.std.specs.Prelude.{Contains, All, map, IsSome, IfSome}
use Rattle.std.proofs.lemmas.List.{append-nil, drop_all, take_all, map-append}
use Rattle.std.proofs.lemmas.List.Elements.{All-nil, All-push}
use Rattle.std.proofs.Math.Seq.{take-suc}
use Rattle.sk_base.specs.declared.Elem.{Elem}
use Rattle.sk_base.specs.declared.Name.{Name}
use Rattle.sk_base.specs.declared.Graph.{Graph}
use Rattle.sk_base.specs.declared.Sketch.{Sketch}
use Rattle.sk_base.specs.Drawn.{shape_of}
use Rattle.sk_base.specs.SoundGraph.{IsSoundGraph}
use Rattle.sk_base.proofs.Members.{contains_mapped, mapped_from}
use Rattle.sk_family.specs.declared.Cluster.{Cluster}
use Rattle.sk_family.specs.Body.{initial_bodies, starts}
use Rattle.sk_family.specs.Clusters.{Clusters, body_of, bodies, initial_clusters, IsSound}
use Rattle.sk_family.proofs.Soundness.{sound_initial, starting_bodies}
use Rattle.sk_rules.specs.declared.Taken.{Taken}
use Rattle.sk_family.specs.Merges.{Falls}
use Rattle.sk_rules.specs.Merges.{merged}
use Rattle.sk_rules.specs.Reach.{Reach, stays}
use Rattle.sk_rules.specs.Taking.{IsTaken, Leads}
use Rattle.sk_tree.specs.declared.PlanStep.{PlanStep}
use Rattle.sk_tree.specs.Meeting.{JoinsOnce}
use Rattle.sk_tree.specs.LegalPlan.{taken_told, FitsKinds, IsKept, IsLegalStep, IsWhole, AreLegalSteps}
use Rattle.sk_tree.specs.DrawnChoice.{AreDrawn, HasDrawnChoice}
use Rattle.sk_plan.specs.Runs.{TakesOnce, EachTakesOnce}
use Rattle.sk_plan.proofs.Joined.{sound_taken, reach_more}
use Rattle.sk_verdict.specs.Parts.{elem_of}
use Rattle.sk_plan.proofs.Finished.{reached_within}
use Rattle.sk_tree.proofs.DrawnKinds.{Draws, IsDrawnNode, drawn_some, drawn_fits}

module _ (s : Sketch) (g : Graph) (sound : IsSoundGraph g) (draws : Draws s g) (f : Clusters) (reached : Reach g (initial_bodies g) (bodies f)) where
  -- what lies in a live cluster is a drawn node
  drawn_in : (c : Cluster) → Contains f.live c → (e : Elem) → Contains c.elements e → IsDrawnNode s g e
  drawn_in c c_in e e_in =
      let inside = (reached_within g sound (bodies f) reached (body_of c) (contains_mapped body_of f.live c c_in)).elements e e_in in
      let found = mapped_from elem_of g.nodes e inside in
      (found.0.kind, draws e found.0.kind (subst (λ x. Contains g.nodes (record { elem = x; kind = found.0.kind })) found.2 found.1))

  pub record DrawnCorners (a b c : Elem) : Type 0 where
    pub first : IsDrawnNode s g a
    pub second : IsDrawnNode s g b
    pub third : IsDrawnNode s g c

  drawn_corners : (x y z : Name) (a b c : Elem) → JoinsOnce g f x y z a b c → DrawnCorners a b c
  drawn_corners x y z a b c joins = (let tri = joins.meets.triangle in record {
    first = drawn_in joins.one joins.one_named.lives a tri.a_shared.0;
    second = drawn_in joins.two joins.two_named.lives b tri.b_shared.0;
    third = drawn_in joins.three joins.three_named.lives c tri.c_shared.0;
  })

  pub shared_drawn : (t : Taken) → TakesOnce g f t → AreDrawn s t.shared
  shared_drawn t once =
      let corners = drawn_corners once.one once.two once.three t.shared.a t.shared.b once.third once.joins in (
        drawn_some s g t.shared.a corners.first,
        drawn_some s g t.shared.b corners.second,
        subst (λ o. IfSome o (λ c. IsSome (shape_of s c))) (sym once.shared) (drawn_some s g once.third corners.third),
      )

  joins_told : (step : PlanStep) → TakesOnce g f (taken_told step) → JoinsOnce g f step.one step.two step.three step.a step.b step.c
  joins_told step once =
      let one : once.one ≡ step.one = cc in
      let two : once.two ≡ step.two = cc in
      let three : once.three ≡ step.three = cc in
      let third : once.third ≡ step.c = cc in
      subst (λ x. JoinsOnce g f x step.two step.three step.a step.b step.c) one
      (subst (λ y. JoinsOnce g f once.one y step.three step.a step.b step.c) two
      (subst (λ z. JoinsOnce g f once.one once.two z step.a step.b step.c) three
      (subst (λ e. JoinsOnce g f once.one once.two once.three step.a step.b e) third once.joins)))

  -- a step that tells the merge is legal
  pub legal_step : (t : Taken) → IsTaken g f t → TakesOnce g f t → (step : PlanStep) → taken_told step ≡ t → IsKept f (step.one ∷ step.two ∷ step.three ∷ []) step.keeps → HasDrawnChoice s step → IsLegalStep g f step
  legal_step t taken once step told keeps choice =
      let joins = joins_told step (subst (λ (u : Taken). TakesOnce g f u) (sym told) once) in
      let tri = joins.meets.triangle in
      let corners = drawn_corners step.one step.two step.three step.a step.b step.c joins in
      record {
        next = ap (λ (u : Taken). u.step) told ∙ taken.is_next;
        falls = subst (λ (u : Taken). Falls u.merge) (sym told) taken.falls;
        joins = joins;
        keeps = keeps;
        choice = subst (λ ch. FitsKinds g step.a step.b step.c ch) (sym choice)
            (drawn_fits s g step.a step.b step.c tri.differ.0 tri.differ.1 tri.differ.2 corners.first corners.second corners.third tri.not_all_lines);
      }

-- before the merge at that place: the rest leads on from here, and with legal steps for it the steps so far are legal
pub record IsAt (s : Sketch) (g : Graph) (taken : List Taken) (place : ℕ) (f : Clusters) (steps : List PlanStep) : Type 0 where
  pub sound : IsSound f
  pub reached : Reach g (initial_bodies g) (bodies f)
  pub leads : (end : Clusters) × Leads g f (drop place taken) end × IsWhole g end
  pub once : EachTakesOnce g f (drop place taken)
  pub so_far : (more : List PlanStep) → AreLegalSteps g f more → AreLegalSteps g (initial_clusters g) (steps ++ more)
  pub told : map taken_told steps ≡ take place taken
  pub drawn : All (λ step. HasDrawnChoice s step) steps
  pub next : f.next_step ≡ place + 1

pub at_start : (s : Sketch) (g : Graph) (taken : List Taken) → IsSoundGraph g → ((end : Clusters) × Leads g (initial_clusters g) taken end × IsWhole g end) → EachTakesOnce g (initial_clusters g) taken → IsAt s g taken 0 (initial_clusters g) []
at_start s g taken sound leads once = record {
  sound = sound_initial g sound;
  reached = subst (λ f. Reach g (initial_bodies g) f) (sym (starting_bodies (starts g))) stays;
  leads = leads;
  once = once;
  so_far = λ more h. h;
  told = refl;
  drawn = All-nil (λ step. HasDrawnChoice s step);
  next = omega arith;
}

module _ (s : Sketch) (g : Graph) (taken : List Taken) (place : ℕ) (f : Clusters) (steps : List PlanStep) (at : IsAt s g taken place f steps) where
  module _ (d : Taken) (inside : place < length taken) where
    rest_is : drop place taken ≡ get_or taken place d ∷ drop (suc place) taken
    rest_is = drop-cons taken place d inside

    leads_on : IsTaken g f (get_or taken place d) × Leads g (merged f (get_or taken place d).merge) (drop (suc place) taken) at.leads.0
    leads_on = subst (λ ts. Leads g f ts at.leads.0) rest_is at.leads.1

    once_on : TakesOnce g f (get_or taken place d) × EachTakesOnce g (merged f (get_or taken place d).merge) (drop (suc place) taken)
    once_on = subst (λ ts. EachTakesOnce g f ts) rest_is at.once

    pub taken_here : IsTaken g f (get_or taken place d)
    taken_here = leads_on.0

    pub once_here : TakesOnce g f (get_or taken place d)
    once_here = once_on.0

    pub drawn_here : IsSoundGraph g → Draws s g → AreDrawn s (get_or taken place d).shared
    drawn_here sound draws = shared_drawn s g sound draws f at.reached (get_or taken place d) once_here

    -- with a step for the merge that is there, it is the next merge's turn
    module _ (sound : IsSoundGraph g) (draws : Draws s g) (step : PlanStep) (told : taken_told step ≡ get_or taken place d) (keeps : IsKept f (step.one ∷ step.two ∷ step.three ∷ []) step.keeps) (choice : HasDrawnChoice s step) where
      here : IsLegalStep g f step
      here = legal_step s g sound draws f at.reached (get_or taken place d) taken_here once_here step told keeps choice

      at_more : IsAt s g taken (place + 1) (merged f (get_or taken place d).merge) (steps ++ step ∷ [])
      at_more = (let level : suc place ≡ place + 1 = omega arith in
          subst (λ j. IsAt s g taken j (merged f (get_or taken place d).merge) (steps ++ step ∷ [])) level (record {
            sound = sound_taken g f (get_or taken place d) at.sound taken_here;
            reached = reach_more g f (get_or taken place d) at.sound taken_here at.reached;
            leads = (at.leads.0, leads_on.1, at.leads.2);
            once = once_on.1;
            so_far = λ more h. subst (λ ss. AreLegalSteps g (initial_clusters g) ss) (sym (append_assoc steps (step ∷ []) more))
                (at.so_far (step ∷ more) (here, subst (λ (t : Taken). AreLegalSteps g (merged f t.merge) more) (sym told) h));
            told = map-append taken_told steps (step ∷ []) ∙ ap (λ ts. ts ++ taken_told step ∷ []) at.told
                ∙ ap (λ (t : Taken). take place taken ++ t ∷ []) told ∙ sym (take-suc taken place d inside);
            drawn = All-push (λ st. HasDrawnChoice s st) steps step at.drawn choice;
            next = (let was = at.next in omega arith);
          }))

      pub at_turn : (f' : Clusters) → f' ≡ merged f (get_or taken place d).merge → (steps' : List PlanStep) → steps' ≡ steps ++ step ∷ [] → IsAt s g taken (place + 1) f' steps'
      at_turn f' f_is steps' steps_is =
          subst (λ (e : Clusters). IsAt s g taken (place + 1) e steps') (sym f_is)
          (subst (λ (ss : List PlanStep). IsAt s g taken (place + 1) (merged f (get_or taken place d).merge) ss) (sym steps_is) at_more)

  module _ (over : length taken ≤ place) where
    none_left : drop place taken ≡ []
    none_left = drop_all place taken over

    pub legal_end : AreLegalSteps g (initial_clusters g) steps
    legal_end =
        let last : f ≡ at.leads.0 = subst (λ ts. Leads g f ts at.leads.0) none_left at.leads.1 in
        subst (λ ss. AreLegalSteps g (initial_clusters g) ss) (append-nil steps)
        (at.so_far [] (subst (λ (e : Clusters). IsWhole g e) (sym last) at.leads.2))

    pub told_end : map taken_told steps ≡ taken
    told_end = at.told ∙ take_all place taken over
