-- A claim is accepted, or something of it fails first.
use Rattle.std.proofs.Common.{◌≡◌, ◌⊎◌, inl, inr, refl, ℕ, ◌≤◌, ℤ, pos, ◌*ℤ◌, List, [], ◌∷◌, length, Option, None, Some, ap, sym, subst, ◌∙◌, arith}
use Rattle.std.specs.Prelude.{Contains, IsSome}
use Rattle.sk_base.specs.declared.At.{At}
use Rattle.sk_base.specs.declared.Element.{Element}
use Rattle.sk_base.specs.declared.Elem.{Elem}
use Rattle.sk_base.specs.declared.Graph.{Graph}
use Rattle.sk_base.specs.declared.Kind.{Kind}
use Rattle.sk_base.specs.declared.Kind.TheVariants as kinds
use Rattle.sk_base.specs.declared.Name.{Name}
use Rattle.sk_base.specs.declared.Name.TheVariants.{Step as StepName}
use Rattle.sk_base.specs.declared.Node.{Node}
use Rattle.sk_base.specs.declared.Shape.{Shape}
use Rattle.sk_base.specs.declared.Shape.TheVariants.{Point, Line, Circle}
use Rattle.sk_base.specs.declared.Sign.{Sign}
use Rattle.sk_base.specs.declared.Sign.TheVariants.{Plus, Minus}
use Rattle.sk_base.specs.declared.Sketch.{Sketch}
use Rattle.sk_base.specs.Places.{place_of}
use Rattle.sk_base.specs.SoundGraph.{IsSoundGraph, HasNode}
use Rattle.sk_base.proofs.Members.{Settles, nat_settles}
use Rattle.sk_base.proofs.Unions.{which}
use Rattle.sk_tree.specs.DrawnChoice.{drawn_choice, shapes_of}
use Rattle.sk_family.specs.declared.Cluster.{Cluster}
use Rattle.sk_family.specs.Clusters.{Clusters, IsNamed, initial_clusters}
use Rattle.sk_base.proofs.Deciding.{elem_settles, Decided, both, either, three, moved, denied, implied, is_in, each_decided, node_settles, below_decided, name_below, name_settles}
use Rattle.sk_graph.specs.SketchGraph.{graph_of}
use Rattle.sk_tolerance.specs.declared.Spotted.{Spotted}
use Rattle.sk_tolerance.specs.declared.Spotted.TheVariants as spotted
use Rattle.sk_measure.specs.Holding.{tolerance_of}
use Rattle.sk_measure.specs.Items.{Item, normal, constraint, block, Holds, IsOwnLeast}
use Rattle.sk_tolerance.specs.Tolerances.{spotted_as, everything}
use Rattle.sk_tolerance.specs.Turns.{signs}
use Rattle.sk_measure.proofs.Widening.{holds_more}
use Rattle.sk_tree.specs.declared.Choice.{Choice}
use Rattle.sk_tree.specs.declared.Choice.TheVariants.{Turn, Advance, Nothing}
use Rattle.sk_tree.specs.declared.PlanStep.{PlanStep}
use Rattle.sk_tree.specs.ByNumber.{by_number}
use Rattle.sk_tree.specs.LegalPlan.{IsPreferred, IsKept, IsLineWithPoints, IsPointWithLines, FitsKinds, IsLegalStep, HasNodes, IsWhole, next_after}
use Rattle.sk_tree.specs.Meeting.{SharesNoOther, MeetsOnce, JoinsOnce}
use Rattle.sk_claims.specs.declared.Claim.{Claim}
use Rattle.sk_claims.specs.declared.Radius.{Radius}
use Rattle.sk_verify.specs.declared.failure.Failure.{Failure}
use Rattle.sk_verify.specs.declared.failure.Failure.TheVariants.{Step, Parts, Element as OfElement, Line as OfLine, Con as OfCon, Sign as OfSign}
use Rattle.sk_claims.specs.Claims.{IsFitting}
use Rattle.sk_verify.specs.AsClaimed.{HasItsRadius, IsTold, HoldsAsClaimed, plan_claimed}
use Rattle.sk_verify.specs.Failing.{AllTold, IsFirstUntold, IsComplete, IsAccepted, IsFirstOff, FailsFirst}
use Rattle.sk_verify.specs.RightSteps.{IsRightStep, AreRight, IsFirstWrong, after}
use Rattle.sk_verify.proofs.Complete.{told_exactly}
use Rattle.sk_tolerance.proofs.Firsts.{all_or_first}
use Rattle.sk_rules.proofs.SettledRules.{triangle_decided, some_named}
use Rattle.sk_tolerance.proofs.SomeMeasures.{int_settles, own_everything, compared}

-- ---- steps

sign_settles : Settles Sign
sign_settles Plus Plus = inl refl
sign_settles Plus Minus = inr (λ e. cc)
sign_settles Minus Plus = inr (λ e. cc)
sign_settles Minus Minus = inl refl

choice_settles : Settles Choice
choice_settles (Turn a) (Turn b) = elim (sign_settles a b) [ inl same ↦ inl (ap Turn same) | inr other ↦ inr (λ e. other (cc)) ]
choice_settles (Turn a) (Advance b) = inr (λ e. cc)
choice_settles (Turn a) Nothing = inr (λ e. cc)
choice_settles (Advance a) (Turn b) = inr (λ e. cc)
choice_settles (Advance a) (Advance b) = elim (sign_settles a b) [ inl same ↦ inl (ap Advance same) | inr other ↦ inr (λ e. other (cc)) ]
choice_settles (Advance a) Nothing = inr (λ e. cc)
choice_settles Nothing (Turn b) = inr (λ e. cc)
choice_settles Nothing (Advance b) = inr (λ e. cc)
choice_settles Nothing Nothing = inl refl

only_decided : (xs ys : List Elem) (a : Elem) → Decided (SharesNoOther xs ys a)
only_decided xs ys a =
    moved (λ all e shared. all e shared.0 shared.1) (λ each e x_in y_in. each e (x_in, y_in))
    (each_decided (λ e. Contains ys e → e ≡ a) xs (λ e. implied (is_in elem_settles ys e) (elem_settles e a)))

once_decided : (g : Graph) (xs ys zs : List Elem) (a b c : Elem) → Decided (MeetsOnce g xs ys zs a b c)
once_decided g xs ys zs a b c =
    moved (λ h. record { triangle = h.0; only_a = h.1.0; only_b = h.1.1; only_c = h.1.2 }) (λ (m : MeetsOnce g xs ys zs a b c). (m.triangle, (m.only_a, m.only_b, m.only_c)))
    (both (triangle_decided g xs ys zs a b c) (three (only_decided xs ys a) (only_decided ys zs b) (only_decided zs xs c)))

node_decided : (g : Graph) (e : Elem) (k : Kind) → Decided (HasNode g e k)
node_decided g e k = is_in node_settles g.nodes (record { elem = e; kind = k })

line_decided : (g : Graph) (a b c : Elem) → Decided (IsLineWithPoints g a b c)
line_decided g a b c = three (node_decided g a kinds.Line) (node_decided g b kinds.Point) (node_decided g c kinds.Point)

point_decided : (g : Graph) (a b c : Elem) → Decided (IsPointWithLines g a b c)
point_decided g a b c = three (node_decided g a kinds.Point) (node_decided g b kinds.Line) (node_decided g c kinds.Line)

kinds_decided : (g : Graph) (a b c : Elem) (choice : Choice) → Decided (FitsKinds g a b c choice)
kinds_decided g a b c (Turn sign) = three (node_decided g a kinds.Point) (node_decided g b kinds.Point) (node_decided g c kinds.Point)
kinds_decided g a b c (Advance sign) = either (line_decided g a b c) (either (line_decided g b c a) (line_decided g c a b))
kinds_decided g a b c Nothing = either (point_decided g a b c) (either (point_decided g b c a) (point_decided g c a b))

preferred_decided : (a b : Cluster) → Decided (IsPreferred a b)
preferred_decided a b =
    either (below_decided (length b.elements) (length a.elements)) (both (nat_settles (length b.elements) (length a.elements)) (denied (name_below b.name a.name)))

module _ (s : Sketch) (g : Graph) (f : Clusters) where
  joins_decided : (x y z : Name) (a b c : Elem) → Decided (JoinsOnce g f x y z a b c)
  joins_decided x y z a b c =
      moved (λ (p, p_is, (q, q_is, (r, r_is, m))). record { one = p; two = q; three = r; one_named = p_is; two_named = q_is; three_named = r_is; meets = m })
      (λ (j : JoinsOnce g f x y z a b c). (j.one, j.one_named, (j.two, j.two_named, (j.three, j.three_named, j.meets))))
      (some_named g f x (λ p. (q : Cluster) × IsNamed f y q × ((r : Cluster) × IsNamed f z r × MeetsOnce g p.elements q.elements r.elements a b c)) (λ p.
      some_named g f y (λ q. (r : Cluster) × IsNamed f z r × MeetsOnce g p.elements q.elements r.elements a b c) (λ q.
      some_named g f z (λ r. MeetsOnce g p.elements q.elements r.elements a b c) (λ r. once_decided g p.elements q.elements r.elements a b c))))

  all_preferred : (names : List Name) (a : Cluster) → Decided ((n : Name) (b : Cluster) → Contains names n → IsNamed f n b → IsPreferred a b)
  all_preferred names a =
      moved (λ all n b n_in named. all b named.lives (subst (λ (m : Name). Contains names m) (sym named.has_name) n_in))
      (λ each b b_in n_in. each b.name b n_in (record { lives = b_in; has_name = refl }))
      (each_decided (λ (b : Cluster). Contains names b.name → IsPreferred a b) f.live (λ b. implied (is_in name_settles names b.name) (preferred_decided a b)))

  kept_decided : (names : List Name) (kept : Name) → Decided (IsKept f names kept)
  kept_decided names kept =
      both (is_in name_settles names kept)
      (some_named g f kept (λ a. (n : Name) (b : Cluster) → Contains names n → IsNamed f n b → IsPreferred a b) (λ a. all_preferred names a))

  legal_decided : (x : PlanStep) → Decided (IsLegalStep g f x)
  legal_decided x =
      moved (λ h. record { next = h.0.0; falls = h.0.1; joins = h.1.0; keeps = h.1.1; choice = h.1.2 }) (λ (l : IsLegalStep g f x). ((l.next, l.falls), (l.joins, l.keeps, l.choice)))
      (both (both (name_settles x.step (StepName f.next_step)) (both (name_below x.two x.one) (name_below x.three x.two)))
      (three (joins_decided x.one x.two x.three x.a x.b x.c) (kept_decided (x.one ∷ x.two ∷ x.three ∷ []) x.keeps) (kinds_decided g x.a x.b x.c x.choice)))

  step_decided : (x : PlanStep) → Decided (IsRightStep s g f x)
  step_decided x =
      moved (λ h. record { legal = h.0; drawn = h.1 }) (λ (r : IsRightStep s g f x). (r.legal, r.drawn))
      (both (legal_decided x) (choice_settles x.choice (drawn_choice (shapes_of s (by_number x.a x.b x.c)))))

right_or_wrong : (s : Sketch) (g : Graph) (f : Clusters) (steps : List PlanStep) → AreRight s g f steps ⊎ ((n : Name) × IsFirstWrong s g f steps n)
right_or_wrong s g f [] = inl tt
right_or_wrong s g f (x ∷ steps) =
    elim (step_decided s g f x) [
      | inr wrong ↦ inr (StepName f.next_step, inl (refl, wrong))
      | inl right ↦ elim (right_or_wrong s g (next_after f x) steps) [
        | inl rest ↦ inl (right, rest)
        | inr (n, wrong) ↦ inr (n, inr (right, wrong))
      ]
    ]

-- ---- what remains

none_decided : {X : Type 0} (xs : List X) → Decided (xs ≡ [])
none_decided [] = inl refl
none_decided (x ∷ xs) = inr (λ e. cc)

one_decided : (g : Graph) (live : List Cluster) → Decided ((c : Cluster) × (live ≡ c ∷ []) × HasNodes g c)
one_decided g [] = inr (λ (c, is, has). cc)
one_decided g (c ∷ d ∷ more) = inr (λ (e, is, has). cc)
one_decided g (c ∷ []) =
    moved (λ has. (c, refl, has)) (λ (d, is, has). (let same : d ≡ c = cc in subst (λ (e : Cluster). HasNodes g e) same has))
    (each_decided (λ (n : Node). Contains c.elements n.elem) g.nodes (λ n. is_in elem_settles c.elements n.elem))

whole_decided : (g : Graph) (f : Clusters) → Decided (IsWhole g f)
whole_decided g f = either (one_decided g f.live) (three (nat_settles (length g.nodes) 1) (none_decided g.edges) (none_decided g.blocks))

-- ---- elements

radius_settles : Settles Radius
radius_settles a b =
    elim (elem_settles a.elem b.elem) [
      | inr other ↦ inr (λ e. other (ap (λ (r : Radius). r.elem) e))
      | inl elem ↦ elim (int_settles a.nm b.nm) [
        | inr other ↦ inr (λ e. other (ap (λ (r : Radius). r.nm) e))
        | inl nm ↦ inl (ap (λ (e : Elem). made e a.nm) elem ∙ ap (λ (n : ℤ). made b.elem n) nm)
      ]
    ]
  where
    made : Elem → ℤ → Radius
    made e n = record { elem = e; nm = n }

placed_decided : (o : Option At) → Decided (IsSome o)
placed_decided None = inr (λ h. cc)
placed_decided (Some at) = inl refl

radius_decided : (radii : List Radius) (e : Elem) (shape : Shape) → Decided (HasItsRadius radii e shape)
radius_decided radii e (Point x y) = inl tt
radius_decided radii e (Line x1 y1 x2 y2) = inl tt
radius_decided radii e (Circle x y r) = is_in radius_settles radii (record { elem = e; nm = pos 1000 *ℤ r.0 })

told_decided : (c : Claim) (x : Element) → Decided (IsTold c x)
told_decided c x =
    moved (λ h. record { placed = h.0; radius = h.1 }) (λ (t : IsTold c x). (t.placed, t.radius))
    (both (placed_decided (place_of c.at x.number)) (radius_decided c.radii x.number x.shape))

-- each element is told, or one is the first that isn't
pub told_or_first : (c : Claim) (elements : List Element) → AllTold c elements ⊎ ((e : Elem) × IsFirstUntold c elements e)
told_or_first c elements =
    elim (all_or_first (IsTold c) elements (λ x h. told_decided c x)) [ inl told ↦ inl told | inr (x, first) ↦ inr (x.number, (x, first, refl)) ]

-- ---- tolerances

within_decided : (c : Claim) (item : Item) (limit : ℕ) → (n : ℕ) × IsOwnLeast c.at item n → Decided (Holds c.at item limit)
within_decided c item limit (n, own) =
    elim (which limit n) [
      | inl less ↦ inr (λ holds. (let few : n ≤ limit = own.least limit holds in absurd (omega arith)))
      | inr (inl level) ↦ inl (holds_more c.at item n limit (omega arith) own.holds)
      | inr (inr more) ↦ inl (holds_more c.at item n limit (omega arith) own.holds)
    ]

claimed_decided : (c : Claim) (item : Item) → (n : ℕ) × IsOwnLeast c.at item n → Decided (HoldsAsClaimed c item)
claimed_decided c (normal line) own = within_decided c (normal line) c.w own
claimed_decided c (constraint e) own = within_decided c (constraint e) (tolerance_of e.measure c.t c.w) own
claimed_decided c (block b) own = within_decided c (block b) c.t own

-- what is off is named as a line or as a constraint
off_named : (s : Sketch) (g : Graph) (c : Claim) → IsComplete s g c → (at : Spotted) → IsFirstOff c (everything g) at → (f : Failure) × FailsFirst s g c f
off_named s g c complete (spotted.Line e) off = (OfLine e, (complete, off))
off_named s g c complete (spotted.Con k) off = (OfCon k, (complete, off))

pub accepted_or_failing : (s : Sketch) (g : Graph) → g ≡ graph_of s → IsSoundGraph g → (c : Claim) → IsFitting g c → IsAccepted s g c ⊎ ((f : Failure) × FailsFirst s g c f)
accepted_or_failing s g is sound c fits =
    elim (right_or_wrong s g (initial_clusters g) c.steps) [
      | inr (n, wrong) ↦ inr (Step n, wrong)
      | inl right ↦ elim (whole_decided g (after (initial_clusters g) c.steps)) [
        | inr never ↦ inr (Parts, (right, never))
        | inl whole ↦ elim (told_or_first c s.elements) [
          | inr (e, first) ↦ inr (OfElement e, (record { steps = right; whole = whole }, first))
          | inl told ↦ (
              let complete : IsComplete s g c = record { joined = record { steps = right; whole = whole }; told = told } in
              let exactly = told_exactly s g is sound c fits told in
              elim (all_or_first (HoldsAsClaimed c) (everything g) (λ item h. claimed_decided c item (own_everything g c.at sound exactly item h))) [
                | inr (item, first) ↦ inr (off_named s g c complete (spotted_as item) (item, first, refl))
                | inl holds ↦ elim (compared (signs s c.at (plan_claimed g c))) [
                  | inr (t, first) ↦ inr (OfSign t.at, (record { complete = complete; holds = holds }, (t, first, refl)))
                  | inl drawn ↦ inl (record { met = record { complete = complete; holds = holds }; signs = drawn })
                ]
              ])
        ]
      ]
    ]
