-- There is a ring of lines and parts, or there is none.
use Rattle.std.proofs.Common.{◌≡◌, ◌≢◌, ◌⊎◌, inl, inr, ℕ, List, [], ◌∷◌, refl, ap, sym, subst, ◌∙◌}
use Rattle.std.specs.Prelude.{Contains}
use Rattle.sk_base.specs.declared.Elem.{Elem}
use Rattle.sk_base.specs.declared.Graph.{Graph}
use Rattle.sk_base.specs.declared.Kind.TheVariants.{Line}
use Rattle.sk_base.specs.declared.Sketch.{Sketch}
use Rattle.sk_base.proofs.Deciding.{Decided, both, denied, either, moved, some_in, is_in, elem_settles, node_settles}
use Rattle.sk_base.proofs.Members.{Settles, nat_settles, list_settles, contains_none, contains_head, contains_later, contains_cases}
use Rattle.sk_family.specs.Rules.{IsLine}
use Rattle.sk_graph.specs.SketchGraph.{graph_of}
use Rattle.sk_plan.specs.Judged.{IsTheJudgement}
use Rattle.sk_plan.proofs.TheJudgement.{one_judgement}
use Rattle.sk_verdict.specs.declared.Judgement.{Judgement}
use Rattle.sk_verdict.specs.declared.Part.{Part}
use Rattle.sk_complete.specs.Rings.{AreTiedBeside, same_line, by_part, IsRing, HasRing}
use Rattle.sk_complete.proofs.Ringing.{beside_on, passes}

part_settles : Settles Part
part_settles p q =
    elim (list_settles elem_settles p.elements q.elements) [
      | inr other ↦ inr (λ e. other (ap (λ (z : Part). z.elements) e))
      | inl elements ↦ elim (nat_settles p.held q.held) [
        | inr other ↦ inr (λ e. other (ap (λ (z : Part). z.held) e))
        | inl held ↦ elim (nat_settles p.due q.due) [
          | inr other ↦ inr (λ e. other (ap (λ (z : Part). z.due) e))
          | inl due ↦ inl (ap (λ (es : List Elem). make es p.held p.due) elements ∙ (ap (λ (n : ℕ). make q.elements n p.due) held ∙ ap (λ (n : ℕ). make q.elements q.held n) due))
        ]
      ]
    ]
  where
    make : List Elem → ℕ → ℕ → Part
    make es held due = record { elements = es; held = held; due = due }

module _ (g : Graph) (but : Part) where
  line_decided : (e : Elem) → Decided (IsLine g e)
  line_decided e = is_in node_settles g.nodes (record { elem = e; kind = Line })

  -- no part ties nothing but a line and itself
  none_tie : (l m : Elem) → AreTiedBeside g [] but l m → l ≡ m
  none_tie l m same_line = refl
  none_tie l m (by_part line p p_in differs l_in k_in rest) = absurd (contains_none p p_in)

  -- the part itself ties nothing beside itself
  itself_aside : (ps : List Part) (l m : Elem) → AreTiedBeside g (but ∷ ps) but l m → AreTiedBeside g ps but l m
  itself_aside ps l m same_line = same_line
  itself_aside ps l m (by_part {m = k} line p p_in differs l_in k_in rest) =
      elim (contains_cases but ps p p_in) [
        | inl same ↦ absurd (differs (sym same))
        | inr later ↦ by_part line p later differs l_in k_in (itself_aside ps k m rest)
      ]

  -- more parts tie no less
  tied_more : (x : Part) (ps : List Part) (l m : Elem) → AreTiedBeside g ps but l m → AreTiedBeside g (x ∷ ps) but l m
  tied_more x ps l m same_line = same_line
  tied_more x ps l m (by_part {m = k} line p p_in differs l_in k_in rest) = by_part line p (contains_later x ps p p_in) differs l_in k_in (tied_more x ps k m rest)

  -- to a line of x and on from another
  abbrev Through : Part → List Part → Elem → Elem → Type 0
  Through x ps l m =
      (c : Elem) × Contains x.elements c × ((d : Elem) × Contains x.elements d × (IsLine g d × AreTiedBeside g ps but l c × AreTiedBeside g ps but d m))

  through_tied : (x : Part) (ps : List Part) → x ≢ but → (l m : Elem) → Through x ps l m → AreTiedBeside g (x ∷ ps) but l m
  through_tied x ps differs l m (c, c_in, (d, d_in, (line, to, on))) =
      beside_on g (x ∷ ps) but l c m (tied_more x ps l c to) (by_part line x (contains_head x ps) differs c_in d_in (tied_more x ps d m on))

  tied_through : (x : Part) (ps : List Part) (l m : Elem) → IsLine g l → AreTiedBeside g (x ∷ ps) but l m → AreTiedBeside g ps but l m ⊎ Through x ps l m
  tied_through x ps l m line tied =
      elim (passes g ps (x ∷ ps) x but (λ q q_in. elim (contains_cases x ps q q_in) [ inl same ↦ inr same | inr later ↦ inl later ]) l m line tied) [
        | inl past ↦ inl past
        | inr (c, d, c_in, d_in, c_line, d_line, to, on) ↦ inr (c, c_in, (d, d_in, (d_line, to, on)))
      ]

  with_part : (x : Part) (ps : List Part) (l m : Elem) → IsLine g l → Decided (x ≡ but) → Decided (AreTiedBeside g ps but l m) → Decided (Through x ps l m) → Decided (AreTiedBeside g (x ∷ ps) but l m)
  with_part x ps l m line (inl same) past through =
      moved (tied_more x ps l m) (λ tied. itself_aside ps l m (subst (λ (z : Part). AreTiedBeside g (z ∷ ps) but l m) same tied)) past
  with_part x ps l m line (inr differs) past through =
      moved (λ h. elim h [ inl tied ↦ tied_more x ps l m tied | inr by_x ↦ through_tied x ps differs l m by_x ]) (tied_through x ps l m line) (either past through)

  on_from : (ps : List Part) (d m : Elem) → Decided (IsLine g d) → (IsLine g d → Decided (AreTiedBeside g ps but d m)) → Decided (IsLine g d × AreTiedBeside g ps but d m)
  on_from ps d m (inl line) tied = both (inl line) (tied line)
  on_from ps d m (inr none) tied = inr (λ h. none h.0)

  tied_decided : (ps : List Part) (l m : Elem) → IsLine g l → Decided (AreTiedBeside g ps but l m)
  tied_decided [] l m line = moved (λ same. subst (λ (z : Elem). AreTiedBeside g [] but l z) same same_line) (none_tie l m) (elem_settles l m)
  tied_decided (x ∷ ps) l m line =
      with_part x ps l m line (part_settles x but) (tied_decided ps l m line)
      (some_in (λ (c : Elem). (d : Elem) × Contains x.elements d × (IsLine g d × AreTiedBeside g ps but l c × AreTiedBeside g ps but d m))
      (λ c. some_in (λ (d : Elem). IsLine g d × AreTiedBeside g ps but l c × AreTiedBeside g ps but d m)
      (λ d. moved (λ h. (h.1.0, h.0, h.1.1)) (λ h. (h.1, (h.0, h.2))) (both (tied_decided ps l c line) (on_from ps d m (line_decided d) (tied_decided ps d m)))) x.elements) x.elements)

module _ (g : Graph) (parts : List Part) where
  -- two different lines of the part are tied by the others
  abbrev Closes : Part → Elem → Elem → Type 0
  Closes p d e = (d ≢ e) × (IsLine g e) × (IsLine g d × AreTiedBeside g parts p d e)

  closes_decided : (p : Part) (d e : Elem) → Decided (Closes p d e)
  closes_decided p d e =
      moved (λ h. (h.0, h.1.0, h.1.1)) (λ h. (h.0, (h.1, h.2)))
      (both (denied (elem_settles d e)) (both (line_decided g p e) (on_from g p parts d e (line_decided g p d) (tied_decided g p parts d e))))

  abbrev Closed : Type 0
  Closed = (p : Part) × Contains parts p × ((d : Elem) × Contains p.elements d × ((e : Elem) × Contains p.elements e × Closes p d e))

  ring_of : Closed → IsRing g parts
  ring_of (p, p_in, (d, d_in, (e, e_in, (differ, e_line, (d_line, tied))))) = record {
    part = p;
    part_in = p_in;
    one = d;
    other = e;
    differ = differ;
    one_line = d_line;
    other_line = e_line;
    one_in = d_in;
    other_in = e_in;
    tied = tied;
  }

  closed_by : IsRing g parts → Closed
  closed_by r = (r.part, r.part_in, (r.one, r.one_in, (r.other, r.other_in, (r.differ, r.other_line, (r.one_line, r.tied)))))

  is_ring_decided : Decided (IsRing g parts)
  is_ring_decided =
      moved ring_of closed_by
      (some_in (λ (p : Part). (d : Elem) × Contains p.elements d × ((e : Elem) × Contains p.elements e × Closes p d e))
      (λ p. some_in (λ (d : Elem). (e : Elem) × Contains p.elements e × Closes p d e)
      (λ d. some_in (λ (e : Elem). Closes p d e) (closes_decided p d) p.elements) p.elements) parts)

pub ring_decided : (s : Sketch) (j : Judgement) → IsTheJudgement (graph_of s) j → Decided (HasRing s)
ring_decided s j judged =
    moved (λ ring. (j, judged, ring))
    (λ (k, told, ring). subst (λ (z : Judgement). IsRing (graph_of s) z.parts) (one_judgement (graph_of s) k j told judged) ring)
    (is_ring_decided (graph_of s) j.parts)
