-- What edits do to the constraints of the graph, and to which elements are lines.
use Rattle.std.proofs.Common.{◌≡◌, ◌≢◌, inl, inr, ◌<◌, ◌==◌, Bool, true, false, cond, List, [], ◌∷◌, ◌++◌, refl, ap, sym, subst, ◌∙◌, arith}
use Rattle.std.specs.Prelude.{Contains, map, not}
use Rattle.std.proofs.lemmas.List.Elements.{All-contains, Contains-push_cases, Contains-push, Contains-append_left}
use Rattle.sk_base.specs.declared.Elem.{Elem}
use Rattle.sk_base.specs.declared.ConId.{ConId}
use Rattle.sk_base.specs.declared.Um.{Um}
use Rattle.sk_base.specs.declared.Ratio.{Ratio}
use Rattle.sk_base.specs.declared.Kind.TheVariants.{Line}
use Rattle.sk_base.specs.declared.Node.{Node}
use Rattle.sk_base.specs.declared.Element.{Element}
use Rattle.sk_base.specs.declared.Constraint.{Constraint}
use Rattle.sk_base.specs.declared.Rule.{Rule}
use Rattle.sk_base.specs.declared.Rule.TheVariants as rule
use Rattle.sk_base.specs.declared.Sketch.{Sketch}
use Rattle.sk_base.specs.Numbering.{con_number, con_exact, elem_number, elem_exact}
use Rattle.sk_base.specs.SoundSketch.{IsSoundSketch, IsSoundRule}
use Rattle.sk_base.proofs.Members.{contains_none, contains_mapped, mapped_from, contains_filtered, filtered_from}
use Rattle.sk_base.proofs.Numbers.{other_passes, passes_differ}
use Rattle.sk_base.proofs.Unions.{union_cases}
use Rattle.sk_family.specs.Body.{Start, starts, starting, initial_bodies}
use Rattle.sk_base.proofs.Deciding.{con_settles}
use Rattle.sk_family.proofs.GraphStarts.{start_at}
use Rattle.sk_family.specs.Rules.{IsLine}
use Rattle.sk_rules.specs.Keeping.{HasOneMore, HasAllBut, KeepsKinds}
use Rattle.sk_graph.specs.Naming.{named_by}
use Rattle.sk_graph.specs.SketchGraph.{node_of, graph_of}
use Rattle.sk_edits.specs.declared.Edit.{Edit}
use Rattle.sk_edits.specs.declared.Edit.TheVariants as edit
use Rattle.sk_edits.specs.Edits.{applied, changed, with_length, with_ratio}
use Rattle.sk_plan.specs.ConstraintStarts.{constraint_start}
use Rattle.sk_edits.specs.Making.{CanMake}
use Rattle.sk_graph.proofs.Drawing.{named_in}
use Rattle.sk_plan.proofs.Starts.{rises, starts_are, start_there, start_of_some}

-- constraints that name the same start the same
changed_names : (k : ConId) (change : Rule → Rule) → ((r : Rule) → named_by (change r) ≡ named_by r) → (cs : List Constraint) → map constraint_start (map (changed k change) cs) ≡ map constraint_start cs
changed_names k change same [] = refl
changed_names k change same (c ∷ cs) =
    let here : constraint_start (changed k change c) ≡ constraint_start c = told (c.number.0 == k.0) in
    let rest = changed_names k change same cs in
    cc
  where
    started : Rule → Start
    started r = constraint_start (record { number = c.number; rule = r })

    told : (t : Bool) → constraint_start (record { number = c.number; rule = cond t (change c.rule) c.rule }) ≡ constraint_start c
    told true = rw (same c.rule) refl
    told false = refl

length_names : (len : Um) (r : Rule) → named_by (with_length len r) ≡ named_by r
length_names len (rule.Distance u v old) = refl
length_names len (rule.On u v) = refl
length_names len (rule.Tangent u v) = refl
length_names len (rule.Outside u v) = refl
length_names len (rule.Inside u v) = refl
length_names len (rule.Angle l m ratio) = refl
length_names len (rule.Block pins) = refl

ratio_names : (ratio : Ratio) (r : Rule) → named_by (with_ratio ratio r) ≡ named_by r
ratio_names ratio (rule.Distance u v len) = refl
ratio_names ratio (rule.On u v) = refl
ratio_names ratio (rule.Tangent u v) = refl
ratio_names ratio (rule.Outside u v) = refl
ratio_names ratio (rule.Inside u v) = refl
ratio_names ratio (rule.Angle l m old) = refl
ratio_names ratio (rule.Block pins) = refl

-- where the sketch's constraints start as they did, so do the graph's
starts_same : (s t : Sketch) → IsSoundSketch s → IsSoundSketch t → map constraint_start t.constraints ≡ map constraint_start s.constraints → initial_bodies (graph_of t) ≡ initial_bodies (graph_of s)
starts_same s t sound t_sound same = ap (map starting) (starts_are t t_sound ∙ same ∙ sym (starts_are s sound))

-- an edit that adds or drops no constraint lets each start as it did
pub starts_same_element : (s : Sketch) (e : Element) → CanMake (edit.Element e) s → initial_bodies (graph_of (applied (edit.Element e) s)) ≡ initial_bodies (graph_of s)
starts_same_element s e can = starts_same s (applied (edit.Element e) s) can.sound can.stays_sound refl

pub starts_same_length : (s : Sketch) (k : ConId) (len : Um) → CanMake (edit.Length k len) s → initial_bodies (graph_of (applied (edit.Length k len) s)) ≡ initial_bodies (graph_of s)
starts_same_length s k len can = starts_same s (applied (edit.Length k len) s) can.sound can.stays_sound (changed_names k (with_length len) (length_names len) s.constraints)

pub starts_same_ratio : (s : Sketch) (k : ConId) (ratio : Ratio) → CanMake (edit.Turned k ratio) s → initial_bodies (graph_of (applied (edit.Turned k ratio) s)) ≡ initial_bodies (graph_of s)
starts_same_ratio s k ratio can = starts_same s (applied (edit.Turned k ratio) s) can.sound can.stays_sound (changed_names k (with_ratio ratio) (ratio_names ratio) s.constraints)

pub starts_same_erased : (s : Sketch) (x : Elem) → CanMake (edit.Erased x) s → initial_bodies (graph_of (applied (edit.Erased x) s)) ≡ initial_bodies (graph_of s)
starts_same_erased s x can = starts_same s (applied (edit.Erased x) s) can.sound can.stays_sound refl

-- one constraint more, of a number above all others
pub one_more : (s : Sketch) (c : Constraint) → CanMake (edit.Constraint c) s → HasOneMore (constraint_start c) (graph_of s) (graph_of (applied (edit.Constraint c) s))
one_more s c can =
    let t : Sketch = applied (edit.Constraint c) s in
    record {
      free = λ d d_in same. (
          let found = start_of_some s can.sound d d_in in
          let less = can.possible.1 found.0 found.1 in
          let level : found.0.number.0 ≡ c.number.0 = ap (λ (x : Start). x.number.0) found.2 ∙ ap con_number same in
          absurd (omega arith));
      starts = λ d. (
        (λ h. (
            let found = start_of_some t can.stays_sound d h in
            elim (Contains-push_cases s.constraints c found.0 found.1) [
              | inl old ↦ inr (subst (λ x. Contains (starts (graph_of s)) x) found.2 (start_there s can.sound found.0 old))
              | inr is ↦ inl (sym found.2 ∙ ap constraint_start (sym is))
            ])),
        (λ h. elim h [
          | inl is ↦ subst (λ x. Contains (starts (graph_of t)) x) (sym is) (start_there t can.stays_sound c (Contains-push s.constraints c))
          | inr old ↦ (
              let found = start_of_some s can.sound d old in
              subst (λ x. Contains (starts (graph_of t)) x) found.2 (start_there t can.stays_sound found.0 (Contains-append_left s.constraints (c ∷ []) found.0 found.1)))
        ]),
      );
    }

-- the same the other way round
pub all_but_new : (s : Sketch) (c : Constraint) → CanMake (edit.Constraint c) s → HasAllBut c.number (graph_of (applied (edit.Constraint c) s)) (graph_of s)
all_but_new s c can d =
    let more = one_more s c can in (
      (λ h. ((more.starts d).1 (inr h), λ same. more.free d h same)),
      (λ h. elim ((more.starts d).0 h.0) [
        | inl is ↦ absurd (h.1 (ap (λ (x : Start). x.number) is))
        | inr old ↦ old
      ]),
    )

-- all constraints but the dropped one
pub all_but : (s : Sketch) (k : ConId) → CanMake (edit.Dropped k) s → HasAllBut k (graph_of s) (graph_of (applied (edit.Dropped k) s))
all_but s k can d =
    let t : Sketch = applied (edit.Dropped k) s in (
      (λ h. (
          let found = start_of_some t can.stays_sound d h in
          let was = filtered_from (λ (c : Constraint). not (c.number.0 == k.0)) s.constraints found.0 found.1 in
          let here : found.0.number ≡ d.number = ap (λ (x : Start). x.number) found.2 in
          (subst (λ x. Contains (starts (graph_of s)) x) found.2 (start_there s can.sound found.0 was.0), λ same. passes_differ found.0.number.0 k.0 was.1 (ap con_number (here ∙ same))))),
      (λ h. (
          let found = start_of_some s can.sound d h.0 in
          let here : found.0.number ≡ d.number = ap (λ (x : Start). x.number) found.2 in
          subst (λ x. Contains (starts (graph_of t)) x) found.2
          (start_there t can.stays_sound found.0
          (contains_filtered (λ (c : Constraint). not (c.number.0 == k.0)) s.constraints found.0 found.1 (other_passes found.0.number.0 k.0 (λ same. h.1 (sym here ∙ con_exact found.0.number k same))))))),
    )

pub one_more_dropped : (s : Sketch) (k : ConId) → CanMake (edit.Dropped k) s → (c : Constraint) → Contains s.constraints c → c.number ≡ k → HasOneMore (constraint_start c) (graph_of (applied (edit.Dropped k) s)) (graph_of s)
one_more_dropped s k can c c_in is_k =
    let less = all_but s k can in
    record {
      free = λ d d_in same. ((less d).0 d_in).1 (same ∙ is_k);
      starts = λ d. (
        (λ h. elim (con_settles d.number k) [
          | inl same ↦ inl (start_at (graph_of s) (rises s can.sound) d (constraint_start c) h (start_there s can.sound c c_in) (same ∙ sym is_k))
          | inr other ↦ inr ((less d).1 (h, other))
        ]),
        (λ h. elim h [
          | inl is ↦ subst (λ x. Contains (starts (graph_of s)) x) (sym is) (start_there s can.sound c c_in)
          | inr old ↦ ((less d).0 old).0
        ]),
      );
    }

-- what holds of each element that a constraint names holds of each with which one starts
pub at_names : (s : Sketch) → IsSoundSketch s → (P : Elem → Type 0) → ((c : Constraint) → Contains s.constraints c → (u : Elem) → Contains (named_by c.rule) u → P u) → (d : Start) → Contains (starts (graph_of s)) d → (u : Elem) → Contains d.elements u → P u
at_names s sound P holds d d_in u u_in =
    let found = start_of_some s sound d d_in in
    let among = subst (λ (x : Start). Contains x.elements u) (sym found.2) u_in in
    elim (union_cases elem_number (named_by found.0.rule) [] u among) [
      | inl named ↦ holds found.0 found.1 u named
      | inr none ↦ absurd (contains_none u none)
    ]

-- a new element is none that a constraint names
not_the_new : (s : Sketch) (e : Element) → IsSoundSketch s → ((x : Element) → Contains s.elements x → x.number.0 < e.number.0) → (c : Constraint) → Contains s.constraints c → (u : Elem) → Contains (named_by c.rule) u → u ≢ e.number
not_the_new s e sound above c c_in u named same =
    let there = named_in s c.rule (All-contains (λ (x : Constraint). IsSoundRule s x.rule) s.constraints c sound.rules_sound c_in) u named in
    let less = above there.0 there.1 in
    let level : there.0.number.0 ≡ e.number.0 = ap elem_number (there.2 ∙ same) in
    absurd (omega arith)

line_on : (s : Sketch) (e : Element) (u : Elem) → u ≢ e.number → IsLine (graph_of (applied (edit.Element e) s)) u → IsLine (graph_of s) u
line_on s e u other line =
    let found = mapped_from node_of (s.elements ++ e ∷ []) (record { elem = u; kind = Line }) line in
    elim (Contains-push_cases s.elements e found.0 found.1) [
      | inl old ↦ subst (λ n. Contains (graph_of s).nodes n) found.2 (contains_mapped node_of s.elements found.0 old)
      | inr is ↦ absurd (other (ap (λ (n : Node). n.elem) (sym found.2) ∙ ap (λ (x : Element). x.number) (sym is)))
    ]

line_still : (s : Sketch) (e : Element) (u : Elem) → IsLine (graph_of s) u → IsLine (graph_of (applied (edit.Element e) s)) u
line_still s e u line =
    let found = mapped_from node_of s.elements (record { elem = u; kind = Line }) line in
    subst (λ n. Contains (map node_of (s.elements ++ e ∷ [])) n) found.2 (contains_mapped node_of (s.elements ++ e ∷ []) found.0 (Contains-append_left s.elements (e ∷ []) found.0 found.1))

line_kept : (s : Sketch) (x u : Elem) → u ≢ x → IsLine (graph_of s) u → IsLine (graph_of (applied (edit.Erased x) s)) u
line_kept s x u other line =
    let found = mapped_from node_of s.elements (record { elem = u; kind = Line }) line in
    let number : found.0.number ≡ u = ap (λ (n : Node). n.elem) found.2 in
    subst (λ n. Contains (map node_of (applied (edit.Erased x) s).elements) n) found.2
    (contains_mapped node_of (applied (edit.Erased x) s).elements found.0
    (contains_filtered (λ (e : Element). not (e.number.0 == x.0)) s.elements found.0 found.1
    (other_passes found.0.number.0 x.0 (λ same. other (sym number ∙ elem_exact found.0.number x same)))))

line_was : (s : Sketch) (x u : Elem) → IsLine (graph_of (applied (edit.Erased x) s)) u → IsLine (graph_of s) u
line_was s x u line =
    let found = mapped_from node_of (applied (edit.Erased x) s).elements (record { elem = u; kind = Line }) line in
    subst (λ n. Contains (graph_of s).nodes n) found.2
    (contains_mapped node_of s.elements found.0 (filtered_from (λ (e : Element). not (e.number.0 == x.0)) s.elements found.0 found.1).0)

-- no element of a constraint becomes a line, by an edit or its undoing
pub kinds_on : (e : Edit) (s : Sketch) → CanMake e s → KeepsKinds (graph_of s) (graph_of (applied e s))
kinds_on (edit.Element e) s can =
    at_names s can.sound (λ u. IsLine (graph_of (applied (edit.Element e) s)) u → IsLine (graph_of s) u)
    (λ c c_in u named. line_on s e u (not_the_new s e can.sound can.possible c c_in u named))
kinds_on (edit.Constraint c) s can = λ d d_in u u_in h. h
kinds_on (edit.Dropped k) s can = λ d d_in u u_in h. h
kinds_on (edit.Length k len) s can = λ d d_in u u_in h. h
kinds_on (edit.Turned k ratio) s can = λ d d_in u u_in h. h
kinds_on (edit.Erased x) s can = λ d d_in u u_in. line_was s x u

pub kinds_back : (e : Edit) (s : Sketch) → CanMake e s → KeepsKinds (graph_of (applied e s)) (graph_of s)
kinds_back (edit.Element e) s can = λ d d_in u u_in. line_still s e u
kinds_back (edit.Constraint c) s can = λ d d_in u u_in h. h
kinds_back (edit.Dropped k) s can = λ d d_in u u_in h. h
kinds_back (edit.Length k len) s can = λ d d_in u u_in h. h
kinds_back (edit.Turned k ratio) s can = λ d d_in u u_in h. h
kinds_back (edit.Erased x) s can =
    at_names (applied (edit.Erased x) s) can.stays_sound (λ u. IsLine (graph_of s) u → IsLine (graph_of (applied (edit.Erased x) s)) u)
    (λ c c_in u named. line_kept s x u (λ same. can.possible.1 c c_in (subst (λ y. Contains (named_by c.rule) y) same named)))
