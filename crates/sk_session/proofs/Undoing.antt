-- What undoing an edit finds in the sketch that it led to, and what it leaves.
use Rattle.std.proofs.Common.{◌≡◌, ◌≢◌, ◌==◌, List, [], ◌∷◌, ◌++◌, refl, ap, sym, subst, ◌∙◌}
use Rattle.std.specs.Prelude.{Contains, map, not}
use Rattle.std.proofs.lemmas.List.Elements.{All-contains}
use Rattle.sk_base.specs.declared.ConId.{ConId}
use Rattle.sk_base.specs.declared.Um.{Um}
use Rattle.sk_base.specs.declared.Ratio.{Ratio}
use Rattle.sk_base.specs.declared.Rule.{Rule}
use Rattle.sk_base.specs.declared.Element.{Element}
use Rattle.sk_base.specs.declared.Constraint.{Constraint}
use Rattle.sk_base.specs.declared.Sketch.{Sketch}
use Rattle.sk_base.specs.Rising.{IsRising}
use Rattle.sk_base.specs.SoundSketch.{IsSoundSketch, IsSoundRule}
use Rattle.sk_base.proofs.Members.{contains_mapped, filtered_from}
use Rattle.sk_family.specs.Clusters.{Clusters}
use Rattle.sk_family.specs.Starts.{HasStart}
use Rattle.sk_graph.specs.SketchGraph.{graph_of}
use Rattle.sk_edits.specs.declared.Edit.TheVariants as edit
use Rattle.sk_session.specs.declared.done.Done.{Done}
use Rattle.sk_session.specs.declared.done.Done.TheVariants as past
use Rattle.sk_edits.specs.Changes.{HasItem, without, with_item}
use Rattle.sk_edits.specs.Edits.{applied, changed, with_length, with_ratio, element_number, constraint_number}
use Rattle.sk_session.specs.Past.{LeadsTo}
use Rattle.sk_plan.specs.ConstraintStarts.{constraint_start}
use Rattle.sk_session.specs.Following.{DissolvesOwner, FollowsBack}
use Rattle.sk_edits.proofs.Places.{put_back, last_taken}
use Rattle.sk_base.proofs.Numbers.{passes_differ}
use Rattle.sk_edits.proofs.Setting.{set_back}
use Rattle.sk_graph.proofs.Drawing.{rule_alike}
use Rattle.sk_edits.proofs.Drawing.{drawn_same}
use Rattle.sk_session.proofs.Graphs.{all_but_new}
use Rattle.sk_session.proofs.Following.{dissolved_in}

-- a sketch by its two lists
pub by_lists : (s t : Sketch) → s.elements ≡ t.elements → s.constraints ≡ t.constraints → s ≡ t
by_lists s t elements constraints =
    let first : s ≡ record { elements = t.elements; constraints = s.constraints } = ap (λ (es : List Element). record { elements = es; constraints = s.constraints }) elements in
    let second : record { elements = t.elements; constraints = s.constraints } ≡ t = ap (λ (cs : List Constraint). record { elements = t.elements; constraints = cs }) constraints in
    first ∙ second

pub retold : (d e : Done) (b a : Sketch) → d ≡ e → LeadsTo d b a → LeadsTo e b a
retold d e b a is led = subst (λ x. LeadsTo x b a) is led

module _ (b a : Sketch) where
  pub element_back : (x : Element) → LeadsTo (past.Element x) b a → (es : List Element) → es ≡ without element_number x.number.0 a.elements → record { elements = es; constraints = a.constraints } ≡ b
  element_back x led es es_is =
      let elements : a.elements ≡ b.elements ++ x ∷ [] = ap (λ (s : Sketch). s.elements) led.is in
      let constraints : a.constraints ≡ b.constraints = ap (λ (s : Sketch). s.constraints) led.is in
      by_lists (record { elements = es; constraints = a.constraints }) b
      (es_is ∙ ap (λ ys. without element_number x.number.0 ys) elements ∙ last_taken element_number x b.elements led.can.sound.elements_rise led.can.possible)
      constraints

  pub constraint_back : (c : Constraint) → LeadsTo (past.Constraint c) b a → applied (edit.Dropped c.number) a ≡ b
  constraint_back c led =
      let elements : a.elements ≡ b.elements = ap (λ (s : Sketch). s.elements) led.is in
      let constraints : a.constraints ≡ b.constraints ++ c ∷ [] = ap (λ (s : Sketch). s.constraints) led.is in
      by_lists (applied (edit.Dropped c.number) a) b elements
      (ap (λ ys. without constraint_number c.number.0 ys) constraints ∙ last_taken constraint_number c b.constraints led.can.sound.constraints_rise led.can.possible.1)

  pub owner_back : (c : Constraint) → LeadsTo (past.Constraint c) b a → (old new : Clusters) → DissolvesOwner (graph_of a) c.number old new → DissolvesOwner (graph_of b) c.number old new
  owner_back c led old new dissolves =
      let (n, (d, owns)) = subst (λ (s : Sketch). DissolvesOwner (graph_of s) c.number old new) led.is dissolves in
      (n, (dissolved_in (graph_of (applied (edit.Constraint c) b)) (graph_of b) n c.number old new (all_but_new b c led.can) d, owns))

  pub rule_back : (c : Constraint) → LeadsTo (past.Dropped c) b a → IsSoundRule a c.rule
  rule_back c led =
      let t : Sketch = applied (edit.Dropped c.number) b in
      let was = All-contains (λ (x : Constraint). IsSoundRule b x.rule) b.constraints c led.can.sound.rules_sound led.stood in
      subst (λ (s : Sketch). IsSoundRule s c.rule) (sym led.is) (rule_alike b t c.rule (drawn_same b t.constraints c.rule) was)

  pub none_dropped : (c : Constraint) → LeadsTo (past.Dropped c) b a → (x : Constraint) → Contains a.constraints x → x.number.0 ≢ c.number.0
  none_dropped c led x x_in same =
      let was = filtered_from (λ (y : Constraint). not (y.number.0 == c.number.0)) b.constraints x (subst (λ (s : Sketch). Contains s.constraints x) led.is x_in) in
      passes_differ x.number.0 c.number.0 was.1 same

  pub dropped_back : (c : Constraint) → LeadsTo (past.Dropped c) b a → (t : Sketch) → t.elements ≡ a.elements → IsRising constraint_number t.constraints → HasItem c a.constraints t.constraints → t ≡ b
  dropped_back c led t elements rise put =
      let taken : a.constraints ≡ without constraint_number c.number.0 b.constraints = ap (λ (s : Sketch). s.constraints) led.is in
      by_lists t b (elements ∙ ap (λ (s : Sketch). s.elements) led.is)
      (put_back constraint_number c b.constraints t.constraints led.can.sound.constraints_rise rise led.stood (subst (λ ys. HasItem c ys t.constraints) taken put))

  pub start_back : (c : Constraint) → LeadsTo (past.Dropped c) b a → (old new : Clusters) → HasStart (constraint_start c) old new → FollowsBack (edit.Dropped c.number) b old new
  start_back c led old new has =
      (c, led.stood, refl, has)

  -- the constraint with a changed rule is there
  changed_in : (k : ConId) (change : Rule → Rule) (c : Constraint) → Contains b.constraints c → a.constraints ≡ map (changed k change) b.constraints → (x : Constraint) × Contains a.constraints x × (x.number.0 ≡ c.number.0)
  changed_in k change c c_in is =
      (changed k change c, subst (λ ys. Contains ys (changed k change c)) (sym is) (contains_mapped (changed k change) b.constraints c c_in), refl)

  changed_back : (k : ConId) (change : Rule → Rule) (c : Constraint) → IsSoundSketch b → Contains b.constraints c → c.number ≡ k → a ≡ record { elements = b.elements; constraints = map (changed k change) b.constraints }
      → (cs : List Constraint) → cs ≡ with_item constraint_number c a.constraints → record { elements = a.elements; constraints = cs } ≡ b
  changed_back k change c sound c_in is a_is cs cs_is =
      by_lists (record { elements = a.elements; constraints = cs }) b (ap (λ (s : Sketch). s.elements) a_is)
      (cs_is ∙ ap (λ (s : Sketch). with_item constraint_number c s.constraints) a_is ∙ set_back k change c b.constraints sound.constraints_rise c_in is)

  pub length_in : (len : Um) (c : Constraint) → LeadsTo (past.Length len c) b a → (x : Constraint) × Contains a.constraints x × (x.number.0 ≡ c.number.0)
  length_in len c led = changed_in c.number (with_length len) c led.stood (ap (λ (s : Sketch). s.constraints) led.is)

  pub ratio_in : (ratio : Ratio) (c : Constraint) → LeadsTo (past.Turned ratio c) b a → (x : Constraint) × Contains a.constraints x × (x.number.0 ≡ c.number.0)
  ratio_in ratio c led = changed_in c.number (with_ratio ratio) c led.stood (ap (λ (s : Sketch). s.constraints) led.is)

  pub length_back : (len : Um) (c : Constraint) → LeadsTo (past.Length len c) b a → (cs : List Constraint) → cs ≡ with_item constraint_number c a.constraints → record { elements = a.elements; constraints = cs } ≡ b
  length_back len c led = changed_back c.number (with_length len) c led.can.sound led.stood refl led.is

  pub ratio_back : (ratio : Ratio) (c : Constraint) → LeadsTo (past.Turned ratio c) b a → (cs : List Constraint) → cs ≡ with_item constraint_number c a.constraints → record { elements = a.elements; constraints = cs } ≡ b
  ratio_back ratio c led = changed_back c.number (with_ratio ratio) c led.can.sound led.stood refl led.is

  pub none_erased : (e : Element) → LeadsTo (past.Erased e) b a → (y : Element) → Contains a.elements y → y.number.0 ≢ e.number.0
  none_erased e led y y_in same =
      let was = filtered_from (λ (z : Element). not (z.number.0 == e.number.0)) b.elements y (subst (λ (s : Sketch). Contains s.elements y) led.is y_in) in
      passes_differ y.number.0 e.number.0 was.1 same

  pub erased_back : (e : Element) → LeadsTo (past.Erased e) b a → (es : List Element) → IsRising element_number es → HasItem e a.elements es → record { elements = es; constraints = a.constraints } ≡ b
  erased_back e led es rise put =
      let taken : a.elements ≡ without element_number e.number.0 b.elements = ap (λ (s : Sketch). s.elements) led.is in
      by_lists (record { elements = es; constraints = a.constraints }) b
      (put_back element_number e b.elements es led.can.sound.elements_rise rise led.stood (subst (λ ys. HasItem e ys es) taken put))
      (ap (λ (s : Sketch). s.constraints) led.is)
