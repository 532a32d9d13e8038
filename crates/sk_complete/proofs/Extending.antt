-- Sketches with more constraints.
use Rattle.std.proofs.Common.{◌≡◌, ℕ, ◌+◌, ◌*◌, ◌-◌, ◌*◌, ◌-◌, ◌<◌, ◌==◌, List, [], ◌∷◌, ◌++◌, length, refl, ap, sym, subst, ◌∙◌, arith}
use Rattle.std.specs.Prelude.{All, find}
use Rattle.std.proofs.lemmas.List.{append-nil, append_assoc}
use Rattle.std.proofs.lemmas.List.Elements.{All-nil, All-head, All-tail, All-push}
use Rattle.std.proofs.lemmas.List.Sums.{sum_by-cons, sum_by-append}
use Rattle.sk_base.specs.declared.Constraint.{Constraint}
use Rattle.sk_base.specs.declared.Element.{Element}
use Rattle.sk_base.specs.declared.Rule.{Rule}
use Rattle.sk_base.specs.declared.Rule.TheVariants as rule
use Rattle.sk_base.specs.declared.Sketch.{Sketch}
use Rattle.sk_base.specs.SoundSketch.{IsSoundSketch}
use Rattle.sk_graph.specs.SketchGraph.{graph_of}
use Rattle.sk_graph.proofs.Drawing.{rule_alike}
use Rattle.sk_entry.proofs.Growing.{IsNewConstraint, with_constraint_sound}
use Rattle.sk_plan.specs.Judged.{IsWell}
use Rattle.sk_complete.specs.Weights.{rule_weight, constraint_weight, weight_together}
use Rattle.sk_drawn.specs.DrawnValues.{IsDrawnValue}
use Rattle.sk_complete.specs.Begun.{Extends, IsDrawnConstraint, last_number}
use Rattle.sk_complete.specs.Completions.{Completes}
use Rattle.sk_complete.proofs.CountingOn.{last_along, numbered_more}
use Rattle.sk_complete.proofs.Weighing.{well_weighs}

pub extends_itself : (s : Sketch) → IsSoundSketch s → Extends s s
extends_itself s sound = record {
  added = [];
  more = record { elements = refl; constraints = sym (append-nil s.constraints) };
  numbered = tt;
  drawn = All-nil (IsDrawnConstraint s);
  sound = sound;
}

-- each drawn value weighs 1
drawn_weighs : (s : Sketch) (r : Rule) → IsDrawnValue s r → rule_weight r ≡ 1
drawn_weighs s (rule.Distance u v len) drawn = refl
drawn_weighs s (rule.On u v) drawn = refl
drawn_weighs s (rule.Tangent u v) drawn = refl
drawn_weighs s (rule.Outside u v) drawn = refl
drawn_weighs s (rule.Inside u v) drawn = refl
drawn_weighs s (rule.Angle l m ratio) drawn = refl
drawn_weighs s (rule.Block pins) drawn = absurd drawn

all_weigh : (s : Sketch) (cs : List Constraint) → All (IsDrawnConstraint s) cs → weight_together cs ≡ length cs
all_weigh s [] drawn = refl
all_weigh s (c ∷ cs) drawn =
    let more = sum_by-cons constraint_weight c cs in
    let one = drawn_weighs s c.rule (All-head (IsDrawnConstraint s) c cs drawn).says.drawn in
    let rest = all_weigh s cs (All-tail (IsDrawnConstraint s) c cs drawn) in
    omega arith

pub some_elements : (s t : Sketch) → Extends s t → 0 < length s.elements → 0 < length t.elements
some_elements s t extends some = let level = ap (λ es. length es) extends.more.elements in omega arith

-- what is well adds just what is missing
pub completes_well : (s t : Sketch) → 0 < length s.elements → Extends s t → IsWell (graph_of t) → Completes s t
completes_well s t some extends well = record {
  added = extends.added;
  more = extends.more;
  numbered = extends.numbered;
  drawn = extends.drawn;
  sound = extends.sound;
  well = well;
  count =
      let some_there = some_elements s t extends some in
      let whole = well_weighs t extends.sound some_there well in
      let both = ap weight_together extends.more.constraints ∙ sum_by-append constraint_weight s.constraints extends.added in
      let level = ap (λ (es : List Element). 2 * length es - 3) extends.more.elements in
      let ones = all_weigh s extends.added extends.drawn in
      omega arith;
}

pub completes_itself : (s t : Sketch) → t ≡ s → IsSoundSketch s → 0 < length s.elements → IsWell (graph_of s) → Completes s t
completes_itself s t same sound some well = subst (λ (z : Sketch). Completes s z) (sym same) (completes_well s s some (extends_itself s sound) well)

pub extends_same : (s t : Sketch) → t ≡ s → IsSoundSketch s → Extends s t
extends_same s t same sound = subst (λ (z : Sketch). Extends s z) (sym same) (extends_itself s sound)

-- and what is drawn more is said behind it
pub extends_more : (s t : Sketch) (c : Constraint) (cs : List Constraint) → Extends s t
    → IsDrawnConstraint s c → c.number.0 ≡ last_number t.constraints + 1 → All (λ (x : Constraint). x.number.0 < c.number.0) t.constraints → length t.constraints < 4000
    → cs ≡ t.constraints ++ c ∷ [] → Extends s (record { elements = t.elements; constraints = cs })
extends_more s t c cs extends drawn next above room cs_is =
    let more = extends.more in
    let added = extends.added in
    let is_new : IsNewConstraint t c = record {
      above = above;
      room = room;
      rule = rule_alike s t c.rule (λ u named. ap (λ (es : List Element). find (λ (x : Element). x.number.0 == u.0) es) more.elements) drawn.says.sound;
    } in
    subst (λ (ks : List Constraint). Extends s (record { elements = t.elements; constraints = ks })) (sym cs_is) (record {
      added = added ++ c ∷ [];
      more = record { elements = more.elements; constraints = ap (λ ks. ks ++ c ∷ []) more.constraints ∙ append_assoc s.constraints added (c ∷ []) };
      numbered = numbered_more (last_number s.constraints) added c extends.numbered (next ∙ ap (λ (xs : List Constraint). last_number xs + 1) more.constraints ∙ ap (λ (n : ℕ). n + 1) (last_along 0 s.constraints added));
      drawn = All-push (IsDrawnConstraint s) added c extends.drawn drawn;
      sound = with_constraint_sound t c extends.sound is_new;
    })
