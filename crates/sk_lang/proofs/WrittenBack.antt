-- The canonical texts of a sound sketch are read as that sketch, numbered anew.
use Rattle.std.proofs.Common.{◌≡◌, ◌≢◌, ℕ, ◌+◌, ◌*◌, ◌<◌, ◌≤◌, Bool, true, false, cond, List, [], ◌∷◌, ◌++◌, length, map, None, refl, sym, ap, subst, ◌∙◌, arith, inl, inr, codes, IsTrue, append_assoc, append-nil, length-append}
use Rattle.std.specs.Prelude.{Contains, AllPairs, All}
use Rattle.std.specs.List.{list_all, list_any, AllByRecursion}
use Rattle.std.proofs.lemmas.List.{length-map}
use Rattle.std.proofs.lemmas.List.Elements.{All-nil, All-cons, All-head, All-tail, Contains-append_right}
use Rattle.sk_base.specs.declared.Element.{Element}
use Rattle.sk_base.specs.declared.ConId.{ConId}
use Rattle.sk_base.specs.declared.Rule.{Rule}
use Rattle.sk_base.specs.declared.Rule.TheVariants as rule
use Rattle.sk_base.specs.declared.Constraint.{Constraint}
use Rattle.sk_base.specs.declared.Sketch.{Sketch}
use Rattle.sk_base.specs.Labels.{is_name}
use Rattle.sk_base.specs.SoundSketch.{IsSoundSketch, IsSoundShape, IsSoundRule}
use Rattle.sk_base.proofs.Members.{contains_none, contains_head, contains_cases}
use Rattle.sk_base.proofs.Pairs.{pairs_head, pairs_tail}
use Rattle.sk_lines.specs.declared.Version.{Version}
use Rattle.sk_lines.specs.declared.Version.TheVariants.{One, Two}
use Rattle.sk_lang.specs.declared.progress.Progress.{Progress}
use Rattle.sk_lang.specs.declared.progress.Progress.TheVariants.{Before, Within, After}
use Rattle.sk_lang.specs.Blocks.{is_block, has_block}
use Rattle.sk_lines.specs.Lines.{lines_in, ended_lines}
use Rattle.sk_lang.specs.Codes.{code_of}
use Rattle.sk_lines.specs.EndLine.{is_none_left}
use Rattle.sk_lang.specs.Progress.{progress_after}
use Rattle.sk_lang.specs.Reading.{Reads, HaveNoCode, progress_along}
use Rattle.sk_entry.specs.CanonicalLines.{element_line, constraint_line, rule_words}
use Rattle.sk_lang.specs.Canonical.{header, text_under, canonical, canonical_2}
use Rattle.sk_lang.specs.Renumbered.{elements_from, renumbered}
use Rattle.sk_lines.proofs.ReadBack.{IsLine, lines_in-ended}
use Rattle.sk_entry.proofs.Declaring.{first_of_two}
use Rattle.sk_lines.proofs.SolidLines.{is_plain, plain_text}
use Rattle.sk_lang.proofs.Again.{elements_so_far, element_again, shape_written, shape_short, IsReadAgain, length_from}
use Rattle.sk_lang.proofs.RulesAgain.{rules_so_far, IsRuleAgain, distance_again, on_again, tangent_again, outside_again, inside_again, angle_again}
use Rattle.sk_lang.proofs.BlockAgain.{block_again}

-- the version has a line for the rule
abbrev pub MaySay : Version → Rule → Type 0
MaySay One asked = is_block asked ≡ false
MaySay Two asked = Unit {0}

pub rule_again : (v : Version) (s : Sketch) (done : List Constraint) (number : ConId) (asked : Rule) → MaySay v asked → IsSoundSketch s → IsSoundRule s asked → length done < 4000 → IsRuleAgain v s done number asked (rule_words s asked)
rule_again v s done number (rule.Distance u w len) may = distance_again v s done number u w len
rule_again v s done number (rule.On u w) may = on_again v s done number u w
rule_again v s done number (rule.Tangent u w) may = tangent_again v s done number u w
rule_again v s done number (rule.Outside u w) may = outside_again v s done number u w
rule_again v s done number (rule.Inside u w) may = inside_again v s done number u w
rule_again v s done number (rule.Angle l m ratio) may = angle_again v s done number l m ratio
rule_again One s done number (rule.Block pins) may = cc
rule_again Two s done number (rule.Block pins) may = block_again s done number pins

-- the version has a line for all that the sketch has
abbrev SaysAll : Version → Sketch → Type 0
SaysAll v s = All (λ (x : Constraint). MaySay v x.rule) s.constraints

-- no code along these lines, which lead there
record Leads (from to : Progress) (lines : List (List ℕ)) : Type 0 where
  clean : HaveNoCode from lines
  reached : progress_along from lines ≡ to

leads_first : (from mid to : Progress) (line : List ℕ) (lines : List (List ℕ)) → code_of from line ≡ None → progress_after from line ≡ mid → Leads mid to lines → Leads from to (line ∷ lines)
leads_first from mid to line lines is next rest =
    let first : progress_after from line ≡ mid = next in
    record { clean = (is, subst (λ (p : Progress). HaveNoCode p lines) (sym first) rest.clean); reached = ap (λ (p : Progress). progress_along p lines) first ∙ rest.reached }

before_differs : (done todo : List Element) (e x : Element) → AllPairs (λ (a b : Element). a.label ≢ b.label) (done ++ e ∷ todo) → Contains done x → x.label ≢ e.label
before_differs [] todo e x differ among = absurd (contains_none x among)
before_differs (d ∷ done) todo e x differ among =
    elim (contains_cases d done x among) [
      | inl here ↦ subst (λ (y : Element). y.label ≢ e.label) here (pairs_head (λ (a b : Element). a.label ≢ b.label) d (done ++ e ∷ todo) differ e (Contains-append_right done (e ∷ todo) e (contains_head e todo)))
      | inr later ↦ before_differs done todo e x (pairs_tail (λ (a b : Element). a.label ≢ b.label) d (done ++ e ∷ todo) differ) later
    ]

again_clean : (v : Version) (done : List Element) (e : Element) → IsTrue (is_name e.label) → IsSoundShape e.shape → ((x : Element) → Contains done x → x.label ≢ e.label) → length done < 2000
    → (code_of (Within v (elements_so_far done)) (element_line e) ≡ None) × (progress_after (Within v (elements_so_far done)) (element_line e) ≡ Within v (elements_so_far (done ++ e ∷ [])))
unfolding IsReadAgain
again_clean v done e name sound other few = element_again v done e.number e.label e.shape name sound other few

elements_along : (v : Version) (todo done : List Element) (to : Progress) (more : List (List ℕ)) → All (λ (x : Element). IsTrue (is_name x.label)) todo → All (λ (x : Element). IsSoundShape x.shape) todo → AllPairs (λ (a b : Element). a.label ≢ b.label) (done ++ todo) → length done + length todo ≤ 2000
    → Leads (Within v (elements_so_far (done ++ todo))) to more → Leads (Within v (elements_so_far done)) to (map element_line todo ++ more)
elements_along v [] done to more names shapes differ few rest = subst (λ (es : List Element). Leads (Within v (elements_so_far es)) to more) (append-nil done) rest
elements_along v (e ∷ todo) done to more names shapes differ few rest =
    let again = again_clean v done e (All-head (λ (x : Element). IsTrue (is_name x.label)) e todo names) (All-head (λ (x : Element). IsSoundShape x.shape) e todo shapes) (λ x among. before_differs done todo e x differ among) (omega arith) in
    let step : done ++ e ∷ todo ≡ (done ++ e ∷ []) ++ todo = sym (append_assoc done (e ∷ []) todo) in
    let count = length-append done (e ∷ []) in
    leads_first (Within v (elements_so_far done)) (Within v (elements_so_far (done ++ e ∷ []))) to (element_line e) (map element_line todo ++ more) again.0 again.1
    (elements_along v todo (done ++ e ∷ []) to more (All-tail (λ (x : Element). IsTrue (is_name x.label)) e todo names) (All-tail (λ (x : Element). IsSoundShape x.shape) e todo shapes)
    (subst (λ (es : List Element). AllPairs (λ (a b : Element). a.label ≢ b.label) es) step differ) (omega arith) (subst (λ (es : List Element). Leads (Within v (elements_so_far es)) to more) step rest))

rules_along : (v : Version) (s : Sketch) (todo done : List Constraint) (to : Progress) (more : List (List ℕ)) → IsSoundSketch s → All (λ (x : Constraint). IsSoundRule s x.rule) todo → All (λ (x : Constraint). MaySay v x.rule) todo → length done + length todo ≤ 4000
    → Leads (Within v (rules_so_far s (done ++ todo))) to more → Leads (Within v (rules_so_far s done)) to (map (constraint_line s) todo ++ more)
rules_along v s [] done to more sound rules may few rest = subst (λ (cs : List Constraint). Leads (Within v (rules_so_far s cs)) to more) (append-nil done) rest
rules_along v s (c ∷ todo) done to more sound rules may few rest =
    let again = rule_again v s done c.number c.rule (All-head (λ (x : Constraint). MaySay v x.rule) c todo may) sound (All-head (λ (x : Constraint). IsSoundRule s x.rule) c todo rules) (omega arith) in
    let step : done ++ c ∷ todo ≡ (done ++ c ∷ []) ++ todo = sym (append_assoc done (c ∷ []) todo) in
    let count = length-append done (c ∷ []) in
    leads_first (Within v (rules_so_far s done)) (Within v (rules_so_far s (done ++ c ∷ []))) to (constraint_line s c) (map (constraint_line s) todo ++ more) again.1 again.2
    (rules_along v s todo (done ++ c ∷ []) to more sound (All-tail (λ (x : Constraint). IsSoundRule s x.rule) c todo rules) (All-tail (λ (x : Constraint). MaySay v x.rule) c todo may) (omega arith) (subst (λ (cs : List Constraint). Leads (Within v (rules_so_far s cs)) to more) step rest))

some_left : (es : List Element) → 0 < length es → is_none_left es ≡ false
some_left [] some = absurd (omega arith)
some_left (e ∷ es) some = refl

ends_here : (v : Version) (t : Sketch) → is_none_left t.elements ≡ false → Leads (Within v t) (After v t) (codes "end" ∷ [])
ends_here One t some = record { clean = (rw some refl, tt); reached = refl }
ends_here Two t some = record { clean = (rw some refl, tt); reached = refl }

header_first : (v : Version) → (code_of Before (header v) ≡ None) × (progress_after Before (header v) ≡ Within v (elements_so_far []))
header_first One = (refl, refl)
header_first Two = (refl, refl)

-- the lines of the text under the header of a version
abbrev lines_of : Version → Sketch → List (List ℕ)
lines_of v s = header v ∷ map element_line s.elements ++ map (constraint_line s) s.constraints ++ codes "end" ∷ []

reads_along : (v : Version) (s : Sketch) → IsSoundSketch s → SaysAll v s → 0 < length s.elements → Leads Before (After v (renumbered s)) (lines_of v s)
reads_along v s sound may some =
    let count = length_from 1 s.elements in
    let to = After v (renumbered s) in
    let last = ends_here v (renumbered s) (some_left (elements_from 1 s.elements) (omega arith)) in
    let rules = rules_along v s s.constraints [] to (codes "end" ∷ []) sound sound.rules_sound may (let few = sound.few_constraints in omega arith) last in
    let elements = elements_along v s.elements [] to (map (constraint_line s) s.constraints ++ codes "end" ∷ []) sound.labels_are_names sound.shapes_sound sound.labels_differ (let few = sound.few_elements in omega arith) rules in
    let split : map element_line s.elements ++ map (constraint_line s) s.constraints ++ codes "end" ∷ [] ≡ map element_line s.elements ++ (map (constraint_line s) s.constraints ++ codes "end" ∷ []) = append_assoc (map element_line s.elements) (map (constraint_line s) s.constraints) (codes "end" ∷ []) in
    leads_first Before (Within v (elements_so_far [])) to (header v) (map element_line s.elements ++ map (constraint_line s) s.constraints ++ codes "end" ∷ []) (header_first v).0 (header_first v).1
    (subst (λ (ls : List (List ℕ)). Leads (Within v (elements_so_far [])) to ls) (sym split) elements)

-- lines that are short, and one each
record IsShortLine (line : List ℕ) : Type 0 where
  is_line : IsLine line
  few : length line ≤ 200

short_append : (xs ys : List (List ℕ)) → AllByRecursion IsShortLine xs → AllByRecursion IsShortLine ys → AllByRecursion IsShortLine (xs ++ ys)
short_append [] ys p q = q
short_append (x ∷ xs) ys p q = (p.0, short_append xs ys p.1 q)

short_elements : (es : List Element) → All (λ (x : Element). IsTrue (is_name x.label)) es → All (λ (x : Element). IsSoundShape x.shape) es → AllByRecursion IsShortLine (map element_line es)
short_elements [] names shapes = tt
short_elements (e ∷ es) names shapes =
    let w = shape_written e.label e.shape (All-head (λ (x : Element). IsTrue (is_name x.label)) e es names) (All-head (λ (x : Element). IsSoundShape x.shape) e es shapes) in
    (record { is_line = w.is_line; few = w.few }, short_elements es (All-tail (λ (x : Element). IsTrue (is_name x.label)) e es names) (All-tail (λ (x : Element). IsSoundShape x.shape) e es shapes))

short_rules : (v : Version) (s : Sketch) (cs : List Constraint) → IsSoundSketch s → All (λ (x : Constraint). IsSoundRule s x.rule) cs → All (λ (x : Constraint). MaySay v x.rule) cs → AllByRecursion IsShortLine (map (constraint_line s) cs)
short_rules v s [] sound rules may = tt
short_rules v s (c ∷ cs) sound rules may =
    let again = rule_again v s [] c.number c.rule (All-head (λ (x : Constraint). MaySay v x.rule) c cs may) sound (All-head (λ (x : Constraint). IsSoundRule s x.rule) c cs rules) (omega arith) in
    (record { is_line = again.0.is_line; few = again.0.few }, short_rules v s cs sound (All-tail (λ (x : Constraint). IsSoundRule s x.rule) c cs rules) (All-tail (λ (x : Constraint). MaySay v x.rule) c cs may))

short_text : (bytes : List ℕ) → list_all is_plain bytes ≡ true → length bytes ≤ 200 → IsShortLine bytes
short_text bytes plain few = record { is_line = plain_text bytes plain; few = few }

short_header : (v : Version) → IsShortLine (header v)
short_header One = short_text (codes "sketch 1") refl (omega arith)
short_header Two = short_text (codes "sketch 2") refl (omega arith)

short_lines : (v : Version) (s : Sketch) → IsSoundSketch s → SaysAll v s → AllByRecursion IsShortLine (lines_of v s)
short_lines v s sound may = (
  short_header v,
  short_append (map element_line s.elements ++ map (constraint_line s) s.constraints) (codes "end" ∷ [])
      (short_append (map element_line s.elements) (map (constraint_line s) s.constraints) (short_elements s.elements sound.labels_are_names sound.shapes_sound) (short_rules v s s.constraints sound sound.rules_sound may))
      (short_text (codes "end") refl (omega arith), tt),
)

are_lines : (lines : List (List ℕ)) → AllByRecursion IsShortLine lines → AllByRecursion IsLine lines
are_lines [] all = tt
are_lines (line ∷ lines) all = (all.0.is_line, are_lines lines all.1)

ended_append : (xs ys : List (List ℕ)) → length (ended_lines (xs ++ ys)) ≡ length (ended_lines xs) + length (ended_lines ys)
ended_append [] ys = omega arith
ended_append (x ∷ xs) ys =
    let whole = length-append (x ++ 10 ∷ []) (ended_lines (xs ++ ys)) in
    let front = length-append (x ++ 10 ∷ []) (ended_lines xs) in
    let rest = ended_append xs ys in omega (arith, whole, front, rest)

ended_length : (lines : List (List ℕ)) → AllByRecursion IsShortLine lines → length (ended_lines lines) ≤ 201 * length lines
ended_length [] all = omega arith
ended_length (line ∷ lines) all =
    let few = all.0.few in
    let here = length-append line (10 ∷ []) in
    let parts = length-append (line ++ 10 ∷ []) (ended_lines lines) in
    let rest = ended_length lines all.1 in omega arith

-- elements have shorter lines than constraints
ended_elements : (es : List Element) → All (λ (x : Element). IsTrue (is_name x.label)) es → All (λ (x : Element). IsSoundShape x.shape) es → length (ended_lines (map element_line es)) ≤ 103 * length es
ended_elements [] names shapes = omega arith
ended_elements (e ∷ es) names shapes =
    let few = shape_short e.label e.shape (All-head (λ (x : Element). IsTrue (is_name x.label)) e es names) (All-head (λ (x : Element). IsSoundShape x.shape) e es shapes) in
    let here = length-append (element_line e) (10 ∷ []) in
    let parts = length-append (element_line e ++ 10 ∷ []) (ended_lines (map element_line es)) in
    let rest = ended_elements es (All-tail (λ (x : Element). IsTrue (is_name x.label)) e es names) (All-tail (λ (x : Element). IsSoundShape x.shape) e es shapes) in omega arith

header_length : (v : Version) → length (header v) ≡ 8
header_length One = refl
header_length Two = refl

text_fits : (v : Version) (s : Sketch) → IsSoundSketch s → SaysAll v s → length (text_under v s) ≤ 1048576
text_fits v s sound may =
    let es = map element_line s.elements in
    let cs = map (constraint_line s) s.constraints in
    let last = codes "end" ∷ [] in
    let whole = length-append (header v ++ 10 ∷ []) (ended_lines (es ++ cs ++ last)) in
    let first = length-append (header v) (10 ∷ []) in
    let first_length = header_length v in
    let outer = ended_append (es ++ cs) last in
    let inner = ended_append es cs in
    let elements = ended_elements s.elements sound.labels_are_names sound.shapes_sound in
    let constraints = ended_length cs (short_rules v s s.constraints sound sound.rules_sound may) in
    let count = length-map s.constraints (constraint_line s) in
    let few = sound.few_elements in
    let few_constraints = sound.few_constraints in omega (arith, whole, first, first_length, outer, inner, elements, constraints, count, few, few_constraints)

reads_under : (v : Version) (s : Sketch) → IsSoundSketch s → SaysAll v s → 0 < length s.elements → Reads (text_under v s) (renumbered s)
reads_under v s sound may some =
    let short = short_lines v s sound may in
    let lines : lines_in (text_under v s) ≡ lines_of v s = lines_in-ended (lines_of v s) (are_lines (lines_of v s) short) in
    let along = reads_along v s sound may some in
    record {
      version = v;
      fits = text_fits v s sound may;
      clean = subst (λ (ls : List (List ℕ)). HaveNoCode Before ls) (sym lines) along.clean;
      ended = ap (progress_along Before) lines ∙ along.reached;
    }

two_says_all : (cs : List Constraint) → All (λ (x : Constraint). MaySay Two x.rule) cs
two_says_all [] = All-nil (λ (x : Constraint). MaySay Two x.rule)
two_says_all (c ∷ cs) = All-cons (λ (x : Constraint). MaySay Two x.rule) c cs tt (two_says_all cs)

one_says_all : (cs : List Constraint) → list_any (λ (c : Constraint). is_block c.rule) cs ≡ false → All (λ (x : Constraint). MaySay One x.rule) cs
one_says_all [] none = All-nil (λ (x : Constraint). MaySay One x.rule)
one_says_all (c ∷ cs) none =
    let parts = first_of_two (is_block c.rule) (list_any (λ (x : Constraint). is_block x.rule) cs) none in
    All-cons (λ (x : Constraint). MaySay One x.rule) c cs parts.0 (one_says_all cs parts.1)

pub reads_canonical : (s : Sketch) → IsSoundSketch s → 0 < length s.elements → Reads (canonical s) (renumbered s)
reads_canonical s sound some = by (has_block s) refl
  where
    by : (t : Bool) → has_block s ≡ t → Reads (text_under (cond t Two One) s) (renumbered s)
    by true is = reads_under Two s sound (two_says_all s.constraints) some
    by false is = reads_under One s sound (one_says_all s.constraints is) some

pub reads_canonical_2 : (s : Sketch) → IsSoundSketch s → 0 < length s.elements → Reads (canonical_2 s) (renumbered s)
reads_canonical_2 s sound some = reads_under Two s sound (two_says_all s.constraints) some
