-- What `plan` and `solve` print, and the tolerances, are the lines of a claim; the element lines and an `end` are those of places.
use Rattle.std.proofs.Common.{◌≡◌, ℕ, ℤ, pos, ◌*ℤ◌, List, [], ◌∷◌, ◌++◌, map, Some, codes, refl, sym, ap, ◌∙◌, arith, append_assoc, append-nil}
use Rattle.std.specs.Prelude.{Contains}
use Rattle.std.specs.List.{flat_map}
use Rattle.std.proofs.lemmas.Int.{ints}
use Rattle.sk_base.specs.declared.At.{At}
use Rattle.sk_base.specs.declared.At.TheVariants as at
use Rattle.sk_base.specs.declared.Elem.{Elem}
use Rattle.sk_base.specs.declared.Element.{Element}
use Rattle.sk_base.specs.declared.Placed.{Placed}
use Rattle.sk_base.specs.declared.Shape.{Shape}
use Rattle.sk_base.specs.declared.Shape.TheVariants.{Point, Line, Circle}
use Rattle.sk_base.specs.declared.Sign.TheVariants.{Plus, Minus}
use Rattle.sk_base.specs.declared.Sketch.{Sketch}
use Rattle.sk_base.specs.declared.Spot.{Spot}
use Rattle.sk_base.specs.ElementNames.{name_of}
use Rattle.sk_base.specs.Places.{place_of}
use Rattle.sk_base.specs.Spelling.{spaced, whole_text}
use Rattle.sk_base.proofs.Members.{contains_head, contains_later}
use Rattle.sk_graph.specs.SketchGraph.{node_of, kind_of, drawn_as}
use Rattle.sk_lines.specs.Lines.{ended_lines}
use Rattle.sk_report.specs.PlanReport.{step_line, choice_text as printed_choice}
use Rattle.sk_report.specs.SolveReport.{lying_line, element_line, element_lines}
use Rattle.sk_tolerance.specs.declared.Tolerance.{Tolerance}
use Rattle.sk_measure.specs.Placing.{HasKind, AreSpotsOf}
use Rattle.sk_text.specs.ClusterName.{cluster_name}
use Rattle.sk_tree.specs.declared.Choice.{Choice}
use Rattle.sk_tree.specs.declared.Choice.TheVariants.{Turn, Advance, Nothing}
use Rattle.sk_tree.specs.declared.PlanStep.{PlanStep}
use Rattle.sk_tree.specs.declared.Plan.{Plan as ThePlan}
use Rattle.sk_claims.specs.Claims.{radius_nm}
use Rattle.sk_claims.specs.ClaimText.{choice_words, step_words, lying_words, spot_words, tolerance_words, claim_text, places_text as text_of}
use Rattle.sk_laws.specs.PrintedClaim.{tolerance_line, printed_text, printed_places, printed_claim}

-- the line of the words
abbrev line_of : List (List ℕ) → List ℕ
line_of words = spaced words ++ 10 ∷ []

-- ---- steps

choice_text : (c : Choice) → printed_choice c ≡ spaced (choice_words c)
choice_text (Turn Plus) = refl
choice_text (Turn Minus) = refl
choice_text (Advance Plus) = refl
choice_text (Advance Minus) = refl
choice_text Nothing = refl

spaced_choice : (kept : List ℕ) (c : Choice) → spaced (kept ∷ choice_words c) ≡ kept ++ 32 ∷ spaced (choice_words c)
spaced_choice kept (Turn Plus) = refl
spaced_choice kept (Turn Minus) = refl
spaced_choice kept (Advance Plus) = refl
spaced_choice kept (Advance Minus) = refl
spaced_choice kept Nothing = refl

step_parts : (n x y z a b c k choice : List ℕ)
    → ((codes "step " ++ (n ++ (codes " joins " ++ (x ++ (codes " " ++ (y ++ (codes " " ++ (z ++ codes " at")))))))) ++ ((32 ∷ a) ++ ((32 ∷ b) ++ ((32 ∷ c) ++ [])))) ++ (codes " keeps " ++ (k ++ (codes " " ++ (choice ++ codes "\n"))))
    ≡ (codes "step" ++ 32 ∷ (n ++ 32 ∷ (codes "joins" ++ 32 ∷ (x ++ 32 ∷ (y ++ 32 ∷ (z ++ 32 ∷ (codes "at" ++ 32 ∷ (a ++ 32 ∷ (b ++ 32 ∷ (c ++ 32 ∷ (codes "keeps" ++ 32 ∷ (k ++ 32 ∷ choice)))))))))))) ++ 10 ∷ []
step_parts n x y z a b c k choice =
    let end = codes " keeps " ++ (k ++ (codes " " ++ (choice ++ codes "\n"))) in
    simp (append_assoc, append-nil)
    (ap (λ (r : List ℕ). codes "step " ++ (n ++ (codes " joins " ++ (x ++ (codes " " ++ (y ++ (codes " " ++ (z ++ (codes " at" ++ 32 ∷ r)))))))))
    (append_assoc a (32 ∷ (b ++ 32 ∷ c)) end ∙ ap (λ (r : List ℕ). a ++ 32 ∷ r) (append_assoc b (32 ∷ c) end)))

-- the words of a step, up to the cluster that is kept
abbrev step_front : (n x y z a b c rest : List ℕ) → List ℕ
step_front n x y z a b c rest = codes "step" ++ 32 ∷ (n ++ 32 ∷ (codes "joins" ++ 32 ∷ (x ++ 32 ∷ (y ++ 32 ∷ (z ++ 32 ∷ (codes "at" ++ 32 ∷ (a ++ 32 ∷ (b ++ 32 ∷ (c ++ 32 ∷ (codes "keeps" ++ 32 ∷ rest))))))))))

step_text : (s : Sketch) (x : PlanStep) → step_line s x ≡ line_of (step_words s x)
step_text s x =
    let n = cluster_name x.step in
    let one = cluster_name x.one in
    let two = cluster_name x.two in
    let three = cluster_name x.three in
    let a = name_of s x.a in
    let b = name_of s x.b in
    let c = name_of s x.c in
    let k = cluster_name x.keeps in
    step_parts n one two three a b c k (printed_choice x.choice)
    ∙ ap (λ (choice : List ℕ). step_front n one two three a b c (k ++ 32 ∷ choice) ++ 10 ∷ []) (choice_text x.choice)
    ∙ ap (λ (rest : List ℕ). step_front n one two three a b c rest ++ 10 ∷ []) (sym (spaced_choice k x.choice))

steps_text : (s : Sketch) (steps : List PlanStep) → flat_map (step_line s) steps ≡ ended_lines (map spaced (map (step_words s) steps))
steps_text s [] = refl
steps_text s (x ∷ steps) =
    ap (λ (first : List ℕ). first ++ flat_map (step_line s) steps) (step_text s x)
    ∙ ap (λ (rest : List ℕ). line_of (step_words s x) ++ rest) (steps_text s steps)

-- ---- places

two_numbers : (first name x y : List ℕ) → (((first ++ 32 ∷ name) ++ ((32 ∷ x) ++ ((32 ∷ y) ++ []))) ++ codes "\n") ≡ (first ++ 32 ∷ (name ++ 32 ∷ (x ++ 32 ∷ y))) ++ 10 ∷ []
two_numbers first name x y =
    ap (λ (z : List ℕ). ((first ++ 32 ∷ name) ++ 32 ∷ (x ++ 32 ∷ z)) ++ 10 ∷ []) (append-nil y)
    ∙ ap (λ (z : List ℕ). z ++ 10 ∷ []) (append_assoc first (32 ∷ name) (32 ∷ (x ++ 32 ∷ y)))

three_numbers : (first name x y z : List ℕ) → (((first ++ 32 ∷ name) ++ ((32 ∷ x) ++ ((32 ∷ y) ++ ((32 ∷ z) ++ [])))) ++ codes "\n") ≡ (first ++ 32 ∷ (name ++ 32 ∷ (x ++ 32 ∷ (y ++ 32 ∷ z)))) ++ 10 ∷ []
three_numbers first name x y z =
    ap (λ (r : List ℕ). ((first ++ 32 ∷ name) ++ 32 ∷ (x ++ 32 ∷ (y ++ 32 ∷ r))) ++ 10 ∷ []) (append-nil z)
    ∙ ap (λ (r : List ℕ). r ++ 10 ∷ []) (append_assoc first (32 ∷ name) (32 ∷ (x ++ 32 ∷ (y ++ 32 ∷ z))))

circle_numbers : (first name x y r : List ℕ) → ((((first ++ 32 ∷ name) ++ ((32 ∷ x) ++ ((32 ∷ y) ++ []))) ++ 32 ∷ r) ++ codes "\n") ≡ (first ++ 32 ∷ (name ++ 32 ∷ (x ++ 32 ∷ (y ++ 32 ∷ r)))) ++ 10 ∷ []
circle_numbers first name x y r =
    ap (λ (z : List ℕ). (((first ++ 32 ∷ name) ++ 32 ∷ (x ++ 32 ∷ z)) ++ 32 ∷ r) ++ 10 ∷ []) (append-nil y)
    ∙ ap (λ (z : List ℕ). (z ++ 32 ∷ r) ++ 10 ∷ []) (append_assoc first (32 ∷ name) (32 ∷ (x ++ 32 ∷ y)))
    ∙ ap (λ (z : List ℕ). z ++ 10 ∷ []) (append_assoc first (32 ∷ (name ++ 32 ∷ (x ++ 32 ∷ y))) (32 ∷ r))
    ∙ ap (λ (z : List ℕ). (first ++ 32 ∷ z) ++ 10 ∷ []) (append_assoc name (32 ∷ (x ++ 32 ∷ y)) (32 ∷ r))
    ∙ ap (λ (z : List ℕ). (first ++ 32 ∷ (name ++ 32 ∷ z)) ++ 10 ∷ []) (append_assoc x (32 ∷ y) (32 ∷ r))

radius_same : (r : ℤ) → r *ℤ pos 1000 ≡ radius_nm r
radius_same r = omega (arith, ints)

lying_text : (name : List ℕ) (shape : Shape) (p : At) → HasKind (kind_of shape) p → lying_line name shape p ≡ line_of (lying_words name shape p)
lying_text name (Point u v) (at.Point x y) kind = two_numbers (codes "point") name (whole_text x) (whole_text y)
lying_text name (Point u v) (at.Line a b c) kind = absurd kind
lying_text name (Line x1 y1 x2 y2) (at.Point x y) kind = absurd kind
lying_text name (Line x1 y1 x2 y2) (at.Line a b c) kind = three_numbers (codes "line") name (whole_text a) (whole_text b) (whole_text c)
lying_text name (Circle u v r) (at.Point x y) kind =
    circle_numbers (codes "circle") name (whole_text x) (whole_text y) (whole_text (r.0 *ℤ pos 1000))
    ∙ ap (λ (z : ℤ). line_of (codes "circle" ∷ name ∷ whole_text x ∷ whole_text y ∷ whole_text z ∷ [])) (radius_same r.0)
lying_text name (Circle u v r) (at.Line a b c) kind = absurd kind

-- the element is found by its number
pub record IsFound (s : Sketch) (e : Element) : Type 0 where
  pub name : name_of s e.number ≡ e.label
  pub drawn : drawn_as s e.number ≡ e.shape

spot_text : (s : Sketch) (p : Placed) (e : Element) (spot : Spot) → IsFound s e → e.number ≡ spot.elem → place_of p spot.elem ≡ Some spot.at → HasKind (kind_of e.shape) spot.at
    → element_line e (place_of p e.number) ≡ line_of (spot_words s spot)
spot_text s p e spot found same place kind =
    let there : place_of p e.number ≡ Some spot.at = ap (place_of p) same ∙ place in
    ap (element_line e) there ∙ lying_text e.label e.shape spot.at kind
    ∙ ap (λ (name : List ℕ). line_of (lying_words name e.shape spot.at)) (sym found.name)
    ∙ ap (λ (shape : Shape). line_of (lying_words (name_of s e.number) shape spot.at)) (sym found.drawn)
    ∙ ap (λ (n : Elem). line_of (lying_words (name_of s n) (drawn_as s n) spot.at)) same

places_text : (s : Sketch) (p : Placed) (es : List Element) (spots : List Spot) → AreSpotsOf (map node_of es) spots → ((e : Element) → Contains es e → IsFound s e)
    → ((spot : Spot) → Contains spots spot → place_of p spot.elem ≡ Some spot.at) → element_lines p es ≡ ended_lines (map spaced (map (spot_words s) spots))
places_text s p [] [] are found placed = refl
places_text s p [] (spot ∷ spots) are found placed = absurd are
places_text s p (e ∷ es) [] are found placed = absurd are
places_text s p (e ∷ es) (spot ∷ spots) are found placed =
    ap (λ (first : List ℕ). first ++ element_lines p es) (spot_text s p e spot (found e (contains_head e es)) are.0.elem (placed spot (contains_head spot spots)) are.0.has_kind)
    ∙ ap (λ (rest : List ℕ). line_of (spot_words s spot) ++ rest) (places_text s p es spots are.1 (λ x there. found x (contains_later e es x there)) (λ x there. placed x (contains_later spot spots x there)))

-- ---- the whole

ended_parts : (xs ys : List (List (List ℕ))) → ended_lines (map spaced (xs ++ ys)) ≡ ended_lines (map spaced xs) ++ ended_lines (map spaced ys)
ended_parts [] ys = refl
ended_parts (x ∷ xs) ys =
    ap (λ (rest : List ℕ). line_of x ++ rest) (ended_parts xs ys) ∙ sym (append_assoc (line_of x) (ended_lines (map spaced xs)) (ended_lines (map spaced ys)))

pub text_of_claim : (s : Sketch) (p : ThePlan) (at : Placed) (t : Tolerance) → AreSpotsOf (map node_of s.elements) at.spots → ((e : Element) → Contains s.elements e → IsFound s e)
    → ((spot : Spot) → Contains at.spots spot → place_of at spot.elem ≡ Some spot.at) → printed_text s p at t ≡ claim_text s (printed_claim s p at t)
text_of_claim s p at t are found placed =
    let steps = map (step_words s) p.steps in
    let places = map (spot_words s) at.spots in
    let last = tolerance_words t.t t.w ∷ [] in
    ap (λ (text : List ℕ). text ++ (element_lines at s.elements ++ tolerance_line t)) (steps_text s p.steps)
    ∙ ap (λ (text : List ℕ). ended_lines (map spaced steps) ++ (text ++ tolerance_line t)) (places_text s at s.elements at.spots are found placed)
    ∙ ap (λ (text : List ℕ). ended_lines (map spaced steps) ++ text) (sym (ended_parts places last))
    ∙ sym (ended_parts steps (places ++ last))

pub text_of_places : (s : Sketch) (at : Placed) → AreSpotsOf (map node_of s.elements) at.spots → ((e : Element) → Contains s.elements e → IsFound s e)
    → ((spot : Spot) → Contains at.spots spot → place_of at spot.elem ≡ Some spot.at) → printed_places s at ≡ text_of s at
text_of_places s at are found placed =
    ap (λ (text : List ℕ). text ++ codes "end\n") (places_text s at s.elements at.spots are found placed) ∙ sym (ended_parts (map (spot_words s) at.spots) ((codes "end" ∷ []) ∷ []))
