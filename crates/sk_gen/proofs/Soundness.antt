-- The datum sketch is sound.
use Rattle.std.proofs.Common.{◌≡◌, ◌≢◌, inl, inr, ℕ, zero, suc, ◌+◌, ◌-◌, ◌*◌, ◌<◌, ◌≤◌, pos, List, [], ◌∷◌, length, get_or, refl, ap, subst, arith}
use Rattle.std.specs.Prelude.{Option, Some, Contains, All, AllPairs, map, IsTrue}
use Rattle.std.specs.List.{flat_map, range_with_len}
use Rattle.std.specs.Option.{option_map}
use Rattle.std.specs.Fmt.{decimal}
use Rattle.std.proofs.lemmas.Int.{ints}
use Rattle.std.proofs.lemmas.Fmt.{decimal_injective}
use Rattle.std.proofs.lemmas.List.Elements.{All-nil, All-cons, All-map, All-contains}
use Rattle.std.proofs.lemmas.List.FromFn.{length-range_with_len, get_or-range_with_len, length-map-range_with_len}
use Rattle.sk_base.specs.declared.numbered.Elem.{Elem}
use Rattle.sk_base.specs.declared.measure.Um.{Um}
use Rattle.sk_base.specs.declared.sketch.Element.{Element}
use Rattle.sk_base.specs.declared.sketch.Constraint.{Constraint}
use Rattle.sk_base.specs.declared.sketch.Shape.{Shape}
use Rattle.sk_base.specs.declared.sketch.Shape.TheVariants.{Point}
use Rattle.sk_base.specs.declared.sketch.Sketch.{Sketch}
use Rattle.sk_base.specs.Drawn.{shape_of}
use Rattle.sk_base.specs.Labels.{is_name}
use Rattle.sk_base.specs.Rising.{IsRising}
use Rattle.sk_base.specs.Bounds.{IsCoordinate}
use Rattle.sk_base.specs.SoundSketch.{IsSoundSketch, IsLength, IsSoundShape, IsSoundRule, BothFit, MayBeApart}
use Rattle.sk_base.proofs.Finding.{found_rising}
use Rattle.sk_base.proofs.Members.{contains_cases, contains_later, contains_mapped, mapped_from}
use Rattle.sk_base.proofs.Pairs.{pairs_none, pairs_cons, pairs_map}
use Rattle.sk_gen.specs.DatumSketch.{mm, x_axis, y_axis, x_of, y_of, point_elem, point_name, point, elements_of, right_angle, from_x, from_y, distances, constraints_of}
use Rattle.sk_gen.proofs.PointNames.{point_is_named}
use Rattle.sk_base.proofs.Ranges.{range_between, range_all, range_pairs}

abbrev pub sketch_with : ℕ → Sketch
sketch_with points = record { elements = elements_of points; constraints = constraints_of points }

-- what holds of both axes and of each point holds of each element
each_element : (P : Element → Type 0) (points : ℕ) → P x_axis → P y_axis → ((k : ℕ) → 1 ≤ k → k < 1 + points → P (point k)) → All P (elements_of points)
each_element P points x y each =
    All-cons P x_axis (y_axis ∷ map point (range_with_len 1 points)) x
    (All-cons P y_axis (map point (range_with_len 1 points)) y (All-map P point (range_with_len 1 points) (range_all (λ k. P (point k)) 1 points each)))

each_pair : (R : Element → Element → Type 0) (points : ℕ) → R x_axis y_axis → ((k : ℕ) → 1 ≤ k → k < 1 + points → R x_axis (point k)) → ((k : ℕ) → 1 ≤ k → k < 1 + points → R y_axis (point k))
    → ((j k : ℕ) → 1 ≤ j → j < k → k < 1 + points → R (point j) (point k)) → AllPairs R (elements_of points)
each_pair R points axes from_x_axis from_y_axis points_pair =
    pairs_cons R x_axis (y_axis ∷ map point (range_with_len 1 points))
    (pairs_cons R y_axis (map point (range_with_len 1 points)) (pairs_map R point (range_with_len 1 points) (range_pairs (λ j k. R (point j) (point k)) 1 points points_pair)) (behind y_axis from_y_axis))
    (λ z h. elim (contains_cases y_axis (map point (range_with_len 1 points)) z h) [ inl here ↦ subst (λ w. R x_axis w) here axes | inr later ↦ behind x_axis from_x_axis z later ])
  where
    behind : (axis : Element) → ((k : ℕ) → 1 ≤ k → k < 1 + points → R axis (point k)) → (z : Element) → Contains (map point (range_with_len 1 points)) z → R axis z
    behind axis each z h =
        let found = mapped_from point (range_with_len 1 points) z h in
        let between = range_between 1 points found.0 found.1 in
        subst (λ w. R axis w) found.2 (each found.0 between.0 between.1)

pub elements_rise : (points : ℕ) → IsRising (λ (x : Element). x.number.0) (elements_of points)
elements_rise points =
    each_pair (λ (x y : Element). x.number.0 < y.number.0) points (omega arith) (λ k from below. omega arith) (λ k from below. omega arith) (λ j k from less below. omega arith)

labels_are_names : (points : ℕ) → points ≤ 998 → All (λ (x : Element). IsTrue (is_name x.label)) (elements_of points)
labels_are_names points few =
    each_element (λ (x : Element). IsTrue (is_name x.label)) points refl refl (λ k from below. rw (point_is_named k (omega arith)) refl)

names_differ : (j k : ℕ) → j < k → k ≤ 998 → point_name j ≢ point_name k
names_differ j k less few e =
    let digits : decimal j ≡ decimal k = cc in
    let same = decimal_injective j k (omega arith) (omega arith) digits in absurd (omega (arith, same))

other_start : (a b : ℕ) (xs ys : List ℕ) → ¬ (a ≡ b) → ¬ (a ∷ xs ≡ b ∷ ys)
other_start a b xs ys other e = other (ap (λ (zs : List ℕ). get_or zs 0 0) e)

labels_differ : (points : ℕ) → points ≤ 998 → AllPairs (λ (x y : Element). x.label ≢ y.label) (elements_of points)
labels_differ points few =
    each_pair (λ (x y : Element). x.label ≢ y.label) points
    (other_start 88 89 [] [] (λ e. absurd (omega (arith, e))))
    (λ k from below. other_start 88 80 [] (decimal k) (λ e. absurd (omega (arith, e))))
    (λ k from below. other_start 89 80 [] (decimal k) (λ e. absurd (omega (arith, e))))
    (λ j k from less below. names_differ j k less (omega arith))

coordinate : (n : ℕ) → n ≤ 1000 → IsCoordinate (mm n)
coordinate n few = (omega (arith, ints), omega (arith, ints))

a_length : (n : ℕ) → 1 ≤ n → n ≤ 1000 → IsLength (mm n)
a_length n some few = (omega (arith, ints), omega (arith, ints))

shapes_sound : (points : ℕ) → All (λ (x : Element). IsSoundShape x.shape) (elements_of points)
shapes_sound points =
    each_element (λ (x : Element). IsSoundShape x.shape) points
    (coordinate 0 (omega arith), coordinate 0 (omega arith), coordinate 1000 (omega arith), coordinate 0 (omega arith), λ same. differ same.0)
    (coordinate 0 (omega arith), coordinate 0 (omega arith), coordinate 0 (omega arith), coordinate 1000 (omega arith), λ same. differ same.1)
    (λ k from below. (coordinate (x_of k) (omega arith), coordinate (y_of k) (omega arith)))
  where
    differ : ¬ (mm 0 ≡ mm 1000)
    differ e = let number : pos 0 ≡ pos 1000000 = ap (λ (um : Um). um.0) e in absurd (omega (arith, ints, number))

each_distance : (P : Constraint → Type 0) (a n : ℕ) → ((k : ℕ) → a ≤ k → k < a + n → P (from_x k) × P (from_y k)) → All P (flat_map distances (range_with_len a n))
each_distance P a zero each = All-nil P
each_distance P a (suc n) each =
    let here = each a (omega arith) (omega arith) in
    let later = flat_map distances (range_with_len (a + 1) n) in
    All-cons P (from_x a) (from_y a ∷ later) here.0 (All-cons P (from_y a) later here.1 (each_distance P (a + 1) n (λ k from below. each k (omega arith) (omega arith))))

above : (a n : ℕ) (c : Constraint) → Contains (flat_map distances (range_with_len a n)) c → 2 * a ≤ c.number.0
above a n c h =
    All-contains (λ (z : Constraint). 2 * a ≤ z.number.0) (flat_map distances (range_with_len a n)) c (each_distance (λ (z : Constraint). 2 * a ≤ z.number.0) a n (λ k from below. (omega arith, omega arith))) h

abbrev Follows : Constraint → Constraint → Type 0
Follows x y = x.number.0 < y.number.0

distances_rise : (a n : ℕ) → AllPairs Follows (flat_map distances (range_with_len a n))
distances_rise a zero = pairs_none Follows
distances_rise a (suc n) =
    let later = flat_map distances (range_with_len (a + 1) n) in
    pairs_cons Follows (from_x a) (from_y a ∷ later)
    (pairs_cons Follows (from_y a) later (distances_rise (a + 1) n) (λ c h. (let low = above (a + 1) n c h in omega (arith, low)))) (λ c h.
    elim (contains_cases (from_y a) later c h) [
      | inl here ↦ subst (λ z. Follows (from_x a) z) here (omega arith)
      | inr rest ↦ let low = above (a + 1) n c rest in omega (arith, low)
    ])

constraints_rise : (points : ℕ) → IsRising (λ (x : Constraint). x.number.0) (constraints_of points)
constraints_rise points =
    pairs_cons Follows right_angle (flat_map distances (range_with_len 1 points)) (distances_rise 1 points) (λ c h. (let low = above 1 points c h in omega (arith, low)))

length_distances : (a n : ℕ) → length (flat_map distances (range_with_len a n)) ≡ 2 * n
length_distances a zero = refl
length_distances a (suc n) = let rest = length_distances (a + 1) n in omega (arith, rest)

pub length_elements : (points : ℕ) → length (elements_of points) ≡ points + 2
length_elements points = let rest = length-map-range_with_len point 1 points in omega (arith, rest)

pub length_constraints : (points : ℕ) → length (constraints_of points) ≡ 2 * points + 1
length_constraints points = let rest = length_distances 1 points in omega (arith, rest)

in_range : (a n k : ℕ) → a ≤ k → k < a + n → Contains (range_with_len a n) k
in_range a n k from below =
    let long = length-range_with_len a n in
    let at = get_or-range_with_len a n (k - a) k (omega arith) in
    (k - a, omega (arith, long), omega (arith, at))

point_drawn : (points k : ℕ) → 1 ≤ k → k < 1 + points → shape_of (sketch_with points) (point_elem k) ≡ Some (Point (mm (x_of k)) (mm (y_of k)))
point_drawn points k from below =
    let among : Contains (elements_of points) (point k) = contains_later x_axis (y_axis ∷ map point (range_with_len 1 points)) (point k)
    (contains_later y_axis (map point (range_with_len 1 points)) (point k) (contains_mapped point (range_with_len 1 points) k (in_range 1 points k from below))) in
    ap (option_map (λ (x : Element). x.shape)) (found_rising (λ (x : Element). x.number.0) (elements_of points) (elements_rise points) (point k) among)

both_fit : (fits : Shape → Shape → Type 0) (u v : Option Shape) (a b : Shape) → u ≡ Some a → v ≡ Some b → fits a b → BothFit fits u v
both_fit fits u v a b first second h = rw (first, second) h

x_between : (k : ℕ) → IsLength (mm (x_of k))
x_between k = a_length (x_of k) (omega arith) (omega arith)

y_between : (k : ℕ) → IsLength (mm (y_of k))
y_between k = a_length (y_of k) (omega arith) (omega arith)

number_tells : (a b : ℕ) → ¬ (a ≡ b) → (let x : Elem = record { 0 = a } in let y : Elem = record { 0 = b } in x ≢ y)
number_tells a b other e = other (ap (λ (x : Elem). x.0) e)

rules_sound : (points : ℕ) → All (λ (c : Constraint). IsSoundRule (sketch_with points) c.rule) (constraints_of points)
rules_sound points =
    All-cons (λ (c : Constraint). IsSoundRule (sketch_with points) c.rule) right_angle (flat_map distances (range_with_len 1 points))
    ((number_tells 1 2 (λ e. absurd (omega (arith, e))), (tt, tt)), (λ e. absurd (omega (arith, ints, e)), (omega (arith, ints), omega (arith, ints)), (omega (arith, ints), omega (arith, ints))))
    (each_distance (λ (c : Constraint). IsSoundRule (sketch_with points) c.rule) 1 points (λ k from below. (
      ((number_tells (k + 2) 1 (λ e. absurd (omega (arith, e))), both_fit MayBeApart _ _ _ x_axis.shape (point_drawn points k from below) refl (inl tt)), y_between k),
      ((number_tells (k + 2) 2 (λ e. absurd (omega (arith, e))), both_fit MayBeApart _ _ _ y_axis.shape (point_drawn points k from below) refl (inl tt)), x_between k),
    )))

pub datum_is_sound : (points : ℕ) → points ≤ 998 → IsSoundSketch (sketch_with points)
datum_is_sound points few = record {
  elements_rise = elements_rise points;
  constraints_rise = constraints_rise points;
  labels_are_names = labels_are_names points few;
  labels_differ = labels_differ points few;
  few_elements = (let long = length_elements points in omega (arith, long));
  few_constraints = (let long = length_constraints points in omega (arith, long));
  shapes_sound = shapes_sound points;
  rules_sound = rules_sound points;
}
