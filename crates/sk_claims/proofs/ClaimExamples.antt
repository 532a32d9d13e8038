-- Lines of claims and what they are read as: a look at the definitions at work.
use Rattle.std.proofs.Common.{◌≡◌, ℕ, List, [], ◌∷◌, ◌++◌, Option, Some, None, codes, refl, pos, neg_ℤ, replicate}
use Rattle.std.specs.List.{flat_map}
use Rattle.sk_base.specs.declared.At.TheVariants as at
use Rattle.sk_base.specs.declared.Element.{Element}
use Rattle.sk_base.specs.declared.Name.TheVariants.{Con, Step}
use Rattle.sk_base.specs.declared.Shape.{Shape}
use Rattle.sk_base.specs.declared.Shape.TheVariants as shapes
use Rattle.sk_base.specs.declared.Sign.TheVariants.{Plus}
use Rattle.sk_base.specs.declared.Sketch.{Sketch}
use Rattle.sk_base.specs.declared.Um.{Um}
use Rattle.sk_lines.specs.declared.Code.{Code}
use Rattle.sk_lines.specs.declared.Code.TheVariants.{E2, E3, E4, E5, E6, E7, E8, E15, E17, E19}
use Rattle.sk_lines.specs.Lines.{lines_in}
use Rattle.sk_tree.specs.declared.Choice.TheVariants.{Turn}
use Rattle.sk_claims.specs.declared.claim_line.SoFar.{SoFar}
use Rattle.sk_claims.specs.ClaimLines.{code_of}
use Rattle.sk_claims.specs.ClaimReading.{nothing_yet, claimed_along}

abbrev um : ℕ → Um
um n = record { 0 = pos n }

abbrev element : ℕ → List ℕ → Shape → Element
element n label shape = record { number = record { 0 = n }; label = label; shape = shape }

-- three points, a line and a circle
abbrev sketch : Sketch
sketch = record {
  elements = element 1 (codes "A") (shapes.Point (um 0) (um 0)) ∷
      element 2 (codes "B") (shapes.Point (um 4000) (um 0)) ∷
      element 3 (codes "C") (shapes.Point (um 4000) (um 3000)) ∷
      element 4 (codes "L") (shapes.Line (um 0) (um 0) (um 1) (um 0)) ∷
      element 5 (codes "H") (shapes.Circle (um 0) (um 0) (um 5000)) ∷ [];
  constraints = [];
}

-- each line with its line feed
abbrev text : List (List ℕ) → List ℕ
text lines = flat_map (λ line. line ++ 10 ∷ []) lines

abbrev claimed : List (List ℕ) → SoFar
claimed lines = claimed_along sketch nothing_yet (lines_in (text lines))

-- the code of a line behind others
abbrev code : List (List ℕ) → List ℕ → Option Code
code before line = code_of sketch (claimed before) line

triangle : claimed (codes "step s1 joins c3 c2 c1 at C A B keeps c1 turn +" ∷ codes "point A 0 0" ∷ codes "point B 4000000 0" ∷ codes "point C 4000000 -3000000" ∷ codes "tolerance 0 7" ∷ []) ≡ record {
  steps = record {
    step = Step 1;
    one = Con 3;
    two = Con 2;
    three = Con 1;
    a = record { 0 = 3 };
    b = record { 0 = 1 };
    c = record { 0 = 2 };
    keeps = Con 1;
    choice = Turn Plus;
  } ∷ [];
  at = record {
    spots = record { elem = record { 0 = 1 }; at = at.Point (pos 0) (pos 0) } ∷
        record { elem = record { 0 = 2 }; at = at.Point (pos 4000000) (pos 0) } ∷
        record { elem = record { 0 = 3 }; at = at.Point (pos 4000000) (neg_ℤ (pos 3000000)) } ∷ [];
  };
  radii = [];
  tolerances = Some (record { t = 0; w = 7 });
}
triangle = refl

wheel : claimed (codes "  circle\tH 1 -0 0005000000" ∷ codes "line L -600000000 800000000 -5000000" ∷ []) ≡ record {
  steps = [];
  at = record {
    spots = record { elem = record { 0 = 5 }; at = at.Point (pos 1) (pos 0) } ∷
        record { elem = record { 0 = 4 }; at = at.Line (neg_ℤ (pos 600000000)) (pos 800000000) (neg_ℤ (pos 5000000)) } ∷ [];
  };
  radii = record { elem = record { 0 = 5 }; nm = pos 5000000 } ∷ [];
  tolerances = None;
}
wheel = refl

fine_step : code [] (codes "step s1 joins c3 c2 c1 at C A B keeps c1 none") ≡ None
fine_step = refl

too_long : code [] (replicate 201 65) ≡ Some E15
too_long = refl

wrong_byte : code (codes "tolerance 0 0" ∷ []) (200 ∷ []) ≡ Some E19
wrong_byte = refl

behind_tolerances : code (codes "tolerance 0 0" ∷ []) (codes "points") ≡ Some E17
behind_tolerances = refl

blank_behind_tolerances : code (codes "tolerance 0 0" ∷ []) (codes "  ") ≡ None
blank_behind_tolerances = refl

other_word : code [] (codes "end") ≡ Some E2
other_word = refl

few_words : code [] (codes "step s1 joinz c3 c2 c1 at C A B keeps c1") ≡ Some E3
few_words = refl

few_numbers : code [] (codes "circle H 0 0") ≡ Some E3
few_numbers = refl

one_tolerance : code [] (codes "tolerance x") ≡ Some E3
one_tolerance = refl

other_fixed_word : code [] (codes "step s1 joins c03 c2 c1 at C A B holds c1 none") ≡ Some E2
other_fixed_word = refl

turn_without_sign : code [] (codes "step s1 joins c3 c2 c1 at C A B keeps c1 turn") ≡ Some E2
turn_without_sign = refl

no_cluster : code [] (codes "step s1 joins c03 c2 c1 at C A Z keeps c1 none") ≡ Some E4
no_cluster = refl

no_name : code [] (codes "point 9 0 0") ≡ Some E4
no_name = refl

undeclared_corner : code [] (codes "step s1 joins c3 c2 c1 at C A Z keeps c1 none") ≡ Some E6
undeclared_corner = refl

undeclared : code [] (codes "line Z x 0 0") ≡ Some E6
undeclared = refl

other_shape : code [] (codes "point H x 0") ≡ Some E7
other_shape = refl

too_far : code [] (codes "point A 0 1152921504606846977") ≡ Some E8
too_far = refl

far_enough : code [] (codes "point A 0 -1152921504606846976") ≡ None
far_enough = refl

long_normal : code [] (codes "line L 2000000001 0 0") ≡ Some E8
long_normal = refl

twenty_digits : code [] (codes "point A 00000000000000000001 0") ≡ Some E8
twenty_digits = refl

nineteen_digits : code [] (codes "point A 0000000000000000001 0") ≡ None
nineteen_digits = refl

negative_tolerance : code [] (codes "tolerance 0 -1") ≡ Some E8
negative_tolerance = refl

no_tolerance : code [] (codes "tolerance 4611686018427387905 0") ≡ Some E8
no_tolerance = refl

great_tolerance : code [] (codes "tolerance 4611686018427387904 -0") ≡ None
great_tolerance = refl

no_number_before_twice : code (codes "point A 0 0" ∷ []) (codes "point A x 0") ≡ Some E8
no_number_before_twice = refl

twice : code (codes "point A 0 0" ∷ []) (codes "point A 0 0") ≡ Some E5
twice = refl
