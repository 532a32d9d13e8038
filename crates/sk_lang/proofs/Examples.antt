-- Texts and what they are read as: a look at the definitions at work.
use Rattle.std.proofs.Common.{◌≡◌, ℕ, List, [], ◌∷◌, ◌++◌, Ok, Err, Some, codes, refl, pos, neg_ℤ, replicate}
use Rattle.std.specs.List.{flat_map}
use Rattle.sk_base.specs.declared.Shape.TheVariants.{Point}
use Rattle.sk_lines.specs.declared.Code.TheVariants.{E1, E2, E3, E4, E5, E6, E7, E8, E9, E10, E11, E12, E13, E15, E16, E17, E18, E19}
use Rattle.sk_lang.proofs.Computed.{reading}
use Rattle.sk_lang.specs.Codes.{code_of}
use Rattle.sk_lines.specs.declared.Version.TheVariants.{One}
use Rattle.sk_lang.specs.declared.progress.Progress.TheVariants.{Within}

-- each line with its line feed
abbrev text : List (List ℕ) → List ℕ
text lines = flat_map (λ line. line ++ 10 ∷ []) lines

none : reading (text ([])) ≡ Err (0, E18)
none = refl

header : reading (text (codes "sketch 3" ∷ codes "end" ∷ [])) ≡ Err (1, E1)
header = refl

word : reading (text (codes "sketch 1" ∷ codes "points A 0 0" ∷ codes "end" ∷ [])) ≡ Err (2, E2)
word = refl

count : reading (text (codes "sketch 1" ∷ codes "point A 0" ∷ codes "end" ∷ [])) ≡ Err (2, E3)
count = refl

name : reading (text (codes "sketch 1" ∷ codes "point 9A 0 0" ∷ codes "end" ∷ [])) ≡ Err (2, E4)
name = refl

name_taken : reading (text (codes "sketch 1" ∷ codes "point A 0 0" ∷ codes "point A 1 0" ∷ codes "end" ∷ [])) ≡ Err (3, E5)
name_taken = refl

unknown : reading (text (codes "sketch 1" ∷ codes "point A 0 0" ∷ codes "distance A B 3" ∷ codes "end" ∷ [])) ≡ Err (3, E6)
unknown = refl

kind : reading (text (codes "sketch 1" ∷ codes "point A 0 0" ∷ codes "line L 0 0 1 0" ∷ codes "on L A" ∷ codes "end" ∷ [])) ≡ Err (4, E7)
kind = refl

number : reading (text (codes "sketch 1" ∷ codes "point A 0 0.0001" ∷ codes "end" ∷ [])) ≡ Err (2, E8)
number = refl

zero : reading (text (codes "sketch 1" ∷ codes "line L 0 0 1 0" ∷ codes "line M 0 0 0 1" ∷ codes "angle L M 0/1" ∷ codes "end" ∷ [])) ≡ Err (4, E9)
zero = refl

equal_radii : reading (text (codes "sketch 1" ∷ codes "circle H 0 0 5" ∷ codes "circle K 1 0 5" ∷ codes "inside H K" ∷ codes "end" ∷ [])) ≡ Err (4, E9)
equal_radii = refl

same : reading (text (codes "sketch 1" ∷ codes "point A 0 0" ∷ codes "distance A A 3" ∷ codes "end" ∷ [])) ≡ Err (3, E10)
same = refl

drawn_flat : reading (text (codes "sketch 1" ∷ codes "line L 1 1 1 1" ∷ codes "end" ∷ [])) ≡ Err (2, E11)
drawn_flat = refl

variable_radius : reading (text (codes "sketch 1" ∷ codes "circle C 0 0" ∷ codes "end" ∷ [])) ≡ Err (2, E12)
variable_radius = refl

no_end : reading (text (codes "sketch 1" ∷ codes "point A 0 0" ∷ [])) ≡ Err (3, E16)
no_end = refl

after_end : reading (text (codes "sketch 1" ∷ codes "point A 0 0" ∷ codes "end" ∷ codes "point B 0 0" ∷ [])) ≡ Err (4, E17)
after_end = refl

empty : reading (text (codes "sketch 1" ∷ codes "end" ∷ [])) ≡ Err (2, E18)
empty = refl

negative_length : reading (text (codes "sketch 1" ∷ codes "point A 0 0" ∷ codes "point B 1 0" ∷ codes "distance A B -3" ∷ codes "end" ∷ [])) ≡ Err (4, E8)
negative_length = refl

end_with_words : reading (text (codes "sketch 1" ∷ codes "end A" ∷ [])) ≡ Err (2, E3)
end_with_words = refl

wrong_byte : reading (text (codes "sketch 1" ∷ (0xC3 ∷ []) ∷ [])) ≡ Err (2, E19)
wrong_byte = refl

too_long_line : reading (text (codes "sketch 1" ∷ replicate 201 32 ∷ [])) ≡ Err (2, E15)
too_long_line = refl

lenient : reading (codes "sketch 1" ++ 13 ∷ 10 ∷ codes "  point A 0  -0.5" ++ 10 ∷ 10 ∷ codes "end")
    ≡ Ok (record { elements = record { number = record { 0 = 1 }; label = codes "A"; shape = Point (record { 0 = pos 0 }) (record { 0 = neg_ℤ (pos 500) }) } ∷ []; constraints = [] })
lenient = refl

too_many_elements : code_of (Within One (record { elements = replicate 2000 (record { number = record { 0 = 1 }; label = codes "A"; shape = Point (record { 0 = pos 0 }) (record { 0 = pos 0 }) }); constraints = [] })) (codes "point B 0 0") ≡ Some E13
too_many_elements = refl

empty_2 : reading (text (codes "sketch 2" ∷ codes "end" ∷ [])) ≡ Err (2, E18)
empty_2 = refl

comment_before_header : reading (text (codes "# part" ∷ codes "sketch 2" ∷ codes "end" ∷ [])) ≡ Err (1, E1)
comment_before_header = refl

comment_on_header : reading (text (codes "sketch 2 # part" ∷ codes "end" ∷ [])) ≡ Err (1, E1)
comment_on_header = refl

no_radius_but_a_comment : reading (text (codes "sketch 2" ∷ codes "# part" ∷ codes "circle C 0 0 # 5" ∷ codes "end" ∷ [])) ≡ Err (3, E12)
no_radius_but_a_comment = refl

no_comment : reading (text (codes "sketch 1" ∷ codes "# part" ∷ codes "end" ∷ [])) ≡ Err (2, E2)
no_comment = refl

comments : reading (text (codes "sketch 2" ∷ codes "# part" ∷ codes "point A 0 0 # origin" ∷ codes "end# of it" ∷ codes "  # nothing" ∷ []))
    ≡ Ok (record { elements = record { number = record { 0 = 1 }; label = codes "A"; shape = Point (record { 0 = pos 0 }) (record { 0 = pos 0 }) } ∷ []; constraints = [] })
comments = refl

no_block : reading (text (codes "sketch 1" ∷ codes "point A 0 0" ∷ codes "point B 1 0" ∷ codes "block A 0 0 B 1 0" ∷ codes "end" ∷ [])) ≡ Err (4, E2)
no_block = refl

one_place : reading (text (codes "sketch 2" ∷ codes "point A 0 0" ∷ codes "point B 1 0" ∷ codes "block A 0 0 B 0 0" ∷ codes "end" ∷ [])) ≡ Err (4, E9)
one_place = refl

one_pin : reading (text (codes "sketch 2" ∷ codes "point A 0 0" ∷ codes "point B 1 0" ∷ codes "block A 0 0" ∷ codes "end" ∷ [])) ≡ Err (4, E3)
one_pin = refl

line_in_block : reading (text (codes "sketch 2" ∷ codes "point A 0 0" ∷ codes "line L 1 0 2 0" ∷ codes "block A 0 0 L 0 0" ∷ codes "end" ∷ [])) ≡ Err (4, E7)
line_in_block = refl

one_name : reading (text (codes "sketch 2" ∷ codes "point A 0 0" ∷ codes "block A 0 0 A 1 0" ∷ codes "end" ∷ [])) ≡ Err (3, E10)
one_name = refl
