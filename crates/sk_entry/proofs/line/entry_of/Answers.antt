use Rattle.std.proofs.Common.{[], ◌≡◌, ◌-◌, map, length, refl, sym, ap, ◌∙◌, arith}
use Rattle.std.proofs.lemmas.List.{length-map}
use Rattle.sk_lines.specs.Words.{bytes_of}
use Rattle.sk_lines.specs.declared.Keyword.TheVariants.{Block}
use Rattle.sk_lines.specs.Keywords.{places}
use Rattle.sk_entry.specs.Entry.{told}
use Rattle.sk_entry.specs.declared.entry.Entry.TheVariants as entry
use Rattle.sk_base.proofs.Rests.{rest_two, rest_three, rest_four, rest_five}
use Rattle.sk_entry.proofs.Entries.{element_reading, constraint_reading, wrong_count, early_circle, length_rest}
use Rattle.sk_entry.proofs.BlockRead.{order_behind, block_read, block_refused}
use Rattle.sk_entry.proofs.line.entry_of.Goals as goal

pub returns-then-lacks_radius : goal.returns-then-lacks_radius
returns-then-lacks_radius g c =
    let words = c.args.words.now in
    early_circle (g.S.Scope.so_far c.args.s.now) c.args.keyword _ (length words - 1) (length_rest c.args.line.now words) (sym c.lacks_radius.ensures ∙ c.if-lacks_radius.true)

pub returns-then-count-places : goal.returns-then-count-places
returns-then-count-places g c =
    let words = c.args.words.now in
    wrong_count (g.S.Scope.so_far c.args.s.now) c.args.keyword _ (length words - 1) (length_rest c.args.line.now words) (sym c.lacks_radius.ensures ∙ c.if-lacks_radius.false) (λ same. c.if-count-places.true (same ∙ sym c.places.ensures))

pub returns-in-Point : goal.returns-in-Point
returns-in-Point g c =
    let ws = map (bytes_of c.args.line.now) c.args.words.now in
    let places_are : c.places.result ≡ 3 = c.places.ensures ∙ ap (λ k. length (places k (length c.args.words.now - 1))) c.in-Point.is in
    let same = length-map c.args.words.now (bytes_of c.args.line.now) in
    let count : length ws ≡ 4 = omega arith in
    let rest = rest_three [] ws c.word-first.result.now c.word-second.result.now c.word-third.result.now count c.word-first.ensures c.word-second.ensures c.word-third.ensures in
    rw (c.element.ensures ∙ ap (told entry.Element) c.read_point.ensures) (rw (rest, c.in-Point.is) (element_reading _ _ _ refl))

pub returns-in-Line : goal.returns-in-Line
returns-in-Line g c =
    let ws = map (bytes_of c.args.line.now) c.args.words.now in
    let places_are : c.places.result ≡ 5 = c.places.ensures ∙ ap (λ k. length (places k (length c.args.words.now - 1))) c.in-Line.is in
    let same = length-map c.args.words.now (bytes_of c.args.line.now) in
    let count : length ws ≡ 6 = omega arith in
    let rest = rest_five [] ws c.word-first.result.now c.word-second.result.now c.word-third-in-Line.result.now c.word-fourth.result.now c.word-fifth.result.now count c.word-first.ensures c.word-second.ensures c.word-third-in-Line.ensures c.word-fourth.ensures c.word-fifth.ensures in
    rw (c.element-in-Line.ensures ∙ ap (told entry.Element) c.read_line.ensures) (rw (rest, c.in-Line.is) (element_reading _ _ _ refl))

pub returns-in-Circle : goal.returns-in-Circle
returns-in-Circle g c =
    let ws = map (bytes_of c.args.line.now) c.args.words.now in
    let places_are : c.places.result ≡ 4 = c.places.ensures ∙ ap (λ k. length (places k (length c.args.words.now - 1))) c.in-Circle.is in
    let same = length-map c.args.words.now (bytes_of c.args.line.now) in
    let count : length ws ≡ 5 = omega arith in
    let rest = rest_four [] ws c.word-first.result.now c.word-second.result.now c.word-third-in-Circle.result.now c.word-fourth-in-Circle.result.now count c.word-first.ensures c.word-second.ensures c.word-third-in-Circle.ensures c.word-fourth-in-Circle.ensures in
    rw (c.element-in-Circle.ensures ∙ ap (told entry.Element) c.read_circle.ensures) (rw (rest, c.in-Circle.is) (element_reading _ _ _ refl))

pub returns-in-Distance : goal.returns-in-Distance
returns-in-Distance g c =
    let ws = map (bytes_of c.args.line.now) c.args.words.now in
    let places_are : c.places.result ≡ 3 = c.places.ensures ∙ ap (λ k. length (places k (length c.args.words.now - 1))) c.in-Distance.is in
    let same = length-map c.args.words.now (bytes_of c.args.line.now) in
    let count : length ws ≡ 4 = omega arith in
    let rest = rest_three [] ws c.word-first.result.now c.word-second.result.now c.word-third-in-Distance.result.now count c.word-first.ensures c.word-second.ensures c.word-third-in-Distance.ensures in
    rw (c.constraint.ensures ∙ ap (told entry.Constraint) c.read_distance.ensures) (rw (rest, c.in-Distance.is) (constraint_reading _ _ _ refl))

pub returns-in-On : goal.returns-in-On
returns-in-On g c =
    let ws = map (bytes_of c.args.line.now) c.args.words.now in
    let places_are : c.places.result ≡ 2 = c.places.ensures ∙ ap (λ k. length (places k (length c.args.words.now - 1))) c.in-On.is in
    let same = length-map c.args.words.now (bytes_of c.args.line.now) in
    let count : length ws ≡ 3 = omega arith in
    let rest = rest_two [] ws c.word-first.result.now c.word-second.result.now count c.word-first.ensures c.word-second.ensures in
    rw (c.constraint-in-On.ensures ∙ ap (told entry.Constraint) c.read_pair.ensures) (rw (rest, c.in-On.is) (constraint_reading _ _ _ refl))

pub returns-in-Tangent : goal.returns-in-Tangent
returns-in-Tangent g c =
    let ws = map (bytes_of c.args.line.now) c.args.words.now in
    let places_are : c.places.result ≡ 2 = c.places.ensures ∙ ap (λ k. length (places k (length c.args.words.now - 1))) c.in-Tangent.is in
    let same = length-map c.args.words.now (bytes_of c.args.line.now) in
    let count : length ws ≡ 3 = omega arith in
    let rest = rest_two [] ws c.word-first.result.now c.word-second.result.now count c.word-first.ensures c.word-second.ensures in
    rw (c.constraint-in-Tangent.ensures ∙ ap (told entry.Constraint) c.read_pair-in-Tangent.ensures) (rw (rest, c.in-Tangent.is) (constraint_reading _ _ _ refl))

pub returns-in-Outside : goal.returns-in-Outside
returns-in-Outside g c =
    let ws = map (bytes_of c.args.line.now) c.args.words.now in
    let places_are : c.places.result ≡ 2 = c.places.ensures ∙ ap (λ k. length (places k (length c.args.words.now - 1))) c.in-Outside.is in
    let same = length-map c.args.words.now (bytes_of c.args.line.now) in
    let count : length ws ≡ 3 = omega arith in
    let rest = rest_two [] ws c.word-first.result.now c.word-second.result.now count c.word-first.ensures c.word-second.ensures in
    rw (c.constraint-in-Outside.ensures ∙ ap (told entry.Constraint) c.read_pair-in-Outside.ensures) (rw (rest, c.in-Outside.is) (constraint_reading _ _ _ refl))

pub returns-in-Inside : goal.returns-in-Inside
returns-in-Inside g c =
    let ws = map (bytes_of c.args.line.now) c.args.words.now in
    let places_are : c.places.result ≡ 2 = c.places.ensures ∙ ap (λ k. length (places k (length c.args.words.now - 1))) c.in-Inside.is in
    let same = length-map c.args.words.now (bytes_of c.args.line.now) in
    let count : length ws ≡ 3 = omega arith in
    let rest = rest_two [] ws c.word-first.result.now c.word-second.result.now count c.word-first.ensures c.word-second.ensures in
    rw (c.constraint-in-Inside.ensures ∙ ap (told entry.Constraint) c.read_inside.ensures) (rw (rest, c.in-Inside.is) (constraint_reading _ _ _ refl))

pub returns-in-Angle : goal.returns-in-Angle
returns-in-Angle g c =
    let ws = map (bytes_of c.args.line.now) c.args.words.now in
    let places_are : c.places.result ≡ 3 = c.places.ensures ∙ ap (λ k. length (places k (length c.args.words.now - 1))) c.in-Angle.is in
    let same = length-map c.args.words.now (bytes_of c.args.line.now) in
    let count : length ws ≡ 4 = omega arith in
    let rest = rest_three [] ws c.word-first.result.now c.word-second.result.now c.word-third-in-Angle.result.now count c.word-first.ensures c.word-second.ensures c.word-third-in-Angle.ensures in
    rw (c.constraint-in-Angle.ensures ∙ ap (told entry.Constraint) c.read_angle.ensures) (rw (rest, c.in-Angle.is) (constraint_reading _ _ _ refl))

pub read_block-requires : goal.read_block-requires
read_block-requires g c = order_behind c.args.words.now (length c.args.line.now) c.requires.order

pub returns-in-Ok : goal.returns-in-Ok
returns-in-Ok g c =
    let words = c.args.words.now in
    let n = length words - 1 in
    let places_are : c.places.result ≡ length (places Block n) = c.places.ensures ∙ ap (λ k. length (places k n)) c.in-Block.is in
    let count : n ≡ length (places Block n) = omega arith in
    rw c.in-Block.is (block_read (g.S.Scope.so_far c.args.s.now) c.args.elem c.args.con n (bytes_of c.args.line.now) words c.in-Ok.block (length_rest c.args.line.now words) count c.in-Ok.ensures)

pub returns-in-Err : goal.returns-in-Err
returns-in-Err g c =
    let words = c.args.words.now in
    let n = length words - 1 in
    let places_are : c.places.result ≡ length (places Block n) = c.places.ensures ∙ ap (λ k. length (places k n)) c.in-Block.is in
    let count : n ≡ length (places Block n) = omega arith in
    rw c.in-Block.is (block_refused (g.S.Scope.so_far c.args.s.now) n (bytes_of c.args.line.now) words c.in-Err.error (length_rest c.args.line.now words) count c.in-Err.ensures)
