-- What several calls move, one after another.
use Rattle.std.proofs.Common.{◌≡◌, ℕ, ◌+◌, ◌-◌, List, ◌++◌, length, take, drop, arith, None, Some, Option, sym, ap, ◌∙◌}
use Rattle.std.proofs.lemmas.List.{append_assoc, take-append-drop, drop-take, drop-drop, take-take, take_rest}
use Rattle.std.specs.Io.KnownBytes.{Appends, Consumes}

-- what two calls append
pub Appends-more : (a b c : Option (List ℕ)) (xs ys : List ℕ) → Appends a b xs → Appends b c ys → Appends a c (xs ++ ys)
Appends-more None b c xs ys one two = tt
Appends-more (Some a) None c xs ys one two = absurd one
Appends-more (Some a) (Some b) None xs ys one two = absurd two
Appends-more (Some a) (Some b) (Some c) xs ys one two = rw (two, one) (append_assoc a xs ys)

-- what two calls take off
pub Consumes-more : (a b c : Option (List ℕ)) (xs ys : List ℕ) → Consumes a b xs → Consumes b c ys → Consumes a c (xs ++ ys)
Consumes-more None b c xs ys one two = tt
Consumes-more (Some a) None c xs ys one two = absurd one
Consumes-more (Some a) (Some b) None xs ys one two = absurd two
Consumes-more (Some a) (Some b) (Some c) xs ys one two = one ∙ ap (λ rest. xs ++ rest) two ∙ sym (append_assoc xs ys c)

parts_of_front : (xs : List ℕ) (d n : ℕ) → take d xs ++ take n (drop d xs) ≡ take (d + n) xs
parts_of_front xs d n =
    rw (← drop-take d n xs, ← take-take d (d + n) xs (omega arith)) (take-append-drop d (take (d + n) xs))

-- one more piece of the bytes
pub next_front : (a b c : Option (List ℕ)) (xs : List ℕ) (d n : ℕ) → Appends a b (take d xs) → Appends b c (take n (take (length xs - d) (drop d xs))) → Appends a c (take (d + n) xs)
next_front a b c xs d n one two =
    let rest = rw (take_rest xs d) at two in
    rw (← parts_of_front xs d n) (Appends-more a b c (take d xs) (take n (drop d xs)) one rest)

-- what a read from a place on has taken off
pub read_on : (bytes piece : List ℕ) (at n : ℕ) → take n piece ≡ take n (take (length bytes - at) (drop at bytes)) → drop at bytes ≡ take n piece ++ drop (at + n) bytes
read_on bytes piece at n front = rw (front, take_rest, ← drop-drop n at bytes) (sym (take-append-drop n (drop at bytes)))
