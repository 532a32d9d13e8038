-- Texts that are put one behind another.
use Rattle.std.proofs.Common.{◌≡◌, ℕ, List, ◌++◌, ap, ◌∙◌, append_assoc, Result, Ok, Err, OnOk}

two_put : (old a b one two : List ℕ) → one ≡ old ++ a → two ≡ one ++ b → two ≡ old ++ (a ++ b)
two_put old a b one two first second = second ∙ ap (λ zs. zs ++ b) first ∙ append_assoc old a b

on_ok : {T E : Type 0} (r : Result T E) (P Q : Type 0) → (P → Q) → OnOk r P → OnOk r Q
on_ok (Ok x) P Q to p = to p
on_ok (Err e) P Q to p = tt

pub three_put : {T E : Type 0} (r : Result T E) (old a b c one two three : List ℕ) → one ≡ old ++ a → two ≡ one ++ b
    → OnOk r (three ≡ two ++ c) → OnOk r (three ≡ old ++ ((a ++ b) ++ c))
three_put r old a b c one two three first second third =
    on_ok r (three ≡ two ++ c) (three ≡ old ++ ((a ++ b) ++ c)) (λ last. two_put old (a ++ b) c two three (two_put old a b one two first second) last) third

pub four_put : {T E : Type 0} (r : Result T E) (old a b c d one two three four : List ℕ) → one ≡ old ++ a → two ≡ one ++ b → three ≡ two ++ c
    → OnOk r (four ≡ three ++ d) → OnOk r (four ≡ old ++ (((a ++ b) ++ c) ++ d))
four_put r old a b c d one two three four first second third fourth =
    three_put r old (a ++ b) c d two three four (two_put old a b one two first second) third fourth

pub six_put : {T E : Type 0} (r : Result T E) (old a b c d e f one two three four five six : List ℕ) → one ≡ old ++ a → two ≡ one ++ b → three ≡ two ++ c → four ≡ three ++ d → five ≡ four ++ e
    → OnOk r (six ≡ five ++ f) → OnOk r (six ≡ old ++ (((((a ++ b) ++ c) ++ d) ++ e) ++ f))
six_put r old a b c d e f one two three four five six first second third fourth fifth sixth =
    four_put r old ((a ++ b) ++ c) d e f three four five six (two_put old (a ++ b) c two three (two_put old a b one two first second) third) fourth fifth sixth
