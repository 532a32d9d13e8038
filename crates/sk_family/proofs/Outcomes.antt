-- What holds of an answer, put together.
use Rattle.std.specs.Prelude.{Result, Ok, Err, OnOk}

pub both_on_ok : {T E P Q R : Type 0} (r : Result T E) → OnOk r P → OnOk r Q → (P → Q → R) → OnOk r R
both_on_ok (Ok x) p q to = to p q
both_on_ok (Err e) p q to = tt
