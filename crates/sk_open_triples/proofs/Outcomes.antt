-- What is told of a result, whichever it is.
use Rattle.std.proofs.Common.{◌⊎◌, inl, inr}
use Rattle.std.specs.Prelude.{Result, Ok, Err, IfOk, OnOk, OnErr}

pub both_ok : {T E : Type 0} (P Q R : T → Type 0) (r : Result T E) → IfOk r P → IfOk r Q → ((x : T) → P x → Q x → R x) → IfOk r R
both_ok P Q R (Ok x) p q to = to x p q
both_ok P Q R (Err e) p q to = tt

pub on_err : {T E P : Type 0} (r : Result T E) → P → OnErr r P
on_err (Ok x) h = tt
on_err (Err e) h = h

pub stays_or_grows : {E : Type 0} (r : Result Unit E) (P Q : Type 0) → OnOk r P → OnErr r Q → P ⊎ Q
stays_or_grows (Ok x) P Q p q = inl p
stays_or_grows (Err e) P Q p q = inr q

pub if_ok : {T E P : Type 0} (r : Result T E) → P → OnOk r P
if_ok (Ok x) h = h
if_ok (Err e) h = tt
