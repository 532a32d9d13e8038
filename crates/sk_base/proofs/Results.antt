-- What is known of a result that holds no value.
use Rattle.std.proofs.Common.{◌≡◌, true, false, Result, Ok, Err, IsErr, IsErrAnd, ap}

-- it is the error that it holds
pub err_is : {X E : Type 0} (r : Result X E) (e : E) → IsErr r × IsErrAnd r (λ x. x ≡ e) → r ≡ Err e
err_is (Ok x) e h = (let never : false ≡ true = h.0 in absurd (cc))
err_is (Err d) e h = ap Err h.1
