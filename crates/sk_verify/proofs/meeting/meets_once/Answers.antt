use Rattle.sk_verify.proofs.Tests.{both_then, same_as}
use Rattle.sk_verify.proofs.meeting.meets_once.Goals as goal

pub returns-then-is_triangle : goal.returns-then-is_triangle
returns-then-is_triangle c = same_as _ (both_then _ (c.is_triangle.ensures.0 c.if-is_triangle.true) c.share_no_others.ensures)
    (λ h. record { triangle = h.0; only_a = h.1.0; only_b = h.1.1.0; only_c = h.1.1.1 })
    (λ m. (m.triangle, (m.only_a, (m.only_b, m.only_c))))
