use Rattle.std.proofs.Common.{take}
use Rattle.sk_triangles.specs.Growing.{FromSome}
use Rattle.sk_neighbours.specs.Partners.{IsLeast, PartnerAt}
use Rattle.sk_neighbours.proofs.partner.partner_of.Given as goal

abbrev pub invariant-loop-key : goal.invariant-loop-key
invariant-loop-key l = IsLeast (FromSome (PartnerAt l.index l.x) (take l.key-index l.key-items)) l.least
