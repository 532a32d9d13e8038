use Rattle.std.proofs.Common.{take}
use Rattle.sk_triangles.specs.Growing.{FromSome}
use Rattle.sk_neighbours.specs.Partners.{IsLeast, PartnerUnless}
use Rattle.sk_neighbours.proofs.partner.least_partner_at.Given as goal

abbrev pub invariant-loop-elem : goal.invariant-loop-elem
invariant-loop-elem l = IsLeast (FromSome (PartnerUnless l.hub l.index l.x) (take l.elem-index l.elements)) l.least
