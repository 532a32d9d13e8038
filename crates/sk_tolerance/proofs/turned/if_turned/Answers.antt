use Rattle.std.proofs.Common.{[], refl}
use Rattle.sk_base.proofs.Members.{contains_none}
use Rattle.sk_base.proofs.Searches.{refused}
use Rattle.sk_tolerance.proofs.turned.if_turned.Goals as goal

pub returns-else-is_as_drawn : goal.returns-else-is_as_drawn
returns-else-is_as_drawn c = record {
  before = [];
  after = [];
  parts = refl;
  has = refused (rw c.if-is_as_drawn.false at c.is_as_drawn.ensures.1);
  none_before = λ y h. absurd (contains_none y h);
}
