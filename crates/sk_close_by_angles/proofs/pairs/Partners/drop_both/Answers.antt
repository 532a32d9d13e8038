use Rattle.std.proofs.Common.{List, [], ◌∷◌, ap, sym, subst}
use Rattle.std.specs.Prelude.{AllPairs, not}
use Rattle.sk_base.specs.declared.Name.{Name}
use Rattle.sk_base.specs.ClusterNames.{IsBelow, is_named}
use Rattle.sk_base.proofs.Pairs.{pairs_filter}
use Rattle.sk_close_by_angles.specs.declared.pairs.Partners.{Partners}
use Rattle.sk_close_by_angles.proofs.Pairing.{both_dropped}
use Rattle.sk_close_by_angles.proofs.pairs.Partners.drop_both.Goals as goal

pub drop_name-requires-2 : goal.drop_name-requires-2
drop_name-requires-2 c =
    subst (λ (ns : List Name). AllPairs IsBelow ns) (sym c.drop_name.ensures)
    (pairs_filter IsBelow (λ (n : Name). not (is_named (c.args.x ∷ []) n)) c.args.self.now.lessers c.requires)

pub returns : goal.returns
returns c =
    ap (λ (ns : List Name). let row : Partners = record { greater = c.args.self.now.greater; lessers = ns } in row)
    (both_dropped c.args.x c.args.y c.args.self.now.lessers c.drop_name.new.names c.drop_name-2.new.names c.drop_name.ensures c.drop_name-2.ensures)
