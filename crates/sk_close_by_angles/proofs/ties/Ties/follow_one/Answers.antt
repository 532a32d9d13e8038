use Rattle.std.proofs.Common.{ℕ, List, sym, subst}
use Rattle.sk_family.specs.Clusters.{bodies}
use Rattle.sk_close_by_angles.specs.Classes.{AreClasses}
use Rattle.sk_close_by_angles.proofs.Following.{classes_after, ties_after}
use Rattle.sk_close_by_angles.proofs.ties.Ties.follow_one.Goals as goal

pub drop_naming-requires : goal.drop_naming-requires
drop_naming-requires c =
    let (f, (sound, ties, can, is)) = c.requires.one in
    ties.all.in_order

pub add_merges_of_last-requires-clause-classes : goal.add_merges_of_last-requires-clause-classes
add_merges_of_last-requires-clause-classes c =
    let ties = c.args.self.now in
    subst (λ (ks : List ℕ). AreClasses c.args.graph.now (bodies c.args.family.now) ks) (sym c.as_slice-classes.ensures.value)
    (classes_after c.args.graph.now ties.classes.items ties.merges c.args.x c.args.y c.args.family.now c.requires.one)

pub returns-clause-ties : goal.returns-clause-ties
returns-clause-ties c =
    let ties = c.args.self.now in
    ties_after c.args.graph.now ties.classes.items ties.merges c.args.x c.args.y c.args.family.now c.requires.one c.drop_naming.new.self c.add_merges_of_last.new.found c.drop_naming.ensures
    c.in_ok-add_merges_of_last.ensures.found
