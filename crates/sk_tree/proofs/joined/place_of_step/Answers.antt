use Rattle.std.proofs.Common.{rules, get_or}
use Rattle.std.specs.Prelude.{None}
use Rattle.std.proofs.lemmas.Option.{slice_get-get_or}
use Rattle.std.proofs.lemmas.List.Sorted.{answers_always}
use Rattle.sk_base.specs.declared.Name.TheVariants.{Con}
use Rattle.sk_rules.specs.declared.Taken.{Taken as Merging}
use Rattle.sk_family.specs.declared.Merge.TheVariants.{Two}
use Rattle.sk_base.proofs.NameOrder.{same_name}
use Rattle.sk_tree.proofs.joined.place_of_step.Goals as goal

any_merge : Merging
any_merge = record { step = Con 0; merge = Two (Con 0) (Con 0); shared = record { a = record { 0 = 0 }; b = record { 0 = 0 }; c = None } }

pub returns-in-Ok-clause-named : goal.returns-in-Ok-clause-named
returns-in-Ok-clause-named c =
    let found = c.in-Ok.ensures.position (λ (t : Merging). t.step) (answers_always _ _ _ (λ f a r g called. search rules)) in (
      get_or c.args.taken.now c.in-Ok.place any_merge,
      slice_get-get_or c.args.taken.now c.in-Ok.place any_merge c.in-Ok.ensures.bound,
      same_name _ c.args.name (found any_merge),
    )
