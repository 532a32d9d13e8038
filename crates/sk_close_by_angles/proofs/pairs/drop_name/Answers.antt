use Rattle.std.proofs.Common.{◌≡◌, ◌<◌, ◌∙◌, ap, sym, subst, List, length, get_or, false}
use Rattle.std.specs.Prelude.{AllPairs, Some, slice_get, is_ok}
use Rattle.std.proofs.lemmas.Option.{slice_get-get_or}
use Rattle.sk_base.specs.declared.Name.{Name}
use Rattle.sk_base.specs.ClusterNames.{IsBelow, is_named}
use Rattle.sk_base.proofs.NameOrder.{same_name}
use Rattle.sk_open_triples.proofs.Sorting.{found_among}
use Rattle.sk_close_by_angles.proofs.Pairing.{name_taken, name_absent}
use Rattle.sk_close_by_angles.proofs.pairs.drop_name.Goals as goal

pub remove-requires : goal.remove-requires
remove-requires c = subst (λ (l : List Name). c.in-Ok.place < length l) c.as_slice.ensures c.in-Ok.ensures.bound

pub returns-in-Ok : goal.returns-in-Ok
returns-in-Ok c =
    let all = c.as_slice.ensures in
    let name = c.args.name in
    let place = c.in-Ok.place in
    let found : get_or c.as_slice.result.now place name ≡ name = same_name _ name (c.in-Ok.ensures.ok name) in
    let at : slice_get c.as_slice.result.now place ≡ Some name = slice_get-get_or c.as_slice.result.now place name c.in-Ok.ensures.bound ∙ ap Some found in
    c.remove.ensures ∙ name_taken c.args.names.now name c.requires place (subst (λ (l : List Name). slice_get l place ≡ Some name) all at)

pub returns-in-Err : goal.returns-in-Err
returns-in-Err c =
    let all = c.as_slice.ensures in
    let name = c.args.name in
    let order = subst (λ (l : List Name). AllPairs IsBelow l) (sym all) c.requires in
    let found = found_among c.as_slice.result.now name order c.binary_search.result c.binary_search.ensures.bound c.binary_search.ensures.position in
    name_absent c.args.names.now name (subst (λ (l : List Name). is_named l name ≡ false) all (sym found ∙ ap is_ok c.in-Err.is))
