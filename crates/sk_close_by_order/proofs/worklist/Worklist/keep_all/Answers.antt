use Rattle.std.proofs.Common.{◌≡◌, ◌∙◌, ◌++◌, sym, subst, ap, List}
use Rattle.std.specs.Prelude.{AllPairs}
use Rattle.sk_base.specs.declared.Name.{Name}
use Rattle.sk_base.specs.declared.Name.TheVariants.{Step}
use Rattle.sk_base.specs.ClusterNames.{IsBelow}
use Rattle.sk_family.specs.declared.Merge.{Merge}
use Rattle.sk_close_by_order.specs.Known.{Knows}
use Rattle.sk_open_triples.specs.Avoiding.{avoiding}
use Rattle.sk_close_by_order.proofs.Adding.{listed_same, right_found, taken_uncovered}
use Rattle.sk_close_by_order.proofs.Mending.{avoiding_same}
use Rattle.sk_close_by_order.proofs.Turning.{knows_all, all_are_choices}
use Rattle.sk_close_by_order.proofs.worklist.Worklist.keep_all.Goals as goal

pub take_in-requires-clause-in_order : goal.take_in-requires-clause-in_order
take_in-requires-clause-in_order c = subst (λ (ns : List Name). AllPairs IsBelow ns) (sym c.as_slice-2.ensures.value) c.in_ok-gone.ensures.in_order

pub take_in-requires-clause-right : goal.take_in-requires-clause-right
take_in-requires-clause-right c =
    let w = c.args.self.now in
    let (g, follows) = c.requires in
    right_found w.index g c.args.family.now c.in_ok-found.ensures.sound follows.represents w.covered w.kept w.gone c.as_slice-2.result.now
    (listed_same c.as_slice-2.result.now c.in_ok-gone.gone.items c.as_slice.result.now w.gone c.as_slice-2.ensures.value c.as_slice.ensures c.in_ok-gone.ensures.same)
    w.fresh c.in_ok-found.found w.heir follows.heirs (c.in_ok-found.ensures.found g follows)

pub returns : goal.returns
returns c g follows no_pair =
    let w = c.args.self.now in
    let f = c.args.family.now in
    let listed = c.as_slice-2.result.now in
    let all = c.take_in.new.self in
    let taken = c.in_ok-take_in.ensures in
    let same = listed_same listed c.in_ok-gone.gone.items c.as_slice.result.now w.gone c.as_slice-2.ensures.value c.as_slice.ensures c.in_ok-gone.ensures.same in
    let uncovered = taken_uncovered w.index g f c.in_ok-found.ensures.sound follows.represents w.covered w.kept w.gone listed same w.fresh c.in_ok-found.found w.heir follows.heirs (c.in_ok-found.ensures.found g follows) all taken in
    let all_is : all ≡ avoiding w.gone w.kept ++ taken.more = taken.parts ∙ ap (λ (l : List Merge). l ++ taken.more) (avoiding_same listed w.gone same w.kept) in (
      record {
        represents = follows.represents;
        knows = subst (λ n. Knows w.clear n all c.new.result g f) (ap Step (sym c.next_step.ensures))
            (knows_all g f c.in_ok-found.ensures.sound w.clear w.covered w.kept taken.more all w.gone c.new.result follows.knows uncovered all_is c.new.ensures);
        heirs = tt;
      },
      all_are_choices g f c.in_ok-found.ensures.sound w.clear w.covered w.kept taken.more all w.gone c.new.result follows.knows uncovered all_is c.new.ensures no_pair,
    )
