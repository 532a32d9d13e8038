use Rattle.std.proofs.Common.{◌<◌, arith}
use Rattle.sk_base.specs.declared.Name.TheVariants.{Con}
use Rattle.sk_triangles.specs.declared.ends.End.{End}
use Rattle.sk_triangles.proofs.Growing.{grows_end}
use Rattle.sk_triangles.specs.Walk.{Found}
use Rattle.sk_triangles.proofs.Walking.{goes_on, grows_to}
use Rattle.sk_triangles.proofs.walk.add_triangles.Goals as goal
use Rattle.sk_triangles.proofs.walk.add_triangles.Given.{Over}
use Rattle.sk_triangles.proofs.walk.add_triangles.Goals.{After-count_up_to-done}

abbrev none : End
none = record { corner = record { 0 = 0 }; elem = record { 0 = 0 }; name = Con 0 }

onwards : (g : Over) (c : After-count_up_to-done g) → c.loop-done.done < c.count_up_to-done.result
onwards g c = goes_on c.args.ends.now c.loop-done.done c.count_up_to-done.result none c.loop-done-test.true c.count_up_to-done.ensures.place

pub loop-done-smaller : goal.loop-done-smaller
loop-done-smaller g c = (let further = onwards g c in let inside = c.count_up_to-done.ensures.within in omega arith)

pub loop-done-preserved : goal.loop-done-preserved
loop-done-preserved g c = record {
  within = c.count_up_to-done.ensures.within;
  grows = grows_to c.args.ends.now c.loop-done.done c.count_up_to-done.result none c.loop-done-test.true c.count_up_to-done.ensures.place c.requires c.count_up_to-done.ensures.within (Found (g.V.Visitor.keeps c.args.visitor.now) c.args.lines.now c.args.counts.now c.args.ends.now)
      c.args.all.now c.loop-done.all c.add_from_corner.new.all c.loop-done.invariant.grows c.in_ok-add_from_corner.ensures;
}

pub returns : goal.returns
returns g c = grows_end (Found (g.V.Visitor.keeps c.args.visitor.now) c.args.lines.now c.args.counts.now c.args.ends.now) c.args.ends.now c.args.all.now c.loop-done.all c.loop-done.done c.loop-done-test.false c.loop-done.invariant.grows
