use Rattle.std.proofs.Common.{sym, ◌∙◌}
use Rattle.sk_place.specs.Running.{AreHeld}
use Rattle.sk_place.proofs.Slots.{there_along, answered}
use Rattle.sk_place.proofs.placing.stepped.Given.{Over}
use Rattle.sk_place.proofs.placing.stepped.Goals as goal

pub taken-requires-3-clause-there : goal.taken-requires-3-clause-there
taken-requires-3-clause-there g c =
    let s = c.args.step.now in
    let differ = c.requires.possible.differ in
    there_along g.G.Grid.BITS c.args.g.now _ _ s.three
    (c.in_ok-two.ensures.others s.three (λ e. differ.1 (sym e)) ∙ c.in_ok-one.ensures.others s.three differ.2) c.requires.possible.three

are_held : (g : Over) (c : goal.In_ok-three g) → AreHeld g.G.Grid.BITS c.args.g.now c.args.live.now c.args.step.now c.in_ok-one.one c.in_ok-two.two c.in_ok-three.three
are_held g c =
    let s = c.args.step.now in
    let differ = c.requires.possible.differ in
    record {
      first = c.in_ok-one.ensures.boxes;
      second = sym (c.in_ok-one.ensures.others s.two (λ e. differ.0 (sym e))) ∙ c.in_ok-two.ensures.boxes;
      third = sym (c.in_ok-two.ensures.others s.three (λ e. differ.1 (sym e)) ∙ c.in_ok-one.ensures.others s.three differ.2) ∙ c.in_ok-three.ensures.boxes;
    }

pub joined-requires-clause-corners : goal.joined-requires-clause-corners
joined-requires-clause-corners g c = c.requires.possible.corners _ _ _ (are_held g c)

pub joined-requires-clause-constructible : goal.joined-requires-clause-constructible
joined-requires-clause-constructible g c = c.requires.possible.constructible _ _ _ (are_held g c)

pub returns-clause-value : goal.returns-clause-value
returns-clause-value g c =
    let s = c.args.step.now in
    let differ = c.requires.possible.differ in
    let are : AreHeld g.G.Grid.BITS c.args.g.now c.args.live.now s c.in_ok-one.one c.in_ok-two.two c.in_ok-three.three = record {
      first = c.in_ok-one.ensures.boxes;
      second = sym (c.in_ok-one.ensures.others s.two (λ e. differ.0 (sym e))) ∙ c.in_ok-two.ensures.boxes;
      third = sym (c.in_ok-two.ensures.others s.three (λ e. differ.1 (sym e)) ∙ c.in_ok-one.ensures.others s.three differ.2) ∙ c.in_ok-three.ensures.boxes;
    } in
    answered c.args.placing g.G.Grid.BITS c.args.g.now c.args.live.now s c.in_ok-one.one c.in_ok-two.two c.in_ok-three.three are c.joined.result c.joined.ensures
