use Rattle.std.proofs.Common.{◌≡◌, ◌-◌, length, sym, subst, ap, arith, List as Items}
use Rattle.sk_base.specs.declared.sketch.Element.{Element}
use Rattle.sk_base.specs.declared.sketch.Constraint.{Constraint}
use Rattle.sk_base.specs.SoundSketch.{IsSoundSketch}
use Rattle.sk_gen.proofs.Soundness.{datum_is_sound, length_elements, length_constraints}
use Rattle.sk_gen.proofs.datum.datum_sketch.Goals as goal

-- the same elements and constraints make a sound sketch
sound_along : (elements elements' : Items Element) (constraints constraints' : Items Constraint) → elements ≡ elements' → constraints ≡ constraints'
    → IsSoundSketch (record { elements = elements'; constraints = constraints' }) → IsSoundSketch (record { elements = elements; constraints = constraints })
sound_along elements elements' constraints constraints' one two sound =
    subst (λ (xs : Items Element). IsSoundSketch (record { elements = xs; constraints = constraints })) (sym one)
    (subst (λ (cs : Items Constraint). IsSoundSketch (record { elements = elements'; constraints = cs })) (sym two) sound)

pub returns-clause-sound : goal.returns-clause-sound
returns-clause-sound c =
    sound_along _ _ _ _ c.in_ok-elements.ensures c.in_ok-constraints.ensures (datum_is_sound (c.args.n - 2) (omega arith))

pub returns-clause-elements : goal.returns-clause-elements
returns-clause-elements c =
    let long = length_elements (c.args.n - 2) in
    let same = ap length c.in_ok-elements.ensures in omega (arith, long, same)

pub returns-clause-constraints : goal.returns-clause-constraints
returns-clause-constraints c =
    let long = length_constraints (c.args.n - 2) in
    let same = ap length c.in_ok-constraints.ensures in omega (arith, long, same)
