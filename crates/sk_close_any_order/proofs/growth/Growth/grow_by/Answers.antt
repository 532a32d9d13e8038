use Rattle.std.proofs.Common.{◌∙◌, ◌∷◌, [], ◌++◌, List, ap, sym, subst, inl, inr}
use Rattle.std.specs.Prelude.{Contains}
use Rattle.std.proofs.lemmas.List.Elements.{Contains-append_cases}
use Rattle.sk_base.specs.declared.Name.{Name}
use Rattle.sk_base.proofs.Members.{contains_one}
use Rattle.sk_close_any_order.specs.declared.growth.Joining.{Joining}
use Rattle.sk_close_any_order.specs.Grown.{Joins}
use Rattle.sk_family.proofs.Outcomes.{both_on_ok}
use Rattle.sk_close_any_order.proofs.TakingIn.{grown_both, grown_one, held_apart, held_lives, held_some}
use Rattle.sk_close_any_order.proofs.growth.Growth.grow_by.Goals as goal

pub take-requires-clause-lives : goal.take-requires-clause-lives
take-requires-clause-lives c =
    let (x, held, is, two) = (subst (λ (j : Joining). Joins c.args.index.now c.args.self.now.marks.items j) c.in-Some-One.field-0-is c.in-Some-One.ensures) in
    held_lives c.args.index.now c.args.graph.now c.args.family.now c.requires.sound c.args.self.now.names c.args.self.now.marks.items c.requires.grown.has c.in-Some-One.x x held is

pub take-requires-clause-apart : goal.take-requires-clause-apart
take-requires-clause-apart c =
    let (x, held, is, two) = (subst (λ (j : Joining). Joins c.args.index.now c.args.self.now.marks.items j) c.in-Some-One.field-0-is c.in-Some-One.ensures) in
    held_apart c.args.index.now c.args.graph.now c.args.family.now c.requires.sound c.args.self.now.names c.args.self.now.marks.items c.requires.grown.has c.in-Some-One.x x held is

pub take-requires-clause-some : goal.take-requires-clause-some
take-requires-clause-some c =
    let (x, held, is, (a, b, differ, a_in, b_in)) = (subst (λ (j : Joining). Joins c.args.index.now c.args.self.now.marks.items j) c.in-Some-One.field-0-is c.in-Some-One.ensures) in
    held_some c.args.index.now c.args.graph.now c.args.family.now c.requires.sound c.args.self.now.names c.args.self.now.marks.items c.requires.grown.has c.in-Some-One.x x held is a a_in.0

pub take-requires-in-Some-Both-clause-lives : goal.take-requires-in-Some-Both-clause-lives
take-requires-in-Some-Both-clause-lives c =
    let (x, held, is, third) = (subst (λ (j : Joining). Joins c.args.index.now c.args.self.now.marks.items j) c.in-Some-Both.field-0-is c.in-Some-Both.ensures) in
    held_lives c.args.index.now c.args.graph.now c.args.family.now c.requires.sound c.args.self.now.names c.args.self.now.marks.items c.requires.grown.has c.in-Some-Both.x x held is

pub take-requires-in-Some-Both-clause-apart : goal.take-requires-in-Some-Both-clause-apart
take-requires-in-Some-Both-clause-apart c =
    let (x, held, is, third) = (subst (λ (j : Joining). Joins c.args.index.now c.args.self.now.marks.items j) c.in-Some-Both.field-0-is c.in-Some-Both.ensures) in
    held_apart c.args.index.now c.args.graph.now c.args.family.now c.requires.sound c.args.self.now.names c.args.self.now.marks.items c.requires.grown.has c.in-Some-Both.x x held is

pub take-requires-in-Some-Both-clause-some : goal.take-requires-in-Some-Both-clause-some
take-requires-in-Some-Both-clause-some c =
    let (x, held, is, (a, a_in, third)) = (subst (λ (j : Joining). Joins c.args.index.now c.args.self.now.marks.items j) c.in-Some-Both.field-0-is c.in-Some-Both.ensures) in
    held_some c.args.index.now c.args.graph.now c.args.family.now c.requires.sound c.args.self.now.names c.args.self.now.marks.items c.requires.grown.has c.in-Some-Both.x x held is a a_in.0

pub take-requires-in-Some-Both-2-clause-lives : goal.take-requires-in-Some-Both-2-clause-lives
take-requires-in-Some-Both-2-clause-lives c =
    let (x, held, is, (a, a_in, (b, b_x, (z, z_held, z_is, other, a_b, b_z, third)))) = (subst (λ (j : Joining). Joins c.args.index.now c.args.self.now.marks.items j) c.in-Some-Both.field-0-is c.in-Some-Both.ensures) in
    held_lives c.args.index.now c.args.graph.now c.args.family.now c.requires.sound c.args.self.now.names c.args.self.now.marks.items c.requires.grown.has c.in-Some-Both.y z z_held z_is

pub take-requires-in-Some-Both-2-clause-apart : goal.take-requires-in-Some-Both-2-clause-apart
take-requires-in-Some-Both-2-clause-apart c among =
    let (x, held, is, (a, a_in, (b, b_x, (z, z_held, z_is, other, a_b, b_z, third)))) = (subst (λ (j : Joining). Joins c.args.index.now c.args.self.now.marks.items j) c.in-Some-Both.field-0-is c.in-Some-Both.ensures) in
    elim (Contains-append_cases c.args.self.now.names (c.in-Some-Both.x ∷ []) c.in-Some-Both.y (subst (λ (l : List Name). Contains l c.in-Some-Both.y) c.in_ok-take-in-Some-Both.ensures.names among)) [
      | inl before ↦ held_apart c.args.index.now c.args.graph.now c.args.family.now c.requires.sound c.args.self.now.names c.args.self.now.marks.items c.requires.grown.has c.in-Some-Both.y z z_held z_is before
      | inr here ↦ other (sym (is ∙ contains_one c.in-Some-Both.x c.in-Some-Both.y here))
    ]

pub take-requires-in-Some-Both-2-clause-some : goal.take-requires-in-Some-Both-2-clause-some
take-requires-in-Some-Both-2-clause-some c =
    let (x, held, is, (a, a_in, (b, b_x, (z, z_held, z_is, other, a_b, b_z, third)))) = (subst (λ (j : Joining). Joins c.args.index.now c.args.self.now.marks.items j) c.in-Some-Both.field-0-is c.in-Some-Both.ensures) in
    held_some c.args.index.now c.args.graph.now c.args.family.now c.requires.sound c.args.self.now.names c.args.self.now.marks.items c.requires.grown.has c.in-Some-Both.y z z_held z_is b b_z

pub returns-in-Some-One : goal.returns-in-Some-One
returns-in-Some-One c =
    both_on_ok c.take.result c.take.ensures.names c.take.ensures.grown (λ names has.
    grown_one c.args.index.now c.args.graph.now c.args.family.now c.requires.sound c.args.self.now.names c.args.self.now.marks.items c.requires.grown
    c.take.new.index c.take.new.self.names c.take.new.self.marks.items has c.in-Some-One.x (subst (λ (j : Joining). Joins c.args.index.now c.args.self.now.marks.items j) c.in-Some-One.field-0-is c.in-Some-One.ensures) names)

pub returns-in_ok-take-in-Some-Both : goal.returns-in_ok-take-in-Some-Both
returns-in_ok-take-in-Some-Both c =
    both_on_ok c.take-in-Some-Both-2.result c.take-in-Some-Both-2.ensures.names c.take-in-Some-Both-2.ensures.grown (λ names has.
    grown_both c.args.index.now c.args.graph.now c.args.family.now c.requires.sound c.args.self.now.names c.args.self.now.marks.items c.requires.grown
    c.take-in-Some-Both-2.new.index c.take-in-Some-Both-2.new.self.names c.take-in-Some-Both-2.new.self.marks.items has c.in-Some-Both.x c.in-Some-Both.y (subst (λ (j : Joining). Joins c.args.index.now c.args.self.now.marks.items j) c.in-Some-Both.field-0-is c.in-Some-Both.ensures)
    (names ∙ ap (λ (l : List Name). l ++ c.in-Some-Both.y ∷ []) c.in_ok-take-in-Some-Both.ensures.names))
