use Rattle.std.proofs.Common.{◌≡◌, ◌∙◌, ◌∷◌, [], ◌++◌, List, Bool, ap, sym, subst}
use Rattle.sk_base.specs.declared.Name.{Name}
use Rattle.sk_base.proofs.Members.{contains_head, contains_later}
use Rattle.sk_family.specs.declared.Merge.{Merge}
use Rattle.sk_family.specs.declared.Merge.TheVariants.{Two, Three}
use Rattle.sk_family.specs.Merges.{names_of}
use Rattle.sk_rules.specs.Merges.{CanTake}
use Rattle.sk_close_any_order.specs.Grown.{HasGrown}
use Rattle.sk_rules.proofs.Takable.{have_elements}
use Rattle.sk_close_any_order.proofs.TakingIn.{begun, has_none}
use Rattle.sk_close_any_order.proofs.growth.Growth.of.Goals as goal

pub take-requires-clause-grown : goal.take-requires-clause-grown
take-requires-clause-grown c =
    subst (λ (ns : List Name). HasGrown c.args.index.now c.args.graph.now c.args.family.now ns c.new-3.result.items) (sym c.new.ensures)
    (subst (λ (ms : List Bool). HasGrown c.args.index.now c.args.graph.now c.args.family.now [] ms) (sym c.new-3.ensures.items)
    (has_none c.args.index.now c.args.graph.now c.args.family.now c.requires.represents))

pub take-requires-clause-some : goal.take-requires-clause-some
take-requires-clause-some c =
    let can = subst (λ (m : Merge). CanTake c.args.graph.now c.args.family.now m) c.in-Two.is c.requires.can in
    have_elements c.args.graph.now c.args.family.now c.requires.sound (Two c.in-Two.x c.in-Two.y) can c.in-Two.x (contains_head c.in-Two.x (c.in-Two.y ∷ []))

pub take-requires-in-Two-clause-some : goal.take-requires-in-Two-clause-some
take-requires-in-Two-clause-some c =
    let can = subst (λ (m : Merge). CanTake c.args.graph.now c.args.family.now m) c.in-Two.is c.requires.can in
    have_elements c.args.graph.now c.args.family.now c.requires.sound (Two c.in-Two.x c.in-Two.y) can c.in-Two.y
    (contains_later c.in-Two.x (c.in-Two.y ∷ []) c.in-Two.y (contains_head c.in-Two.y []))

pub take-requires-in-Three-clause-grown : goal.take-requires-in-Three-clause-grown
take-requires-in-Three-clause-grown c =
    subst (λ (ns : List Name). HasGrown c.args.index.now c.args.graph.now c.args.family.now ns c.new-3.result.items) (sym c.new.ensures)
    (subst (λ (ms : List Bool). HasGrown c.args.index.now c.args.graph.now c.args.family.now [] ms) (sym c.new-3.ensures.items)
    (has_none c.args.index.now c.args.graph.now c.args.family.now c.requires.represents))

pub take-requires-in-Three-clause-some : goal.take-requires-in-Three-clause-some
take-requires-in-Three-clause-some c =
    let x = c.in-Three.x in
    let y = c.in-Three.y in
    let z = c.in-Three.z in
    let can = subst (λ (m : Merge). CanTake c.args.graph.now c.args.family.now m) c.in-Three.is c.requires.can in
    have_elements c.args.graph.now c.args.family.now c.requires.sound (Three x y z) can x (contains_head x (y ∷ z ∷ []))

pub take-requires-in-Three-2-clause-some : goal.take-requires-in-Three-2-clause-some
take-requires-in-Three-2-clause-some c =
    let x = c.in-Three.x in
    let y = c.in-Three.y in
    let z = c.in-Three.z in
    let can = subst (λ (m : Merge). CanTake c.args.graph.now c.args.family.now m) c.in-Three.is c.requires.can in
    have_elements c.args.graph.now c.args.family.now c.requires.sound (Three x y z) can y (contains_later x (y ∷ z ∷ []) y (contains_head y (z ∷ [])))

pub take-requires-in-Three-3-clause-some : goal.take-requires-in-Three-3-clause-some
take-requires-in-Three-3-clause-some c =
    let x = c.in-Three.x in
    let y = c.in-Three.y in
    let z = c.in-Three.z in
    let can = subst (λ (m : Merge). CanTake c.args.graph.now c.args.family.now m) c.in-Three.is c.requires.can in
    have_elements c.args.graph.now c.args.family.now c.requires.sound (Three x y z) can z (contains_later x (y ∷ z ∷ []) z (contains_later y (z ∷ []) z (contains_head z [])))

pub returns-in_ok-take-in-Two-2 : goal.returns-in_ok-take-in-Two-2
returns-in_ok-take-in-Two-2 c =
    let first : c.take.new.self.names ≡ c.in-Two.x ∷ [] = c.in_ok-take-in-Two.ensures.names ∙ ap (λ (l : List Name). l ++ c.in-Two.x ∷ []) c.new.ensures in
    let all : c.take-in-Two.new.self.names ≡ c.in-Two.x ∷ c.in-Two.y ∷ [] = c.in_ok-take-in-Two-2.ensures.names ∙ ap (λ (l : List Name). l ++ c.in-Two.y ∷ []) first in
    begun c.args.graph.now c.args.family.now c.requires.sound c.args.merge c.requires.can c.take-in-Two.new.index c.take-in-Two.new.self.names c.take-in-Two.new.self.marks.items
    (all ∙ ap (λ (m : Merge). names_of m) (sym c.in-Two.is)) c.in_ok-take-in-Two-2.ensures.grown

pub returns-in_ok-take-in-Three-3 : goal.returns-in_ok-take-in-Three-3
returns-in_ok-take-in-Three-3 c =
    let first : c.take-in-Three.new.self.names ≡ c.in-Three.x ∷ [] = c.in_ok-take-in-Three.ensures.names ∙ ap (λ (l : List Name). l ++ c.in-Three.x ∷ []) c.new.ensures in
    let two : c.take-in-Three-2.new.self.names ≡ c.in-Three.x ∷ c.in-Three.y ∷ [] = c.in_ok-take-in-Three-2.ensures.names ∙ ap (λ (l : List Name). l ++ c.in-Three.y ∷ []) first in
    let all : c.take-in-Three-3.new.self.names ≡ c.in-Three.x ∷ c.in-Three.y ∷ c.in-Three.z ∷ [] = c.in_ok-take-in-Three-3.ensures.names ∙ ap (λ (l : List Name). l ++ c.in-Three.z ∷ []) two in
    begun c.args.graph.now c.args.family.now c.requires.sound c.args.merge c.requires.can c.take-in-Three-3.new.index c.take-in-Three-3.new.self.names c.take-in-Three-3.new.self.marks.items
    (all ∙ ap (λ (m : Merge). names_of m) (sym c.in-Three.is)) c.in_ok-take-in-Three-3.ensures.grown
