use Rattle.std.proofs.Common.{[], ◌∷◌, sym, subst}
use Rattle.std.specs.Prelude.{Contains}
use Rattle.sk_family.specs.Clusters.{unnamed}
use Rattle.sk_family.specs.declared.Merge.{Merge}
use Rattle.sk_family.specs.Merges.{names_of}
use Rattle.sk_neighbours.specs.declared.Index.{Index}
use Rattle.sk_neighbours.specs.Indexed.{IsHeld, IsIndex, Represents}
use Rattle.sk_neighbours.proofs.Representing.{represents_left}
use Rattle.sk_close_by_order.proofs.Entering.{same_knows}
use Rattle.sk_close_by_order.proofs.worklist.Worklist.leave.Goals as goal

pub take_out_all-requires-clause-index : goal.take_out_all-requires-clause-index
take_out_all-requires-clause-index c = (let (g, follows) = c.requires.follows in subst (λ (ix : Index). IsIndex ix) (sym c.note.ensures.same.index) follows.represents.index)

pub take_out_all-requires-clause-known : goal.take_out_all-requires-clause-known
take_out_all-requires-clause-known c x held = (let (g, follows) = c.requires.follows in (follows.represents.held x).0 (subst (λ (ix : Index). IsHeld ix x) c.note.ensures.same.index held))

pub take_out_all-requires-clause-some : goal.take_out_all-requires-clause-some
take_out_all-requires-clause-some c n n_in =
    c.requires.some n (subst (λ (m : Merge). Contains (names_of m) n) (sym c.in-Two.is) n_in)

pub take_out_all-requires-in-Three-clause-index : goal.take_out_all-requires-in-Three-clause-index
take_out_all-requires-in-Three-clause-index c = (let (g, follows) = c.requires.follows in subst (λ (ix : Index). IsIndex ix) (sym c.note.ensures.same.index) follows.represents.index)

pub take_out_all-requires-in-Three-clause-known : goal.take_out_all-requires-in-Three-clause-known
take_out_all-requires-in-Three-clause-known c x held = (let (g, follows) = c.requires.follows in (follows.represents.held x).0 (subst (λ (ix : Index). IsHeld ix x) c.note.ensures.same.index held))

pub take_out_all-requires-in-Three-clause-some : goal.take_out_all-requires-in-Three-clause-some
take_out_all-requires-in-Three-clause-some c n n_in =
    c.requires.some n (subst (λ (m : Merge). Contains (names_of m) n) (sym c.in-Three.is) n_in)

pub returns-in-Two : goal.returns-in-Two
returns-in-Two c g follows = record {
  represents = subst (λ (m : Merge). Represents c.take_out_all.new.self g (unnamed (names_of m) c.args.family.now.live)) (sym c.in-Two.is)
      (represents_left c.note.new.self.index c.take_out_all.new.self g (c.in-Two.x ∷ c.in-Two.y ∷ []) c.args.family.now.live
      (subst (λ (ix : Index). Represents ix g c.args.family.now.live) (sym c.note.ensures.same.index) follows.represents)
      c.take_out_all.ensures.index c.take_out_all.ensures.held c.take_out_all.ensures.lines);
  knows = same_knows c.args.self.now c.note.new.self c.note.ensures.same g c.args.family.now follows.knows;
  heirs = c.note.ensures.heirs g follows;
}

pub returns-in-Three : goal.returns-in-Three
returns-in-Three c g follows = record {
  represents = subst (λ (m : Merge). Represents c.take_out_all-in-Three.new.self g (unnamed (names_of m) c.args.family.now.live)) (sym c.in-Three.is)
      (represents_left c.note.new.self.index c.take_out_all-in-Three.new.self g (c.in-Three.x ∷ c.in-Three.y ∷ c.in-Three.z ∷ []) c.args.family.now.live
      (subst (λ (ix : Index). Represents ix g c.args.family.now.live) (sym c.note.ensures.same.index) follows.represents)
      c.take_out_all-in-Three.ensures.index c.take_out_all-in-Three.ensures.held c.take_out_all-in-Three.ensures.lines);
  knows = same_knows c.args.self.now c.note.new.self c.note.ensures.same g c.args.family.now follows.knows;
  heirs = c.note.ensures.heirs g follows;
}
