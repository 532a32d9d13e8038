-- What a graph has of one number, and how far off it is.
use Rattle.std.proofs.Common.{◌≡◌, ◌==◌, inl, inr, refl, sym, subst, ap, ◌∙◌, arith, ℕ}
use Rattle.std.specs.Prelude.{Contains, Option, None, Some, IsNone, IsSome}
use Rattle.std.proofs.lemmas.Bool.Decides.{nat_tests}
use Rattle.sk_base.specs.declared.Block.{Block}
use Rattle.sk_base.specs.declared.ConId.{ConId}
use Rattle.sk_base.specs.declared.Constraint.{Constraint}
use Rattle.sk_base.specs.declared.Edge.{Edge}
use Rattle.sk_base.specs.declared.Graph.{Graph}
use Rattle.sk_base.specs.declared.Sketch.{Sketch}
use Rattle.sk_base.specs.Lookups.{edge_numbered, block_numbered}
use Rattle.sk_base.specs.Numbering.{con_exact}
use Rattle.sk_base.specs.SoundGraph.{IsSoundGraph}
use Rattle.sk_base.proofs.Finding.{found_in, found_rising}
use Rattle.sk_graph.specs.SketchGraph.{edge_of, block_of, graph_of}
use Rattle.sk_graph.proofs.Given.{contains_given}
use Rattle.sk_graph.proofs.Soundness.{edge_unless_block, given_edge_id, given_block_id}
use Rattle.sk_tolerance.specs.Offs.{HasNumber}

not_some : {X : Type 0} (o : Option X) → o ≡ None → IsSome o → ⊥
not_some None is some = cc
not_some (Some x) is some = cc

-- the constraint of a sketch stands in its graph
pub number_there : (s : Sketch) (c : Constraint) → Contains s.constraints c → HasNumber (graph_of s) c.number
number_there s c c_in = by (edge_of s c) refl (block_of c) refl
  where
    by : (e : Option Edge) → edge_of s c ≡ e → (b : Option Block) → block_of c ≡ b → HasNumber (graph_of s) c.number
    by (Some e) is b b_is = inl (e, contains_given (edge_of s) s.constraints c e c_in is, given_edge_id s c e is)
    by None is (Some b) b_is = inr (b, contains_given block_of s.constraints c b c_in b_is, given_block_id c b b_is)
    by None is None b_is = (
        let none : IsNone (edge_of s c) = rw is refl in
        let some : IsSome (block_of c) = (edge_unless_block s c.number c.rule).0 none in
        absurd (not_some (block_of c) b_is some))

module _ (g : Graph) (sound : IsSoundGraph g) (k : ConId) where
  pub edge_there : (e : Edge) → edge_numbered g k.0 ≡ Some e → Contains g.edges e × (e.id ≡ k)
  edge_there e is = (let found = found_in (λ (d : Edge). d.id.0 == k.0) g.edges e is in (found.0, con_exact e.id k (grind (arith, nat_tests, found.1))))

  pub block_there : (b : Block) → block_numbered g k.0 ≡ Some b → Contains g.blocks b × (b.id ≡ k)
  block_there b is = (let found = found_in (λ (d : Block). d.id.0 == k.0) g.blocks b is in (found.0, con_exact b.id k (grind (arith, nat_tests, found.1))))

  pub edge_found : (e : Edge) → Contains g.edges e → e.id ≡ k → edge_numbered g k.0 ≡ Some e
  edge_found e e_in is = subst (λ (n : ℕ). edge_numbered g n ≡ Some e) (ap (λ (j : ConId). j.0) is) (found_rising (λ (d : Edge). d.id.0) g.edges sound.edges_rise e e_in)

  pub block_found : (b : Block) → Contains g.blocks b → b.id ≡ k → block_numbered g k.0 ≡ Some b
  block_found b b_in is = subst (λ (n : ℕ). block_numbered g n ≡ Some b) (ap (λ (j : ConId). j.0) is) (found_rising (λ (d : Block). d.id.0) g.blocks sound.blocks_rise b b_in)

  -- there is one of a number
  pub only_edge : (e d : Edge) → edge_numbered g k.0 ≡ Some e → Contains g.edges d → d.id ≡ k → e ≡ d
  only_edge e d is d_in named = (let found = edge_found d d_in named in cc)

  pub only_block : (b d : Block) → block_numbered g k.0 ≡ Some b → Contains g.blocks d → d.id ≡ k → b ≡ d
  only_block b d is d_in named = (let found = block_found d d_in named in cc)

  pub not_both : (e : Edge) → edge_numbered g k.0 ≡ Some e → (b : Block) → Contains g.blocks b → b.id ≡ k → ⊥
  not_both e is b b_in named = (let there = edge_there e is in sound.blocks_apart e b there.0 b_in (there.1 ∙ sym named))

  pub no_edge : edge_numbered g k.0 ≡ None → (e : Edge) → Contains g.edges e → e.id ≡ k → ⊥
  no_edge none e e_in named = (let found = edge_found e e_in named in cc)

  pub some_found : HasNumber g k → edge_numbered g k.0 ≡ None → block_numbered g k.0 ≡ None → ⊥
  some_found (inl (e, e_in, named)) none no_block = no_edge none e e_in named
  some_found (inr (b, b_in, named)) none no_block = (let found = block_found b b_in named in cc)
