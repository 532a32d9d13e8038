-- Where the elements lie by a claim that is accepted, the least tolerances are no greater than the claim's.
use Rattle.std.proofs.Common.{◌≡◌, inl, inr, ℕ, ◌≤◌, List, [], ◌∷◌, refl, ap, subst}
use Rattle.std.specs.Prelude.{Contains}
use Rattle.std.proofs.lemmas.List.Elements.{Contains-append_cases}
use Rattle.sk_base.specs.declared.Block.{Block}
use Rattle.sk_base.specs.declared.Edge.{Edge}
use Rattle.sk_base.specs.declared.Elem.{Elem}
use Rattle.sk_base.specs.declared.Kind.{Kind}
use Rattle.sk_base.specs.declared.Kind.TheVariants as kinds
use Rattle.sk_base.specs.declared.Measure.{Measure}
use Rattle.sk_base.specs.declared.Measure.TheVariants.{PointPoint, PointLine, LineLine}
use Rattle.sk_base.specs.declared.Node.{Node}
use Rattle.sk_base.specs.declared.Placed.{Placed}
use Rattle.sk_base.specs.declared.Sketch.{Sketch}
use Rattle.sk_base.specs.SoundSketch.{IsSoundSketch}
use Rattle.sk_base.proofs.Members.{contains_none, contains_head, contains_later, contains_one, mapped_from}
use Rattle.sk_base.proofs.Unions.{union_cases}
use Rattle.sk_graph.specs.SketchGraph.{graph_of}
use Rattle.sk_graph.proofs.Soundness.{graph_is_sound}
use Rattle.sk_measure.specs.Holding.{tolerance_of}
use Rattle.sk_measure.specs.Items.{normal, constraint, block, Holds}
use Rattle.sk_tolerance.specs.declared.Tolerance.{Tolerance}
use Rattle.sk_tolerance.specs.Tolerances.{number_of, normal_of_kind, normals, distance_of_measure, distances, angle_of_measure, angles, rigid, AllHold, AllHoldWithin}
use Rattle.sk_solve.specs.Placements.{IsTolerance}
use Rattle.sk_claims.specs.declared.claim.Claim.{Claim}
use Rattle.sk_verify.specs.Failing.{IsAccepted}
use Rattle.sk_verify.proofs.Claimed.{holds as holds_claimed}

module _ (p : Placed) (t w : ℕ) where
  distances_hold : (edges : List Edge) → ((e : Edge) → Contains edges e → Holds p (constraint e) (tolerance_of e.measure t w)) → AllHold p (distances edges) t
  distances_hold [] all item h = absurd (contains_none item h)
  distances_hold (e ∷ edges) all item h =
      elim (Contains-append_cases (distance_of_measure e e.measure) (distances edges) item h) [
        | inl here ↦ at_edge e.measure (all e (contains_head e edges)) here
        | inr later ↦ distances_hold edges (λ d d_in. all d (contains_later e edges d d_in)) item later
      ]
    where
      at_edge : (m : Measure) → Holds p (constraint e) (tolerance_of m t w) → Contains (distance_of_measure e m) item → Holds p item t
      at_edge (PointPoint len) holds here = subst (λ i. Holds p i t) (contains_one (constraint e) item here) holds
      at_edge (PointLine len side) holds here = subst (λ i. Holds p i t) (contains_one (constraint e) item here) holds
      at_edge (LineLine ratio sense) holds here = absurd (contains_none item here)

  angles_hold : (edges : List Edge) → ((e : Edge) → Contains edges e → Holds p (constraint e) (tolerance_of e.measure t w)) → AllHold p (angles edges) w
  angles_hold [] all item h = absurd (contains_none item h)
  angles_hold (e ∷ edges) all item h =
      elim (Contains-append_cases (angle_of_measure e e.measure) (angles edges) item h) [
        | inl here ↦ at_edge e.measure (all e (contains_head e edges)) here
        | inr later ↦ angles_hold edges (λ d d_in. all d (contains_later e edges d d_in)) item later
      ]
    where
      at_edge : (m : Measure) → Holds p (constraint e) (tolerance_of m t w) → Contains (angle_of_measure e m) item → Holds p item w
      at_edge (PointPoint len) holds here = absurd (contains_none item here)
      at_edge (PointLine len side) holds here = absurd (contains_none item here)
      at_edge (LineLine ratio sense) holds here = subst (λ i. Holds p i w) (contains_one (constraint e) item here) holds

  normals_hold : (nodes : List Node) → ((line : Elem) → Contains nodes (record { elem = line; kind = kinds.Line }) → Holds p (normal line) w) → AllHold p (normals nodes) w
  normals_hold [] all item h = absurd (contains_none item h)
  normals_hold (n ∷ nodes) all item h =
      elim (Contains-append_cases (normal_of_kind n.elem n.kind) (normals nodes) item h) [
        | inl here ↦ at_node n.kind refl here
        | inr later ↦ normals_hold nodes (λ line line_in. all line (contains_later n nodes _ line_in)) item later
      ]
    where
      at_node : (k : Kind) → n.kind ≡ k → Contains (normal_of_kind n.elem k) item → Holds p item w
      at_node kinds.Point is here = absurd (contains_none item here)
      at_node kinds.Line is here =
          let make : Kind → Node = λ k. record { elem = n.elem; kind = k } in
          subst (λ i. Holds p i w) (contains_one (normal n.elem) item here) (all n.elem (subst (λ (m : Node). Contains (n ∷ nodes) m) (ap make is) (contains_head n nodes)))

pub tolerances_claimed : (s : Sketch) → IsSoundSketch s → (c : Claim) → IsAccepted s (graph_of s) c → (t : Tolerance) → IsTolerance c.at (graph_of s) t → (t.t ≤ c.t) × (t.w ≤ c.w)
tolerances_claimed s sound c is t least =
    let graph = graph_is_sound s sound in
    let all : AllHoldWithin c.at (graph_of s) c.t c.w = holds_claimed s (graph_of s) c is graph.blocks_rise graph.blocks_apart in (
      least.lengths.least c.t (λ item h. elim (union_cases number_of (rigid (graph_of s).blocks) (distances (graph_of s).edges) item h) [
        | inl of_block ↦ (
            let (b, b_in, same) = mapped_from (λ (x : Block). block x) (graph_of s).blocks item of_block in
            subst (λ i. Holds c.at i c.t) same (all.blocks b b_in))
        | inr distance ↦ distances_hold c.at c.t c.w (graph_of s).edges all.edges item distance
      ]),
      least.angles.least c.w (λ item h. elim (Contains-append_cases (normals (graph_of s).nodes) (angles (graph_of s).edges) item h) [
        | inl line ↦ normals_hold c.at c.t c.w (graph_of s).nodes all.lines item line
        | inr angle ↦ angles_hold c.at c.t c.w (graph_of s).edges all.edges item angle
      ]),
    )
