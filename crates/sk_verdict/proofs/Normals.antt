-- What a normal family of a sound graph tells of its clusters.
use Rattle.std.proofs.Common.{◌≡◌, ◌≢◌, ℕ, ◌+◌, ◌-◌, ◌*◌, ◌≤◌, List, [], ◌∷◌, length, ap, sym, subst, ◌∙◌, arith}
use Rattle.std.specs.Prelude.{Contains, AllPairs}
use Rattle.sk_base.specs.declared.Elem.{Elem}
use Rattle.sk_base.specs.declared.Graph.{Graph}
use Rattle.sk_base.specs.SoundGraph.{IsSoundGraph}
use Rattle.sk_base.proofs.Members.{contains_one, contains_mapped}
use Rattle.sk_family.specs.declared.Cluster.{Cluster}
use Rattle.sk_family.specs.Body.{Body}
use Rattle.sk_family.specs.Clusters.{Clusters, body_of, bodies, IsSound}
use Rattle.sk_family.proofs.Naming.{elements_apart}
use Rattle.sk_rules.specs.Excess.{weight_of, held, AreConstraints}
use Rattle.sk_rules.specs.Reach.{IsNormal}
use Rattle.sk_rules.proofs.NormalForm.{one_of_elements}
use Rattle.sk_rules.proofs.Counting.{reached_tight, owned_is_held}
use Rattle.sk_rules.proofs.KeptClusters.{owned_are_few}
use Rattle.sk_rules.proofs.WeighedGraphs.{sound_two_each}
use Rattle.sk_verdict.specs.Parts.{part_with}
use Rattle.sk_verdict.specs.Building.{owned_part}

module _ (g : Graph) (f : List Body) (sound : IsSoundGraph g) (normal : IsNormal g f) where
  -- it holds at least what is due
  pub holds_enough : (x : Body) → Contains f x → 2 * length x.elements ≤ held g x.elements + 3
  holds_enough x x_in =
      let enough = (reached_tight g f sound.edges_rise normal.reached).enough x x_in in
      let same = owned_is_held g f sound.edges_rise (sound_two_each g sound) normal x x_in in
      omega (arith, enough, same)

  -- it has two different elements
  pub has_two : (x : Body) → Contains f x → (u : Elem) × (v : Elem) × (u ≢ v) × Contains x.elements u × Contains x.elements v
  has_two x x_in =
      let tight = reached_tight g f sound.edges_rise normal.reached in
      let own = tight.family.owns x x_in in
      let (s, s_in, is, within) = tight.inside x x_in own.0 own.1 in
      let (u, v, differ, u_in, v_in) = sound_two_each g sound s s_in in
      (u, v, differ, within u u_in, within v v_in)

  pub more_than_one : (x : Body) → Contains f x → (e : Elem) → x.elements ≢ e ∷ []
  more_than_one x x_in e is =
      let (u, v, differ, u_in, v_in) = has_two x x_in in
      differ (sym (contains_one e u (subst (λ es. Contains es u) is u_in)) ∙ contains_one e v (subst (λ es. Contains es v) is v_in))

  -- no other one has the same elements
  pub same_elements : (x y : Body) → Contains f x → Contains f y → x.elements ≡ y.elements → x ≡ y
  same_elements x y x_in y_in = one_of_elements g f normal.closed x y x_in y_in (has_two x x_in)

module _ (g : Graph) (f : Clusters) (sound : IsSoundGraph g) (normal : IsNormal g (bodies f)) (family : IsSound f) where
  -- no two clusters have the same elements
  pub elements_differ : AllPairs (λ (c d : Cluster). c.elements ≢ d.elements) f.live
  elements_differ = elements_apart f family (same_elements g (bodies f) sound normal)

  module _ (c : Cluster) (c_in : Contains f.live c) where
    body_in : Contains (bodies f) (body_of c)
    body_in = contains_mapped body_of f.live c c_in

    pub cluster_holds : weight_of g c.owned ≡ held g c.elements
    cluster_holds = owned_is_held g (bodies f) sound.edges_rise (sound_two_each g sound) normal (body_of c) body_in

    pub cluster_enough : 2 * length c.elements ≤ weight_of g c.owned + 3
    cluster_enough = (reached_tight g (bodies f) sound.edges_rise normal.reached).enough (body_of c) body_in

    pub cluster_owned : AreConstraints g c.owned
    cluster_owned = record {
      rise = (family.bodies_rise c c_in).owned;
      few = (let few = owned_are_few g f normal.reached sound.edges_rise family c c_in in let all = sound.few_constraints in omega arith);
      there = λ k k_in. (let s = (reached_tight g (bodies f) sound.edges_rise normal.reached).inside (body_of c) body_in k k_in in (s.0, s.1, s.2));
    }

    -- its part is that of its elements
    pub part_is : owned_part g c ≡ part_with g c.elements
    part_is = ap (λ (n : ℕ). record { elements = c.elements; held = n; due = 2 * length c.elements - 3 }) cluster_holds
