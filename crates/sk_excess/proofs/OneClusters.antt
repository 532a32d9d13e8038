-- Graphs that make one cluster with all nodes: with more constraints they still do, and a constraint is spare just
-- where they do without it.
use Rattle.std.proofs.Common.{◌≡◌, inl, inr, Bool, true, List, [], ◌∷◌, refl, sym, subst}
use Rattle.std.specs.Prelude.{Contains}
use Rattle.sk_base.specs.declared.Elem.{Elem}
use Rattle.sk_base.specs.declared.ConId.{ConId}
use Rattle.sk_base.specs.declared.Node.{Node}
use Rattle.sk_base.specs.declared.Graph.{Graph}
use Rattle.sk_base.specs.SoundGraph.{IsSoundGraph}
use Rattle.sk_base.proofs.Deciding.{Decided, some_in, each_decided, is_in, elem_settles}
use Rattle.sk_base.proofs.Members.{contains_head, contains_one, contains_mapped, mapped_from}
use Rattle.sk_family.specs.Body.{Body, starts, starting, initial_bodies, SameBodies}
use Rattle.sk_rules.specs.JustSome.{with_just}
use Rattle.sk_rules.specs.Reach.{Reach, IsNormal, either_rule}
use Rattle.sk_rules.proofs.Counting.{reached_tight}
use Rattle.sk_rules.proofs.Families.{kept_along}
use Rattle.sk_rules.proofs.JustSome.{in_part, sound_part}
use Rattle.sk_rules.proofs.Keeping.{can_carry}
use Rattle.sk_rules.proofs.KeptClusters.{reached_as_it_is}
use Rattle.sk_rules.proofs.KeptFamily.{each_owned}
use Rattle.sk_rules.proofs.NormalForm.{IsCovered, step_inside, either_gathers, reach_covers, one_of_two, normal_same}
use Rattle.sk_rules.proofs.SomeClosed.{some_closed}
use Rattle.sk_verdict.specs.Parts.{elem_of}
use Rattle.sk_verdict.proofs.Normals.{has_two}
use Rattle.sk_plan.proofs.Finished.{reached_within}
use Rattle.sk_spare.specs.Sparing.{IsSpare, without}
use Rattle.sk_spare.proofs.Graphs.{sound_without}
use Rattle.sk_verdict.specs.OneCluster.{IsOneCluster}
use Rattle.sk_excess.specs.LeftOut.{HasConstraint}

module _ (g : Graph) (sound : IsSoundGraph g) where
  -- the element is a node
  pub at_node : (f : List Body) → Reach g (initial_bodies g) f → (x : Body) → Contains f x → (e : Elem) → Contains x.elements e → (n : Node) × Contains g.nodes n × (n.elem ≡ e)
  at_node f reach x x_in e e_in = mapped_from elem_of g.nodes e ((reached_within g sound f reach x x_in).elements e e_in)

  -- what has all nodes is all that there is
  pub one_of_holding : (f : List Body) → IsNormal g f → (y : Body) → Contains f y → ((n : Node) → Contains g.nodes n → Contains y.elements n.elem) → IsOneCluster g
  one_of_holding f normal y y_in nodes = record {
    family = f;
    normal = normal;
    whole = y;
    alone = λ x. (
      (λ x_in. (
          let (u, v, differ, u_in, v_in) = has_two g f sound normal x x_in in
          let is : x ≡ y = one_of_two g f normal.closed x y x_in y_in (
            u,
            v,
            record { differ = differ; a_shared = (u_in, holds x x_in u u_in); b_shared = (v_in, holds x x_in v v_in) },
          ) in
          subst (λ (z : Body). Contains (y ∷ []) z) (sym is) (contains_head y []))),
      (λ h. subst (λ (z : Body). Contains f z) (contains_one y x h) y_in),
    );
    has_nodes = nodes;
  }
    where
      holds : (x : Body) → Contains f x → (e : Elem) → Contains x.elements e → Contains y.elements e
      holds x x_in e e_in = (let (n, n_in, is) = at_node f normal.reached x x_in e e_in in subst (λ (d : Elem). Contains y.elements d) is (nodes n n_in))

module _ (g : Graph) (sound : IsSoundGraph g) where
  module _ (one : IsOneCluster g) where
    pub whole_in : Contains one.family one.whole
    whole_in = (one.alone one.whole).1 (contains_head one.whole [])

    pub only_whole : (x : Body) → Contains one.family x → one.whole ≡ x
    only_whole x x_in = contains_one one.whole x ((one.alone x).0 x_in)

    -- it is all of each normal family
    pub all_of : (f : List Body) → IsNormal g f → SameBodies f (one.whole ∷ [])
    all_of f normal x =
        let same = normal_same g f one.family sound.edges_rise normal one.normal x in
        ((λ h. (one.alone x).0 (same.0 h)), (λ h. same.1 ((one.alone x).1 h)))

    pub whole_at : (e : Elem) → Contains one.whole.elements e → (n : Node) × Contains g.nodes n × (n.elem ≡ e)
    whole_at = at_node g sound one.family one.normal.reached one.whole whole_in

    -- it owns all constraints
    pub whole_owns : (k : ConId) → HasConstraint g k → Contains one.whole.owned k
    whole_owns k (s, s_in, is) =
        let (x, x_in, owns) = each_owned g one.family (reached_as_it_is g one.family one.normal.reached) s s_in in
        subst (λ (j : ConId). Contains one.whole.owned j) is (subst (λ (z : Body). Contains z.owned s.number) (sym (only_whole x x_in)) owns)

    pub whole_has : (k : ConId) → Contains one.whole.owned k → HasConstraint g k
    whole_has k owns = (let s = (reached_tight g one.family sound.edges_rise one.normal.reached).inside one.whole whole_in k owns in (s.0, s.1, s.2))

  -- what is spare is a constraint
  pub spare_has : (k : ConId) → IsSpare g k → HasConstraint g k
  spare_has k s =
      let start = (reached_tight g s.family sound.edges_rise s.owns.normal.reached).inside s.owner s.owns.in_family k s.owns.owns in
      (start.0, start.1, start.2)

  pub spare_one : IsOneCluster g → (k : ConId) → IsSpare g k → IsOneCluster (without k g)
  spare_one one k s =
      let (y, y_in, holds) = s.holds in
      let is : one.whole ≡ s.owner = contains_one one.whole s.owner ((all_of one s.family s.owns.normal s.owner).0 s.owns.in_family) in
      one_of_holding (without k g) (sound_without g k sound) s.left s.normal y y_in
      (λ n n_in. holds n.elem (subst (λ (z : Body). Contains z.elements n.elem) is (one.has_nodes n n_in)))

  pub one_spare : IsOneCluster g → (k : ConId) → HasConstraint g k → IsOneCluster (without k g) → IsSpare g k
  one_spare one k has left = record {
    family = one.family;
    owner = one.whole;
    owns = record { normal = one.normal; in_family = whole_in one; owns = whole_owns one k has };
    left = left.family;
    normal = left.normal;
    holds = (
      left.whole,
      (left.alone left.whole).1 (contains_head left.whole []),
      λ e e_in. (let (n, n_in, is) = whole_at one e e_in in subst (λ (d : Elem). Contains left.whole.elements d) is (left.has_nodes n n_in)),
    );
  }

  -- whether it is one cluster is settled
  pub one_decided : Decided (IsOneCluster g)
  one_decided =
      let (f, reach, closed) = some_closed g (initial_bodies g) in
      let normal : IsNormal g f = record { reached = reach; closed = closed } in
      elim (some_in (λ (y : Body). (n : Node) → Contains g.nodes n → Contains y.elements n.elem) (λ y. each_decided (λ (n : Node). Contains y.elements n.elem) g.nodes (λ n. is_in elem_settles y.elements n.elem)) f) [
        | inl (y, y_in, nodes) ↦ inl (one_of_holding g sound f normal y y_in nodes)
        | inr none ↦ inr (λ one. none (one.whole, (all_of one f normal one.whole).1 (contains_head one.whole []), one.has_nodes))
      ]

-- more constraints never leave less
module _ (g : Graph) (sound : IsSoundGraph g) (p q : ConId → Bool) (more : (k : ConId) → HasConstraint g k → p k ≡ true → q k ≡ true) where
  abbrev few : Graph
  few = with_just p g

  abbrev many : Graph
  many = with_just q g

  -- what the fewer make lies in what the more make
  pub more_covers : (f : List Body) → Reach few (initial_bodies few) f → (n : List Body) → IsNormal many n → IsCovered f n
  more_covers f reach n normal =
      kept_along few (λ m. IsCovered m n)
      (step_inside (either_rule few) (either_gathers few) n (λ some among can. normal.closed some among (can_carry few many some (λ y y_in e e_in line. line) can)))
      (initial_bodies few) f reach (λ y y_in. (
      let found = mapped_from starting (starts few) y y_in in
      let was = (in_part g p sound found.0).0 found.1 in
      let there = (in_part g q sound found.0).1 (was.0, more found.0.number (found.0, was.0, refl) was.1) in
      reach_covers many (initial_bodies many) n normal.reached y
      (subst (λ z. Contains (initial_bodies many) z) found.2 (contains_mapped starting (starts many) found.0 there))))

  pub one_with_more : IsOneCluster few → IsOneCluster many
  one_with_more one =
      let (n, reach, closed) = some_closed many (initial_bodies many) in
      let normal : IsNormal many n = record { reached = reach; closed = closed } in
      let (y, y_in, within) = more_covers one.family one.normal.reached n normal one.whole ((one.alone one.whole).1 (contains_head one.whole [])) in
      one_of_holding many (sound_part g q sound) n normal y y_in (λ m m_in. within.elements m.elem (one.has_nodes m m_in))
