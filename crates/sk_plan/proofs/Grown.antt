-- As merges are taken, the tree of each live cluster has what the cluster owns as leaves, each once.
use Rattle.std.proofs.Common.{◌≡◌, ◌≢◌, ◌⊎◌, inl, inr, refl, ℕ, ◌+◌, ◌<◌, List, [], ◌∷◌, ◌++◌, length, length-append, append_assoc, ap, sym, subst, ◌∙◌, arith}
use Rattle.std.specs.Prelude.{Contains, AllPairs, map, not}
use Rattle.std.proofs.lemmas.List.{append-nil}
use Rattle.std.proofs.lemmas.List.Elements.{Contains-append_cases, Contains-append_left, Contains-append_right, Contains-push, Contains-push_cases, All-contains}
use Rattle.sk_base.specs.declared.Name.{Name}
use Rattle.sk_base.specs.declared.Name.TheVariants.{Con, Step}
use Rattle.sk_base.specs.declared.ConId.{ConId}
use Rattle.sk_family.specs.Body.{Start, starts, Body, join_all}
use Rattle.sk_base.specs.declared.Graph.{Graph}
use Rattle.sk_base.specs.ClusterNames.{IsBelow, is_named}
use Rattle.sk_family.specs.declared.Cluster.{Cluster}
use Rattle.sk_family.specs.Clusters.{Clusters, body_of, start_of, initial_clusters, unnamed, made_of, whole_from, IsNamed, IsLive, IsSound}
use Rattle.sk_base.proofs.Members.{contains_none, contains_head, contains_later, contains_one, contains_cases, mapped_from, filtered_from}
use Rattle.sk_base.proofs.Pairs.{pairs_none, pairs_cons, pairs_tail, pairs_head}
use Rattle.sk_family.proofs.Bodies.{each_within, owner_of}
use Rattle.sk_family.proofs.Naming.{below_chain, below_irreflexive, below_differs}
use Rattle.sk_family.proofs.Soundness.{below_next}
use Rattle.sk_family.specs.declared.Merge.TheVariants.{Three}
use Rattle.sk_rules.specs.declared.Taken.{Taken}
use Rattle.sk_family.specs.Merges.{Falls, names_of}
use Rattle.sk_rules.specs.Merges.{Holds, merged}
use Rattle.sk_rules.proofs.Merging.{can_be_replaced, named_three}
use Rattle.sk_tree.specs.declared.Tree.{Tree}
use Rattle.sk_tree.specs.declared.Tree.TheVariants.{Leaf, Join'}
use Rattle.sk_tree.specs.Trees.{leaves_of, IsTreeOf, IsMade, AreJoins}
use Rattle.sk_rules.specs.Taking.{IsTaken, Leads}
use Rattle.sk_plan.specs.Runs.{EachTakesOnce}
use Rattle.sk_plan.specs.Leaves.{HasLeaves}
use Rattle.sk_plan.proofs.Joined.{taken_holds, sound_taken}

module _ {X : Type 0} (R : X → X → Type 0) where
  pub pairs_append : (xs ys : List X) → AllPairs R xs → AllPairs R ys → ((x y : X) → Contains xs x → Contains ys y → R x y) → AllPairs R (xs ++ ys)
  pairs_append [] ys r s across = s
  pairs_append (x ∷ xs) ys r s across =
      pairs_cons R x (xs ++ ys) (pairs_append xs ys (pairs_tail R x xs r) s (λ y z y_in z_in. across y z (contains_later x xs y y_in) z_in))
      (λ y y_in. elim (Contains-append_cases xs ys y y_in) [
        | inl left ↦ pairs_head R x xs r y left
        | inr right ↦ across x y (contains_head x xs) right
      ])

-- where a list with one more at its end is split, it is split at that one or before
module _ {X : Type 0} where
  pub split_push : (xs p q : List X) (t s : X) → xs ++ t ∷ [] ≡ p ++ s ∷ q → ((p ≡ xs) × (s ≡ t)) ⊎ ((rest : List X) × (xs ≡ p ++ s ∷ rest))
  split_push [] [] q t s is = inl (refl, cc)
  split_push [] (a ∷ p) q t s is = (let long = ap length is in let more = length-append p (s ∷ q) in absurd (omega arith))
  split_push (x ∷ xs) [] q t s is = (let same : x ≡ s = cc in inr (xs, ap (λ z. z ∷ xs) same))
  split_push (x ∷ xs) (a ∷ p) q t s is =
      let first : x ≡ a = cc in
      let rest : xs ++ t ∷ [] ≡ p ++ s ∷ q = cc in
      elim (split_push xs p q t s rest) [
        | inl here ↦ (let same : p ≡ xs = here.0 in inl (cc, here.1))
        | inr before ↦ (let same : xs ≡ p ++ s ∷ before.0 = before.1 in inr (before.0, cc))
      ]

-- what is kept while merges are taken
pub record IsGrown (before : List Taken) (f : Clusters) : Type 0 where
  pub children : (s : Taken) → Contains before s → (n : Name) → Contains (names_of s.merge) n → IsBelow n s.step
  pub steps : (s : Taken) → Contains before s → IsBelow s.step (Step f.next_step)
  pub made : (c : Cluster) → Contains f.live c → IsMade before c.name
  pub leaves : (c : Cluster) → Contains f.live c → (t : Tree) → IsTreeOf before c.name t → HasLeaves t c.owned
  pub joins : AreJoins before

made_more : (before : List Taken) (t : Taken) (n : Name) → IsMade before n → IsMade (before ++ t ∷ []) n
made_more before t (Con k) h = tt
made_more before t (Step k) (s, s_in, is) = (s, Contains-append_left before (t ∷ []) s s_in, is)

made_last : (before : List Taken) (t : Taken) (n : Name) → t.step ≡ n → IsMade (before ++ t ∷ []) n
made_last before t (Con k) is = tt
made_last before t (Step k) is = (t, Contains-push before t, is)

pub initial_grown : (g : Graph) → IsGrown [] (initial_clusters g)
initial_grown g = record {
  children = λ s h. absurd (contains_none s h);
  steps = λ s h. absurd (contains_none s h);
  made = λ c c_in. (let found = mapped_from start_of (starts g) c c_in in subst (λ (d : Cluster). IsMade [] d.name) found.2 tt);
  leaves = λ c c_in t is. (let found = mapped_from start_of (starts g) c c_in in
      subst (λ (d : Cluster). HasLeaves t d.owned) found.2 (leaf found.0 t (subst (λ (d : Cluster). IsTreeOf [] d.name t) (sym found.2) is)));
  joins = record {
    triples = λ t h. absurd (contains_none t h);
    made_before = λ before after t is. (let long = ap length is in let more = length-append before (t ∷ after) in absurd (omega arith));
  };
}
  where
    leaf : (e : Start) (t : Tree) → IsTreeOf [] (Con e.number.0) t → HasLeaves t (e.number ∷ [])
    leaf e (Leaf k) is =
        let number : e.number.0 ≡ k.0 = cc in
        let same : e.number ≡ k = ap (λ (n : ℕ). let made : ConId = record { 0 = n } in made) number in
        record {
          just = λ j. (subst (λ (i : ConId). Contains (i ∷ []) j) (sym same), subst (λ (i : ConId). Contains (i ∷ []) j) same);
          once = pairs_cons (λ (i j : ConId). i ≢ j) k [] (pairs_none (λ (i j : ConId). i ≢ j)) (λ y h. absurd (contains_none y h));
        }
    leaf e (Join' p step shared one two three) (is, (x, y, z, there, a, b, c)) = absurd (contains_none _ there)

module _ (g : Graph) (before : List Taken) (f : Clusters) (sound : IsSound f) (grown : IsGrown before f) (t : Taken) (taken : IsTaken g f t) where
  holds : Holds g f t.merge
  holds = taken_holds g f t taken

  pub live_name_below : (c : Cluster) → Contains f.live c → IsBelow c.name (Step f.next_step)
  live_name_below c c_in = below_next f.next_step c.name (λ k is. sound.steps_below c k c_in is)

  child_live : (n : Name) → Contains (names_of t.merge) n → IsLive f n
  child_live n n_in = All-contains (λ m. IsLive f m) (names_of t.merge) n (can_be_replaced g f t.merge taken.falls holds).all_live n_in

  pub child_below : (n : Name) → Contains (names_of t.merge) n → IsBelow n (Step f.next_step)
  child_below n n_in = (let live = child_live n n_in in subst (λ m. IsBelow m (Step f.next_step)) live.1.has_name (live_name_below live.0 live.1.lives))

  child_made : (n : Name) → Contains (names_of t.merge) n → IsMade before n
  child_made n n_in = (let live = child_live n n_in in subst (λ m. IsMade before m) live.1.has_name (grown.made live.0 live.1.lives))

  -- the tree of a name below the new step has no need of it
  pub tree_back : (n : Name) (u : Tree) → IsBelow n (Step f.next_step) → IsTreeOf (before ++ t ∷ []) n u → IsTreeOf before n u
  tree_back n (Leaf k) below is = is
  tree_back n (Join' p step shared one two three) below (is, (x, y, z, there, a, b, c)) =
      elim (Contains-push_cases before t (record { step = step; merge = Three x y z; shared = shared }) there) [
        | inl old ↦ (
            let down : (m : Name) → Contains (x ∷ y ∷ z ∷ []) m → IsBelow m (Step f.next_step) =
            λ m m_in. below_chain m step (Step f.next_step) (grown.children (record { step = step; merge = Three x y z; shared = shared }) old m m_in) (subst (λ w. IsBelow w (Step f.next_step)) is below) in (
              is,
              (
                x,
                y,
                z,
                old,
                tree_back x one (down x (contains_head x (y ∷ z ∷ []))) a,
                tree_back y two (down y (contains_later x (y ∷ z ∷ []) y (contains_head y (z ∷ [])))) b,
                tree_back z three (down z (contains_later x (y ∷ z ∷ []) z (contains_later y (z ∷ []) z (contains_head z [])))) c,
              ),
            ))
        | inr new ↦ (
            let level : n ≡ Step f.next_step = is ∙ sym (ap (λ (s : Taken). s.step) new) ∙ taken.is_next in
            absurd (below_irreflexive (Step f.next_step) (subst (λ w. IsBelow w (Step f.next_step)) level below)))
      ]

  whole : Cluster
  whole = whole_from (Step f.next_step) (names_of t.merge) f.live

  -- the leaves of three are those of what they make
  joined_leaves : (x y z : Name) (one two three : Tree) → Falls (Three x y z) → Holds g f (Three x y z) → IsTreeOf before x one → IsTreeOf before y two → IsTreeOf before z three → (p : Tree) → leaves_of p ≡ leaves_of one ++ (leaves_of two ++ leaves_of three) → HasLeaves p (made_of (x ∷ y ∷ z ∷ []) f.live).owned
  joined_leaves x y z one two three falls (a, b, c, x_is, y_is, z_is, meets) one_is two_is three_is p p_is = record {
    just = λ k. (
      (λ h. elim (Contains-append_cases (leaves_of one) (leaves_of two ++ leaves_of three) k (subst (λ ks. Contains ks k) p_is h)) [
        | inl left ↦ into a (contains_later (body_of c) (body_of b ∷ body_of a ∷ []) (body_of a) (contains_later (body_of b) (body_of a ∷ []) (body_of a) (contains_head (body_of a) []))) k ((in_a.just k).0 left)
        | inr rest ↦ elim (Contains-append_cases (leaves_of two) (leaves_of three) k rest) [
          | inl middle ↦ into b (contains_later (body_of c) (body_of b ∷ body_of a ∷ []) (body_of b) (contains_head (body_of b) (body_of a ∷ []))) k ((in_b.just k).0 middle)
          | inr right ↦ into c (contains_head (body_of c) (body_of b ∷ body_of a ∷ [])) k ((in_c.just k).0 right)
        ]
      ]),
      (λ h. subst (λ ks. Contains ks k) (sym p_is) (
          let owner = owner_of (body_of c ∷ body_of b ∷ body_of a ∷ []) k (subst (λ (w : Body). Contains w.owned k) made_is h) in
          elim (contains_cases (body_of c) (body_of b ∷ body_of a ∷ []) owner.0 owner.1) [
            | inl is_c ↦ Contains-append_right (leaves_of one) (leaves_of two ++ leaves_of three) k (Contains-append_right (leaves_of two) (leaves_of three) k ((in_c.just k).1 (subst (λ (w : Body). Contains w.owned k) (sym is_c) owner.2)))
            | inr rest ↦ elim (contains_cases (body_of b) (body_of a ∷ []) owner.0 rest) [
              | inl is_b ↦ Contains-append_right (leaves_of one) (leaves_of two ++ leaves_of three) k (Contains-append_left (leaves_of two) (leaves_of three) k ((in_b.just k).1 (subst (λ (w : Body). Contains w.owned k) (sym is_b) owner.2)))
              | inr last ↦ Contains-append_left (leaves_of one) (leaves_of two ++ leaves_of three) k ((in_a.just k).1 (subst (λ (w : Body). Contains w.owned k) (sym (contains_one (body_of a) owner.0 last)) owner.2))
            ]
          ])),
    );
    once = subst (λ ks. AllPairs (λ (j k : ConId). j ≢ k) ks) (sym p_is)
        (pairs_append (λ (j k : ConId). j ≢ k) (leaves_of one) (leaves_of two ++ leaves_of three) in_a.once
        (pairs_append (λ (j k : ConId). j ≢ k) (leaves_of two) (leaves_of three) in_b.once in_c.once
        (λ j k j_in k_in same. apart b c y_is.lives z_is.lives b_c j ((in_b.just j).0 j_in) (subst (λ i. Contains c.owned i) (sym same) ((in_c.just k).0 k_in))))
        (λ j k j_in k_in same. elim (Contains-append_cases (leaves_of two) (leaves_of three) k k_in) [
          | inl middle ↦ apart a b x_is.lives y_is.lives a_b j ((in_a.just j).0 j_in) (subst (λ i. Contains b.owned i) (sym same) ((in_b.just k).0 middle))
          | inr right ↦ apart a c x_is.lives z_is.lives a_c j ((in_a.just j).0 j_in) (subst (λ i. Contains c.owned i) (sym same) ((in_c.just k).0 right))
        ]));
  }
    where
      tree_of_live : (n : Name) (d : Cluster) → IsNamed f n d → (u : Tree) → IsTreeOf before n u → HasLeaves u d.owned
      tree_of_live n d n_is u is = grown.leaves d n_is.lives u (subst (λ m. IsTreeOf before m u) (sym n_is.has_name) is)

      in_a : HasLeaves one a.owned
      in_a = tree_of_live x a x_is one one_is

      in_b : HasLeaves two b.owned
      in_b = tree_of_live y b y_is two two_is

      in_c : HasLeaves three c.owned
      in_c = tree_of_live z c z_is three three_is

      made_is : made_of (x ∷ y ∷ z ∷ []) f.live ≡ join_all (body_of c ∷ body_of b ∷ body_of a ∷ [])
      made_is = ap (λ cs. join_all (map body_of cs)) (named_three g f sound x y z a b c falls.0 falls.1 x_is y_is z_is)

      into : (d : Cluster) → Contains (body_of c ∷ body_of b ∷ body_of a ∷ []) (body_of d) → (k : ConId) → Contains d.owned k → Contains (made_of (x ∷ y ∷ z ∷ []) f.live).owned k
      into d d_in k h = subst (λ (w : Body). Contains w.owned k) (sym made_is) ((each_within (body_of c ∷ body_of b ∷ body_of a ∷ []) (body_of d) d_in).owned k h)

      apart : (d e : Cluster) → Contains f.live d → Contains f.live e → d ≢ e → (k : ConId) → Contains d.owned k → Contains e.owned k → ⊥
      apart d e d_in e_in differ k d_k e_k = differ (sound.owned_apart d e k d_in e_in d_k e_k)

      a_b : a ≢ b
      a_b same = below_differs y x falls.0 (sym y_is.has_name ∙ ap (λ (d : Cluster). d.name) (sym same) ∙ x_is.has_name)

      b_c : b ≢ c
      b_c same = below_differs z y falls.1 (sym z_is.has_name ∙ ap (λ (d : Cluster). d.name) (sym same) ∙ y_is.has_name)

      a_c : a ≢ c
      a_c same = below_differs z x (below_chain z y x falls.1 falls.0) (sym z_is.has_name ∙ ap (λ (d : Cluster). d.name) (sym same) ∙ x_is.has_name)

  -- the tree of the new step
  whole_leaves : (u : Tree) → IsTreeOf (before ++ t ∷ []) (Step f.next_step) u → HasLeaves u (made_of (names_of t.merge) f.live).owned
  whole_leaves (Leaf k) is = absurd (cc)
  whole_leaves (Join' p step shared one two three) (is, (x, y, z, there, a, b, c)) =
      elim (Contains-push_cases before t (record { step = step; merge = Three x y z; shared = shared }) there) [
        | inl old ↦ absurd (below_irreflexive (Step f.next_step) (subst (λ w. IsBelow w (Step f.next_step)) (sym is) (grown.steps (record { step = step; merge = Three x y z; shared = shared }) old)))
        | inr new ↦ (
            let is_three : t.merge ≡ Three x y z = ap (λ (s : Taken). s.merge) new in
            let down : (n : Name) → Contains (x ∷ y ∷ z ∷ []) n → IsBelow n (Step f.next_step) = λ n n_in. child_below n (subst (λ m. Contains (names_of m) n) (sym is_three) n_in) in
            subst (λ m. HasLeaves (Join' p step shared one two three) (made_of (names_of m) f.live).owned) (sym is_three)
            (joined_leaves x y z one two three (subst (λ m. Falls m) is_three taken.falls) (subst (λ m. Holds g f m) is_three holds)
            (tree_back x one (down x (contains_head x (y ∷ z ∷ []))) a)
            (tree_back y two (down y (contains_later x (y ∷ z ∷ []) y (contains_head y (z ∷ [])))) b)
            (tree_back z three (down z (contains_later x (y ∷ z ∷ []) z (contains_later y (z ∷ []) z (contains_head z [])))) c)
            (Join' p step shared one two three) refl))
      ]

  pub stayed : (c : Cluster) → Contains (unnamed (names_of t.merge) f.live) c → Contains f.live c
  stayed c h = (filtered_from (λ (d : Cluster). not (is_named (names_of t.merge) d.name)) f.live c h).0

  pub grown_more : (x y z : Name) → t.merge ≡ Three x y z → IsGrown (before ++ t ∷ []) (merged f t.merge)
  unfolding whole
  grown_more x y z is_three = record {
    children = λ s s_in n n_in. elim (Contains-push_cases before t s s_in) [
      | inl old ↦ grown.children s old n n_in
      | inr is ↦ (let below = child_below n (subst (λ (r : Taken). Contains (names_of r.merge) n) (sym is) n_in) in
          subst (λ w. IsBelow n w) (sym taken.is_next ∙ ap (λ (r : Taken). r.step) is) below)
    ];
    steps = λ s s_in. elim (Contains-push_cases before t s s_in) [
      | inl old ↦ below_chain s.step (Step f.next_step) (Step (f.next_step + 1)) (grown.steps s old) (omega arith)
      | inr is ↦ (let next : f.next_step < f.next_step + 1 = omega arith in subst (λ w. IsBelow w (Step (f.next_step + 1))) (sym taken.is_next ∙ ap (λ (r : Taken). r.step) is) next)
    ];
    made = λ c c_in. elim (Contains-push_cases (unnamed (names_of t.merge) f.live) whole c c_in) [
      | inl old ↦ made_more before t c.name (grown.made c (stayed c old))
      | inr is ↦ made_last before t c.name (taken.is_next ∙ ap (λ (d : Cluster). d.name) is)
    ];
    leaves = λ c c_in u u_is. elim (Contains-push_cases (unnamed (names_of t.merge) f.live) whole c c_in) [
      | inl old ↦ grown.leaves c (stayed c old) u (tree_back c.name u (live_name_below c (stayed c old)) u_is)
      | inr is ↦ subst (λ (d : Cluster). HasLeaves u d.owned) is (whole_leaves u (subst (λ (d : Cluster). IsTreeOf (before ++ t ∷ []) d.name u) (sym is) u_is))
    ];
    joins = record {
      triples = λ s s_in. elim (Contains-push_cases before t s s_in) [
        | inl old ↦ grown.joins.triples s old
        | inr is ↦ (x, y, z, ap (λ (r : Taken). r.merge) (sym is) ∙ is_three)
      ];
      made_before = λ p q s is n n_in. elim (split_push before p q t s is) [
        | inl here ↦ subst (λ (ts : List Taken). IsMade ts n) (sym here.0) (child_made n (subst (λ (r : Taken). Contains (names_of r.merge) n) here.1 n_in))
        | inr earlier ↦ grown.joins.made_before p earlier.0 s earlier.1 n n_in
      ];
    };
  }

pub grown_end : (g : Graph) (before : List Taken) (f end : Clusters) (ts : List Taken) → IsSound f → IsGrown before f → Leads g f ts end → EachTakesOnce g f ts → IsGrown (before ++ ts) end
grown_end g before f end [] sound grown is each =
    subst (λ (b : List Taken). IsGrown b end) (sym (append-nil before)) (subst (λ (e : Clusters). IsGrown before e) is grown)
grown_end g before f end (t ∷ ts) sound grown (taken, rest) (once, more) =
    subst (λ (b : List Taken). IsGrown b end) (append_assoc before (t ∷ []) ts)
    (grown_end g (before ++ t ∷ []) (merged f t.merge) end ts (sound_taken g f t sound taken)
    (grown_more g before f sound grown t taken once.one once.two once.three once.merge) rest more)
