-- As merges are taken, the tree of each live cluster makes the cluster's body.
use Rattle.std.proofs.Common.{◌≡◌, inl, inr, ℕ, List, [], ◌∷◌, ◌++◌, append_assoc, refl, ap, sym, subst, ◌∙◌}
use Rattle.std.specs.Prelude.{Contains, map, Some}
use Rattle.std.proofs.lemmas.List.{append-nil}
use Rattle.std.proofs.lemmas.List.Elements.{Contains-push_cases}
use Rattle.sk_base.specs.declared.ConId.{ConId}
use Rattle.sk_base.specs.declared.Graph.{Graph}
use Rattle.sk_base.specs.declared.Name.{Name}
use Rattle.sk_base.specs.declared.Name.TheVariants.{Con, Step}
use Rattle.sk_base.specs.ClusterNames.{IsBelow}
use Rattle.sk_base.proofs.Members.{contains_none, contains_head, contains_later, mapped_from}
use Rattle.sk_family.specs.declared.Cluster.{Cluster}
use Rattle.sk_family.specs.declared.Merge.TheVariants.{Three}
use Rattle.sk_family.specs.Body.{Start, starts, starting, join_all}
use Rattle.sk_family.specs.Clusters.{Clusters, body_of, start_of, initial_clusters, unnamed, made_of, whole_from, IsNamed, IsSound}
use Rattle.sk_family.specs.Merges.{Falls, names_of}
use Rattle.sk_family.proofs.Naming.{below_irreflexive}
use Rattle.sk_rules.specs.declared.Shared.{Shared}
use Rattle.sk_rules.specs.declared.Taken.{Taken}
use Rattle.sk_rules.specs.Merges.{merged}
use Rattle.sk_rules.specs.Taking.{IsTaken, Leads}
use Rattle.sk_rules.proofs.Merging.{named_three}
use Rattle.sk_tree.specs.declared.Tree.{Tree}
use Rattle.sk_tree.specs.declared.Tree.TheVariants.{Leaf, Join'}
use Rattle.sk_tree.specs.Meeting.{MeetsOnce}
use Rattle.sk_tree.specs.Trees.{IsTreeOf}
use Rattle.sk_plan.specs.Runs.{TakesOnce, EachTakesOnce}
use Rattle.sk_plan.specs.MadeBy.{IsMadeBy}
use Rattle.sk_plan.proofs.Joined.{sound_taken}
use Rattle.sk_plan.proofs.Grown.{IsGrown, live_name_below, child_below, tree_back, stayed, grown_more}

-- each tree of a live cluster makes its body
abbrev pub MakeBodies : Graph → List Taken → Clusters → Type 0
MakeBodies g before f = (c : Cluster) → Contains f.live c → (t : Tree) → IsTreeOf before c.name t → IsMadeBy g t (body_of c)

pub initial_bodies_made : (g : Graph) → MakeBodies g [] (initial_clusters g)
initial_bodies_made g c c_in t is =
    let (s, s_in, same) = mapped_from start_of (starts g) c c_in in
    subst (λ (d : Cluster). IsMadeBy g t (body_of d)) same (leaf s s_in t (subst (λ (d : Cluster). IsTreeOf [] d.name t) (sym same) is))
  where
    leaf : (s : Start) → Contains (starts g) s → (t : Tree) → IsTreeOf [] (Con s.number.0) t → IsMadeBy g t (starting s)
    leaf s s_in (Leaf k) is =
        let number : s.number.0 ≡ k.0 = cc in
        (s, s_in, ap (λ (n : ℕ). let made : ConId = record { 0 = n } in made) number, refl)
    leaf s s_in (Join' p step shared one two three) (is, (x, y, z, there, a, b, c)) = absurd (contains_none _ there)

module _ (g : Graph) (before : List Taken) (f : Clusters) (sound : IsSound f) (grown : IsGrown before f) (t : Taken) (taken : IsTaken g f t) (once : TakesOnce g f t) (make : MakeBodies g before f) where
  of_name : (n : Name) (c : Cluster) → IsNamed f n c → (u : Tree) → IsTreeOf before n u → IsMadeBy g u (body_of c)
  of_name n c is u tree = make c is.lives u (subst (λ (m : Name). IsTreeOf before m u) (sym is.has_name) tree)

  -- the tree of the new step
  whole_made : (u : Tree) → IsTreeOf (before ++ t ∷ []) (Step f.next_step) u → IsMadeBy g u (made_of (names_of t.merge) f.live)
  whole_made (Leaf k) is = absurd (cc)
  whole_made (Join' p step shared one two three) (is, (x, y, z, there, a, b, c)) =
      elim (Contains-push_cases before t (record { step = step; merge = Three x y z; shared = shared }) there) [
        | inl old ↦ absurd (below_irreflexive (Step f.next_step) (subst (λ (w : Name). IsBelow w (Step f.next_step)) (sym is) (grown.steps (record { step = step; merge = Three x y z; shared = shared }) old)))
        | inr new ↦ (
            let is_three : t.merge ≡ Three x y z = ap (λ (s : Taken). s.merge) new in
            let is_shared : t.shared ≡ shared = ap (λ (s : Taken). s.shared) new in
            let names : Three once.one once.two once.three ≡ Three x y z = sym once.merge ∙ is_three in
            let one_is : once.one ≡ x = cc in
            let two_is : once.two ≡ y = cc in
            let three_is : once.three ≡ z = cc in
            let j = once.joins in
            let falls : Falls (Three once.one once.two once.three) = subst (λ m. Falls m) once.merge taken.falls in
            let made : made_of (names_of t.merge) f.live ≡ join_all (body_of j.three ∷ body_of j.two ∷ body_of j.one ∷ []) =
            ap (λ m. made_of (names_of m) f.live) once.merge
            ∙ ap (λ cs. join_all (map body_of cs)) (named_three g f sound once.one once.two once.three j.one j.two j.three falls.0 falls.1 j.one_named j.two_named j.three_named) in
            let down : (n : Name) → Contains (x ∷ y ∷ z ∷ []) n → IsBelow n (Step f.next_step) = λ n n_in. child_below g before f sound grown t taken n (subst (λ m. Contains (names_of m) n) (sym is_three) n_in) in (
              body_of j.one,
              body_of j.two,
              body_of j.three,
              once.third,
              of_name x j.one (subst (λ (n : Name). IsNamed f n j.one) one_is j.one_named) one
                  (tree_back g before f sound grown t taken x one (down x (contains_head x (y ∷ z ∷ []))) a),
              of_name y j.two (subst (λ (n : Name). IsNamed f n j.two) two_is j.two_named) two
                  (tree_back g before f sound grown t taken y two (down y (contains_later x (y ∷ z ∷ []) y (contains_head y (z ∷ [])))) b),
              of_name z j.three (subst (λ (n : Name). IsNamed f n j.three) three_is j.three_named) three
                  (tree_back g before f sound grown t taken z three (down z (contains_later x (y ∷ z ∷ []) z (contains_later y (z ∷ []) z (contains_head z [])))) c),
              subst (λ (s : Shared). s.c ≡ Some once.third) is_shared once.shared,
              subst (λ (s : Shared). MeetsOnce g j.one.elements j.two.elements j.three.elements s.a s.b once.third) is_shared j.meets,
              made,
            ))
      ]

  pub bodies_more : MakeBodies g (before ++ t ∷ []) (merged f t.merge)
  bodies_more c c_in u u_is =
      elim (Contains-push_cases (unnamed (names_of t.merge) f.live) (whole_from (Step f.next_step) (names_of t.merge) f.live) c c_in) [
        | inl old ↦ (
            let lives = stayed g before f sound grown t taken c old in
            make c lives u (tree_back g before f sound grown t taken c.name u (live_name_below g before f sound grown t taken c lives) u_is))
        | inr is ↦ subst (λ (d : Cluster). IsMadeBy g u (body_of d)) is (whole_made u (subst (λ (d : Cluster). IsTreeOf (before ++ t ∷ []) d.name u) (sym is) u_is))
      ]

pub bodies_end : (g : Graph) (before : List Taken) (f end : Clusters) (ts : List Taken) → IsSound f → IsGrown before f → MakeBodies g before f → Leads g f ts end → EachTakesOnce g f ts → MakeBodies g (before ++ ts) end
bodies_end g before f end [] sound grown make is each =
    subst (λ (b : List Taken). MakeBodies g b end) (sym (append-nil before)) (subst (λ (e : Clusters). MakeBodies g before e) is make)
bodies_end g before f end (t ∷ ts) sound grown make (taken, rest) (once, more) =
    subst (λ (b : List Taken). MakeBodies g b end) (append_assoc before (t ∷ []) ts)
    (bodies_end g (before ++ t ∷ []) (merged f t.merge) end ts (sound_taken g f t sound taken)
    (grown_more g before f sound grown t taken once.one once.two once.three once.merge)
    (bodies_more g before f sound grown t taken once make) rest more)
