-- What adopting and dissolving do to the bodies of a family.
use Rattle.std.proofs.Common.{◌≡◌, ◌⊎◌, inl, inr, ◌+◌, ◌≤◌, List, [], ◌∷◌, length, refl, ap, sym, subst, ◌∙◌, arith}
use Rattle.std.specs.Prelude.{Contains, map}
use Rattle.std.proofs.lemmas.List.{length-map}
use Rattle.sk_base.specs.declared.Name.{Name}
use Rattle.sk_base.specs.declared.Name.TheVariants.{Con, Step}
use Rattle.sk_base.specs.declared.ConId.{ConId}
use Rattle.sk_base.specs.declared.Graph.{Graph}
use Rattle.sk_base.specs.SoundGraph.{HasRisingEdges}
use Rattle.sk_base.specs.Numbering.{con_number}
use Rattle.sk_base.proofs.Distinct.{no_longer}
use Rattle.sk_family.specs.declared.Cluster.{Cluster}
use Rattle.sk_family.specs.Body.{Body, Start, starts, starting, initial_bodies, SameBodies}
use Rattle.sk_family.specs.Clusters.{Clusters, bodies, body_of, cluster_of, start_of, IsSound}
use Rattle.sk_family.specs.Starts.{HasStart, IsDissolved}
use Rattle.sk_base.proofs.Members.{contains_head, contains_one, contains_mapped, mapped_from}
use Rattle.sk_base.proofs.Pairs.{pairs_map, pairs_same}
use Rattle.sk_family.proofs.GraphStarts.{starts_rise, starts_few}
use Rattle.sk_family.proofs.Naming.{ByName, below_irreflexive, below_asymmetric, one_of_name, one_of_body}
use Rattle.sk_family.proofs.Soundness.{starting_bodies}
use Rattle.sk_rules.specs.Reach.{Reach, stays, goes}
use Rattle.sk_rules.specs.Keeping.{IsReached, HasOneMore, HasAllBut, KeepsKinds, Adopts, Dissolves}
use Rattle.sk_rules.proofs.KeptFamily.{unchanged_is_reached, adopted_is_reached, dissolved_is_reached, each_owned, reached_edge}

adopts_body : (e : Start) (old new : Clusters) → HasStart e old new → Adopts (bodies old) (starting e) (bodies new)
adopts_body e old new has y = (
  (λ h. (
      let found = mapped_from body_of new.live y h in
      elim ((has.live found.0).0 found.1) [
        | inl is ↦ inl (sym found.2 ∙ ap body_of is)
        | inr was ↦ inr (subst (λ z. Contains (bodies old) z) found.2 (contains_mapped body_of old.live found.0 was))
      ])),
  (λ h. elim h [
    | inl is ↦ subst (λ z. Contains (bodies new) z) (sym is) (contains_mapped body_of new.live (start_of e) ((has.live (start_of e)).1 (inl refl)))
    | inr was ↦ (
        let found = mapped_from body_of old.live y was in
        subst (λ z. Contains (bodies new) z) found.2 (contains_mapped body_of new.live found.0 ((has.live found.0).1 (inr found.1))))
  ]),
)

dissolves_body : (g : Graph) (n : Name) (k : ConId) (old new : Clusters) → IsSound old → (d : IsDissolved g n k old new) → Dissolves g (bodies old) (body_of d.owner) k (bodies new)
dissolves_body g n k old new sound d y = (
  (λ h. (
      let found = mapped_from body_of new.live y h in
      elim ((d.live found.0).0 found.1) [
        | inl (was, other) ↦ inl (
          subst (λ z. Contains (bodies old) z) found.2 (contains_mapped body_of old.live found.0 was),
          λ same. other (ap (λ (c : Cluster). c.name) (one_of_body old sound found.0 d.owner was d.named.lives (found.2 ∙ same)) ∙ d.named.has_name),
        )
        | inr (e, other, is) ↦ inr (e, other.is_start, other.owned, other.differs, sym found.2 ∙ ap body_of is)
      ])),
  (λ h. elim h [
    | inl (was, other) ↦ (
        let found = mapped_from body_of old.live y was in
        subst (λ z. Contains (bodies new) z) found.2 (contains_mapped body_of new.live found.0 ((d.live found.0).1 (inl (
          found.1,
          λ named. other (sym found.2 ∙ ap body_of (one_of_name old sound n found.0 d.owner (record { lives = found.1; has_name = named }) d.named)),
        )))))
    | inr (e, e_in, owned, differ, is) ↦ subst (λ z. Contains (bodies new) z) (sym is)
        (contains_mapped body_of new.live (start_of e) ((d.live (start_of e)).1 (inr (e, record { is_start = e_in; owned = owned; differs = differ }, refl))))
  ]),
)

itself : (f : List Body) → SameBodies f f
itself f x = ((λ h. h), (λ h. h))

pub reached_as_it_is : (g : Graph) (f : List Body) → Reach g (initial_bodies g) f → IsReached g f
reached_as_it_is g f reach = record { reached_as = f; reach = reach; same = itself f }

-- the last merge leads to the bodies in any order; without a merge they are those of the start
reach_in_any_order : (g : Graph) (f m n : List Body) → Reach g f m → SameBodies m n → Reach g f n ⊎ SameBodies f n
reach_in_any_order g f m n stays same = inr same
reach_in_any_order g f m n (goes {mid = mid} one rest) same =
    elim (reach_in_any_order g mid m n rest same) [
      | inl further ↦ inl (goes one further)
      | inr at_once ↦ inl (goes (record {
        merged = one.merged;
        can_merge = one.can_merge;
        among = one.among;
        replaces = λ x. ((λ h. (one.replaces x).0 ((at_once x).1 h)), (λ h. (at_once x).0 ((one.replaces x).1 h)));
      }) stays)
    ]

cluster_with : (c : Cluster) (n : Name) (b : Body) → c.name ≡ n → body_of c ≡ b → c ≡ cluster_of n b
cluster_with c n b has_name has_body = ap (λ m. cluster_of m (body_of c)) has_name ∙ ap (λ x. cluster_of n x) has_body

module _ (g : Graph) (rises : HasRisingEdges g) (f : Clusters) (sound : IsSound f) where
  -- a cluster with a starting body has its name
  starts_so : (c : Cluster) (e : Start) → Contains f.live c → starting e ≡ body_of c → c ≡ start_of e
  starts_so c e c_in is = told c.name refl
    where
      owned : c.owned ≡ e.number ∷ []
      owned = ap (λ (b : Body). b.owned) (sym is)

      told : (n : Name) → c.name ≡ n → c ≡ start_of e
      told (Con j) has_name =
          let own = sound.starts_own_their_own c j c_in has_name in
          let number : e.number ≡ record { 0 = j } = contains_one e.number (record { 0 = j }) (subst (λ ks. Contains ks (record { 0 = j })) (sym own ∙ owned) (contains_head (record { 0 = j }) [])) in
          cluster_with c (Con e.number.0) (starting e) (has_name ∙ ap Con (sym (ap con_number number))) (sym is)
      told (Step j) has_name = (let two = sound.merged_own_two c j c_in has_name in let one : length c.owned ≡ 1 = ap length owned in absurd (omega arith))

  -- where no merge was done, the clusters stand as they start
  starts_stand : SameBodies (initial_bodies g) (bodies f) → bodies f ≡ initial_bodies g
  starts_stand same =
      ap (map body_of) (pairs_same ByName (λ c. below_irreflexive c.name) (λ a b. below_asymmetric a.name b.name) f.live (map start_of (starts g))
      sound.names_rise (pairs_map ByName start_of (starts g) (starts_rise g rises))
      (λ c c_in. (
      let found = mapped_from starting (starts g) (body_of c) ((same (body_of c)).1 (contains_mapped body_of f.live c c_in)) in
      subst (λ d. Contains (map start_of (starts g)) d) (sym (starts_so c found.0 c_in found.2)) (contains_mapped start_of (starts g) found.0 found.1)))
      (λ c c_in. (
      let found = mapped_from start_of (starts g) c c_in in
      let was = mapped_from body_of f.live (starting found.0) ((same (starting found.0)).0 (contains_mapped starting (starts g) found.0 found.1)) in
      subst (λ d. Contains f.live d) (starts_so was.0 found.0 was.1 (sym was.2) ∙ found.2) was.1)))
      ∙ starting_bodies (starts g)

  pub stands_as_reached : IsReached g (bodies f) → Reach g (initial_bodies g) (bodies f)
  stands_as_reached r =
      elim (reach_in_any_order g (initial_bodies g) r.reached_as (bodies f) r.reach r.same) [
        | inl reach ↦ reach
        | inr at_once ↦ subst (λ bs. Reach g (initial_bodies g) bs) (sym (starts_stand at_once)) stays
      ]

module _ (old new : Graph) (f after : Clusters) (rose : HasRisingEdges old) (rises : HasRisingEdges new) (kinds : KeepsKinds old new) (sound : IsSound after)
    (reach : Reach old (initial_bodies old) (bodies f)) where
  pub adopted : (e : Start) → HasOneMore e old new → HasStart e f after → Reach new (initial_bodies new) (bodies after)
  adopted e more has =
      stands_as_reached new rises after sound
      (adopted_is_reached old new (bodies f) rises kinds (reached_as_it_is old (bodies f) reach) rose e (bodies after) more (adopts_body e f after has))

  pub dissolved : IsSound f → (n : Name) (k : ConId) → HasAllBut k old new → (d : IsDissolved new n k f after) → Contains d.owner.owned k → Reach new (initial_bodies new) (bodies after)
  dissolved was_sound n k less d owns =
      stands_as_reached new rises after sound
      (dissolved_is_reached old new (bodies f) rises kinds (reached_as_it_is old (bodies f) reach) rose (body_of d.owner) k (bodies after)
      (contains_mapped body_of f.live d.owner d.named.lives) owns less (dissolves_body new n k f after was_sound d))

pub unchanged : (old new : Graph) (f : Clusters) → HasRisingEdges new → KeepsKinds old new → IsSound f → Reach old (initial_bodies old) (bodies f) → initial_bodies old ≡ initial_bodies new → Reach new (initial_bodies new) (bodies f)
unchanged old new f rises kinds sound reach is =
    stands_as_reached new rises f sound
    (unchanged_is_reached old new (bodies f) rises kinds (reached_as_it_is old (bodies f) reach) (subst (λ bs. SameBodies (initial_bodies old) bs) is (itself (initial_bodies old))))

module _ (g : Graph) (f : Clusters) (reach : Reach g (initial_bodies g) (bodies f)) where
  pub owner_lives : (e : Start) → Contains (starts g) e → (c : Cluster) × Contains f.live c × Contains c.owned e.number
  owner_lives e e_in =
      let owner = each_owned g (bodies f) (reached_as_it_is g (bodies f) reach) e e_in in
      let found = mapped_from body_of f.live owner.0 owner.1 in
      (found.0, found.1, subst (λ (b : Body). Contains b.owned e.number) (sym found.2) owner.2)

  pub owned_is_constraint : HasRisingEdges g → (c : Cluster) (k : ConId) → Contains f.live c → Contains c.owned k → (e : Start) × Contains (starts g) e × (e.number ≡ k)
  owned_is_constraint rises c k c_in c_k =
      let edge = reached_edge g (bodies f) (reached_as_it_is g (bodies f) reach) rises (body_of c) k (contains_mapped body_of f.live c c_in) c_k in
      (edge.0, edge.1, edge.2)

  pub owned_are_few : HasRisingEdges g → IsSound f → (c : Cluster) → Contains f.live c → length c.owned ≤ length g.edges + length g.blocks
  owned_are_few rises sound c c_in =
      let counted = no_longer c.owned (map (λ (e : Start). e.number) (starts g))
      (λ i j d i_j j_in same. (let less = (sound.bodies_rise c c_in).owned i j d i_j j_in in let level = ap con_number same in absurd (omega arith)))
      (λ k k_in. (let edge = owned_is_constraint rises c k c_in k_in in
      subst (λ j. Contains (map (λ (e : Start). e.number) (starts g)) j) edge.2 (contains_mapped (λ (e : Start). e.number) (starts g) edge.0 edge.1))) in
      let size : length (map (λ (e : Start). e.number) (starts g)) ≡ length (starts g) = rw length-map in
      let few = starts_few g rises in
      omega arith
