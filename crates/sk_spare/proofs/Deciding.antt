-- How each constraint is decided, and what has been decided so far.
use Rattle.std.proofs.Common.{◌≡◌, ◌⊎◌, inl, inr, ℕ, ◌+◌, ◌*◌, ◌<◌, ◌≤◌, Bool, true, false, List, [], ◌∷◌, ◌++◌, length, get_or, take, drop, ap, sym, subst, ◌∙◌, arith}
use Rattle.std.specs.Prelude.{map, Contains, AllPairs, IsTrue, ◌↔◌}
use Rattle.std.proofs.lemmas.List.Elements.{Contains-push_cases, Contains-append_left, Contains-append_right}
use Rattle.std.proofs.lemmas.List.{length-map, take_more, take_all, get_or-map, get_or_default}
use Rattle.sk_base.specs.declared.ConId.{ConId}
use Rattle.sk_base.specs.declared.Graph.{Graph}
use Rattle.sk_base.specs.SoundGraph.{IsSoundGraph}
use Rattle.sk_base.specs.Numbering.{con_number}
use Rattle.sk_base.specs.Rising.{IsRising}
use Rattle.sk_base.proofs.Distinct.{no_longer}
use Rattle.sk_base.proofs.Members.{contains_head, contains_mapped, mapped_from}
use Rattle.sk_base.proofs.Pairs.{pairs_push}
use Rattle.sk_base.proofs.Splits.{taken_from}
use Rattle.sk_family.specs.declared.Cluster.{Cluster}
use Rattle.sk_family.specs.Body.{Body, Start, starts}
use Rattle.sk_family.specs.Clusters.{Clusters, bodies, body_of, start_of}
use Rattle.sk_family.specs.Starting.{any_start}
use Rattle.sk_family.proofs.GraphStarts.{starts_few}
use Rattle.sk_rules.specs.Excess.{weight_of, OwnsEnough, AreConstraints}
use Rattle.sk_rules.specs.Reach.{IsClosed, IsNormal}
use Rattle.sk_rules.proofs.NormalForm.{normal_same}
use Rattle.sk_rules.proofs.Counting.{reached_tight}
use Rattle.sk_spare.specs.Sparing.{IsOwner, IsSpare}
use Rattle.sk_spare.specs.Trying.{some_holds}
use Rattle.sk_spare.specs.Halving.{IsMadeOf, too, AreFurther, IsBeside, IsIn}
use Rattle.sk_spare.proofs.PutBack.{trial_normal, early_further, late_further, early_back, late_back}
use Rattle.sk_spare.proofs.Holding.{test_tells}
use Rattle.sk_spare.proofs.LeavingOut.{distinct, owns_more, trial_decides}

-- what a body owns are constraints of the graph
pub owned_constraints : (g : Graph) (f : List Body) → IsSoundGraph g → IsNormal g f → (x : Body) → Contains f x → AreConstraints g x.owned
owned_constraints g f sound normal x x_in =
    let tight = reached_tight g f sound.edges_rise normal.reached in
    let rise = (tight.family.rising x x_in).owned in
    record {
      rise = rise;
      few = (
          let counted = no_longer x.owned (map number_of (starts g)) (distinct con_number x.owned rise) (λ k k_in. (
          let (s, s_in, is, within) = tight.inside x x_in k k_in in
          subst (λ j. Contains (map number_of (starts g)) j) is (contains_mapped number_of (starts g) s s_in))) in
          let size : length (map number_of (starts g)) ≡ length (starts g) = rw length-map in
          let most = starts_few g sound.edges_rise in
          let all = sound.few_constraints in
          omega arith);
      there = λ k k_in. (let s = tight.inside x x_in k k_in in (s.0, s.1, s.2));
    }
  where
    number_of : Start → ConId
    number_of s = s.number

pub owns_enough : (g : Graph) (f : List Body) → IsSoundGraph g → IsNormal g f → (x : Body) → Contains f x → OwnsEnough g x
owns_enough g f sound normal x x_in = (reached_tight g f sound.edges_rise normal.reached).enough x x_in

-- a constraint that the body owns, where it stands in a normal family
pub owner_in : (g : Graph) (f : List Body) (x : Body) → IsIn g f x → (k : ConId) → Contains x.owned k → IsOwner g f k x
owner_in g f x is k owns = record { normal = is.normal; in_family = is.in_family; owns = owns }

-- with no more than is due, a body owns no spare constraint
pub none_of_enough : (g : Graph) (f : List Body) (x : Body) → IsSoundGraph g → IsIn g f x → ¬ (2 * length x.elements < weight_of g x.owned + 3) → (k : ConId) → Contains x.owned k → ¬ IsSpare g k
none_of_enough g f x sound is enough k owns s = enough (owns_more g f k x sound (owner_in g f x is k owns) s)

-- the family of all others that the owner has decides
pub one_decides : (g : Graph) (f : List Body) (x : Body) → IsSoundGraph g → IsIn g f x → (k : ConId) → Contains x.owned k → (p : ConId → Bool) (n : Clusters) → IsBeside g x.owned (k ∷ []) p (bodies n)
    → (t : Bool) → t ≡ some_holds n.live x.elements → IsTrue t ↔ IsSpare g k
one_decides g f x sound is k owns p n beside t told =
    let decides = trial_decides g f (bodies n) k x sound (owner_in g f x is k owns) (trial_normal g x.owned k p (bodies n) beside) in
    let tells = test_tells n.live x.elements in (
      (λ h. decides.1 (tells.0 (subst (λ (b : Bool). IsTrue b) told h))),
      (λ s. subst (λ (b : Bool). IsTrue b) (sym told) (tells.1 (decides.0 s))),
    )

-- where some of the owner's constraints are set aside, each half of them can be put back
module _ (g : Graph) (x : Body) (sound : IsSoundGraph g) (owner : (f : List Body) × IsIn g f x) (aside : List ConId) (rise : IsRising con_number aside)
    (owned : (k : ConId) → Contains aside k → Contains x.owned k) (family : Clusters) (beside : (p : ConId → Bool) × IsBeside g x.owned aside p (bodies family)) (i : ℕ) where
  owner_there : (k : ConId) → Contains x.owned k → (s : Start) × Contains (starts g) s × (s.number ≡ k)
  owner_there = (owned_constraints g owner.0 sound owner.1.normal x owner.1.in_family).there

  pub late_can : (p : ConId → Bool) × (AreFurther g p (drop i aside) × IsMadeOf g p (bodies family))
  late_can = (beside.0, (late_further g x.owned aside beside.0 (bodies family) beside.1 rise owned owner_there i, beside.1.made))

  pub early_can : (p : ConId → Bool) × (AreFurther g p (take i aside) × IsMadeOf g p (bodies family))
  early_can = (beside.0, (early_further g x.owned aside beside.0 (bodies family) beside.1 rise owned owner_there i, beside.1.made))

  pub with_late : i ≤ length aside → (more : Clusters) → ((p : ConId → Bool) → AreFurther g p (drop i aside) → IsMadeOf g p (bodies family) → IsMadeOf g (too p (drop i aside)) (bodies more))
      → IsClosed g (bodies more) → (q : ConId → Bool) × IsBeside g x.owned (take i aside) q (bodies more)
  unfolding late_can
  with_late i_in more made closed = (
    too beside.0 (drop i aside),
    late_back g x.owned aside beside.0 (bodies family) beside.1 rise owned owner_there i i_in (bodies more) (made beside.0 late_can.1.0 late_can.1.1) closed,
  )

  pub with_early : i ≤ length aside → (more : Clusters) → ((p : ConId → Bool) → AreFurther g p (take i aside) → IsMadeOf g p (bodies family) → IsMadeOf g (too p (take i aside)) (bodies more))
      → IsClosed g (bodies more) → (q : ConId → Bool) × IsBeside g x.owned (drop i aside) q (bodies more)
  unfolding early_can
  with_early i_in more made closed = (
    too beside.0 (take i aside),
    early_back g x.owned aside beside.0 (bodies family) beside.1 rise owned owner_there i i_in (bodies more) (made beside.0 early_can.1.0 early_can.1.1) closed,
  )

module _ (P : ConId → Type 0) (old : List ConId) where
  pub found_nothing : (owned : List ConId) → ((k : ConId) → Contains owned k → ¬ P k) → (k : ConId) → Contains old k ↔ (Contains old k ⊎ (Contains owned k × P k))
  found_nothing owned lacks k = (
    (λ h. inl h),
    (λ h. elim h [ inl before ↦ before | inr here ↦ absurd (lacks k here.0 here.1) ]),
  )

-- one of the clusters owns the constraint
abbrev pub IsOwnedBy : List Cluster → ConId → Type 0
IsOwnedBy clusters k = (c : Cluster) × Contains clusters c × Contains c.owned k

module _ (P : ConId → Type 0) (clusters : List Cluster) (i : ℕ) where
  -- with those of one cluster more
  pub found_of_one : (c : Cluster) → i < length clusters → c ≡ get_or clusters i c → (old new : List ConId)
      → ((k : ConId) → Contains old k ↔ (IsOwnedBy (take i clusters) k × P k)) → ((k : ConId) → Contains new k ↔ (Contains old k ⊎ (Contains c.owned k × P k)))
      → (k : ConId) → Contains new k ↔ (IsOwnedBy (take (i + 1) clusters) k × P k)
  found_of_one c i_in is old new were are k =
      let more : take (i + 1) clusters ≡ take i clusters ++ c ∷ [] = take_more clusters i c i_in ∙ ap (λ d. take i clusters ++ d ∷ []) (sym is) in (
        (λ h. elim ((are k).0 h) [
          | inl before ↦ (
              let was = (were k).0 before in
              ((was.0.0, subst (λ cs. Contains cs was.0.0) (sym more) (Contains-append_left (take i clusters) (c ∷ []) was.0.0 was.0.1), was.0.2), was.1))
          | inr here ↦ ((c, subst (λ cs. Contains cs c) (sym more) (Contains-append_right (take i clusters) (c ∷ []) c (contains_head c [])), here.0), here.1)
        ]),
        (λ h. (
            let (d, d_in, owns) = h.0 in
            elim (Contains-push_cases (take i clusters) c d (subst (λ cs. Contains cs d) more d_in)) [
              | inl before ↦ (are k).1 (inl ((were k).1 ((d, before, owns), h.1)))
              | inr here ↦ (are k).1 (inr (subst (λ (e : Cluster). Contains e.owned k) (sym here) owns, h.1))
            ])),
      )

-- each spare constraint has its owner among the clusters
pub all_found : (g : Graph) (f : Clusters) → IsSoundGraph g → IsNormal g (bodies f) → (i : ℕ) (found : List ConId) → length f.live ≤ i
    → ((k : ConId) → Contains found k ↔ (IsOwnedBy (take i f.live) k × IsSpare g k)) → (k : ConId) → Contains found k ↔ IsSpare g k
all_found g f sound normal i found over are k = (
  (λ h. ((are k).0 h).1),
  (λ s. (
      let here = (normal_same g s.family (bodies f) sound.edges_rise s.owns.normal normal s.owner).0 s.owns.in_family in
      let owner = mapped_from body_of f.live s.owner here in
      (are k).1 (
        (
          owner.0,
          subst (λ cs. Contains cs owner.0) (sym (take_all i f.live over)) owner.1,
          subst (λ (z : Body). Contains z.owned k) (sym owner.2) s.owns.owns,
        ),
        s,
      ))),
)

-- the starting clusters stand in order of their constraints
module _ (g : Graph) (clusters : List Cluster) (are : clusters ≡ map start_of (starts g)) where
  pub as_many : length clusters ≡ length (starts g)
  as_many = (let mapped : length (map start_of (starts g)) ≡ length (starts g) = rw length-map in ap length are ∙ mapped)

  pub start_there : (i : ℕ) (c : Cluster) → i < length clusters → c ≡ get_or clusters i c → c ≡ start_of (get_or (starts g) i any_start)
  start_there i c i_in is = is ∙ ap (λ cs. get_or cs i c) are ∙ get_or-map start_of (starts g) i any_start c (let many = as_many in omega arith)

-- one of the constraints has that number
abbrev pub HasNumber : List Start → ConId → Type 0
HasNumber ss k = (s : Start) × Contains ss s × (s.number ≡ k)

-- the spare ones of these constraints, rising
pub record AreSpareOf (g : Graph) (ss : List Start) (spares : List ConId) : Type 0 where
  pub exactly : (k : ConId) → Contains spares k ↔ (HasNumber ss k × IsSpare g k)
  pub rise : IsRising con_number spares

module _ (g : Graph) (ss : List Start) (i : ℕ) (spares : List ConId) (so_far : AreSpareOf g (take i ss) spares) (i_in : i < length ss) (z : Start) where
  abbrev this : Start
  this = get_or ss i z

  more : take (i + 1) ss ≡ take i ss ++ this ∷ []
  more = take_more ss i z i_in

  number_before : (k : ConId) → HasNumber (take i ss) k → HasNumber (take (i + 1) ss) k
  number_before k (d, d_in, is) = (d, subst (λ ds. Contains ds d) (sym more) (Contains-append_left (take i ss) (this ∷ []) d d_in), is)

  number_cases : (k : ConId) → HasNumber (take (i + 1) ss) k → HasNumber (take i ss) k ⊎ (this.number ≡ k)
  number_cases k (d, d_in, is) =
      elim (Contains-push_cases (take i ss) this d (subst (λ ds. Contains ds d) more d_in)) [
        | inl before ↦ inl (d, before, is)
        | inr here ↦ inr (ap (λ (s : Start). s.number) here ∙ is)
      ]

  pub without_it : ¬ IsSpare g this.number → AreSpareOf g (take (i + 1) ss) spares
  without_it not = record {
    exactly = λ k. (
      (λ h. (let was = (so_far.exactly k).0 h in (number_before k was.0, was.1))),
      (λ h. elim (number_cases k h.0) [
        | inl before ↦ (so_far.exactly k).1 (before, h.1)
        | inr here ↦ absurd (not (subst (λ j. IsSpare g j) (sym here) h.1))
      ]),
    );
    rise = so_far.rise;
  }

  pub with_it : AllPairs (λ (s t : Start). s.number.0 < t.number.0) ss → IsSpare g this.number → AreSpareOf g (take (i + 1) ss) (spares ++ this.number ∷ [])
  with_it rises is_spare = record {
    exactly = λ k. (
      (λ h. elim (Contains-push_cases spares this.number k h) [
        | inl early ↦ (let was = (so_far.exactly k).0 early in (number_before k was.0, was.1))
        | inr here ↦ (
          (this, subst (λ ds. Contains ds this) (sym more) (Contains-append_right (take i ss) (this ∷ []) this (contains_head this [])), here),
          subst (λ j. IsSpare g j) here is_spare,
        )
      ]),
      (λ h. elim (number_cases k h.0) [
        | inl before ↦ Contains-append_left spares (this.number ∷ []) k ((so_far.exactly k).1 (before, h.1))
        | inr here ↦ subst (λ j. Contains (spares ++ this.number ∷ []) j) here (Contains-append_right spares (this.number ∷ []) this.number (contains_head this.number []))
      ]),
    );
    rise = pairs_push (λ (j k : ConId). j.0 < k.0) spares this.number so_far.rise (λ j j_in. (
        let (d, d_in, is) = ((so_far.exactly j).0 j_in).0 in
        let (at, before, at_is) = taken_from ss i d (omega arith) d_in in
        let less : (get_or ss at d).number.0 < (get_or ss i d).number.0 = rises at i d before i_in in
        let here : get_or ss i d ≡ this = get_or_default ss i d z i_in in
        let one = ap (λ (s : Start). s.number.0) at_is in
        let other = ap (λ (s : Start). s.number.0) here in
        let same = ap con_number is in
        omega (arith, less, one, other, same)));
  }

pub all_decided : (g : Graph) → IsSoundGraph g → (i : ℕ) (spares : List ConId) → length (starts g) ≤ i → AreSpareOf g (take i (starts g)) spares → (k : ConId) → Contains spares k ↔ IsSpare g k
all_decided g sound i spares over done k = (
  (λ h. ((done.exactly k).0 h).1),
  (λ s. (
      let start = (reached_tight g s.family sound.edges_rise s.owns.normal.reached).inside s.owner s.owns.in_family k s.owns.owns in
      (done.exactly k).1 ((start.0, subst (λ ds. Contains ds start.0) (sym (take_all i (starts g) over)) start.1, start.2), s))),
)

-- a test that answers no
pub not_told : {P : Type 0} (t : Bool) → IsTrue t ↔ P → t ≡ false → ¬ P
not_told t tells is h = (let never : false ≡ true = sym is ∙ tells.1 h in absurd (cc))
