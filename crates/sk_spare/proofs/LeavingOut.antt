-- Where a constraint is left out, the bodies that do not own it stay, and those of a trial stand in
-- the place of the one that does.
use Rattle.std.proofs.Common.{◌≡◌, ◌≢◌, inl, inr, ℕ, ◌+◌, ◌*◌, ◌<◌, List, length, ap, sym, subst, ◌∙◌, arith}
use Rattle.std.specs.Prelude.{Contains, AllPairs, ◌↔◌}
use Rattle.sk_base.specs.declared.Elem.{Elem}
use Rattle.sk_base.specs.declared.ConId.{ConId}
use Rattle.sk_base.specs.declared.Graph.{Graph}
use Rattle.sk_base.specs.SoundGraph.{IsSoundGraph}
use Rattle.sk_base.specs.Numbering.{elem_number, con_exact}
use Rattle.sk_base.specs.Rising.{IsRising}
use Rattle.sk_base.proofs.Members.{contains_mapped, mapped_from}
use Rattle.sk_base.proofs.Distinct.{no_longer}
use Rattle.sk_base.proofs.Numbers.{other_passes}
use Rattle.sk_family.specs.Body.{Body, starts, starting, initial_bodies}
use Rattle.sk_family.proofs.Bodies.{Within}
use Rattle.sk_rules.specs.Reach.{IsNormal, either_rule}
use Rattle.sk_rules.specs.Keeping.{TakesPlace}
use Rattle.sk_rules.specs.Excess.{weight_of}
use Rattle.sk_rules.proofs.Beside.{OthersPass, takes_place}
use Rattle.sk_rules.proofs.Families.{kept_along}
use Rattle.sk_rules.proofs.NormalForm.{IsCovered, step_inside, either_gathers, reach_covers, one_of_two, normal_same}
use Rattle.sk_rules.proofs.Counting.{IsTight, reached_tight, owned_is_held}
use Rattle.sk_rules.proofs.WeighedGraphs.{sound_two_each}
use Rattle.sk_rules.proofs.Keeping.{can_carry}
use Rattle.sk_verdict.specs.Judging.{IsOver}
use Rattle.sk_verdict.specs.Parts.{part_with}
use Rattle.sk_verdict.proofs.Normals.{has_two}
use Rattle.sk_spare.specs.Sparing.{differs_from, without, HoldsAll, IsOwner, IsSpare}
use Rattle.sk_spare.specs.Trying.{trial_graph}
use Rattle.sk_spare.proofs.Graphs.{in_without, sound_without}
use Rattle.sk_spare.proofs.Lighter.{weighs_without, weighs_one_more, weighs_something, two_long}

-- no item of a rising list stands twice
pub distinct : {X : Type 0} (number : X → ℕ) (xs : List X) → IsRising number xs → AllPairs (λ a b. a ≢ b) xs
distinct number xs rises i j d i_j j_in same = (let less = rises i j d i_j j_in in let level = ap number same in absurd (omega arith))

module _ (g : Graph) (f : List Body) (k : ConId) (x : Body) (sound : IsSoundGraph g) (own : IsOwner g f k x) where
  owner_tight : IsTight g f
  owner_tight = reached_tight g f sound.edges_rise own.normal.reached

  -- what holds all elements of the owner is the owner
  holder_is : (z : Body) → Contains f z → ((e : Elem) → Contains x.elements e → Contains z.elements e) → z ≡ x
  holder_is z z_in holds =
      let (u, v, differ, u_in, v_in) = has_two g f sound own.normal x own.in_family in
      one_of_two g f own.normal.closed z x z_in own.in_family (
        u,
        v,
        record { differ = differ; a_shared = (holds u u_in, u_in); b_shared = (holds v v_in, v_in) },
      )

  module _ (s : IsSpare g k) where
    same_owner : s.owner ≡ x
    same_owner =
        let here = (normal_same g s.family f sound.edges_rise s.owns.normal own.normal s.owner).0 s.owns.in_family in
        owner_tight.family.apart s.owner x k here own.in_family s.owns.owns own.owns

    left_holds : HoldsAll s.left x.elements
    left_holds = subst (λ (z : Body). HoldsAll s.left z.elements) same_owner s.holds

    -- what is left without the constraint lies in what stood with it
    left_covered : IsCovered s.left f
    left_covered =
        kept_along (without k g) (λ m. IsCovered m f)
        (step_inside (either_rule (without k g)) (either_gathers (without k g)) f (λ some among can. own.normal.closed some among (can_carry (without k g) g some (λ y y_in e e_in line. line) can)))
        (initial_bodies (without k g)) s.left s.normal.reached (λ y y_in. (
        let found = mapped_from starting (starts (without k g)) y y_in in
        reach_covers g (initial_bodies g) f own.normal.reached y
        (subst (λ z. Contains (initial_bodies g) z) found.2 (contains_mapped starting (starts g) found.0 ((in_without g k sound found.0).0 found.1).0))))

    -- with just enough constraints, one less would be too few
    pub owns_more : 2 * length x.elements < weight_of g x.owned + 3
    owns_more =
        let (y, y_in, holds) = left_holds in
        let around = left_covered y y_in in
        let is : around.0 ≡ x = holder_is around.0 around.1 (λ e h. around.2.elements e (holds e h)) in
        let within : Within y x = subst (λ z. Within y z) is around.2 in
        let left_tight = reached_tight (without k g) s.left (sound_without g k sound).edges_rise s.normal.reached in
        let enough = left_tight.enough y y_in in
        let longer = no_longer x.elements y.elements (distinct elem_number x.elements (owner_tight.family.rising x own.in_family).elements) holds in
        let left_out : (j : ConId) → Contains y.owned j → k ≢ j = λ j h same. (
        let start = left_tight.inside y y_in j h in
        ((in_without g k sound start.0).0 start.1).1 (start.2 ∙ sym same)) in
        let light = weighs_without g k sound y.owned left_out in
        let (start, start_in, start_is, inside) = owner_tight.inside x own.in_family k own.owns in
        let more = weighs_one_more g start start_in y.owned x.owned within.owned (λ h. left_out start.number h (sym start_is)) (subst (λ j. Contains x.owned j) (sym start_is) own.owns) in
        let some = weighs_something g sound start start_in in
        omega (arith, enough, longer, light, more, some)

    pub spare_is_over : IsOver (part_with g x.elements)
    spare_is_over =
        let more = owns_more in
        let same = owned_is_held g f sound.edges_rise (sound_two_each g sound) own.normal x own.in_family in
        let (u, v, differ, u_in, v_in) = has_two g f sound own.normal x own.in_family in
        let two = two_long x.elements u v differ u_in v_in in
        omega (arith, more, same, two)

-- a constraint that the owner doesn't own is another one
others_pass : (g : Graph) (f : List Body) (k : ConId) (x : Body) → IsOwner g f k x → OthersPass g x (differs_from k)
others_pass g f k x own s s_in not = other_passes s.number.0 k.0 (λ same. not (subst (λ j. Contains x.owned j) (sym (con_exact s.number k same)) own.owns))

module _ (g : Graph) (f n : List Body) (k : ConId) (x : Body) (sound : IsSoundGraph g) (own : IsOwner g f k x) (normal : IsNormal (trial_graph x.owned k g) n) where
  pub one_is_left : (m : List Body) × IsNormal (without k g) m × TakesPlace f x n m
  one_is_left = takes_place g f x (differs_from k) sound own.normal own.in_family (others_pass g f k x own) n normal

  pub others_stay : (m : List Body) → IsNormal (without k g) m → TakesPlace f x n m
  others_stay m m_normal y =
      let (left, left_normal, place) = one_is_left in
      let same = normal_same (without k g) m left (sound_without g k sound).edges_rise m_normal left_normal y in (
        (λ h. (place y).0 (same.0 h)),
        (λ h. same.1 ((place y).1 h)),
      )

  to_spare : HoldsAll n x.elements → IsSpare g k
  to_spare (y, y_in, holds) = (let (left, left_normal, place) = one_is_left in record {
    family = f;
    owner = x;
    owns = own;
    left = left;
    normal = left_normal;
    holds = (y, (place y).1 (inr y_in), holds);
  })

  from_spare : IsSpare g k → HoldsAll n x.elements
  from_spare s =
      let (y, y_in, holds) = left_holds g f k x sound own s in
      elim ((others_stay s.left s.normal y).0 y_in) [
        | inr new ↦ (y, new, holds)
        | inl kept ↦ absurd (kept.1 (holder_is g f k x sound own y kept.0 holds))
      ]

  pub trial_decides : IsSpare g k ↔ HoldsAll n x.elements
  trial_decides = (from_spare, to_spare)

pub in_whichever : (g : Graph) (f m : List Body) (k : ConId) (x : Body) → IsSoundGraph g → IsOwner g f k x → IsNormal (without k g) m → IsSpare g k ↔ HoldsAll m x.elements
in_whichever g f m k x sound own normal = (
  (λ s. (
      let (y, y_in, holds) = left_holds g f k x sound own s in
      (y, (normal_same (without k g) s.left m (sound_without g k sound).edges_rise s.normal normal y).0 y_in, holds))),
  (λ h. record { family = f; owner = x; owns = own; left = m; normal = normal; holds = h }),
)
