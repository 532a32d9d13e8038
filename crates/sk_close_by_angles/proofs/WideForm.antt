-- All wide normal families of a graph are the same, and the normal family lies in them.
use Rattle.std.proofs.Common.{◌≡◌, inl, inr, List, [], ◌∷◌, sym, subst}
use Rattle.std.specs.Prelude.{Contains}
use Rattle.sk_base.specs.declared.Graph.{Graph}
use Rattle.sk_base.specs.SoundGraph.{HasRisingEdges}
use Rattle.sk_base.proofs.Members.{contains_head, contains_later, contains_one, contains_cases}
use Rattle.sk_family.specs.Body.{Body, initial_bodies, SameBodies}
use Rattle.sk_family.proofs.Bodies.{Within, body_settles}
use Rattle.sk_rules.specs.Reach.{Reach, Step, IsNormal, stays, goes}
use Rattle.sk_rules.proofs.Families.{NamesSome, some_merges}
use Rattle.sk_rules.proofs.NormalForm.{Gathers, two_among, one_around, covered_by, same_by}
use Rattle.sk_close_by_angles.specs.Ties.{wide_rule, MeetsByTie}
use Rattle.sk_close_by_angles.specs.WideReach.{WideStep, WideReach, IsWideClosed, IsWideNormal, LiesIn}
use Rattle.sk_close_by_angles.proofs.Tying.{meets_covered}

pub wide_names_some : (g : Graph) → NamesSome (wide_rule g)
wide_names_some g f some (inl can) = some_merges g f some can
wide_names_some g f [] (inr can) = absurd can
wide_names_some g f (a ∷ rest) (inr can) = (a, contains_head a rest)

-- in a closed family, bodies of which the tie rule holds are one
one_of_tied : (g : Graph) (n : List Body) → IsWideClosed g n → (p q : Body) → Contains n p → Contains n q → MeetsByTie g n p.elements q.elements → p ≡ q
one_of_tied g n closed p q p_in q_in meets =
    elim (body_settles p q) [ inl same ↦ same | inr other ↦ absurd (closed (p ∷ q ∷ []) (two_among n p q p_in q_in) (inr (other, meets))) ]

pub wide_gathers : (g : Graph) → Gathers (wide_rule g)
wide_gathers g f n covered closed some among (inl can) =
    one_around g n (λ others within can_merge. closed others within (inl can_merge)) some can (λ x h. covered x (among x h))
wide_gathers g f n covered closed [] among (inr can) = absurd can
wide_gathers g f n covered closed (a ∷ []) among (inr can) = absurd can
wide_gathers g f n covered closed (a ∷ b ∷ []) among (inr can) =
    let p = covered a (among a (contains_head a (b ∷ []))) in
    let q = covered b (among b (contains_later a (b ∷ []) b (contains_head b []))) in
    let same : p.0 ≡ q.0 = one_of_tied g n closed p.0 q.0 p.1 q.1 (meets_covered g f n covered a b p.0 q.0 p.2 q.2 can.1) in (
      p.0,
      p.1,
      λ x h. elim (contains_cases a (b ∷ []) x h) [
        | inl is ↦ subst (λ z. Within z p.0) is p.2
        | inr rest ↦ subst (λ z. Within z p.0) (contains_one b x rest) (subst (λ z. Within b z) (sym same) q.2)
      ],
    )
wide_gathers g f n covered closed (a ∷ b ∷ c ∷ rest) among (inr can) = absurd can

pub wide_same : (g : Graph) (one other : List Body) → HasRisingEdges g → IsWideNormal g one → IsWideNormal g other → SameBodies one other
wide_same g one other rises p q = same_by (wide_rule g) (wide_gathers g) (wide_names_some g) g rises one other p q

-- a merge by the first two rules is one by the three
pub step_widens : (g : Graph) (old new : List Body) → Step g old new → WideStep g old new
step_widens g old new m = record { merged = m.merged; can_merge = inl m.can_merge; among = m.among; replaces = m.replaces }

pub reach_widens : (g : Graph) (f n : List Body) → Reach g f n → WideReach g f n
reach_widens g f n stays = stays
reach_widens g f n (goes {mid = mid} one rest) = goes (step_widens g f mid one) (reach_widens g mid n rest)

pub normal_lies_in : (g : Graph) (f n : List Body) → IsNormal g f → IsWideNormal g n → (x : Body) → Contains f x → (y : Body) × Contains n y × LiesIn x y
normal_lies_in g f n normal wide x x_in =
    let found = covered_by (wide_rule g) (wide_gathers g) g f n (reach_widens g (initial_bodies g) f normal.reached) wide x x_in in
    (found.0, found.1, record { elements = found.2.elements; owned = found.2.owned })
