-- What constraints weigh where one of them is left out.
use Rattle.std.proofs.Common.{◌≡◌, ◌≢◌, refl, ◌+◌, ◌≤◌, Bool, true, false, cond, List, [], ◌∷◌, length, ap, sym, ◌∙◌, arith}
use Rattle.std.specs.Prelude.{Contains, filter, not, ◌&&◌, ◌||◌}
use Rattle.std.proofs.lemmas.Bool.{and_from, and_parts, not_from_false, false_from_ne_true}
use Rattle.sk_base.specs.declared.Elem.{Elem}
use Rattle.sk_base.specs.declared.ConId.{ConId}
use Rattle.sk_base.specs.declared.Graph.{Graph}
use Rattle.sk_base.specs.SoundGraph.{IsSoundGraph}
use Rattle.sk_base.specs.Numbering.{con_exact}
use Rattle.sk_base.proofs.Members.{contains_none, contains_head, contains_later, contains_one}
use Rattle.sk_base.proofs.Numbers.{other_passes}
use Rattle.sk_family.specs.Body.{Start, starts}
use Rattle.sk_rules.specs.Excess.{weight, weight_where, weight_of, is_owned}
use Rattle.sk_rules.proofs.WeighedGraphs.{sound_two_each}
use Rattle.sk_rules.proofs.SummedWeights.{weighs_one, weighs_more, weights_add, weighs_at_least, owned_found, found_owned}
use Rattle.sk_spare.specs.Sparing.{differs_from, without}
use Rattle.sk_rules.proofs.JustSome.{starts_of_part}

-- where only constraints go that do not pass, those that pass weigh the same
pub weighs_the_same : (p keep : Start → Bool) (ss : List Start) → ((s : Start) → Contains ss s → p s ≡ true → keep s ≡ true) → weight_where p (filter keep ss) ≡ weight_where p ss
weighs_the_same p keep [] each = refl
weighs_the_same p keep (s ∷ ss) each = told (keep s) refl (weighs_the_same p keep ss (λ t h. each t (contains_later s ss t h)))
  where
    told : (b : Bool) → keep s ≡ b → weight_where p (filter keep ss) ≡ weight_where p ss → weight_where p (cond b (s ∷ filter keep ss) (filter keep ss)) ≡ weight_where p (s ∷ ss)
    told true is rest = weighs_more p s (filter keep ss) ∙ ap (weighs_one (p s) s) rest ∙ sym (weighs_more p s ss)
    told false is rest =
        let fails : p s ≡ false = false_from_ne_true (p s) (λ passes. (let never : true ≡ false = sym (each s (contains_head s ss) passes) ∙ is in absurd (cc))) in
        rest ∙ sym (weighs_more p s ss ∙ ap (λ b. weighs_one b s (weight_where p ss)) fails)

-- what others own weighs the same without the constraint
pub weighs_without : (g : Graph) (k : ConId) → IsSoundGraph g → (owned : List ConId) → ((j : ConId) → Contains owned j → k ≢ j) → weight_of (without k g) owned ≡ weight_of g owned
weighs_without g k sound owned apart =
    ap (λ ss. weight_where (is_owned owned) ss) (starts_of_part g (differs_from k) sound)
    ∙ weighs_the_same (is_owned owned) (λ s. differs_from k s.number) (starts g)
    (λ s s_in passes. other_passes s.number.0 k.0 (λ same. apart s.number (owned_found owned s passes) (sym (con_exact s.number k same))))

-- one constraint more weighs as much more
pub weighs_one_more : (g : Graph) (s : Start) → Contains (starts g) s → (few many : List ConId) → ((k : ConId) → Contains few k → Contains many k) → ¬ Contains few s.number → Contains many s.number
    → weight_of g few + weight s ≤ weight_of g many
weighs_one_more g s s_in few many within left_out there =
    let added = weights_add (is_owned few) besides (is_owned many) (starts g)
    (λ t t_in. parted (is_owned few t) (is_owned many t) (λ passes. found_owned many t (within t.number (owned_found few t passes))))
    (λ t t_in passes other. (
    let both = and_parts (is_owned many t) (not (is_owned few t)) other in
    let never : true ≡ false = sym both.1 ∙ ap not passes in absurd (cc))) in
    let least = weighs_at_least besides (starts g) s s_in (and_from (is_owned many s) (not (is_owned few s)) (found_owned many s there)
    (not_from_false (is_owned few s) (false_from_ne_true (is_owned few s) (λ passes. left_out (owned_found few s passes))))) in
    omega arith
  where
    besides : Start → Bool
    besides t = is_owned many t && not (is_owned few t)

    parted : (a b : Bool) → (a ≡ true → b ≡ true) → b ≡ (a || (b && not a))
    parted true b to = to refl
    parted false true to = refl
    parted false false to = refl

pub two_long : (xs : List Elem) (a b : Elem) → a ≢ b → Contains xs a → Contains xs b → 2 ≤ length xs
two_long [] a b differ a_in b_in = absurd (contains_none a a_in)
two_long (x ∷ []) a b differ a_in b_in = absurd (differ (sym (contains_one x a a_in) ∙ contains_one x b b_in))
two_long (x ∷ y ∷ xs) a b differ a_in b_in = omega arith

-- each constraint of a sound graph weighs something
pub weighs_something : (g : Graph) → IsSoundGraph g → (s : Start) → Contains (starts g) s → 1 ≤ weight s
weighs_something g sound s s_in =
    let (a, b, differ, a_in, b_in) = sound_two_each g sound s s_in in
    let two = two_long s.elements a b differ a_in b_in in
    omega arith
