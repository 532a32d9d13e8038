-- What constraints weigh together.
use Rattle.std.proofs.Common.{◌≡◌, inl, inr, refl, ℕ, ◌+◌, ◌≤◌, Bool, true, false, cond, List, [], ◌∷◌, ap, sym, subst, ◌∙◌, arith}
use Rattle.std.specs.Prelude.{Contains, filter, sum_by, ◌||◌}
use Rattle.std.specs.List.{list_all}
use Rattle.std.proofs.lemmas.Bool.{and_parts, or_cases, or_left, or_right}
use Rattle.std.proofs.lemmas.List.Sums.{sum_by-cons}
use Rattle.sk_base.specs.declared.Elem.{Elem}
use Rattle.sk_base.specs.declared.ConId.{ConId}
use Rattle.sk_base.specs.declared.Graph.{Graph}
use Rattle.sk_base.specs.Numbering.{is_elem, con_number, con_exact}
use Rattle.sk_base.specs.Rising.{union}
use Rattle.sk_base.proofs.Members.{contains_none, contains_head, contains_later, contains_cases}
use Rattle.sk_base.proofs.Numbers.{elem_found, found_elem, among_found, found_among}
use Rattle.sk_base.proofs.Unions.{union_left, union_right, union_cases}
use Rattle.sk_base.proofs.Filters.{same_tests}
use Rattle.sk_family.specs.Body.{Start, starts}
use Rattle.sk_rules.specs.Excess.{weight, weight_where, weight_of, is_inside, is_owned}

-- a constraint is owned just where its number is one of them
pub owned_found : (owned : List ConId) (s : Start) → is_owned owned s ≡ true → Contains owned s.number
owned_found owned s passes = among_found con_number con_exact owned s.number passes

pub found_owned : (owned : List ConId) (s : Start) → Contains owned s.number → is_owned owned s ≡ true
found_owned owned s h = found_among con_number owned s.number h

-- a constraint lies inside just where all its elements do
pub found_inside : (xs : List Elem) (s : Start) → is_inside xs s ≡ true → (e : Elem) → Contains s.elements e → Contains xs e
found_inside xs s = each s.elements
  where
    each : (es : List Elem) → list_all (is_elem xs) es ≡ true → (e : Elem) → Contains es e → Contains xs e
    each [] passes e h = absurd (contains_none e h)
    each (d ∷ es) passes e h =
        let both = and_parts (is_elem xs d) (list_all (is_elem xs) es) passes in
        elim (contains_cases d es e h) [ inl here ↦ elem_found xs e (subst (λ z. is_elem xs z ≡ true) here both.0) | inr later ↦ each es both.1 e later ]

pub inside_found : (xs : List Elem) (s : Start) → ((e : Elem) → Contains s.elements e → Contains xs e) → is_inside xs s ≡ true
inside_found xs s = all s.elements
  where
    all : (es : List Elem) → ((e : Elem) → Contains es e → Contains xs e) → list_all (is_elem xs) es ≡ true
    all [] within = refl
    all (d ∷ es) within = rw (found_elem xs d (within d (contains_head d es))) (all es (λ e h. within e (contains_later d es e h)))

-- one constraint more
abbrev pub weighs_one : Bool → Start → ℕ → ℕ
weighs_one true s rest = weight s + rest
weighs_one false s rest = rest

pub weighs_more : (p : Start → Bool) (s : Start) (ss : List Start) → weight_where p (s ∷ ss) ≡ weighs_one (p s) s (weight_where p ss)
weighs_more p s ss = told (p s)
  where
    told : (b : Bool) → sum_by weight (cond b (s ∷ filter p ss) (filter p ss)) ≡ weighs_one b s (weight_where p ss)
    told true = sum_by-cons weight s (filter p ss)
    told false = refl

-- what all that pass weigh, one by one
pub weighs_by_one : (p : Start → Bool) (ss : List Start) → weight_where p ss ≡ sum_by (λ s. weighs_one (p s) s 0) ss
weighs_by_one p [] = refl
weighs_by_one p (s ∷ ss) =
    let more = weighs_more p s ss in
    let sums = sum_by-cons (λ t. weighs_one (p t) t 0) s ss in
    let rest = weighs_by_one p ss in
    let one = told (p s) (weight_where p ss) in
    omega arith
  where
    told : (b : Bool) (n : ℕ) → weighs_one b s n ≡ weighs_one b s 0 + n
    told true n = omega arith
    told false n = omega arith

pub same_weight : (p q : Start → Bool) (ss : List Start) → ((s : Start) → Contains ss s → p s ≡ q s) → weight_where p ss ≡ weight_where q ss
same_weight p q [] same = refl
same_weight p q (s ∷ ss) same =
    weighs_more p s ss
    ∙ ap (λ b. weighs_one b s (weight_where p ss)) (same s (contains_head s ss))
    ∙ ap (weighs_one (q s) s) (same_weight p q ss (λ t h. same t (contains_later s ss t h)))
    ∙ sym (weighs_more q s ss)

-- where each passes one test or the other, and none both, the weights add up
pub weights_add : (p q r : Start → Bool) (ss : List Start) → ((s : Start) → Contains ss s → r s ≡ (p s || q s)) → ((s : Start) → Contains ss s → p s ≡ true → q s ≡ true → ⊥)
    → weight_where r ss ≡ weight_where p ss + weight_where q ss
weights_add p q r [] either apart = refl
weights_add p q r (s ∷ ss) either apart =
    let rest = weights_add p q r ss (λ t h. either t (contains_later s ss t h)) (λ t h. apart t (contains_later s ss t h)) in
    let r_more = weighs_more r s ss in
    let p_more = weighs_more p s ss in
    let q_more = weighs_more q s ss in
    let here = told (p s) (q s) (r s) (weight_where p ss) (weight_where q ss) (weight_where r ss) (either s (contains_head s ss)) (apart s (contains_head s ss)) rest in
    omega arith
  where
    told : (a b c : Bool) (m n o : ℕ) → c ≡ (a || b) → (a ≡ true → b ≡ true → ⊥) → o ≡ m + n → weighs_one c s o ≡ weighs_one a s m + weighs_one b s n
    told true true c m n o is not rest = absurd (not refl refl)
    told true false c m n o is not rest = subst (λ d. weighs_one d s o ≡ weight s + m + n) (sym is) (omega arith)
    told false true c m n o is not rest = subst (λ d. weighs_one d s o ≡ m + (weight s + n)) (sym is) (omega arith)
    told false false c m n o is not rest = subst (λ d. weighs_one d s o ≡ m + n) (sym is) rest

-- where all that pass weigh nothing, they weigh nothing together
pub none_weigh : (p : Start → Bool) (ss : List Start) → ((s : Start) → Contains ss s → p s ≡ true → weight s ≡ 0) → weight_where p ss ≡ 0
none_weigh p [] light = refl
none_weigh p (s ∷ ss) light = weighs_more p s ss ∙ told (p s) refl (none_weigh p ss (λ t h. light t (contains_later s ss t h)))
  where
    told : (b : Bool) → p s ≡ b → weight_where p ss ≡ 0 → weighs_one b s (weight_where p ss) ≡ 0
    told true is rest = (let here = light s (contains_head s ss) is in omega arith)
    told false is rest = rest

-- one that passes weighs no more than all that do
pub weighs_at_least : (p : Start → Bool) (ss : List Start) (s : Start) → Contains ss s → p s ≡ true → weight s ≤ weight_where p ss
weighs_at_least p [] s h passes = absurd (contains_none s h)
weighs_at_least p (t ∷ ss) s h passes =
    let more = weighs_more p t ss in
    elim (contains_cases t ss s h) [
      | inl here ↦ (
          let is : p t ≡ true = subst (λ z. p z ≡ true) (sym here) passes in
          let one : weighs_one (p t) t (weight_where p ss) ≡ weight t + weight_where p ss = ap (λ b. weighs_one b t (weight_where p ss)) is in
          let level : weight t ≡ weight s = ap weight here in
          omega arith)
      | inr later ↦ (
          let rest = weighs_at_least p ss s later passes in
          let less = no_less (p t) (weight_where p ss) in
          omega arith)
    ]
  where
    no_less : (b : Bool) (n : ℕ) → n ≤ weighs_one b t n
    no_less true n = omega arith
    no_less false n = omega arith

pub weighs_itself : (g : Graph) (s : Start) → Contains (starts g) s → weight s ≤ weight_of g (s.number ∷ [])
weighs_itself g s s_in = weighs_at_least (is_owned (s.number ∷ [])) (starts g) s s_in (found_owned (s.number ∷ []) s (contains_head s.number []))

-- what two own apart weighs as much as what each owns
pub weighs_apart : (ss : List Start) (xs ys : List ConId) → ((k : ConId) → Contains xs k → ¬ Contains ys k)
    → weight_where (is_owned (union con_number xs ys)) ss ≡ weight_where (is_owned xs) ss + weight_where (is_owned ys) ss
weighs_apart ss xs ys apart =
    weights_add (is_owned xs) (is_owned ys) (is_owned (union con_number xs ys)) ss
    (λ s s_in. same_tests (is_owned (union con_number xs ys) s) (is_owned xs s || is_owned ys s)
    (λ passes. elim (union_cases con_number xs ys s.number (owned_found (union con_number xs ys) s passes)) [
      | inl left ↦ or_left (is_owned xs s) (is_owned ys s) (found_owned xs s left)
      | inr right ↦ or_right (is_owned xs s) (is_owned ys s) (found_owned ys s right)
    ])
    (λ passes. found_owned (union con_number xs ys) s (elim (or_cases (is_owned xs s) (is_owned ys s) passes) [
      | inl left ↦ union_left con_number con_exact xs ys s.number (owned_found xs s left)
      | inr right ↦ union_right con_number xs ys s.number (owned_found ys s right)
    ])))
    (λ s s_in left right. apart s.number (owned_found xs s left) (owned_found ys s right))

pub weighs_both : (g : Graph) (xs ys : List ConId) → ((k : ConId) → Contains xs k → ¬ Contains ys k) → weight_of g (union con_number xs ys) ≡ weight_of g xs + weight_of g ys
weighs_both g = weighs_apart (starts g)
