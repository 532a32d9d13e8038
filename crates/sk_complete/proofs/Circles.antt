-- Rings of lines among bodies, which stay as bodies merge that meet once.
use Rattle.std.proofs.Common.{◌≡◌, ◌≢◌, ◌⊎◌, inl, inr, List, [], ◌∷◌, refl, sym, subst, ◌∙◌}
use Rattle.std.specs.Prelude.{Contains}
use Rattle.sk_base.specs.declared.Elem.{Elem}
use Rattle.sk_base.specs.declared.Graph.{Graph}
use Rattle.sk_base.proofs.Deciding.{elem_settles}
use Rattle.sk_base.proofs.Members.{contains_head, contains_later, contains_one, contains_cases}
use Rattle.sk_family.specs.Body.{Body, join_all}
use Rattle.sk_family.specs.Rules.{IsLine}
use Rattle.sk_family.proofs.Bodies.{body_settles, each_within}
use Rattle.sk_rules.specs.Reach.{AreAmong, Replaces, Reach, stays, goes}
use Rattle.sk_rules.proofs.Counting.{IsTight, step_tight}
use Rattle.sk_rules.proofs.Families.{IsFamily}
use Rattle.sk_tree.specs.Meeting.{SharesNoOther, MeetsOnce}
use Rattle.sk_plan.specs.Sparse.{AllOwnJustEnough, AreThreeMeetingOnce}
use Rattle.sk_plan.proofs.JustEnough.{step_once}

-- a chain of lines leads from the one to the other, each two neighbours of which lie in one body of the family other than this
pub data Around (g : Graph) (f : List Body) (but : Body) : Elem → Elem → Type 0 where
  here : {l : Elem} → Around g f but l l
  by_body : {l m n : Elem} → IsLine g m → (y : Body) → Contains f y → y ≢ but → Contains y.elements l → Contains y.elements m → Around g f but m n → Around g f but l n

-- two different lines of one body are tied by the others
pub record HasCircle (g : Graph) (f : List Body) : Type 0 where
  pub body : Body
  pub body_in : Contains f body
  pub one : Elem
  pub other : Elem
  pub differ : one ≢ other
  pub one_line : IsLine g one
  pub other_line : IsLine g other
  pub one_in : Contains body.elements one
  pub other_in : Contains body.elements other
  pub tied : Around g f body one other

-- in a family with more bodies too
around_more : (g : Graph) (f n : List Body) (but : Body) → ((x : Body) → Contains f x → Contains n x) → (l m : Elem) → Around g f but l m → Around g n but l m
around_more g f n but more l m here = here
around_more g f n but more l m (by_body {m = k} line y y_in differs l_in k_in rest) = by_body line y (more y y_in) differs l_in k_in (around_more g f n but more k m rest)

pub circle_more : (g : Graph) (f n : List Body) → ((x : Body) → Contains f x → Contains n x) → HasCircle g f → HasCircle g n
circle_more g f n more c = record {
  body = c.body;
  body_in = more c.body c.body_in;
  one = c.one;
  other = c.other;
  differ = c.differ;
  one_line = c.one_line;
  other_line = c.other_line;
  one_in = c.one_in;
  other_in = c.other_in;
  tied = around_more g f n c.body more c.one c.other c.tied;
}

-- the family behind a merge of three: the whole that they make is in it, and what was none of them
record TakesThree (f n : List Body) (a b c whole : Body) : Type 0 where
  whole_in : Contains n whole
  stayed : (y : Body) → Contains f y → y ≢ a → y ≢ b → y ≢ c → Contains n y × (y ≢ whole)
  of_a : (e : Elem) → Contains a.elements e → Contains whole.elements e
  of_b : (e : Elem) → Contains b.elements e → Contains whole.elements e
  of_c : (e : Elem) → Contains c.elements e → Contains whole.elements e

turned : (f n : List Body) (a b c whole : Body) → TakesThree f n a b c whole → TakesThree f n b c a whole
turned f n a b c whole t = record {
  whole_in = t.whole_in;
  stayed = λ y y_in not_b not_c not_a. t.stayed y y_in not_a not_b not_c;
  of_a = t.of_b;
  of_b = t.of_c;
  of_c = t.of_a;
}

-- of two bodies the lines that lie in the one or the other, and what ties them there
data Inner (g : Graph) (y z : Body) : Elem → Elem → Type 0 where
  alike : {l : Elem} → Inner g y z l l
  in_first : {l m : Elem} → Contains y.elements l → Contains y.elements m → Inner g y z l m
  in_second : {l m : Elem} → Contains z.elements l → Contains z.elements m → Inner g y z l m
  across : {l m : Elem} → (e : Elem) → IsLine g e → Contains y.elements e → Contains z.elements e → Contains y.elements l → Contains z.elements m → Inner g y z l m
  back : {l m : Elem} → (e : Elem) → IsLine g e → Contains y.elements e → Contains z.elements e → Contains z.elements l → Contains y.elements m → Inner g y z l m

module _ (g : Graph) (y z : Body) where
  first_joins : (l k m : Elem) → IsLine g k → Contains y.elements l → Contains y.elements k → Inner g y z k m → Inner g y z l m
  first_joins l k m line l_in k_in alike = in_first l_in k_in
  first_joins l k m line l_in k_in (in_first k_y m_y) = in_first l_in m_y
  first_joins l k m line l_in k_in (in_second k_z m_z) = across k line k_in k_z l_in m_z
  first_joins l k m line l_in k_in (across e e_line e_y e_z k_y m_z) = across e e_line e_y e_z l_in m_z
  first_joins l k m line l_in k_in (back e e_line e_y e_z k_z m_y) = in_first l_in m_y

  second_joins : (l k m : Elem) → IsLine g k → Contains z.elements l → Contains z.elements k → Inner g y z k m → Inner g y z l m
  second_joins l k m line l_in k_in alike = in_second l_in k_in
  second_joins l k m line l_in k_in (in_first k_y m_y) = back k line k_y k_in l_in m_y
  second_joins l k m line l_in k_in (in_second k_z m_z) = in_second l_in m_z
  second_joins l k m line l_in k_in (across e e_line e_y e_z k_y m_z) = in_second l_in m_z
  second_joins l k m line l_in k_in (back e e_line e_y e_z k_z m_y) = back e e_line e_y e_z l_in m_y

module _ (g : Graph) (f n : List Body) (x y z whole : Body) (t : TakesThree f n x y z whole) where
  -- from a line on, a chain beside x leads around the whole to one of its lines, and from there on within y and z
  record Leads (l m : Elem) : Type 0 where
    at : Elem
    line : IsLine g at
    within : Contains whole.elements at
    outside : Around g n whole l at
    inside : Inner g y z at m

  -- two lines of the whole which are tied outside are one, or there is a ring
  met : (l at : Elem) → IsLine g l → IsLine g at → Contains whole.elements l → Contains whole.elements at → Around g n whole l at → HasCircle g n ⊎ (l ≡ at)
  met l at l_line at_line l_in at_in tied =
      elim (elem_settles l at) [
        | inl same ↦ inr same
        | inr differ ↦ inl (record {
          body = whole;
          body_in = t.whole_in;
          one = l;
          other = at;
          differ = differ;
          one_line = l_line;
          other_line = at_line;
          one_in = l_in;
          other_in = at_in;
          tied = tied;
        })
      ]

  walk : (l m : Elem) → IsLine g l → Contains whole.elements m → Around g f x l m → HasCircle g n ⊎ Leads l m
  walk l m line m_in here = inr (record { at = l; line = line; within = m_in; outside = here; inside = alike })
  walk l m line m_in (by_body {m = k} k_line w w_in differs l_w k_w rest) =
      elim (walk k m k_line m_in rest) [
        | inl circle ↦ inl circle
        | inr leads ↦ elim (body_settles w y) [
          | inl is ↦ (
              let l_y = subst (λ (v : Body). Contains v.elements l) is l_w in
              let k_y = subst (λ (v : Body). Contains v.elements k) is k_w in
              elim (met k leads.at k_line leads.line (t.of_b k k_y) leads.within leads.outside) [
                | inl circle ↦ inl circle
                | inr same ↦ inr (record {
                  at = l;
                  line = line;
                  within = t.of_b l l_y;
                  outside = here;
                  inside = first_joins g y z l k m k_line l_y k_y (subst (λ e. Inner g y z e m) (sym same) leads.inside);
                })
              ])
          | inr not_y ↦ elim (body_settles w z) [
            | inl is ↦ (
                let l_z = subst (λ (v : Body). Contains v.elements l) is l_w in
                let k_z = subst (λ (v : Body). Contains v.elements k) is k_w in
                elim (met k leads.at k_line leads.line (t.of_c k k_z) leads.within leads.outside) [
                  | inl circle ↦ inl circle
                  | inr same ↦ inr (record {
                    at = l;
                    line = line;
                    within = t.of_c l l_z;
                    outside = here;
                    inside = second_joins g y z l k m k_line l_z k_z (subst (λ e. Inner g y z e m) (sym same) leads.inside);
                  })
                ])
            | inr not_z ↦ (
                let still = t.stayed w w_in differs not_y not_z in
                inr (record {
                  at = leads.at;
                  line = leads.line;
                  within = leads.within;
                  outside = by_body k_line w still.0 still.1 l_w k_w leads.outside;
                  inside = leads.inside;
                }))
          ]
        ]
      ]

  -- lines of x that lie in y and z are no ring of the three alone
  module _ (p q r : Elem) (only_p : SharesNoOther x.elements y.elements p) (only_q : SharesNoOther y.elements z.elements q) (only_r : SharesNoOther z.elements x.elements r)
      (not_all : ¬ (IsLine g p × IsLine g q × IsLine g r)) where
    none_inside : (l m : Elem) → l ≢ m → IsLine g l → IsLine g m → Contains x.elements l → Contains x.elements m → ¬ Inner g y z l m
    none_inside l m differ l_line m_line l_x m_x alike = differ refl
    none_inside l m differ l_line m_line l_x m_x (in_first l_y m_y) = differ (only_p l (l_x, l_y) ∙ sym (only_p m (m_x, m_y)))
    none_inside l m differ l_line m_line l_x m_x (in_second l_z m_z) = differ (only_r l (l_z, l_x) ∙ sym (only_r m (m_z, m_x)))
    none_inside l m differ l_line m_line l_x m_x (across e e_line e_y e_z l_y m_z) =
        not_all (subst (λ d. IsLine g d) (only_p l (l_x, l_y)) l_line, subst (λ d. IsLine g d) (only_q e (e_y, e_z)) e_line, subst (λ d. IsLine g d) (only_r m (m_z, m_x)) m_line)
    none_inside l m differ l_line m_line l_x m_x (back e e_line e_y e_z l_z m_y) =
        not_all (subst (λ d. IsLine g d) (only_p m (m_x, m_y)) m_line, subst (λ d. IsLine g d) (only_q e (e_y, e_z)) e_line, subst (λ d. IsLine g d) (only_r l (l_z, l_x)) l_line)

    -- so a ring through x stays one through the whole
    through : (l m : Elem) → l ≢ m → IsLine g l → IsLine g m → Contains x.elements l → Contains x.elements m → Around g f x l m → HasCircle g n
    through l m differ l_line m_line l_x m_x tied =
        elim (walk l m l_line (t.of_a m m_x) tied) [
          | inl circle ↦ circle
          | inr leads ↦ elim (met l leads.at l_line leads.line (t.of_a l l_x) leads.within leads.outside) [
            | inl circle ↦ circle
            | inr same ↦ absurd (none_inside l m differ l_line m_line l_x m_x (subst (λ e. Inner g y z e m) (sym same) leads.inside))
          ]
        ]

-- a ring through another body stays one through it
module _ (g : Graph) (f n : List Body) (a b c whole : Body) (t : TakesThree f n a b c whole) where
  beside : (x : Body) → x ≢ whole → (l m : Elem) → Around g f x l m → Around g n x l m
  beside x other l m here = here
  beside x other l m (by_body {m = k} line w w_in differs l_w k_w rest) =
      let more = beside x other k m rest in
      elim (body_settles w a) [
        | inl is ↦ by_body line whole t.whole_in (λ same. other (sym same)) (t.of_a l (subst (λ (v : Body). Contains v.elements l) is l_w)) (t.of_a k (subst (λ (v : Body). Contains v.elements k) is k_w)) more
        | inr not_a ↦ elim (body_settles w b) [
          | inl is ↦ by_body line whole t.whole_in (λ same. other (sym same)) (t.of_b l (subst (λ (v : Body). Contains v.elements l) is l_w)) (t.of_b k (subst (λ (v : Body). Contains v.elements k) is k_w)) more
          | inr not_b ↦ elim (body_settles w c) [
            | inl is ↦ by_body line whole t.whole_in (λ same. other (sym same)) (t.of_c l (subst (λ (v : Body). Contains v.elements l) is l_w)) (t.of_c k (subst (λ (v : Body). Contains v.elements k) is k_w)) more
            | inr not_c ↦ (let still = t.stayed w w_in not_a not_b not_c in by_body line w still.0 differs l_w k_w more)
          ]
        ]
      ]

  module _ (p q r : Elem) (once : MeetsOnce g a.elements b.elements c.elements p q r) where
    circle_stays : HasCircle g f → HasCircle g n
    circle_stays ring =
        elim (body_settles ring.body a) [
          | inl is ↦ at_a (subst (λ (v : Body). Contains v.elements ring.one) is ring.one_in) (subst (λ (v : Body). Contains v.elements ring.other) is ring.other_in) (subst (λ (v : Body). Around g f v ring.one ring.other) is ring.tied)
          | inr not_a ↦ elim (body_settles ring.body b) [
            | inl is ↦ at_b (subst (λ (v : Body). Contains v.elements ring.one) is ring.one_in) (subst (λ (v : Body). Contains v.elements ring.other) is ring.other_in) (subst (λ (v : Body). Around g f v ring.one ring.other) is ring.tied)
            | inr not_b ↦ elim (body_settles ring.body c) [
              | inl is ↦ at_c (subst (λ (v : Body). Contains v.elements ring.one) is ring.one_in) (subst (λ (v : Body). Contains v.elements ring.other) is ring.other_in) (subst (λ (v : Body). Around g f v ring.one ring.other) is ring.tied)
              | inr not_c ↦ (
                  let still = t.stayed ring.body ring.body_in not_a not_b not_c in
                  record {
                    body = ring.body;
                    body_in = still.0;
                    one = ring.one;
                    other = ring.other;
                    differ = ring.differ;
                    one_line = ring.one_line;
                    other_line = ring.other_line;
                    one_in = ring.one_in;
                    other_in = ring.other_in;
                    tied = beside ring.body still.1 ring.one ring.other ring.tied;
                  })
            ]
          ]
        ]
      where
        at_a : Contains a.elements ring.one → Contains a.elements ring.other → Around g f a ring.one ring.other → HasCircle g n
        at_a one_in other_in tied =
            through g f n a b c whole t p q r once.only_a once.only_b once.only_c once.triangle.not_all_lines
            ring.one ring.other ring.differ ring.one_line ring.other_line one_in other_in tied

        at_b : Contains b.elements ring.one → Contains b.elements ring.other → Around g f b ring.one ring.other → HasCircle g n
        at_b one_in other_in tied =
            through g f n b c a whole (turned f n a b c whole t) q r p once.only_b once.only_c once.only_a (λ h. once.triangle.not_all_lines (h.2, h.0, h.1))
            ring.one ring.other ring.differ ring.one_line ring.other_line one_in other_in tied

        at_c : Contains c.elements ring.one → Contains c.elements ring.other → Around g f c ring.one ring.other → HasCircle g n
        at_c one_in other_in tied =
            through g f n c a b whole (turned f n b c a whole (turned f n a b c whole t)) r p q once.only_c once.only_a once.only_b (λ h. once.triangle.not_all_lines (h.1, h.2, h.0))
            ring.one ring.other ring.differ ring.one_line ring.other_line one_in other_in tied

-- a merge of three that meet once
merged_circle : (g : Graph) (f n : List Body) → IsFamily f → (merged : List Body) → AreAmong merged f → Replaces f merged n → AreThreeMeetingOnce g merged → HasCircle g f → HasCircle g n
merged_circle g f n family [] among replaces once ring = absurd once
merged_circle g f n family (a ∷ []) among replaces once ring = absurd once
merged_circle g f n family (a ∷ b ∷ []) among replaces once ring = absurd once
merged_circle g f n family (a ∷ b ∷ c ∷ []) among replaces (p, q, r, once) ring =
    let three = a ∷ b ∷ c ∷ [] in
    let whole = join_all (a ∷ b ∷ c ∷ []) in
    let a_at : Contains (a ∷ b ∷ c ∷ []) a = contains_head a (b ∷ c ∷ []) in
    let b_at : Contains (a ∷ b ∷ c ∷ []) b = contains_later a (b ∷ c ∷ []) b (contains_head b (c ∷ [])) in
    let c_at : Contains (a ∷ b ∷ c ∷ []) c = contains_later a (b ∷ c ∷ []) c (contains_later b (c ∷ []) c (contains_head c [])) in
    circle_stays g f n a b c (join_all (a ∷ b ∷ c ∷ [])) (record {
      whole_in = (replaces (join_all (a ∷ b ∷ c ∷ []))).1 (inl refl);
      stayed = λ y y_in not_a not_b not_c. (
        (replaces y).1 (inr (
          y_in,
          λ h. elim (contains_cases a (b ∷ c ∷ []) y h) [
            | inl is ↦ not_a (sym is)
            | inr rest ↦ elim (contains_cases b (c ∷ []) y rest) [ inl is ↦ not_b (sym is) | inr last ↦ not_c (sym (contains_one c y last)) ]
          ],
        )),
        λ same. (
            let own = family.owns a (among a a_at) in
            let owned = (each_within (a ∷ b ∷ c ∷ []) a a_at).owned own.0 own.1 in
            not_a (family.apart y a own.0 y_in (among a a_at) (subst (λ (v : Body). Contains v.owned own.0) (sym same) owned) own.1)),
      );
      of_a = (each_within (a ∷ b ∷ c ∷ []) a a_at).elements;
      of_b = (each_within (a ∷ b ∷ c ∷ []) b b_at).elements;
      of_c = (each_within (a ∷ b ∷ c ∷ []) c c_at).elements;
    }) p q r once ring
merged_circle g f n family (a ∷ b ∷ c ∷ d ∷ rest) among replaces once ring = absurd once

-- where what merging leads to owns just enough, a ring stays to the end
pub circle_to_end : (g : Graph) (f n : List Body) → Reach g f n → IsTight g f → AllOwnJustEnough g n → HasCircle g f → HasCircle g n
circle_to_end g f n stays tight just ring = ring
circle_to_end g f n (goes {mid = mid} one rest) tight just ring =
    circle_to_end g mid n rest (step_tight g f mid one tight) just
    (merged_circle g f mid tight.family one.merged one.among one.replaces (step_once g f mid n one rest tight just) ring)
