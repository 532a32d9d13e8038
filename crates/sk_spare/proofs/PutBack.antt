-- How the families of the search by halves follow what is set aside, and what they decide.
use Rattle.std.proofs.Common.{◌≡◌, ◌⊎◌, inl, inr, ℕ, ◌+◌, ◌-◌, ◌<◌, ◌≤◌, Bool, true, false, List, [], ◌∷◌, ◌++◌, length, take, drop, get_or, refl, ap, sym, subst, ◌∙◌, arith}
use Rattle.std.specs.Prelude.{Contains, ◌↔◌, ◌==◌, filter, map}
use Rattle.std.specs.List.{list_any}
use Rattle.std.proofs.lemmas.Bool.{and_parts, or_cases, or_left, or_right, false_from_ne_true}
use Rattle.std.proofs.lemmas.List.{take_more, take_all, get_or_default, length-drop}
use Rattle.std.proofs.lemmas.List.Elements.{filter_agree, Contains-get_or, Contains-push_cases, Contains-append_left, Contains-append_right}
use Rattle.sk_base.specs.declared.Elem.{Elem}
use Rattle.sk_base.specs.declared.ConId.{ConId}
use Rattle.sk_base.specs.declared.Node.{Node}
use Rattle.sk_base.specs.declared.Edge.{Edge}
use Rattle.sk_base.specs.declared.Block.{Block}
use Rattle.sk_base.specs.declared.Graph.{Graph}
use Rattle.sk_base.specs.SoundGraph.{IsSoundGraph}
use Rattle.sk_base.specs.Numbering.{con_number, con_exact}
use Rattle.sk_base.specs.Rising.{IsRising}
use Rattle.sk_base.proofs.Members.{contains_none, contains_head, contains_one}
use Rattle.sk_base.proofs.Numbers.{other_passes, passes_differ, among_found, found_among}
use Rattle.sk_base.proofs.Pairs.{pairs_none}
use Rattle.sk_base.proofs.Splits.{in_take, in_drop, in_either, pairs_take, pairs_drop, taken_from, dropped_from}
use Rattle.sk_family.specs.Body.{Body, Start, starts, starting, initial_bodies, nothing}
use Rattle.sk_family.specs.Clusters.{Clusters, bodies, IsSound}
use Rattle.sk_family.specs.Starting.{start_with}
use Rattle.sk_family.specs.Starts.{HasStart, IsFree}
use Rattle.sk_base.proofs.Deciding.{con_settles}
use Rattle.sk_base.proofs.Filters.{same_tests}
use Rattle.sk_family.proofs.GraphStarts.{start_at, found_start, no_starts}
use Rattle.sk_family.specs.Rules.{IsLine}
use Rattle.sk_rules.specs.Reach.{Step, Reach, IsClosed, IsNormal, stays, goes}
use Rattle.sk_rules.specs.Keeping.{HasOneMore}
use Rattle.sk_rules.proofs.Keeping.{can_carry, contains_settles}
use Rattle.sk_rules.proofs.KeptClusters.{adopted, owned_is_constraint}
use Rattle.sk_rules.proofs.Takable.{reach_on}
use Rattle.sk_rules.specs.JustSome.{with_just}
use Rattle.sk_spare.specs.Sparing.{differs_from}
use Rattle.sk_spare.specs.Trying.{is_other, trial_graph}
use Rattle.sk_spare.specs.Halving.{IsMadeOf, too, AreFurther, IsBeside}
use Rattle.sk_rules.proofs.JustSome.{in_part, sound_part}
use Rattle.sk_rules.proofs.Closing.{no_merge_of_one}

-- the rules look at the elements alone, so merges of one graph are those of another with these elements
module _ (old new : Graph) (lines : (e : Elem) → IsLine new e → IsLine old e) where
  step_carry : (f m : List Body) → Step old f m → Step new f m
  step_carry f m one = record {
    merged = one.merged;
    can_merge = can_carry old new one.merged (λ y y_in e e_in line. lines e line) one.can_merge;
    among = one.among;
    replaces = one.replaces;
  }

  reach_carry : (f m : List Body) → Reach old f m → Reach new f m
  reach_carry f m stays = stays
  reach_carry f m (goes {mid = mid} one rest) = goes (step_carry f mid one) (reach_carry mid m rest)

  closed_carry : (f : List Body) → IsClosed new f → IsClosed old f
  closed_carry f closed some among can = closed some among (can_carry old new some (λ y y_in e e_in line. lines e line) can)

-- more merges
pub made_on : (g : Graph) (p : ConId → Bool) (f m : List Body) → IsMadeOf g p f → Reach g f m → IsMadeOf g p m
made_on g p f m made reach =
    reach_on (with_just p g) (initial_bodies (with_just p g)) f m made (reach_carry g (with_just p g) (λ e line. line) f m reach)

just_same : (g : Graph) (p q : ConId → Bool) → ((k : ConId) → p k ≡ q k) → with_just p g ≡ with_just q g
just_same g p q same =
    ap (λ (es : List Edge). record { nodes = g.nodes; edges = es; blocks = filter (λ (b : Block). p b.id) g.blocks })
    (filter_agree (λ (e : Edge). p e.id) (λ (e : Edge). q e.id) (λ e. same e.id) g.edges)
    ∙ ap (λ (bs : List Block). record { nodes = g.nodes; edges = filter (λ (e : Edge). q e.id) g.edges; blocks = bs })
    (filter_agree (λ (b : Block). p b.id) (λ (b : Block). q b.id) (λ b. same b.id) g.blocks)

-- where one constraint is set aside, the family decides whether it may go
module _ (g : Graph) (owned : List ConId) (k : ConId) (p : ConId → Bool) (f : List Body) (beside : IsBeside g owned (k ∷ []) p f) where
  as_other : (j : ConId) → p j ≡ is_other owned k j
  as_other j = same_tests (p j) (is_other owned k j)
      (λ passes. (
      let is = (beside.exactly j).0 passes in
      rw (found_among con_number owned j is.0) (other_passes j.0 k.0 (λ same. is.1 (subst (λ i. Contains (k ∷ []) i) (sym (con_exact j k same)) (contains_head k []))))))
      (λ passes. (
      let both = and_parts (list_any (λ (i : ConId). i.0 == j.0) owned) (differs_from k j) passes in
      (beside.exactly j).1 (
        among_found con_number con_exact owned j both.0,
        λ aside. passes_differ j.0 k.0 both.1 (ap con_number (sym (contains_one k j aside))),
      )))

  pub trial_normal : IsNormal (trial_graph owned k g) f
  trial_normal =
      subst (λ (t : Graph). IsNormal t f) (just_same g p (is_other owned k) as_other)
      (record { reached = beside.made; closed = closed_carry (with_just p g) g (λ e line. line) f beside.closed })

-- what passes together with some constraints
pub passes_too : (p : ConId → Bool) (numbers : List ConId) (k : ConId) → (too p numbers k ≡ true) ↔ ((p k ≡ true) ⊎ Contains numbers k)
passes_too p numbers k = (
  (λ h. elim (or_cases (list_any (λ (j : ConId). j.0 == k.0) numbers) (p k) h) [
    | inl found ↦ inr (among_found con_number con_exact numbers k found)
    | inr passes ↦ inl passes
  ]),
  (λ h. elim h [
    | inl passes ↦ or_right (list_any (λ (j : ConId). j.0 == k.0) numbers) (p k) passes
    | inr there ↦ or_left (list_any (λ (j : ConId). j.0 == k.0) numbers) (p k) (found_among con_number numbers k there)
  ]),
)

-- one constraint after another
module _ (g : Graph) (p : ConId → Bool) (ks : List ConId) (further : AreFurther g p ks) (i : ℕ) (z : ConId) (i_in : i < length ks) where
  abbrev this : ConId
  this = get_or ks i z

  more : take (i + 1) ks ≡ take i ks ++ this ∷ []
  more = take_more ks i z i_in

  pub this_in : Contains ks this
  this_in = Contains-get_or ks i z i_in

  pub still_fresh : too p (take i ks) this ≡ false
  still_fresh = false_from_ne_true (too p (take i ks) this) (λ passes. elim ((passes_too p (take i ks) this).0 passes) [
    | inl was ↦ (let never : true ≡ false = sym was ∙ further.fresh this this_in in absurd (cc))
    | inr early ↦ (
        let (at, before, is) = taken_from ks i this (omega arith) early in
        let less : (get_or ks at this).0 < (get_or ks i this).0 = further.rise at i this before i_in in
        let one = ap con_number is in
        let other = ap con_number (get_or_default ks i this z i_in) in
        absurd (omega (arith, less, one, other)))
  ])

  pub one_too : (j : ConId) → (too p (take (i + 1) ks) j ≡ true) ↔ ((too p (take i ks) j ≡ true) ⊎ (j ≡ this))
  one_too j = (
    (λ h. elim ((passes_too p (take (i + 1) ks) j).0 h) [
      | inl was ↦ inl ((passes_too p (take i ks) j).1 (inl was))
      | inr there ↦ elim (Contains-push_cases (take i ks) this j (subst (λ js. Contains js j) more there)) [
        | inl early ↦ inl ((passes_too p (take i ks) j).1 (inr early))
        | inr here ↦ inr (sym here)
      ]
    ]),
    (λ h. (passes_too p (take (i + 1) ks) j).1 (elim h [
      | inl was ↦ elim ((passes_too p (take i ks) j).0 was) [
        | inl passes ↦ inl passes
        | inr early ↦ inr (subst (λ js. Contains js j) (sym more) (Contains-append_left (take i ks) (this ∷ []) j early))
      ]
      | inr here ↦ inr (subst (λ js. Contains js j) (sym more)
          (Contains-append_right (take i ks) (this ∷ []) j (subst (λ k. Contains (this ∷ []) k) (sym here) (contains_head this []))))
    ])),
  )

-- a family adopts the start of one constraint more
module _ (g : Graph) (sound : IsSoundGraph g) (p q : ConId → Bool) (s : Start) (s_in : Contains (starts g) s) (fresh : p s.number ≡ false)
    (adds : (j : ConId) → (q j ≡ true) ↔ ((p j ≡ true) ⊎ (j ≡ s.number))) where
  one_more : HasOneMore s (with_just p g) (with_just q g)
  one_more = record {
    free = λ d d_in same. (
        let was = (in_part g p sound d).0 d_in in
        let passes : p s.number ≡ true = subst (λ (j : ConId). p j ≡ true) same was.1 in
        let never : true ≡ false = sym passes ∙ fresh in absurd (cc));
    starts = λ d. (
      (λ h. (
          let was = (in_part g q sound d).0 h in
          elim ((adds d.number).0 was.1) [
            | inl passes ↦ inr ((in_part g p sound d).1 (was.0, passes))
            | inr same ↦ inl (start_at g sound.edges_rise d s was.0 s_in same)
          ])),
      (λ h. elim h [
        | inl is ↦ (in_part g q sound d).1 (subst (λ (t : Start). Contains (starts g) t) (sym is) s_in, (adds d.number).1 (inr (ap (λ (t : Start). t.number) is)))
        | inr old ↦ (let was = (in_part g p sound d).0 old in (in_part g q sound d).1 (was.0, (adds d.number).1 (inl was.1)))
      ]),
    );
  }

  pub made_with_one : (f after : Clusters) → IsSound after → IsMadeOf g p (bodies f) → HasStart s f after → IsMadeOf g q (bodies after)
  made_with_one f after f_sound made has =
      adopted (with_just p g) (with_just q g) f after (sound_part g p sound).edges_rise (sound_part g q sound).edges_rise (λ d d_in e e_in line. line) f_sound made s one_more has

-- a constraint that does not pass is free in the family
pub is_free : (g : Graph) → IsSoundGraph g → (p : ConId → Bool) (f : Clusters) → IsSound f → IsMadeOf g p (bodies f) → (k : ConId) → p k ≡ false → IsFree f k
is_free g sound p f f_sound made k fresh c c_in =
    let owns : Contains c.owned k → ⊥ = λ c_k. (
    let s = owned_is_constraint (with_just p g) f made (sound_part g p sound).edges_rise c k c_in c_k in
    let passes : p k ≡ true = subst (λ (j : ConId). p j ≡ true) s.2 ((in_part g p sound s.0).0 s.1).1 in
    let never : true ≡ false = sym passes ∙ fresh in absurd (cc)) in (
      owns,
      λ has_name. owns (subst (λ ks. Contains ks k) (sym (f_sound.starts_own_their_own c k.0 c_in has_name)) (contains_head k [])),
    )

-- the next of some further constraints is free, and the family with its start is made of it too
module _ (g : Graph) (sound : IsSoundGraph g) (p : ConId → Bool) (ks : List ConId) (further : AreFurther g p ks) (i : ℕ) (z : ConId) (i_in : i < length ks)
    (f : Clusters) (f_sound : IsSound f) (made : IsMadeOf g (too p (take i ks)) (bodies f)) where
  pub next_free : IsFree f (get_or ks i z)
  next_free = is_free g sound (too p (take i ks)) f f_sound made (get_or ks i z) (still_fresh g p ks further i z i_in)

  pub made_with_next : (after : Clusters) → IsSound after → HasStart (start_with g (get_or ks i z)) f after → IsMadeOf g (too p (take (i + 1) ks)) (bodies after)
  made_with_next after after_sound has =
      let (s, s_in, s_is) = further.there (get_or ks i z) (this_in g p ks further i z i_in) in
      made_with_one g sound (too p (take i ks)) (too p (take (i + 1) ks)) s s_in
      (subst (λ (j : ConId). too p (take i ks) j ≡ false) (sym s_is) (still_fresh g p ks further i z i_in))
      (λ j. subst (λ (n : ConId). (too p (take (i + 1) ks) j ≡ true) ↔ ((too p (take i ks) j ≡ true) ⊎ (j ≡ n))) (sym s_is) (one_too g p ks further i z i_in j))
      f after after_sound made (subst (λ (t : Start). HasStart t f after) (found_start g sound.edges_rise s (get_or ks i z) s_in s_is) has)

none_pass : {X : Type 0} (xs : List X) → filter (λ (x : X). false) xs ≡ []
none_pass [] = refl
none_pass (x ∷ xs) = none_pass xs

-- where all is set aside, nothing is made
pub all_aside : (g : Graph) (owned : List ConId) → IsBeside g owned owned (λ k. false) []
all_aside g owned = record {
  exactly = λ k. ((λ h. absurd (cc)), (λ h. absurd (h.1 h.0)));
  made = subst (λ f. Reach (with_just (λ k. false) g) f [])
      (sym (ap (λ ss. map starting ss) (no_starts (with_just (λ k. false) g) (none_pass g.edges) (none_pass g.blocks)))) stays;
  closed = λ some among can. no_merge_of_one g some nothing can (λ y y_in. absurd (contains_none y (among y y_in)));
}

-- half of what is set aside is put back
module _ (g : Graph) (owned aside : List ConId) (p : ConId → Bool) (f : List Body) (beside : IsBeside g owned aside p f)
    (rise : IsRising con_number aside) (within : (k : ConId) → Contains aside k → Contains owned k)
    (there : (k : ConId) → Contains owned k → (s : Start) × Contains (starts g) s × (s.number ≡ k)) where
  further : (some : List ConId) → ((k : ConId) → Contains some k → Contains aside k) → IsRising con_number some → AreFurther g p some
  further some among rises = record {
    rise = rises;
    there = λ k k_in. there k (within k (among k k_in));
    fresh = λ k k_in. false_from_ne_true (p k) (λ passes. ((beside.exactly k).0 passes).1 (among k k_in));
  }

  pub early_further : (i : ℕ) → AreFurther g p (take i aside)
  early_further i = further (take i aside) (in_take i aside) (pairs_take (λ (j k : ConId). j.0 < k.0) i aside rise)

  pub late_further : (i : ℕ) → AreFurther g p (drop i aside)
  late_further i = further (drop i aside) (in_drop i aside) (pairs_drop (λ (j k : ConId). j.0 < k.0) i aside rise)

  put_back : (some others : List ConId) → ((k : ConId) → Contains some k → Contains aside k) → ((k : ConId) → Contains others k → Contains aside k)
      → ((k : ConId) → Contains aside k → Contains some k ⊎ Contains others k) → ((k : ConId) → Contains some k → ¬ Contains others k)
      → (m : List Body) → IsMadeOf g (too p some) m → IsClosed g m → IsBeside g owned others (too p some) m
  put_back some others among others_among either apart m made closed = record {
    exactly = λ k. (
      (λ h. elim ((passes_too p some k).0 h) [
        | inl passes ↦ (let was = (beside.exactly k).0 passes in (was.0, λ other. was.1 (others_among k other)))
        | inr back ↦ (within k (among k back), apart k back)
      ]),
      (λ h. (passes_too p some k).1 (elim (contains_settles con_settles some k) [
        | inl back ↦ inr back
        | inr not_back ↦ inl ((beside.exactly k).1 (h.0, λ set_aside. elim (either k set_aside) [ inl back ↦ not_back back | inr other ↦ h.1 other ]))
      ])),
    );
    made = made;
    closed = closed;
  }

  halves_apart : (i : ℕ) → i ≤ length aside → (k : ConId) → Contains (take i aside) k → ¬ Contains (drop i aside) k
  halves_apart i i_in k early late =
      let (at, at_less, at_is) = taken_from aside i k i_in early in
      let (to, to_more, to_in, to_is) = dropped_from aside i k late in
      let less : (get_or aside at k).0 < (get_or aside to k).0 = rise at to k (omega arith) to_in in
      let one = ap con_number at_is in
      let other = ap con_number to_is in
      omega (arith, less, one, other)

  pub late_back : (i : ℕ) → i ≤ length aside → (m : List Body) → IsMadeOf g (too p (drop i aside)) m → IsClosed g m → IsBeside g owned (take i aside) (too p (drop i aside)) m
  late_back i i_in =
      put_back (drop i aside) (take i aside) (in_drop i aside) (in_take i aside)
      (λ k k_in. elim (in_either i aside k k_in) [ inl early ↦ inr early | inr late ↦ inl late ])
      (λ k late early. halves_apart i i_in k early late)

  pub early_back : (i : ℕ) → i ≤ length aside → (m : List Body) → IsMadeOf g (too p (take i aside)) m → IsClosed g m → IsBeside g owned (drop i aside) (too p (take i aside)) m
  early_back i i_in =
      put_back (take i aside) (drop i aside) (in_take i aside) (in_drop i aside) (in_either i aside) (λ k early late. halves_apart i i_in k early late)

-- with these constraints too, merging leads to the other family
abbrev pub CanJoin : Graph → List ConId → List Body → List Body → Type 0
CanJoin g ks f m = (p : ConId → Bool) → AreFurther g p ks → IsMadeOf g p f → IsMadeOf g (too p ks) m

-- what stands from a place on
pub rest_is : (ks : List ConId) (i : ℕ) → take (length ks - i) (drop i ks) ≡ drop i ks
rest_is ks i = (let size = length-drop i ks in take_all (length ks - i) (drop i ks) (omega arith))

-- what is found in one half after the other
pub both_found : (P : ConId → Type 0) (aside : List ConId) (i : ℕ) (old mid new : List ConId)
    → ((k : ConId) → Contains mid k ↔ (Contains old k ⊎ (Contains (take i aside) k × P k)))
    → ((k : ConId) → Contains new k ↔ (Contains mid k ⊎ (Contains (drop i aside) k × P k)))
    → (k : ConId) → Contains new k ↔ (Contains old k ⊎ (Contains aside k × P k))
both_found P aside i old mid new one other k = (
  (λ h. elim ((other k).0 h) [
    | inl was ↦ elim ((one k).0 was) [ inl before ↦ inl before | inr early ↦ inr (in_take i aside k early.0, early.1) ]
    | inr late ↦ inr (in_drop i aside k late.0, late.1)
  ]),
  (λ h. elim h [
    | inl before ↦ (other k).1 (inl ((one k).1 (inl before)))
    | inr here ↦ elim (in_either i aside k here.0) [
      | inl early ↦ (other k).1 (inl ((one k).1 (inr (early, here.1))))
      | inr late ↦ (other k).1 (inr (late, here.1))
    ]
  ]),
)

-- the graph of nothing is sound, and starts with nothing
abbrev pub no_graph : Graph
no_graph = record { nodes = []; edges = []; blocks = [] }

pub sound_none : IsSoundGraph no_graph
sound_none = record {
  nodes_rise = pairs_none (λ (m n : Node). m.elem.0 < n.elem.0);
  edges_rise = pairs_none (λ (d e : Edge). d.id.0 < e.id.0);
  blocks_rise = pairs_none (λ (b c : Block). b.id.0 < c.id.0);
  blocks_apart = λ e b e_in. absurd (contains_none e e_in);
  few_nodes = omega arith;
  few_constraints = omega arith;
  two_ends = λ e e_in. absurd (contains_none e e_in);
  edges_measure = λ e e_in. absurd (contains_none e e_in);
  blocks_sound = λ b b_in. absurd (contains_none b b_in);
}

pub starts_with_nothing : initial_bodies no_graph ≡ []
starts_with_nothing = ap (λ ss. map starting ss) (no_starts no_graph refl refl)
