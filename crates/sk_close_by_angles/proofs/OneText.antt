-- Sound wide normal families of one graph have one text: their lists of elements differ, so in order they are one list.
use Rattle.std.proofs.Common.{◌≡◌, ◌≢◌, ◌⊎◌, inl, inr, refl, Bool, true, false, cond, List, [], ◌∷◌, ◌++◌, length, ap, sym, subst, ◌∙◌}
use Rattle.std.specs.Prelude.{◌↔◌, Contains, AllPairs, map, fold}
use Rattle.sk_base.specs.declared.Elem.{Elem}
use Rattle.sk_base.specs.declared.ConId.{ConId}
use Rattle.sk_base.specs.declared.Graph.{Graph}
use Rattle.sk_base.specs.declared.Sketch.{Sketch}
use Rattle.sk_base.specs.ElementOrder.{ElementsBefore, comes_before}
use Rattle.sk_base.specs.SoundGraph.{IsSoundGraph}
use Rattle.sk_base.proofs.ListOrder.{before_irreflexive, before_asymmetric, before_chain, before_unless, computed_before, before_computed}
use Rattle.sk_base.proofs.Members.{contains_none, contains_head, contains_later, contains_one, contains_cases, contains_mapped, mapped_from}
use Rattle.sk_base.proofs.Pairs.{pairs_none, pairs_tail, pairs_head, pairs_cons, pairs_map, pairs_same}
use Rattle.sk_family.specs.declared.Cluster.{Cluster}
use Rattle.sk_family.specs.Body.{Body, Start, starts, starting, initial_bodies}
use Rattle.sk_family.specs.Clusters.{Clusters, body_of, bodies, IsSound}
use Rattle.sk_family.proofs.Bodies.{Within, owner_of}
use Rattle.sk_family.proofs.Naming.{elements_apart}
use Rattle.sk_rules.specs.Reach.{StepBy}
use Rattle.sk_rules.proofs.Families.{IsFamily, kept_by}
use Rattle.sk_rules.proofs.NormalForm.{one_of_elements, covers_by, family_by}
use Rattle.sk_rules.proofs.WeighedGraphs.{sound_two_each}
use Rattle.sk_close_by_angles.specs.Ties.{wide_rule}
use Rattle.sk_close_by_angles.specs.WideReach.{IsWideNormal}
use Rattle.sk_close_by_angles.specs.DerivedText.{with_list, lists_in_order, clusters_head, cluster_lines, derived_text}
use Rattle.sk_close_by_angles.proofs.WideForm.{wide_names_some, wide_same}

-- what each body owns are constraints of the graph
abbrev OwnsConstraints : Graph → List Body → Type 0
OwnsConstraints g f = (x : Body) (k : ConId) → Contains f x → Contains x.owned k → (s : Start) × Contains (starts g) s × (s.number ≡ k)

step_owns : (g : Graph) (rule : List Body → List Body → Type 0) (old new : List Body) → StepBy rule old new → OwnsConstraints g old → OwnsConstraints g new
step_owns g rule old new m own x k x_in k_in =
    elim ((m.replaces x).0 x_in) [
      | inl is ↦ (let owner = owner_of m.merged k (subst (λ (z : Body). Contains z.owned k) is k_in) in own owner.0 k (m.among owner.0 owner.1) owner.2)
      | inr stayed ↦ own x k stayed.0 k_in
    ]

starts_own : (g : Graph) → OwnsConstraints g (initial_bodies g)
starts_own g x k x_in k_in =
    let found = mapped_from starting (starts g) x x_in in
    (found.0, found.1, contains_one found.0.number k (subst (λ (z : Body). Contains z.owned k) (sym found.2) k_in))

module _ (g : Graph) (f : List Body) (sound : IsSoundGraph g) (normal : IsWideNormal g f) where
  family_of : IsFamily f
  family_of = family_by (wide_rule g) (wide_names_some g) g f sound.edges_rise normal.reached

  -- what a constraint starts with lies in the body that owns it
  start_within : (x : Body) (s : Start) → Contains f x → Contains (starts g) s → Contains x.owned s.number → Within (starting s) x
  start_within x s x_in s_in owned =
      let y = covers_by (wide_rule g) (initial_bodies g) f normal.reached (starting s) (contains_mapped starting (starts g) s s_in) in
      let same : y.0 ≡ x = family_of.apart y.0 x s.number y.1 x_in (y.2.owned s.number (contains_head s.number [])) owned in
      subst (λ z. Within (starting s) z) same y.2

  -- a body has two different elements
  has_two : (x : Body) → Contains f x → (u : Elem) × (v : Elem) × (u ≢ v) × Contains x.elements u × Contains x.elements v
  has_two x x_in =
      let own = family_of.owns x x_in in
      let (s, s_in, is) = kept_by (wide_rule g) (OwnsConstraints g) (step_owns g (wide_rule g)) (initial_bodies g) f normal.reached (starts_own g) x own.0 x_in own.1 in
      let within = start_within x s x_in s_in (subst (λ k. Contains x.owned k) (sym is) own.1) in
      let (u, v, differ, u_in, v_in) = sound_two_each g sound s s_in in
      (u, v, differ, within.elements u u_in, within.elements v v_in)

  -- no other one has the same elements
  same_elements : (x y : Body) → Contains f x → Contains f y → x.elements ≡ y.elements → x ≡ y
  same_elements x y x_in y_in = one_of_elements g f (λ others among can. normal.closed others among (inl can)) x y x_in y_in (has_two x x_in)

abbrev Differ : List Elem → List Elem → Type 0
Differ xs ys = xs ≢ ys

abbrev elements_of : Cluster → List Elem
elements_of c = c.elements

-- no two clusters have the same elements
clusters_differ : (g : Graph) (f : Clusters) → IsSoundGraph g → IsSound f → IsWideNormal g (bodies f) → AllPairs (λ (c d : Cluster). Differ (elements_of c) (elements_of d)) f.live
clusters_differ g f sound family normal = elements_apart f family (same_elements g (bodies f) sound normal)

module _ (xs : List Elem) where
  with_has : (lists : List (List Elem)) (zs : List Elem) → Contains (with_list lists xs) zs ↔ ((xs ≡ zs) ⊎ Contains lists zs)
  with_has [] zs = ((λ h. inl (contains_one xs zs h)), (λ h. elim h [ inl is ↦ subst (λ w. Contains (xs ∷ []) w) is (contains_head xs []) | inr none ↦ absurd (contains_none zs none) ]))
  with_has (ys ∷ lists) zs = placed (comes_before ys xs) (with_has lists zs)
    where
      placed : (b : Bool) → Contains (with_list lists xs) zs ↔ ((xs ≡ zs) ⊎ Contains lists zs)
          → Contains (cond b (ys ∷ with_list lists xs) (xs ∷ ys ∷ lists)) zs ↔ ((xs ≡ zs) ⊎ Contains (ys ∷ lists) zs)
      placed true rest = (
        (λ h. elim (contains_cases ys (with_list lists xs) zs h) [
          | inl here ↦ inr (subst (λ w. Contains (ys ∷ lists) w) here (contains_head ys lists))
          | inr later ↦ elim (rest.0 later) [ inl is ↦ inl is | inr among ↦ inr (contains_later ys lists zs among) ]
        ]),
        (λ h. elim h [
          | inl is ↦ contains_later ys (with_list lists xs) zs (rest.1 (inl is))
          | inr among ↦ elim (contains_cases ys lists zs among) [
            | inl here ↦ subst (λ w. Contains (ys ∷ with_list lists xs) w) here (contains_head ys (with_list lists xs))
            | inr later ↦ contains_later ys (with_list lists xs) zs (rest.1 (inr later))
          ]
        ]),
      )
      placed false rest = (
        (λ h. contains_cases xs (ys ∷ lists) zs h),
        (λ h. elim h [ inl is ↦ subst (λ w. Contains (xs ∷ ys ∷ lists) w) is (contains_head xs (ys ∷ lists)) | inr among ↦ contains_later xs (ys ∷ lists) zs among ]),
      )

  with_rises : (lists : List (List Elem)) → AllPairs ElementsBefore lists → ¬ Contains lists xs → AllPairs ElementsBefore (with_list lists xs)
  with_rises [] rise new = pairs_cons ElementsBefore xs [] (pairs_none ElementsBefore) (λ y h. absurd (contains_none y h))
  with_rises (ys ∷ lists) rise new =
      placed (comes_before ys xs) refl (with_rises lists (pairs_tail ElementsBefore ys lists rise) (λ h. new (contains_later ys lists xs h)))
    where
      placed : (b : Bool) → comes_before ys xs ≡ b → AllPairs ElementsBefore (with_list lists xs) → AllPairs ElementsBefore (cond b (ys ∷ with_list lists xs) (xs ∷ ys ∷ lists))
      placed true is rest =
          pairs_cons ElementsBefore ys (with_list lists xs) rest (λ z h. elim ((with_has lists z).0 h) [
            | inl here ↦ subst (λ w. ElementsBefore ys w) here (computed_before ys xs is)
            | inr later ↦ pairs_head ElementsBefore ys lists rise z later
          ])
      placed false is rest =
          let first : ElementsBefore xs ys = before_unless ys xs (λ e. new (subst (λ w. Contains (ys ∷ lists) w) e (contains_head ys lists)))
          (λ h. (let clash : false ≡ true = sym is ∙ before_computed ys xs h in cc)) in
          pairs_cons ElementsBefore xs (ys ∷ lists) rise (λ z h. elim (contains_cases ys lists z h) [
            | inl here ↦ subst (λ w. ElementsBefore xs w) here first
            | inr later ↦ before_chain xs ys z first (pairs_head ElementsBefore ys lists rise z later)
          ])

-- lists that differ, put in one after another, stand in order, and are all there
record ArePut (lists more all : List (List Elem)) : Type 0 where
  rise : AllPairs ElementsBefore all
  has : (zs : List Elem) → Contains all zs ↔ (Contains lists zs ⊎ Contains more zs)

all_put : (more lists : List (List Elem)) → AllPairs ElementsBefore lists → AllPairs Differ more → ((zs : List Elem) → Contains more zs → ¬ Contains lists zs)
    → ArePut lists more (fold with_list lists more)
all_put [] lists rise differ new = record { rise = rise; has = λ zs. ((λ h. inl h), (λ h. elim h [ inl was ↦ was | inr none ↦ absurd (contains_none zs none) ])) }
all_put (xs ∷ more) lists rise differ new =
    let rest = all_put more (with_list lists xs) (with_rises xs lists rise (new xs (contains_head xs more))) (pairs_tail Differ xs more differ) (λ zs zs_in h. elim ((with_has xs lists zs).0 h) [
      | inl is ↦ pairs_head Differ xs more differ zs zs_in is
      | inr was ↦ new zs (contains_later xs more zs zs_in) was
    ]) in
    record {
      rise = rest.rise;
      has = λ zs. (
        (λ h. elim ((rest.has zs).0 h) [
          | inl put ↦ elim ((with_has xs lists zs).0 put) [ inl is ↦ inr (subst (λ w. Contains (xs ∷ more) w) is (contains_head xs more)) | inr was ↦ inl was ]
          | inr later ↦ inr (contains_later xs more zs later)
        ]),
        (λ h. (rest.has zs).1 (elim h [
          | inl was ↦ inl ((with_has xs lists zs).1 (inr was))
          | inr among ↦ elim (contains_cases xs more zs among) [ inl here ↦ inl ((with_has xs lists zs).1 (inl here)) | inr later ↦ inr later ]
        ])),
      );
    }

module _ (g : Graph) (sound : IsSoundGraph g) where
  in_order : (f : Clusters) → IsSound f → IsWideNormal g (bodies f) → ArePut [] (map elements_of f.live) (lists_in_order f.live)
  in_order f family normal =
      all_put (map elements_of f.live) [] (pairs_none ElementsBefore) (pairs_map Differ elements_of f.live (clusters_differ g f sound family normal)) (λ zs zs_in h. contains_none zs h)

  pub lists_rise : (f : Clusters) → IsSound f → IsWideNormal g (bodies f) → AllPairs ElementsBefore (lists_in_order f.live)
  lists_rise f family normal = (in_order f family normal).rise

  pub just_lists : (f : Clusters) → IsSound f → IsWideNormal g (bodies f) → (es : List Elem) → Contains (lists_in_order f.live) es ↔ ((c : Cluster) × Contains f.live c × (c.elements ≡ es))
  just_lists f family normal es = (
    (λ h. elim (((in_order f family normal).has es).0 h) [ inl none ↦ absurd (contains_none es none) | inr among ↦ mapped_from elements_of f.live es among ]),
    (λ (c, c_in, is). ((in_order f family normal).has es).1 (inr (subst (λ w. Contains (map elements_of f.live) w) is (contains_mapped elements_of f.live c c_in)))),
  )

  list_moves : (one other : Clusters) → IsSound one → IsSound other → IsWideNormal g (bodies one) → IsWideNormal g (bodies other)
      → (zs : List Elem) → Contains (lists_in_order one.live) zs → Contains (lists_in_order other.live) zs
  list_moves one other one_sound other_sound p q zs h =
      elim (((in_order one one_sound p).has zs).0 h) [
        | inl none ↦ absurd (contains_none zs none)
        | inr among ↦ (
            let (c, c_in, c_is) = mapped_from elements_of one.live zs among in
            let there = (wide_same g (bodies one) (bodies other) sound.edges_rise p q (body_of c)).0 (contains_mapped body_of one.live c c_in) in
            let (d, d_in, d_is) = mapped_from body_of other.live (body_of c) there in
            let same : elements_of d ≡ zs = ap (λ (x : Body). x.elements) d_is ∙ c_is in
            ((in_order other other_sound q).has zs).1 (inr (subst (λ w. Contains (map elements_of other.live) w) same (contains_mapped elements_of other.live d d_in))))
      ]

  pub one_text : (s : Sketch) (one other : Clusters) → IsSound one → IsSound other → IsWideNormal g (bodies one) → IsWideNormal g (bodies other) → derived_text s one ≡ derived_text s other
  one_text s one other one_sound other_sound p q =
      ap (λ lists. clusters_head (length lists) ++ cluster_lines s 1 lists)
      (pairs_same ElementsBefore before_irreflexive before_asymmetric (lists_in_order one.live) (lists_in_order other.live) (in_order one one_sound p).rise (in_order other other_sound q).rise
      (list_moves one other one_sound other_sound p q) (list_moves other one other_sound one_sound q p))
