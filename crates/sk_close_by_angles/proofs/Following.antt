-- A merge by the tie rule joins no classes, and leaves the merges by that rule as they are, but for those of its two clusters.
use Rattle.std.proofs.Common.{◌≡◌, ◌⊎◌, inl, inr, ◌<◌, ℕ, Bool, true, false, List, [], ◌∷◌, refl, ap, sym, subst, ◌∙◌}
use Rattle.std.specs.Prelude.{Contains, AllPairs, map, not, ◌||◌}
use Rattle.std.proofs.lemmas.List.Elements.{Contains-append_left, Contains-push, Contains-push_cases}
use Rattle.sk_base.specs.declared.Name.{Name}
use Rattle.sk_base.specs.declared.Name.TheVariants.{Step}
use Rattle.sk_base.specs.declared.Elem.{Elem}
use Rattle.sk_base.specs.declared.Graph.{Graph}
use Rattle.sk_base.specs.ClusterNames.{IsBelow, is_named}
use Rattle.sk_base.proofs.Members.{contains_one, contains_cases, contains_mapped, mapped_from, contains_filtered, filtered_from}
use Rattle.sk_base.proofs.Pairs.{pairs_filter}
use Rattle.sk_base.proofs.Splits.{last_pushed}
use Rattle.sk_family.specs.declared.Cluster.{Cluster}
use Rattle.sk_family.specs.Body.{Body}
use Rattle.sk_family.specs.Clusters.{Clusters, IsNamed, IsSound, bodies, body_of, made_of, named, unnamed, whole_from}
use Rattle.sk_family.proofs.Bodies.{holder_of}
use Rattle.sk_family.proofs.Naming.{among_named, named_among, unnamed_true, not_named, one_of_name, below_asymmetric}
use Rattle.sk_family.specs.declared.Merge.{Merge}
use Rattle.sk_family.specs.declared.Merge.TheVariants.{Two, Three}
use Rattle.sk_family.specs.Merges.{greatest_of}
use Rattle.sk_rules.specs.Merges.{merged}
use Rattle.sk_rules.specs.Reach.{stays, goes}
use Rattle.sk_rules.proofs.Merging.{replaced_replaces}
use Rattle.sk_rules.proofs.NormalForm.{IsCovered, covers_by}
use Rattle.sk_open_triples.specs.MergeOrder.{ComesFirst}
use Rattle.sk_open_triples.specs.Avoiding.{names_one_of, avoiding}
use Rattle.sk_family.proofs.Lasting.{live_below_next}
use Rattle.sk_close_by_angles.specs.Ties.{AreTied, itself, HaveTiedLines, SharesPoint, MeetsByTie, wide_rule}
use Rattle.sk_close_by_angles.specs.Classes.{class_of, AreClasses}
use Rattle.sk_close_by_angles.specs.WideChoices.{CanTakeByTie, AreTieMerges}
use Rattle.sk_close_by_angles.specs.TieMerges.{AreBelow, FindsOf, IsTieMergeOf}
use Rattle.sk_close_by_angles.specs.FollowedTies.{AreTies, IsAfterOne, FindsOfLast}
use Rattle.sk_close_by_angles.proofs.Tying.{tied_covered, tied_start}
use Rattle.sk_close_by_angles.proofs.Finding.{tied_one}
use Rattle.sk_close_by_angles.proofs.WideRuns.{tie_steps}

-- where two families have the same classes, the same lines of what lies in both are tied
tied_moves : (g : Graph) (one other : List Body) (classes : List ℕ) → AreClasses g one classes → AreClasses g other classes → (x : Body) (ys : List Elem) → Contains other x
    → HaveTiedLines g one x.elements ys → HaveTiedLines g other x.elements ys
tied_moves g one other classes are will x ys x_in (l, m, l_in, m_in, tied) =
    let line = tied_start g one l m tied in (
      l,
      m,
      l_in,
      m_in,
      elim (will.tell.tied l m ((are.tell.lines l).1 line) (tied_one g one classes are l m tied)) [
        | inr now ↦ now
        | inl is ↦ subst (λ z. AreTied g other l z) is (itself line x x_in l_in)
      ],
    )

either_named : (m n : Name) (names : List Name) → not (is_named names m || is_named names n) ≡ true → (¬ Contains names m) × (¬ Contains names n)
either_named m n names h = (
  (λ m_in. (let is = named_among names m m_in in absurd (cc))),
  (λ n_in. (let is = named_among names n n_in in absurd (clash (is_named names m) (is_named names n) is h))),
)
  where
    clash : (a b : Bool) → b ≡ true → not (a || b) ≡ true → ⊥
    clash true b is h = cc
    clash false b is h = cc

neither_named : (m n : Name) (names : List Name) → ¬ Contains names m → ¬ Contains names n → not (is_named names m || is_named names n) ≡ true
neither_named m n names m_not n_not = told (is_named names m) (is_named names n) (unnamed_true names m m_not) (unnamed_true names n n_not)
  where
    told : (a b : Bool) → not a ≡ true → not b ≡ true → not (a || b) ≡ true
    told true b p q = p
    told false b p q = q

module _ (g : Graph) (f : Clusters) (sound : IsSound f) (x y : Name) (falls : IsBelow y x) (a b : Cluster) (a_is : IsNamed f x a) (b_is : IsNamed f y b)
    (shares : SharesPoint g a.elements b.elements) (tied : HaveTiedLines g (bodies f) a.elements b.elements) where
  can : CanTakeByTie g f (Two x y)
  can = (falls, (a, b, a_is, b_is, (shares, tied)))

  abbrev both : List Name
  both = x ∷ y ∷ []

  abbrev after : Clusters
  after = merged f (Two x y)

  abbrev whole : Cluster
  whole = whole_from (Step f.next_step) both f.live

  covered : IsCovered (bodies f) (bodies after)
  covered = covers_by (wide_rule g) (bodies f) (bodies after) (goes (tie_steps g f sound (Two x y) can) stays)

  module _ (classes : List ℕ) (are : AreClasses g (bodies f) classes) where
    -- all lines of the two have the class of one of them
    of_named : (l : Elem) → (c : Cluster) → Contains f.live c → Contains both c.name → Contains c.elements l → 0 < class_of classes l
        → class_of classes l ≡ class_of classes tied.0
    of_named l c c_in c_named l_in line =
        let (k, m, k_in, m_in, tie) = tied in
        let k_line : 0 < class_of classes k = (are.tell.lines k).1 (tied_start g (bodies f) k m tie) in
        let one = tied_one g (bodies f) classes are k m tie in
        let m_line : 0 < class_of classes m = subst (λ n. 0 < n) one k_line in
        elim (contains_cases x (y ∷ []) c.name c_named) [
          | inl at_x ↦ (
              let same : c ≡ a = one_of_name f sound c.name c a (record { lives = c_in; has_name = refl }) (subst (λ n. IsNamed f n a) at_x a_is) in
              are.together (body_of a) (contains_mapped body_of f.live a a_is.lives) l k (subst (λ (d : Cluster). Contains d.elements l) same l_in) k_in line k_line)
          | inr later ↦ (
              let same : c ≡ b = one_of_name f sound c.name c b (record { lives = c_in; has_name = refl }) (subst (λ n. IsNamed f n b) (contains_one y c.name later) b_is) in
              are.together (body_of b) (contains_mapped body_of f.live b b_is.lives) l m (subst (λ (d : Cluster). Contains d.elements l) same l_in) m_in line m_line ∙ sym one)
        ]

    of_whole : (l : Elem) → Contains (made_of both f.live).elements l → 0 < class_of classes l → class_of classes l ≡ class_of classes tied.0
    of_whole l l_in line =
        let (z, z_in, holds) = holder_of (map body_of (named both f.live)) l l_in in
        let (c, c_in, is) = mapped_from body_of (named both f.live) z z_in in
        let (c_live, c_named) = filtered_from (λ (d : Cluster). is_named both d.name) f.live c c_in in
        of_named l c c_live (among_named both c.name c_named) (subst (λ (w : Body). Contains w.elements l) (sym is) holds) line

    pub classes_stay : AreClasses g (bodies after) classes
    classes_stay = record {
      tell = record {
        lines = are.tell.lines;
        tied = λ l m line same. elim (are.tell.tied l m line same) [ inl is ↦ inl is | inr tied ↦ inr (tied_covered g (bodies f) (bodies after) covered l m tied) ];
      };
      together = λ z z_in. elim ((replaced_replaces f sound both z).0 z_in) [
        | inr (old, kept) ↦ are.together z old
        | inl is ↦ (λ l m l_in m_in l_line m_line.
            of_whole l (subst (λ (w : Body). Contains w.elements l) is l_in) l_line
            ∙ sym (of_whole m (subst (λ (w : Body). Contains w.elements m) is m_in) m_line))
      ];
    }

    -- what lives after the merge
    old_or_whole : (c : Cluster) → Contains after.live c → (Contains f.live c × ¬ Contains both c.name) ⊎ (whole ≡ c)
    old_or_whole c c_in =
        elim (Contains-push_cases (unnamed both f.live) whole c c_in) [
          | inr is ↦ inr is
          | inl old ↦ (let was = filtered_from (λ (d : Cluster). not (is_named both d.name)) f.live c old in inl (was.0, not_named both c.name was.1))
        ]

    still : (c : Cluster) → Contains f.live c → ¬ Contains both c.name → Contains after.live c
    still c c_in apart =
        Contains-append_left (unnamed both f.live) (whole ∷ []) c
        (contains_filtered (λ (d : Cluster). not (is_named both d.name)) f.live c c_in (unnamed_true both c.name apart))

    abbrev kept : List Merge → List Merge
    kept merges = avoiding both merges

    kept_can : (merges : List Merge) → AreTieMerges g f merges → (m : Merge) → Contains (kept merges) m → CanTakeByTie g f m × CanTakeByTie g after m
    kept_can merges all (Two p q) m_in =
        let (was, avoids) = filtered_from (λ (m : Merge). not (names_one_of both m)) merges (Two p q) m_in in
        let can_was = (all.exactly (Two p q)).0 was in
        let (q_p, (c, d, c_is, d_is, (share, tie))) = can_was in
        let (p_not, q_not) = either_named p q both avoids in
        let c_in = still c c_is.lives (λ h. p_not (subst (λ n. Contains both n) c_is.has_name h)) in
        let d_in = still d d_is.lives (λ h. q_not (subst (λ n. Contains both n) d_is.has_name h)) in (
          can_was,
          (
            q_p,
            (
              c,
              d,
              record { lives = c_in; has_name = c_is.has_name },
              record { lives = d_in; has_name = d_is.has_name },
              (share, tied_moves g (bodies f) (bodies after) classes are classes_stay (body_of c) d.elements (contains_mapped body_of after.live c c_in) tie),
            ),
          ),
        )
    kept_can merges all (Three p q r) m_in =
        absurd ((all.exactly (Three p q r)).0 (filtered_from (λ (m : Merge). not (names_one_of both m)) merges (Three p q r) m_in).0).1

    pub kept_below : (merges : List Merge) → AreTieMerges g f merges → AreBelow (kept merges) (Step f.next_step)
    kept_below merges all m m_in = below m (kept_can merges all m m_in).0
      where
        below : (m : Merge) → CanTakeByTie g f m → IsBelow (greatest_of m) (Step f.next_step)
        below (Two p q) (falls, (a, b, a_is, b_is, meets)) = subst (λ n. IsBelow n (Step f.next_step)) a_is.has_name (live_below_next f sound a a_is.lives)
        below (Three p q r) (falls, never) = absurd never

    pub kept_order : (merges : List Merge) → AreTieMerges g f merges → AllPairs ComesFirst (kept merges)
    kept_order merges all = pairs_filter ComesFirst (λ (m : Merge). not (names_one_of both m)) merges all.in_order

    -- a merge then is one of the new cluster, or was there
    module _ (merges : List Merge) (all : AreTieMerges g f merges) (new : List Merge) (finds : FindsOf g after whole after.live (kept merges) new) where
      of_old : (p q : Name) → IsBelow q p → (c d : Cluster) → IsNamed after p c → IsNamed after q d → MeetsByTie g (bodies after) c.elements d.elements
          → Contains f.live c × ¬ Contains both c.name → Contains f.live d × ¬ Contains both d.name → Contains (kept merges) (Two p q)
      of_old p q q_p c d c_is d_is (share, tie) (c_in, c_not) (d_in, d_not) =
          contains_filtered (λ (m : Merge). not (names_one_of both m)) merges (Two p q)
          ((all.exactly (Two p q)).1 (
            q_p,
            (
              c,
              d,
              record { lives = c_in; has_name = c_is.has_name },
              record { lives = d_in; has_name = d_is.has_name },
              (share, tied_moves g (bodies after) (bodies f) classes classes_stay are (body_of c) d.elements (contains_mapped body_of f.live c c_in) tie),
            ),
          ))
          (neither_named p q both (λ h. c_not (subst (λ n. Contains both n) (sym c_is.has_name) h)) (λ h. d_not (subst (λ n. Contains both n) (sym d_is.has_name) h)))

      now_found : (m : Merge) → CanTakeByTie g after m → Contains new m
      now_found (Two p q) (q_p, (c, d, c_is, d_is, meets)) =
          elim (old_or_whole c c_is.lives) [
            | inr is ↦ (finds (Two p q)).1 (inr (subst (λ (w : Cluster). IsTieMergeOf g after w after.live (Two p q)) (sym is)
                (d, d_is.lives, rw (c_is.has_name, d_is.has_name) q_p, meets, rw (c_is.has_name, d_is.has_name) refl)))
            | inl c_old ↦ elim (old_or_whole d d_is.lives) [
              | inl d_old ↦ (finds (Two p q)).1 (inl (of_old p q q_p c d c_is d_is meets c_old d_old))
              | inr is ↦ absurd (
                  let q_is : Step f.next_step ≡ q = ap (λ (w : Cluster). w.name) is ∙ d_is.has_name in
                  let p_below : IsBelow p (Step f.next_step) = subst (λ n. IsBelow n (Step f.next_step)) c_is.has_name (live_below_next f sound c c_old.0) in
                  below_asymmetric q p q_p (subst (λ n. IsBelow p n) q_is p_below))
            ]
          ]
      now_found (Three p q r) (q_p, never) = absurd never

      found_now : (m : Merge) → Contains new m → CanTakeByTie g after m
      found_now m m_in =
          elim ((finds m).0 m_in) [
            | inl was ↦ (kept_can merges all m was).1
            | inr (d, d_in, below, meets, is) ↦ subst (λ n. CanTakeByTie g after n) (sym is)
                (below, (whole, d, record { lives = Contains-push (unnamed both f.live) whole; has_name = refl }, record { lives = d_in; has_name = refl }, meets))
          ]

      pub all_now : AllPairs ComesFirst new → AreTieMerges g after new
      all_now ordered = record { in_order = ordered; exactly = λ m. (found_now m, now_found m) }

module _ (g : Graph) (classes : List ℕ) (merges : List Merge) (x y : Name) (after_one : Clusters) (one : IsAfterOne g classes merges (Two x y) after_one) where
  pub classes_after : AreClasses g (bodies after_one) classes
  classes_after =
      let (f, (sound, ties, (falls, (a, b, a_is, b_is, (shares, tied))), is)) = one in
      subst (λ (h : Clusters). AreClasses g (bodies h) classes) (sym is) (classes_stay g f sound x y falls a b a_is b_is shares tied classes ties.told)

  pub ties_after : (kept new : List Merge) → kept ≡ avoiding (x ∷ y ∷ []) merges → FindsOfLast g after_one kept new → AreTies g after_one classes new
  ties_after kept new kept_is finds =
      let (f, (sound, ties, (falls, (a, b, a_is, b_is, (shares, tied))), is)) = one in
      let whole = whole_from (Step f.next_step) (x ∷ y ∷ []) f.live in
      let (all, ordered) = subst (λ (ms : List Merge). FindsOfLast g (merged f (Two x y)) ms new) kept_is (subst (λ (h : Clusters). FindsOfLast g h kept new) is finds)
      whole (last_pushed (unnamed (x ∷ y ∷ []) f.live) whole) in
      record {
        told = classes_after;
        all = subst (λ (h : Clusters). AreTieMerges g h new) (sym is)
            (all_now g f sound x y falls a b a_is b_is shares tied classes ties.told merges ties.all new all
            (ordered (kept_order g f sound x y falls a b a_is b_is shares tied classes ties.told merges ties.all) (kept_below g f sound x y falls a b a_is b_is shares tied classes ties.told merges ties.all)));
      }
