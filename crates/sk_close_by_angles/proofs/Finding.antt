-- What the walks to the merges by the tie rule find.
use Rattle.std.proofs.Common.{◌≡◌, inl, inr, ℕ, Bool, ◌+◌, ◌<◌, ◌≤◌, List, [], ◌++◌, refl, ap, sym, subst, ◌∙◌, arith, take, length, get_or}
use Rattle.std.specs.Prelude.{◌↔◌, Contains, AllPairs, IsTrue}
use Rattle.std.specs.List.{HoldsAt}
use Rattle.std.specs.List.Sorted.{IsNonDecreasingBy, IsPartitionPoint}
use Rattle.std.specs.Ordering.{nat_cmp, ordering_index}
use Rattle.std.specs.declared.cmp.Ordering.TheVariants.{Less, Equal, Greater}
use Rattle.std.proofs.lemmas.List.Elements.{Contains-get_or, Contains-append_left, Contains-append_right, Contains-append_cases}
use Rattle.sk_base.specs.declared.Elem.{Elem}
use Rattle.sk_base.specs.declared.Name.{Name}
use Rattle.sk_base.specs.declared.Kind.TheVariants.{Point}
use Rattle.sk_base.specs.declared.Kind.{Kind}
use Rattle.sk_base.specs.declared.Node.{Node}
use Rattle.sk_base.specs.Numbering.{elem_exact}
use Rattle.sk_base.specs.Rising.{IsRising}
use Rattle.sk_base.specs.SoundGraph.{HasNode, HasRisingNodes}
use Rattle.sk_base.proofs.Halves.{number_found, none_missed}
use Rattle.sk_base.proofs.Members.{contains_none, contains_mapped, mapped_from}
use Rattle.sk_family.proofs.Naming.{one_of_name}
use Rattle.sk_triangles.specs.Growing.{GrowsBy, FromSome}
use Rattle.sk_close_by_order.specs.Gather.{HoldsSome}
use Rattle.sk_triangles.proofs.Growing.{grows_none, grows_one, grows_same}
use Rattle.sk_base.specs.declared.Graph.{Graph}
use Rattle.sk_base.specs.ClusterNames.{IsBelow}
use Rattle.sk_base.proofs.Pairs.{pairs_push, pairs_map, pairs_tell, pairs_weaken}
use Rattle.sk_base.proofs.Splits.{pairs_append}
use Rattle.sk_family.specs.declared.Cluster.{Cluster}
use Rattle.sk_family.specs.Body.{Body}
use Rattle.sk_family.specs.Clusters.{Clusters, ByName, IsSound}
use Rattle.sk_family.specs.declared.Merge.{Merge}
use Rattle.sk_family.specs.declared.Merge.TheVariants.{Two, Three}
use Rattle.sk_family.specs.Merges.{greatest_of}
use Rattle.sk_open_triples.specs.MergeOrder.{ComesFirst}
use Rattle.sk_triangles.proofs.Fronts.{front_more, front_all, front_before}
use Rattle.sk_close_by_angles.specs.Ties.{AreTied, itself, further, HaveTiedLines}
use Rattle.sk_close_by_angles.specs.Classes.{class_of, AreClasses, IsClassAmong}
use Rattle.sk_close_by_angles.specs.WideChoices.{CanTakeByTie, AreTieMerges}
use Rattle.sk_close_by_angles.specs.MergeRows.{merges_with}
use Rattle.sk_close_by_angles.specs.TieMerges.{IsTieMergeOf, AreBelow, FindsOf, FindsAmong, AddsWhere, IsTiedTo, TieWith}
use Rattle.sk_close_by_angles.proofs.Tying.{tied_start}

module _ (g : Graph) (f : List Body) (classes : List ℕ) (are : AreClasses g f classes) where
  -- what is tied has one class
  pub tied_one : (l m : Elem) → AreTied g f l m → class_of classes l ≡ class_of classes m
  tied_one l m (itself line x x_in l_in) = refl
  tied_one l m (further {m = k} line x x_in l_in k_in rest) =
      are.together x x_in l k l_in k_in ((are.tell.lines l).1 line) ((are.tell.lines k).1 (tied_start g f k m rest)) ∙ tied_one k m rest

  module _ (x y : Body) (x_in : Contains f x) (y_in : Contains f y) (j k : ℕ) (j_among : IsClassAmong classes x.elements j) (k_among : IsClassAmong classes y.elements k) where
    one_tied : 0 < j → j ≡ k → HaveTiedLines g f x.elements y.elements
    one_tied some same =
        elim j_among [
          | inl (none, all) ↦ absurd (omega arith)
          | inr (l, l_in, l_line, j_is) ↦ elim k_among [
            | inl (none, all) ↦ absurd (omega arith)
            | inr (m, m_in, m_line, k_is) ↦ (
              l,
              m,
              l_in,
              m_in,
              elim (are.tell.tied l m l_line (sym j_is ∙ same ∙ k_is)) [
                | inr tied ↦ tied
                | inl is ↦ subst (λ z. AreTied g f l z) is (itself ((are.tell.lines l).0 l_line) x x_in l_in)
              ],
            )
          ]
        ]

    -- the class among the elements is that of each line among them
    of_each : (z : Body) → Contains f z → (n : ℕ) → IsClassAmong classes z.elements n → (e : Elem) → Contains z.elements e → 0 < class_of classes e → n ≡ class_of classes e
    of_each z z_in n (inl (none, all)) e e_in line = (let no = all e e_in in absurd (omega arith))
    of_each z z_in n (inr (d, d_in, d_line, is)) e e_in line = is ∙ are.together z z_in d e d_in e_in d_line line

    tied_same : HaveTiedLines g f x.elements y.elements → (0 < j) × (j ≡ k)
    tied_same (l, m, l_in, m_in, tied) =
        let one = tied_one l m tied in
        let l_line : 0 < class_of classes l = (are.tell.lines l).1 (tied_start g f l m tied) in
        let m_line : 0 < class_of classes m = subst (λ n. 0 < n) one l_line in
        let j_is = of_each x x_in j j_among l l_in l_line in
        let k_is = of_each y y_in k k_among m m_in m_line in
        (subst (λ n. 0 < n) (sym j_is) l_line, j_is ∙ one ∙ sym k_is)

    pub one_is_tied : ((0 < j) × (j ≡ k)) ↔ HaveTiedLines g f x.elements y.elements
    one_is_tied = ((λ h. one_tied h.0 h.1), tied_same)

node_exact : (node : Node) (e : Elem) (k : Kind) → node.elem ≡ e → node.kind ≡ k → node ≡ record { elem = e; kind = k }
node_exact node e k at is = subst (λ (x : Elem). node ≡ record { elem = x; kind = k }) at (subst (λ (y : Kind). node ≡ record { elem = node.elem; kind = y }) is refl)

-- what a search by halves tells of an element among the nodes
module _ (g : Graph) (nodes : List Node) (nodes_are : nodes ≡ g.nodes) (rise : HasRisingNodes g) (e : Elem) where
  abbrev point : Node
  point = record { elem = e; kind = Point }

  all_rise : IsRising (λ (x : Node). x.elem.0) nodes
  all_rise = subst (λ (l : List Node). AllPairs (λ (x y : Node). x.elem.0 < y.elem.0) l) (sym nodes_are) rise

  pub point_found : (i : ℕ) → i < length nodes → HoldsAt (λ (y : Node). nat_cmp y.elem.0 e.0 ≡ Equal) nodes i → (d : Node) (b : Bool) → (IsTrue b ↔ ((get_or nodes i d).kind ≡ Point)) → IsTrue b ↔ HasNode g e Point
  point_found i i_in found d b tells = (
    (λ h. subst (λ (l : List Node). Contains l point) nodes_are (subst (λ (x : Node). Contains nodes x) (node_exact (get_or nodes i d) e Point (elem_exact (get_or nodes i d).elem e number) (tells.0 h)) here)),
    (λ h. tells.1 (ap (λ (x : Node). x.kind) (one (subst (λ (l : List Node). Contains l point) (sym nodes_are) h)))),
  )
    where
      here : Contains nodes (get_or nodes i d)
      here = Contains-get_or nodes i d i_in

      number : (get_or nodes i d).elem.0 ≡ e.0
      number = number_found (λ (y : Node). y.elem.0) nodes e.0 i found d

      one : Contains nodes point → get_or nodes i d ≡ point
      one p_in =
          elim (pairs_tell (λ (x y : Node). x.elem.0 < y.elem.0) nodes all_rise (get_or nodes i d) point here p_in) [
            | inl same ↦ same
            | inr (inl less) ↦ absurd (omega (arith, less, number))
            | inr (inr more) ↦ absurd (omega (arith, more, number))
          ]

  pub no_point : (i : ℕ)
      → (IsNonDecreasingBy (λ (y : Node). ordering_index (nat_cmp y.elem.0 e.0)) nodes → IsPartitionPoint (λ (y : Node). nat_cmp y.elem.0 e.0 ≡ Less) (λ (y : Node). nat_cmp y.elem.0 e.0 ≡ Greater) nodes i)
      → ¬ HasNode g e Point
  no_point i parted h =
      none_missed (λ (y : Node). y.elem.0) nodes e.0 all_rise i parted (record { elem = e; kind = Point }) (subst (λ (l : List Node). Contains l (record { elem = e; kind = Point })) (sym nodes_are) h) refl

-- what is added where that holds
pub adds_grows : {X : Type 0} (P : Type 0) (old new : List X) (x : X) → AddsWhere P old new x → GrowsBy (λ y. P × (y ≡ x)) old new
adds_grows P old new x (inl (holds, is)) = subst (λ l. GrowsBy (λ y. P × (y ≡ x)) old l) (sym is) (grows_one (λ y. P × (y ≡ x)) old x (holds, refl) (λ y h. h.1))
adds_grows P old new x (inr (fails, is)) = subst (λ l. GrowsBy (λ y. P × (y ≡ x)) old l) (sym is) (grows_none (λ y. P × (y ≡ x)) old (λ y h. fails h.0))

-- what grew from nothing to those of some items of which that holds
pub told_among : {X : Type 0} (P : X → Type 0) (xs found : List X) → GrowsBy (FromSome (λ (x y : X). P x × (y ≡ x)) xs) [] found → (x : X) → Contains found x ↔ (Contains xs x × P x)
told_among P xs found grows x = (
  (λ h. elim ((grows x).0 h) [
    | inl was ↦ absurd (contains_none x was)
    | inr (y, y_in, (holds, is)) ↦ subst (λ z. Contains xs z × P z) (sym is) (y_in, holds)
  ]),
  (λ h. (grows x).1 (inr (x, h.0, (h.1, refl)))),
)

-- those of some names in order stand in order, one more or not
pub order_step : (P : Name → Type 0) (Q : Type 0) (ns : List Name) (i : ℕ) (d : Name) → i < length ns → AllPairs IsBelow ns → (some new : List Name)
    → GrowsBy (FromSome (λ (n m : Name). P n × (m ≡ n)) (take i ns)) [] some → AddsWhere Q some new (get_or ns i d) → AllPairs IsBelow some → AllPairs IsBelow new
order_step P Q ns i d i_in rise some new grows (inr (fails, is)) order = subst (λ l. AllPairs IsBelow l) (sym is) order
order_step P Q ns i d i_in rise some new grows (inl (holds, is)) order =
    subst (λ l. AllPairs IsBelow l) (sym is)
    (pairs_push IsBelow some (get_or ns i d) order (λ n n_in. front_before ns i d i_in IsBelow rise n ((told_among P (take i ns) some grows n).0 n_in).0))

-- the merges of a cluster with those of some names that are tied to it, behind others
module _ (g : Graph) (f : Clusters) (a : Cluster) (ns tied : List Name) (old new : List Merge) (appended : new ≡ old ++ merges_with a.name tied) where
  pub row_finds : ((n : Name) → Contains tied n ↔ (Contains ns n × IsTiedTo g f a n)) → FindsAmong g f a ns old new
  row_finds tied_are m = (
    (λ h. elim (Contains-append_cases old (merges_with a.name tied) m (subst (λ ms. Contains ms m) appended h)) [
      | inl was ↦ inl was
      | inr now ↦ (
          let (n, n_in, is) = mapped_from (λ (k : Name). Two a.name k) tied m now in
          let (among, holds) = (tied_are n).0 n_in in
          inr (n, among, (holds, sym is)))
    ]),
    (λ h. subst (λ ms. Contains ms m) (sym appended) (elim h [
      | inl was ↦ Contains-append_left old (merges_with a.name tied) m was
      | inr (n, among, (holds, is)) ↦ Contains-append_right old (merges_with a.name tied) m
          (subst (λ k. Contains (merges_with a.name tied) k) (sym is) (contains_mapped (λ (k : Name). Two a.name k) tied n ((tied_are n).1 (among, holds))))
    ])),
  )

  before_row : (m : Merge) (n : Name) → IsBelow (greatest_of m) a.name → ComesFirst m (Two a.name n)
  before_row (Two p q) n h = inl h
  before_row (Three p q r) n h = inl h

  pub row_in_order : AllPairs IsBelow tied → AllPairs ComesFirst old → AreBelow old a.name → AllPairs ComesFirst new
  row_in_order rise order below =
      subst (λ ms. AllPairs ComesFirst ms) (sym appended)
      (pairs_append ComesFirst old (merges_with a.name tied) order
      (pairs_map ComesFirst (λ (k : Name). Two a.name k) tied (pairs_weaken IsBelow (λ (j k : Name). ComesFirst (Two a.name j) (Two a.name k)) tied rise (λ j k j_in k_in j_k. inr (refl, inl j_k))))
      (λ m k m_in k_in. (
      let (n, n_in, is) = mapped_from (λ (l : Name). Two a.name l) tied k k_in in
      subst (λ l. ComesFirst m l) is (before_row m n (below m m_in)))))

-- the clusters below one that hold a point of it and are tied to it are those that it merges with
module _ (g : Graph) (f : Clusters) (sound : IsSound f) (a : Cluster) (points : List Elem) (points_are : (e : Elem) → Contains points e ↔ (Contains a.elements e × HasNode g e Point))
    (others : List Name) (others_are : (n : Name) → Contains others n ↔ HoldsSome f points a.name n) where
  found_with : (m : Merge) → FromSome (TieWith g f a) others m → IsTieMergeOf g f a f.live m
  found_with m (n, n_in, ((b, b_is, tied), is)) =
      let (c, c_is, below, (e, e_in, c_e)) = (others_are n).0 n_in in
      let (a_e, point) = (points_are e).0 e_in in (
        b,
        b_is.lives,
        subst (λ k. IsBelow k a.name) (sym b_is.has_name) below,
        ((e, point, (a_e, subst (λ (d : Cluster). Contains d.elements e) (one_of_name f sound n c b c_is b_is) c_e)), tied),
        is ∙ ap (λ k. Two a.name k) (sym b_is.has_name),
      )

  with_found : (m : Merge) → IsTieMergeOf g f a f.live m → FromSome (TieWith g f a) others m
  with_found m (b, b_in, below, ((e, point, both), tied), is) = (
    b.name,
    (others_are b.name).1 (b, record { lives = b_in; has_name = refl }, below, (e, (points_are e).1 (both.0, point), both.1)),
    ((b, record { lives = b_in; has_name = refl }, tied), is),
  )

  found_whole : (old new : List Merge) → FindsAmong g f a others old new → FindsOf g f a f.live old new
  found_whole old new finds = grows_same (FromSome (TieWith g f a) others) (IsTieMergeOf g f a f.live) old new (λ m. (found_with m, with_found m)) finds

-- the same, with the lists as they were read
pub found_read : (g : Graph) (f : Clusters) → IsSound f → (a : Cluster) (es : List Elem) → es ≡ a.elements → (points : List Elem) → ((e : Elem) → Contains points e ↔ (Contains es e × HasNode g e Point))
    → (ps : List Elem) → ps ≡ points → (others : List Name) → ((n : Name) → Contains others n ↔ HoldsSome f ps a.name n) → (ns : List Name) → ns ≡ others
    → (old new : List Merge) → FindsAmong g f a ns old new → FindsOf g f a f.live old new
found_read g f sound a es es_is points points_are ps ps_is others others_are ns ns_is old new finds =
    found_whole g f sound a points (subst (λ (l : List Elem). (e : Elem) → Contains points e ↔ (Contains l e × HasNode g e Point)) es_is points_are)
    others (subst (λ (l : List Elem). (n : Name) → Contains others n ↔ HoldsSome f l a.name n) ps_is others_are) old new (subst (λ (l : List Name). FindsAmong g f a l old new) ns_is finds)

-- one more cluster whose merges are found
module _ (g : Graph) (f : Clusters) (xs : List Cluster) (i : ℕ) (a : Cluster) (i_in : i < length xs) (a_is : a ≡ get_or xs i a) (mid new : List Merge)
    (so_far : (m : Merge) → Contains mid m ↔ ((d : Cluster) × Contains (take i xs) d × IsTieMergeOf g f d f.live m)) where
  pub found_next : FindsOf g f a f.live mid new → (m : Merge) → Contains new m ↔ ((d : Cluster) × Contains (take (i + 1) xs) d × IsTieMergeOf g f d f.live m)
  found_next finds m = (
    (λ h. elim ((finds m).0 h) [
      | inl was ↦ (let found = (so_far m).0 was in (found.0, (front_more xs i a i_in found.0).1 (inl found.1), found.2))
      | inr now ↦ (a, (front_more xs i a i_in a).1 (inr (sym a_is)), now)
    ]),
    (λ (d, d_in, of_d). elim ((front_more xs i a i_in d).0 d_in) [
      | inl before ↦ (finds m).1 (inl ((so_far m).1 (d, before, of_d)))
      | inr here ↦ (finds m).1 (inr (subst (λ (z : Cluster). IsTieMergeOf g f z f.live m) (sym (a_is ∙ here)) of_d))
    ]),
  )

  pub all_below : AllPairs ByName xs → AreBelow mid a.name
  all_below rise m m_in =
      let found = (so_far m).0 m_in in
      let of_d = found.2 in
      subst (λ n. IsBelow (greatest_of n) a.name) (sym of_d.4) (subst (λ (z : Cluster). ByName found.0 z) (sym a_is) (front_before xs i a i_in ByName rise found.0 found.1))

pub found_by_all : (g : Graph) (f : Clusters) (xs : List Cluster) (i : ℕ) → length xs ≤ i → (found : List Merge)
    → ((m : Merge) → Contains found m ↔ ((d : Cluster) × Contains (take i xs) d × IsTieMergeOf g f d f.live m))
    → (m : Merge) → Contains found m ↔ ((d : Cluster) × Contains xs d × IsTieMergeOf g f d f.live m)
found_by_all g f xs i over found finds m = (
  (λ h. let of = (finds m).0 h in (of.0, (front_all xs i over of.0).0 of.1, of.2)),
  (λ h. (finds m).1 (h.0, (front_all xs i over h.0).1 h.1, h.2)),
)

-- the merges of all clusters are all merges by the tie rule
module _ (g : Graph) (f : Clusters) (sound : IsSound f) where
  pub all_found : (found : List Merge) → AllPairs ComesFirst found
      → ((m : Merge) → Contains found m ↔ ((a : Cluster) × Contains f.live a × IsTieMergeOf g f a f.live m)) → AreTieMerges g f found
  all_found found ordered finds = record {
    in_order = ordered;
    exactly = λ m. ((λ h. can_of m ((finds m).0 h)), (λ h. (finds m).1 (of_can m h)));
  }
    where
      can_of : (m : Merge) → ((a : Cluster) × Contains f.live a × IsTieMergeOf g f a f.live m) → CanTakeByTie g f m
      can_of m (a, a_in, (b, b_in, below, meets, is)) =
          subst (λ n. CanTakeByTie g f n) (sym is) (below, (a, b, record { lives = a_in; has_name = refl }, record { lives = b_in; has_name = refl }, meets))

      of_can : (m : Merge) → CanTakeByTie g f m → (a : Cluster) × Contains f.live a × IsTieMergeOf g f a f.live m
      of_can (Two x y) (falls, (a, b, x_is, y_is, meets)) =
          (a, x_is.lives, (b, y_is.lives, rw (x_is.has_name, y_is.has_name) falls, meets, rw (x_is.has_name, y_is.has_name) refl))
      of_can (Three x y z) (falls, never) = absurd never
