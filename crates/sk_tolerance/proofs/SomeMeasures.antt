-- Where the elements of a graph are placed, each item has its own least number, and so there is a worst one, and a first
-- that is above a limit or none.
use Rattle.std.proofs.Common.{◌≡◌, ◌≢◌, ◌⊎◌, inl, inr, refl, ℕ, ℤ, pos, negsuc, Bool, true, false, List, [], ◌∷◌, ◌++◌, ap, sym, subst, append_assoc, Option, None, Some, arith}
use Rattle.std.specs.Prelude.{Contains, is_none, ◌||◌, nat_lt}
use Rattle.std.specs.List.{flat_map}
use Rattle.std.proofs.lemmas.List.{append-nil}
use Rattle.std.proofs.lemmas.List.Elements.{Contains-append_cases}
use Rattle.sk_base.specs.declared.Edge.{Edge}
use Rattle.sk_base.specs.declared.Block.{Block}
use Rattle.sk_base.specs.declared.Node.{Node}
use Rattle.sk_base.specs.declared.Graph.{Graph}
use Rattle.sk_base.specs.declared.Kind.{Kind}
use Rattle.sk_base.specs.declared.Kind.TheVariants as kinds
use Rattle.sk_base.specs.declared.Measure.{Measure}
use Rattle.sk_base.specs.declared.Measure.TheVariants.{PointPoint, PointLine, LineLine}
use Rattle.sk_base.specs.declared.Placed.{Placed}
use Rattle.sk_base.specs.SoundGraph.{IsSoundGraph, HasNode}
use Rattle.sk_base.specs.Rising.{union}
use Rattle.sk_base.proofs.Members.{nat_settles, contains_none, contains_head, contains_later, contains_one, contains_cases, mapped_from}
use Rattle.sk_base.proofs.Unions.{which, union_cases}
use Rattle.sk_tolerance.specs.declared.beyond.Beyond.{Beyond}
use Rattle.sk_tolerance.specs.declared.spotted.Spotted.{Spotted}
use Rattle.sk_tolerance.specs.declared.turned.Turned.{Turned}
use Rattle.sk_tolerance.specs.First.{IsFirst}
use Rattle.sk_measure.specs.Placing.{PlacesExactly}
use Rattle.sk_measure.specs.Items.{Item, normal, constraint, block, IsOwnLeast}
use Rattle.sk_tolerance.specs.Tolerances.{spotted_as, number_of, AllHold, IsFirstBeyond, distances, distance_of_measure, angles, angle_of_measure, normals, normal_of_kind, rigid, between, constraints, lengthwise, anglewise, everything}
use Rattle.sk_tolerance.specs.Turns.{value_of, IsAsDrawn, IsTurned, AllAsDrawn}
use Rattle.sk_tolerance.proofs.Firsts.{all_or_first}
use Rattle.sk_tolerance.specs.Telling.{IsTold}
use Rattle.sk_measure.proofs.SomeLeast.{own_normal, own_constraint, own_block}
use Rattle.sk_tolerance.proofs.Worsts.{told_none, told_then, told_else}
use Rattle.sk_tolerance.proofs.Passings.{all_one, beyond_one, beyond_appended, beyond_behind}

-- each of some items has its own least number
abbrev pub AllOwn : Placed → List Item → Type 0
AllOwn p items = (item : Item) → Contains items item → (n : ℕ) × IsOwnLeast p item n

module _ (g : Graph) (p : Placed) (sound : IsSoundGraph g) (exactly : PlacesExactly g p) where
  own_rigid : AllOwn p (rigid g.blocks)
  own_rigid item h = (let it = mapped_from (λ (b : Block). block b) g.blocks item h in subst (λ i. (n : ℕ) × IsOwnLeast p i n) it.2 (own_block g p sound exactly it.0 it.1))

  own_between : AllOwn p (between g.edges)
  own_between item h = (let it = mapped_from (λ (e : Edge). constraint e) g.edges item h in subst (λ i. (n : ℕ) × IsOwnLeast p i n) it.2 (own_constraint g p sound exactly it.0 it.1))

  own_normals_of : (nodes : List Node) → ((n : Node) → Contains nodes n → Contains g.nodes n) → AllOwn p (normals nodes)
  own_normals_of [] within item h = absurd (contains_none item h)
  own_normals_of (n ∷ nodes) within item h =
      elim (Contains-append_cases (normal_of_kind n.elem n.kind) (normals nodes) item h) [
        | inl here ↦ by_kind n.kind (within n (contains_head n nodes)) here
        | inr later ↦ own_normals_of nodes (λ m m_in. within m (contains_later n nodes m m_in)) item later
      ]
    where
      by_kind : (k : Kind) → HasNode g n.elem k → Contains (normal_of_kind n.elem k) item → (m : ℕ) × IsOwnLeast p item m
      by_kind kinds.Point node here = absurd (contains_none item here)
      by_kind kinds.Line node here = subst (λ i. (m : ℕ) × IsOwnLeast p i m) (contains_one (normal n.elem) item here) (own_normal g p sound exactly n.elem node)

  pub own_normals : AllOwn p (normals g.nodes)
  own_normals = own_normals_of g.nodes (λ n h. h)

  -- of items that are each a constraint
  own_flat : (f : Edge → List Item) → ((e : Edge) (item : Item) → Contains (f e) item → constraint e ≡ item) → (edges : List Edge) → ((e : Edge) → Contains edges e → Contains g.edges e) → AllOwn p (flat_map f edges)
  own_flat f only [] within item h = absurd (contains_none item h)
  own_flat f only (e ∷ edges) within item h =
      elim (Contains-append_cases (f e) (flat_map f edges) item h) [
        | inl here ↦ subst (λ i. (m : ℕ) × IsOwnLeast p i m) (only e item here) (own_constraint g p sound exactly e (within e (contains_head e edges)))
        | inr later ↦ own_flat f only edges (λ d d_in. within d (contains_later e edges d d_in)) item later
      ]

  only_distance : (e : Edge) (m : Measure) (item : Item) → Contains (distance_of_measure e m) item → constraint e ≡ item
  only_distance e (PointPoint len) item h = contains_one (constraint e) item h
  only_distance e (PointLine len side) item h = contains_one (constraint e) item h
  only_distance e (LineLine ratio sense) item h = absurd (contains_none item h)

  only_angle : (e : Edge) (m : Measure) (item : Item) → Contains (angle_of_measure e m) item → constraint e ≡ item
  only_angle e (PointPoint len) item h = absurd (contains_none item h)
  only_angle e (PointLine len side) item h = absurd (contains_none item h)
  only_angle e (LineLine ratio sense) item h = contains_one (constraint e) item h

  own_both : (xs ys : List Item) → AllOwn p xs → AllOwn p ys → AllOwn p (xs ++ ys)
  own_both xs ys first second item h = elim (Contains-append_cases xs ys item h) [ inl early ↦ first item early | inr late ↦ second item late ]

  own_united : (xs ys : List Item) → AllOwn p xs → AllOwn p ys → AllOwn p (union number_of xs ys)
  own_united xs ys first second item h = elim (union_cases number_of xs ys item h) [ inl early ↦ first item early | inr late ↦ second item late ]

  own_constraints : AllOwn p (constraints g)
  own_constraints = own_united (rigid g.blocks) (between g.edges) own_rigid own_between

  pub own_everything : AllOwn p (everything g)
  own_everything = own_both (normals g.nodes) (constraints g) own_normals own_constraints

  own_distances : AllOwn p (distances g.edges)
  own_distances = own_flat (λ (e : Edge). distance_of_measure e e.measure) (λ e item h. only_distance e e.measure item h) g.edges (λ e h. h)

  pub own_lengthwise : AllOwn p (lengthwise g)
  own_lengthwise = own_united (rigid g.blocks) (distances g.edges) own_rigid own_distances

  pub own_anglewise : AllOwn p (anglewise g)
  own_anglewise = own_both (normals g.nodes) (angles g.edges) own_normals (own_flat (λ (e : Edge). angle_of_measure e e.measure) (λ e item h. only_angle e e.measure item h) g.edges (λ e h. h))

-- ---- the worst, and the first beyond a limit

module _ (p : Placed) where
  abbrev pub SomeTold : List Item → Type 0
  SomeTold items = (n : ℕ) × (at : Option Spotted) × IsTold p items (record { least = n; at = at })

  told_more : (done rest : List Item) → AllOwn p rest → SomeTold done → SomeTold (done ++ rest)
  told_more done [] own told = subst (λ items. SomeTold items) (sym (append-nil done)) told
  told_more done (item ∷ rest) own (least, at, told) =
      let here = own item (contains_head item rest) in
      subst (λ items. SomeTold items) (append_assoc done (item ∷ []) rest)
      (told_more (done ++ item ∷ []) rest (λ i h. own i (contains_later item rest i h)) (either (is_none at || nat_lt least here.0) here refl))
    where
      either : (b : Bool) → (here : (n : ℕ) × IsOwnLeast p item n) → (is_none at || nat_lt least here.0) ≡ b → SomeTold (done ++ item ∷ [])
      either true here is = (here.0, Some (spotted_as item), told_then p done item here.0 here.1 least at is told (spotted_as item) refl)
      either false here is = (least, at, told_else p done item here.0 here.1 least at is told)

  pub some_told : (items : List Item) → AllOwn p items → SomeTold items
  some_told items own = told_more [] items own (0, None, told_none p)

  module _ (limit : ℕ) where
    abbrev pub Searched : List Item → Type 0
    Searched items = AllHold p items limit ⊎ ((b : Beyond) × IsFirstBeyond p items limit b)

    pub searched : (items : List Item) → AllOwn p items → Searched items
    searched [] own = inl (λ item h. absurd (contains_none item h))
    searched (item ∷ items) own =
        let here = own item (contains_head item items) in
        elim (which here.0 limit) [
          | inr (inr above) ↦ inr (_, beyond_appended p limit (item ∷ []) items _ (beyond_one p limit item (spotted_as item) here.0 here.1 refl above))
          | inl less ↦ further (all_one p limit item here.0 here.1 (omega arith)) (searched items (λ i h. own i (contains_later item items i h)))
          | inr (inl level) ↦ further (all_one p limit item here.0 here.1 (omega arith)) (searched items (λ i h. own i (contains_later item items i h)))
        ]
      where
        further : AllHold p (item ∷ []) limit → Searched items → Searched (item ∷ items)
        further all (inl rest) = inl (λ i h. elim (contains_cases item items i h) [
          | inl same ↦ all i (subst (λ j. Contains (item ∷ []) j) same (contains_head item []))
          | inr later ↦ rest i later
        ])
        further all (inr (b, first)) = inr (b, beyond_behind p limit (item ∷ []) items b all first)

-- ---- the first turned sign

pub int_settles : (a b : ℤ) → (a ≡ b) ⊎ (a ≢ b)
int_settles (pos m) (pos n) = elim (nat_settles m n) [ inl same ↦ inl (ap pos same) | inr other ↦ inr (λ e. other (cc)) ]
int_settles (pos m) (negsuc n) = inr (λ e. cc)
int_settles (negsuc m) (pos n) = inr (λ e. cc)
int_settles (negsuc m) (negsuc n) = elim (nat_settles m n) [ inl same ↦ inl (ap negsuc same) | inr other ↦ inr (λ e. other (cc)) ]

pub compared : (signs : List Turned) → AllAsDrawn signs ⊎ ((t : Turned) × IsFirst IsTurned signs t)
compared signs = all_or_first IsAsDrawn signs (λ t h. int_settles t.placed (value_of t.drawn))
