-- How the worst of some items grows with one more.
use Rattle.std.proofs.Common.{◌≡◌, inl, inr, ℕ, ◌≤◌, ◌<◌, List, [], ◌∷◌, ◌++◌, refl, sym, subst, ap, ◌∙◌, arith}
use Rattle.std.specs.Prelude.{Contains, Option, None, Some, is_none, ◌||◌, nat_lt, true, false}
use Rattle.std.proofs.lemmas.Bool.Decides.{nat_tests}
use Rattle.std.specs.List.{flat_map}
use Rattle.std.specs.Option.{option_map}
use Rattle.std.proofs.lemmas.List.Elements.{Contains-push_cases, Contains-push, Contains-append_left, Contains-append_right, Contains-append_cases}
use Rattle.sk_base.specs.declared.Measure.{Measure}
use Rattle.sk_base.specs.declared.Measure.TheVariants.{PointPoint, PointLine, LineLine}
use Rattle.sk_base.specs.declared.Edge.{Edge}
use Rattle.sk_base.specs.declared.Block.{Block}
use Rattle.sk_base.specs.declared.ConId.{ConId}
use Rattle.sk_base.specs.declared.Graph.{Graph}
use Rattle.sk_base.specs.declared.Kind.TheVariants as kinds
use Rattle.sk_base.specs.declared.Node.{Node}
use Rattle.sk_base.specs.declared.Placed.{Placed}
use Rattle.sk_base.proofs.Members.{contains_none, contains_head, contains_later, contains_one, contains_cases, mapped_from}
use Rattle.sk_base.proofs.Unions.{union_cases, union_right}
use Rattle.sk_tolerance.specs.declared.spotted.Spotted.{Spotted}
use Rattle.sk_tolerance.specs.declared.spotted.Spotted.TheVariants.{Con, Line}
use Rattle.sk_measure.proofs.Widening.{holds_more}
use Rattle.sk_tolerance.proofs.Firsts.{appended, first_inside}
use Rattle.sk_measure.specs.Holding.{tolerance_of}
use Rattle.sk_measure.specs.Items.{Item, normal, constraint, block, Holds, IsOwnLeast}
use Rattle.sk_tolerance.specs.Tolerances.{spotted_as, number_of, rigid, AllHold, IsMissed, IsWorst, IsWorstUnlessNone, distances, distance_of_measure, lengthwise, anglewise, normals, angles, normal_of_kind, angle_of_measure, AllHoldWithin}
use Rattle.sk_tolerance.specs.Telling.{IsTold, spotted_constraint}

module _ (p : Placed) where
  pub told_none : IsTold p [] (record { least = 0; at = None })
  told_none = record {
    least = record { holds = λ item h. absurd (contains_none item h); least = λ m h. omega arith };
    at = refl;
  }

  module _ (items : List Item) (item : Item) (n : ℕ) (own : IsOwnLeast p item n) where
    all_with : AllHold p items n → AllHold p (items ++ item ∷ []) n
    all_with all y h = elim (Contains-push_cases items item y h) [ inl early ↦ all y early | inr last ↦ subst (λ z. Holds p z n) last own.holds ]

    -- the item is worse than all so far
    pub told_replaced : ((y : Item) → Contains items y → Holds p y n × ¬ IsOwnLeast p y n) → (at : Spotted) → spotted_as item ≡ at → IsTold p (items ++ item ∷ []) (record { least = n; at = Some at })
    told_replaced less at named = record {
      least = record {
        holds = all_with (λ y h. (less y h).0);
        least = λ m h. own.least m (h item (Contains-push items item));
      };
      at = record {
        item = item;
        first = record { before = items; after = []; parts = refl; has = own; none_before = λ y h. (less y h).1 };
        named = named;
      };
    }

    -- it isn't
    told_kept_at : (worst : ℕ) (at : Spotted) → n ≤ worst → IsTold p items (record { least = worst; at = Some at }) → IsTold p (items ++ item ∷ []) (record { least = worst; at = Some at })
    told_kept_at worst at le told = record {
      least = record {
        holds = λ y h. elim (Contains-push_cases items item y h) [
          | inl early ↦ told.least.holds y early
          | inr last ↦ subst (λ z. Holds p z worst) last (holds_more p item n worst le own.holds)
        ];
        least = λ m h. told.least.least m (λ y y_in. h y (Contains-append_left items (item ∷ []) y y_in));
      };
      at = record {
        item = told.at.item;
        first = appended _ items (item ∷ []) told.at.item told.at.first;
        named = told.at.named;
      };
    }

    below_all : (worst : ℕ) → AllHold p items worst → worst < n → (y : Item) → Contains items y → Holds p y n × ¬ IsOwnLeast p y n
    below_all worst all lt y h = (holds_more p y worst n (omega arith) (all y h), (λ is. (let never : n ≤ worst = is.least worst (all y h) in omega arith)))

    pub told_then : (worst : ℕ) (so_far : Option Spotted) → (is_none so_far || nat_lt worst n) ≡ true → IsTold p items (record { least = worst; at = so_far }) → (at : Spotted) → spotted_as item ≡ at
        → IsTold p (items ++ item ∷ []) (record { least = n; at = Some at })
    told_then worst None below told at named = told_replaced (λ y h. absurd (contains_none y (subst (λ zs. Contains zs y) told.at h))) at named
    told_then worst (Some a) below told at named = told_replaced (below_all worst told.least.holds (grind (arith, nat_tests, below))) at named

    pub told_else : (worst : ℕ) (so_far : Option Spotted) → (is_none so_far || nat_lt worst n) ≡ false → IsTold p items (record { least = worst; at = so_far })
        → IsTold p (items ++ item ∷ []) (record { least = worst; at = so_far })
    told_else worst None above told = absurd (cc)
    told_else worst (Some a) above told = told_kept_at worst a (grind (arith, nat_tests, above)) told

-- what edges give, each nothing or its own constraint, are their constraints
of_edges : (of : Edge → List Item) → ((e : Edge) (item : Item) → Contains (of e) item → constraint e ≡ item) → (edges : List Edge) (item : Item) → Contains (flat_map of edges) item
    → (e : Edge) × Contains edges e × (constraint e ≡ item)
of_edges of own [] item h = absurd (contains_none item h)
of_edges of own (e ∷ edges) item h =
    elim (Contains-append_cases (of e) (flat_map of edges) item h) [
      | inl here ↦ (e, contains_head e edges, own e item here)
      | inr later ↦ let found = of_edges of own edges item later in (found.0, contains_later e edges found.0 found.1, found.2)
    ]

-- only constraints are on a distance
pub on_distance : (edges : List Edge) (item : Item) → Contains (distances edges) item → (e : Edge) × Contains edges e × (constraint e ≡ item)
on_distance = of_edges (λ (e : Edge). distance_of_measure e e.measure) (λ e. at_edge e e.measure)
  where
    at_edge : (e : Edge) (m : Measure) (item : Item) → Contains (distance_of_measure e m) item → constraint e ≡ item
    at_edge e (PointPoint len) item here = contains_one _ _ here
    at_edge e (PointLine len side) item here = contains_one _ _ here
    at_edge e (LineLine ratio sense) item here = absurd (contains_none item here)

-- or on an angle
pub on_angle : (edges : List Edge) (item : Item) → Contains (angles edges) item → (e : Edge) × Contains edges e × (constraint e ≡ item)
on_angle = of_edges (λ (e : Edge). angle_of_measure e e.measure) (λ e. at_edge e e.measure)
  where
    at_edge : (e : Edge) (m : Measure) (item : Item) → Contains (angle_of_measure e m) item → constraint e ≡ item
    at_edge e (PointPoint len) item here = absurd (contains_none item here)
    at_edge e (PointLine len side) item here = absurd (contains_none item here)
    at_edge e (LineLine ratio sense) item here = contains_one _ _ here

-- what is lengthwise is named by a constraint's number
lengthwise_named : (g : Graph) (item : Item) → Contains (lengthwise g) item → (k : ConId) × (Con k ≡ spotted_as item)
lengthwise_named g item h =
    elim (union_cases number_of (rigid g.blocks) (distances g.edges) item h) [
      | inl rigid_in ↦ let found = mapped_from (λ (b : Block). block b) g.blocks item rigid_in in (found.0.id, ap spotted_as found.2)
      | inr distance ↦ let found = on_distance g.edges item distance in (found.0.id, ap spotted_as found.2)
    ]

-- so is the worst of it
pub worst_lengthwise_named : (p : Placed) (g : Graph) (n : ℕ) (at : Option Spotted) → IsWorstUnlessNone p (lengthwise g) n at → IsWorstUnlessNone p (lengthwise g) n (option_map (λ k. Con k) (spotted_constraint at))
worst_lengthwise_named p g n None worst = worst
worst_lengthwise_named p g n (Some (Con k)) worst = worst
worst_lengthwise_named p g n (Some (Line e)) worst =
    let is = lengthwise_named g worst.item (first_inside (λ i. IsOwnLeast p i n) (lengthwise g) worst.item worst.first) in
    let named : Con is.0 ≡ Line e = is.1 ∙ worst.named in
    absurd (cc)

-- each item of its lists holds within the tolerance of its kind
pub contains_flat : {X Y : Type 0} (f : X → List Y) (xs : List X) (x : X) (y : Y) → Contains xs x → Contains (f x) y → Contains (flat_map f xs) y
contains_flat f [] x y x_in y_in = absurd (contains_none x x_in)
contains_flat f (z ∷ xs) x y x_in y_in =
    elim (contains_cases z xs x x_in) [
      | inl here ↦ Contains-append_left (f z) (flat_map f xs) y (subst (λ w. Contains (f w) y) (sym here) y_in)
      | inr later ↦ Contains-append_right (f z) (flat_map f xs) y (contains_flat f xs x y later y_in)
    ]

edge_within : (p : Placed) (e : Edge) (t w : ℕ) (m : Measure) → (Contains (distance_of_measure e m) (constraint e) → Holds p (constraint e) t) → (Contains (angle_of_measure e m) (constraint e) → Holds p (constraint e) w)
    → Holds p (constraint e) (tolerance_of m t w)
edge_within p e t w (PointPoint len) distance angle = distance (contains_head (constraint e) [])
edge_within p e t w (PointLine len side) distance angle = distance (contains_head (constraint e) [])
edge_within p e t w (LineLine ratio sense) distance angle = angle (contains_head (constraint e) [])

pub all_hold_within : (p : Placed) (g : Graph) (t w : ℕ) → ((b : Block) → Contains g.blocks b → Contains (lengthwise g) (block b)) → AllHold p (lengthwise g) t → AllHold p (anglewise g) w → AllHoldWithin p g t w
all_hold_within p g t w has_blocks lengths rest = record {
  lines = λ line h. rest (normal line) (Contains-append_left (normals g.nodes) (angles g.edges) (normal line) (contains_flat (λ (n : Node). normal_of_kind n.elem n.kind) g.nodes (record { elem = line; kind = kinds.Line }) (normal line) h (contains_head (normal line) [])));
  edges = λ e h. edge_within p e t w e.measure
      (λ here. lengths (constraint e) (union_right number_of (rigid g.blocks) (distances g.edges) (constraint e) (contains_flat (λ (x : Edge). distance_of_measure x x.measure) g.edges e (constraint e) h here)))
      (λ here. rest (constraint e) (Contains-append_right (normals g.nodes) (angles g.edges) (constraint e) (contains_flat (λ (x : Edge). angle_of_measure x x.measure) g.edges e (constraint e) h here)));
  blocks = λ b h. lengths (block b) (has_blocks b h);
}

-- a smaller number than the least leaves one out, the worst
missed : (p : Placed) (items : List Item) (n : ℕ) (at : Spotted) → IsWorst p items n at → (m : ℕ) → m < n → IsMissed p items m
missed p items n at worst m lt = (
  worst.item,
  first_inside (λ i. IsOwnLeast p i n) items worst.item worst.first,
  λ held. (let few : n ≤ m = worst.first.has.least m held in omega arith),
)

pub told_missed : (p : Placed) (items : List Item) (worst : ℕ) (at : Option Spotted) → IsTold p items (record { least = worst; at = at }) → (m : ℕ) → m < worst → IsMissed p items m
told_missed p items worst None told m lt =
    let none : worst ≤ 0 = told.least.least 0 (λ item h. absurd (contains_none item (subst (λ xs. Contains xs item) told.at h))) in absurd (omega arith)
told_missed p items worst (Some at) told m lt = missed p items worst at told.at m lt
