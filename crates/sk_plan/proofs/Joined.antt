-- A list of merges that ends with no constraint too many is one of triangles that meet once; and the
-- other way round, such merges are a way on which each meets once.
use Rattle.std.proofs.Common.{◌≡◌, refl, ◌+◌, ◌*◌, List, [], ◌∷◌, length, ap, sym, subst, ◌∙◌, arith}
use Rattle.std.specs.Prelude.{map}
use Rattle.sk_base.specs.declared.Elem.{Elem}
use Rattle.sk_base.specs.declared.Name.{Name}
use Rattle.sk_base.specs.declared.Graph.{Graph}
use Rattle.sk_base.specs.SoundGraph.{IsSoundGraph}
use Rattle.sk_family.specs.Body.{Body, initial_bodies, starts}
use Rattle.sk_family.specs.Clusters.{Clusters, body_of, bodies, initial_clusters, named, IsSound}
use Rattle.sk_family.proofs.Soundness.{sound_initial, sound_replaced, starting_bodies}
use Rattle.sk_family.specs.declared.Merge.{Merge}
use Rattle.sk_family.specs.declared.Merge.TheVariants.{Two, Three}
use Rattle.sk_rules.specs.declared.Shared.{Shared}
use Rattle.sk_rules.specs.declared.Taken.{Taken}
use Rattle.sk_family.specs.Rules.{IsShared}
use Rattle.sk_family.specs.Merges.{Falls, names_of}
use Rattle.sk_rules.specs.Merges.{Holds, IsLeastShared, merged}
use Rattle.sk_rules.specs.Reach.{Step, Reach, stays, goes, IsClosed, IsNormal}
use Rattle.sk_rules.specs.Taking.{IsTaken, Leads}
use Rattle.sk_rules.proofs.WeighedGraphs.{sound_two_each}
use Rattle.sk_rules.proofs.Counting.{IsTight, step_tight, initial_tight}
use Rattle.sk_rules.proofs.Merging.{can_be_replaced, merge_steps, named_two, named_three, triangle_lessens}
use Rattle.sk_tree.specs.Meeting.{MeetsOnce}
use Rattle.sk_plan.specs.Sparse.{AllOwnJustEnough, AreThreeMeetingOnce, EachMeetsOnce, HoldsNoneTooMany}
use Rattle.sk_plan.specs.Runs.{TakesOnce, EachTakesOnce}
use Rattle.sk_plan.proofs.JustEnough.{step_once, none_too_many}

-- what is shared by the least elements is shared
least_holds : (g : Graph) (f : Clusters) (m : Merge) (s : Shared) → IsLeastShared g f m s → Holds g f m
least_holds g f (Two x y) s (a, b, x_is, y_is, pair, none) = (a, b, x_is, y_is, (s.a, s.b, pair.pair))
least_holds g f (Three x y z) s (a, b, c, x_is, y_is, z_is, (e, some, least)) = (a, b, c, x_is, y_is, z_is, (s.a, s.b, e, least.triangle))

pub taken_holds : (g : Graph) (f : Clusters) (t : Taken) → IsTaken g f t → Holds g f t.merge
taken_holds g f t taken = least_holds g f t.merge t.shared taken.shared

pub sound_taken : (g : Graph) (f : Clusters) (t : Taken) → IsSound f → IsTaken g f t → IsSound (merged f t.merge)
sound_taken g f t sound taken =
    let can = can_be_replaced g f t.merge taken.falls (taken_holds g f t taken) in
    sound_replaced f (names_of t.merge) sound can

abbrev pub step_taken : (g : Graph) (f : Clusters) (t : Taken) → IsSound f → IsTaken g f t → Step g (bodies f) (bodies (merged f t.merge))
step_taken g f t sound taken = merge_steps g f sound t.merge taken.falls (taken_holds g f t taken)

pub leads_reach : (g : Graph) (f end : Clusters) (ts : List Taken) → IsSound f → Leads g f ts end → Reach g (bodies f) (bodies end)
leads_reach g f end [] sound is = subst (λ (e : Clusters). Reach g (bodies f) (bodies e)) is stays
leads_reach g f end (t ∷ ts) sound (taken, rest) =
    goes (step_taken g f t sound taken) (leads_reach g (merged f t.merge) end ts (sound_taken g f t sound taken) rest)

-- what taken merges lead to is sound
pub sound_end : (g : Graph) (f end : Clusters) (ts : List Taken) → IsSound f → Leads g f ts end → IsSound end
sound_end g f end [] sound is = subst (λ (e : Clusters). IsSound e) is sound
sound_end g f end (t ∷ ts) sound (taken, rest) = sound_end g (merged f t.merge) end ts (sound_taken g f t sound taken) rest

reach_push : (g : Graph) (f mid new : List Body) → Reach g f mid → Step g mid new → Reach g f new
reach_push g f mid new stays one = goes one stays
reach_push g f mid new (goes {mid = m} first rest) one = goes first (reach_push g m mid new rest one)

pub reach_more : (g : Graph) (f : Clusters) (t : Taken) → IsSound f → IsTaken g f t → Reach g (initial_bodies g) (bodies f) → Reach g (initial_bodies g) (bodies (merged f t.merge))
reach_more g f t sound taken reached = reach_push g (initial_bodies g) (bodies f) (bodies (merged f t.merge)) reached (step_taken g f t sound taken)

turned : (xs ys : List Elem) (e : Elem) → IsShared xs ys e → IsShared ys xs e
turned xs ys e h = (h.1, h.0)

-- three that meet once do so in the other order
pub once_back : (g : Graph) (xs ys zs : List Elem) (p q r : Elem) → MeetsOnce g xs ys zs p q r → MeetsOnce g zs ys xs q p r
once_back g xs ys zs p q r once = (let tri = once.triangle in record {
  triangle = record {
    a_shared = turned ys zs q tri.b_shared;
    b_shared = turned xs ys p tri.a_shared;
    c_shared = turned zs xs r tri.c_shared;
    differ = ((λ e. tri.differ.0 (sym e)), (λ e. tri.differ.2 (sym e)), (λ e. tri.differ.1 (sym e)));
    not_all_lines = λ lines. tri.not_all_lines (lines.1, lines.0, lines.2);
  };
  only_a = λ e h. once.only_b e (turned zs ys e h);
  only_b = λ e h. once.only_a e (turned ys xs e h);
  only_c = λ e h. once.only_c e (turned xs zs e h);
})

joins_once : (g : Graph) (f : Clusters) (sound : IsSound f) (t : Taken) (m : Merge) → t.merge ≡ m → Falls m → IsLeastShared g f m t.shared → AreThreeMeetingOnce g (map body_of (named (names_of m) f.live)) → TakesOnce g f t
joins_once g f sound t (Two x y) is falls (a, b, x_is, y_is, pair, none) once =
    absurd (subst (λ cs. AreThreeMeetingOnce g (map body_of cs)) (named_two g f sound x y a b falls x_is y_is) once)
joins_once g f sound t (Three x y z) is falls (a, b, c, x_is, y_is, z_is, (e, some, least)) once =
    let back = subst (λ cs. AreThreeMeetingOnce g (map body_of cs)) (named_three g f sound x y z a b c falls.0 falls.1 x_is y_is z_is) once in
    let meets = once_back g c.elements b.elements a.elements back.0 back.1 back.2 back.3 in
    let tri = least.triangle in
    let here_a = meets.only_a t.shared.a tri.a_shared in
    let here_b = meets.only_b t.shared.b tri.b_shared in
    let here_c = meets.only_c e tri.c_shared in
    record {
      one = x;
      two = y;
      three = z;
      third = e;
      merge = is;
      shared = some;
      joins = record {
        one = a;
        two = b;
        three = c;
        one_named = x_is;
        two_named = y_is;
        three_named = z_is;
        meets = record {
          triangle = tri;
          only_a = λ d h. meets.only_a d h ∙ sym here_a;
          only_b = λ d h. meets.only_b d h ∙ sym here_b;
          only_c = λ d h. meets.only_c d h ∙ sym here_c;
        };
      };
    }

pub each_joins : (g : Graph) (f end : Clusters) (ts : List Taken) → IsSound f → IsTight g (bodies f) → AllOwnJustEnough g (bodies end) → Leads g f ts end → EachTakesOnce g f ts
each_joins g f end [] sound tight just is = tt
each_joins g f end (t ∷ ts) sound tight just (taken, rest) =
    let after = sound_taken g f t sound taken in
    let one = step_taken g f t sound taken in
    let once = step_once g (bodies f) (bodies (merged f t.merge)) (bodies end) one (leads_reach g (merged f t.merge) end ts after rest) tight just in (
      joins_once g f sound t t.merge refl taken.falls taken.shared once,
      each_joins g (merged f t.merge) end ts after (step_tight g (bodies f) (bodies (merged f t.merge)) one tight) just rest,
    )

-- the bodies of clusters that are taken once meet once
three_once : (g : Graph) (f : Clusters) (sound : IsSound f) (t : Taken) → Falls t.merge → TakesOnce g f t → AreThreeMeetingOnce g (map body_of (named (names_of t.merge) f.live))
three_once g f sound t falls once =
    let j = once.joins in
    let fall : Falls (Three once.one once.two once.three) = subst (λ m. Falls m) once.merge falls in
    subst (λ m. AreThreeMeetingOnce g (map body_of (named (names_of m) f.live))) (sym once.merge)
    (subst (λ cs. AreThreeMeetingOnce g (map body_of cs)) (sym (named_three g f sound once.one once.two once.three j.one j.two j.three fall.0 fall.1 j.one_named j.two_named j.three_named))
    (t.shared.b, t.shared.a, once.third, once_back g j.one.elements j.two.elements j.three.elements t.shared.a t.shared.b once.third j.meets))

-- such merges are a way on which each meets once
pub leads_once : (g : Graph) (f end : Clusters) (ts : List Taken) (sound : IsSound f) (leads : Leads g f ts end) → EachTakesOnce g f ts → (way : Reach g (bodies f) (bodies end)) × EachMeetsOnce way
leads_once g f end [] sound is each =
    subst (λ (e : Clusters). (way : Reach g (bodies f) (bodies e)) × EachMeetsOnce way) is (stays, tt)
leads_once g f end (t ∷ ts) sound (taken, rest) (once, more) =
    let later = leads_once g (merged f t.merge) end ts (sound_taken g f t sound taken) rest more in
    (goes (step_taken g f t sound taken) later.0, (three_once g f sound t taken.falls once, later.1))

-- each triangle merge leaves two clusters fewer
pub joins_lessen : (g : Graph) (f end : Clusters) (ts : List Taken) → IsSound f → Leads g f ts end → EachTakesOnce g f ts → length end.live + 2 * length ts ≡ length f.live
joins_lessen g f end [] sound is each = (let same = ap (λ (e : Clusters). length e.live) is in omega arith)
joins_lessen g f end (t ∷ ts) sound (taken, rest) (once, more) =
    let later = joins_lessen g (merged f t.merge) end ts (sound_taken g f t sound taken) rest more in
    let here : length (merged f t.merge).live + 2 ≡ length f.live = lessens t.merge (once.one, once.two, once.three, once.merge) taken.falls (taken_holds g f t taken) in
    omega arith
  where
    lessens : (m : Merge) → ((x : Name) × (y : Name) × (z : Name) × (m ≡ Three x y z)) → Falls m → Holds g f m → length (merged f m).live + 2 ≡ length f.live
    lessens (Two x y) (p, q, r, is) falls holds = absurd (cc)
    lessens (Three x y z) triple falls holds = triangle_lessens g f sound x y z falls holds

-- the same from a graph's start
module _ (g : Graph) (ts : List Taken) (end : Clusters) (sound : IsSoundGraph g) (leads : Leads g (initial_clusters g) ts end) where
  pub run_reaches : Reach g (initial_bodies g) (bodies end)
  run_reaches = subst (λ f. Reach g f (bodies end)) (starting_bodies (starts g)) (leads_reach g (initial_clusters g) end ts (sound_initial g sound) leads)

  pub run_once : EachTakesOnce g (initial_clusters g) ts → (way : Reach g (initial_bodies g) (bodies end)) × EachMeetsOnce way
  run_once each =
      subst (λ f. (way : Reach g f (bodies end)) × EachMeetsOnce way) (starting_bodies (starts g))
      (leads_once g (initial_clusters g) end ts (sound_initial g sound) leads each)

  run_tight : IsTight g (bodies (initial_clusters g))
  run_tight = subst (λ f. IsTight g f) (sym (starting_bodies (starts g))) (initial_tight g sound.edges_rise)

  module _ (closed : IsClosed g (bodies end)) where
    pub run_normal : IsNormal g (bodies end)
    run_normal = record { reached = run_reaches; closed = closed }

    pub run_joins_once : HoldsNoneTooMany g (bodies end) → EachTakesOnce g (initial_clusters g) ts
    run_joins_once none =
        each_joins g (initial_clusters g) end ts (sound_initial g sound) run_tight
        (none_too_many g (bodies end) sound.edges_rise (sound_two_each g sound) run_normal none) leads
