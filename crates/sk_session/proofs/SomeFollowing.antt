-- A kept family can follow each edit that can be made, and its undoing.
use Rattle.std.proofs.Common.{◌≡◌, ◌≢◌, inl, inr, refl, ℕ, suc, ◌+◌, ◌≤◌, ◌<◌, List, [], ◌∷◌, length, take, drop, ap, sym, subst, arith}
use Rattle.std.specs.Prelude.{Contains, AllPairs}
use Rattle.std.specs.List.{insert}
use Rattle.std.specs.List.Sorted.{IsPermutation}
use Rattle.std.proofs.lemmas.List.Sorted.{IsPermutation-refl, IsPermutation-sym, IsPermutation-cons, IsPermutation-trans, IsPermutation-insert, Contains-permutation}
use Rattle.std.proofs.lemmas.List.Edits.{length-insert}
use Rattle.std.proofs.lemmas.List.Elements.{Contains-push}
use Rattle.sk_base.proofs.Splits.{in_drop, pairs_inserted}
use Rattle.sk_base.specs.declared.ConId.{ConId}
use Rattle.sk_base.specs.declared.Constraint.{Constraint}
use Rattle.sk_base.specs.declared.Name.{Name}
use Rattle.sk_base.specs.declared.Name.TheVariants.{Con}
use Rattle.sk_base.specs.declared.Sketch.{Sketch}
use Rattle.sk_base.specs.ClusterNames.{IsBelow}
use Rattle.sk_base.specs.SoundSketch.{IsSoundSketch}
use Rattle.sk_base.proofs.Members.{contains_none, contains_cases}
use Rattle.sk_base.proofs.Pairs.{pairs_none, pairs_tail, pairs_head}
use Rattle.sk_base.specs.Numbering.{elem_number}
use Rattle.sk_base.specs.Rising.{IsRising}
use Rattle.sk_base.proofs.Unions.{rising_none, rising_union}
use Rattle.sk_family.specs.Body.{Start, starts}
use Rattle.sk_family.specs.declared.Cluster.{Cluster}
use Rattle.sk_family.specs.Clusters.{Clusters, start_of, IsNamed, IsSound, ByName}
use Rattle.sk_family.specs.Starts.{IsFree, HasStart}
use Rattle.sk_family.proofs.Dissolving.{dissolved, fewer_left, dissolved_sound, all_differ}
use Rattle.sk_family.proofs.Naming.{below_irreflexive, below_asymmetric, below_chain, one_of_name, below_tells}
use Rattle.sk_family.proofs.Sorting.{HaveOtherNames}
use Rattle.sk_family.proofs.Starting.{start_put, start_sound, with_start}
use Rattle.sk_graph.specs.Naming.{named_by}
use Rattle.sk_graph.specs.SketchGraph.{graph_of}
use Rattle.sk_rules.proofs.KeptClusters.{owned_is_constraint}
use Rattle.sk_edits.specs.declared.Edit.{Edit}
use Rattle.sk_edits.specs.declared.Edit.TheVariants as edit
use Rattle.sk_session.specs.declared.done.Done.{Done}
use Rattle.sk_session.specs.declared.done.Done.TheVariants as past
use Rattle.sk_session.specs.Past.{edit_of, Stood, LeadsTo}
use Rattle.sk_plan.specs.ConstraintStarts.{constraint_start}
use Rattle.sk_edits.specs.Making.{CanMake, HasConstraint}
use Rattle.sk_session.specs.Following.{DissolvesOwner, Follows, FollowsBack, IsReachedIn}
use Rattle.sk_plan.proofs.Starts.{rises}
use Rattle.sk_session.proofs.Owners.{free_number, owner_of, few_owned}
use Rattle.sk_session.proofs.Undoing.{owner_back, none_dropped, start_back}

-- where a name stands among clusters
record HasPlace (cs : List Cluster) (n : Name) : Type 0 where
  place : ℕ
  within : place ≤ length cs
  before : (c : Cluster) → Contains (take place cs) c → IsBelow c.name n
  after : (c : Cluster) → Contains (drop place cs) c → ¬ IsBelow c.name n

place_for : (cs : List Cluster) → AllPairs ByName cs → (n : Name) → HasPlace cs n
place_for [] rise n = record { place = 0; within = omega arith; before = λ c h. absurd (contains_none c h); after = λ c h. absurd (contains_none c h) }
place_for (d ∷ cs) rise n =
    elim (below_tells d.name n) [
      | inl below ↦ (
          let rest = place_for cs (pairs_tail ByName d cs rise) n in
          record {
            place = suc rest.place;
            within = (let few = rest.within in omega arith);
            before = λ c h. elim (contains_cases d (take rest.place cs) c h) [ inl is ↦ subst (λ x. IsBelow x.name n) is below | inr later ↦ rest.before c later ];
            after = rest.after;
          })
      | inr (inl same) ↦ at_front (λ below. below_irreflexive n (subst (λ m. IsBelow m n) same below))
      | inr (inr above) ↦ at_front (below_asymmetric n d.name above)
    ]
  where
    at_front : ¬ IsBelow d.name n → HasPlace (d ∷ cs) n
    at_front above = record {
      place = 0;
      within = omega arith;
      before = λ c h. absurd (contains_none c h);
      after = λ c h below. elim (contains_cases d cs c h) [
        | inl is ↦ above (subst (λ x. IsBelow x.name n) (sym is) below)
        | inr later ↦ above (below_chain d.name c.name n (pairs_head ByName d cs rise c later) below)
      ];
    }

-- clusters of different names can be sorted by name
record HasSorted (xs : List Cluster) : Type 0 where
  sorted : List Cluster
  rise : AllPairs ByName sorted
  same : IsPermutation xs sorted

some_sorted : (xs : List Cluster) → AllPairs HaveOtherNames xs → HasSorted xs
some_sorted [] differ = record { sorted = []; rise = pairs_none ByName; same = IsPermutation-refl [] }
some_sorted (x ∷ xs) differ =
    let rest = some_sorted xs (pairs_tail HaveOtherNames x xs differ) in
    let at = place_for rest.sorted rest.rise x.name in
    record {
      sorted = insert rest.sorted at.place x;
      rise = pairs_inserted ByName rest.sorted at.place x rest.rise at.before (λ c h. elim (below_tells x.name c.name) [
        | inl below ↦ below
        | inr (inl same) ↦ absurd (pairs_head HaveOtherNames x xs differ c (Contains-permutation rest.sorted xs c (IsPermutation-sym xs rest.sorted rest.same) (in_drop at.place rest.sorted c h)) same)
        | inr (inr above) ↦ absurd (at.after c h above)
      ]);
      same = IsPermutation-trans (x ∷ xs) (x ∷ rest.sorted) (insert rest.sorted at.place x) (IsPermutation-cons x xs rest.sorted rest.same) (IsPermutation-insert rest.sorted at.place x);
    }

-- a family that stands in the place of one, and isn't much longer
record IsNext (old new : Clusters) : Type 0 where
  sound : IsSound new
  few : length new.live ≤ length old.live + 3999

start_rises : (c : Constraint) → IsRising elem_number (constraint_start c).elements
start_rises c = rising_union elem_number (named_by c.rule) [] (rising_none elem_number)

started : (f : Clusters) → IsSound f → (e : Start) → IsRising elem_number e.elements → IsFree f e.number → length f.live ≤ 4294963297 → (g : Clusters) × HasStart e f g × IsNext f g
started f sound e rises free room =
    let at = place_for f.live sound.names_rise (Con e.number.0) in
    let less : length f.live < 4294967295 = omega arith in (
      with_start f sound e rises free less at.place at.within at.before at.after,
      start_put f sound e rises free less at.place at.within at.before at.after,
      record {
        sound = start_sound f sound e rises free less at.place at.within at.before at.after;
        few = (let size = length-insert f.live at.place (start_of e) in let within = at.within in omega (arith, size, within));
      },
    )

dissolves : (s : Sketch) → IsSoundSketch s → (f : Clusters) → IsSound f → IsReachedIn s f → (k : ConId) → HasConstraint s k → length f.live ≤ 4294963297 → (g : Clusters) × DissolvesOwner (graph_of s) k f g × IsNext f g
dissolves s s_sound f sound reach k has room =
    let g = graph_of s in
    let rise = rises s s_sound in
    let owner = owner_of s s_sound f sound reach k has in
    let is_owner : IsNamed f owner.0.name owner.0 = record { lives = owner.1; has_name = refl } in
    let others : (j : ConId) → Contains owner.0.owned j → j ≢ k → (d : Start) × Contains (starts g) d × (d.number ≡ j) = λ j c_j differ. owned_is_constraint g f reach rise owner.0 j owner.1 c_j in
    let sorted = some_sorted _ (all_differ g rise f sound owner.0.name k owner.0 is_owner owner.2 others) in
    let few = few_owned s s_sound f sound reach owner.0 owner.1 in
    let fewer = fewer_left g rise f sound owner.0.name k owner.0 is_owner owner.2 others sorted.sorted sorted.same in
    let after : Clusters = record { live = sorted.sorted; next_step = f.next_step } in
    let d = dissolved g rise f sound owner.0.name k owner.0 is_owner owner.2 others sorted.sorted sorted.same in (
      after,
      (owner.0.name, (d, subst (λ (c : Cluster). Contains c.owned k) (one_of_name f sound owner.0.name owner.0 d.owner is_owner d.named) owner.2)),
      record {
        sound = dissolved_sound g rise f sound owner.0.name k owner.0 is_owner owner.2 others sorted.sorted sorted.same (omega arith) sorted.rise;
        few = omega (arith, few, fewer);
      },
    )

same_next : (f : Clusters) → IsSound f → IsNext f f
same_next f sound = record { sound = sound; few = omega arith }

-- what follows an edit
pub record HasFollowed (e : Edit) (s : Sketch) (old : Clusters) : Type 0 where
  pub new : Clusters
  pub follows : Follows e s old new
  pub sound : IsSound new
  pub few : length new.live ≤ length old.live + 3999

pub followed : (e : Edit) (s : Sketch) → CanMake e s → (f : Clusters) → IsSound f → IsReachedIn s f → length f.live ≤ 4294963297 → HasFollowed e s f
followed (edit.Element x) s can f sound reach room = record { new = f; follows = refl; sound = sound; few = omega arith }
followed (edit.Constraint c) s can f sound reach room =
    let free = free_number s can.sound f sound reach c.number (λ x x_in same. (let below = can.possible.1 x x_in in absurd (omega arith))) in
    let found = started f sound (constraint_start c) (start_rises c) free room in
    record { new = found.0; follows = found.1; sound = found.2.sound; few = found.2.few }
followed (edit.Dropped k) s can f sound reach room =
    let found = dissolves s can.sound f sound reach k can.possible room in
    record { new = found.0; follows = found.1; sound = found.2.sound; few = found.2.few }
followed (edit.Length k len) s can f sound reach room = record { new = f; follows = refl; sound = sound; few = omega arith }
followed (edit.Turned k ratio) s can f sound reach room = record { new = f; follows = refl; sound = sound; few = omega arith }
followed (edit.Erased x) s can f sound reach room = record { new = f; follows = refl; sound = sound; few = omega arith }

-- and what follows its undoing
pub record HasFollowedBack (e : Edit) (s : Sketch) (old : Clusters) : Type 0 where
  pub new : Clusters
  pub follows : FollowsBack e s old new
  pub sound : IsSound new
  pub few : length new.live ≤ length old.live + 3999

module _ (b a : Sketch) (a_sound : IsSoundSketch a) (f : Clusters) (sound : IsSound f) (reach : IsReachedIn a f) (room : length f.live ≤ 4294963297) where
  pub followed_back : (d : Done) → LeadsTo d b a → HasFollowedBack (edit_of d) b f
  followed_back (past.Element x) led = record { new = f; follows = refl; sound = sound; few = omega arith }
  followed_back (past.Constraint c) led =
      let there : HasConstraint a c.number = subst (λ (s : Sketch). HasConstraint s c.number) (sym led.is) (c, Contains-push b.constraints c, refl) in
      let found = dissolves a a_sound f sound reach c.number there room in
      record { new = found.0; follows = owner_back b a c led f found.0 found.1; sound = found.2.sound; few = found.2.few }
  followed_back (past.Dropped c) led =
      let free = free_number a a_sound f sound reach c.number (λ x x_in. none_dropped b a c led x x_in) in
      let found = started f sound (constraint_start c) (start_rises c) free room in
      record { new = found.0; follows = start_back b a c led f found.0 found.1; sound = found.2.sound; few = found.2.few }
  followed_back (past.Length len c) led = record { new = f; follows = refl; sound = sound; few = omega arith }
  followed_back (past.Turned ratio c) led = record { new = f; follows = refl; sound = sound; few = omega arith }
  followed_back (past.Erased e) led = record { new = f; follows = refl; sound = sound; few = omega arith }

-- an edit that can be made, with what it takes away or changes
pub some_done : (e : Edit) (s : Sketch) → CanMake e s → (d : Done) × (edit_of d ≡ e) × Stood d s
some_done (edit.Element x) s can = (past.Element x, refl, tt)
some_done (edit.Constraint c) s can = (past.Constraint c, refl, tt)
some_done (edit.Dropped k) s can = (past.Dropped can.possible.0, ap edit.Dropped can.possible.2, can.possible.1)
some_done (edit.Length k len) s can = (past.Length len can.possible.1.0, ap (λ (n : ConId). edit.Length n len) can.possible.1.2, can.possible.1.1)
some_done (edit.Turned k ratio) s can = (past.Turned ratio can.possible.1.0, ap (λ (n : ConId). edit.Turned n ratio) can.possible.1.2, can.possible.1.1)
some_done (edit.Erased x) s can = (past.Erased can.possible.0.0, ap edit.Erased can.possible.0.2, can.possible.0.1)
