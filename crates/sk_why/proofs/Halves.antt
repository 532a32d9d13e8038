-- How the search by halves follows what is set aside.
use Rattle.std.proofs.Common.{◌≡◌, ℕ, ◌≤◌, Bool, true, false, List, [], length, take, drop, ap, sym, subst, ◌∙◌}
use Rattle.std.specs.Prelude.{Contains, map, filter}
use Rattle.sk_base.specs.declared.Elem.{Elem}
use Rattle.sk_base.specs.declared.ConId.{ConId}
use Rattle.sk_base.specs.declared.Graph.{Graph}
use Rattle.sk_base.specs.SoundGraph.{IsSoundGraph}
use Rattle.sk_base.specs.Numbering.{con_number}
use Rattle.sk_base.specs.Rising.{IsRising}
use Rattle.sk_base.proofs.Members.{mapped_from}
use Rattle.sk_base.proofs.Unions.{rising_same}
use Rattle.sk_family.specs.declared.Cluster.{Cluster}
use Rattle.sk_family.specs.Body.{Body, Start, starts}
use Rattle.sk_family.specs.Clusters.{body_of}
use Rattle.sk_rules.specs.JustSome.{with_just}
use Rattle.sk_rules.specs.Reach.{IsClosed}
use Rattle.sk_rules.proofs.JustSome.{sound_part}
use Rattle.sk_tree.specs.LegalPlan.{numbers_of}
use Rattle.sk_spare.specs.Trying.{some_holds}
use Rattle.sk_spare.proofs.PutBack.{CanJoin}
use Rattle.sk_excess.specs.LeftOut.{is_number, is_kept, kept_graph, HasConstraint}
use Rattle.sk_excess.specs.Going.{AreGoneOf, IsBut}
use Rattle.sk_excess.proofs.SomeLess.{number_in, in_number, part_has, has_part}
use Rattle.sk_excess.proofs.Going.{none_gone}
use Rattle.sk_excess.proofs.Halves.{others_normal, greater_but, all_but}
use Rattle.sk_why.specs.Because.{MayLeave, AreBecause}
use Rattle.sk_why.proofs.Together.{found_together, found_apart}
use Rattle.sk_why.proofs.Gone.{all_leave, lone_stays}
use Rattle.sk_why.proofs.Laws.{has_number, numbers_rise}

module _ (g : Graph) (sound : IsSoundGraph g) (es : List Elem) (p : ConId → Bool) (aside : List ConId) (rise : IsRising con_number aside) where
  abbrev all : Graph
  all = with_just p g

  all_sound : IsSoundGraph all
  all_sound = sound_part g p sound

  -- what leaves of a segment that is settled at once
  module _ (clusters : List Cluster) (w : IsBut g p aside (map body_of clusters)) where
    pub all_go : some_holds clusters es ≡ true → AreGoneOf (MayLeave es) all aside aside
    all_go passes =
        all_leave all all_sound es aside rise
        (found_together (kept_graph aside all) (sound_part all (is_kept aside) all_sound) es clusters (others_normal g sound p aside rise (map body_of clusters) w) passes)

    pub lone_goes_not : length aside ≤ 1 → some_holds clusters es ≡ false → AreGoneOf (MayLeave es) all aside []
    lone_goes_not few fails =
        none_gone (MayLeave es) all all_sound aside
        (lone_stays all all_sound es aside few
        (found_apart (kept_graph aside all) (sound_part all (is_kept aside) all_sound) es clusters (others_normal g sound p aside rise (map body_of clusters) w) fails))

  -- of the greater half, with the lesser one put back
  pub greater_gone : (f : List Body) → IsBut g p aside f → (i : ℕ) (m : List Body) → CanJoin g (take i aside) f m → IsClosed g m → (rest : List ConId) → rest ≡ drop i aside → (late : List ConId)
      → ((q : ConId → Bool) → IsBut g q rest m → AreGoneOf (MayLeave es) (with_just q g) rest late) → AreGoneOf (MayLeave es) all (drop i aside) late
  greater_gone f w i m joins closed rest is late told =
      subst (λ (ks : List ConId). AreGoneOf (MayLeave es) all ks late) is
      (told p (subst (λ (ks : List ConId). IsBut g p ks m) (sym is) (greater_but g sound p aside rise f w i m joins closed)))

-- at first all is set aside, and in the end what hasn't left is because
module _ (g : Graph) (sound : IsSoundGraph g) (es : List Elem) (kept : List ConId) (rise : IsRising con_number kept) (there : (k : ConId) → Contains kept k → HasConstraint g k) where
  pub at_first : (f : List Body) → f ≡ [] → IsBut g (is_number kept) kept f
  at_first = all_but g sound (is_number kept) kept (λ k k_in. (there k k_in, in_number kept k k_in)) (λ k has passes. number_in kept k passes)

  abbrev these : Graph
  these = with_just (is_number kept) g

  -- they are all constraints of the graph that they make
  same_numbers : numbers_of these ≡ kept
  same_numbers =
      rising_same con_number (numbers_of these) kept (numbers_rise these (sound_part g (is_number kept) sound)) rise
      (λ k h. number_in kept k (part_has g sound (is_number kept) k (mapped_from (λ (s : Start). s.number) (starts these) k h)).1)
      (λ k h. has_number these k (has_part g sound (is_number kept) k (there k h) (in_number kept k h)))

  pub in_the_end : (gone because : List ConId) → AreGoneOf (MayLeave es) these kept gone → because ≡ filter (is_kept gone) kept → AreBecause these es because
  in_the_end gone because are is = record {
    gone = gone;
    leave = subst (λ (ks : List ConId). AreGoneOf (MayLeave es) these ks gone) (sym same_numbers) are;
    others = is ∙ ap (λ (ks : List ConId). filter (is_kept gone) ks) (sym same_numbers);
  }
