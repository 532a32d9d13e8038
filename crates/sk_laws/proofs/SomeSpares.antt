-- Each sound graph has a list of spare constraints: of each constraint a trial settles whether it is spare.
use Rattle.std.proofs.Common.{inl, inr, ◌<◌, List, get_or, subst, arith}
use Rattle.std.specs.Prelude.{Contains, map}
use Rattle.std.proofs.lemmas.List.Elements.{All-contains, Contains-get_or}
use Rattle.sk_base.specs.declared.Elem.{Elem}
use Rattle.sk_base.specs.declared.ConId.{ConId}
use Rattle.sk_base.specs.declared.Graph.{Graph}
use Rattle.sk_base.specs.SoundGraph.{IsSoundGraph}
use Rattle.sk_base.specs.Numbering.{con_exact, con_number}
use Rattle.sk_base.proofs.Members.{contains_mapped}
use Rattle.sk_family.specs.Body.{Body, Start, starts}
use Rattle.sk_family.specs.Clusters.{bodies}
use Rattle.sk_base.proofs.Deciding.{elem_settles, con_settles, Decided, all_decided, is_in, moved, some_in}
use Rattle.sk_rules.specs.Reach.{IsNormal}
use Rattle.sk_rules.proofs.Counting.{reached_tight}
use Rattle.sk_rules.proofs.NormalForm.{normal_same}
use Rattle.sk_close_by_order.specs.declared.Order.TheVariants.{First}
use Rattle.sk_close_by_order.specs.Orders.{Choosing, place_of, next_call, place_below}
use Rattle.sk_spare.specs.Sparing.{AreSpares, HoldsAll, IsOwner, IsSpare}
use Rattle.sk_spare.specs.Trying.{trial_graph}
use Rattle.sk_spare.proofs.Graphs.{sound_trial}
use Rattle.sk_spare.proofs.LeavingOut.{trial_decides}
use Rattle.sk_base.proofs.Selecting.{number_tells, selected}
use Rattle.sk_plan.proofs.SomePlans.{the_run, end_normal}

some_normal : (g : Graph) → IsSoundGraph g → (f : List Body) × IsNormal g f
some_normal g sound =
    let start : Choosing = record { order = First; call = 0 } in
    (bodies (the_run place_of next_call place_below start g sound).end, end_normal place_of next_call place_below start g sound)

holds_decided : (f : List Body) (xs : List Elem) → Decided (HoldsAll f xs)
holds_decided f xs =
    some_in (λ (y : Body). (e : Elem) → Contains xs e → Contains y.elements e) (λ y.
    moved (λ all e e_in. All-contains (λ d. Contains y.elements d) xs e all e_in) (λ each k d k_in. each (get_or xs k d) (Contains-get_or xs k d k_in))
    (all_decided (λ e. Contains y.elements e) (λ e. is_in elem_settles y.elements e) xs)) f

module _ (g : Graph) (sound : IsSoundGraph g) where
  spare_decided : (k : ConId) → Decided (IsSpare g k)
  spare_decided k =
      let f = some_normal g sound in
      elim (some_in (λ (x : Body). Contains x.owned k) (λ x. is_in con_settles x.owned k) f.0) [
        | inr none ↦ inr (λ s. none (s.owner, (normal_same g s.family f.0 sound.edges_rise s.owns.normal f.1 s.owner).0 s.owns.in_family, s.owns.owns))
        | inl (x, x_in, owned) ↦ (
            let own : IsOwner g f.0 k x = record { normal = f.1; in_family = x_in; owns = owned } in
            let n = some_normal (trial_graph x.owned k g) (sound_trial g k x.owned sound) in
            let decides = trial_decides g f.0 n.0 k x sound own n.1 in
            moved decides.1 decides.0 (holds_decided n.0 x.elements))
      ]

  abbrev Lower : ConId → ConId → Type 0
  Lower j k = j.0 < k.0

  abbrev number_of : Start → ConId
  number_of s = s.number

  pub some_spares : (spares : List ConId) × AreSpares g spares
  some_spares =
      let found = selected Lower (number_tells con_number con_exact) (λ i j k h l. omega arith) (λ k. IsSpare g k) spare_decided (map number_of (starts g)) in (
        found.0,
        record {
          exactly = λ k. (
            (λ h. ((found.2 k).0 h).1),
            (λ s. (
                let (start, start_in, is, within) = (reached_tight g s.family sound.edges_rise s.owns.normal.reached).inside s.owner s.owns.in_family k s.owns.owns in
                (found.2 k).1 (subst (λ j. Contains (map number_of (starts g)) j) is (contains_mapped number_of (starts g) start start_in), s))),
          );
          rise = found.1;
        },
      )
