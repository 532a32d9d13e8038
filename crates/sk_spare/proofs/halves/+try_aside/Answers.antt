use Rattle.std.proofs.Common.{◌≡◌, ◌⊎◌, ℕ, ◌+◌, ◌*◌, ◌<◌, ◌≤◌, ◌/◌, Bool, List, length, ap, sym, subst, ◌∙◌, arith}
use Rattle.std.specs.Prelude.{Contains, sum_by, ◌↔◌}
use Rattle.std.proofs.lemmas.List.{length-take-le, length-drop}
use Rattle.sk_base.specs.declared.ConId.{ConId}
use Rattle.sk_base.specs.declared.Elem.{Elem}
use Rattle.sk_family.specs.declared.Cluster.{Cluster}
use Rattle.sk_family.specs.Clusters.{bodies, body_of}
use Rattle.sk_rules.specs.Excess.{weight_of}
use Rattle.sk_base.specs.Numbering.{con_number}
use Rattle.sk_base.specs.Rising.{IsRising}
use Rattle.sk_base.proofs.Searches.{on_ok}
use Rattle.sk_base.proofs.Splits.{in_take, in_drop, pairs_take, pairs_drop}
use Rattle.sk_spare.specs.Sparing.{IsSpare}
use Rattle.sk_spare.specs.Halving.{AreFurther, IsMadeOf, IsBeside, cluster_weight}
use Rattle.sk_spare.specs.Trying.{some_holds}
use Rattle.sk_spare.proofs.PutBack.{CanJoin, rest_is, both_found}
use Rattle.sk_spare.proofs.Deciding.{late_can, early_can, with_late, with_early}
use Rattle.sk_spare.proofs.Segments.{constraints_aside, found_all, found_unless, found_nowhere}
use Rattle.sk_spare.proofs.halves.+try_aside.Goals as goal
use Rattle.sk_spare.proofs.halves.+try_aside.Goals.{After-some_holds}

pub are_too_few-requires-clause-constraints : goal.are_too_few-requires-clause-constraints
are_too_few-requires-clause-constraints t c =
    constraints_aside c.args.graph.now (body_of c.args.owner.now) c.requires.sound c.requires.owner c.args.aside.now c.requires.rise c.requires.owned c.args.family.now c.requires.beside

-- whether one cluster holds all that the owner holds
held : (t : ℕ) (c : After-some_holds t) → c.some_holds.result ≡ some_holds c.args.family.now.live c.args.owner.now.elements
held t c =
    c.some_holds.ensures ∙ ap (λ (cs : List Cluster). some_holds cs c.as_slice.result.now) c.clusters.ensures.live
    ∙ ap (λ (es : List Elem). some_holds c.args.family.now.live es) c.as_slice.ensures

-- all of a segment
pub returns-then-some_holds : goal.returns-then-some_holds
returns-then-some_holds t c =
    on_ok c.extend.result c.extend.ensures.ok
    (λ is. subst (λ (ks : List ConId). (k : ConId) → Contains ks k ↔ (Contains c.args.found.now k ⊎ (Contains c.args.aside.now k × IsSpare c.args.graph.now k))) (sym is)
    (found_all c.args.graph.now (body_of c.args.owner.now) c.requires.sound c.requires.owner c.args.aside.now c.requires.rise c.requires.owned c.args.family.now c.requires.beside
    (sym (held t ((goal.at.returns-then-some_holds t c).After-some_holds)) ∙ c.if-some_holds.true) c.args.found.now))

-- one constraint at most
pub returns-in-empty : goal.returns-in-empty
returns-in-empty t c =
    found_unless c.args.graph.now (body_of c.args.owner.now) c.requires.sound c.requires.owner c.args.aside.now c.requires.rise c.requires.owned c.args.family.now c.requires.beside
    (omega (arith, c.in-empty.len_below)) (sym (held t ((goal.at.returns-in-empty t c).After-some_holds)) ∙ c.if-some_holds.false) c.args.found.now

-- none of it
pub returns-in_default-2 : goal.returns-in_default-2
returns-in_default-2 t c =
    found_nowhere c.args.graph.now (body_of c.args.owner.now) c.requires.sound c.requires.owner c.args.aside.now c.requires.rise c.requires.owned c.args.family.now c.requires.beside
    (subst (λ (cs : List Cluster). sum_by cluster_weight cs + weight_of c.args.graph.now c.args.aside.now + 3 ≤ 2 * length c.args.owner.now.elements) c.clusters-2.ensures.live
    (c.are_too_few.ensures.0 c.if-are_too_few.true))
    c.args.found.now

pub with_these-requires-clause-further : goal.with_these-requires-clause-further
with_these-requires-clause-further t c =
    subst (λ (ks : List ConId). (p : ConId → Bool) × (AreFurther c.args.graph.now p ks × IsMadeOf c.args.graph.now p (bodies c.args.family.now))) (sym (rest_is c.args.aside.now (length c.args.aside.now / 2)))
    (late_can c.args.graph.now (body_of c.args.owner.now) c.requires.sound c.requires.owner c.args.aside.now c.requires.rise c.requires.owned c.args.family.now c.requires.beside (length c.args.aside.now / 2))

pub with_these-requires-in_default-3-clause-further : goal.with_these-requires-in_default-3-clause-further
with_these-requires-in_default-3-clause-further t c =
    early_can c.args.graph.now (body_of c.args.owner.now) c.requires.sound c.requires.owner c.args.aside.now c.requires.rise c.requires.owned c.args.family.now c.requires.beside (length c.args.aside.now / 2)

-- the family with the one half or the other put back
pub try_aside-requires : goal.try_aside-requires
try_aside-requires t c =
    let ks = c.args.aside.now in
    let i = length ks / 2 in
    let two = c.in_default-2.len_at_least in
    let i_in : i ≤ length ks = omega (arith, two) in
    let early = length-take-le i ks i_in in
    let late = ap length (rest_is ks i) ∙ length-drop i ks in
    let room = c.in_ok-with_late-in_default-3.ensures.room in (
      omega (arith, two, early),
      (
        c.requires.sound,
        (
          c.requires.owner,
          (
            pairs_take (λ (j k : ConId). j.0 < k.0) i ks c.requires.rise,
            (
              (λ k k_in. c.requires.owned k (in_take i ks k k_in)),
              (
                with_late c.args.graph.now (body_of c.args.owner.now) c.requires.sound c.requires.owner ks c.requires.rise c.requires.owned c.args.family.now c.requires.beside i i_in
                    c.in_ok-with_late-in_default-3.with_late
                    (subst (λ js. CanJoin c.args.graph.now js (bodies c.args.family.now) (bodies c.in_ok-with_late-in_default-3.with_late)) (rest_is ks i) c.in_ok-with_late-in_default-3.ensures.made)
                    c.in_ok-with_late-in_default-3.ensures.closed,
                omega (arith, room, early, late, i_in, c.requires.room),
              ),
            ),
          ),
        ),
      ),
    )

pub try_aside-requires-in_default-3 : goal.try_aside-requires-in_default-3
try_aside-requires-in_default-3 t c =
    let ks = c.args.aside.now in
    let i = length ks / 2 in
    let two = c.in_default-2.len_at_least in
    let i_in : i ≤ length ks = omega (arith, two) in
    let early = length-take-le i ks i_in in
    let late = ap length (rest_is ks i) ∙ length-drop i ks in
    let room = c.in_ok-with_early-in_default-3.ensures.room in (
      omega (arith, two, late),
      (
        c.requires.sound,
        (
          c.requires.owner,
          (
            subst (λ js. IsRising con_number js) (sym (rest_is ks i)) (pairs_drop (λ (j k : ConId). j.0 < k.0) i ks c.requires.rise),
            (
              (λ k k_in. c.requires.owned k (in_drop i ks k (subst (λ js. Contains js k) (rest_is ks i) k_in))),
              (
                subst (λ js. (q : ConId → Bool) × IsBeside c.args.graph.now c.args.owner.now.owned js q (bodies c.in_ok-with_early-in_default-3.with_early)) (sym (rest_is ks i))
                    (with_early c.args.graph.now (body_of c.args.owner.now) c.requires.sound c.requires.owner ks c.requires.rise c.requires.owned c.args.family.now c.requires.beside i i_in
                    c.in_ok-with_early-in_default-3.with_early c.in_ok-with_early-in_default-3.ensures.made c.in_ok-with_early-in_default-3.ensures.closed),
                omega (arith, room, early, late, i_in, c.requires.room),
              ),
            ),
          ),
        ),
      ),
    )

pub returns-in_ok-with_early-in_default-3 : goal.returns-in_ok-with_early-in_default-3
returns-in_ok-with_early-in_default-3 t c =
    let ks = c.args.aside.now in
    let i = length ks / 2 in
    on_ok c.try_aside-in_default-3.result c.try_aside-in_default-3.ensures
    (λ are. both_found (λ k. IsSpare c.args.graph.now k) ks i c.args.found.now c.try_aside.new.found c.try_aside-in_default-3.new.found c.in_ok-try_aside-in_default-3.ensures
    (subst (λ js. (k : ConId) → Contains c.try_aside-in_default-3.new.found k ↔ (Contains c.try_aside.new.found k ⊎ (Contains js k × IsSpare c.args.graph.now k))) (rest_is ks i) are))
