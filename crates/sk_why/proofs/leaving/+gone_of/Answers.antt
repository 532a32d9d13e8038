use Rattle.std.proofs.Common.{◌≡◌, ℕ, ◌-◌, ◌<◌, ◌≤◌, ◌/◌, Bool, List, ◌++◌, length, take, drop, ap, sym, subst, ◌∙◌, arith}
use Rattle.std.specs.Prelude.{filter, ◌&&◌}
use Rattle.std.proofs.lemmas.List.{length-take-le, length-drop}
use Rattle.std.proofs.lemmas.Result.{IfOk-weaker}
use Rattle.sk_base.specs.declared.ConId.{ConId}
use Rattle.sk_base.specs.Numbering.{con_number}
use Rattle.sk_base.specs.Rising.{IsRising}
use Rattle.sk_base.proofs.Splits.{pairs_take, pairs_drop}
use Rattle.sk_family.specs.declared.Cluster.{Cluster}
use Rattle.sk_family.specs.Clusters.{bodies}
use Rattle.sk_rules.specs.JustSome.{with_just}
use Rattle.sk_spare.specs.Halving.{AreFurther, IsMadeOf}
use Rattle.sk_spare.specs.Trying.{some_holds}
use Rattle.sk_spare.proofs.PutBack.{rest_is}
use Rattle.sk_excess.specs.LeftOut.{is_kept}
use Rattle.sk_excess.specs.Going.{AreGoneOf, but, IsBut}
use Rattle.sk_excess.proofs.Halves.{less_further, kept_further, few_kept, greater_but, less_but, both_halves}
use Rattle.sk_why.specs.Because.{MayLeave}
use Rattle.sk_why.proofs.Halves.{all_go, lone_goes_not, greater_gone}
use Rattle.sk_why.proofs.leaving.+gone_of.Goals as goal
use Rattle.sk_why.proofs.leaving.+gone_of.Goals.{After-some_holds}

-- whether one of the clusters has all of the elements
tested : (t : ℕ) (c : After-some_holds t) → c.some_holds.result ≡ some_holds c.args.family.now.live c.args.elements.now
tested t c = c.some_holds.ensures ∙ ap (λ (cs : List Cluster). some_holds cs c.args.elements.now) c.clusters.ensures.live

-- those of the greater half that stay
kept_list : (left kept slice : List ConId) (rest greater late : List ConId) → slice ≡ kept → kept ≡ filter (is_kept left) rest → left ≡ late → rest ≡ greater → slice ≡ filter (is_kept late) greater
kept_list left kept slice rest greater late is are same whole =
    is ∙ are ∙ ap (λ (ks : List ConId). filter (is_kept ks) rest) same ∙ ap (λ (ks : List ConId). filter (is_kept late) ks) whole

pub returns-then-some_holds : goal.returns-then-some_holds
returns-then-some_holds t c =
    let g = c.args.graph.now in
    let ks = c.args.aside.now in
    IfOk-weaker c.copy_of.result (λ (copy : List ConId). copy ≡ ks)
    (λ (gone : List ConId). (p : ConId → Bool) → IsBut g p ks (bodies c.args.family.now) → AreGoneOf (MayLeave c.args.elements.now) (with_just p g) ks gone)
    (λ copy is p w. subst (λ (js : List ConId). AreGoneOf (MayLeave c.args.elements.now) (with_just p g) ks js) (sym is)
    (all_go g c.requires.sound c.args.elements.now p ks c.requires.rise c.args.family.now.live w (sym (tested t ((goal.at.returns-then-some_holds t c).After-some_holds)) ∙ c.if-some_holds.true)))
    c.copy_of.ensures

pub returns-in-empty : goal.returns-in-empty
returns-in-empty t c p w =
    subst (λ (js : List ConId). AreGoneOf (MayLeave c.args.elements.now) (with_just p c.args.graph.now) c.args.aside.now js) (sym c.new.ensures)
    (lone_goes_not c.args.graph.now c.requires.sound c.args.elements.now p c.args.aside.now c.requires.rise c.args.family.now.live w (omega (arith, c.in-empty.len_below))
    (sym (tested t ((goal.at.returns-in-empty t c).After-some_holds)) ∙ c.if-some_holds.false))

-- with the lesser half put back
pub with_these-requires-clause-further : goal.with_these-requires-clause-further
with_these-requires-clause-further t c =
    let (p, w) = c.requires.without in
    let ks = c.args.aside.now in
    (but p ks, (less_further c.args.graph.now c.requires.sound p ks c.requires.rise (bodies c.args.family.now) w (length ks / 2), w.made))

pub gone_of-requires : goal.gone_of-requires
gone_of-requires t c =
    let (p, w) = c.requires.without in
    let g = c.args.graph.now in
    let ks = c.args.aside.now in
    let i = length ks / 2 in
    let two = c.in_default-2.len_at_least in
    let i_in : i ≤ length ks = omega (arith, two) in
    let early = length-take-le i ks i_in in
    let late = ap length (rest_is ks i) ∙ length-drop i ks in
    let room = c.in_ok-with_less-in_default-2.ensures.room in (
      omega (arith, two, late),
      (
        c.requires.sound,
        (
          subst (λ (js : List ConId). IsRising con_number js) (sym (rest_is ks i)) (pairs_drop (λ (j k : ConId). j.0 < k.0) i ks c.requires.rise),
          (
            subst (λ (js : List ConId). (q : ConId → Bool) × IsBut g q js (bodies c.in_ok-with_less-in_default-2.with_less)) (sym (rest_is ks i)) (
              p,
              greater_but g c.requires.sound p ks c.requires.rise (bodies c.args.family.now) w i (bodies c.in_ok-with_less-in_default-2.with_less)
                  c.in_ok-with_less-in_default-2.ensures.made c.in_ok-with_less-in_default-2.ensures.closed,
            ),
            omega (arith, room, early, late, i_in, c.requires.room),
          ),
        ),
      ),
    )

-- with what stays of the greater half put back
pub with_these-requires-in_default-2-clause-further : goal.with_these-requires-in_default-2-clause-further
with_these-requires-in_default-2-clause-further t c =
    let (p, w) = c.requires.without in
    let g = c.args.graph.now in
    let ks = c.args.aside.now in
    let i = length ks / 2 in
    let late = c.in_ok-greater-in_default-2.greater in
    let is = kept_list c.as_slice.result.now c.in_ok-kept-in_default-2.kept c.as_slice-in_default-2.result.now (take (length ks - i) (drop i ks)) (drop i ks) late
    c.as_slice-in_default-2.ensures c.in_ok-kept-in_default-2.ensures c.as_slice.ensures (rest_is ks i) in
    subst (λ (js : List ConId). (q : ConId → Bool) × (AreFurther g q js × IsMadeOf g q (bodies c.args.family.now))) (sym is)
    (but p ks, (kept_further g c.requires.sound p ks c.requires.rise (bodies c.args.family.now) w i late, w.made))

pub with_these-requires-in_default-2-clause-room : goal.with_these-requires-in_default-2-clause-room
with_these-requires-in_default-2-clause-room t c =
    let (p, w) = c.requires.without in
    let g = c.args.graph.now in
    let ks = c.args.aside.now in
    let i = length ks / 2 in
    let two = c.in_default-2.len_at_least in
    let late = c.in_ok-greater-in_default-2.greater in
    let is = kept_list c.as_slice.result.now c.in_ok-kept-in_default-2.kept c.as_slice-in_default-2.result.now (take (length ks - i) (drop i ks)) (drop i ks) late
    c.as_slice-in_default-2.ensures c.in_ok-kept-in_default-2.ensures c.as_slice.ensures (rest_is ks i) in
    let many = ap length is in
    let few = few_kept g c.requires.sound p ks c.requires.rise (bodies c.args.family.now) w i late in
    let left = length-drop i ks in
    omega (arith, many, few, left, c.requires.room)

pub gone_of-requires-in_default-2 : goal.gone_of-requires-in_default-2
gone_of-requires-in_default-2 t c =
    let (p, w) = c.requires.without in
    let g = c.args.graph.now in
    let f = bodies c.args.family.now in
    let ks = c.args.aside.now in
    let i = length ks / 2 in
    let two = c.in_default-2.len_at_least in
    let i_in : i ≤ length ks = omega (arith, two) in
    let late = c.in_ok-greater-in_default-2.greater in
    let is = kept_list c.as_slice.result.now c.in_ok-kept-in_default-2.kept c.as_slice-in_default-2.result.now (take (length ks - i) (drop i ks)) (drop i ks) late
    c.as_slice-in_default-2.ensures c.in_ok-kept-in_default-2.ensures c.as_slice.ensures (rest_is ks i) in
    let of_greater = greater_gone g c.requires.sound c.args.elements.now p ks c.requires.rise f w i (bodies c.in_ok-with_less-in_default-2.with_less)
    c.in_ok-with_less-in_default-2.ensures.made c.in_ok-with_less-in_default-2.ensures.closed
    (take (length ks - i) (drop i ks)) (rest_is ks i) late c.in_ok-greater-in_default-2.ensures in
    let early = length-take-le i ks i_in in
    let many = ap length is in
    let few = few_kept g c.requires.sound p ks c.requires.rise f w i late in
    let left = length-drop i ks in
    let room = c.in_ok-with_kept-in_default-2.ensures.room in (
      omega (arith, two, early),
      (
        c.requires.sound,
        (
          pairs_take (λ (j k : ConId). j.0 < k.0) i ks c.requires.rise,
          (
            (
              λ k. p k && is_kept late k,
              less_but g c.requires.sound p ks c.requires.rise f w i late (λ k h. ((of_greater.exactly k).0 h).0) c.as_slice-in_default-2.result.now is (bodies c.in_ok-with_kept-in_default-2.with_kept)
                  c.in_ok-with_kept-in_default-2.ensures.made c.in_ok-with_kept-in_default-2.ensures.closed,
            ),
            omega (arith, room, early, many, few, left, i_in, c.requires.room),
          ),
        ),
      ),
    )

pub returns-in_ok-extend-in_default-2 : goal.returns-in_ok-extend-in_default-2
returns-in_ok-extend-in_default-2 t c p w =
    let g = c.args.graph.now in
    let f = bodies c.args.family.now in
    let ks = c.args.aside.now in
    let i = length ks / 2 in
    let late = c.in_ok-greater-in_default-2.greater in
    let early = c.in_ok-gone-in_default-2.gone in
    let is = kept_list c.as_slice.result.now c.in_ok-kept-in_default-2.kept c.as_slice-in_default-2.result.now (take (length ks - i) (drop i ks)) (drop i ks) late
    c.as_slice-in_default-2.ensures c.in_ok-kept-in_default-2.ensures c.as_slice.ensures (rest_is ks i) in
    let of_greater = greater_gone g c.requires.sound c.args.elements.now p ks c.requires.rise f w i (bodies c.in_ok-with_less-in_default-2.with_less)
    c.in_ok-with_less-in_default-2.ensures.made c.in_ok-with_less-in_default-2.ensures.closed
    (take (length ks - i) (drop i ks)) (rest_is ks i) late c.in_ok-greater-in_default-2.ensures in
    let of_less = c.in_ok-gone-in_default-2.ensures (λ k. p k && is_kept late k)
    (less_but g c.requires.sound p ks c.requires.rise f w i late (λ k h. ((of_greater.exactly k).0 h).0) c.as_slice-in_default-2.result.now is (bodies c.in_ok-with_kept-in_default-2.with_kept)
    c.in_ok-with_kept-in_default-2.ensures.made c.in_ok-with_kept-in_default-2.ensures.closed) in
    let whole = c.in_ok-extend-in_default-2.ensures.ok ∙ ap (λ (js : List ConId). early ++ js) c.as_slice-in_default-2-2.ensures in
    subst (λ (js : List ConId). AreGoneOf (MayLeave c.args.elements.now) (with_just p g) ks js) (sym whole)
    (both_halves g c.requires.sound p ks c.requires.rise f w i (MayLeave c.args.elements.now) late of_greater early of_less)
