use Rattle.std.proofs.Common.{◌≡◌, ℕ, ◌+◌, ◌*◌, ◌-◌, ◌<◌, ◌≤◌, ◌/◌, Bool, List, ◌++◌, length, take, drop, ap, sym, subst, ◌∙◌, arith}
use Rattle.std.specs.Prelude.{sum_by, filter, ◌&&◌}
use Rattle.std.proofs.lemmas.List.{length-take-le, length-drop}
use Rattle.std.proofs.lemmas.Result.{IfOk-weaker}
use Rattle.sk_base.specs.declared.ConId.{ConId}
use Rattle.sk_base.specs.Numbering.{con_number}
use Rattle.sk_base.specs.Rising.{IsRising}
use Rattle.sk_base.proofs.Splits.{pairs_take, pairs_drop}
use Rattle.sk_family.specs.declared.Cluster.{Cluster}
use Rattle.sk_family.specs.Clusters.{bodies}
use Rattle.sk_rules.specs.Excess.{weight_of}
use Rattle.sk_rules.specs.JustSome.{with_just}
use Rattle.sk_spare.specs.Halving.{AreFurther, IsMadeOf, cluster_weight}
use Rattle.sk_spare.proofs.PutBack.{rest_is}
use Rattle.sk_excess.specs.LeftOut.{is_kept}
use Rattle.sk_spare.specs.Sparing.{IsSpare}
use Rattle.sk_excess.specs.Going.{but}
use Rattle.sk_excess.specs.Thinning.{AreLeftOutOf, IsWithout, some_has}
use Rattle.sk_excess.proofs.Halves.{constraints_aside, less_further, kept_further, few_kept, both_halves}
use Rattle.sk_excess.proofs.Searching.{all_go, lone_stays, none_go, greater_without, greater_left, less_without}
use Rattle.sk_excess.proofs.thinning.+left_of.Goals as goal
use Rattle.sk_excess.proofs.thinning.+left_of.Goals.{After-some_has}

-- whether one of the clusters has as many elements as there are nodes
tested : (t : ℕ) (c : After-some_has t) → c.some_has.result ≡ some_has (length c.args.graph.now.nodes) c.args.family.now.live
tested t c =
    c.some_has.ensures ∙ ap (λ (n : ℕ). some_has n c.clusters.result.now) c.len.ensures
    ∙ ap (λ (cs : List Cluster). some_has (length c.args.graph.now.nodes) cs) c.clusters.ensures.live

-- those of the greater half that are kept
kept_list : (left kept slice : List ConId) (rest greater late : List ConId) → slice ≡ kept → kept ≡ filter (is_kept left) rest → left ≡ late → rest ≡ greater → slice ≡ filter (is_kept late) greater
kept_list left kept slice rest greater late is are same whole =
    is ∙ are ∙ ap (λ (ks : List ConId). filter (is_kept ks) rest) same ∙ ap (λ (ks : List ConId). filter (is_kept late) ks) whole

pub returns-then-some_has : goal.returns-then-some_has
returns-then-some_has t c =
    let g = c.args.graph.now in
    let ks = c.args.aside.now in
    IfOk-weaker c.copy_of.result (λ (copy : List ConId). copy ≡ ks)
    (λ (left : List ConId). (p : ConId → Bool) → IsWithout g p ks (bodies c.args.family.now) → AreLeftOutOf (with_just p g) ks left)
    (λ copy is p w. subst (λ (js : List ConId). AreLeftOutOf (with_just p g) ks js) (sym is)
    (all_go g c.requires.sound p ks c.requires.rise c.args.family.now.live w (sym (tested t ((goal.at.returns-then-some_has t c).After-some_has)) ∙ c.if-some_has.true)))
    c.copy_of.ensures

pub returns-in-empty : goal.returns-in-empty
returns-in-empty t c p w =
    subst (λ (js : List ConId). AreLeftOutOf (with_just p c.args.graph.now) c.args.aside.now js) (sym c.new.ensures)
    (lone_stays c.args.graph.now c.requires.sound p c.args.aside.now c.requires.rise c.args.family.now.live w (omega (arith, c.in-empty.len_below))
    (sym (tested t ((goal.at.returns-in-empty t c).After-some_has)) ∙ c.if-some_has.false))

pub are_too_few-requires-clause-constraints : goal.are_too_few-requires-clause-constraints
are_too_few-requires-clause-constraints t c =
    let (p, w) = c.requires.without in
    constraints_aside c.args.graph.now c.requires.sound p c.args.aside.now c.requires.rise (bodies c.args.family.now) w.rest

pub returns-in_default-2 : goal.returns-in_default-2
returns-in_default-2 t c p w =
    subst (λ (js : List ConId). AreLeftOutOf (with_just p c.args.graph.now) c.args.aside.now js) (sym c.new-in_default-2.ensures)
    (none_go c.args.graph.now c.requires.sound p c.args.aside.now c.requires.rise c.args.family.now.live w (length c.args.owner.now.elements) c.requires.size
    (subst (λ (cs : List Cluster). sum_by cluster_weight cs + weight_of c.args.graph.now c.args.aside.now + 3 ≤ 2 * length c.args.owner.now.elements) c.clusters-2.ensures.live
    (c.are_too_few.ensures.0 c.if-are_too_few.true)))

-- with the lesser half put back
pub with_these-requires-clause-further : goal.with_these-requires-clause-further
with_these-requires-clause-further t c =
    let (p, w) = c.requires.without in
    let ks = c.args.aside.now in
    (but p ks, (less_further c.args.graph.now c.requires.sound p ks c.requires.rise (bodies c.args.family.now) w.rest (length ks / 2), w.rest.made))

pub left_of-requires : goal.left_of-requires
left_of-requires t c =
    let (p, w) = c.requires.without in
    let g = c.args.graph.now in
    let ks = c.args.aside.now in
    let i = length ks / 2 in
    let two = c.in_default-2.len_at_least in
    let i_in : i ≤ length ks = omega (arith, two) in
    let early = length-take-le i ks i_in in
    let late = ap length (rest_is ks i) ∙ length-drop i ks in
    let room = c.in_ok-with_less-in_default-3.ensures.room in (
      omega (arith, two, late),
      (
        c.requires.sound,
        (
          c.requires.size,
          (
            subst (λ (js : List ConId). IsRising con_number js) (sym (rest_is ks i)) (pairs_drop (λ (j k : ConId). j.0 < k.0) i ks c.requires.rise),
            (
              subst (λ (js : List ConId). (q : ConId → Bool) × IsWithout g q js (bodies c.in_ok-with_less-in_default-3.with_less)) (sym (rest_is ks i)) (
                p,
                greater_without g c.requires.sound p ks c.requires.rise (bodies c.args.family.now) w i (bodies c.in_ok-with_less-in_default-3.with_less)
                    c.in_ok-with_less-in_default-3.ensures.made c.in_ok-with_less-in_default-3.ensures.closed,
              ),
              omega (arith, room, early, late, i_in, c.requires.room),
            ),
          ),
        ),
      ),
    )

-- with what is kept of the greater half put back
pub with_these-requires-in_default-3-clause-further : goal.with_these-requires-in_default-3-clause-further
with_these-requires-in_default-3-clause-further t c =
    let (p, w) = c.requires.without in
    let g = c.args.graph.now in
    let ks = c.args.aside.now in
    let i = length ks / 2 in
    let late = c.in_ok-greater-in_default-3.greater in
    let is = kept_list c.as_slice.result.now c.in_ok-kept-in_default-3.kept c.as_slice-in_default-3.result.now (take (length ks - i) (drop i ks)) (drop i ks) late
    c.as_slice-in_default-3.ensures c.in_ok-kept-in_default-3.ensures c.as_slice.ensures (rest_is ks i) in
    subst (λ (js : List ConId). (q : ConId → Bool) × (AreFurther g q js × IsMadeOf g q (bodies c.args.family.now))) (sym is)
    (but p ks, (kept_further g c.requires.sound p ks c.requires.rise (bodies c.args.family.now) w.rest i late, w.rest.made))

pub with_these-requires-in_default-3-clause-room : goal.with_these-requires-in_default-3-clause-room
with_these-requires-in_default-3-clause-room t c =
    let (p, w) = c.requires.without in
    let g = c.args.graph.now in
    let ks = c.args.aside.now in
    let i = length ks / 2 in
    let two = c.in_default-2.len_at_least in
    let late = c.in_ok-greater-in_default-3.greater in
    let is = kept_list c.as_slice.result.now c.in_ok-kept-in_default-3.kept c.as_slice-in_default-3.result.now (take (length ks - i) (drop i ks)) (drop i ks) late
    c.as_slice-in_default-3.ensures c.in_ok-kept-in_default-3.ensures c.as_slice.ensures (rest_is ks i) in
    let many = ap length is in
    let few = few_kept g c.requires.sound p ks c.requires.rise (bodies c.args.family.now) w.rest i late in
    let left = length-drop i ks in
    omega (arith, many, few, left, c.requires.room)

pub left_of-requires-in_default-3 : goal.left_of-requires-in_default-3
left_of-requires-in_default-3 t c =
    let (p, w) = c.requires.without in
    let g = c.args.graph.now in
    let f = bodies c.args.family.now in
    let ks = c.args.aside.now in
    let i = length ks / 2 in
    let two = c.in_default-2.len_at_least in
    let i_in : i ≤ length ks = omega (arith, two) in
    let late = c.in_ok-greater-in_default-3.greater in
    let is = kept_list c.as_slice.result.now c.in_ok-kept-in_default-3.kept c.as_slice-in_default-3.result.now (take (length ks - i) (drop i ks)) (drop i ks) late
    c.as_slice-in_default-3.ensures c.in_ok-kept-in_default-3.ensures c.as_slice.ensures (rest_is ks i) in
    let of_greater = greater_left g c.requires.sound p ks c.requires.rise f w i (bodies c.in_ok-with_less-in_default-3.with_less)
    c.in_ok-with_less-in_default-3.ensures.made c.in_ok-with_less-in_default-3.ensures.closed
    (take (length ks - i) (drop i ks)) (rest_is ks i) late c.in_ok-greater-in_default-3.ensures in
    let early = length-take-le i ks i_in in
    let many = ap length is in
    let few = few_kept g c.requires.sound p ks c.requires.rise f w.rest i late in
    let left = length-drop i ks in
    let room = c.in_ok-with_kept-in_default-3.ensures.room in (
      omega (arith, two, early),
      (
        c.requires.sound,
        (
          c.requires.size,
          (
            pairs_take (λ (j k : ConId). j.0 < k.0) i ks c.requires.rise,
            (
              (
                λ k. p k && is_kept late k,
                less_without g c.requires.sound p ks c.requires.rise f w i late of_greater c.as_slice-in_default-3.result.now is (bodies c.in_ok-with_kept-in_default-3.with_kept)
                    c.in_ok-with_kept-in_default-3.ensures.made c.in_ok-with_kept-in_default-3.ensures.closed,
              ),
              omega (arith, room, early, many, few, left, i_in, c.requires.room),
            ),
          ),
        ),
      ),
    )

pub returns-in_ok-extend-in_default-3 : goal.returns-in_ok-extend-in_default-3
returns-in_ok-extend-in_default-3 t c p w =
    let g = c.args.graph.now in
    let f = bodies c.args.family.now in
    let ks = c.args.aside.now in
    let i = length ks / 2 in
    let late = c.in_ok-greater-in_default-3.greater in
    let early = c.in_ok-left-in_default-3.left in
    let is = kept_list c.as_slice.result.now c.in_ok-kept-in_default-3.kept c.as_slice-in_default-3.result.now (take (length ks - i) (drop i ks)) (drop i ks) late
    c.as_slice-in_default-3.ensures c.in_ok-kept-in_default-3.ensures c.as_slice.ensures (rest_is ks i) in
    let of_greater = greater_left g c.requires.sound p ks c.requires.rise f w i (bodies c.in_ok-with_less-in_default-3.with_less)
    c.in_ok-with_less-in_default-3.ensures.made c.in_ok-with_less-in_default-3.ensures.closed
    (take (length ks - i) (drop i ks)) (rest_is ks i) late c.in_ok-greater-in_default-3.ensures in
    let of_less = c.in_ok-left-in_default-3.ensures (λ k. p k && is_kept late k)
    (less_without g c.requires.sound p ks c.requires.rise f w i late of_greater c.as_slice-in_default-3.result.now is (bodies c.in_ok-with_kept-in_default-3.with_kept)
    c.in_ok-with_kept-in_default-3.ensures.made c.in_ok-with_kept-in_default-3.ensures.closed) in
    let whole = c.in_ok-extend-in_default-3.ensures.ok ∙ ap (λ (js : List ConId). early ++ js) c.as_slice-in_default-3-2.ensures in
    subst (λ (js : List ConId). AreLeftOutOf (with_just p g) ks js) (sym whole)
    (both_halves g c.requires.sound p ks c.requires.rise f w.rest i IsSpare late of_greater early of_less)
