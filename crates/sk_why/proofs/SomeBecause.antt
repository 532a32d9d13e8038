-- There is a list of what holds some elements together.
use Rattle.std.proofs.Common.{◌≡◌, inl, inr, ◌<◌, List, [], ◌∷◌, ◌++◌, refl, subst, arith}
use Rattle.std.specs.Prelude.{Contains, filter}
use Rattle.sk_base.specs.declared.Elem.{Elem}
use Rattle.sk_base.specs.declared.ConId.{ConId}
use Rattle.sk_base.specs.declared.Graph.{Graph}
use Rattle.sk_base.specs.SoundGraph.{IsSoundGraph}
use Rattle.sk_base.specs.Numbering.{con_number}
use Rattle.sk_base.specs.Rising.{IsRising}
use Rattle.sk_base.proofs.Deciding.{Decided, some_in, each_decided, is_in, elem_settles}
use Rattle.sk_base.proofs.Members.{contains_none, contains_one, mapped_from}
use Rattle.sk_base.proofs.Unions.{rising_none, rising_cons, rising_tail, rising_below}
use Rattle.sk_family.specs.Body.{Body, Start, starts, initial_bodies}
use Rattle.sk_rules.specs.JustSome.{with_just}
use Rattle.sk_rules.specs.Reach.{IsNormal}
use Rattle.sk_rules.proofs.JustSome.{sound_part}
use Rattle.sk_rules.proofs.SomeClosed.{some_closed}
use Rattle.sk_tree.specs.LegalPlan.{numbers_of}
use Rattle.sk_excess.specs.LeftOut.{is_number, is_kept, kept_graph, HasConstraint}
use Rattle.sk_excess.specs.Going.{AreGoneOf}
use Rattle.sk_excess.proofs.SomeLess.{in_number, just_all}
use Rattle.sk_excess.proofs.Going.{none_gone, both_gone}
use Rattle.sk_why.specs.Because.{AreTogether, MayLeave, AreBecause, FollowsFrom}
use Rattle.sk_why.proofs.Together.{together_in}
use Rattle.sk_why.proofs.Gone.{all_leave, lone_stays}
use Rattle.sk_why.proofs.Laws.{has_number, numbers_rise}
use Rattle.sk_why.proofs.Halves.{in_the_end}

-- whether they are together is settled
together_decided : (g : Graph) → IsSoundGraph g → (es : List Elem) → Decided (AreTogether g es)
together_decided g sound es =
    let (f, reach, closed) = some_closed g (initial_bodies g) in
    let normal : IsNormal g f = record { reached = reach; closed = closed } in
    elim (some_in (λ (y : Body). (e : Elem) → Contains es e → Contains y.elements e) (λ y. each_decided (λ (e : Elem). Contains y.elements e) es (λ e. is_in elem_settles y.elements e)) f) [
      | inl holds ↦ inl (record { family = f; normal = normal; holds = holds })
      | inr none ↦ inr (λ together. none (together_in g sound es together f normal))
    ]

-- of some constraints some leave
some_gone : (g : Graph) → IsSoundGraph g → (es : List Elem) → (all : List ConId) → IsRising con_number all → (gone : List ConId) × AreGoneOf (MayLeave es) g all gone
some_gone g sound es [] rise = ([], none_gone (MayLeave es) g sound [] (λ k h. absurd (contains_none k h)))
some_gone g sound es (x ∷ xs) rise =
    let (late, of_late) = some_gone g sound es xs (rising_tail con_number x xs rise) in
    let rest_sound : IsSoundGraph (kept_graph late g) = sound_part g (is_kept late) sound in
    let apart : (j k : ConId) → Contains (x ∷ []) j → Contains xs k → j.0 < k.0 = λ j k j_in k_in. (
    let less : x.0 < k.0 = rising_below con_number x xs rise k k_in in subst (λ (i : ConId). i.0 < k.0) (contains_one x j j_in) less) in
    elim (together_decided (kept_graph (x ∷ []) (kept_graph late g)) (sound_part (kept_graph late g) (is_kept (x ∷ [])) rest_sound) es) [
      | inl together ↦ (
        (x ∷ []) ++ late,
        both_gone (MayLeave es) g sound (x ∷ []) xs (x ∷ []) late of_late
            (all_leave (kept_graph late g) rest_sound es (x ∷ []) (rising_cons con_number x [] (rising_none con_number) (λ y h. absurd (contains_none y h))) together)
            apart,
      )
      | inr not ↦ (
        late,
        both_gone (MayLeave es) g sound (x ∷ []) xs [] late of_late
            (none_gone (MayLeave es) (kept_graph late g) rest_sound (x ∷ []) (lone_stays (kept_graph late g) rest_sound es (x ∷ []) (omega arith) not))
            apart,
      )
    ]

pub some_because : (g : Graph) → IsSoundGraph g → (es : List Elem) → (because : List ConId) × AreBecause g es because
some_because g sound es =
    let all = numbers_of g in
    let rise = numbers_rise g sound in
    let (gone, are) = some_gone (with_just (is_number all) g) (sound_part g (is_number all) sound) es all rise in
    let there : (k : ConId) → Contains all k → HasConstraint g k = λ k k_in. mapped_from (λ (s : Start). s.number) (starts g) k k_in in
    let whole : with_just (is_number all) g ≡ g = just_all g sound (is_number all) (λ k has. in_number all k (has_number g k has)) in
    (filter (is_kept gone) all, subst (λ (h : Graph). AreBecause h es (filter (is_kept gone) all)) whole (in_the_end g sound es all rise there gone (filter (is_kept gone) all) are refl))

pub some_follow : (g : Graph) → IsSoundGraph g → (left : List ConId) (c : ConId) → HasConstraint g c → (because : List ConId) × FollowsFrom g left c because
some_follow g sound left c (s, s_in, numbered) =
    let (because, are) = some_because (kept_graph left g) (sound_part g (is_kept left) sound) s.elements in
    (because, record { start = s; there = s_in; numbered = numbered; are = are })
