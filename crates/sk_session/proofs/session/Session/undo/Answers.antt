use Rattle.std.proofs.Common.{rules, ◌≡◌, ◌+◌, ◌-◌, ◌<◌, ◌∙◌, ◌++◌, ◌∷◌, [], ℕ, ap, sym, subst, refl, List, length, take, get_or, arith}
use Rattle.std.proofs.lemmas.List.{length-map, length-append}
use Rattle.sk_edits.specs.Edits.{sketch_of}
use Rattle.sk_session.specs.declared.done.Done.{Done}
use Rattle.sk_session.specs.Past.{edit_of, edits_of}
use Rattle.sk_session.specs.State.{State, TakesBack}
use Rattle.sk_session.proofs.Consistency.{last_split, others_left, last_led, consistent_undone, edits_push}
use Rattle.sk_session.proofs.session.Session.undo.Goals as goal

pub change_back-requires-clause-led : goal.change_back-requires-clause-led
change_back-requires-clause-led c =
    let items = c.self.inside.done in
    let d = c.index-as_slice-last.result in
    let n : ℕ = c.len-last.result - 1 in
    let some : 0 < length (edits_of items) = subst (λ (x : State). 0 < length x.edits) (sym c.self.view_is) c.requires.some in
    let mapped : length (edits_of items) ≡ length items = rw length-map in
    let size : c.len-last.result ≡ length items = search rules in
    let split : items ≡ take n items ++ d ∷ [] = last_split items n d (omega arith) (sym (subst (λ (xs : List Done). d ≡ get_or xs n d) c.as_slice.ensures c.index-as_slice-last.is)) in (
      sketch_of (edits_of (take n items)),
      last_led items c.self.inside.reduced c.self.inside.reduced c.self.inside.next_elem c.self.inside.next_con c.self.inside.count c.self.inside.family c.self.inside.family c.self.invariant
          (subst (λ (x : State). x.count < 1000000) (sym c.self.view_is) c.requires.room) c.self.invariant.family_sound (omega arith) (take n items) d split,
    )

pub invariant_of-self-2 : goal.invariant_of-self-2
invariant_of-self-2 c =
    let items = c.self.inside.done in
    let d = c.index-as_slice-last.result in
    let n : ℕ = c.len-last.result - 1 in
    let some : 0 < length (edits_of items) = subst (λ (x : State). 0 < length x.edits) (sym c.self.view_is) c.requires.some in
    let mapped : length (edits_of items) ≡ length items = rw length-map in
    let size : c.len-last.result ≡ length items = search rules in
    let split : items ≡ take n items ++ d ∷ [] = last_split items n d (omega arith) (sym (subst (λ (xs : List Done). d ≡ get_or xs n d) c.as_slice.ensures c.index-as_slice-last.is)) in
    let room = subst (λ (x : State). x.count < 1000000) (sym c.self.view_is) c.requires.room in
    let led = last_led items c.self.inside.reduced c.self.inside.reduced c.self.inside.next_elem c.self.inside.next_con c.self.inside.count c.self.inside.family c.self.inside.family c.self.invariant
    room c.self.invariant.family_sound (omega arith) (take n items) d split in
    let back = c.in_ok-change_back.ensures.ok (sketch_of (edits_of (take n items))) led in
    let longer : length items ≡ length (take n items) + 1 = ap length split ∙ length-append (take n items) (d ∷ []) in
    let left = c.remove.ensures.rest ∙ others_left (take n items) items n d (omega arith) split in
    rw (left, c.element_before-self-inside.ensures, c.constraint_before-self-inside.ensures)
    (consistent_undone items c.self.inside.reduced c.change_back.new.self c.self.inside.next_elem c.self.inside.next_con c.self.inside.count c.self.inside.family c.change_back.new.family
    c.self.invariant room c.in_ok-change_back.ensures.family_sound c.in_ok-change_back.ensures.count (take n items) d split back.0 back.1)

pub returns-clause-ok : goal.returns-clause-ok
returns-clause-ok c =
    let items = c.self.inside.done in
    let d = c.index-as_slice-last.result in
    let n : ℕ = c.len-last.result - 1 in
    let some : 0 < length (edits_of items) = subst (λ (x : State). 0 < length x.edits) (sym c.self.view_is) c.requires.some in
    let mapped : length (edits_of items) ≡ length items = rw length-map in
    let size : c.len-last.result ≡ length items = search rules in
    let split : items ≡ take n items ++ d ∷ [] = last_split items n d (omega arith) (sym (subst (λ (xs : List Done). d ≡ get_or xs n d) c.as_slice.ensures c.index-as_slice-last.is)) in
    let room = subst (λ (x : State). x.count < 1000000) (sym c.self.view_is) c.requires.room in
    let led = last_led items c.self.inside.reduced c.self.inside.reduced c.self.inside.next_elem c.self.inside.next_con c.self.inside.count c.self.inside.family c.self.inside.family c.self.invariant
    room c.self.invariant.family_sound (omega arith) (take n items) d split in
    let back = c.in_ok-change_back.ensures.ok (sketch_of (edits_of (take n items))) led in
    let made : TakesBack (record { order = c.self.inside.order; closing = c.self.inside.closing; edits = edits_of items; count = c.self.inside.count; family = c.self.inside.family })
    (record { order = c.self.inside.order; closing = c.self.inside.closing; edits = edits_of (take n items); count = c.self.inside.count + 1; family = c.change_back.new.family }) = record {
      last = edit_of d;
      order = refl;
      closing = refl;
      edits = ap edits_of split ∙ edits_push (take n items) d;
      count = refl;
      family = back.1;
    } in
    let longer : length items ≡ length (take n items) + 1 = ap length split ∙ length-append (take n items) (d ∷ []) in
    let left = c.remove.ensures.rest ∙ others_left (take n items) items n d (omega arith) split in
    rw (← c.self.view_is, left) made
