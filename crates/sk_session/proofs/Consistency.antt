-- What a session keeps stays in step with its standing edits.
use Rattle.std.proofs.Common.{◌≡◌, ℕ, zero, suc, ◌+◌, ◌-◌, ◌<◌, ◌≤◌, List, [], ◌∷◌, ◌++◌, length, get_or, take, refl, ap, sym, subst, ◌∙◌, arith, append_assoc}
use Rattle.std.specs.Prelude.{fold, max, remove}
use Rattle.std.proofs.Math.Seq.{get_or-append_seam}
use Rattle.std.proofs.lemmas.List.Edits.{remove-append_right}
use Rattle.std.proofs.lemmas.List.{map-append, append-nil}
use Rattle.std.proofs.lemmas.List.Sums.{fold-append}
use Rattle.sk_base.specs.declared.Sketch.{Sketch}
use Rattle.sk_base.specs.Rising.{union}
use Rattle.sk_base.specs.SoundSketch.{IsSoundSketch}
use Rattle.sk_family.specs.Clusters.{Clusters, IsSound, initial_clusters, bodies}
use Rattle.sk_family.specs.Body.{initial_bodies}
use Rattle.sk_family.proofs.Soundness.{sound_initial}
use Rattle.sk_rules.specs.Reach.{Reach, stays}
use Rattle.sk_rules.proofs.Takable.{reach_on}
use Rattle.sk_graph.specs.SketchGraph.{graph_of}
use Rattle.sk_graph.proofs.Soundness.{graph_is_sound}
use Rattle.sk_edits.specs.declared.Edit.{Edit}
use Rattle.sk_edits.specs.declared.Edit.TheVariants as edit
use Rattle.sk_session.specs.declared.done.Done.{Done}
use Rattle.sk_entry.specs.Growth.{empty_sketch}
use Rattle.sk_entry.proofs.Growing.{empty_sound}
use Rattle.sk_edits.specs.Edits.{applied, sketch_of, element_given, constraint_given, next_element, next_constraint}
use Rattle.sk_session.specs.Past.{edit_of, edits_of, Stood, LeadsTo}
use Rattle.sk_edits.specs.Making.{CanMake}
use Rattle.sk_session.specs.Following.{Follows, FollowsBack, IsReachedIn}
use Rattle.sk_session.specs.Standing.{Gives, element_after, constraint_after, element_before, constraint_before, IsMade, AllMade, IsConsistent}
use Rattle.sk_session.proofs.Following.{follows_edit, follows_undo}

pub consistent_new : (f : Clusters) → f ≡ initial_clusters (graph_of empty_sketch) → IsConsistent [] empty_sketch 1 1 0 f
unfolding union
consistent_new f is =
    subst (λ g. IsConsistent [] empty_sketch 1 1 0 g) (sym is)
    (record {
      made = tt;
      sketch_is = refl;
      elem_is = refl;
      con_is = refl;
      few_elem = omega arith;
      few_con = omega arith;
      few = omega arith;
      sound = empty_sound;
      family_sound = sound_initial (graph_of empty_sketch) (graph_is_sound empty_sketch empty_sound);
      reached = stays;
      room = omega arith;
    })

sketch_push : (es : List Edit) (e : Edit) → sketch_of (es ++ e ∷ []) ≡ applied e (sketch_of es)
sketch_push es e = fold-append (λ s d. applied d s) empty_sketch es (e ∷ [])

pub edits_push : (done : List Done) (d : Done) → edits_of (done ++ d ∷ []) ≡ edits_of done ++ edit_of d ∷ []
edits_push done d = map-append edit_of done (d ∷ [])

element_push : (es : List Edit) (e : Edit) → Gives e es → next_element (es ++ e ∷ []) ≡ element_after e (next_element es)
element_push es e given = ap (λ n. n + 1) (fold-append (λ n d. max n (element_given d)) 0 es (e ∷ [])) ∙ told e given
  where
    told : (e : Edit) → Gives e es → max (fold (λ n d. max n (element_given d)) 0 es) (element_given e) + 1 ≡ element_after e (next_element es)
    told (edit.Element x) given = (let is : x.number.0 ≡ next_element es = given in omega arith)
    told (edit.Constraint c) given = omega arith
    told (edit.Dropped k) given = omega arith
    told (edit.Length k len) given = omega arith
    told (edit.Turned k ratio) given = omega arith
    told (edit.Erased x) given = omega arith

constraint_push : (es : List Edit) (e : Edit) → Gives e es → next_constraint (es ++ e ∷ []) ≡ constraint_after e (next_constraint es)
constraint_push es e given = ap (λ n. n + 1) (fold-append (λ n d. max n (constraint_given d)) 0 es (e ∷ [])) ∙ told e given
  where
    told : (e : Edit) → Gives e es → max (fold (λ n d. max n (constraint_given d)) 0 es) (constraint_given e) + 1 ≡ constraint_after e (next_constraint es)
    told (edit.Element x) given = omega arith
    told (edit.Constraint c) given = (let is : c.number.0 ≡ next_constraint es = given in omega arith)
    told (edit.Dropped k) given = omega arith
    told (edit.Length k len) given = omega arith
    told (edit.Turned k ratio) given = omega arith
    told (edit.Erased x) given = omega arith

made_push : (before : List Edit) (done : List Done) (d : Done) → AllMade before done → IsMade (before ++ edits_of done) d → AllMade before (done ++ d ∷ [])
made_push before [] d all last = (subst (λ es. IsMade es d) (append-nil before) last, tt)
made_push before (x ∷ done) d (first, rest) last =
    (first, made_push (before ++ edit_of x ∷ []) done d rest (subst (λ es. IsMade es d) (sym (append_assoc before (edit_of x ∷ []) (edits_of done))) last))

made_last : (before : List Edit) (done : List Done) (d : Done) → AllMade before (done ++ d ∷ []) → AllMade before done × IsMade (before ++ edits_of done) d
made_last before [] d (last, none) = (tt, subst (λ es. IsMade es d) (sym (append-nil before)) last)
made_last before (x ∷ done) d (first, rest) =
    let more = made_last (before ++ edit_of x ∷ []) done d rest in
    ((first, more.0), subst (λ es. IsMade es d) (append_assoc before (edit_of x ∷ []) (edits_of done)) more.1)

next_same : (e : Edit) (s : Sketch) (old new : Clusters) → Follows e s old new → new.next_step ≡ old.next_step
next_same (edit.Element x) s old new is = ap (λ (f : Clusters). f.next_step) is
next_same (edit.Constraint c) s old new has = has.next_step
next_same (edit.Dropped k) s old new (n, (d, owns)) = d.next_step
next_same (edit.Length k len) s old new is = ap (λ (f : Clusters). f.next_step) is
next_same (edit.Turned k ratio) s old new is = ap (λ (f : Clusters). f.next_step) is
next_same (edit.Erased x) s old new is = ap (λ (f : Clusters). f.next_step) is

next_same_back : (e : Edit) (s : Sketch) (old new : Clusters) → FollowsBack e s old new → new.next_step ≡ old.next_step
next_same_back (edit.Element x) s old new is = ap (λ (f : Clusters). f.next_step) is
next_same_back (edit.Constraint c) s old new (n, (d, owns)) = d.next_step
next_same_back (edit.Dropped k) s old new (c, c_in, is_k, has) = has.next_step
next_same_back (edit.Length k len) s old new is = ap (λ (f : Clusters). f.next_step) is
next_same_back (edit.Turned k ratio) s old new is = ap (λ (f : Clusters). f.next_step) is
next_same_back (edit.Erased x) s old new is = ap (λ (f : Clusters). f.next_step) is

after_at_most : (e : Edit) (n m : ℕ) → n ≤ m → element_after e n ≤ m + 1
after_at_most (edit.Element x) n m le = omega arith
after_at_most (edit.Constraint c) n m le = omega arith
after_at_most (edit.Dropped k) n m le = omega arith
after_at_most (edit.Length k len) n m le = omega arith
after_at_most (edit.Turned k ratio) n m le = omega arith
after_at_most (edit.Erased x) n m le = omega arith

constraint_at_most : (e : Edit) (n m : ℕ) → n ≤ m → constraint_after e n ≤ m + 1
constraint_at_most (edit.Element x) n m le = omega arith
constraint_at_most (edit.Constraint c) n m le = omega arith
constraint_at_most (edit.Dropped k) n m le = omega arith
constraint_at_most (edit.Length k len) n m le = omega arith
constraint_at_most (edit.Turned k ratio) n m le = omega arith
constraint_at_most (edit.Erased x) n m le = omega arith

element_there_and_back : (e : Edit) (n : ℕ) → element_before e (element_after e n) ≡ n
element_there_and_back (edit.Element x) n = omega arith
element_there_and_back (edit.Constraint c) n = refl
element_there_and_back (edit.Dropped k) n = refl
element_there_and_back (edit.Length k len) n = refl
element_there_and_back (edit.Turned k ratio) n = refl
element_there_and_back (edit.Erased x) n = refl

constraint_there_and_back : (e : Edit) (n : ℕ) → constraint_before e (constraint_after e n) ≡ n
constraint_there_and_back (edit.Element x) n = refl
constraint_there_and_back (edit.Constraint c) n = omega arith
constraint_there_and_back (edit.Dropped k) n = refl
constraint_there_and_back (edit.Length k len) n = refl
constraint_there_and_back (edit.Turned k ratio) n = refl
constraint_there_and_back (edit.Erased x) n = refl

before_at_most : (e : Edit) (n m : ℕ) → n ≤ m → element_before e n ≤ m
before_at_most (edit.Element x) n m le = omega arith
before_at_most (edit.Constraint c) n m le = le
before_at_most (edit.Dropped k) n m le = le
before_at_most (edit.Length k len) n m le = le
before_at_most (edit.Turned k ratio) n m le = le
before_at_most (edit.Erased x) n m le = le

constraint_before_at_most : (e : Edit) (n m : ℕ) → n ≤ m → constraint_before e n ≤ m
constraint_before_at_most (edit.Element x) n m le = le
constraint_before_at_most (edit.Constraint c) n m le = omega arith
constraint_before_at_most (edit.Dropped k) n m le = le
constraint_before_at_most (edit.Length k len) n m le = le
constraint_before_at_most (edit.Turned k ratio) n m le = le
constraint_before_at_most (edit.Erased x) n m le = le

module _ (done : List Done) (s t : Sketch) (ne nc count : ℕ) (f g : Clusters) (k : IsConsistent done s ne nc count f) (room : count < 1000000) (g_sound : IsSound g) (fewer : length g.live ≤ length f.live + 3999) where
  -- with one more edit
  pub consistent_made : (d : Done) → CanMake (edit_of d) (sketch_of (edits_of done)) → Gives (edit_of d) (edits_of done) → Stood d s → t ≡ applied (edit_of d) s → Follows (edit_of d) s f g
      → IsConsistent (done ++ d ∷ []) t (element_after (edit_of d) ne) (constraint_after (edit_of d) nc) (count + 1) g
  consistent_made d can given stood is follows =
      let e : Edit = edit_of d in
      let here : CanMake e s = subst (λ x. CanMake e x) (sym k.sketch_is) can in
      let edits = edits_push done d in
      record {
        made = made_push [] done d k.made (record { can = can; given = given; stood = subst (λ x. Stood d x) k.sketch_is stood });
        sketch_is = is ∙ ap (λ x. applied e x) k.sketch_is ∙ sym (sketch_push (edits_of done) e) ∙ ap sketch_of (sym edits);
        elem_is = ap (element_after e) k.elem_is ∙ sym (element_push (edits_of done) e given) ∙ ap next_element (sym edits);
        con_is = ap (constraint_after e) k.con_is ∙ sym (constraint_push (edits_of done) e given) ∙ ap next_constraint (sym edits);
        few_elem = after_at_most e ne (count + 1) k.few_elem;
        few_con = constraint_at_most e nc (count + 1) k.few_con;
        few = omega arith;
        sound = subst (λ x. IsSoundSketch x) (sym is) here.stays_sound;
        family_sound = g_sound;
        reached = subst (λ x. IsReachedIn x g) (sym is) (follows_edit s f g k.family_sound g_sound e here k.reached follows);
        room = (let next = next_same e s f g follows in let was = k.room in omega arith);
      }

  module _ (rest : List Done) (d : Done) (done_is : done ≡ rest ++ d ∷ []) where
    -- the last edit led from the sketch before to this one
    pub last_led : LeadsTo d (sketch_of (edits_of rest)) s
    last_led =
        let all = made_last [] rest d (subst (λ x. AllMade [] x) done_is k.made) in
        record {
          can = all.1.can;
          stood = all.1.stood;
          is = k.sketch_is ∙ ap (λ x. sketch_of (edits_of x)) done_is ∙ ap sketch_of (edits_push rest d) ∙ sketch_push (edits_of rest) (edit_of d);
        }

    -- without it
    pub consistent_undone : t ≡ sketch_of (edits_of rest) → FollowsBack (edit_of d) (sketch_of (edits_of rest)) f g
        → IsConsistent rest t (element_before (edit_of d) ne) (constraint_before (edit_of d) nc) (count + 1) g
    consistent_undone is follows =
        let all = made_last [] rest d (subst (λ x. AllMade [] x) done_is k.made) in
        let led = last_led in
        let edits : edits_of done ≡ edits_of rest ++ edit_of d ∷ [] = ap edits_of done_is ∙ edits_push rest d in
        record {
          made = all.0;
          sketch_is = is;
          elem_is = ap (element_before (edit_of d)) (k.elem_is ∙ ap next_element edits ∙ element_push (edits_of rest) (edit_of d) all.1.given) ∙ element_there_and_back (edit_of d) (next_element (edits_of rest));
          con_is = ap (constraint_before (edit_of d)) (k.con_is ∙ ap next_constraint edits ∙ constraint_push (edits_of rest) (edit_of d) all.1.given) ∙ constraint_there_and_back (edit_of d) (next_constraint (edits_of rest));
          few_elem = (let less = before_at_most (edit_of d) ne (count + 1) k.few_elem in omega arith);
          few_con = (let less = constraint_before_at_most (edit_of d) nc (count + 1) k.few_con in omega arith);
          few = omega arith;
          sound = subst (λ x. IsSoundSketch x) (sym is) led.can.sound;
          family_sound = g_sound;
          reached = subst (λ x. IsReachedIn x g) (sym is)
              (follows_undo (sketch_of (edits_of rest)) f g k.family_sound g_sound (edit_of d) led.can (subst (λ x. IsReachedIn x f) led.is k.reached) follows);
          room = (let next = next_same_back (edit_of d) (sketch_of (edits_of rest)) f g follows in let was = k.room in omega arith);
        }

-- merges of the kept family leave all else
pub consistent_merged : (done : List Done) (s : Sketch) (ne nc count : ℕ) (f g : Clusters) → IsConsistent done s ne nc count f → IsSound g → g.next_step + length g.live ≤ f.next_step + length f.live
    → Reach (graph_of s) (bodies f) (bodies g) → IsConsistent done s ne nc count g
consistent_merged done s ne nc count f g k g_sound fewer reach = record {
  made = k.made;
  sketch_is = k.sketch_is;
  elem_is = k.elem_is;
  con_is = k.con_is;
  few_elem = k.few_elem;
  few_con = k.few_con;
  few = k.few;
  sound = k.sound;
  family_sound = g_sound;
  reached = reach_on (graph_of s) (initial_bodies (graph_of s)) (bodies f) (bodies g) k.reached reach;
  room = (let was = k.room in omega arith);
}

-- a list and its last item
pub last_split : {X : Type 0} (xs : List X) (n : ℕ) (x : X) → n + 1 ≡ length xs → get_or xs n x ≡ x → xs ≡ take n xs ++ x ∷ []
last_split [] n x size is = absurd (omega arith)
last_split (y ∷ []) zero x size is = ap (λ z. z ∷ []) is
last_split (y ∷ z ∷ xs) zero x size is = absurd (omega arith)
last_split (y ∷ xs) (suc n) x size is = ap (λ zs. y ∷ zs) (last_split xs n x (omega arith) is)

-- the last item is the one that was put there
pub last_is : {X : Type 0} (xs ys : List X) (n : ℕ) (d x : X) → n ≡ length xs → ys ≡ xs ++ d ∷ [] → x ≡ get_or ys n x → x ≡ d
last_is {X} xs ys n d x n_is ys_is is =
    is ∙ ap (λ (zs : List X). get_or zs n x) ys_is ∙ ap (λ m. get_or (xs ++ d ∷ []) m x) n_is ∙ get_or-append_seam xs d [] x

-- without it the others are left
pub others_left : {X : Type 0} (xs ys : List X) (n : ℕ) (d : X) → n ≡ length xs → ys ≡ xs ++ d ∷ [] → remove ys n ≡ xs
others_left {X} xs ys n d n_is ys_is =
    let none : n - n ≡ 0 = omega arith in
    ap (λ (zs : List X). remove zs n) ys_is ∙ remove-append_right xs (d ∷ []) n n (sym n_is) (omega arith)
    ∙ ap (λ k. xs ++ remove (d ∷ []) k) none ∙ append-nil xs
