-- Steps on a finer grid.
use Rattle.std.proofs.Common.{◌≡◌, inl, inr, ℕ, ℤ, ◌+◌, true, false, List, [], ◌∷◌, Result, Ok, Err, refl, ap, sym, subst, ◌∙◌}
use Rattle.std.proofs.lemmas.Bool.{cases_Bool}
use Rattle.sk_base.specs.declared.Elem.{Elem}
use Rattle.sk_base.specs.declared.Name.{Name}
use Rattle.sk_base.specs.ClusterNames.{name_eq}
use Rattle.sk_interval.specs.declared.Cause.{Cause}
use Rattle.sk_interval.specs.declared.Cause.TheVariants.{Flat, Gap, Range}
use Rattle.sk_steps.specs.declared.What.{What}
use Rattle.sk_steps.specs.Boxes.{kind_of}
use Rattle.sk_steps.specs.Nesting.{Keeps, IsBoxInside, IsGivenInside}
use Rattle.sk_steps.proofs.NestingLemmas.{third_element-Keeps}
use Rattle.sk_steps.specs.declared.Motion.{Motion}
use Rattle.sk_steps.specs.declared.Pair.{Pair}
use Rattle.sk_steps.specs.Motions.{motion}
use Rattle.sk_steps.specs.Carried.{carried}
use Rattle.sk_steps.specs.MotionNesting.{IsPairInside, IsMotionInside}
use Rattle.sk_steps.proofs.MotionLemmas.{motion-Keeps, carried-Keeps}
use Rattle.sk_tree.specs.declared.PlanStep.{PlanStep}
use Rattle.sk_place.specs.declared.boxes.BoxAt.{BoxAt}
use Rattle.sk_place.specs.declared.settling.PlaceBy.TheVariants.{Boxes}
use Rattle.sk_place.specs.declared.fault.Phase.{Phase}
use Rattle.sk_place.specs.declared.fault.Phase.TheVariants.{Build, First, Second}
use Rattle.sk_place.specs.declared.fault.StepFault.{StepFault}
use Rattle.sk_place.specs.declared.fault.BoxFault.{BoxFault}
use Rattle.sk_place.specs.declared.setting.Setting.{Setting}
use Rattle.sk_place.specs.Clusters.{box_of, with_box, with_boxes, besides, comes_first}
use Rattle.sk_place.specs.Carrying.{faulty, box_faulty, in_step, and_then, carried_each, pair_in, moved, carried_child}
use Rattle.sk_place.specs.Steps.{ordered, root, given, joined_in, joined}
use Rattle.sk_place.specs.Nesting.{AreInside, with_gap}
use Rattle.sk_place.proofs.InsideLists.{box_inside, put_inside, union_inside, besides_inside, kind_inside, first_inside}

-- ---- boxes that are carried

-- a gap stays a gap of the same fault
abbrev pub KeepsBoxGap : {X : Type 0} → Result X BoxFault → BoxFault → Cause → Type 0
KeepsBoxGap fine f (Gap lo hi) = (l : ℤ) × (h : ℤ) × (fine ≡ Err (record { what = f.what; elem = f.elem; cause = Gap l h }))
KeepsBoxGap fine f (Flat lo hi) = Unit {0}
KeepsBoxGap fine f Range = Unit {0}

-- a result holds one inside it, in the sense of P, and a gap stays one
abbrev pub KeepsBox : {X Y : Type 0} → (X → Y → Type 0) → Result X BoxFault → Result Y BoxFault → Type 0
KeepsBox {X} P fine (Ok coarse) = (x : X) × (fine ≡ Ok x) × P x coarse
KeepsBox P fine (Err f) = KeepsBoxGap fine f f.cause

gap_then : {X Y : Type 0} (r : Result X BoxFault) (g : X → Result Y BoxFault) (f : BoxFault) (c : Cause) → KeepsBoxGap r f c → KeepsBoxGap (and_then r g) f c
gap_then r g f (Gap lo hi) h = (h.0, h.1, ap (λ s. and_then s g) h.2)
gap_then r g f (Flat lo hi) h = tt
gap_then r g f Range h = tt

then_box : {X Y Z W : Type 0} (P : X → Y → Type 0) (Q : Z → W → Type 0) (fine : Result X BoxFault) (coarse : Result Y BoxFault) (f : X → Result Z BoxFault) (g : Y → Result W BoxFault)
    → KeepsBox P fine coarse → ((x : X) (y : Y) → P x y → KeepsBox Q (f x) (g y)) → KeepsBox Q (and_then fine f) (and_then coarse g)
then_box P Q fine (Ok y) f g h step = rw h.1 (step h.0 y h.2)
then_box P Q fine (Err e) f g h step = gap_then fine f e e.cause h

faulty_box : {X Y : Type 0} (P : X → Y → Type 0) (elem : Elem) (fine : Result X (What × Cause)) (coarse : Result Y (What × Cause))
    → Keeps P fine coarse → KeepsBox P (box_faulty elem fine) (box_faulty elem coarse)
faulty_box P elem fine (Ok y) h = (h.0, ap (box_faulty elem) h.1, h.2)
faulty_box P elem fine (Err (what, Gap lo hi)) h = (h.0, h.1, ap (box_faulty elem) h.2)
faulty_box P elem fine (Err (what, Flat lo hi)) h = tt
faulty_box P elem fine (Err (what, Range)) h = tt

-- ---- steps

-- a gap stays a gap of the same fault
abbrev pub KeepsCause : {X : Type 0} → Result X StepFault → StepFault → Cause → Type 0
KeepsCause fine f (Gap lo hi) = (l : ℤ) × (h : ℤ) × (fine ≡ Err (with_gap f l h))
KeepsCause fine f (Flat lo hi) = Unit {0}
KeepsCause fine f Range = Unit {0}

-- a result holds one inside it, in the sense of P, and a gap stays one
abbrev pub KeepsStep : {X Y : Type 0} → (X → Y → Type 0) → Result X StepFault → Result Y StepFault → Type 0
KeepsStep {X} P fine (Ok coarse) = (x : X) × (fine ≡ Ok x) × P x coarse
KeepsStep P fine (Err f) = KeepsCause fine f f.cause

cause_then : {X Y : Type 0} (r : Result X StepFault) (g : X → Result Y StepFault) (f : StepFault) (c : Cause) → KeepsCause r f c → KeepsCause (and_then r g) f c
cause_then r g f (Gap lo hi) h = (h.0, h.1, ap (λ s. and_then s g) h.2)
cause_then r g f (Flat lo hi) h = tt
cause_then r g f Range h = tt

pub then_step : {X Y Z W : Type 0} (P : X → Y → Type 0) (Q : Z → W → Type 0) (fine : Result X StepFault) (coarse : Result Y StepFault) (f : X → Result Z StepFault) (g : Y → Result W StepFault)
    → KeepsStep P fine coarse → ((x : X) (y : Y) → P x y → KeepsStep Q (f x) (g y)) → KeepsStep Q (and_then fine f) (and_then coarse g)
then_step P Q fine (Ok y) f g h step = rw h.1 (step h.0 y h.2)
then_step P Q fine (Err e) f g h step = cause_then fine f e e.cause h

pub faulty_step : {X Y : Type 0} (P : X → Y → Type 0) (step : Name) (phase : Phase) (elem : Elem) (fine : Result X (What × Cause)) (coarse : Result Y (What × Cause))
    → Keeps P fine coarse → KeepsStep P (faulty step phase elem fine) (faulty step phase elem coarse)
faulty_step P step phase elem fine (Ok y) h = (h.0, ap (faulty step phase elem) h.1, h.2)
faulty_step P step phase elem fine (Err (what, Gap lo hi)) h = (h.0, h.1, ap (faulty step phase elem) h.2)
faulty_step P step phase elem fine (Err (what, Flat lo hi)) h = tt
faulty_step P step phase elem fine (Err (what, Range)) h = tt

-- the fault of a box, as that of a step
told_step : {X Y : Type 0} (P : X → Y → Type 0) (step : Name) (phase : Phase) (fine : Result X BoxFault) (coarse : Result Y BoxFault)
    → KeepsBox P fine coarse → KeepsStep P (in_step step phase fine) (in_step step phase coarse)
told_step P step phase fine (Ok y) h = (h.0, ap (in_step step phase) h.1, h.2)
told_step P step phase fine (Err f) h = told_gap f.cause h
  where
    told_gap : (c : Cause) → KeepsBoxGap fine f c → KeepsCause (in_step step phase fine) (record { step = step; phase = phase; what = f.what; elem = f.elem; cause = f.cause }) c
    told_gap (Gap lo hi) h = (h.0, h.1, ap (in_step step phase) h.2)
    told_gap (Flat lo hi) h = tt
    told_gap Range h = tt

module _ (G H : Type 0) (F k : ℕ) where
  pub each_box : (m : Motion G) (n : Motion H) → IsMotionInside k m n → (xs : List (BoxAt G)) (ys : List (BoxAt H)) → AreInside k xs ys
      → KeepsBox (AreInside {G = G} {H = H} k) (carried_each Boxes (F + k) m xs) (carried_each Boxes F n ys)
  each_box m n by [] [] h = ([], refl, tt)
  each_box m n by [] (y ∷ ys) h = absurd h
  each_box m n by (x ∷ xs) [] h = absurd h
  each_box m n by (x ∷ xs) (y ∷ ys) h =
      then_box (IsBoxInside {G = G} {H = H} k) (AreInside {G = G} {H = H} k) _ _ _ _
      (subst (λ (e : Elem). KeepsBox (IsBoxInside {G = G} {H = H} k) (box_faulty e (carried (F + k) m x.at)) (box_faulty y.elem (carried F n y.at))) (sym h.0) (faulty_box (IsBoxInside {G = G} {H = H} k) y.elem (carried (F + k) m x.at) (carried F n y.at) (carried-Keeps G H F k m n x.at y.at by h.1)))
      (λ a b at. then_box (AreInside {G = G} {H = H} k) (AreInside {G = G} {H = H} k) _ _ _ _ (each_box m n by xs ys h.2)
      (λ rs ss rest. (record { elem = x.elem; at = a } ∷ rs, refl, (h.0, at, rest))))

  moved_step : (step : Name) (phase : Phase) (p : Elem) (old new : Pair G) (old' new' : Pair H) → IsPairInside k old old' → IsPairInside k new new'
      → (xs : List (BoxAt G)) (ys : List (BoxAt H)) → AreInside k xs ys
      → KeepsStep (AreInside {G = G} {H = H} k) (moved Boxes (F + k) step phase p old new xs) (moved Boxes F step phase p old' new' ys)
  moved_step step phase p old new old' new' a b [] [] h = ([], refl, tt)
  moved_step step phase p old new old' new' a b [] (y ∷ ys) h = absurd h
  moved_step step phase p old new old' new' a b (x ∷ xs) [] h = absurd h
  moved_step step phase p old new old' new' a b (x ∷ xs) (y ∷ ys) h =
      then_step (IsMotionInside {G = G} {H = H} k) (AreInside {G = G} {H = H} k) _ _ _ _
      (faulty_step (IsMotionInside {G = G} {H = H} k) step phase p (motion (F + k) old new) (motion F old' new') (motion-Keeps G H F k old new old' new' a b))
      (λ m n by. told_step (AreInside {G = G} {H = H} k) step phase _ _ (each_box m n by (x ∷ xs) (y ∷ ys) h))

  pair_inside : (xs : List (BoxAt G)) (ys : List (BoxAt H)) (p q : Elem) → AreInside k xs ys → IsPairInside k (pair_in xs p q) (pair_in ys p q)
  pair_inside xs ys p q h = record { p = box_inside k xs ys p h; q = box_inside k xs ys q h }

  pub child_step : (step : Name) (phase : Phase) (p q : Elem) (child now : List (BoxAt G)) (child' now' : List (BoxAt H)) → AreInside k child child' → AreInside k now now'
      → KeepsStep (AreInside {G = G} {H = H} k) (carried_child Boxes (F + k) step phase p q child now) (carried_child Boxes F step phase p q child' now')
  child_step step phase p q child now child' now' a b = elim (cases_Bool (comes_first child' p q)) [
    | inl is ↦ (let also : comes_first child p q ≡ true = first_inside k child child' p q a ∙ is in
        rw (is, also) (moved_step step phase p (pair_in child p q) (pair_in now p q) (pair_in child' p q) (pair_in now' p q) (pair_inside child child' p q a) (pair_inside now now' p q b)
        (besides p q child) (besides p q child') (besides_inside k p q child child' a)))
    | inr isnt ↦ (let also : comes_first child p q ≡ false = first_inside k child child' p q a ∙ isnt in
        rw (isnt, also) (moved_step step phase q (pair_in child q p) (pair_in now q p) (pair_in child' q p) (pair_in now' q p) (pair_inside child child' q p a) (pair_inside now now' q p b)
        (besides p q child) (besides p q child') (besides_inside k p q child child' a)))
  ]

  -- ---- one setting on two grids

  module _ (s : PlanStep) (K X Y : List (BoxAt G)) (K' X' Y' : List (BoxAt H)) (a : AreInside k K K') (b : AreInside k X X') (c : AreInside k Y Y') (u v w : Elem) where
    given_inside : IsGivenInside k (given {G = G} s.choice (record { kept = K; first = X; second = Y; u = u; v = v; w = w }))
        (given {G = H} s.choice (record { kept = K'; first = X'; second = Y'; u = u; v = v; w = w }))
    given_inside = record {
      u = box_inside k K K' u a;
      v = box_inside k K K' v a;
      ux = box_inside k X X' u b;
      wx = box_inside k X X' w b;
      vy = box_inside k Y Y' v c;
      wy = box_inside k Y Y' w c;
      root = ap (λ m. root s.choice m (kind_of (box_of K v)) (kind_of (box_of X w)) u v w) (kind_inside k K K' u a)
          ∙ ap (λ m. root s.choice (kind_of (box_of K' u)) m (kind_of (box_of X w)) u v w) (kind_inside k K K' v a)
          ∙ ap (λ m. root s.choice (kind_of (box_of K' u)) (kind_of (box_of K' v)) m u v w) (kind_inside k X X' w b);
    }

    pub joined_in_step : KeepsStep (AreInside {G = G} {H = H} k) (joined_in {G = G} Boxes (F + k) s (record { kept = K; first = X; second = Y; u = u; v = v; w = w }))
        (joined_in {G = H} Boxes F s (record { kept = K'; first = X'; second = Y'; u = u; v = v; w = w }))
    joined_in_step =
        then_step (IsBoxInside {G = G} {H = H} k) (AreInside {G = G} {H = H} k) _ _ _ _
        (faulty_step (IsBoxInside {G = G} {H = H} k) s.step Build w _ _ (third_element-Keeps G H F k _ _ given_inside))
        (λ x y at.
        let now : List (BoxAt G) = with_box (record { elem = w; at = x }) K in
        let now' : List (BoxAt H) = with_box (record { elem = w; at = y }) K' in
        let there : AreInside k now now' = put_inside k (record { elem = w; at = x }) (record { elem = w; at = y }) K K' refl at a in
        then_step (AreInside {G = G} {H = H} k) (AreInside {G = G} {H = H} k) _ _ _ _ (child_step s.step First u w X now X' now' b there)
        (λ xs ys p. then_step (AreInside {G = G} {H = H} k) (AreInside {G = G} {H = H} k) _ _ _ _ (child_step s.step Second v w Y now Y' now' c there)
        (λ zs ws q. (with_boxes zs (with_boxes xs now), refl, union_inside k zs ws (with_boxes xs now) (with_boxes ys now') q (union_inside k xs ys now now' p there)))))

-- ---- any setting

module _ (G H : Type 0) (F k : ℕ) (s : PlanStep) where
  ordered_step : (K X Y : List (BoxAt G)) (K' X' Y' : List (BoxAt H)) (u v w : Elem) → AreInside k K K' → AreInside k X X' → AreInside k Y Y'
      → (let t : Setting G = record { kept = K; first = X; second = Y; u = u; v = v; w = w } in
      let t' : Setting H = record { kept = K'; first = X'; second = Y'; u = u; v = v; w = w } in
      KeepsStep (AreInside {G = G} {H = H} k) (joined_in {G = G} Boxes (F + k) s (ordered t)) (joined_in {G = H} Boxes F s (ordered t')))
  ordered_step K X Y K' X' Y' u v w a b c = elim (cases_Bool (comes_first K' u v)) [
    | inl is ↦ (let also : comes_first K u v ≡ true = first_inside k K K' u v a ∙ is in rw (is, also) (joined_in_step G H F k s K X Y K' X' Y' a b c u v w))
    | inr isnt ↦ (let also : comes_first K u v ≡ false = first_inside k K K' u v a ∙ isnt in rw (isnt, also) (joined_in_step G H F k s K Y X K' Y' X' a c b v u w))
  ]

  pub joined_step : (x y z : List (BoxAt G)) (x' y' z' : List (BoxAt H)) → AreInside k x x' → AreInside k y y' → AreInside k z z'
      → KeepsStep (AreInside {G = G} {H = H} k) (joined Boxes (F + k) s x y z) (joined Boxes F s x' y' z')
  joined_step x y z x' y' z' a b c = elim (cases_Bool (name_eq s.keeps s.one)) [
    | inl one ↦ rw one (ordered_step x y z x' y' z' s.a s.c s.b a b c)
    | inr not_one ↦ elim (cases_Bool (name_eq s.keeps s.two)) [
      | inl two ↦ rw (not_one, two) (ordered_step y x z y' x' z' s.a s.b s.c b a c)
      | inr not_two ↦ rw (not_one, not_two) (ordered_step z x y z' x' y' s.c s.b s.a c a b)
    ]
  ]
