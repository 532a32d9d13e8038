-- Boxes that are found by their elements' numbers.
use Rattle.std.proofs.Common.{◌≡◌, inl, inr, ℕ, zero, suc, ◌<◌, ◌≤◌, List, [], ◌∷◌, length, get_or, refl, ap, sym, subst, ◌∙◌, arith, ◌-◌, drop, drop-cons}
use Rattle.std.specs.Prelude.{Contains, find, insert, ◌==◌}
use Rattle.std.proofs.lemmas.Bool.{cases_lt}
use Rattle.std.proofs.lemmas.List.{get_or_default, drop_all}
use Rattle.sk_base.specs.declared.Elem.{Elem}
use Rattle.sk_base.specs.Rising.{IsRising, put, union}
use Rattle.sk_base.proofs.Members.{mapped_from}
use Rattle.sk_base.proofs.Unions.{put_first, put_same, put_later, rising_put}
use Rattle.sk_base.proofs.Finding.{found_rising}
use Rattle.sk_place.specs.declared.boxes.BoxAt.{BoxAt}
use Rattle.sk_place.specs.Clusters.{Rise, Holds, IsPlaceOf, IsAt, number_of, box_of, found_box, with_box, with_boxes}

-- in a rising list, the item of a number stands behind those of lesser numbers
pub found_there : {X : Type 0} (number : X → ℕ) (xs : List X) (n place : ℕ) → IsRising number xs
    → ((k : ℕ) (d : X) → k < place → number (get_or xs k d) < n) → ((k : ℕ) (d : X) → place ≤ k → k < length xs → n ≤ number (get_or xs k d))
    → (x : X) → Contains xs x → number x ≡ n → (place < length xs) × ((d : X) → get_or xs place d ≡ x)
found_there number xs n place rises before behind x (k, k_len, is) number_is =
    let level : number (get_or xs k x) ≡ n = ap number is ∙ number_is in
    let not_before : place ≤ k = elim (cases_lt k place) [ inl less ↦ absurd (omega (arith, before k x less)) | inr h ↦ h ] in
    let not_behind : k ≤ place = elim (cases_lt place k) [
      | inl less ↦ absurd (omega (arith, behind place x (omega arith) (omega arith), rises place k x less k_len))
      | inr h ↦ h
    ] in
    let same : k ≡ place = omega arith in
    (omega arith, λ d. ap (λ (i : ℕ). get_or xs i d) (sym same) ∙ get_or_default xs k d x k_len ∙ is)

module _ {G : Type 0} where
  -- a held element has a box
  pub record IsBoxOf (bs : List (BoxAt G)) (e : Elem) (b : BoxAt G) : Type 0 where
    pub there : Contains bs b
    pub is : b.elem ≡ e

  pub held_box : (bs : List (BoxAt G)) (e : Elem) → Holds bs e → (b : BoxAt G) × IsBoxOf bs e b
  held_box bs e h = (let from = mapped_from (λ (b : BoxAt G). b.elem) bs e h in (from.0, record { there = from.1; is = from.2 }))

  -- and it is the one that is found
  pub box_is : (bs : List (BoxAt G)) (e : Elem) (b : BoxAt G) → Rise bs → IsBoxOf bs e b → box_of bs e ≡ b.at
  box_is bs e b rises h =
      subst (λ (x : Elem). found_box (find (λ (y : BoxAt G). y.elem.0 == x.0) bs) ≡ b.at) h.is
      (ap found_box (found_rising number_of bs rises b h.there))

  -- at the place of a held element is its box
  pub at_place : (bs : List (BoxAt G)) (e : Elem) (place : ℕ) → Rise bs → IsPlaceOf bs e place → Holds bs e
      → (place < length bs) × ((d : BoxAt G) → box_of bs e ≡ (get_or bs place d).at)
  at_place bs e place rises is h =
      let found = held_box bs e h in
      let there = found_there number_of bs e.0 place rises is.before is.behind found.0 found.1.there (ap (λ (x : Elem). x.0) found.1.is) in
      (there.0, λ d. box_is bs e found.0 rises found.1 ∙ ap (λ (x : BoxAt G). x.at) (sym (there.1 d)))

  -- ---- one box more

  place_later : (y : BoxAt G) (ys : List (BoxAt G)) (e : Elem) (i : ℕ) → IsPlaceOf (y ∷ ys) e (suc i) → IsPlaceOf ys e i
  place_later y ys e i is = record {
    within = (let within = is.within in omega arith);
    before = λ k d below. is.before (suc k) d (omega arith);
    behind = λ k d from below. is.behind (suc k) d (omega arith) (omega arith);
  }

  put_none : (b : BoxAt G) → with_box b [] ≡ b ∷ []
  unfolding put
  put_none b = refl

  pub put_at : (bs : List (BoxAt G)) (b : BoxAt G) (place : ℕ) → IsPlaceOf bs b.elem place → ¬ IsAt bs place b.elem → with_box b bs ≡ insert bs place b
  put_at [] b zero is other = put_none b
  put_at [] b (suc i) is other = (let within = is.within in absurd (omega arith))
  put_at (y ∷ ys) b zero is other =
      let from : b.elem.0 ≤ number_of y = is.behind 0 y (omega arith) (omega arith) in
      put_first number_of b y ys (elim (cases_lt b.elem.0 (number_of y)) [
        | inl below ↦ below
        | inr above ↦ (let level : number_of y ≡ b.elem.0 = omega arith in absurd (other (omega arith, λ d. level)))
      ])
  put_at (y ∷ ys) b (suc i) is other =
      put_later number_of b y ys (is.before 0 y (omega arith))
      ∙ ap (λ (rest : List (BoxAt G)). y ∷ rest)
      (put_at ys b i (place_later y ys b.elem i is) (λ at. other (let inside = at.0 in (omega arith, at.1))))

  pub put_nowhere : (bs : List (BoxAt G)) (b : BoxAt G) (place : ℕ) → IsPlaceOf bs b.elem place → IsAt bs place b.elem → with_box b bs ≡ bs
  put_nowhere [] b place is at = (let inside = at.0 in absurd (omega arith))
  put_nowhere (y ∷ ys) b zero is at = put_same number_of b y ys (sym (at.1 y))
  put_nowhere (y ∷ ys) b (suc i) is at =
      put_later number_of b y ys (is.before 0 y (omega arith))
      ∙ ap (λ (rest : List (BoxAt G)). y ∷ rest)
      (put_nowhere ys b i (place_later y ys b.elem i is) (let inside = at.0 in (omega arith, at.1)))

  -- ---- and some more

  pub with_none : (bs : List (BoxAt G)) → with_boxes [] bs ≡ bs
  unfolding union
  with_none bs = refl

  with_first : (b : BoxAt G) (more bs : List (BoxAt G)) → with_boxes (b ∷ more) bs ≡ with_box b (with_boxes more bs)
  unfolding union
  with_first b more bs = refl

  pub with_end : (more bs : List (BoxAt G)) → with_boxes (drop (length more) more) bs ≡ bs
  with_end more bs = ap (λ (xs : List (BoxAt G)). with_boxes xs bs) (drop_all (length more) more (omega arith)) ∙ with_none bs

  pub with_earlier : (more bs : List (BoxAt G)) (i : ℕ) (b : BoxAt G) → 0 < i → i ≤ length more → b ≡ get_or more (i - 1) b
      → with_boxes (drop (i - 1) more) bs ≡ with_box b (with_boxes (drop i more) bs)
  with_earlier more bs i b above within is =
      let one_less : suc (i - 1) ≡ i = omega arith in
      ap (λ (xs : List (BoxAt G)). with_boxes xs bs) (drop-cons more (i - 1) b (omega arith))
      ∙ with_first (get_or more (i - 1) b) (drop (suc (i - 1)) more) bs
      ∙ ap (λ (x : BoxAt G). with_box x (with_boxes (drop (suc (i - 1)) more) bs)) (sym is)
      ∙ ap (λ (j : ℕ). with_box b (with_boxes (drop j more) bs)) one_less

  pub rises_with : (b : BoxAt G) (bs : List (BoxAt G)) → Rise bs → Rise (with_box b bs)
  rises_with b bs rises = rising_put number_of b bs rises
