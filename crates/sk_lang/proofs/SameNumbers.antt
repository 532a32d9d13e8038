-- A sketch whose numbers count on from 1 is its own renumbering.
use Rattle.std.proofs.Common.{◌≡◌, ℕ, ◌+◌, ◌<◌, Bool, true, false, not, cond, nat_eq, List, [], ◌∷◌, ◌++◌, length, map, Option, Some, None, refl, sym, ap, ◌∙◌, arith}
use Rattle.std.specs.Prelude.{⊤, All, Contains}
use Rattle.std.specs.List.{find, position_or_len}
use Rattle.std.specs.Option.{option_map}
use Rattle.std.proofs.lemmas.Bool.Decides.{nat_tests}
use Rattle.std.proofs.lemmas.List.Elements.{All-nil, All-cons, All-contains, All-weaker}
use Rattle.sk_base.specs.declared.Elem.{Elem}
use Rattle.sk_base.specs.declared.Element.{Element}
use Rattle.sk_base.specs.declared.Constraint.{Constraint}
use Rattle.sk_base.specs.declared.Pin.{Pin}
use Rattle.sk_base.specs.declared.Rule.{Rule}
use Rattle.sk_base.specs.declared.Rule.TheVariants.{Distance, On, Tangent, Outside, Inside, Angle, Block}
use Rattle.sk_base.specs.declared.Shape.{Shape}
use Rattle.sk_base.specs.declared.Sketch.{Sketch}
use Rattle.sk_base.specs.Drawn.{element_of, shape_of}
use Rattle.sk_base.specs.SoundSketch.{IsSoundSketch, IsSoundRule, BothFit, MayJoin, MayBeApart, MayLieOn, MayBeTangent, AreCircles, AreLines, MayNest, IsCentred}
use Rattle.sk_base.proofs.Members.{contains_head, contains_later}
use Rattle.sk_lang.specs.Renumbered.{elements_from, place_of, pin_renumbered, rule_renumbered, constraints_from, renumbered}

-- the numbers along the list count on from n
abbrev pub CountOn : {X : Type 0} → (X → ℕ) → ℕ → List X → Type 0
CountOn number n [] = ⊤
CountOn number n (x ∷ xs) = (number x ≡ n) × CountOn number (n + 1) xs

module _ {X : Type 0} (number : X → ℕ) where
  pub count_push : (n : ℕ) (xs : List X) (x : X) → CountOn number n xs → number x ≡ n + length xs → CountOn number n (xs ++ x ∷ [])
  count_push n [] x all is = (omega (arith, is), tt)
  count_push n (y ∷ xs) x all is = (all.0, count_push (n + 1) xs x all.1 (omega (arith, is)))

  pub count_below : (n : ℕ) (xs : List X) → CountOn number n xs → All (λ (x : X). number x < n + length xs) xs
  count_below n [] all = All-nil (λ (x : X). number x < n + 0)
  count_below n (y ∷ xs) all =
      let rest = All-weaker (λ (x : X). number x < n + 1 + length xs) (λ (x : X). number x < n + length (y ∷ xs)) (λ x below. omega (arith, below)) xs (count_below (n + 1) xs all.1) in
      let first = all.0 in
      All-cons (λ (x : X). number x < n + length (y ∷ xs)) y xs (omega (arith, first)) rest

elements_same : (n : ℕ) (es : List Element) → CountOn (λ (x : Element). x.number.0) n es → elements_from n es ≡ es
elements_same n [] all = refl
elements_same n (e ∷ es) all =
    let again : ℕ → Element = λ m. record e { number = record { 0 = m } } in
    ap (λ (m : ℕ). again m ∷ elements_from (n + 1) es) (sym all.0) ∙ ap (λ (xs : List Element). e ∷ xs) (elements_same (n + 1) es all.1)

-- an element that is found by its number stands at that place
found_place : (u : Elem) (n : ℕ) (es : List Element) (e : Element) → CountOn (λ (x : Element). x.number.0) n es → find (λ (x : Element). nat_eq x.number.0 u.0) es ≡ Some e
    → n + position_or_len (λ (x : Element). nat_eq x.number.0 u.0) es ≡ u.0
found_place u n [] e all is = cc
found_place u n (x ∷ es) e all is = by (nat_eq x.number.0 u.0) refl is (λ later. found_place u (n + 1) es e all.1 later)
  where
    by : (t : Bool) → nat_eq x.number.0 u.0 ≡ t → cond t (Some x) (find (λ (y : Element). nat_eq y.number.0 u.0) es) ≡ Some e
        → (find (λ (y : Element). nat_eq y.number.0 u.0) es ≡ Some e → n + 1 + position_or_len (λ (y : Element). nat_eq y.number.0 u.0) es ≡ u.0)
        → n + cond (not t) (1 + position_or_len (λ (y : Element). nat_eq y.number.0 u.0) es) 0 ≡ u.0
    by true same found later = let first = all.0 in grind (arith, nat_tests)
    by false other found later = let rest = later found in omega (arith, rest)

module _ (s : Sketch) (counted : CountOn (λ (x : Element). x.number.0) 1 s.elements) where
  place_same : (u : Elem) (e : Element) → element_of s u ≡ Some e → place_of s u ≡ u
  place_same u e is = let elem : ℕ → Elem = λ n. record { 0 = n } in ap elem (found_place u 1 s.elements e counted is)

  -- two elements that a rule joins
  pair_same : (fits : Shape → Shape → Type 0) (make : Elem → Elem → Rule) (u v : Elem) (e f : Option Element) → element_of s u ≡ e → element_of s v ≡ f
      → BothFit fits (option_map (λ (x : Element). x.shape) e) (option_map (λ (x : Element). x.shape) f) → make (place_of s u) (place_of s v) ≡ make u v
  pair_same fits make u v None f u_is v_is fit = absurd fit
  pair_same fits make u v (Some e) None u_is v_is fit = absurd fit
  pair_same fits make u v (Some e) (Some f) u_is v_is fit = ap (λ (a : Elem). make a (place_of s v)) (place_same u e u_is) ∙ ap (λ (b : Elem). make u b) (place_same v f v_is)

  joined_same : (fits : Shape → Shape → Type 0) (make : Elem → Elem → Rule) (u v : Elem) → MayJoin s fits u v → make (place_of s u) (place_of s v) ≡ make u v
  joined_same fits make u v may = pair_same fits make u v (element_of s u) (element_of s v) refl refl may.1

  pin_same : (pin : Pin) (e : Option Element) → element_of s pin.elem ≡ e → IsCentred (option_map (λ (x : Element). x.shape) e) → pin_renumbered s pin ≡ pin
  pin_same pin None is centred = absurd centred
  pin_same pin (Some e) is centred = let with_elem : Elem → Pin = λ u. record pin { elem = u } in ap with_elem (place_same pin.elem e is)

  pins_same : (pins : List Pin) → ((pin : Pin) → Contains pins pin → IsCentred (shape_of s pin.elem)) → map (pin_renumbered s) pins ≡ pins
  pins_same [] centred = refl
  pins_same (pin ∷ pins) centred =
      ap (λ (p : Pin). p ∷ map (pin_renumbered s) pins) (pin_same pin (element_of s pin.elem) refl (centred pin (contains_head pin pins)))
      ∙ ap (λ (ps : List Pin). pin ∷ ps) (pins_same pins (λ p there. centred p (contains_later pin pins p there)))

  rule_same : (rule : Rule) → IsSoundRule s rule → rule_renumbered s rule ≡ rule
  rule_same (Distance u v len) sound = joined_same MayBeApart (λ a b. Distance a b len) u v sound.0
  rule_same (On u v) sound = joined_same MayLieOn (λ a b. On a b) u v sound
  rule_same (Tangent u v) sound = joined_same MayBeTangent (λ a b. Tangent a b) u v sound
  rule_same (Outside u v) sound = joined_same AreCircles (λ a b. Outside a b) u v sound
  rule_same (Inside u v) sound = joined_same MayNest (λ a b. Inside a b) u v sound
  rule_same (Angle l m ratio) sound = joined_same AreLines (λ a b. Angle a b ratio) l m sound.0
  rule_same (Block pins) sound = ap (λ (ps : List Pin). Block ps) (pins_same pins (λ pin there. All-contains (λ (p : Pin). IsCentred (shape_of s p.elem)) pins pin sound.centred there))

  constraints_same : (n : ℕ) (cs : List Constraint) → CountOn (λ (x : Constraint). x.number.0) n cs → ((c : Constraint) → Contains cs c → IsSoundRule s c.rule) → constraints_from s n cs ≡ cs
  constraints_same n [] all sound = refl
  constraints_same n (c ∷ cs) all sound =
      let again : ℕ → Rule → Constraint = λ m rule. record { number = record { 0 = m }; rule = rule } in
      ap (λ (m : ℕ). again m (rule_renumbered s c.rule) ∷ constraints_from s (n + 1) cs) (sym all.0)
      ∙ ap (λ (rule : Rule). again c.number.0 rule ∷ constraints_from s (n + 1) cs) (rule_same c.rule (sound c (contains_head c cs)))
      ∙ ap (λ (xs : List Constraint). c ∷ xs) (constraints_same (n + 1) cs all.1 (λ d there. sound d (contains_later c cs d there)))

pub renumbered_same : (s : Sketch) → IsSoundSketch s → CountOn (λ (x : Element). x.number.0) 1 s.elements → CountOn (λ (x : Constraint). x.number.0) 1 s.constraints → renumbered s ≡ s
renumbered_same s sound elements constraints =
    let make : List Element → List Constraint → Sketch = λ es cs. record { elements = es; constraints = cs } in
    ap (λ (es : List Element). make es (constraints_from s 1 s.constraints)) (elements_same 1 s.elements elements)
    ∙ ap (λ (cs : List Constraint). make s.elements cs) (constraints_same s elements 1 s.constraints constraints (λ c there. All-contains (λ (x : Constraint). IsSoundRule s x.rule) s.constraints c sound.rules_sound there))
