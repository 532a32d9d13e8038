-- What is drawn between two elements, in either order, and where no length says it.
use Rattle.std.proofs.Common.{◌≡◌, ◌⊎◌, inl, inr, ℕ, ◌<◌, ◌≤◌, Bool, subst, arith}
use Rattle.std.specs.Prelude.{Option, None, Some, IfSome, IfNone, unsigned_abs}
use Rattle.std.proofs.lemmas.Int.{ints}
use Rattle.sk_base.specs.declared.Elem.{Elem}
use Rattle.sk_base.specs.declared.Um.{Um}
use Rattle.sk_base.specs.declared.Rule.{Rule}
use Rattle.sk_base.specs.declared.Shape.{Shape}
use Rattle.sk_base.specs.declared.Sketch.{Sketch}
use Rattle.sk_base.specs.Drawn.{is_line}
use Rattle.sk_base.specs.SoundSketch.{IsLength}
use Rattle.sk_drawn.specs.DrawnValues.{IsDrawnApart, IsDrawnRule, IsDrawnSize, IsSizeBy, apart_squared}
use Rattle.sk_drawn.proofs.OneValue.{one_root}

module _ (s : Sketch) where
  pub swapped : (u v : Elem) (r : Rule) → IsDrawnRule s u v r → IsDrawnRule s v u r
  swapped u v r is = record {
    first = is.first;
    second = is.second;
    these = elim is.these [ inl here ↦ inr here | inr back ↦ inl back ];
    before = is.before;
    joins = is.joins;
    sound = is.sound;
    drawn = is.drawn;
  }

  pub rule_swapped : (u v : Elem) (r : Option Rule) → IfSome r (IsDrawnRule s u v) → IfSome r (IsDrawnRule s v u)
  rule_swapped u v None found = tt
  rule_swapped u v (Some r) found = swapped u v r found

  pub none_swapped : (u v : Elem) (r : Option Rule) → IfNone r ((q : Rule) → ¬ IsDrawnRule s u v q) → IfNone r ((q : Rule) → ¬ IsDrawnRule s v u q)
  none_swapped u v None none = λ q is. none q (swapped v u q is)
  none_swapped u v (Some r) none = tt

-- no length says how far two are drawn apart that are drawn at one place, or further than a length may be
pub no_length : (a b : Shape) (r : ℕ) → IsDrawnApart a b r → r ≡ 0 ⊎ 1000000000 < r → (len : Um) → IsLength len → ¬ IsDrawnApart a b (unsigned_abs len.0)
no_length a b r is beyond len length other =
    let same = one_root (apart_squared a b) r (unsigned_abs len.0) is other in
    elim beyond [
      | inl none ↦ omega (arith, ints, same, none, length.0, length.1)
      | inr far ↦ omega (arith, ints, same, far, length.0, length.1)
    ]

pub not_on : (a b : Shape) (r : ℕ) → IsDrawnApart a b r → 1000000000 < r → ¬ IsDrawnApart a b 0
not_on a b r is far other = (let same = one_root (apart_squared a b) r 0 is other in omega (arith, same, far))

-- no size is drawn where the one length that is drawn may not be one
pub no_size : (a b : Shape) (r : ℕ) (p q : Bool) (o : Option ℕ) (least : ℕ) → IsDrawnApart a b r → is_line a ≡ p → is_line b ≡ q
    → ((n : ℕ) → IsSizeBy p q a b n → IsDrawnApart a b n × (least ≤ n) × (n ≤ 1000000000))
    → IfNone o (¬ ((least ≤ r) × (r ≤ 1000000000))) → IfNone o ((n : ℕ) → ¬ IsDrawnSize a b n)
no_size a b r p q (Some k) least is first second told none = tt
no_size a b r p q None least is first second told none = λ n size. (
    let here : IsSizeBy p q a b n = subst (λ (t : Bool). IsSizeBy p t a b n) second (subst (λ (t : Bool). IsSizeBy t (is_line b) a b n) first size) in
    let (apart, more, few) = told n here in
    let same = one_root (apart_squared a b) r n is apart in
    none (omega (arith, same, more), omega (arith, same, few)))
