-- What a rule needs of the drawing: the elements that it names.
use Rattle.std.proofs.Common.{◌≡◌, inl, inr, [], ◌∷◌, get_or, refl, ap, sym, subst}
use Rattle.std.specs.Prelude.{Contains, IsSome, Option, None, Some}
use Rattle.std.specs.Option.{option_map}
use Rattle.std.proofs.lemmas.List.Elements.{All-contains, Contains-get_or}
use Rattle.sk_base.specs.declared.Elem.{Elem}
use Rattle.sk_base.specs.declared.Element.{Element}
use Rattle.sk_base.specs.declared.Pin.{Pin}
use Rattle.sk_base.specs.declared.Shape.{Shape}
use Rattle.sk_base.specs.declared.Rule.{Rule}
use Rattle.sk_base.specs.declared.Rule.TheVariants as rule
use Rattle.sk_base.specs.declared.Sketch.{Sketch}
use Rattle.sk_base.specs.Drawn.{element_of, shape_of}
use Rattle.sk_base.specs.SoundSketch.{IsSoundRule, IsCentred, BothFit, MayJoin, MayBeApart, MayLieOn, MayBeTangent, AreCircles, MayNest, AreLines}
use Rattle.sk_base.proofs.Blocks.{block_kept}
use Rattle.sk_base.proofs.Members.{contains_head, contains_later, contains_cases, contains_one, contains_mapped, mapped_from}
use Rattle.sk_graph.specs.Naming.{named_by}
use Rattle.sk_graph.proofs.Fittings.{both_drawn}
use Rattle.sk_graph.proofs.Soundness.{drawn_in}

-- each element that the rule names is the same in the two sketches
abbrev pub DrawnAlike : Sketch → Sketch → Rule → Type 0
DrawnAlike s t r = (u : Elem) → Contains (named_by r) u → element_of t u ≡ element_of s u

joins_alike : (s t : Sketch) (fits : Shape → Shape → Type 0) (u v : Elem) → ((z : Elem) → Contains (u ∷ v ∷ []) z → element_of t z ≡ element_of s z) → MayJoin s fits u v → MayJoin t fits u v
joins_alike s t fits u v alike joins =
    let u_is : shape_of t u ≡ shape_of s u = ap (λ o. option_map (λ (x : Element). x.shape) o) (alike u (contains_head u (v ∷ []))) in
    let v_is : shape_of t v ≡ shape_of s v = ap (λ o. option_map (λ (x : Element). x.shape) o) (alike v (contains_later u (v ∷ []) v (contains_head v []))) in
    (joins.0, subst (λ (b : Option Shape). BothFit fits (shape_of t u) b) (sym v_is) (subst (λ (a : Option Shape). BothFit fits a (shape_of s v)) (sym u_is) joins.1))

-- so the rule is as sound in the one as in the other
pub rule_alike : (s t : Sketch) (r : Rule) → DrawnAlike s t r → IsSoundRule s r → IsSoundRule t r
rule_alike s t (rule.Distance u v len) alike sound = (joins_alike s t MayBeApart u v alike sound.0, sound.1)
rule_alike s t (rule.On u v) alike sound = joins_alike s t MayLieOn u v alike sound
rule_alike s t (rule.Tangent u v) alike sound = joins_alike s t MayBeTangent u v alike sound
rule_alike s t (rule.Outside u v) alike sound = joins_alike s t AreCircles u v alike sound
rule_alike s t (rule.Inside u v) alike sound = joins_alike s t MayNest u v alike sound
rule_alike s t (rule.Angle l m ratio) alike sound = (joins_alike s t AreLines l m alike sound.0, sound.1)
rule_alike s t (rule.Block pins) alike sound =
    block_kept s t pins (λ k d below. alike (get_or pins k d).elem (contains_mapped (λ (pin : Pin). pin.elem) pins (get_or pins k d) (Contains-get_or pins k d below))) sound

both_named : (s : Sketch) (fits : Shape → Shape → Type 0) (u v z : Elem) → MayJoin s fits u v → Contains (u ∷ v ∷ []) z → IsSome (shape_of s z)
both_named s fits u v z joins named =
    let drawn = both_drawn s fits u v joins in
    elim (contains_cases u (v ∷ []) z named) [
      | inl here ↦ subst (λ w. IsSome (shape_of s w)) here drawn.first
      | inr later ↦ subst (λ w. IsSome (shape_of s w)) (contains_one v z later) drawn.second
    ]

centred_drawn : (o : Option Shape) → IsCentred o → IsSome o
centred_drawn None centred = absurd centred
centred_drawn (Some shape) centred = refl

-- a sound rule names elements that are drawn
named_drawn : (s : Sketch) (r : Rule) → IsSoundRule s r → (u : Elem) → Contains (named_by r) u → IsSome (shape_of s u)
named_drawn s (rule.Distance u v len) sound z named = both_named s MayBeApart u v z sound.0 named
named_drawn s (rule.On u v) sound z named = both_named s MayLieOn u v z sound named
named_drawn s (rule.Tangent u v) sound z named = both_named s MayBeTangent u v z sound named
named_drawn s (rule.Outside u v) sound z named = both_named s AreCircles u v z sound named
named_drawn s (rule.Inside u v) sound z named = both_named s MayNest u v z sound named
named_drawn s (rule.Angle l m ratio) sound z named = both_named s AreLines l m z sound.0 named
named_drawn s (rule.Block pins) sound z named =
    let found = mapped_from (λ (pin : Pin). pin.elem) pins z named in
    subst (λ w. IsSome (shape_of s w)) found.2 (centred_drawn (shape_of s found.0.elem) (All-contains (λ (pin : Pin). IsCentred (shape_of s pin.elem)) pins found.0 sound.centred found.1))

-- and so elements of the sketch
pub named_in : (s : Sketch) (r : Rule) → IsSoundRule s r → (u : Elem) → Contains (named_by r) u → (x : Element) × Contains s.elements x × (x.number ≡ u)
named_in s r sound u named = told (shape_of s u) refl (named_drawn s r sound u named)
  where
    told : (o : Option Shape) → shape_of s u ≡ o → IsSome o → (x : Element) × Contains s.elements x × (x.number ≡ u)
    told None is some = absurd (let never = some in cc)
    told (Some shape) is some = (let found = drawn_in s u shape is in (found.0, found.1, found.2))
