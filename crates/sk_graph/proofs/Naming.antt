-- The elements that a constraint names are the ends of its edge, or the elements of its pins.
use Rattle.std.proofs.Common.{◌≡◌, inl, inr, Bool, true, false, List, [], ◌∷◌, refl, cond, ℤ}
use Rattle.std.specs.Prelude.{IfSome, nat_lt}
use Rattle.sk_base.specs.declared.numbered.Elem.{Elem}
use Rattle.sk_base.specs.declared.numbered.ConId.{ConId}
use Rattle.sk_base.specs.declared.measure.Um.{Um}
use Rattle.sk_base.specs.declared.sketch.Shape.{Shape}
use Rattle.sk_base.specs.declared.sketch.Sketch.{Sketch}
use Rattle.sk_base.specs.declared.sketch.Rule.{Rule}
use Rattle.sk_base.specs.declared.sketch.Rule.TheVariants.{Distance, On, Tangent, Outside, Inside, Angle}
use Rattle.sk_base.specs.declared.sketch.Rule.TheVariants as rules_of
use Rattle.sk_base.specs.declared.graph.Edge.{Edge}
use Rattle.sk_base.specs.Pins.{elements_of}
use Rattle.sk_base.specs.Drawn.{is_line, radius_of}
use Rattle.sk_orient.specs.DrawnSigns.{side_drawn}
use Rattle.sk_graph.specs.SketchGraph.{drawn_as, apart, beside, rule_edge, rule_block}
use Rattle.sk_graph.specs.Naming.{named_by, IsBetween}

either : (names : List Elem) (b : Bool) (x y : Edge) → IsBetween names x → IsBetween names y → IsBetween names (cond b x y)
either names true x y first second = first
either names false x y first second = second

apart_between : (id : ConId) (u v : Elem) (len : ℤ) → IsBetween (u ∷ v ∷ []) (apart id u v len)
apart_between id u v len = either (u ∷ v ∷ []) (nat_lt u.0 v.0) _ _ (inl refl) (inr refl)

distance_between : (id : ConId) (u v : Elem) (len : Um) (a b : Shape) → IsBetween (u ∷ v ∷ []) (cond (is_line b) (beside id u v len.0 (side_drawn b a)) (apart id u v len.0))
distance_between id u v len a b = either (u ∷ v ∷ []) (is_line b) _ (apart id u v len.0) (inl refl) (apart_between id u v len.0)

-- an edge is between the elements that its rule names
pub edge_between : (s : Sketch) (id : ConId) (rule : Rule) → IfSome (rule_edge s id rule) (λ e. IsBetween (named_by rule) e)
edge_between s id (Distance u v len) =
    let a = drawn_as s u in
    let b = drawn_as s v in
    either (u ∷ v ∷ []) (is_line a) _ (cond (is_line b) (beside id u v len.0 (side_drawn b a)) (apart id u v len.0)) (inr refl) (distance_between id u v len a b)
edge_between s id (On u v) =
    let b = drawn_as s v in
    either (u ∷ v ∷ []) (is_line b) _ (apart id u v (radius_of b)) (inl refl) (apart_between id u v (radius_of b))
edge_between s id (Tangent u v) = either (u ∷ v ∷ []) (is_line (drawn_as s u)) _ _ (inr refl) (inl refl)
edge_between s id (Outside u v) = apart_between id u v _
edge_between s id (Inside u v) = apart_between id u v _
edge_between s id (Angle l m ratio) = inl refl
edge_between s id (rules_of.Block pins) = tt

-- the pins of a block are at the elements that its rule names
pub block_at : (id : ConId) (rule : Rule) → IfSome (rule_block id rule) (λ b. elements_of b.pins ≡ named_by rule)
block_at id (Distance u v len) = tt
block_at id (On u v) = tt
block_at id (Tangent u v) = tt
block_at id (Outside u v) = tt
block_at id (Inside u v) = tt
block_at id (Angle l m ratio) = tt
block_at id (rules_of.Block pins) = refl
