-- What comes of lists of steps, one list after another.
use Rattle.std.proofs.Common.{◌≡◌, ℕ, suc, List, [], ◌∷◌, ◌++◌, length, refl, ap}
use Rattle.sk_base.specs.declared.Name.{Name}
use Rattle.sk_base.specs.declared.Sketch.{Sketch}
use Rattle.sk_tree.specs.declared.Plan.{Plan}
use Rattle.sk_place.specs.declared.Layout.{Layout}
use Rattle.sk_solve.specs.declared.alternative.Alternative.{Alternative}
use Rattle.sk_solve.specs.declared.placing.Placement.{Placement}
use Rattle.sk_solve.specs.declared.placing.Placement.TheVariants.{Fault, Uncarried, Beyond, Turned, Holds}
use Rattle.sk_solve.specs.Alternatives.{alternative_of, IsTurnedPlacement, IsAlternative, AreAlternatives}

module _ (G : Type 0) (placing : Layout) (F limit : ℕ) (s : Sketch) (p : Plan) where
  -- one list more
  pub alternatives_more : (lists : List (List Name)) (alternatives : List Alternative) (names : List Name) (a : Alternative) → AreAlternatives G placing F limit s p lists alternatives → IsAlternative G placing F limit s p names a
      → AreAlternatives G placing F limit s p (lists ++ names ∷ []) (alternatives ++ a ∷ [])
  alternatives_more [] [] names a are is = (is, tt)
  alternatives_more [] (b ∷ alternatives) names a are is = absurd are
  alternatives_more (first ∷ lists) [] names a are is = absurd are
  alternatives_more (first ∷ lists) (b ∷ alternatives) names a are is = (are.0, alternatives_more lists alternatives names a are.1 is)

  -- as many as there are lists
  pub as_many : (lists : List (List Name)) (alternatives : List Alternative) → AreAlternatives G placing F limit s p lists alternatives → length alternatives ≡ length lists
  as_many [] [] are = refl
  as_many [] (a ∷ alternatives) are = absurd are
  as_many (names ∷ lists) [] are = absurd are
  as_many (names ∷ lists) (a ∷ alternatives) are = ap suc (as_many lists alternatives are.1)

  -- of a turned plan that is placed so
  pub is_alternative : (names : List Name) (placement : Placement) → IsTurnedPlacement G placing F limit s p names placement → IsAlternative G placing F limit s p names (alternative_of placement)
  is_alternative names (Fault f) is = is
  is_alternative names (Uncarried f) is = is
  is_alternative names (Beyond b) is = is
  is_alternative names (Turned t) is = is
  is_alternative names (Holds at tol) is = is
