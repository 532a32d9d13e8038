-- What closed families tell of bodies that may merge.
use Rattle.std.proofs.Common.{◌≡◌, List, [], ◌∷◌, sym, ◌∙◌}
use Rattle.std.specs.Prelude.{Contains}
use Rattle.sk_base.specs.declared.Graph.{Graph}
use Rattle.sk_family.specs.Body.{Body, SameBodies}
use Rattle.sk_base.proofs.Members.{contains_head, contains_later}
use Rattle.sk_rules.specs.Reach.{CanMerge, IsClosed}

-- what may merge are two different bodies at least
pub no_merge_of_one : (g : Graph) (some : List Body) (z : Body) → CanMerge g some → ¬ ((y : Body) → Contains some y → y ≡ z)
no_merge_of_one g [] z can same = can
no_merge_of_one g (a ∷ []) z can same = can
no_merge_of_one g (a ∷ b ∷ []) z can same = can.0 (same a (contains_head a (b ∷ [])) ∙ sym (same b (contains_later a (b ∷ []) b (contains_head b []))))
no_merge_of_one g (a ∷ b ∷ c ∷ []) z can same =
    can.0 (same a (contains_head a (b ∷ c ∷ [])) ∙ sym (same b (contains_later a (b ∷ c ∷ []) b (contains_head b (c ∷ [])))))
no_merge_of_one g (a ∷ b ∷ c ∷ d ∷ rest) z can same = can

-- the same bodies in another order are closed too
pub closed_same : (g : Graph) (f other : List Body) → SameBodies other f → IsClosed g f → IsClosed g other
closed_same g f other same closed some among can = closed some (λ y h. (same y).0 (among y h)) can
