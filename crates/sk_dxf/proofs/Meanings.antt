-- What the segments of lines mean.
use Rattle.std.proofs.Common.{inl, inr, ℤ, ◌≤ℤ◌, List, ◌∷◌, fold, refl, sym, subst}
use Rattle.std.specs.Prelude.{Contains}
use Rattle.std.specs.Int.{int_min, int_max}
use Rattle.std.proofs.lemmas.Int.{fold-int_min_bounds, fold-int_min_reached, fold-int_max_bounds, fold-int_max_reached}
use Rattle.std.proofs.lemmas.List.Elements.{All-cons}
use Rattle.sk_base.proofs.Members.{contains_head, contains_later}
use Rattle.sk_dxf.specs.Segments.{reach, Spans}

pub reach_spans : (s : ℤ) (places : List ℤ) → Spans (s ∷ places) (reach (s ∷ places))
reach_spans s places =
    let least = fold-int_min_bounds s places (fold int_min s places) refl in
    let greatest = fold-int_max_bounds s places (fold int_max s places) refl in
    record {
      first = elim (fold-int_min_reached s places (fold int_min s places) refl) [
        | inl here ↦ subst (λ z. Contains (s ∷ places) z) (sym here) (contains_head s places)
        | inr among ↦ contains_later s places (fold int_min s places) among
      ];
      last = elim (fold-int_max_reached s places (fold int_max s places) refl) [
        | inl here ↦ subst (λ z. Contains (s ∷ places) z) (sym here) (contains_head s places)
        | inr among ↦ contains_later s places (fold int_max s places) among
      ];
      all_behind = All-cons (λ z. fold int_min s places ≤ℤ z) s places least.0 least.1;
      all_before = All-cons (λ z. z ≤ℤ fold int_max s places) s places greatest.0 greatest.1;
    }
