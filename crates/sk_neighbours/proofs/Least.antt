-- The least name found in a loop.
use Rattle.std.proofs.Common.{◌≡◌, ◌⊎◌, inl, inr, ℕ, ◌+◌, ◌<◌, ◌≤◌, List, [], ◌∷◌, ◌++◌, length, get_or, take, sym, subst, arith}
use Rattle.std.specs.Prelude.{◌↔◌, Contains, Option, None, Some}
use Rattle.std.proofs.lemmas.List.{take_all, take_more}
use Rattle.std.proofs.lemmas.List.Elements.{Contains-append_left, Contains-append_right, Contains-append_cases}
use Rattle.sk_base.specs.declared.Name.{Name}
use Rattle.sk_base.specs.ClusterNames.{IsBelow}
use Rattle.sk_base.proofs.Members.{contains_none, contains_head, contains_one}
use Rattle.sk_family.proofs.Naming.{below_chain}
use Rattle.sk_base.proofs.Unions.{which}
use Rattle.sk_base.specs.declared.Name.TheVariants.{Con, Step}
use Rattle.sk_triangles.specs.Growing.{FromSome}
use Rattle.sk_neighbours.specs.Partners.{IsLeast, IsLesser}

-- what is not below m is, where m is above n, not below n
pub not_below_lower : (k m n : Name) → ¬ IsBelow k m → IsBelow n m → ¬ IsBelow k n
not_below_lower k m n not_k n_m k_n = not_k (below_chain k n m k_n n_m)

pub least_same : (kind other : Name → Type 0) → ((n : Name) → kind n ↔ other n) → (o : Option Name) → IsLeast kind o → IsLeast other o
least_same kind other same None none = λ n is. none n ((same n).1 is)
least_same kind other same (Some m) (is, least) = ((same m).0 is, (λ n n_is. least n ((same n).1 n_is)))

below_or_not : (k n m : Name) → ¬ IsBelow n m → ¬ IsBelow k n → IsBelow k m → ⊥
below_or_not (Con i) (Con j) (Con l) a b h = (let ij = not_less i j b in let jl = not_less j l a in absurd (omega arith))
  where
    not_less : (p q : ℕ) → ¬ (p < q) → q ≤ p
    not_less p q refuses = elim (which p q) [ inl less ↦ absurd (refuses less) | inr (inl same) ↦ omega arith | inr (inr more) ↦ omega arith ]
below_or_not (Con i) (Con j) (Step l) a b h = a tt
below_or_not (Con i) (Step j) m a b h = b tt
below_or_not (Step i) n (Con l) a b h = h
below_or_not (Step i) (Con j) (Step l) a b h = a tt
below_or_not (Step i) (Step j) (Step l) a b h = (let ij = not_less i j b in let jl = not_less j l a in absurd (omega arith))
  where
    not_less : (p q : ℕ) → ¬ (p < q) → q ≤ p
    not_less p q refuses = elim (which p q) [ inl less ↦ absurd (refuses less) | inr (inl same) ↦ omega arith | inr (inr more) ↦ omega arith ]

-- the lesser of two least ones is the least of both kinds
pub least_both : (kind other : Name → Type 0) (one two r : Option Name) → IsLeast kind one → IsLeast other two → IsLesser one two r → IsLeast (λ n. kind n ⊎ other n) r
least_both kind other None two r none two_least is = subst (λ o. IsLeast (λ n. kind n ⊎ other n) o) (sym is) (from two two_least)
  where
    from : (two : Option Name) → IsLeast other two → IsLeast (λ n. kind n ⊎ other n) two
    from None neither = λ n h. elim h [ inl k ↦ none n k | inr o ↦ neither n o ]
    from (Some m) (m_is, least) = (inr m_is, (λ n h. elim h [ inl k ↦ absurd (none n k) | inr o ↦ least n o ]))
least_both kind other (Some m) None r (m_is, least) none is =
    subst (λ o. IsLeast (λ n. kind n ⊎ other n) o) (sym is) (inl m_is, (λ n h. elim h [ inl k ↦ least n k | inr o ↦ absurd (none n o) ]))
least_both kind other (Some m) (Some l) r (m_is, m_least) (l_is, l_least) (inl (is, below)) =
    subst (λ o. IsLeast (λ n. kind n ⊎ other n) o) (sym is)
    (inr l_is, (λ n h. elim h [ inl k ↦ not_below_lower n m l (m_least n k) below | inr o ↦ l_least n o ]))
least_both kind other (Some m) (Some l) r (m_is, m_least) (l_is, l_least) (inr (is, above)) =
    subst (λ o. IsLeast (λ n. kind n ⊎ other n) o) (sym is)
    (inl m_is, (λ n h. elim h [ inl k ↦ m_least n k | inr o ↦ below_or_not n l m above (l_least n o) ]))

module _ {X : Type 0} (kind : X → Name → Type 0) (xs : List X) where
  pub least_start : IsLeast (FromSome kind (take 0 xs)) None
  least_start n (x, x_in, is) = contains_none x x_in

  pub least_step : (i : ℕ) (d : X) → i < length xs → (one two r : Option Name) → IsLeast (FromSome kind (take i xs)) one → IsLeast (kind (get_or xs i d)) two → IsLesser one two r
      → IsLeast (FromSome kind (take (i + 1) xs)) r
  least_step i d i_in one two r so_far here is =
      let split : take (i + 1) xs ≡ take i xs ++ get_or xs i d ∷ [] = take_more xs i d i_in in
      least_same (λ n. FromSome kind (take i xs) n ⊎ kind (get_or xs i d) n) (FromSome kind (take (i + 1) xs))
      (λ n. (
        (λ h. elim h [
          | inl (x, x_in, x_is) ↦ (x, subst (λ l. Contains l x) (sym split) (Contains-append_left (take i xs) (get_or xs i d ∷ []) x x_in), x_is)
          | inr new ↦ (get_or xs i d, subst (λ l. Contains l (get_or xs i d)) (sym split) (Contains-append_right (take i xs) (get_or xs i d ∷ []) (get_or xs i d) (contains_head (get_or xs i d) [])), new)
        ]),
        (λ (x, x_in, x_is). elim (Contains-append_cases (take i xs) (get_or xs i d ∷ []) x (subst (λ l. Contains l x) split x_in)) [
          | inl before ↦ inl (x, before, x_is)
          | inr at ↦ inr (subst (λ y. kind y n) (sym (contains_one (get_or xs i d) x at)) x_is)
        ]),
      ))
      r (least_both (FromSome kind (take i xs)) (kind (get_or xs i d)) one two r so_far here is)

  pub least_end : (i : ℕ) → length xs ≤ i → (r : Option Name) → IsLeast (FromSome kind (take i xs)) r → IsLeast (FromSome kind xs) r
  least_end i over r so_far = subst (λ l. IsLeast (FromSome kind l) r) (take_all i xs over) so_far
