-- The two names beside one in a triple, and what an heir has instead of it.
use Rattle.std.proofs.Common.{◌≡◌, ◌⊎◌, inl, inr, List, sym, subst, ◌∙◌, ap}
use Rattle.std.specs.Prelude.{Contains}
use Rattle.sk_base.specs.declared.Name.{Name}
use Rattle.sk_family.specs.declared.Merge.{Merge}
use Rattle.sk_family.specs.declared.Merge.TheVariants.{Two, Three}
use Rattle.sk_open_triples.specs.declared.heir.Heir.{Heir}
use Rattle.sk_open_triples.specs.Inherited.{Inherits, IsBeside}

-- a triple has one such pair
pub one_beside : (t : Merge) (n p q r s : Name) → IsBeside t n p q → IsBeside t n r s → (p ≡ r) × (q ≡ s)
one_beside (Two x y) n p q r s none other = absurd none
one_beside (Three x y z) n p q r s (inl (x_is, y_p, z_q)) (inl (again, y_r, z_s)) = (sym y_p ∙ y_r, sym z_q ∙ z_s)
one_beside (Three x y z) n p q r s (inl (x_is, y_p, z_q)) (inr (inl (other, y_is, x_r, z_s))) = absurd (other x_is)
one_beside (Three x y z) n p q r s (inl (x_is, y_p, z_q)) (inr (inr (other, later, z_is, x_r, y_s))) = absurd (other x_is)
one_beside (Three x y z) n p q r s (inr (inl (other, y_is, x_p, z_q))) (inl (x_is, y_r, z_s)) = absurd (other x_is)
one_beside (Three x y z) n p q r s (inr (inl (other, y_is, x_p, z_q))) (inr (inl (again, y_again, x_r, z_s))) = (sym x_p ∙ x_r, sym z_q ∙ z_s)
one_beside (Three x y z) n p q r s (inr (inl (other, y_is, x_p, z_q))) (inr (inr (again, later, z_is, x_r, y_s))) = absurd (later y_is)
one_beside (Three x y z) n p q r s (inr (inr (other, later, z_is, x_p, y_q))) (inl (x_is, y_r, z_s)) = absurd (other x_is)
one_beside (Three x y z) n p q r s (inr (inr (other, later, z_is, x_p, y_q))) (inr (inl (again, y_is, x_r, z_s))) = absurd (later y_is)
one_beside (Three x y z) n p q r s (inr (inr (other, later, z_is, x_p, y_q))) (inr (inr (again, more, z_again, x_r, y_s))) = (sym x_p ∙ x_r, sym y_q ∙ y_s)

module _ (heir : Heir) (gone : List Name) (t : Merge) (p q : Name) (beside : IsBeside t heir.core p q) where
  -- where one of the two is gone, there is none
  pub inherits_none : Contains gone p ⊎ Contains gone q → (m : Merge) → ¬ Inherits heir gone t m
  inherits_none (inl p_in) m (r, s, is, r_out, s_out, m_is) = r_out (subst (λ n. Contains gone n) (one_beside t heir.core p q r s beside is).0 p_in)
  inherits_none (inr q_in) m (r, s, is, r_out, s_out, m_is) = s_out (subst (λ n. Contains gone n) (one_beside t heir.core p q r s beside is).1 q_in)

  -- and else just one
  pub inherits_one : (m : Merge) → Inherits heir gone t m → m ≡ Three heir.name p q
  inherits_one m (r, s, is, r_out, s_out, m_is) =
      let same = one_beside t heir.core p q r s beside is in
      m_is ∙ ap (λ n. Three heir.name n s) (sym same.0) ∙ ap (λ n. Three heir.name p n) (sym same.1)
