-- What is added to the fresh elements of an heir.
use Rattle.std.proofs.Common.{◌≡◌, ◌⊎◌, inl, inr, refl, ℕ, ◌+◌, ◌<◌, List, [], ◌∷◌, ◌++◌, length, get_or, take, sym, subst, ◌∙◌}
use Rattle.std.specs.Prelude.{Bool, true, false, Contains, Result, Ok, Err, IsTrue, OnOk, is_ok}
use Rattle.std.proofs.lemmas.List.{take_more}
use Rattle.std.proofs.lemmas.List.Elements.{Contains-append_left, Contains-append_right, Contains-append_cases}
use Rattle.sk_base.specs.declared.Elem.{Elem}
use Rattle.sk_base.specs.declared.Name.{Name}
use Rattle.sk_base.proofs.Deciding.{elem_settles, is_in}
use Rattle.sk_base.proofs.Members.{contains_head, contains_none, contains_one}
use Rattle.sk_family.specs.declared.Cluster.{Cluster}
use Rattle.sk_family.specs.Clusters.{Clusters, IsNamed, IsSound}
use Rattle.sk_family.proofs.Naming.{one_of_name}
use Rattle.sk_triangles.specs.Growing.{FromSome, GrowsBy}
use Rattle.sk_close_by_order.specs.Heirs.{IsFreshOn, MissesSome}

-- what a call gives where it ends well
pub told_ok : {T E P : Type 0} (r : Result T E) (b : Bool) → b ≡ is_ok r → IsTrue b → OnOk r P → P
told_ok (Ok x) b is h p = p
told_ok (Err e) b is h p = absurd (let clash : false ≡ true = sym is ∙ h in cc)

module _ (f : Clusters) (name : Name) where
  -- the cluster of the name itself brings nothing
  pub fresh_itself : (n : Name) → n ≡ name → (es : List Elem) → IsFreshOn f (n ∷ []) name es es
  fresh_itself n is es = record {
    grows = λ e h. h;
    right = λ e h. inl h;
    all = λ c e c_in n_in e_in. inr (c, record { lives = c_in; has_name = sym (contains_one n c.name n_in) ∙ is }, e_in);
  }

  -- one after another
  pub fresh_then : (ns ms : List Name) (old mid new : List Elem) → IsFreshOn f ns name old mid → IsFreshOn f ms name mid new → IsFreshOn f (ns ++ ms) name old new
  fresh_then ns ms old mid new first then = record {
    grows = λ e h. then.grows e (first.grows e h);
    right = λ e h. elim (then.right e h) [
      | inl was ↦ elim (first.right e was) [
        | inl old_e ↦ inl old_e
        | inr (c, c_in, n_in, e_in) ↦ inr (c, c_in, Contains-append_left ns ms c.name n_in, e_in)
      ]
      | inr (c, c_in, n_in, e_in) ↦ inr (c, c_in, Contains-append_right ns ms c.name n_in, e_in)
    ];
    all = λ c e c_in n_in e_in. elim (Contains-append_cases ns ms c.name n_in) [
      | inl before ↦ elim (first.all c e c_in before e_in) [ inl is ↦ inl (then.grows e is) | inr has ↦ inr has ]
      | inr after ↦ then.all c e c_in after e_in
    ];
  }

  -- none bring nothing
  pub fresh_none : (es : List Elem) → IsFreshOn f [] name es es
  fresh_none es = record {
    grows = λ e h. h;
    right = λ e h. inl h;
    all = λ c e c_in n_in e_in. absurd (contains_none c.name n_in);
  }

  -- along a list
  pub fresh_more : (names : List Name) (i : ℕ) (d : Name) → i < length names → (old mid new : List Elem) → IsFreshOn f (take i names) name old mid → IsFreshOn f (get_or names i d ∷ []) name mid new
      → IsFreshOn f (take (i + 1) names) name old new
  fresh_more names i d i_in old mid new first then =
      subst (λ ns. IsFreshOn f ns name old new) (sym (take_more names i d i_in)) (fresh_then (take i names) (get_or names i d ∷ []) old mid new first then)

  -- what another cluster has and that one hasn't
  pub fresh_added : IsSound f → (n : Name) (c base : Cluster) → IsNamed f n c → IsNamed f name base → (old new : List Elem) → GrowsBy (FromSome (MissesSome base.elements) c.elements) old new
      → IsFreshOn f (n ∷ []) name old new
  fresh_added sound n c base c_is base_is old new grows = record {
    grows = λ e h. (grows e).1 (inl h);
    right = λ e h. elim ((grows e).0 h) [
      | inl was ↦ inl was
      | inr (x, x_in, (same, missing)) ↦ inr (c, c_is.lives, subst (λ k. Contains (n ∷ []) k) (sym c_is.has_name) (contains_head n []), subst (λ y. Contains c.elements y) (sym same) x_in)
    ];
    all = λ d e d_in n_in e_in.
        let is : d ≡ c = one_of_name f sound n d c (record { lives = d_in; has_name = sym (contains_one n d.name n_in) }) c_is in
        placed e (subst (λ (x : Cluster). Contains x.elements e) is e_in);
  }
    where
      placed : (e : Elem) → Contains c.elements e → Contains new e ⊎ ((w : Cluster) × IsNamed f name w × Contains w.elements e)
      placed e e_in =
          elim (is_in elem_settles base.elements e) [
            | inl there ↦ inr (base, base_is, there)
            | inr missing ↦ inl ((grows e).1 (inr (e, e_in, (refl, missing))))
          ]
