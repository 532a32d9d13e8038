-- Two lists that share two elements share one beside each that they share.
use Rattle.std.proofs.Common.{◌≢◌, ◌⊎◌, inl, inr, ℕ, sym, ◌∙◌, ap, List}
use Rattle.std.specs.Prelude.{◌↔◌, Contains, Option, None, Some}
use Rattle.std.proofs.lemmas.Option.{same_Some}
use Rattle.sk_base.specs.declared.Elem.{Elem}
use Rattle.sk_base.specs.declared.Name.{Name}
use Rattle.sk_base.specs.Numbering.{elem_exact}
use Rattle.sk_base.proofs.Members.{nat_settles}
use Rattle.sk_family.specs.declared.Cluster.{Cluster}
use Rattle.sk_family.specs.Rules.{SharesTwo}
use Rattle.sk_neighbours.specs.declared.index.Index.{Index}
use Rattle.sk_neighbours.specs.Indexed.{IsIndex}
use Rattle.sk_triangles.specs.Growing.{FromSome}
use Rattle.sk_neighbours.specs.Partners.{IsOther, Partner, PartnerBy, PartnerOf, PartnerUnless}
use Rattle.sk_neighbours.proofs.Walked.{below_named, holds}

pub two_of_other : (xs ys : List Elem) (a : Elem) → Contains xs a → Contains ys a → (e : Elem) × Contains xs e × IsOther ys a e → SharesTwo xs ys
two_of_other xs ys a a_xs a_ys (e, e_xs, (other, e_ys)) = (a, e, record { differ = λ same. other (sym same); a_shared = (a_xs, a_ys); b_shared = (e_xs, e_ys) })

pub other_of_two : (xs ys : List Elem) (a : Elem) → SharesTwo xs ys → (e : Elem) × Contains xs e × IsOther ys a e
other_of_two xs ys a (p, q, pair) =
    elim (nat_settles p.0 a.0) [
      | inl same ↦ (q, pair.b_shared.0, ((λ is. pair.differ (elem_exact p a same ∙ sym is)), pair.b_shared.1))
      | inr other ↦ (p, pair.a_shared.0, ((λ is. other (ap (λ (x : Elem). x.0) is)), pair.a_shared.1))
    ]

-- of two shared elements one isn't that one
module _ (ix : Index) (x : Cluster) where
  pub unless_hub : (hub : Option Elem) (n : Name) → FromSome (PartnerUnless hub ix x) x.elements n ↔ Partner ix x n
  unless_hub hub n = ((λ (e, e_x, (other, (y, held, e_y, below, two, named))). (y, held, below, two, named)), found)
    where
      other_than : (hub : Option Elem) (a b : Elem) → a ≢ b → (hub ≢ Some a) ⊎ (hub ≢ Some b)
      other_than None a b differ = inl (λ e. cc)
      other_than (Some h) a b differ =
          elim (nat_settles h.0 a.0) [
            | inl same ↦ inr (λ e. differ (sym (elem_exact h a same) ∙ same_Some _ _ e))
            | inr other ↦ inl (λ e. other (ap (λ (o : Elem). o.0) (same_Some _ _ e)))
          ]

      found : Partner ix x n → FromSome (PartnerUnless hub ix x) x.elements n
      found (y, held, below, (a, b, pair), named) =
          elim (other_than hub a b pair.differ) [
            | inl first ↦ (a, pair.a_shared.0, (first, (y, held, pair.a_shared.1, below, (a, b, pair), named)))
            | inr second ↦ (b, pair.b_shared.0, (second, (y, held, pair.b_shared.1, below, (a, b, pair), named)))
          ]

  -- what the walk along the keys below x finds are the partners that hold the element
  pub partner_walked : IsIndex ix → (e : Elem) (n : Name) → PartnerBy ix x e n ↔ PartnerOf ix x e n
  partner_walked index e n = (
    (λ (k, k_in, (k_below, (y, y_is, two, named))). (y, (k, y_is), holds ix index e k y y_is k_in, below_named ix x.name k y y_is k_below, two, named)),
    (λ (y, (k, y_is), e_y, below, two, named). (k, index.finds e k y y_is e_y, ((y, y_is, below), (y, y_is, two, named)))),
  )

-- what the walk along the front gives is what those of that kind give
module _ (front all : List ℕ) (P : ℕ → Type 0) (front_is : (k : ℕ) → Contains front k ↔ (Contains all k × P k)) where
  pub given_below : (kind : ℕ → Name → Type 0) (n : Name) → FromSome kind front n ↔ FromSome (λ k l. P k × kind k l) all n
  given_below kind n = (
    (λ (k, k_in, is). (let (k_all, below) = (front_is k).0 k_in in (k, k_all, (below, is)))),
    (λ (k, k_all, (below, is)). (k, (front_is k).1 (k_all, below), is)),
  )
