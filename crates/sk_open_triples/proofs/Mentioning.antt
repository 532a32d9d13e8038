-- Keys put under numbers and names.
use Rattle.std.proofs.Common.{◌≡◌, ◌≢◌, ◌⊎◌, inl, inr, ℕ, ◌<◌, List, [], ◌∷◌, ◌++◌, length, get_or, set, get_or-set_same, get_or-set_other, sym, subst, ◌∙◌, ap}
use Rattle.std.specs.Prelude.{Contains}
use Rattle.std.proofs.lemmas.List.{get_or_default}
use Rattle.std.proofs.lemmas.List.Elements.{Contains-append_left, Contains-append_right, Contains-append_cases}
use Rattle.std.proofs.lemmas.Option.{unwrap_or-slice_get}
use Rattle.sk_base.proofs.Members.{contains_head, contains_one, nat_settles}
use Rattle.sk_base.specs.declared.Name.{Name}
use Rattle.sk_base.specs.declared.Name.TheVariants.{Con, Step}
use Rattle.sk_open_triples.specs.declared.mentions.Mentions.{Mentions}
use Rattle.sk_open_triples.specs.OpenRows.{keys_at, keys_of, AddsKey, GainsKey}

pub adds_none : (lists mid : List (List ℕ)) (key : ℕ) → ((q : ℕ) → keys_at mid q ≡ keys_at lists q) → AddsKey lists mid key
adds_none lists mid key same = record {
  stay = λ q k h. subst (λ l. Contains l k) (sym (same q)) h;
  only = λ q k h. inl (subst (λ l. Contains l k) (same q) h);
}

module _ (lists mid : List (List ℕ)) (same : (q : ℕ) → keys_at mid q ≡ keys_at lists q) (n : ℕ) (n_in : n < length mid) (key : ℕ) (here new : List ℕ) (here_is : here ≡ get_or mid n here) where
  at_number : keys_at (set mid n new) n ≡ new
  at_number = unwrap_or-slice_get (set mid n new) n [] ∙ get_or-set_same mid n new [] n_in

  at_other : (q : ℕ) → q ≢ n → keys_at (set mid n new) q ≡ keys_at lists q
  at_other q other = unwrap_or-slice_get (set mid n new) q [] ∙ get_or-set_other mid n q new [] other ∙ sym (unwrap_or-slice_get mid q []) ∙ same q

  was : here ≡ keys_at lists n
  was = here_is ∙ get_or_default mid n here [] n_in ∙ sym (unwrap_or-slice_get mid n []) ∙ same n

  pub key_put : (new ≡ here ++ key ∷ []) ⊎ (new ≡ here) → AddsKey lists (set mid n new) key
  key_put (inr is) = adds_none lists (set mid n new) key (λ q. elim (nat_settles q n) [
    | inl level ↦ subst (λ j. keys_at (set mid n new) j ≡ keys_at lists j) (sym level) (at_number ∙ is ∙ was)
    | inr other ↦ at_other q other
  ])
  key_put (inl is) =
      let grown : keys_at (set mid n new) n ≡ keys_at lists n ++ key ∷ [] = at_number ∙ is ∙ ap (λ l. l ++ key ∷ []) was in
      record {
        stay = λ q k h. elim (nat_settles q n) [
          | inl level ↦ subst (λ j. Contains (keys_at (set mid n new) j) k) (sym level)
              (subst (λ l. Contains l k) (sym grown) (Contains-append_left (keys_at lists n) (key ∷ []) k (subst (λ j. Contains (keys_at lists j) k) level h)))
          | inr other ↦ subst (λ l. Contains l k) (sym (at_other q other)) h
        ];
        only = λ q k h. elim (nat_settles q n) [
          | inl level ↦ elim (Contains-append_cases (keys_at lists n) (key ∷ []) k (subst (λ l. Contains l k) grown (subst (λ j. Contains (keys_at (set mid n new) j) k) level h))) [
            | inl before ↦ inl (subst (λ j. Contains (keys_at lists j) k) (sym level) before)
            | inr last ↦ inr (sym (contains_one key k last))
          ]
          | inr other ↦ inl (subst (λ l. Contains l k) (at_other q other) h)
        ];
      }

  pub key_there : new ≡ here ++ key ∷ [] → Contains (keys_at (set mid n new) n) key
  key_there is = subst (λ l. Contains l key) (sym (at_number ∙ is)) (Contains-append_right here (key ∷ []) key (contains_head key []))

module _ (old new : Mentions) (key : ℕ) where
  pub gains_in_constraints : AddsKey old.constraints.items new.constraints.items key → new.steps.items ≡ old.steps.items → GainsKey old new key
  gains_in_constraints adds same = record { stay = stay; only = only }
    where
      stay : (n : Name) (k : ℕ) → Contains (keys_of old n) k → Contains (keys_of new n) k
      stay (Con q) k h = adds.stay q k h
      stay (Step q) k h = subst (λ l. Contains (keys_at l q) k) (sym same) h

      only : (n : Name) (k : ℕ) → Contains (keys_of new n) k → Contains (keys_of old n) k ⊎ (k ≡ key)
      only (Con q) k h = adds.only q k h
      only (Step q) k h = inl (subst (λ l. Contains (keys_at l q) k) same h)

  pub gains_in_steps : AddsKey old.steps.items new.steps.items key → new.constraints.items ≡ old.constraints.items → GainsKey old new key
  gains_in_steps adds same = record { stay = stay; only = only }
    where
      stay : (n : Name) (k : ℕ) → Contains (keys_of old n) k → Contains (keys_of new n) k
      stay (Con q) k h = subst (λ l. Contains (keys_at l q) k) (sym same) h
      stay (Step q) k h = adds.stay q k h

      only : (n : Name) (k : ℕ) → Contains (keys_of new n) k → Contains (keys_of old n) k ⊎ (k ≡ key)
      only (Con q) k h = inl (subst (λ l. Contains (keys_at l q) k) same h)
      only (Step q) k h = adds.only q k h
