-- What holds of every family that merging leads to.
use Rattle.std.proofs.Common.{◌≡◌, inl, inr, List, [], ◌∷◌, ap, sym, subst, ◌∙◌}
use Rattle.std.specs.Prelude.{Contains}
use Rattle.sk_base.specs.declared.ConId.{ConId}
use Rattle.sk_base.specs.declared.Graph.{Graph}
use Rattle.sk_base.specs.SoundGraph.{HasRisingEdges}
use Rattle.sk_family.specs.Body.{Body, starts, IsRisingBody, join_all, starting, initial_bodies}
use Rattle.sk_base.specs.Numbering.{con_number}
use Rattle.sk_base.proofs.Members.{contains_head, contains_one, mapped_from}
use Rattle.sk_base.proofs.Unions.{rising_one}
use Rattle.sk_family.proofs.GraphStarts.{start_at, elements_rise}
use Rattle.sk_family.proofs.Bodies.{each_within, owner_of, rising_whole}
use Rattle.sk_rules.specs.Reach.{StepBy, ReachBy, Step, Reach, either_rule, stays, goes}

-- bodies that rise, each owning something, and no two the same thing
pub record IsFamily (f : List Body) : Type 0 where
  pub rising : (x : Body) → Contains f x → IsRisingBody x
  pub owns : (x : Body) → Contains f x → (k : ConId) × Contains x.owned k
  pub apart : (x y : Body) (k : ConId) → Contains f x → Contains f y → Contains x.owned k → Contains y.owned k → x ≡ y

-- what holds after each merge by a rule of a family where it held, holds of what merging leads to
pub kept_by : (rule : List Body → List Body → Type 0) (P : List Body → Type 0) → ((old new : List Body) → StepBy rule old new → P old → P new)
    → (f n : List Body) → ReachBy rule f n → P f → P n
kept_by rule P keeps f n stays h = h
kept_by rule P keeps f n (goes {mid = mid} one rest) h = kept_by rule P keeps mid n rest (keeps f mid one h)

pub kept_along : (g : Graph) (P : List Body → Type 0) → ((old new : List Body) → Step g old new → P old → P new) → (f n : List Body) → Reach g f n → P f → P n
kept_along g = kept_by (either_rule g)

-- what may merge by the rule is not nothing
abbrev pub NamesSome : (List Body → List Body → Type 0) → Type 0
NamesSome rule = (f some : List Body) → rule f some → (x : Body) × Contains some x

-- two or three bodies that may merge are some
pub some_merges : (g : Graph) → NamesSome (either_rule g)
some_merges g f [] h = absurd h
some_merges g f (a ∷ rest) h = (a, contains_head a rest)

module _ (rule : List Body → List Body → Type 0) (some : NamesSome rule) (old new : List Body) (m : StepBy rule old new) (family : IsFamily old) where
  whole : Body
  whole = join_all m.merged

  merged_rises : (x : Body) → Contains m.merged x → IsRisingBody x
  merged_rises x h = family.rising x (m.among x h)

  whole_owns : (k : ConId) × Contains whole.owned k
  unfolding whole
  whole_owns =
      let first = some old m.merged m.can_merge in
      let owned = family.owns first.0 (m.among first.0 first.1) in
      (owned.0, (each_within m.merged first.0 first.1).owned owned.0 owned.1)

  -- none that stays owns what the whole owns
  other_owner : (y : Body) (k : ConId) → Contains old y → ¬ Contains m.merged y → Contains whole.owned k → Contains y.owned k → ⊥
  unfolding whole
  other_owner y k y_in y_other whole_k y_k =
      let owner = owner_of m.merged k whole_k in
      let same : owner.0 ≡ y = family.apart owner.0 y k (m.among owner.0 owner.1) y_in owner.2 y_k in
      y_other (subst (λ z. Contains m.merged z) same owner.1)

  pub step_family_by : IsFamily new
  unfolding whole
  step_family_by = record {
    rising = λ x h. elim ((m.replaces x).0 h) [
      | inl is ↦ subst (λ z. IsRisingBody z) (sym is) (rising_whole m.merged merged_rises)
      | inr stayed ↦ family.rising x stayed.0
    ];
    owns = λ x h. elim ((m.replaces x).0 h) [
      | inl is ↦ subst (λ (z : Body). (k : ConId) × Contains z.owned k) (sym is) whole_owns
      | inr stayed ↦ family.owns x stayed.0
    ];
    apart = λ x y k x_in y_in x_k y_k. elim ((m.replaces x).0 x_in) [
      | inl x_is ↦ elim ((m.replaces y).0 y_in) [
        | inl y_is ↦ x_is ∙ sym y_is
        | inr y_stayed ↦ absurd (other_owner y k y_stayed.0 y_stayed.1 (subst (λ (z : Body). Contains z.owned k) x_is x_k) y_k)
      ]
      | inr x_stayed ↦ elim ((m.replaces y).0 y_in) [
        | inl y_is ↦ absurd (other_owner x k x_stayed.0 x_stayed.1 (subst (λ (z : Body). Contains z.owned k) y_is y_k) x_k)
        | inr y_stayed ↦ family.apart x y k x_stayed.0 y_stayed.0 x_k y_k
      ]
    ];
  }

pub step_family : (g : Graph) (old new : List Body) → Step g old new → IsFamily old → IsFamily new
step_family g = step_family_by (either_rule g) (some_merges g)

pub initial_family : (g : Graph) → HasRisingEdges g → IsFamily (initial_bodies g)
initial_family g rises = record {
  rising = λ x h. (let found = mapped_from starting (starts g) x h in subst (λ z. IsRisingBody z) found.2 (record {
    elements = elements_rise g found.0 found.1;
    owned = rising_one con_number found.0.number;
  }));
  owns = λ x h. (let found = mapped_from starting (starts g) x h in subst (λ (z : Body). (k : ConId) × Contains z.owned k) found.2 (found.0.number, contains_head found.0.number []));
  apart = λ x y k x_in y_in x_k y_k. (
      let one = mapped_from starting (starts g) x x_in in
      let other = mapped_from starting (starts g) y y_in in
      let one_id : one.0.number ≡ k = contains_one one.0.number k (subst (λ (z : Body). Contains z.owned k) (sym one.2) x_k) in
      let other_id : other.0.number ≡ k = contains_one other.0.number k (subst (λ (z : Body). Contains z.owned k) (sym other.2) y_k) in
      sym one.2 ∙ ap starting (start_at g rises one.0 other.0 one.1 other.1 (one_id ∙ sym other_id)) ∙ other.2);
}
