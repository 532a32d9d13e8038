-- The steps that words name, one word after another.
use Rattle.std.proofs.Common.{◌≡◌, ℕ, ◌+◌, ◌<◌, ◌≤◌, false, List, [], ◌∷◌, ◌++◌, length, map, take, drop, get_or, Option, Some, refl, sym, ap, subst, ◌∙◌, arith}
use Rattle.std.specs.Prelude.{is_none, unwrap_or}
use Rattle.std.specs.List.{list_any}
use Rattle.std.proofs.lemmas.List.{take_more, length-take, map-append}
use Rattle.std.proofs.lemmas.List.Folds.{list_any-append}
use Rattle.sk_base.specs.declared.Name.{Name}
use Rattle.sk_base.specs.declared.Name.TheVariants.{Step}
use Rattle.sk_flips.specs.FlipLines.{step_of, step_named, is_no_step}

-- the words behind the first, up to a place, name steps, which are these
pub record AreNamed (words : List (List ℕ)) (place : ℕ) (names : List Name) : Type 0 where
  pub some : 1 ≤ place
  pub good : list_any is_no_step (drop 1 (take place words)) ≡ false
  pub are : names ≡ map step_named (drop 1 (take place words))

push_behind : (words : List (List ℕ)) (word : List ℕ) → 1 ≤ length words → drop 1 (words ++ word ∷ []) ≡ drop 1 words ++ word ∷ []
push_behind [] word some = absurd (omega arith)
push_behind (first ∷ words) word some = refl

more_behind : (words : List (List ℕ)) (place : ℕ) → 1 ≤ place → place < length words → drop 1 (take (place + 1) words) ≡ drop 1 (take place words) ++ get_or words place [] ∷ []
more_behind words place some inside =
    let size = length-take place words in
    ap (drop 1) (take_more words place [] inside) ∙ push_behind (take place words) (get_or words place []) (omega (arith, size))

pub is_step : (word : List ℕ) (name : Name) → step_of word ≡ Some name → (is_no_step word ≡ false) × (step_named word ≡ name)
is_step word name is = (ap is_none is, ap (λ (o : Option Name). unwrap_or o (Step 0)) is)

pub named_next : (words : List (List ℕ)) (place : ℕ) (names : List Name) (word : List ℕ) (name : Name) → AreNamed words place names → place < length words → word ≡ get_or words place [] → step_of word ≡ Some name
    → AreNamed words (place + 1) (names ++ name ∷ [])
named_next words place names word name so_far inside here is =
    let more = more_behind words place so_far.some inside in
    let step = is_step (get_or words place []) name (subst (λ (w : List ℕ). step_of w ≡ Some name) here is) in
    record {
      some = omega (arith, so_far.some);
      good = rw (more, list_any-append is_no_step (drop 1 (take place words)) (get_or words place [] ∷ []), so_far.good, step.0) refl;
      are = rw more (ap (λ (ns : List Name). ns ++ name ∷ []) so_far.are ∙ (ap (λ (n : Name). map step_named (drop 1 (take place words)) ++ n ∷ []) (sym step.1) ∙ sym (map-append step_named (drop 1 (take place words)) (get_or words place [] ∷ []))));
    }
