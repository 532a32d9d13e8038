-- What is told of alternatives, one behind another.
use Rattle.std.proofs.Common.{◌≡◌, ℕ, ◌+◌, ◌<◌, List, ◌∷◌, ◌++◌, length, get_or, drop, ap, sym, ◌∙◌}
use Rattle.std.proofs.lemmas.List.{drop_more, append_assoc}
use Rattle.sk_base.specs.declared.Sketch.{Sketch}
use Rattle.sk_solve.specs.declared.Alternative.{Alternative}
use Rattle.sk_cli.specs.FlipsReport.{alternative_report, alternatives_from}

-- with what is told of the others, the text so far is that of all, and so many are told
pub record ToldSoFar (s : Sketch) (bits : ℕ) (found : List Alternative) (place number : ℕ) (text : List ℕ) : Type 0 where
  pub count : number ≡ place
  pub whole : text ++ alternatives_from s bits (number + 1) (drop place found) ≡ alternatives_from s bits 1 found

pub told_next : (s : Sketch) (bits : ℕ) (found : List Alternative) (place number : ℕ) (a : Alternative) (before after : List ℕ) → place < length found → a ≡ get_or found place a
    → after ≡ before ++ alternative_report s (number + 1) bits a → ToldSoFar s bits found place number before → ToldSoFar s bits found (place + 1) (number + 1) after
told_next s bits found place number a before after within is put so_far =
    let here : drop place found ≡ a ∷ drop (place + 1) found = drop_more found place a within ∙ ap (λ z. z ∷ drop (place + 1) found) (sym is) in
    record {
      count = ap (λ n. n + 1) so_far.count;
      whole = ap (λ zs. zs ++ alternatives_from s bits (number + 1 + 1) (drop (place + 1) found)) put
          ∙ append_assoc before (alternative_report s (number + 1) bits a) (alternatives_from s bits (number + 1 + 1) (drop (place + 1) found))
          ∙ ap (λ zs. before ++ alternatives_from s bits (number + 1) zs) (sym here) ∙ so_far.whole;
    }
