use Rattle.std.proofs.Common.{◌≡◌, ◌∙◌, ◌++◌, ◌∷◌, [], ℕ, List, ap, rules}
use Rattle.std.specs.Prelude.{◌==◌, filter, not}
use Rattle.std.proofs.lemmas.Fn.{filter_same}
use Rattle.sk_open_triples.proofs.rows.put_last.Goals as goal

pub returns : goal.returns
returns c =
    let left : c.retain.new.self.items ≡ filter (λ (k : ℕ). not (k == c.args.key)) c.in_ok-put.put.items = filter_same _ _ _ (λ m b f' k. search rules) _ _ c.retain.ensures.filtered in
    c.in_ok-push.ensures.items ∙ ap (λ (l : List ℕ). l ++ c.args.key ∷ []) (left ∙ ap (λ (l : List ℕ). filter (λ (k : ℕ). not (k == c.args.key)) l) c.in_ok-put.ensures.items)
