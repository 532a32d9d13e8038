-- What stands behind the first of a few items.
use Rattle.std.proofs.Common.{◌≡◌, ◌∙◌, ℕ, ◌+◌, List, [], ◌∷◌, length, get_or, drop, refl, sym, arith, add-one, length-drop}
use Rattle.std.proofs.lemmas.List.{get_or-drop}

module _ {X : Type 0} (any : X) where
  pub rest_two : (ws : List X) (a b : X) → length ws ≡ 3 → a ≡ get_or ws 1 any → b ≡ get_or ws 2 any → drop 1 ws ≡ a ∷ b ∷ []
  rest_two [] a b len p q = absurd (omega arith)
  rest_two (w0 ∷ []) a b len p q = absurd (omega arith)
  rest_two (w0 ∷ w1 ∷ []) a b len p q = absurd (omega arith)
  rest_two (w0 ∷ w1 ∷ w2 ∷ []) a b len p q = rw (p, q) refl
  rest_two (w0 ∷ w1 ∷ w2 ∷ w3 ∷ more) a b len p q = absurd (omega arith)

  -- one place further
  more_at : (ws : List X) (w : X) (i : ℕ) → get_or (w ∷ ws) (i + 1) any ≡ get_or ws i any
  more_at ws w i = rw add-one refl

  rest_first : (ws : List X) (n : ℕ) (a : X) (rest : List X) → length ws ≡ n + 2 → a ≡ get_or ws 1 any → drop 1 (drop 1 ws) ≡ rest → drop 1 ws ≡ a ∷ rest
  rest_first [] n a rest len p q = absurd (omega arith)
  rest_first (w0 ∷ []) n a rest len p q = absurd (omega arith)
  rest_first (w0 ∷ w1 ∷ ws) n a rest len p q = rw (p, ← q) refl

  pub rest_three : (ws : List X) (a b c : X) → length ws ≡ 4 → a ≡ get_or ws 1 any → b ≡ get_or ws 2 any → c ≡ get_or ws 3 any → drop 1 ws ≡ a ∷ b ∷ c ∷ []
  rest_three ws a b c len p q r = rest_first ws 2 a (b ∷ c ∷ []) len p (rest_two (drop 1 ws) b c (rw length-drop (omega arith)) (q ∙ sym (get_or-drop 1 ws 1 any)) (r ∙ sym (get_or-drop 1 ws 2 any)))

  pub rest_four : (ws : List X) (a b c d : X) → length ws ≡ 5 → a ≡ get_or ws 1 any → b ≡ get_or ws 2 any → c ≡ get_or ws 3 any → d ≡ get_or ws 4 any → drop 1 ws ≡ a ∷ b ∷ c ∷ d ∷ []
  rest_four ws a b c d len p q r s = rest_first ws 3 a (b ∷ c ∷ d ∷ []) len p (rest_three (drop 1 ws) b c d (rw length-drop (omega arith)) (q ∙ sym (get_or-drop 1 ws 1 any)) (r ∙ sym (get_or-drop 1 ws 2 any)) (s ∙ sym (get_or-drop 1 ws 3 any)))

  pub rest_five : (ws : List X) (a b c d e : X) → length ws ≡ 6 → a ≡ get_or ws 1 any → b ≡ get_or ws 2 any → c ≡ get_or ws 3 any → d ≡ get_or ws 4 any → e ≡ get_or ws 5 any → drop 1 ws ≡ a ∷ b ∷ c ∷ d ∷ e ∷ []
  rest_five ws a b c d e len p q r s t = rest_first ws 4 a (b ∷ c ∷ d ∷ e ∷ []) len p (rest_four (drop 1 ws) b c d e (rw length-drop (omega arith)) (q ∙ sym (get_or-drop 1 ws 1 any)) (r ∙ sym (get_or-drop 1 ws 2 any)) (s ∙ sym (get_or-drop 1 ws 3 any)) (t ∙ sym (get_or-drop 1 ws 4 any)))
