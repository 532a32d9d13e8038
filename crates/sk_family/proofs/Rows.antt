-- Items that are put into a list, taken out of it or exchanged, behind a front that is dropped.
use Rattle.std.proofs.Common.{◌≡◌, ◌∙◌, ℕ, zero, suc, ◌+◌, ◌<◌, ◌≤◌, List, [], ◌∷◌, length, length-drop, get_or, drop, ap, sym, arith}
use Rattle.std.proofs.Math.ListN.{set}
use Rattle.std.specs.Prelude.{insert, remove}
use Rattle.std.specs.List.{swap}
use Rattle.std.proofs.lemmas.List.{drop-set-add, get_or-drop}
use Rattle.std.proofs.lemmas.List.Edits.{swap_is}

module _ {X : Type 0} where
  pub drop_inserted : (i j n : ℕ) (xs : List X) (x : X) → n ≡ i + j → i ≤ length xs → drop i (insert xs n x) ≡ insert (drop i xs) j x
  drop_inserted zero j n xs x is within = (let level : n ≡ j = omega arith in ap (λ m. insert xs m x) level)
  drop_inserted (suc i) j n [] x is within = absurd (omega arith)
  drop_inserted (suc i) j zero (y ∷ ys) x is within = absurd (omega arith)
  drop_inserted (suc i) j (suc n) (y ∷ ys) x is within = drop_inserted i j n ys x (omega arith) (omega arith)

  pub drop_removed : (i j n : ℕ) (xs : List X) → n ≡ i + j → i ≤ length xs → drop i (remove xs n) ≡ remove (drop i xs) j
  drop_removed zero j n xs is within = (let level : n ≡ j = omega arith in ap (λ m. remove xs m) level)
  drop_removed (suc i) j n [] is within = absurd (omega arith)
  drop_removed (suc i) j zero (y ∷ ys) is within = absurd (omega arith)
  drop_removed (suc i) j (suc n) (y ∷ ys) is within = drop_removed i j n ys (omega arith) (omega arith)

  pub drop_swapped : (n i j : ℕ) (xs : List X) → i < length (drop n xs) → j < length (drop n xs) → drop n (swap xs (n + i) (n + j)) ≡ swap (drop n xs) i j
  drop_swapped n i j [] i_in j_in = (let none : List X = [] in let long = length-drop n none in absurd (omega (arith, i_in, long)))
  drop_swapped n i j (d ∷ ds) i_in j_in =
      let xs : List X = d ∷ ds in
      let long = length-drop n xs in
      ap (λ l. drop n l) (sym (swap_is xs (n + i) (n + j) d (omega (arith, long, i_in)) (omega (arith, long, j_in))))
      ∙ drop-set-add n (set xs (n + i) (get_or xs (n + j) d)) j (get_or xs (n + i) d)
      ∙ ap (λ l. set l j (get_or xs (n + i) d)) (drop-set-add n xs i (get_or xs (n + j) d))
      ∙ ap (λ a. set (set (drop n xs) i a) j (get_or xs (n + i) d)) (sym (get_or-drop n xs j d))
      ∙ ap (λ b. set (set (drop n xs) i (get_or (drop n xs) j d)) j b) (sym (get_or-drop n xs i d))
      ∙ swap_is (drop n xs) i j d i_in j_in
