-- Elements that stay without a mark, along a list.
use Rattle.std.proofs.Common.{◌≡◌, ◌≢◌, ◌⊎◌, inl, inr, ℕ, ◌+◌, ◌<◌, ◌≤◌, Bool, List, [], ◌∷◌, ◌++◌, length, get_or, take, sym, subst}
use Rattle.std.specs.Prelude.{◌↔◌, All}
use Rattle.std.proofs.lemmas.List.{take_all, take_more}
use Rattle.std.proofs.lemmas.List.Elements.{All-contains, All-from_get_or, All-nil, All-push, Contains-append_left, Contains-append_right, Contains-get_or}
use Rattle.sk_base.specs.declared.Elem.{Elem}
use Rattle.sk_base.proofs.Members.{contains_head}
use Rattle.sk_triangles.specs.Marks.{IsMarked}
use Rattle.sk_verdict.specs.Leaving.{LeavesOut}

-- one element is marked
pub one_left : (x : Elem) (old new : List Bool) → ((e : Elem) → IsMarked new e ↔ (IsMarked old e ⊎ (e ≡ x))) → LeavesOut (λ e. x ≢ e) old new
one_left x old new marked e = (
  (λ h. ((λ was. h ((marked e).1 (inl was))), (λ same. h ((marked e).1 (inr (sym same)))))),
  (λ (none, other) is. elim ((marked e).0 is) [ inl was ↦ none was | inr here ↦ other (sym here) ]),
)

-- one kind after another
pub both_left : (kind other : Elem → Type 0) (old mid new : List Bool) → LeavesOut kind old mid → LeavesOut other mid new → LeavesOut (λ e. kind e × other e) old new
both_left kind other old mid new first then e = (
  (λ h. (let m = (then e).0 h in let f = (first e).0 m.0 in (f.0, (f.1, m.1)))),
  (λ (none, (one, two)). (then e).1 ((first e).1 (none, one), two)),
)

-- where nothing is marked at first, what stays without a mark is of the kind
pub none_before : (kind : Elem → Type 0) (old new : List Bool) → ((e : Elem) → ¬ IsMarked old e) → LeavesOut kind old new → (e : Elem) → (¬ IsMarked new e) ↔ kind e
none_before kind old new none left e = ((λ h. ((left e).0 h).1), (λ is. (left e).1 (none e, is)))

module _ {X : Type 0} (kind : X → Elem → Type 0) (xs : List X) where
  abbrev Each : List X → Elem → Type 0
  Each ys e = All (λ x. kind x e) ys

  pub left_start : (old : List Bool) → LeavesOut (Each (take 0 xs)) old old
  left_start old e = ((λ h. (h, All-nil (λ x. kind x e))), (λ h. h.0))

  -- one more item
  pub left_step : (old mid new : List Bool) (i : ℕ) (d : X) → i < length xs → LeavesOut (Each (take i xs)) old mid → LeavesOut (kind (get_or xs i d)) mid new → LeavesOut (Each (take (i + 1) xs)) old new
  left_step old mid new i d i_in so_far one e =
      let x = get_or xs i d in
      let split : take (i + 1) xs ≡ take i xs ++ x ∷ [] = take_more xs i d i_in in (
        (λ h. (let m = (one e).0 h in let f = (so_far e).0 m.0 in
            (f.0, subst (λ l. Each l e) (sym split) (All-push (λ y. kind y e) (take i xs) x f.1 m.1)))),
        (λ (none, all). (
            let whole = subst (λ l. Each l e) split all in
            let front : Each (take i xs) e = All-from_get_or (λ y. kind y e) (take i xs) d (λ j j_in.
            All-contains (λ y. kind y e) (take i xs ++ x ∷ []) (get_or (take i xs) j d) whole (Contains-append_left (take i xs) (x ∷ []) (get_or (take i xs) j d) (Contains-get_or (take i xs) j d j_in))) in
            let last = All-contains (λ y. kind y e) (take i xs ++ x ∷ []) x whole (Contains-append_right (take i xs) (x ∷ []) x (contains_head x [])) in
            (one e).1 ((so_far e).1 (none, front), last))),
      )

  pub left_end : (old new : List Bool) (i : ℕ) → length xs ≤ i → LeavesOut (Each (take i xs)) old new → LeavesOut (Each xs) old new
  left_end old new i over so_far = subst (λ l. LeavesOut (Each l) old new) (take_all i xs over) so_far
