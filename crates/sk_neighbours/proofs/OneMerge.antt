-- Names have one merge at most, in whatever order they come.
use Rattle.std.proofs.Common.{◌≡◌, inl, inr, List, [], ◌∷◌, length, refl, sym, ap, subst, ◌∙◌}
use Rattle.std.specs.Prelude.{⊤, Contains}
use Rattle.sk_base.specs.declared.Name.{Name}
use Rattle.sk_base.specs.ClusterNames.{IsBelow}
use Rattle.sk_base.proofs.Members.{contains_none, contains_head, contains_later, contains_one, contains_cases}
use Rattle.sk_family.proofs.Naming.{below_irreflexive, below_asymmetric, below_chain}
use Rattle.sk_family.specs.declared.Merge.{Merge}
use Rattle.sk_family.specs.declared.Merge.TheVariants.{Two, Three}
use Rattle.sk_family.specs.Merges.{names_of, Falls, IsMergeOf}

-- each name is above all that follow
abbrev AllFall : List Name → Type 0
AllFall [] = ⊤
AllFall (n ∷ names) = ((k : Name) → Contains names k → IsBelow k n) × AllFall names

same_first : (x y : Name) (xs ys : List Name) → AllFall (x ∷ xs) → AllFall (y ∷ ys) → Contains (y ∷ ys) x → Contains (x ∷ xs) y → x ≡ y
same_first x y xs ys left right x_in y_in =
    elim (contains_cases y ys x x_in) [
      | inl here ↦ sym here
      | inr later ↦ elim (contains_cases x xs y y_in) [
        | inl here ↦ here
        | inr after ↦ absurd (below_asymmetric x y (right.0 x later) (left.0 y after))
      ]
    ]

same_later : (x y : Name) (xs ys : List Name) → x ≡ y → AllFall (x ∷ xs) → ((n : Name) → Contains (x ∷ xs) n → Contains (y ∷ ys) n) → (n : Name) → Contains xs n → Contains ys n
same_later x y xs ys same left to n h =
    elim (contains_cases y ys n (to n (contains_later x xs n h))) [
      | inl here ↦ absurd (below_irreflexive n (subst (λ (m : Name). IsBelow n m) (same ∙ here) (left.0 n h)))
      | inr later ↦ later
    ]

-- falling names are known by what they contain
same_names : (xs ys : List Name) → AllFall xs → AllFall ys → ((n : Name) → Contains xs n → Contains ys n) → ((n : Name) → Contains ys n → Contains xs n) → xs ≡ ys
same_names [] [] left right to from = refl
same_names [] (y ∷ ys) left right to from = absurd (contains_none y (from y (contains_head y ys)))
same_names (x ∷ xs) [] left right to from = absurd (contains_none x (to x (contains_head x xs)))
same_names (x ∷ xs) (y ∷ ys) left right to from =
    let first = same_first x y xs ys left right (to x (contains_head x xs)) (from y (contains_head y ys)) in
    let rest = same_names xs ys left.1 right.1 (same_later x y xs ys first left to) (same_later y x ys xs (sym first) right from) in
    ap (λ (n : Name). n ∷ xs) first ∙ ap (λ (ns : List Name). y ∷ ns) rest

one_below : (x y : Name) → IsBelow y x → (k : Name) → Contains (y ∷ []) k → IsBelow k x
one_below x y below k h = subst (λ (m : Name). IsBelow m x) (contains_one y k h) below

two_below : (x y z : Name) → IsBelow y x → IsBelow z y → (k : Name) → Contains (y ∷ z ∷ []) k → IsBelow k x
two_below x y z above below k h =
    elim (contains_cases y (z ∷ []) k h) [
      | inl here ↦ subst (λ (m : Name). IsBelow m x) here above
      | inr later ↦ one_below x z (below_chain z y x below above) k later
    ]

none_below : (x k : Name) → Contains [] k → IsBelow k x
none_below x k h = absurd (contains_none k h)

all_fall : (m : Merge) → Falls m → AllFall (names_of m)
all_fall (Two x y) falls = (one_below x y falls, (none_below y, tt))
all_fall (Three x y z) falls = (two_below x y z falls.0 falls.1, (one_below y z falls.1, (none_below z, tt)))

same_merge : (m n : Merge) → names_of m ≡ names_of n → m ≡ n
same_merge (Two x y) (Two u v) e = cc
same_merge (Two x y) (Three u v w) e = cc
same_merge (Three x y z) (Two u v) e = cc
same_merge (Three x y z) (Three u v w) e = cc

-- names have one merge at most
pub one_merge : (names : List Name) (m n : Merge) → IsMergeOf names m → IsMergeOf names n → m ≡ n
one_merge names m n left right =
    same_merge m n (same_names (names_of m) (names_of n) (all_fall m left.falls) (all_fall n right.falls)
    (λ k h. (right.same k).1 ((left.same k).0 h)) (λ k h. (left.same k).1 ((right.same k).0 h)))

-- three names, begun at the next one, and with the first two exchanged
turned : (a b c n : Name) → Contains (a ∷ b ∷ c ∷ []) n → Contains (b ∷ c ∷ a ∷ []) n
turned a b c n h =
    elim (contains_cases a (b ∷ c ∷ []) n h) [
      | inl here ↦ contains_later b (c ∷ a ∷ []) n (contains_later c (a ∷ []) n (subst (λ (k : Name). Contains (a ∷ []) k) here (contains_head a [])))
      | inr later ↦ elim (contains_cases b (c ∷ []) n later) [
        | inl here ↦ subst (λ (k : Name). Contains (b ∷ c ∷ a ∷ []) k) here (contains_head b (c ∷ a ∷ []))
        | inr last ↦ contains_later b (c ∷ a ∷ []) n (subst (λ (k : Name). Contains (c ∷ a ∷ []) k) (contains_one c n last) (contains_head c (a ∷ [])))
      ]
    ]

exchanged : (a b c n : Name) → Contains (a ∷ b ∷ c ∷ []) n → Contains (b ∷ a ∷ c ∷ []) n
exchanged a b c n h =
    elim (contains_cases a (b ∷ c ∷ []) n h) [
      | inl here ↦ contains_later b (a ∷ c ∷ []) n (subst (λ (k : Name). Contains (a ∷ c ∷ []) k) here (contains_head a (c ∷ [])))
      | inr later ↦ elim (contains_cases b (c ∷ []) n later) [
        | inl here ↦ subst (λ (k : Name). Contains (b ∷ a ∷ c ∷ []) k) here (contains_head b (a ∷ c ∷ []))
        | inr last ↦ contains_later b (a ∷ c ∷ []) n (contains_later a (c ∷ []) n last)
      ]
    ]

-- their merge is the same
pub merge_turned : (a b c : Name) (m : Merge) → IsMergeOf (a ∷ b ∷ c ∷ []) m → IsMergeOf (b ∷ c ∷ a ∷ []) m
merge_turned a b c m is = record {
  falls = is.falls;
  as_many = is.as_many;
  same = λ n. ((λ h. turned a b c n ((is.same n).0 h)), (λ h. (is.same n).1 (turned c a b n (turned b c a n h))));
}

pub merge_exchanged : (a b c : Name) (m : Merge) → IsMergeOf (a ∷ b ∷ c ∷ []) m → IsMergeOf (b ∷ a ∷ c ∷ []) m
merge_exchanged a b c m is = record {
  falls = is.falls;
  as_many = is.as_many;
  same = λ n. ((λ h. exchanged a b c n ((is.same n).0 h)), (λ h. (is.same n).1 (exchanged b a c n h)));
}

-- three names that fall are one
pub falling_merge : (a b c : Name) → IsBelow b a → IsBelow c b → IsMergeOf (a ∷ b ∷ c ∷ []) (Three a b c)
falling_merge a b c b_a c_b = record { falls = (b_a, c_b); as_many = refl; same = λ n. ((λ h. h), (λ h. h)) }
