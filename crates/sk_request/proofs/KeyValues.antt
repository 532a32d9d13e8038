-- What the values of a key say.
use Rattle.std.proofs.Common.{◌≡◌, ℕ, List, [], ◌∷◌, ◌++◌, refl, ap, sym, subst, ◌∙◌}
use Rattle.std.specs.Prelude.{Option, None, Some, unwrap_or}
use Rattle.std.specs.List.{cons_option}
use Rattle.std.proofs.lemmas.List.Elements.{filter_map-append}
use Rattle.sk_request.specs.Asking.{Key, key_name, behind, values_of, Says, IsSet}
use Rattle.sk_request.specs.Settings.{Sets}

-- one word more has its value, or none
pub values_more : (key : Key) (words : List (List ℕ)) (word : List ℕ) (rest : List (List ℕ))
    → values_of key (words ++ word ∷ rest) ≡ values_of key words ++ cons_option (behind (key_name key) word) (values_of key rest)
values_more key words word rest = filter_map-append (behind (key_name key)) words (word ∷ rest)

module _ {X : Type 0} (Is : List ℕ → X → Type 0) where
  pub set_more : (values : List (List ℕ)) (value : Option (List ℕ)) (before after : Option X) → IsSet Is values before → Sets Is value before after → IsSet Is (values ++ cons_option value []) after
  set_more [] None None after set sets = subst (λ o. IsSet Is [] o) (sym sets) tt
  set_more [] None (Some x) after set sets = absurd set
  set_more (v ∷ []) None (Some x) after set sets = subst (λ o. IsSet Is (v ∷ []) o) (sym sets) set
  set_more (v ∷ []) None None after set sets = absurd set
  set_more (v ∷ w ∷ more) None before after set sets = absurd set
  set_more [] (Some value) None after set (x, is, none, some) = subst (λ o. IsSet Is (value ∷ []) o) (sym some) is
  set_more [] (Some value) (Some y) after set (x, is, none, some) = absurd set
  set_more (v ∷ []) (Some value) None after set (x, is, none, some) = absurd set
  set_more (v ∷ []) (Some value) (Some y) after set (x, is, none, some) = cc
  set_more (v ∷ w ∷ more) (Some value) before after set (x, is, none, some) = absurd set

  -- what is said with one word more can be set
  pub set_back : (default x : X) (values : List (List ℕ)) (value : Option (List ℕ)) (rest : List (List ℕ)) (before : Option X)
      → Says Is default (values ++ cons_option value rest) x → IsSet Is values before → (after : Option X) × Sets Is value before after
  set_back default x values None rest before says set = (before, refl)
  set_back default x [] (Some value) [] None says set = (Some x, (x, says, refl, refl))
  set_back default x [] (Some value) (w ∷ rest) None says set = absurd says
  set_back default x [] (Some value) rest (Some y) says set = absurd set
  set_back default x (v ∷ []) (Some value) rest before says set = absurd says
  set_back default x (v ∷ w ∷ more) (Some value) rest before says set = absurd says

  -- the same for a key without a default
  pub set_back_alone : (x : Option X) (values : List (List ℕ)) (value : Option (List ℕ)) (rest : List (List ℕ)) (before : Option X)
      → IsSet Is (values ++ cons_option value rest) x → IsSet Is values before → (after : Option X) × Sets Is value before after
  set_back_alone x values None rest before says set = (before, refl)
  set_back_alone None [] (Some value) [] None says set = absurd says
  set_back_alone (Some y) [] (Some value) [] None says set = (Some y, (y, says, refl, refl))
  set_back_alone x [] (Some value) (w ∷ rest) None says set = absurd says
  set_back_alone x [] (Some value) rest (Some y) says set = absurd set
  set_back_alone x (v ∷ []) (Some value) rest before says set = absurd says
  set_back_alone x (v ∷ w ∷ more) (Some value) rest before says set = absurd says

  pub one_set : ((value : List ℕ) (x y : X) → Is value x → Is value y → x ≡ y) → (values : List (List ℕ)) (x y : Option X) → IsSet Is values x → IsSet Is values y → x ≡ y
  one_set one [] None None first second = refl
  one_set one [] None (Some y) first second = absurd second
  one_set one [] (Some x) y first second = absurd first
  one_set one (v ∷ []) (Some x) (Some y) first second = ap Some (one v x y first second)
  one_set one (v ∷ []) (Some x) None first second = absurd second
  one_set one (v ∷ []) None y first second = absurd first
  one_set one (v ∷ w ∷ more) x y first second = absurd first

  -- what is set is said
  pub said : (default : X) (values : List (List ℕ)) (found : Option X) → IsSet Is values found → Says Is default values (unwrap_or found default)
  said default [] None set = refl
  said default [] (Some x) set = absurd set
  said default (v ∷ []) (Some x) set = set
  said default (v ∷ []) None set = absurd set
  said default (v ∷ w ∷ more) found set = absurd set

  pub one_said : ((value : List ℕ) (x y : X) → Is value x → Is value y → x ≡ y) → (default : X) (values : List (List ℕ)) (x y : X) → Says Is default values x → Says Is default values y → x ≡ y
  one_said one default [] x y first second = first ∙ sym second
  one_said one default (v ∷ []) x y first second = one v x y first second
  one_said one default (v ∷ w ∷ more) x y first second = absurd first
