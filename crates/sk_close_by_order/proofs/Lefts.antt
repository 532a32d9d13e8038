-- The rules look at the named clusters alone, so a merge of others changes nothing of them.
use Rattle.std.proofs.Common.{◌≡◌, ◌≢◌, refl, zero, suc, List, [], ◌∷◌, Bool, true, false, ap, sym, subst, arith}
use Rattle.std.specs.Prelude.{not, ◌||◌}
use Rattle.std.proofs.lemmas.List.Elements.{Contains-append_left}
use Rattle.sk_base.specs.declared.Name.{Name}
use Rattle.sk_base.specs.declared.Name.TheVariants.{Step}
use Rattle.sk_base.specs.declared.Graph.{Graph}
use Rattle.sk_base.specs.ClusterNames.{IsBelow, is_named}
use Rattle.sk_family.specs.declared.Cluster.{Cluster}
use Rattle.sk_family.specs.Clusters.{Clusters, IsNamed, IsSound, unnamed, whole_from, replaced, IsWithin}
use Rattle.sk_base.proofs.Members.{contains_head, contains_later, contains_filtered, filtered_from}
use Rattle.sk_family.proofs.Naming.{below_chain, below_others}
use Rattle.sk_base.proofs.Pairs.{pairs_filter}
use Rattle.sk_family.specs.declared.Merge.{Merge}
use Rattle.sk_family.specs.declared.Merge.TheVariants.{Two, Three}
use Rattle.sk_rules.specs.Merges.{Holds, CanTake}
use Rattle.sk_open_triples.specs.MergeOrder.{ComesFirst}
use Rattle.sk_open_triples.specs.Avoiding.{names_one_of, avoiding}
use Rattle.sk_close_by_order.specs.Known.{IsLeft, Avoids, AreKept, NoPairBelow}
use Rattle.sk_family.proofs.Lasting.{old_before, named_before, not_next, named_below_next}

is_false : (b : Bool) → not b ≡ true → b ≡ false
is_false true h = absurd (cc)
is_false false h = refl

none_of_three : (p q r : Bool) → not (p || (q || r)) ≡ true → (p ≡ false) × (q ≡ false) × (r ≡ false)
none_of_three true q r h = absurd (cc)
none_of_three false true r h = absurd (cc)
none_of_three false false true h = absurd (cc)
none_of_three false false false h = (refl, refl, refl)

all_three : (p q r : Bool) → p ≡ false → q ≡ false → r ≡ false → not (p || (q || r)) ≡ true
all_three true q r h i j = absurd (cc)
all_three false true r h i j = absurd (cc)
all_three false false true h i j = absurd (cc)
all_three false false false h i j = refl

module _ (f : Clusters) (gone : List Name) where
  stays : Cluster → Bool
  stays d = not (is_named gone d.name)

  pub named_after : (n : Name) → IsLeft f gone n → (c : Cluster) → IsNamed f n c → IsNamed (replaced f gone) n c
  named_after n left c is = record {
    lives = Contains-append_left (unnamed gone f.live) (whole_from (Step f.next_step) gone f.live ∷ []) c
        (contains_filtered (λ (d : Cluster). not (is_named gone d.name)) f.live c is.lives
        (ap not (subst (λ l. is_named gone l ≡ false) (sym is.has_name) left.not_gone)));
    has_name = is.has_name;
  }

  pub left_of : (n : Name) → n ≢ Step f.next_step → (c : Cluster) → IsNamed (replaced f gone) n c → IsLeft f gone n
  left_of n other c is = record {
    not_gone = subst (λ l. is_named gone l ≡ false) is.has_name
        (is_false (is_named gone c.name) (filtered_from (λ (d : Cluster). not (is_named gone d.name)) f.live c (old_before f gone n other c is)).1);
    not_new = other;
  }

  pub holds_after : (g : Graph) (m : Merge) → Avoids f gone m → Holds g f m → Holds g (replaced f gone) m
  holds_after g (Two x y) left (a, b, a_is, b_is, two) =
      (a, b, named_after x (left x (contains_head x (y ∷ []))) a a_is, named_after y (left y (contains_later x (y ∷ []) y (contains_head y []))) b b_is, two)
  holds_after g (Three x y z) left (a, b, c, a_is, b_is, c_is, meets) = (
    a,
    b,
    c,
    named_after x (left x (contains_head x (y ∷ z ∷ []))) a a_is,
    named_after y (left y (contains_later x (y ∷ z ∷ []) y (contains_head y (z ∷ [])))) b b_is,
    named_after z (left z (contains_later x (y ∷ z ∷ []) z (contains_later y (z ∷ []) z (contains_head z [])))) c c_is,
    meets,
  )

  pub holds_before : (g : Graph) (m : Merge) → Avoids f gone m → Holds g (replaced f gone) m → Holds g f m
  holds_before g (Two x y) left (a, b, a_is, b_is, two) =
      (a, b, named_before f gone x (left x (contains_head x (y ∷ []))).not_new a a_is, named_before f gone y (left y (contains_later x (y ∷ []) y (contains_head y []))).not_new b b_is, two)
  holds_before g (Three x y z) left (a, b, c, a_is, b_is, c_is, meets) = (
    a,
    b,
    c,
    named_before f gone x (left x (contains_head x (y ∷ z ∷ []))).not_new a a_is,
    named_before f gone y (left y (contains_later x (y ∷ z ∷ []) y (contains_head y (z ∷ [])))).not_new b b_is,
    named_before f gone z (left z (contains_later x (y ∷ z ∷ []) z (contains_later y (z ∷ []) z (contains_head z [])))).not_new c c_is,
    meets,
  )

  three_left : (x y z : Name) → IsLeft f gone x → IsLeft f gone y → IsLeft f gone z → Avoids f gone (Three x y z)
  three_left x y z lx ly lz n (zero, below, is) = subst (λ l. IsLeft f gone l) is lx
  three_left x y z lx ly lz n (suc zero, below, is) = subst (λ l. IsLeft f gone l) is ly
  three_left x y z lx ly lz n (suc (suc zero), below, is) = subst (λ l. IsLeft f gone l) is lz
  three_left x y z lx ly lz n (suc (suc (suc k)), below, is) = absurd (omega arith)

  module _ (g : Graph) (sound : IsSound f) where
    right_three : (x y z : Name) → CanTake g f (Three x y z) → not (names_one_of gone (Three x y z)) ≡ true → CanTake g (replaced f gone) (Three x y z)
    right_three x y z (falls, (a, b, c, a_is, b_is, c_is, meets)) apart =
        let none = none_of_three (is_named gone x) (is_named gone y) (is_named gone z) apart in
        let lx : IsLeft f gone x = record { not_gone = none.0; not_new = not_next f x (named_below_next f sound x a a_is) } in
        let ly : IsLeft f gone y = record { not_gone = none.1; not_new = not_next f y (named_below_next f sound y b b_is) } in
        let lz : IsLeft f gone z = record { not_gone = none.2; not_new = not_next f z (named_below_next f sound z c c_is) } in
        (falls, holds_after g (Three x y z) (three_left x y z lx ly lz) (a, b, c, a_is, b_is, c_is, meets))

    pub left_three : (x y z : Name) → IsBelow x (Step f.next_step) → CanTake g (replaced f gone) (Three x y z) → CanTake g f (Three x y z) × (not (names_one_of gone (Three x y z)) ≡ true)
    left_three x y z x_below (falls, (a, b, c, a_is, b_is, c_is, meets)) =
        let y_below = below_chain y x (Step f.next_step) falls.0 x_below in
        let z_below = below_chain z y (Step f.next_step) falls.1 y_below in
        let lx = left_of x (not_next f x x_below) a a_is in
        let ly = left_of y (not_next f y y_below) b b_is in
        let lz = left_of z (not_next f z z_below) c c_is in (
          (falls, holds_before g (Three x y z) (three_left x y z lx ly lz) (a, b, c, a_is, b_is, c_is, meets)),
          all_three (is_named gone x) (is_named gone y) (is_named gone z) lx.not_gone ly.not_gone lz.not_gone,
        )

    -- what is kept of the triples below a name is, without those that name a merged cluster, what is to be kept
    pub mended : (bound : Name) → IsWithin f bound → (kept : List Merge) → AreKept g f (λ x. IsBelow x bound) kept → AreKept g (replaced f gone) (λ x. IsBelow x bound) (avoiding gone kept)
    mended bound within kept were = record {
      in_order = pairs_filter ComesFirst (λ (m : Merge). not (names_one_of gone m)) kept were.in_order;
      right = λ m m_in.
          let was = filtered_from (λ (m : Merge). not (names_one_of gone m)) kept m m_in in
          still m (were.right m was.0) was.1;
      all = λ x y z below can.
          let before = left_three x y z (below_others x bound (Step f.next_step) below within) can in
          contains_filtered (λ (m : Merge). not (names_one_of gone m)) kept (Three x y z) (were.all x y z below before.0) before.1;
    }
      where
        still : (m : Merge) → CanTake g f m × ((x : Name) × (y : Name) × (z : Name) × (m ≡ Three x y z) × IsBelow x bound) → not (names_one_of gone m) ≡ true
            → CanTake g (replaced f gone) m × ((x : Name) × (y : Name) × (z : Name) × (m ≡ Three x y z) × IsBelow x bound)
        still m (can, (x, y, z, is, below)) apart =
            let done = right_three x y z (subst (λ n. CanTake g f n) is can) (subst (λ n. not (names_one_of gone n) ≡ true) is apart) in
            (subst (λ n. CanTake g (replaced f gone) n) (sym is) done, (x, y, z, is, below))

    -- and where no pair below the name could merge, none can
    pub no_pair_after : (bound : Name) → IsWithin f bound → NoPairBelow f bound → NoPairBelow (replaced f gone) bound
    no_pair_after bound within no_pair x y x_in y_in below less =
        let x_below = below_others x.name bound (Step f.next_step) below within in
        let y_below = below_chain y.name x.name (Step f.next_step) less x_below in
        let x_was = named_before f gone x.name (not_next f x.name x_below) x (record { lives = x_in; has_name = refl }) in
        let y_was = named_before f gone y.name (not_next f y.name y_below) y (record { lives = y_in; has_name = refl }) in
        no_pair x y x_was.lives y_was.lives below less
