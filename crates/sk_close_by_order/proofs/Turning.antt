-- What a worklist finds at a turn.
use Rattle.std.proofs.Common.{◌≡◌, inl, inr, refl, List, [], ◌++◌, sym, subst, ◌∙◌, ap, arith}
use Rattle.std.specs.Prelude.{◌↔◌, Contains, AllPairs, Result, Ok, Err, IfOk}
use Rattle.sk_base.specs.declared.Name.{Name}
use Rattle.sk_base.specs.declared.Name.TheVariants.{Con, Step}
use Rattle.sk_base.specs.declared.Graph.{Graph}
use Rattle.sk_base.specs.ClusterNames.{IsBelow}
use Rattle.sk_base.proofs.Members.{contains_none}
use Rattle.sk_family.specs.declared.Cluster.{Cluster}
use Rattle.sk_family.specs.Clusters.{Clusters, IsSound, IsWithin}
use Rattle.sk_family.proofs.Naming.{below_irreflexive, below_asymmetric, is_it_below}
use Rattle.sk_family.specs.declared.Merge.{Merge}
use Rattle.sk_family.specs.declared.Merge.TheVariants.{Two}
use Rattle.sk_neighbours.specs.declared.Index.{Index}
use Rattle.sk_rules.specs.Merges.{CanTake}
use Rattle.sk_open_triples.specs.MergeOrder.{ComesFirst}
use Rattle.sk_close_by_order.specs.Choices.{IsFirstPair, AreTriples}
use Rattle.sk_triangles.specs.Growing.{GrowsBy, FromSome}
use Rattle.sk_neighbours.specs.Partners.{Partner}
use Rattle.sk_neighbours.specs.Triples.{TriplesOf}
use Rattle.sk_close_by_order.specs.Gather.{IsPartner, IsUncovered, AreUncovered}
use Rattle.sk_open_triples.specs.Avoiding.{IsTriple, avoiding}
use Rattle.sk_close_by_order.specs.Known.{AreKept, Knows, NoPairBelow}
use Rattle.sk_neighbours.specs.Indexed.{Represents, lines_in}
use Rattle.sk_neighbours.specs.AllTriples.{IsTripleAmong}
use Rattle.sk_close_by_order.specs.Turns.{HasNoPair}
use Rattle.sk_neighbours.proofs.Gathered.{partners_found, third_of, triangle_of, triples_found}
use Rattle.sk_rules.proofs.Takable.{can_pair, can_triple, pair_can, triple_can}
use Rattle.sk_close_by_order.proofs.Mending.{kept_more, kept_are_choices, avoiding_none}
use Rattle.sk_family.proofs.Lasting.{live_below_next}

module _ (ix : Index) (g : Graph) (f : Clusters) (sound : IsSound f) (r : Represents ix g f.live) (bound : Name) (rest : List Cluster)
    (rest_is : (c : Cluster) → Contains rest c ↔ (Contains f.live c × ¬ IsBelow c.name bound)) where
  -- where none of the rest has a partner up to a name, no pair below it may merge
  pub no_pair_to : NoPairBelow f bound → (new : Name) → ((c : Cluster) (n : Name) → Contains rest c → IsBelow c.name new → ¬ Partner ix c n) → NoPairBelow f new
  no_pair_to before new none x y x_in y_in x_new less two =
      elim (is_it_below x.name bound) [
        | inl below ↦ before x y x_in y_in below less two
        | inr above ↦ none x y.name ((rest_is x).1 (x_in, above)) x_new
            ((partners_found ix g f.live r x y.name).1 (y, y_in, less, two, refl))
      ]

  pub within_next : (x y : Name) → IsPartner ix rest x y → IsWithin f x
  within_next x y p above =
      below_asymmetric x (Step f.next_step) (subst (λ n. IsBelow n (Step f.next_step)) p.has_name (live_below_next f sound p.greater ((rest_is p.greater).0 p.among).0)) above

  pub first_is : NoPairBelow f bound → (x y : Name) → IsPartner ix rest x y → IsFirstPair g f (Two x y)
  first_is before x y p = record {
    can_take = subst (λ n. CanTake g f (Two n y)) p.has_name (pair_can g f sound p.greater ((rest_is p.greater).0 p.among).0 y ((partners_found ix g f.live r p.greater y).0 p.least.0));
    is_pair = (x, y, refl);
    first = λ m n can comes. none m n can comes;
  }
    where
      below_x : NoPairBelow f x
      below_x = no_pair_to before x (λ c n c_in below. p.first c n c_in below)

      none : (m n : Name) → CanTake g f (Two m n) → ¬ ComesFirst (Two m n) (Two x y)
      none m n (less, (a, b, a_is, b_is, two)) (inl m_x) =
          below_x a b a_is.lives b_is.lives (subst (λ k. IsBelow k x) (sym a_is.has_name) m_x)
          (subst (λ k. IsBelow k a.name) (sym b_is.has_name) (subst (λ k. IsBelow n k) (sym a_is.has_name) less)) two
      none m n can (inr (same, inl n_y)) =
          p.least.1 n ((partners_found ix g f.live r p.greater n).1 (can_pair g f sound p.greater ((rest_is p.greater).0 p.among).0 n (subst (λ k. CanTake g f (Two k n)) (same ∙ sym p.has_name) can))) n_y
      none m n can (inr (same, inr (level, never))) = never

  -- what the walks from the rest find is just what isn't covered
  pub walks_uncovered : (m : Merge) → FromSome (TriplesOf ix) rest m ↔ IsUncovered g f bound m
  walks_uncovered m = (
    (λ (x, x_in, is). (x, (rest_is x).0 x_in, triple_can g f sound x ((rest_is x).0 x_in).0 m ((triples_found ix g f.live r x m).0 is))),
    (λ (x, (x_in, above), takes). (x, (rest_is x).1 (x_in, above), (triples_found ix g f.live r x m).1 (can_triple g f sound x x_in m takes))),
  )

-- the triples of all clusters that meet are those that aren't covered where none are
module _ (ix : Index) (g : Graph) (f : Clusters) (sound : IsSound f) (r : Represents ix g f.live) where
  pub all_uncovered : (m : Merge) → IsTripleAmong (lines_in ix) f.live m ↔ IsUncovered g f (Con 0) m
  all_uncovered m = (
    (λ (x, y, z, x_in, y_in, z_in, y_x, z_y, (a, b, c, (a_x, a_y), (b_y, b_z), (c_z, c_x), a_b, makes), m_is).
        (x, (x_in, none_below x.name), triple_can g f sound x x_in m (y, z, y_in, z_in, y_x, z_y, (a, b, c, triangle_of ix g f.live r x.elements y.elements z.elements a b c a_x a_y b_y b_z c_z c_x a_b makes), m_is))),
    (λ (x, (x_in, above), takes). (
        let (y, z, y_in, z_in, y_x, z_y, (a, b, c, t), m_is) = can_triple g f sound x x_in m takes in
        (x, y, z, x_in, y_in, z_in, y_x, z_y, (a, b, c, t.a_shared, t.b_shared, t.c_shared, t.differ.0, third_of ix g f.live r x.elements y.elements z.elements a b c t), m_is))),
  )
    where
      none_below : (n : Name) → ¬ IsBelow n (Con 0)
      none_below (Con k) below = absurd (omega arith)
      none_below (Step k) below = below

-- once all triples are kept
module _ (g : Graph) (f : Clusters) (sound : IsSound f) (clear covered : Name) (kept found all : List Merge) (gone none : List Name) (knows : Knows clear covered kept gone g f)
    (uncovered : AreUncovered g f covered found) (all_is : all ≡ avoiding gone kept ++ found) (none_is : none ≡ []) where
  all_kept : AreKept g f (λ x. IsBelow x (Step f.next_step)) all
  all_kept = subst (λ l. AreKept g f (λ x. IsBelow x (Step f.next_step)) l) (sym all_is) (kept_more g f sound covered (avoiding gone kept) found knows.keeps uncovered)

  pub knows_all : Knows clear (Step f.next_step) all none g f
  knows_all = record {
    clear_within = knows.clear_within;
    covered_within = below_irreflexive (Step f.next_step);
    no_pair = knows.no_pair;
    keeps = subst (λ l. AreKept g f (λ x. IsBelow x (Step f.next_step)) l) (sym (ap (λ ns. avoiding ns all) none_is ∙ avoiding_none all)) all_kept;
  }

  pub all_are_choices : HasNoPair g f → AreTriples g f all
  all_are_choices no_pair = kept_are_choices g f sound all no_pair all_kept
