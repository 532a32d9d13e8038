-- What was there before some clusters were replaced by one, which has the next step's name.
use Rattle.std.proofs.Common.{◌≢◌, inl, inr, List, [], ◌∷◌, ap, sym, subst, ◌∙◌}
use Rattle.std.specs.Prelude.{Contains, not}
use Rattle.std.proofs.lemmas.List.Elements.{Contains-append_cases}
use Rattle.sk_base.specs.declared.Name.{Name}
use Rattle.sk_base.specs.declared.Name.TheVariants.{Step}
use Rattle.sk_base.specs.ClusterNames.{IsBelow, is_named}
use Rattle.sk_base.proofs.Members.{contains_one, filtered_from}
use Rattle.sk_family.specs.declared.cluster.Cluster.{Cluster}
use Rattle.sk_family.specs.Clusters.{Clusters, IsNamed, IsSound, replaced, unnamed, whole_from}
use Rattle.sk_family.proofs.Naming.{below_asymmetric}
use Rattle.sk_family.proofs.Soundness.{below_next}

module _ (f : Clusters) (sound : IsSound f) where
  -- all names of live clusters are below the next step's
  pub live_below_next : (c : Cluster) → Contains f.live c → IsBelow c.name (Step f.next_step)
  live_below_next c c_in = below_next f.next_step c.name (λ k e. sound.steps_below c k c_in e)

  pub named_below_next : (n : Name) (c : Cluster) → IsNamed f n c → IsBelow n (Step f.next_step)
  named_below_next n c is = subst (λ l. IsBelow l (Step f.next_step)) is.has_name (live_below_next c is.lives)

-- what is below that name isn't it
pub not_next : (f : Clusters) (n : Name) → IsBelow n (Step f.next_step) → n ≢ Step f.next_step
not_next f n below e = below_asymmetric n (Step f.next_step) below (subst (λ l. IsBelow l n) e (subst (λ l. IsBelow n l) (sym e) below))

module _ (f : Clusters) (gone : List Name) where
  pub old_before : (n : Name) → n ≢ Step f.next_step → (c : Cluster) → IsNamed (replaced f gone) n c → Contains (unnamed gone f.live) c
  old_before n other c is =
      elim (Contains-append_cases (unnamed gone f.live) (whole_from (Step f.next_step) gone f.live ∷ []) c is.lives) [
        | inl old ↦ old
        | inr new ↦ absurd (other (sym is.has_name ∙ ap (λ (d : Cluster). d.name) (sym (contains_one (whole_from (Step f.next_step) gone f.live) c new))))
      ]

  pub named_before : (n : Name) → n ≢ Step f.next_step → (c : Cluster) → IsNamed (replaced f gone) n c → IsNamed f n c
  named_before n other c is = record {
    lives = (filtered_from (λ (d : Cluster). not (is_named gone d.name)) f.live c (old_before n other c is)).0;
    has_name = is.has_name;
  }
