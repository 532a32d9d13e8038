-- Clusters that leave the index and enter it at a merge.
use Rattle.std.proofs.Common.{◌≡◌, List, ◌++◌, sym, subst}
use Rattle.std.specs.Prelude.{Option}
use Rattle.sk_base.specs.declared.Name.{Name}
use Rattle.sk_base.specs.declared.Graph.{Graph}
use Rattle.sk_family.specs.Clusters.{Clusters, IsSound}
use Rattle.sk_family.specs.declared.Merge.{Merge}
use Rattle.sk_rules.specs.Merges.{merged}
use Rattle.sk_family.specs.Merges.{names_of}
use Rattle.sk_close_by_order.specs.Known.{Knows}
use Rattle.sk_base.specs.declared.Elem.{Elem}
use Rattle.sk_open_triples.specs.declared.Heir.{Heir}
use Rattle.sk_close_by_order.specs.Heirs.{IsHeirOf}
use Rattle.sk_close_by_order.specs.declared.worklist.Worklist.{Worklist}
use Rattle.sk_close_by_order.specs.Turns.{IsSameButHeir, KnowsOf}
use Rattle.sk_close_by_order.proofs.Mending.{knows_after}

pub knows_entered : (clear covered : Name) (kept : List Merge) (gone gone' : List Name) (g : Graph) (f : Clusters) → IsSound f → (m : Merge) (after : Clusters) → after ≡ merged f m
    → gone' ≡ gone ++ names_of m → Knows clear covered kept gone g f → Knows clear covered kept gone' g after
knows_entered clear covered kept gone gone' g f sound m after after_is gone_is knows =
    subst (λ (h : Clusters). Knows clear covered kept gone' g h) (sym after_is) (subst (λ ns. Knows clear covered kept ns g (merged f m)) (sym gone_is)
    (knows_after clear covered kept gone (names_of m) g f sound knows))

pub heirs_entered : (covered : Name) (kept : List Merge) (gone gone' : List Name) (heir : Option Heir) (fresh : List Elem) (g : Graph) (f : Clusters) (m : Merge) (after : Clusters) → after ≡ merged f m
    → gone' ≡ gone ++ names_of m → IsHeirOf g (merged f m) covered kept (gone ++ names_of m) heir fresh → IsHeirOf g after covered kept gone' heir fresh
heirs_entered covered kept gone gone' heir fresh g f m after after_is gone_is heirs =
    subst (λ (h : Clusters). IsHeirOf g h covered kept gone' heir fresh) (sym after_is) (subst (λ ns. IsHeirOf g (merged f m) covered kept ns heir fresh) (sym gone_is) heirs)

-- what holds of a worklist holds of one that differs in the heir alone
module _ (old new : Worklist) (same : IsSameButHeir old new) where
  pub same_knows : (g : Graph) (f : Clusters) → KnowsOf old g f → KnowsOf new g f
  same_knows g f knows =
      subst (λ n. Knows n new.covered new.kept new.gone g f) (sym same.clear)
      (subst (λ n. Knows old.clear n new.kept new.gone g f) (sym same.covered)
      (subst (λ (ms : List Merge). Knows old.clear old.covered ms new.gone g f) (sym same.kept)
      (subst (λ ns. Knows old.clear old.covered old.kept ns g f) (sym same.gone) knows)))
