-- A family has one list of wide choices.
use Rattle.std.proofs.Common.{◌≡◌, inl, inr, List, []}
use Rattle.sk_base.specs.declared.Graph.{Graph}
use Rattle.sk_base.proofs.Pairs.{pairs_same}
use Rattle.sk_family.specs.Clusters.{Clusters}
use Rattle.sk_family.specs.declared.Merge.{Merge}
use Rattle.sk_family.specs.Merges.{names_of}
use Rattle.sk_open_triples.specs.MergeOrder.{ComesFirst}
use Rattle.sk_close_by_order.proofs.OneRun.{choices_are_one, names_irreflexive, names_asymmetric}
use Rattle.sk_close_by_angles.specs.WideChoices.{AreTieMerges, AreWideChoices}

tie_merges_are_one : (g : Graph) (f : Clusters) (one other : List Merge) → AreTieMerges g f one → AreTieMerges g f other → one ≡ other
tie_merges_are_one g f one other ours theirs =
    pairs_same ComesFirst (λ m. names_irreflexive (names_of m)) (λ m n. names_asymmetric (names_of m) (names_of n)) one other ours.in_order theirs.in_order
    (λ m h. (theirs.exactly m).1 ((ours.exactly m).0 h)) (λ m h. (ours.exactly m).1 ((theirs.exactly m).0 h))

pub wide_choices_are_one : (g : Graph) (f : Clusters) (one other : List Merge) → AreWideChoices g f one → AreWideChoices g f other → one ≡ other
wide_choices_are_one g f one other (inl (ours, some)) (inl (theirs, more)) = choices_are_one g f one other ours theirs
wide_choices_are_one g f one other (inl (ours, some)) (inr (none, theirs)) = absurd (some (choices_are_one g f one [] ours none))
wide_choices_are_one g f one other (inr (none, ours)) (inl (theirs, some)) = absurd (some (choices_are_one g f other [] theirs none))
wide_choices_are_one g f one other (inr (none, ours)) (inr (nothing, theirs)) = tie_merges_are_one g f one other ours theirs
