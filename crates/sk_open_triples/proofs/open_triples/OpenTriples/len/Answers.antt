use Rattle.std.proofs.Common.{◌<◌, ℕ, List, length, subst, sym}
use Rattle.std.specs.Prelude.{Contains}
use Rattle.sk_open_triples.specs.declared.row.OpenRow.{OpenRow}
use Rattle.sk_open_triples.proofs.open_triples.OpenTriples.len.Goals as goal

pub count_all-requires : goal.count_all-requires
count_all-requires c k k_in =
    subst (λ (rs : List OpenRow). k < length rs) (sym c.as_slice.ensures.value) (c.self.invariant.within k (subst (λ (ks : List ℕ). Contains ks k) c.as_slice-2.ensures.value k_in))
