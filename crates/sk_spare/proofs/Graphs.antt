-- The graphs with fewer constraints: what they hold, and that they are sound.
use Rattle.std.proofs.Common.{◌≢◌, List, ap}
use Rattle.std.specs.Prelude.{Contains, ◌↔◌, ◌==◌}
use Rattle.std.specs.List.{list_any}
use Rattle.std.proofs.lemmas.Bool.{and_parts}
use Rattle.sk_base.specs.declared.ConId.{ConId}
use Rattle.sk_base.specs.declared.Graph.{Graph}
use Rattle.sk_base.specs.SoundGraph.{IsSoundGraph}
use Rattle.sk_base.specs.Numbering.{con_number, con_exact}
use Rattle.sk_base.proofs.Numbers.{other_passes, passes_differ, among_found, found_among}
use Rattle.sk_family.specs.Body.{Start, starts}
use Rattle.sk_rules.proofs.JustSome.{in_part, sound_part}
use Rattle.sk_spare.specs.Sparing.{differs_from, without}
use Rattle.sk_spare.specs.Trying.{is_other, trial_graph}

pub sound_without : (g : Graph) (k : ConId) → IsSoundGraph g → IsSoundGraph (without k g)
sound_without g k sound = sound_part g (differs_from k) sound

pub sound_trial : (g : Graph) (k : ConId) (owned : List ConId) → IsSoundGraph g → IsSoundGraph (trial_graph owned k g)
sound_trial g k owned sound = sound_part g (is_other owned k) sound

module _ (g : Graph) (k : ConId) (sound : IsSoundGraph g) where
  pub in_without : (s : Start) → Contains (starts (without k g)) s ↔ (Contains (starts g) s × (s.number ≢ k))
  in_without s = (
    (λ h. (let was = (in_part g (differs_from k) sound s).0 h in (was.0, λ same. passes_differ s.number.0 k.0 was.1 (ap con_number same)))),
    (λ h. (in_part g (differs_from k) sound s).1 (h.0, other_passes s.number.0 k.0 (λ same. h.1 (con_exact s.number k same)))),
  )

  pub in_trial : (owned : List ConId) (s : Start) → Contains (starts (trial_graph owned k g)) s ↔ (Contains (starts g) s × Contains owned s.number × (s.number ≢ k))
  in_trial owned s = (
    (λ h. (
        let was = (in_part g (is_other owned k) sound s).0 h in
        let both = and_parts (list_any (λ (j : ConId). j.0 == s.number.0) owned) (differs_from k s.number) was.1 in
        (was.0, among_found con_number con_exact owned s.number both.0, λ same. passes_differ s.number.0 k.0 both.1 (ap con_number same)))),
    (λ h. (in_part g (is_other owned k) sound s).1 (h.0, rw (found_among con_number owned s.number h.1) (other_passes s.number.0 k.0 (λ same. h.2 (con_exact s.number k same))))),
  )
