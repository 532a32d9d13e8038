use Rattle.sk_parts.proofs.Drawing.{part_is_sound}
use Rattle.sk_parts.proofs.WellParts.{alone_in_own}
use Rattle.sk_parts.proofs.OverParts.{over_is_one}
use Rattle.sk_parts.proofs.Sharing.{covered_judged, numbers_judged, some_judged, has_owned, well_judged, once_judged, whole_judged, lone_without}
use Rattle.sk_parts.proofs.law.own_sketches.Goals as goal

pub returns-clause-sound : goal.returns-clause-sound
returns-clause-sound c = part_is_sound

pub returns-clause-elements : goal.returns-clause-elements
returns-clause-elements c s j p sound is p_in = numbers_judged s j sound is p p_in

pub returns-clause-owned : goal.returns-clause-owned
returns-clause-owned c s f x k sound normal x_in k_in = has_owned s f sound normal x x_in k k_in

pub returns-clause-well : goal.returns-clause-well
returns-clause-well c s j p sound is p_in = well_judged s j sound is p p_in

pub returns-clause-once : goal.returns-clause-once
returns-clause-once c s j k sound is k_in = once_judged s j sound is k k_in

pub returns-clause-whole : goal.returns-clause-whole
returns-clause-whole c s j p sound is well p_in = whole_judged s j sound is well p p_in

pub returns-clause-alone : goal.returns-clause-alone
returns-clause-alone c s f x sound normal x_in = alone_in_own s f sound normal x x_in

pub returns-clause-lone : goal.returns-clause-lone
returns-clause-lone c s e sound = lone_without s e sound

pub returns-clause-some : goal.returns-clause-some
returns-clause-some c s j p sound is p_in = some_judged s j sound is p p_in

pub returns-clause-covered : goal.returns-clause-covered
returns-clause-covered c s j x sound is x_in = covered_judged s j sound is x x_in

pub returns-clause-over : goal.returns-clause-over
returns-clause-over c s j p sound is p_in over = over_is_one s j p sound is p_in over
