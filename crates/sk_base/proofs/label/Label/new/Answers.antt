use Rattle.std.proofs.Common.{◌≡◌, true, arith, rules}
use Rattle.sk_base.specs.Labels.{is_name}
use Rattle.sk_base.specs.LabelBack.{padded}
use Rattle.sk_base.proofs.ShortNames.{is_name_short}
use Rattle.sk_base.proofs.label.Label.new.Goals as goal

pub invariant_of-result : goal.invariant_of-result
invariant_of-result c =
    let bytes = c.args.bytes.now in
    let is : is_name bytes ≡ true = grind arith in
    rw c.copy_from_slice.ensures.after (padded bytes (is_name_short bytes is) (rw is (search rules)))
