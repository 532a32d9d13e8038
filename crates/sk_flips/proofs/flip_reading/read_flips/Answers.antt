use Rattle.std.proofs.Common.{List, subst}
use Rattle.sk_base.specs.declared.Name.{Name}
use Rattle.sk_lines.specs.LineCodes.{LeadTo, IsLineRefusal}
use Rattle.sk_lines.specs.Lines.{lines_in}
use Rattle.sk_flips.specs.FlipLines.{code_of}
use Rattle.sk_flips.specs.FlipReading.{among, Adds}
use Rattle.sk_flips.proofs.FewFlips.{few_read}
use Rattle.sk_flips.proofs.FlipsSoFar.{text_refused, read_refused, read_unended, read_ended}
use Rattle.sk_flips.proofs.flip_reading.read_flips.Goals as goal

pub returns-in_err-so_far-clause-refuses : goal.returns-in_err-so_far-clause-refuses
returns-in_err-so_far-clause-refuses c =
    let error = c.in_err-so_far.field-0.0 in
    let refused = subst (λ (flips : List (List Name)). IsLineRefusal code_of Adds (among flips) c.args.first (lines_in c.args.bytes.now) error) c.new.ensures c.in_err-so_far.ensures.refused in
    text_refused c.from_residual.result error c.args.first c.args.bytes.now c.from_residual.ensures (read_refused c.args.first c.args.bytes.now error refused)

pub returns-in-Among-clause-refuses : goal.returns-in-Among-clause-refuses
returns-in-Among-clause-refuses c =
    let so_far = c.in_ok-so_far.so_far in
    let led = subst (λ (flips : List (List Name)). LeadTo Adds (among flips) (lines_in c.args.bytes.now) so_far) c.new.ensures c.in_ok-so_far.ensures.read in
    rw c.refused.ensures (read_unended c.args.bytes.now so_far c.args.first c.in_ok-so_far.number led c.in_ok-so_far.ensures.count c.in-Among.is)

pub returns-in-Past-clause-reads : goal.returns-in-Past-clause-reads
returns-in-Past-clause-reads c =
    let so_far = c.in_ok-so_far.so_far in
    let led = subst (λ (flips : List (List Name)). LeadTo Adds (among flips) (lines_in c.args.bytes.now) so_far) c.new.ensures c.in_ok-so_far.ensures.read in
    read_ended c.args.bytes.now so_far led c.in-Past.is

pub returns-in-Past-clause-few : goal.returns-in-Past-clause-few
returns-in-Past-clause-few c =
    let so_far = c.in_ok-so_far.so_far in
    let led = subst (λ (flips : List (List Name)). LeadTo Adds (among flips) (lines_in c.args.bytes.now) so_far) c.new.ensures c.in_ok-so_far.ensures.read in
    few_read c.args.bytes.now so_far led
