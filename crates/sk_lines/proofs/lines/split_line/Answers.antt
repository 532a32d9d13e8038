use Rattle.std.proofs.Common.{◌+◌, ◌-◌, length, drop, sym, arith, length-drop}
use Rattle.std.proofs.lemmas.List.{take_all}
use Rattle.sk_lines.proofs.WholeLines.{last_line, line_of_many}
use Rattle.sk_lines.proofs.LineByLine.{only_line, first_line}
use Rattle.sk_lines.proofs.lines.split_line.Goals as goal

pub returns-in-None-clause-first : goal.returns-in-None-clause-first
returns-in-None-clause-first c = rw c.without_return.ensures (last_line c.args.bytes.now c.requires (sym c.in-None.ensures.value))

pub returns-in-Some-clause-first : goal.returns-in-Some-clause-first
returns-in-Some-clause-first c =
    let bytes = c.args.bytes.now in
    let end = c.in-Some.end in
    let rest = take_all (length bytes - (end + 1)) (drop (end + 1) bytes) (omega (arith, length-drop (end + 1) bytes)) in
    rw (c.without_return-in-Some.ensures, rest) (line_of_many bytes end (sym c.in-Some.ensures.value))

pub returns-in-None-clause-lines : goal.returns-in-None-clause-lines
returns-in-None-clause-lines c = rw c.without_return.ensures (only_line c.args.bytes.now c.requires (sym c.in-None.ensures.value))

pub returns-in-Some-clause-lines : goal.returns-in-Some-clause-lines
returns-in-Some-clause-lines c =
    let bytes = c.args.bytes.now in
    let end = c.in-Some.end in
    let rest = take_all (length bytes - (end + 1)) (drop (end + 1) bytes) (omega (arith, length-drop (end + 1) bytes)) in
    rw (c.without_return-in-Some.ensures, rest) (first_line bytes end (sym c.in-Some.ensures.value))
