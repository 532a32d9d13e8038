use Rattle.sk_steps.proofs.moving.by_kinds.Goals as goal

pub returns-in-Point-Point : goal.returns-in-Point-Point
returns-in-Point-Point g c =
    rw (c.point-old_p.ensures, c.point-old_q.ensures, c.point-new_p.ensures, c.point-new_q.ensures) c.by_points.ensures

pub returns-in-Point-Line : goal.returns-in-Point-Line
returns-in-Point-Line g c =
    rw (c.point-old_p-in-Point-Line.ensures, c.line-old_q.ensures, c.point-new_p-in-Point-Line.ensures, c.line-new_q.ensures) c.by_point_and_line.ensures

pub returns-in-Line-Line : goal.returns-in-Line-Line
returns-in-Line-Line g c =
    rw (c.line-old_p.ensures, c.line-old_q-in-Line-Line.ensures, c.line-new_p.ensures, c.line-new_q-in-Line-Line.ensures) c.by_lines.ensures
