use Rattle.sk_steps.proofs.third.construct.Goals as goal

pub returns-in-Point-Point-Point : goal.returns-in-Point-Point-Point
returns-in-Point-Point-Point g c =
    rw (c.point-u.ensures, c.point-v.ensures, c.point-ux.ensures, c.point-wx.ensures, c.point-vy.ensures, c.point-wy.ensures) c.point_by_points.ensures

pub returns-in-Point-Point-Line : goal.returns-in-Point-Point-Line
returns-in-Point-Point-Line g c =
    rw (c.point-u-in-Point-Point-Line.ensures, c.point-v-in-Point-Point-Line.ensures, c.point-ux-in-Point-Point-Line.ensures, c.line-wx.ensures, c.point-vy-in-Point-Point-Line.ensures, c.line-wy.ensures) c.line_by_points.ensures

pub returns-in-Point-Line-Point : goal.returns-in-Point-Line-Point
returns-in-Point-Line-Point g c =
    rw (c.point-u-in-Point-Line-Point.ensures, c.line-v.ensures, c.point-ux-in-Point-Line-Point.ensures, c.point-wx-in-Point-Line-Point.ensures, c.line-vy.ensures, c.point-wy-in-Point-Line-Point.ensures) c.point_by_line.ensures

pub returns-in-Point-Line-Line : goal.returns-in-Point-Line-Line
returns-in-Point-Line-Line g c =
    rw (c.point-u-in-Point-Line-Line.ensures, c.line-v-in-Point-Line-Line.ensures, c.point-ux-in-Point-Line-Line.ensures, c.line-wx-in-Point-Line-Line.ensures, c.line-vy-in-Point-Line-Line.ensures, c.line-wy-in-Point-Line-Line.ensures) c.line_by_line.ensures

pub returns-in-Line-Line-Point : goal.returns-in-Line-Line-Point
returns-in-Line-Line-Point g c =
    rw (c.line-u.ensures, c.line-v-in-Line-Line-Point.ensures, c.line-ux.ensures, c.point-wx-in-Line-Line-Point.ensures, c.line-vy-in-Line-Line-Point.ensures, c.point-wy-in-Line-Line-Point.ensures) c.point_by_lines.ensures
