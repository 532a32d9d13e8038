use Rattle.sk_drawn.proofs.DrawnRules.{rule_swapped, none_swapped}
use Rattle.sk_drawn.proofs.values.drawn_value.Goals as goal

pub returns-then-v-u-clause-some : goal.returns-then-v-u-clause-some
returns-then-v-u-clause-some c = rule_swapped c.args.s.now c.args.v c.args.u c.rule_between-then-v-u.result c.rule_between-then-v-u.ensures.some

pub returns-then-v-u-clause-none : goal.returns-then-v-u-clause-none
returns-then-v-u-clause-none c = none_swapped c.args.s.now c.args.v c.args.u c.rule_between-then-v-u.result c.rule_between-then-v-u.ensures.none
