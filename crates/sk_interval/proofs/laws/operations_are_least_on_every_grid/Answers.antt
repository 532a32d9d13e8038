use Rattle.sk_interval.proofs.LeastLemmas.{of_micrometres-least, sum-least, difference-least, product-least, quotient-least, root-least}
use Rattle.sk_interval.proofs.laws.operations_are_least_on_every_grid.Goals as goal

pub returns : goal.returns
returns c = record {
  lengths = of_micrometres-least;
  sums = sum-least;
  differences = difference-least;
  products = product-least;
  quotients = quotient-least;
  roots = root-least;
}
