use Rattle.std.proofs.Common.{◌≡◌, ap, sym, subst, ◌∙◌}
use Rattle.sk_family.specs.Body.{Start}
use Rattle.sk_family.proofs.GraphStarts.{start_at}
use Rattle.sk_tree.specs.declared.Tree.{Tree}
use Rattle.sk_plan.specs.MadeBy.{IsMadeBy}
use Rattle.sk_why.proofs.branches.+branch_of.Goals as goal

pub returns-in_ok-twig_of-in-Leaf : goal.returns-in_ok-twig_of-in-Leaf
returns-in_ok-twig_of-in-Leaf t c g x sound are made =
    let (s, s_in, is, same) = subst (λ (u : Tree). IsMadeBy g u x) c.in-Leaf.is made in
    let (z, z_in, numbered, els) = c.in_ok-twig_of-in-Leaf.ensures.elements g are in
    let one : s ≡ z = start_at g sound.edges_rise s z s_in z_in (is ∙ sym numbered) in
    (s, s_in, is ∙ sym c.in_ok-twig_of-in-Leaf.ensures.number, ap (λ (y : Start). y.elements) one ∙ els, same)
