use Rattle.std.proofs.Common.{◌∙◌, ap}
use Rattle.sk_family.proofs.Naming.{one_of_name}
use Rattle.sk_family.specs.declared.Cluster.{Cluster}
use Rattle.sk_neighbours.proofs.index.Index.take_out_named.Goals as goal

pub take_out-requires-clause-alone : goal.take_out-requires-clause-alone
take_out-requires-clause-alone c x held named =
    one_of_name c.args.family.now c.in-Some.ensures.sound c.args.name x c.in-Some.cluster.now
    (record { lives = c.requires.known x held; has_name = named ∙ c.in-Some.ensures.some.has_name }) c.in-Some.ensures.some

pub returns-in-Some-clause-held : goal.returns-in-Some-clause-held
returns-in-Some-clause-held c x =
    let is = c.in-Some.ensures.some in
    let taken = c.take_out.ensures.held x in (
      (λ h. (
        (taken.0 h).0,
        (λ named. (taken.0 h).1 (one_of_name c.args.family.now c.in-Some.ensures.sound c.args.name x c.in-Some.cluster.now (record { lives = c.requires.known x (taken.0 h).0; has_name = named }) is)),
      )),
      (λ (was, other). taken.1 (was, (λ same. other (ap (λ (y : Cluster). y.name) same ∙ is.has_name)))),
    )
