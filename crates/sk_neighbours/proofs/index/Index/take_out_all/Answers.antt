use Rattle.std.proofs.Common.{◌∙◌, sym, inl, inr, get_or}
use Rattle.std.proofs.lemmas.List.Elements.{Contains-get_or}
use Rattle.sk_base.specs.declared.Name.TheVariants.{Con}
use Rattle.sk_triangles.proofs.Fronts.{front_more, front_all}
use Rattle.sk_neighbours.proofs.index.Index.take_out_all.Goals as goal

pub take_out_named-requires-clause-known : goal.take_out_named-requires-clause-known
take_out_named-requires-clause-known c x held = c.requires.known x ((c.loop-name.invariant.held x).0 held).0

pub take_out_named-requires-clause-some : goal.take_out_named-requires-clause-some
take_out_named-requires-clause-some c =
    c.requires.some (get_or c.args.names.now c.loop-name.name-index (Con 0)) (Contains-get_or c.args.names.now c.loop-name.name-index (Con 0) c.loop-name-test.true)

pub loop-name-preserved : goal.loop-name-preserved
loop-name-preserved c = record {
  index = c.take_out_named.ensures.index;
  held = λ x.
      let more = front_more c.args.names.now c.loop-name.name-index (Con 0) c.loop-name-test.true x.name in
      let one = c.take_out_named.ensures.held x in
      let so_far = c.loop-name.invariant.held x in (
        (λ h. (
          (so_far.0 (one.0 h).0).0,
          (λ front. elim (more.0 front) [ inl before ↦ (so_far.0 (one.0 h).0).1 before | inr here ↦ (one.0 h).1 (sym here) ]),
        )),
        (λ (was, apart). one.1 (so_far.1 (was, (λ before. apart (more.1 (inl before)))), (λ same. apart (more.1 (inr (sym same)))))),
      );
  lines = c.take_out_named.ensures.lines ∙ c.loop-name.invariant.lines;
}

pub returns-clause-held : goal.returns-clause-held
returns-clause-held c x =
    let all = front_all c.args.names.now c.loop-name.name-index c.loop-name-test.false x.name in
    let so_far = c.loop-name.invariant.held x in (
      (λ h. ((so_far.0 h).0, (λ named. (so_far.0 h).1 (all.1 named)))),
      (λ (was, apart). so_far.1 (was, (λ front. apart (all.0 front)))),
    )
