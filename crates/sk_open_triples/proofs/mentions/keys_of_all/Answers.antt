use Rattle.std.proofs.Common.{◌∙◌, ◌++◌, [], ℕ, List, ap, refl, subst, sym}
use Rattle.sk_triangles.specs.Growing.{FromSome, GrowsBy}
use Rattle.sk_triangles.proofs.Growing.{grows_end}
use Rattle.sk_open_triples.specs.OpenRows.{Mention}
use Rattle.sk_open_triples.proofs.Dropping.{keys_more, keys_told}
use Rattle.sk_open_triples.proofs.Outcomes.{both_ok}
use Rattle.sk_open_triples.proofs.mentions.keys_of_all.Goals as goal

pub loop-name-preserved : goal.loop-name-preserved
loop-name-preserved c =
    keys_more c.args.mentions.now c.args.names.now [] c.loop-name.all c.extend.new.self c.loop-name.name-index _ c.loop-name-test.true c.loop-name.invariant
    (c.in_ok-extend.ensures.ok ∙ ap (λ (l : List ℕ). c.loop-name.all ++ l) c.keys.ensures)

pub returns : goal.returns
returns c =
    let mentions = c.args.mentions.now in
    let names = c.args.names.now in
    let grows : GrowsBy (FromSome (Mention mentions) names) [] c.loop-name.all =
    grows_end (Mention mentions) names [] c.loop-name.all c.loop-name.name-index c.loop-name-test.false c.loop-name.invariant in
    both_ok _ _ _ c.each_once.result c.each_once.ensures c.each_once.ensures (λ keys same again.
    keys_told mentions names [] c.as_slice.result.now keys.items refl (subst (λ (l : List ℕ). GrowsBy (FromSome (Mention mentions) names) [] l) (sym c.as_slice.ensures) grows) same)
