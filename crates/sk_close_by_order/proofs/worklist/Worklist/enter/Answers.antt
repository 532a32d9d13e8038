use Rattle.std.proofs.Common.{◌∙◌, List, ◌++◌, sym, subst, ap, inl, inr}
use Rattle.std.specs.Prelude.{Contains}
use Rattle.sk_base.proofs.Searches.{on_ok}
use Rattle.sk_family.specs.declared.Cluster.{Cluster}
use Rattle.sk_family.specs.declared.Merge.{Merge}
use Rattle.sk_family.specs.Merges.{names_of}
use Rattle.sk_neighbours.specs.Indexed.{IsLast}
use Rattle.sk_neighbours.proofs.Representing.{whole_is_greatest, represents_entered}
use Rattle.sk_close_by_order.proofs.Entering.{knows_entered, heirs_entered}
use Rattle.sk_close_by_order.proofs.worklist.Worklist.enter.Goals as goal

pub put_last-requires-clause-greatest : goal.put_last-requires-clause-greatest
put_last-requires-clause-greatest c y x held last =
    let (g, f, (sound, left, after_is)) = c.requires in
    whole_is_greatest c.args.self.now.index g f sound (names_of c.args.merge) left.represents c.args.family.now after_is y x held (subst (λ (l : List Cluster). IsLast l x) c.clusters.ensures.live last)

pub put_last-requires-clause-rise : goal.put_last-requires-clause-rise
put_last-requires-clause-rise c x x_in = (c.clusters.ensures.sound.bodies_rise x (subst (λ (l : List Cluster). Contains l x) c.clusters.ensures.live x_in)).elements

pub returns-in-Two : goal.returns-in-Two
returns-in-Two c =
    on_ok c.extend.result c.extend.ensures.ok (λ gone g f sound left after_is. record {
      represents = represents_entered c.args.self.now.index g f sound (names_of c.args.merge) left.represents c.args.family.now after_is c.put_last.new.self c.in_ok-put_last.ensures.index
          (λ x. (
            (λ h. elim ((c.in_ok-put_last.ensures.held x).0 h) [ inl was ↦ inl was | inr last ↦ inr (subst (λ (l : List Cluster). IsLast l x) c.clusters.ensures.live last) ]),
            (λ h. (c.in_ok-put_last.ensures.held x).1 (elim h [ inl was ↦ inl was | inr last ↦ inr (subst (λ (l : List Cluster). IsLast l x) (sym c.clusters.ensures.live) last) ])),
          )) c.in_ok-put_last.ensures.lines;
      knows = knows_entered c.args.self.now.clear c.args.self.now.covered c.args.self.now.kept c.args.self.now.gone c.extend.new.self g f sound c.args.merge c.args.family.now after_is
          (gone ∙ ap (λ (m : Merge). c.args.self.now.gone ++ names_of m) (sym c.in-Two.is)) left.knows;
      heirs = heirs_entered c.args.self.now.covered c.args.self.now.kept c.args.self.now.gone c.extend.new.self c.args.self.now.heir c.args.self.now.fresh g f c.args.merge c.args.family.now after_is
          (gone ∙ ap (λ (m : Merge). c.args.self.now.gone ++ names_of m) (sym c.in-Two.is)) left.heirs;
    })

pub returns-in-Three : goal.returns-in-Three
returns-in-Three c =
    on_ok c.extend-in-Three.result c.extend-in-Three.ensures.ok (λ gone g f sound left after_is. record {
      represents = represents_entered c.args.self.now.index g f sound (names_of c.args.merge) left.represents c.args.family.now after_is c.put_last.new.self c.in_ok-put_last.ensures.index
          (λ x. (
            (λ h. elim ((c.in_ok-put_last.ensures.held x).0 h) [ inl was ↦ inl was | inr last ↦ inr (subst (λ (l : List Cluster). IsLast l x) c.clusters.ensures.live last) ]),
            (λ h. (c.in_ok-put_last.ensures.held x).1 (elim h [ inl was ↦ inl was | inr last ↦ inr (subst (λ (l : List Cluster). IsLast l x) (sym c.clusters.ensures.live) last) ])),
          )) c.in_ok-put_last.ensures.lines;
      knows = knows_entered c.args.self.now.clear c.args.self.now.covered c.args.self.now.kept c.args.self.now.gone c.extend-in-Three.new.self g f sound c.args.merge c.args.family.now after_is
          (gone ∙ ap (λ (m : Merge). c.args.self.now.gone ++ names_of m) (sym c.in-Three.is)) left.knows;
      heirs = heirs_entered c.args.self.now.covered c.args.self.now.kept c.args.self.now.gone c.extend-in-Three.new.self c.args.self.now.heir c.args.self.now.fresh g f c.args.merge c.args.family.now after_is
          (gone ∙ ap (λ (m : Merge). c.args.self.now.gone ++ names_of m) (sym c.in-Three.is)) left.heirs;
    })
