use Rattle.std.proofs.Common.{◌≡◌, ◌<◌, inl, inr, sym, subst, get_or}
use Rattle.std.specs.Prelude.{Contains}
use Rattle.std.proofs.lemmas.List.Elements.{Contains-get_or}
use Rattle.sk_base.specs.declared.Elem.{Elem}
use Rattle.sk_triangles.proofs.Fronts.{front_more, front_all}
use Rattle.sk_close_by_angles.specs.Classes.{class_of}
use Rattle.sk_close_by_angles.proofs.Tying.{tied_in_one}
use Rattle.sk_close_by_angles.proofs.Classing.{coarsens_on}
use Rattle.sk_close_by_angles.proofs.classes.tie_to.Goals as goal

pub loop-elem-preserved : goal.loop-elem-preserved
loop-elem-preserved c =
    let xs = c.args.elements.now in
    let i = c.loop-elem.elem-index in
    let d : Elem = record { 0 = 0 } in
    let i_in = c.loop-elem-test.true in
    let mid = c.loop-elem.classes in
    let now = c.tie.new.classes in
    let so_far = c.loop-elem.invariant in record {
      coarsens = coarsens_on c.args.classes.now mid now so_far.coarsens c.tie.ensures.coarsens;
      joined = λ e e_in line. elim ((front_more xs i d i_in e).0 e_in) [
        | inl before ↦ c.tie.ensures.stays e (so_far.joined e before ((c.tie.ensures.coarsens.same_lines e).0 line))
        | inr here ↦ subst (λ z. class_of now z ≡ c.args.to) here (c.tie.ensures.joined (subst (λ z. 0 < class_of now z) (sym here) line))
      ];
      one = λ one. (let first = so_far.one one in (first.0, first.1, c.tie.ensures.stays first.0 first.2));
      tell = λ g f x x_in same one told. (
          let first = so_far.one one in
          let tell = so_far.tell g f x x_in same one told in
          let elem = get_or xs i d in
          c.tie.ensures.tell g f first.0 first.2
          (λ line. tied_in_one g f first.0 elem ((tell.lines first.0).0 (subst (λ n. 0 < n) (sym first.2) c.requires.to)) ((tell.lines elem).0 line) x x_in
          (subst (λ ys. Contains ys first.0) (sym same) first.1)
          (subst (λ ys. Contains ys elem) (sym same) (Contains-get_or xs i d i_in)))
          tell);
    }

pub returns-clause-joined : goal.returns-clause-joined
returns-clause-joined c e e_in line =
    c.loop-elem.invariant.joined e ((front_all c.args.elements.now c.loop-elem.elem-index c.loop-elem-test.false e).1 e_in) line
