use Rattle.std.proofs.Common.{◌≡◌, List, sym, subst, ap}
use Rattle.sk_base.specs.declared.Name.TheVariants.{Step}
use Rattle.sk_family.proofs.Naming.{below_irreflexive}
use Rattle.sk_family.specs.Clusters.{IsWithin}
use Rattle.sk_close_by_order.specs.Known.{NoPairBelow}
use Rattle.sk_close_by_order.proofs.Mending.{no_pair_at_all}
use Rattle.sk_base.specs.declared.Elem.{Elem}
use Rattle.sk_close_by_order.specs.Heirs.{TellsFresh}
use Rattle.sk_close_by_order.proofs.Freshness.{tells}
use Rattle.sk_close_by_order.proofs.Turning.{no_pair_to, within_next, first_is}
use Rattle.sk_close_by_order.proofs.worklist.Worklist.first_pair.Goals as goal

pub first_with_partner-requires-clause-rise : goal.first_with_partner-requires-clause-rise
first_with_partner-requires-clause-rise c x x_in = (c.not_below.ensures.sound.bodies_rise x ((c.not_below.ensures.live x).0 x_in).0).elements

pub first_with_partner-requires-clause-index : goal.first_with_partner-requires-clause-index
first_with_partner-requires-clause-index c = (let (g, follows) = c.requires in follows.represents.index)

pub first_with_partner-requires-clause-tells : goal.first_with_partner-requires-clause-tells
first_with_partner-requires-clause-tells c x x_in =
    let (g, follows) = c.requires in
    let w = c.args.self.now in
    subst (λ (es : List Elem). TellsFresh w.index w.heir es x) (sym c.as_slice.ensures)
    (tells w.index g c.args.family.now c.not_below.ensures.sound follows.represents w.covered w.kept w.gone w.heir w.fresh follows.heirs x ((c.not_below.ensures.live x).0 x_in).0)

pub returns-in-Some-clause-some : goal.returns-in-Some-clause-some
returns-in-Some-clause-some c g follows =
    let w = c.args.self.now in
    let f = c.args.family.now in
    let p = c.in-Some.ensures.some in
    let r = follows.represents in (
      record {
        represents = r;
        heirs = follows.heirs;
        knows = record {
          clear_within = within_next w.index g f c.not_below.ensures.sound r w.clear c.not_below.result.now c.not_below.ensures.live c.in-Some.x c.in-Some.y p;
          covered_within = follows.knows.covered_within;
          no_pair = no_pair_to w.index g f c.not_below.ensures.sound r w.clear c.not_below.result.now c.not_below.ensures.live follows.knows.no_pair c.in-Some.x p.first;
          keeps = follows.knows.keeps;
        };
      },
      first_is w.index g f c.not_below.ensures.sound r w.clear c.not_below.result.now c.not_below.ensures.live follows.knows.no_pair c.in-Some.x c.in-Some.y p,
    )

pub returns-in-None-clause-none : goal.returns-in-None-clause-none
returns-in-None-clause-none c g follows =
    let w = c.args.self.now in
    let f = c.args.family.now in
    let step : Step c.next_step.result ≡ Step f.next_step = ap Step c.next_step.ensures in
    let no_pair : NoPairBelow f (Step f.next_step) =
    no_pair_to w.index g f c.not_below.ensures.sound follows.represents w.clear c.not_below.result.now c.not_below.ensures.live follows.knows.no_pair (Step f.next_step) (λ d n d_in below. c.in-None.ensures.none d n d_in) in (
      record {
        represents = follows.represents;
        heirs = follows.heirs;
        knows = record {
          clear_within = subst (λ n. IsWithin f n) (sym step) (below_irreflexive (Step f.next_step));
          covered_within = follows.knows.covered_within;
          no_pair = subst (λ n. NoPairBelow f n) (sym step) no_pair;
          keeps = follows.knows.keeps;
        };
      },
      no_pair_at_all g f c.not_below.ensures.sound no_pair,
    )
