use Rattle.std.proofs.Common.{◌∙◌, ◌++◌, List, subst, sym, ap}
use Rattle.std.specs.Prelude.{◌↔◌, Contains, Option}
use Rattle.sk_base.proofs.Searches.{on_ok}
use Rattle.sk_family.specs.declared.Merge.{Merge}
use Rattle.sk_open_triples.specs.declared.heir.Heir.{Heir}
use Rattle.sk_open_triples.specs.HandedOn.{IsTakenIn, IsToAdd, AreFoundFor}
use Rattle.sk_open_triples.proofs.Adding.{taken_anew, taken_by_heir}
use Rattle.sk_open_triples.proofs.open_triples.OpenTriples.take_in.Goals as goal

pub returns-in_ok-hand_on-in-Some : goal.returns-in_ok-hand_on-in-Some
returns-in_ok-hand_on-in-Some c =
    on_ok c.drop_naming.result c.drop_naming.ensures (λ left.
    subst (λ (o : Option Heir). IsTakenIn c.args.gone.now (IsToAdd o c.args.gone.now c.args.found c.args.self.now) c.args.self.now c.drop_naming.new.self) (sym c.in-Some.is)
    (taken_by_heir c.in-Some.heir c.args.gone.now c.args.found c.args.self.now c.hand_on.new.self c.drop_naming.new.self c.in_ok-hand_on-in-Some.ensures left))

pub push_all-requires : goal.push_all-requires
push_all-requires c m m_in =
    let right = subst (λ (o : Option Heir). AreFoundFor o c.args.gone.now c.args.found) c.in-None.is c.requires.right in
    right m (subst (λ (ms : List Merge). Contains ms m) c.as_slice.ensures ((c.in_ok-found-in-None.ensures.same m).0 (subst (λ (ms : List Merge). Contains ms m) c.as_slice-in-None.ensures.value m_in)))

pub returns-in_ok-found-in-None : goal.returns-in_ok-found-in-None
returns-in_ok-found-in-None c =
    let gone = c.args.gone.now in
    let found = c.args.found in
    let old = c.args.self.now in
    let mid = c.drop_naming-in-None.new.self in
    let ordered = c.in_ok-found-in-None.found.items in
    let right = subst (λ (o : Option Heir). AreFoundFor o gone found) c.in-None.is c.requires.right in
    on_ok c.push_all.result c.push_all.ensures (λ pushed.
    subst (λ (o : Option Heir). IsTakenIn gone (IsToAdd o gone found old) old c.push_all.new.self) (sym c.in-None.is)
    (taken_anew gone found old mid ordered c.push_all.new.self c.in_ok-drop_naming-in-None.ensures (pushed ∙ ap (λ (ms : List Merge). mid ++ ms) c.as_slice-in-None.ensures.value)
    (subst (λ (ms : List Merge). (m : Merge) → Contains ordered m ↔ Contains ms m) c.as_slice.ensures c.in_ok-found-in-None.ensures.same)
    (c.in_ok-found-in-None.ensures.in_order (λ m m_in. right m (subst (λ (ms : List Merge). Contains ms m) c.as_slice.ensures m_in)))))
