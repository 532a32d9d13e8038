use Rattle.std.proofs.Common.{◌∙◌, sym, ap, inl, inr}
use Rattle.std.specs.Prelude.{Some}
use Rattle.sk_base.proofs.Searches.{on_ok}
use Rattle.std.proofs.lemmas.Option.{same_Some}
use Rattle.sk_neighbours.proofs.index.Index.put_last.Goals as goal

pub returns-in-Some-clause-held : goal.returns-in-Some-clause-held
returns-in-Some-clause-held c =
    on_ok c.put.result c.put.ensures.held (λ held d. (
      (λ h. elim ((held d).0 h) [ inl was ↦ inl was | inr is ↦ inr (sym c.in-Some.ensures.value ∙ ap Some (sym is)) ]),
      (λ h. (held d).1 (elim h [ inl was ↦ inl was | inr last ↦ inr (sym (same_Some _ _ (c.in-Some.ensures.value ∙ last))) ])),
    ))
