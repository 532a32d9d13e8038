use Rattle.std.proofs.Common.{sym, ◌∙◌, ap, subst}
use Rattle.std.specs.Prelude.{map, string_bytes}
use Rattle.sk_request.specs.declared.request.Request.{Request}
use Rattle.sk_request.specs.Asking.{Asks}
use Rattle.sk_request.proofs.Keys.{if_none, keys_of, no_size, sized_word}
use Rattle.sk_request.proofs.request.request_of.Goals as goal

pub returns-in_err-settings-clause-none : goal.returns-in_err-settings-clause-none
returns-in_err-settings-clause-none c =
    if_none c.from_residual-in_err-settings.result _ (λ request asks.
    (let asked = subst (λ words. Asks words request) (ap (map string_bytes) c.in_ok-first.ensures.cases.0) asks in
    let word = c.in_ok-named.ensures.some in
    c.in_err-settings.ensures.none request (sym asked.0 ∙ sym c.as_str.ensures.value ∙ word) asked.1))

pub returns-in_err-command-clause-none : goal.returns-in_err-command-clause-none
returns-in_err-command-clause-none c =
    if_none c.from_residual-in_err-command.result _ (λ request asks.
    (let asked = subst (λ words. Asks words request) (ap (map string_bytes) c.in_ok-first.ensures.cases.0) asks in
    let word = c.in_ok-named.ensures.some in
    no_size c.in_ok-named.named _ c.in_ok-settings.settings c.in_ok-settings.ensures.some c.in_err-command.ensures.none request (sym asked.0 ∙ sym c.as_str.ensures.value ∙ word) asked.1))

pub returns-clause-some : goal.returns-clause-some
returns-clause-some c =
    let request : Request = record {
      command = c.in_ok-command.command;
      order = c.unwrap_or.result;
      bits = c.unwrap_or-2.result;
      within = c.unwrap_or-3.result;
      layout = record { by = c.unwrap_or-4.result; frame = c.unwrap_or-5.result };
    } in
    subst (λ words. Asks words request) (sym (ap (map string_bytes) c.in_ok-first.ensures.cases.0)) (
      sym c.as_str.ensures.value ∙ c.in_ok-named.ensures.some ∙ sized_word c.in_ok-named.named c.in_ok-command.command c.in_ok-settings.settings.size c.in_ok-command.ensures.some,
      keys_of c.in_ok-named.named c.in_ok-command.command _ c.in_ok-settings.settings c.unwrap_or.result c.unwrap_or-2.result c.unwrap_or-3.result c.unwrap_or-4.result c.unwrap_or-5.result c.in_ok-settings.ensures.some
          c.unwrap_or.ensures c.unwrap_or-2.ensures c.unwrap_or-3.ensures c.unwrap_or-4.ensures c.unwrap_or-5.ensures c.in_ok-command.ensures.some,
    )
