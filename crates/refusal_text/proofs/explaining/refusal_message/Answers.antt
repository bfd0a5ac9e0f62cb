use Rattle.std.proofs.Common.{◌∙◌, ◌++◌, ℕ, List, ap}
use Rattle.std.specs.Prelude.{Option}
use Rattle.refusal_text.specs.Explaining.{pointed_message, hint_of, names_of}
use Rattle.refusal_text.specs.Sentences.{sentence_of}
use Rattle.refusal_text.specs.Scopes.{names_held}
use Rattle.refusal_text.proofs.Messages.{cut_back, first_at}
use Rattle.refusal_text.proofs.explaining.refusal_message.Goals as goal

pub returns : goal.returns
returns c =
    let text = c.args.text.now in
    let at = c.args.fault.at in
    let found = c.in_ok-asked.field-0 in
    let rest = cut_back text _ at _ c.split_at.ensures.back c.min.ensures in (
      found.asked,
      found.hint,
      found.used,
      names_held found.names,
      c.in_ok-asked.ensures.asked,
      c.in_ok-asked.ensures.hint,
      c.in_ok-asked.ensures.used,
      c.in_ok-asked.ensures.names,
      c.in_ok-push_names.ensures ∙ ap (λ (x : List ℕ). x ++ names_of found.used (names_held found.names))
          (c.in_ok-push_help.ensures ∙ ap (λ (x : List ℕ). x ++ hint_of c.args.job.now text found.hint)
          (c.in_ok-message.ensures ∙ ap (pointed_message c.args.job.now text at)
          (c.sentence_of-sentence.ensures ∙ ap (λ (x : Option ℕ). sentence_of c.args.fault.kind x found.asked found.used)
          (c.copied.ensures ∙ c.first.ensures.value ∙ first_at text _ at rest)))),
    )
