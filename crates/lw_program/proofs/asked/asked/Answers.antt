use Rattle.std.proofs.Common.{◌≡◌, ◌∙◌, ap, ap₂, true}
use Rattle.clap.specs.Words.{app_of, with_rule}
use Rattle.clap.specs.Simple.{app_of_fields, on_top}
use Rattle.lw_program.specs.Parsed.{named}
use Rattle.lw_program.proofs.asked.asked.Goals as goal

pub returns : goal.returns
returns c =
    let named_is : app_of c.disable_version_flag.result ≡ named =
    ap app_of_fields c.disable_version_flag.ensures
    ∙ ap (on_top (λ s. record s { disable_version_flag = true })) (ap app_of_fields c.disable_help_flag.ensures ∙ ap (on_top (λ s. record s { disable_help_flag = true })) c.new.ensures.app) in
    let first = c.in_ok-arg.ensures.shape c.option.ensures.local ∙ ap₂ with_rule named_is c.option.ensures.rule in
    let second = c.in_ok-arg-2.ensures.shape c.option-2.ensures.local ∙ ap₂ with_rule first c.option-2.ensures.rule in
    let third = c.in_ok-arg-3.ensures.shape c.option-3.ensures.local ∙ ap₂ with_rule second c.option-3.ensures.rule in
    c.in_ok-command.ensures.shape c.option-4.ensures.local ∙ ap₂ with_rule third c.option-4.ensures.rule
