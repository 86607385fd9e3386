use Rattle.std.proofs.Common.{◌-◌, length, take, drop, refl, sym, ◌∙◌}
use Rattle.command_words.proofs.Options.{first_flag, first_number, none_of}
use Rattle.command_words.proofs.words.+settings_from.Goals as goal

pub returns-in-Some : goal.returns-in-Some
returns-in-Some t c =
    c.settings_from.ensures ∙ sym (first_flag c.args.verb c.args.settings c.in_ok-with_option.field-0 c.args.words.now _ c.in-Some.flag c.in-len1-up.len_at_least (sym c.flag_named.ensures ∙ c.in-Some.is) (sym c.in_ok-with_option.ensures))

pub returns : goal.returns
returns t c =
    let rest = take (length c.args.words.now - 1) (drop 1 c.args.words.now) in
    c.settings_from-2.ensures ∙ sym (first_number c.args.verb c.args.settings c.in_ok-with_option-2.field-0 c.args.words.now rest _ c.in_ok-given.given c.in-len1-up.len_at_least refl c.in-len1-up-rest.len_at_least
    (sym c.flag_named.ensures ∙ none_of _ c.in_default-flag_named.not-Some) (sym c.in_ok-given.ensures) (sym c.in_ok-with_option-2.ensures))
