-- A command with one argument more.
use Rattle.std.proofs.Common.{◌≡◌, ◌∙◌, ◌<◌, ◌+◌, ℕ, List, map, ap, sym, length, get_or, drop}
use Rattle.std.specs.Prelude.{fold}
use Rattle.std.proofs.lemmas.List.{at_drop_more}
use Rattle.clap.specs.Words.{App, Rule, with_rule}
use Rattle.asl_arguments.specs.Grammar.{rule_for}
use Rattle.asl_arguments.specs.declared.arguments.Argument.{Argument}

pub one_more : (rows : List Argument) (i : ℕ) (r : Argument) (a b whole : App) (rule : Rule) → i < length rows → rule ≡ rule_for (get_or rows i r) → b ≡ with_rule a rule
    → fold with_rule a (map rule_for (drop i rows)) ≡ whole → fold with_rule b (map rule_for (drop (i + 1) rows)) ≡ whole
one_more rows i r a b whole rule within is added before =
    ap (λ (x : App). fold with_rule x (map rule_for (drop (i + 1) rows))) (added ∙ ap (with_rule a) is)
    ∙ sym (at_drop_more (λ rs. fold with_rule a (map rule_for rs)) rows i r within) ∙ before
