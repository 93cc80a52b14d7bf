use Rattle.std.proofs.Common.{◌≡◌, ◌∙◌, ap, ap₂}
use Rattle.std.specs.Prelude.{Option, Some}
use Rattle.clap.specs.Words.{Rule, new_rule, rule_of}
use Rattle.clap.specs.declared.Arg.{Arg}
use Rattle.clap.specs.declared.builder.ValueParser.{ValueParser}
use Rattle.asl_arguments.proofs.lines.option.Goals as goal

pub returns-clause-rule : goal.returns-clause-rule
returns-clause-rule c =
    let name = c.args.name.now in
    let long : rule_of c.long.result ≡ record (new_rule name) { long = Some name } =
    ap rule_of c.long.ensures ∙ ap (λ (q : Rule). record q { long = Some name }) c.new.ensures.rule in
    let shown : rule_of c.value_name.result ≡ record (new_rule name) { long = Some name; value_names = 1 } =
    ap rule_of c.value_name.ensures ∙ ap (λ (q : Rule). record q { value_names = 1 }) long in
    let parser : c.value_parser.result.value_parser ≡ Some c.args.parser = c.value_parser.ensures.given.1 ∙ ap Some c.value_parser.ensures.given.2 in
    ap rule_of c.value_parser.ensures.others ∙ ap₂ (λ (q : Rule) (p : Option ValueParser). record q { parser = p }) shown parser

pub returns-clause-global : goal.returns-clause-global
returns-clause-global c =
    ap (λ (a : Arg). a.global) c.value_parser.ensures.others ∙ ap (λ (a : Arg). a.global) c.value_name.ensures
    ∙ ap (λ (a : Arg). a.global) c.long.ensures ∙ c.new.ensures.optional.1
