use Rattle.std.proofs.Common.{subst, sym}
use Rattle.std.specs.List.{All}
use Rattle.asl_json_data.specs.Data.{Data}
use Rattle.asl_json_data.specs.Grammar.{IsText}
use Rattle.asl_suite_coverage.specs.Sites.{IsLined}
use Rattle.asl_suite_coverage.specs.declared.siting.Sited.{Sited}
use Rattle.asl_cli.proofs.covering.sites_in.Goals as goal

pub returns : goal.returns
returns c = record {
  points = c.in_ok-sites.ensures.points;
  lines = λ d r.
      let same = c.in_ok-value.ensures d r in
      let is_text = subst (λ (e : Data). IsText c.args.bytes.now e) (sym same) r.reads.0 in
      subst (λ (e : Data). All (λ (s : Sited). IsLined c.args.bytes.now e s.line) c.in_ok-sites.sites.items) same (c.in_ok-sites.ensures.lines is_text);
}
