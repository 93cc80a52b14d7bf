use Rattle.asl_suite_coverage.proofs.siting.sites_of.Goals as goal

pub returns-clause-lines : goal.returns-clause-lines
returns-clause-lines c = λ text. c.in_ok-sites.ensures.lines (c.in_ok-outline.ensures text)
