use Rattle.asl_explore_errors.proofs.searching.try_new.Goals as goal

pub returns : goal.returns
returns g c = record {
  tried = c.in_ok-tried.tried.plan;
  witnesses = c.in_ok-tried.tried.found;
  plans = c.in_ok-all.ensures.plans;
  found = c.in_ok-all.ensures.found;
  is_plan = c.in_ok-tried.ensures.plan;
  is_found = c.in_ok-tried.ensures.found;
}
