use Rattle.asl_explore.proofs.remarking.remarks_on.Goals as goal

pub returns : goal.returns
returns c o s ws cases all seen = record {
  shared = c.in_ok-shared_in.ensures o s ws cases all seen;
  unentered = c.in_ok-unentered_in.ensures o s ws all seen;
  unanswered = c.in_ok-unanswered_in.ensures o s ws cases all seen;
  cut_off = c.in_ok-cut_off_in.ensures o s ws all seen;
}
