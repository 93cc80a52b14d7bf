use Rattle.asl_suite_coverage.proofs.Counting.{covered_in_few}
use Rattle.asl_suite_coverage.proofs.json_object.put_file.Goals as goal

pub put_share-requires : goal.put_share-requires
put_share-requires c = rw (c.covered_in.ensures, c.points_in.ensures) (covered_in_few c.args.file c.args.points.now)
