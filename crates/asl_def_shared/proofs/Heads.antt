-- Members of the outermost machine without faults are such as they are compiled from.
use Rattle.std.proofs.Common.{ℕ, List, refl}
use Rattle.std.specs.Prelude.{codes}
use Rattle.asl_json_data.specs.Data.{Pairs, dict}
use Rattle.asl_json.specs.Meaning.{value_at}
use Rattle.asl_def_schema.specs.declared.sort.Sort.TheVariants as sort
use Rattle.asl_def_schema.specs.Members.{shape_in, sort_at, definition_rows}
use Rattle.asl_def_schema.specs.Clean.{IsClean, Fits}
use Rattle.asl_def_schema.proofs.Inside.{fits_at, object_inside}

fits_in : (ms : Pairs) (k : List ℕ) → IsClean sort.Definition (dict ms) → Fits (sort_at (shape_in sort.Definition ms) k) (value_at k ms)
fits_in ms k c = fits_at _ (shape_in sort.Definition ms) ms k (object_inside c.names sort.Definition ms refl c.is)

pub comment_fits : (ms : Pairs) → IsClean sort.Definition (dict ms) → Fits sort.Text (value_at (codes "Comment") ms)
unfolding definition_rows
comment_fits ms c = fits_in ms (codes "Comment") c

pub language_fits : (ms : Pairs) → IsClean sort.Definition (dict ms) → Fits sort.QueryLanguage (value_at (codes "QueryLanguage") ms)
unfolding definition_rows
language_fits ms c = fits_in ms (codes "QueryLanguage") c

pub version_fits : (ms : Pairs) → IsClean sort.Definition (dict ms) → Fits sort.Version (value_at (codes "Version") ms)
unfolding definition_rows
version_fits ms c = fits_in ms (codes "Version") c

pub timeout_fits : (ms : Pairs) → IsClean sort.Definition (dict ms) → Fits sort.FromOne (value_at (codes "TimeoutSeconds") ms)
unfolding definition_rows
timeout_fits ms c = fits_in ms (codes "TimeoutSeconds") c
