use Rattle.std.proofs.Common.{◌≤◌, ◌+◌, length, subst, ap, ◌∙◌, arith}
use Rattle.asl_project.specs.Form.{shows}
use Rattle.asl_project.specs.Places.{IsEntryIn, IsEntry}
use Rattle.asl_project.proofs.Prefixes.{seen_blanks, blanks_end}
use Rattle.asl_project.proofs.places.place_of.Goals as goal

pub overflow_add-at : goal.overflow_add-at
overflow_add-at c =
    let entry : IsEntry c.args.text.now (shows c.args.spot.now) c.in-Some.begin =
    subst (λ o. IsEntryIn c.args.text.now (shows c.args.spot.now) o) c.in-Some.is c.in_ok-begin.ensures in
    let is = seen_blanks c.args.text.now c.in-Some.begin c.blanks.result c.blanks.ensures in
    let within : c.in-Some.begin ≤ length c.args.text.now = omega (arith, entry.further, entry.within) in
    omega (arith, blanks_end c.args.text.now c.in-Some.begin c.blanks.result within is)

pub returns : goal.returns
returns c =
    let entry : IsEntry c.args.text.now (shows c.args.spot.now) c.in-Some.begin =
    subst (λ o. IsEntryIn c.args.text.now (shows c.args.spot.now) o) c.in-Some.is c.in_ok-begin.ensures in
    let is = seen_blanks c.args.text.now c.in-Some.begin c.blanks.result c.blanks.ensures in
    let within : c.in-Some.begin ≤ length c.args.text.now = omega (arith, entry.further, entry.within) in
    let end = blanks_end c.args.text.now c.in-Some.begin c.blanks.result within is in
    record {
      begin = c.in-Some.begin;
      entry = entry;
      at = c.forward.ensures.at (omega (arith, c.start.ensures.at)) end ∙ ap (λ n. c.in-Some.begin + n) is;
      position = c.forward.ensures.position;
    }
