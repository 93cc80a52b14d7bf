use Rattle.std.proofs.Common.{◌≡◌, [], ◌∙◌, ap, sym, List, ℕ, Ok}
use Rattle.asl_json_data.specs.Data.{Data}
use Rattle.asl_json.specs.View.{members_of}
use Rattle.asl_intrinsic_functions.specs.Merge.{merged}
use Rattle.asl_intrinsic_functions.specs.private.Loops.{put_in}
use Rattle.asl_intrinsic_functions.proofs.Overriding.{put_both}
use Rattle.asl_intrinsic_functions.proofs.merge.merged.Goals as goal

pub returns : goal.returns
returns c =
    let one : c.put_all.new.members ≡ put_in [] c.args.first.now = c.in_ok-put_all.ensures.members ∙ ap (λ (x : List (List ℕ × Data)). put_in x (members_of c.members.result.now)) c.new-members.ensures ∙ ap (put_in []) c.members.ensures.members in
    let both : c.put_all-2.new.members ≡ merged c.args.first.now c.args.second.now =
    c.in_ok-put_all-2.ensures.members ∙ ap (λ (x : List (List ℕ × Data)). put_in x (members_of c.members-2.result.now)) one ∙ ap (put_in (put_in [] c.args.first.now)) c.members-2.ensures.members
    ∙ put_both c.args.first.now c.args.second.now c.members.ensures.distinct c.members-2.ensures.distinct in
    ap (λ (x : List (List ℕ × Data)). Ok x) (sym both)
