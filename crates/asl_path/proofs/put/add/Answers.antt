use Rattle.std.proofs.Common.{refl, ap, length, ◌-◌, ℕ, ◌≡◌}
use Rattle.asl_json.specs.View.{data_of}
use Rattle.asl_path.specs.Walk.{put}
use Rattle.asl_path.proofs.Opening.{add_lacks, add_none, add_some}
use Rattle.asl_path.proofs.put.add.Goals as goal

pub returns-in-Err-NoMatch : goal.returns-in-Err-NoMatch
returns-in-Err-NoMatch c = (refl, refl, add_none c.args.members c.args.step.now c.in-Name.name (λ w. put w c.args.rest.now (data_of c.args.part)) c.in-Name.is c.requires (c.in-Err-NoMatch.ensures.why c.in-Err-NoMatch.field-0-is (data_of c.args.part)))

pub push-requires : goal.push-requires
push-requires c = add_lacks c.args.step.now c.in-Name.name c.in-Ok-try_clone.key c.args.members c.in-Name.is c.requires c.in-Ok-try_clone.ensures

pub returns : goal.returns
returns c =
    let new = c.push.new.self in
    let i = c.len-last.result - 1 in
    let last : i ≡ length new - 1 = ap (λ (n : ℕ). n - 1) c.len-last.ensures in
    add_some c.args.members new c.args.step.now c.in-Name.name c.in-Ok-try_clone.key c.args.rest.now c.in-Ok.inner.items (data_of c.args.part) (data_of c.close_all.result) (data_of c.close.result) i
    c.in-Name.is c.requires c.in-Ok.ensures.ok c.in-Ok-try_clone.ensures c.in-Ok-push.ensures.ok last c.close_all.ensures c.close.ensures
