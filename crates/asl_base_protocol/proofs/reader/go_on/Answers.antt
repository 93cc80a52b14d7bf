use Rattle.std.proofs.Common.{◌≡◌, ◌≤◌, ◌++◌, [], ℕ, List, length, take, sym, ap, ◌∙◌, arith}
use Rattle.std.proofs.lemmas.List.{append-nil, take-append-drop}
use Rattle.asl_base_protocol.specs.Standing.{wanted}
use Rattle.asl_base_protocol.proofs.Reading.{going_begun, going_on, begins_more}
use Rattle.asl_base_protocol.proofs.reader.go_on.Goals as goal

pub loop-rest-init : goal.loop-rest-init
loop-rest-init c = record {
  going = going_begun c.args.begun c.args.bytes.now c.args.items.now.items;
  kept = ([], sym (append-nil c.args.items.now.items));
}

pub loop-rest-preserved : goal.loop-rest-preserved
loop-rest-preserved c =
    let rest = c.loop-rest.rest.now in
    let front = c.split_at.result.0.now in
    let behind = c.split_at.result.1.now in
    let cut : rest ≡ front ++ behind =
    sym (ap (λ (x : List ℕ). x ++ behind) c.split_at.ensures.front ∙ ap (λ (x : List ℕ). take c.min.result rest ++ x) c.split_at.ensures.back ∙ take-append-drop c.min.result rest)
    in
    let few : length front ≤ wanted c.loop-rest.part = omega (arith, c.split_at.ensures.front_len, c.min.ensures, c.wanted.ensures.count) in
    record {
      going =
          going_on c.args.begun c.loop-rest.part c.in_ok-part.part c.args.bytes.now rest front behind c.args.items.now.items c.loop-rest.items.items c.put.new.items.items c.in_ok-turn.turn c.loop-rest.invariant.going cut
          (λ t s. c.in_ok-turn.ensures t s few) c.in_ok-part.ensures.part;
      kept = begins_more c.args.items.now.items c.loop-rest.items.items c.put.new.items.items c.loop-rest.invariant.kept c.in_ok-part.ensures.kept;
    }
