use Rattle.asl_json.specs.View.{members_of}
use Rattle.asl_json.proofs.Knowing.{has_known, keys_push}
use Rattle.asl_json.proofs.keys.Keys.add.Goals as goal
use Rattle.asl_json.proofs.keys.Keys.add.Goals.{in-Some-2, in-None-2}

pub returns-in_ok-insert-in-Some-clause-ok : goal.returns-in_ok-insert-in-Some-clause-ok
returns-in_ok-insert-in-Some-clause-ok c =
    let ms = members_of c.args.members.now in
    let known = has_known c.self.inside.names c.in-Some.names c.args.self.now ms c.in-Some.is c.self.view_is c.requires in
    keys_push c.args.key.now c.in_ok-name.name c.in-Some.names c.insert.new.self ms c.in_ok-name.ensures.ok c.in_ok-insert-in-Some.ensures.updates known

pub returns-in_ok-insert-in-None-clause-ok : goal.returns-in_ok-insert-in-None-clause-ok
returns-in_ok-insert-in-None-clause-ok c =
    let ms = members_of c.args.members.now in
    let known = keys_push c.args.key.now c.in_ok-name.name c.in_ok-names-in-None.names c.insert-in-None.new.self ms c.in_ok-name.ensures.ok c.in_ok-insert-in-None.ensures.updates c.in_ok-names-in-None.ensures in
    elim c.match-self-3.branch [ in-Some-2 w ↦ rw (w.self-is) known | in-None-2 w ↦ rw (w.self-is) known ]
