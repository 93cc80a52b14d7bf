use Rattle.std.proofs.Common.{[], ◌∷◌, ◌++◌, codes}
use Rattle.asl_host.specs.Outcomes.{sink_use, IsBroken}
use Rattle.asl_host.proofs.Breaking.{broken_first, broken_rest, when_err, map_err}
use Rattle.asl_host.proofs.telling.write_fault.Goals as goal

pub returns-in_err-write_piece-clause-err : goal.returns-in_err-write_piece-clause-err
returns-in_err-write_piece-clause-err g c =
    when_err _ _ (broken_first g.E.Sink.taken g.E.Sink.failures _ _ (codes "fault: ") (c.args.text.now ++ 10 ∷ []) c.in_err-write_piece.ensures.err)

pub returns-in_err-write_piece-2-clause-err : goal.returns-in_err-write_piece-2-clause-err
returns-in_err-write_piece-2-clause-err g c =
    when_err _ _ (broken_rest g.E.Sink.taken g.E.Sink.failures _ _ _ (codes "fault: ") (c.args.text.now ++ 10 ∷ [])
    c.in_ok-write_piece.ensures.ok
    (broken_first g.E.Sink.taken g.E.Sink.failures _ _ c.args.text.now (10 ∷ []) c.in_err-write_piece-2.ensures.err))

pub returns-clause-err : goal.returns-clause-err
returns-clause-err g c =
    map_err c.write_piece-3.result
    (IsBroken (sink_use g.E.Sink.taken g.E.Sink.failures c.write_piece-2.new.sink c.write_piece-3.new.sink) (10 ∷ []))
    (IsBroken (sink_use g.E.Sink.taken g.E.Sink.failures c.args.err.now c.write_piece-3.new.sink) (codes "fault: " ++ (c.args.text.now ++ 10 ∷ [])))
    (λ broken. broken_rest g.E.Sink.taken g.E.Sink.failures _ _ _ (codes "fault: ") (c.args.text.now ++ 10 ∷ [])
    c.in_ok-write_piece.ensures.ok
    (broken_rest g.E.Sink.taken g.E.Sink.failures _ _ _ c.args.text.now (10 ∷ []) c.in_ok-write_piece-2.ensures.ok broken))
    c.write_piece-3.ensures.err
