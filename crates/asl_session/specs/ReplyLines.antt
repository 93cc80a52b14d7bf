-- The lines that tell of replies.
use Rattle.std.specs.Prelude.{ℕ, List, [], ◌∷◌, ◌++◌, map, Some, codes, pos}
use Rattle.std.specs.Fmt.{decimal, signed_decimal}
use Rattle.asl_json_data.specs.Data.{Data, text, number, list, chain}
use Rattle.asl_json.specs.View.{data_of}
use Rattle.asl_json_data.specs.Compact.{compact}
use Rattle.asl_time.specs.StampText.{stamp_of}
use Rattle.asl_step.specs.Rows.{error_output}
use Rattle.asl_step.specs.declared.record.Record.{Record}
use Rattle.asl_step.specs.declared.record.Record.TheVariants.{New, Ready, Pausing, Again, Forked, Done, Failed}
use Rattle.asl_run_state.specs.Lines.{reply_text}
use Rattle.asl_session.specs.declared.reply.Reply.{Reply}
use Rattle.asl_session.specs.declared.reply.Reply.TheVariants.{Stepped, Refused, Paused, Set, Cleared, Resumed, NotPaused, NoSuchState, NoSuchPlace, Shown, WentBack, TooFar}

-- ---- a record as a list: its kind, then its fields in order

-- how often each retrier was used
abbrev pub uses_data : List ℕ → Data
uses_data us = list (chain (map (λ n. number (signed_decimal (pos n))) us))

-- a moment is its stamp, an error its error output
abbrev pub fields_of : Record → List Data
fields_of (New n x) = text (codes "New") ∷ text n ∷ data_of x ∷ []
fields_of (Ready n x) = text (codes "Ready") ∷ text n ∷ data_of x ∷ []
fields_of (Pausing n x since until) =
    text (codes "Pausing") ∷ text n ∷ data_of x ∷ text (stamp_of since) ∷ text (stamp_of until)
    ∷ []
fields_of (Again n x since uses until) =
    text (codes "Again") ∷ text n ∷ data_of x ∷ text (stamp_of since) ∷ uses_data uses
    ∷ text (stamp_of until)
    ∷ []
fields_of (Forked n x since uses items) =
    text (codes "Forked") ∷ text n ∷ data_of x ∷ text (stamp_of since) ∷ uses_data uses
    ∷ list (chain items)
    ∷ []
fields_of (Done x) = text (codes "Done") ∷ data_of x ∷ []
fields_of (Failed e) = text (codes "Failed") ∷ data_of (error_output e) ∷ []

abbrev pub record_data : Record → Data
record_data r = list (chain (fields_of r))

-- ---- a line

abbrev pub answer_text : Reply → List ℕ
answer_text Stepped = codes "ok"
answer_text (Refused r) = reply_text (Some r)
answer_text (Paused n) = codes "paused " ++ compact (text n)
answer_text Set = codes "set"
answer_text Cleared = codes "cleared"
answer_text Resumed = codes "resumed"
answer_text NotPaused = codes "NotPaused"
answer_text NoSuchState = codes "NoSuchState"
answer_text NoSuchPlace = codes "NoSuchPlace"
answer_text (Shown r) = codes "shown " ++ compact (record_data r)
answer_text (WentBack left) = codes "back " ++ decimal left
answer_text TooFar = codes "TooFar"

abbrev pub answer_line : Reply → List ℕ
answer_line r = answer_text r ++ 10 ∷ []
