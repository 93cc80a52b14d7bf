-- What services answer (Step Functions Developer Guide, "Integrating services").
use Rattle.std.specs.Prelude.{ℕ, List, if◌then◌else◌, codes, pos}
use Rattle.std.specs.Fmt.{signed_decimal}
use Rattle.asl_json_data.specs.Data.{Data, text, number, list, dict, no_items, item, no_members, member}
use Rattle.asl_json.specs.Same.{bytes_eq}

abbrev pub empty : Data
empty = dict no_members

abbrev pub with_text : List ℕ → List ℕ → Data
with_text k t = dict (member k (text t) no_members)

abbrev pub with_value : List ℕ → Data → Data
with_value k d = dict (member k d no_members)

-- of Lambda
abbrev pub invoked : Data
invoked =
    dict
    (member (codes "ExecutedVersion") (text (codes "$LATEST"))
    (member (codes "Payload") empty
    (member (codes "StatusCode") (number (signed_decimal (pos 200))) no_members)))

-- of SQS
abbrev pub sent : Data
sent =
    dict
    (member (codes "MD5OfMessageBody") (text (codes "d41d8cd98f00b204e9800998ecf8427e"))
    (member (codes "MessageId") (text (codes "message-1")) no_members))

-- of EventBridge
abbrev pub events_put : Data
events_put =
    dict
    (member (codes "Entries") (list (item (with_text (codes "EventId") (codes "event-1")) no_items))
    (member (codes "FailedEntryCount") (number (signed_decimal (pos 0))) no_members))

-- of an execution that ended with this output
abbrev pub ended : Data → Data
ended d =
    dict (member (codes "Output") d (member (codes "Status") (text (codes "SUCCEEDED")) no_members))

-- to the service integration with this resource; an empty object where its shape isn't known
abbrev pub answer_of : List ℕ → Data
answer_of r =
    if bytes_eq r (codes "arn:aws:states:::lambda:invoke") then invoked
    else if bytes_eq r (codes "arn:aws:states:::sqs:sendMessage") then sent
    else if bytes_eq r (codes "arn:aws:states:::sns:publish")
    then with_text (codes "MessageId") (codes "message-1")
    else if bytes_eq r (codes "arn:aws:states:::dynamodb:getItem")
    then with_value (codes "Item") empty
    else if bytes_eq r (codes "arn:aws:states:::events:putEvents") then events_put
    else if bytes_eq r (codes "arn:aws:states:::states:startExecution.sync:2") then ended empty
    else if bytes_eq r (codes "arn:aws:states:::states:startExecution.sync")
    then ended (text (codes "{}"))
    else empty
