-- What a message asks for (JSON-RPC 2.0, "Request object", "Notification" and "Response object"; Language Server Protocol 3.17, "Base Protocol"), by the value
-- that its text spells. Batches are no messages of the Language Server Protocol.
use Rattle.std.specs.Prelude.{◌≡◌, ℕ, Bool, true, false, ◌||◌, cond, List, Option, Some, None, option_map, is_some, Result, Ok, Err, codes}
use Rattle.std.specs.Borrow.{Bor}
use Rattle.std.specs.Str.{bytes_eq}
use Rattle.asl_json_data.specs.Data.{Data, null, boolean, number, text, list, dict}
use Rattle.asl_json.specs.declared.value.Json.{Json}
use Rattle.asl_json.specs.View.{data_of, json_of}
use Rattle.asl_json.specs.Meaning.{value_in}
use Rattle.asl_json.specs.Whole.{whole_of}
use Rattle.asl_json_read.specs.Reading.{ReadsAtAnySize}
use Rattle.asl_json_rpc.specs.declared.id.Id.{Id}
use Rattle.asl_json_rpc.specs.declared.id.Id.TheVariants as ids
use Rattle.asl_json_rpc.specs.declared.id.Given.{Given}
use Rattle.asl_json_rpc.specs.declared.id.Given.TheVariants as given
use Rattle.asl_json_rpc.specs.declared.incoming.Incoming.{Incoming}
use Rattle.asl_json_rpc.specs.declared.incoming.Incoming.TheVariants.{Request, Notification, Response}
use Rattle.asl_json_rpc.specs.declared.incoming.CallFault.{CallFault}
use Rattle.asl_json_rpc.specs.declared.incoming.CallFault.TheVariants.{ParseError, InvalidRequest, OutOfMemory}

-- what a clause sees of a value that may be lacking
abbrev pub seen : Option (Bor Json) → Option Data
seen o = option_map (λ v. data_of v.now) o

-- ---- the members of a message

abbrev pub is_whole : List ℕ → Bool
is_whole s = is_some (whole_of s)

-- the id is a text, a whole number or null
abbrev pub id_in : Data → Given
id_in null = given.Id ids.Null
id_in (boolean b) = given.Other
id_in (number s) = cond (is_whole s) (given.Id (ids.Number s)) given.Other
id_in (text s) = given.Id (ids.Text s)
id_in (list ds) = given.Other
id_in (dict ms) = given.Other

abbrev pub given_id : Option Data → Given
given_id None = given.Nothing
given_id (Some d) = id_in d

-- the id for an answer: null where none is known
abbrev pub known : Given → Id
known given.Nothing = ids.Null
known (given.Id i) = i
known given.Other = ids.Null

abbrev pub is_version : Option Data → Bool
is_version (Some (text s)) = bytes_eq s (codes "2.0")
is_version _ = false

-- the parameters are an object or a list; null stands for none
abbrev pub params_of : Data → Option (Option Json)
params_of null = Some None
params_of (boolean b) = None
params_of (number s) = None
params_of (text s) = None
params_of (list ds) = Some (Some (json_of (list ds)))
params_of (dict ms) = Some (Some (json_of (dict ms)))

abbrev pub params_in : Option Data → Option (Option Json)
params_in None = Some None
params_in (Some d) = params_of d

-- ---- the message

abbrev pub refused : Given → Result Incoming CallFault
refused g = Err (InvalidRequest (known g))

-- a call of a method: a request where it has an id, else a notification
abbrev pub called : List ℕ → Given → Option (Option Json) → Result Incoming CallFault
called m g None = refused g
called m given.Nothing (Some p) = Ok (Notification m p)
called m (given.Id i) (Some p) = Ok (Request i m p)
called m given.Other (Some p) = refused given.Other

-- an answer has a result or an error
abbrev pub is_answer : Data → Bool
is_answer d = is_some (value_in (codes "result") d) || is_some (value_in (codes "error") d)

-- by the method, whether it is an answer, the id and the parameters
abbrev pub call_by : Option Data → Bool → Given → Option (Option Json) → Result Incoming CallFault
call_by (Some (text m)) a g p = called m g p
call_by None true g p = Ok Response
call_by _ a g p = refused g

abbrev pub call_of : Data → Result Incoming CallFault
call_of d =
    cond (is_version (value_in (codes "jsonrpc") d))
    (call_by (value_in (codes "method") d) (is_answer d) (given_id (value_in (codes "id") d)) (params_in (value_in (codes "params") d)))
    (refused (given_id (value_in (codes "id") d)))

-- this, unless memory ran out; a value is no fault of its text
abbrev pub Gives : Result Incoming CallFault → Result Incoming CallFault → Type 0
Gives r (Ok c) = r ≡ Ok c
Gives r (Err ParseError) = ⊥
Gives r (Err (InvalidRequest i)) = r ≡ Err (InvalidRequest i)
Gives r (Err OutOfMemory) = Unit {0}

-- ... of the value that a text spells; where it spells none in the limits, that is answered
abbrev pub IsCallOf : List ℕ → Result Incoming CallFault → Type 0
IsCallOf t (Ok c) = (d : Data) × ReadsAtAnySize t d × (call_of d ≡ Ok c)
IsCallOf t (Err ParseError) = (d : Data) → ReadsAtAnySize t d → ⊥
IsCallOf t (Err (InvalidRequest i)) = (d : Data) × ReadsAtAnySize t d × (call_of d ≡ Err (InvalidRequest i))
IsCallOf t (Err OutOfMemory) = Unit {0}
