-- What is sent (JSON-RPC 2.0, "Response object", "Error object" and "Notification"; Language Server Protocol 3.17, "Response Message").
use Rattle.std.specs.Prelude.{ℕ, List, [], ◌∷◌, ◌++◌, codes}
use Rattle.asl_json_data.specs.Compact.{compact, quoted}
use Rattle.asl_json_data.specs.Data.{Data, null, number, text, dict, no_members, member}
use Rattle.asl_json_rpc.specs.declared.id.Id.{Id}
use Rattle.asl_json_rpc.specs.declared.id.Id.TheVariants as ids
use Rattle.asl_json_rpc.specs.declared.code.ErrorCode.{ErrorCode}
use Rattle.asl_json_rpc.specs.declared.code.ErrorCode.TheVariants as errors

abbrev pub code_text : ErrorCode → List ℕ
code_text errors.ParseError = codes "-32700"
code_text errors.InvalidRequest = codes "-32600"
code_text errors.MethodNotFound = codes "-32601"
code_text errors.InvalidParams = codes "-32602"
code_text errors.ServerNotInitialized = codes "-32002"
code_text errors.RequestFailed = codes "-32803"

-- ---- the texts

abbrev pub id_text : Id → List ℕ
id_text ids.Null = codes "null"
id_text (ids.Number s) = s
id_text (ids.Text s) = quoted s

unfoldable pub version_text : List ℕ
version_text = codes "{\"jsonrpc\":\"2.0\""

unfoldable pub head_text : Id → List ℕ
head_text i = version_text ++ (codes ",\"id\":" ++ id_text i)

unfoldable pub code_member : ErrorCode → List ℕ
code_member c = codes ",\"error\":{\"code\":" ++ code_text c

-- with the braces that end the error and the response
unfoldable pub message_member : List ℕ → List ℕ
message_member m = codes ",\"message\":" ++ (quoted m ++ codes "}}")

unfoldable pub method_text : List ℕ → List ℕ
method_text m = version_text ++ (codes ",\"method\":" ++ quoted m)

unfoldable pub result_text : Id → Data → List ℕ
result_text i d = head_text i ++ (codes ",\"result\":" ++ (compact d ++ 125 ∷ []))

unfoldable pub error_text : Id → ErrorCode → List ℕ → List ℕ
error_text i c m = head_text i ++ (code_member c ++ message_member m)

unfoldable pub notification_text : List ℕ → Data → List ℕ
notification_text m p = method_text m ++ (codes ",\"params\":" ++ (compact p ++ 125 ∷ []))

-- ---- the values that they spell

-- an id as a value
abbrev pub id_data : Id → Data
id_data ids.Null = null
id_data (ids.Number s) = number s
id_data (ids.Text s) = text s

abbrev pub result_data : Id → Data → Data
result_data i d =
    dict (member (codes "jsonrpc") (text (codes "2.0")) (member (codes "id") (id_data i) (member (codes "result") d no_members)))

abbrev pub error_value : ErrorCode → List ℕ → Data
error_value c m = dict (member (codes "code") (number (code_text c)) (member (codes "message") (text m) no_members))

abbrev pub error_data : Id → ErrorCode → List ℕ → Data
error_data i c m =
    dict (member (codes "jsonrpc") (text (codes "2.0")) (member (codes "id") (id_data i) (member (codes "error") (error_value c m) no_members)))

abbrev pub notification_data : List ℕ → Data → Data
notification_data m p =
    dict (member (codes "jsonrpc") (text (codes "2.0")) (member (codes "method") (text m) (member (codes "params") p no_members)))
