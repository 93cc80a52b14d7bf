-- What is said of a request that is refused (JSON-RPC 2.0, "Error object"; Language Server Protocol 3.17, "Response Message", "Lifecycle Messages" and "Rename Request").
use Rattle.std.specs.Prelude.{ℕ, List, codes}
use Rattle.asl_json_rpc.specs.declared.code.ErrorCode.{ErrorCode}
use Rattle.asl_json_rpc.specs.declared.code.ErrorCode.TheVariants as errors
use Rattle.asl_lsp_features.specs.declared.renaming.RenameFault.{RenameFault}
use Rattle.asl_lsp_features.specs.declared.renaming.RenameFault.TheVariants as fault
use Rattle.asl_lsp.specs.declared.refusal.Refusal.{Refusal}
use Rattle.asl_lsp.specs.declared.refusal.Refusal.TheVariants.{NoJson, NoCall, NotInitialized, InitializedBefore, ShutDown, UnknownMethod, BadParams, NoState, NoName, TakenName}

abbrev pub code_of : Refusal → ErrorCode
code_of NoJson = errors.ParseError
code_of NoCall = errors.InvalidRequest
code_of NotInitialized = errors.ServerNotInitialized
code_of InitializedBefore = errors.InvalidRequest
code_of ShutDown = errors.InvalidRequest
code_of UnknownMethod = errors.MethodNotFound
code_of BadParams = errors.InvalidParams
code_of NoState = errors.RequestFailed
code_of NoName = errors.RequestFailed
code_of TakenName = errors.RequestFailed

unfoldable pub words_of : Refusal → List ℕ
words_of NoJson = codes "The message is no JSON text."
words_of NoCall = codes "The message is no request, notification or response."
words_of NotInitialized = codes "The server isn't initialized."
words_of InitializedBefore = codes "The server is initialized already."
words_of ShutDown = codes "The server is shut down."
words_of UnknownMethod = codes "The server has no such method."
words_of BadParams = codes "The method takes no such parameters."
words_of NoState = codes "No name of a state stands there."
words_of NoName = codes "The name of a state has from 1 to 80 characters."
words_of TakenName = codes "A state of the definition has this name already."

-- why a state isn't renamed, as it is answered
abbrev pub refusal_of : RenameFault → Refusal
refusal_of fault.NoState = NoState
refusal_of fault.NoName = NoName
refusal_of fault.TakenName = TakenName
