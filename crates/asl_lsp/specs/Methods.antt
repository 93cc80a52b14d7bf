-- The methods that the server has, by their names (Language Server Protocol 3.17, "Lifecycle Messages", "Text Document Synchronization" and "Language Features").
use Rattle.std.specs.Prelude.{ℕ, List, codes, if◌then◌else◌}
use Rattle.asl_json.specs.Same.{bytes_eq}
use Rattle.asl_lsp.specs.declared.method.Query.TheVariants as query
use Rattle.asl_lsp.specs.declared.method.Request.{Request}
use Rattle.asl_lsp.specs.declared.method.Request.TheVariants as request
use Rattle.asl_lsp.specs.declared.method.Notification.{Notification}
use Rattle.asl_lsp.specs.declared.method.Notification.TheVariants as notification

abbrev pub request_of : List ℕ → Request
request_of m =
    if bytes_eq m (codes "initialize") then request.Initialize
    else if bytes_eq m (codes "shutdown") then request.Shutdown
    else if bytes_eq m (codes "textDocument/formatting") then request.About query.Formatting
    else if bytes_eq m (codes "textDocument/definition") then request.About query.Definition
    else if bytes_eq m (codes "textDocument/references") then request.About query.References
    else if bytes_eq m (codes "textDocument/prepareRename") then request.About query.PrepareRename
    else if bytes_eq m (codes "textDocument/rename") then request.About query.Rename
    else request.Unknown

abbrev pub notification_of : List ℕ → Notification
notification_of m =
    if bytes_eq m (codes "exit") then notification.Exit
    else if bytes_eq m (codes "textDocument/didOpen") then notification.DidOpen
    else if bytes_eq m (codes "textDocument/didChange") then notification.DidChange
    else if bytes_eq m (codes "textDocument/didSave") then notification.DidSave
    else if bytes_eq m (codes "textDocument/didClose") then notification.DidClose
    else notification.Unknown
