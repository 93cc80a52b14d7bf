-- The language server: what it writes for the bytes that its input gives.
use Rattle.std.specs.Prelude.{ℕ, List, true, ◌++◌, ◌≡◌, ◌⊎◌}
use Rattle.asl_host.specs.Outcomes.{fault_line, SinkUse, IsUntouched, IsWhole, IsBroken, IsTold}
use Rattle.asl_lsp.specs.Server.{has_ended}
use Rattle.asl_lsp_stream.specs.Streams.{IsServing}
use Rattle.asl_lsp_stream.specs.declared.service.Service.{Service}
use Rattle.asl_cli.specs.Streams.{InputUse, Io}
use Rattle.asl_cli.specs.Talking.{IsInputFault}
use Rattle.asl_cli.specs.declared.serving.ServiceFault.{ServiceFault}
use Rattle.asl_cli.specs.declared.serving.ServiceFault.TheVariants.{Sink}

-- an input gave these bytes
abbrev pub HasGivenBytes : {I : Type 0} → InputUse I → List ℕ → Type 0
HasGivenBytes input b = input.given input.after ≡ input.given input.before ++ b

-- a server was given all that the input gave, and what it sends was written
pub record IsServedBy {I O : Type 0} (input : InputUse I) (out : SinkUse O) (s : Service) : Type 0 where
  pub bytes : List ℕ
  pub sent : List ℕ
  pub given_is : HasGivenBytes input bytes
  pub serving : IsServing bytes sent s
  pub written : IsWhole out sent

-- the editor has ended the server, or it sends nothing more
abbrev pub IsEnded : {I : Type 0} → InputUse I → Service → Type 0
IsEnded input s = (has_ended s.server ≡ true) ⊎ (input.ended input.after ≡ true)

-- an editor was served to its end
abbrev pub IsServed : {I O : Type 0} → InputUse I → SinkUse O → Type 0
IsServed input out = (s : Service) × IsServedBy input out s × IsEnded input s

-- the sink failed before the end of what is sent for all that the input gave
pub record IsCutOff {I O : Type 0} (input : InputUse I) (out : SinkUse O) : Type 0 where
  pub bytes : List ℕ
  pub sent : List ℕ
  pub server : Service
  pub given_is : HasGivenBytes input bytes
  pub serving : IsServing bytes sent server
  pub broken : IsBroken out sent

-- what is sent was written for a first part of what the input gave, and nothing for the rest
pub record IsServedUpTo {I O : Type 0} (input : InputUse I) (out : SinkUse O) : Type 0 where
  pub bytes : List ℕ
  pub rest : List ℕ
  pub sent : List ℕ
  pub server : Service
  pub given_is : HasGivenBytes input (bytes ++ rest)
  pub serving : IsServing bytes sent server
  pub written : IsWhole out sent

-- how far an editor was served that isn't any more, for this reason
abbrev pub IsServedUntil : {I O : Type 0} → InputUse I → SinkUse O → ServiceFault → Type 0
IsServedUntil input out Sink = IsCutOff input out
IsServedUntil input out _ = IsServedUpTo input out

-- what a server sends for some bytes wasn't written whole, for this reason: the sink took a part, or nothing was written
abbrev pub IsUnwritten : {O : Type 0} → SinkUse O → (List ℕ → Type 0) → ServiceFault → Type 0
IsUnwritten out Sends Sink = (t : List ℕ) × Sends t × IsBroken out t
IsUnwritten out Sends _ = IsUntouched out

-- an editor was served, to its end or until it didn't listen; or until nothing could be read, or there was no memory, which was told
abbrev pub IsServedTo : {I O E : Type 0} → InputUse I → Io O E → Type 0
IsServedTo input io =
    (IsServed input io.out × IsUntouched io.err × (io.status ≡ 0))
    ⊎ (IsCutOff input io.out × IsUntouched io.err × (io.status ≡ 0))
    ⊎ ((t : List ℕ) × IsServedUpTo input io.out × IsInputFault t × (io.status ≡ 2) × IsTold io.err (fault_line t))
