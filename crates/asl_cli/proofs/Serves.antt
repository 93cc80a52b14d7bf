-- Serving an editor piece by piece.
use Rattle.std.proofs.Common.{ℕ, Bool, ◌≡◌, List, ◌++◌, sym, subst, ◌∙◌, ap, append_assoc}
use Rattle.asl_host.specs.Outcomes.{sink_use, IsWhole}
use Rattle.asl_host.proofs.Breaking.{broken_rest}
use Rattle.asl_lsp_stream.specs.Streams.{IsServing}
use Rattle.asl_lsp_stream.specs.declared.service.Service.{Service}
use Rattle.asl_cli.specs.Streams.{input_use}
use Rattle.asl_cli.specs.Serving.{IsServedBy, IsServedUpTo, IsServedUntil, IsUnwritten}
use Rattle.asl_cli.specs.declared.serving.ServiceFault.{ServiceFault}
use Rattle.asl_cli.specs.declared.serving.ServiceFault.TheVariants.{Sink, Input, OutOfMemory}
use Rattle.asl_cli.proofs.Talks.{written-more}

bytes-more : (a b start mid end : List ℕ) → mid ≡ start ++ a → end ≡ mid ++ b → end ≡ start ++ (a ++ b)
bytes-more a b start mid end one two = two ∙ ap (λ (x : List ℕ). x ++ b) one ∙ append_assoc start a b

module _ {I O : Type 0} (given : I → List ℕ) (ended : I → Bool) (taken : O → List ℕ) (failures : O → ℕ) where
  -- more bytes came, and what is sent for them was written
  pub served-more : (i j k : I) (o p q : O) (r s : Service) (b t : List ℕ) (h : IsServedBy (input_use given ended i j) (sink_use taken failures o p) r) → given k ≡ given j ++ b → IsServing (h.bytes ++ b) (h.sent ++ t) s → IsWhole (sink_use taken failures p q) t
      → IsServedBy (input_use given ended i k) (sink_use taken failures o q) s
  served-more i j k o p q r s b t h g new w = record {
    bytes = h.bytes ++ b;
    sent = h.sent ++ t;
    given_is = bytes-more h.bytes b (given i) (given j) (given k) h.given_is g;
    serving = new;
    written = written-more taken failures o p q h.sent t h.written w;
  }

  -- nothing came, for a reason that ends it or not
  pub served-still : (i j k : I) (o p : O) (s : Service) → given k ≡ given j → IsServedBy (input_use given ended i j) (sink_use taken failures o p) s → IsServedBy (input_use given ended i k) (sink_use taken failures o p) s
  served-still i j k o p s g h = record { bytes = h.bytes; sent = h.sent; given_is = g ∙ h.given_is; serving = h.serving; written = h.written }

  -- more bytes came, and nothing was written for them
  pub served-up-to : (i j k : I) (o p q : O) (s : Service) (b : List ℕ) → given k ≡ given j ++ b → q ≡ p → IsServedBy (input_use given ended i j) (sink_use taken failures o p) s → IsServedUpTo (input_use given ended i k) (sink_use taken failures o q)
  served-up-to i j k o p q s b g still h = record {
    bytes = h.bytes;
    rest = b;
    sent = h.sent;
    server = s;
    given_is = bytes-more h.bytes b (given i) (given j) (given k) h.given_is g;
    serving = h.serving;
    written = subst (λ (z : O). IsWhole (sink_use taken failures o z) h.sent) (sym still) h.written;
  }

  -- more bytes came, and what is sent for them wasn't written whole
  pub served-until : (f : ServiceFault) (i j k : I) (o p q : O) (r s : Service) (b : List ℕ) (h : IsServedBy (input_use given ended i j) (sink_use taken failures o p) r) → given k ≡ given j ++ b
      → IsUnwritten (sink_use taken failures p q) (λ (t : List ℕ). IsServing (h.bytes ++ b) (h.sent ++ t) s) f → IsServedUntil (input_use given ended i k) (sink_use taken failures o q) f
  served-until Sink i j k o p q r s b h g (t, serving, off) = record {
    bytes = h.bytes ++ b;
    sent = h.sent ++ t;
    server = s;
    given_is = bytes-more h.bytes b (given i) (given j) (given k) h.given_is g;
    serving = serving;
    broken = broken_rest taken failures o p q h.sent t h.written off;
  }
  served-until (Input e) i j k o p q r s b h g still = served-up-to i j k o p q r b g still h
  served-until OutOfMemory i j k o p q r s b h g still = served-up-to i j k o p q r b g still h
