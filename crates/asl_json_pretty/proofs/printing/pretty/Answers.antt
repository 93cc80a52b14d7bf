use Rattle.std.proofs.Common.{◌≡◌, subst, sym}
use Rattle.std.specs.Prelude.{List, ℕ, string_bytes}
use Rattle.std.proofs.lemmas.Str.{IsUtf8-string_bytes}
use Rattle.asl_json.specs.View.{data_of}
use Rattle.asl_json_data.specs.Reads.{Reads}
use Rattle.asl_json_pretty.specs.Pretty.{pretty}
use Rattle.asl_json_pretty.proofs.Round.{pretty_is_text}
use Rattle.asl_json_pretty.proofs.printing.pretty.Goals as goal

pub returns-clause-round : goal.returns-clause-round
returns-clause-round c = λ h fits.
    let v = data_of c.args.value.now in
    let text : string_bytes c.put_at.new.out ≡ pretty v = rw c.new-out.ensures.bytes at c.in_ok-put_at.ensures in
    record {
      fits = fits;
      utf8 = IsUtf8-string_bytes c.put_at.new.out;
      reads = subst (λ (t : List ℕ). Reads t v) (sym text) (pretty_is_text v h.spellable, h.allowed);
    }
