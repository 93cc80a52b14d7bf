use Rattle.std.proofs.Common.{◌≡◌, ◌≤◌, length, subst, sym}
use Rattle.std.specs.Prelude.{List, ℕ, string_bytes}
use Rattle.std.proofs.lemmas.Str.{IsUtf8-string_bytes}
use Rattle.asl_json.specs.View.{data_of}
use Rattle.asl_json_data.specs.Compact.{compact}
use Rattle.asl_json_data.specs.Limits.{max_len}
use Rattle.asl_json_data.specs.Reads.{Reads}
use Rattle.asl_json_write.proofs.Round.{compact_is_text, no_text_is_shorter}
use Rattle.asl_json_write.proofs.writing.write.Goals as goal

pub returns-clause-round : goal.returns-clause-round
returns-clause-round c = λ h.
    let v = data_of c.args.value.now in
    let text : string_bytes c.put_value.new.out ≡ compact v = rw c.new-out.ensures.bytes at c.in_ok-put_value.ensures.ok in
    record {
      fits = subst (λ (t : List ℕ). length t ≤ max_len) (sym text) h.fits;
      utf8 = IsUtf8-string_bytes c.put_value.new.out;
      reads = subst (λ (t : List ℕ). Reads t v) (sym text) (compact_is_text v h.spellable, h.allowed);
    }

pub returns-clause-shortest : goal.returns-clause-shortest
returns-clause-shortest c = λ b h. rw (c.in_ok-put_value.ensures.ok, c.new-out.ensures.bytes) (no_text_is_shorter (data_of c.args.value.now) b h)
