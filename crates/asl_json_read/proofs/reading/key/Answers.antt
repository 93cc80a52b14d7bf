use Rattle.std.proofs.Common.{ℕ, List, sym, ap, ◌∙◌}
use Rattle.std.proofs.lemmas.Result.{err_from_is_err_and}
use Rattle.asl_json_data.specs.Distinct.{has_key}
use Rattle.asl_json.specs.View.{members_of}
use Rattle.asl_json_scan.proofs.Stretches.{key_no_quote, key_fails, key_known, key_no_colon, key_read}
use Rattle.asl_json_read.proofs.reading.key.Goals as goal

pub returns-in_default-clause-run : goal.returns-in_default-clause-run
returns-in_default-clause-run c = λ st. rw c.syntax.ensures (key_no_quote (members_of c.args.members.now) st c.args.bytes.now _ c.skip_spaces-rest.ensures.skips c.in_default.ensures.none)

pub returns-in_err-name-clause-run : goal.returns-in_err-name-clause-run
returns-in_err-name-clause-run c = λ st.
    let p = err_from_is_err_and c.from_residual.result c.from_residual.ensures.1 in
    rw (p.1, p.2) (key_fails (members_of c.args.members.now) st c.args.bytes.now _ c.in-Some.inside.now c.in_err-name.field-0.0 c.skip_spaces-rest.ensures.skips c.in-Some.ensures.found c.in_err-name.ensures.broken)

pub returns-then-has-clause-run : goal.returns-then-has-clause-run
returns-then-has-clause-run c = λ st.
    key_known (members_of c.args.members.now) st c.args.bytes.now _ c.in-Some.inside.now c.in_ok-name.name c.in_ok-name.behind.now c.skip_spaces-rest.ensures.skips c.in-Some.ensures.found c.in_ok-name.ensures.found (sym (ap (λ (k : List ℕ). has_key k (members_of c.args.members.now)) c.as_str.ensures) ∙ sym c.has.ensures ∙ c.if-has.true)

pub returns-in_default-after_byte-clause-run : goal.returns-in_default-after_byte-clause-run
returns-in_default-after_byte-clause-run c = λ st.
    rw c.syntax-in_default-after_byte.ensures (key_no_colon (members_of c.args.members.now) st c.args.bytes.now _ c.in-Some.inside.now c.in_ok-name.name c.in_ok-name.behind.now _ c.skip_spaces-rest.ensures.skips c.in-Some.ensures.found c.in_ok-name.ensures.found
    (sym (ap (λ (k : List ℕ). has_key k (members_of c.args.members.now)) c.as_str.ensures) ∙ sym c.has.ensures ∙ c.if-has.false) c.skip_spaces-behind.ensures.skips c.in_default-after_byte.ensures.none)

pub returns-clause-run : goal.returns-clause-run
returns-clause-run c = λ st.
    key_read (members_of c.args.members.now) st c.args.bytes.now _ c.in-Some.inside.now c.in_ok-name.name c.in_ok-name.behind.now _ c.in-Some-after_byte.value.now c.skip_spaces-rest.ensures.skips c.in-Some.ensures.found c.in_ok-name.ensures.found
    (sym (ap (λ (k : List ℕ). has_key k (members_of c.args.members.now)) c.as_str.ensures) ∙ sym c.has.ensures ∙ c.if-has.false) c.skip_spaces-behind.ensures.skips c.in-Some-after_byte.ensures.found
