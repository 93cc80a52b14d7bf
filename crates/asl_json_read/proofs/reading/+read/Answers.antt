use Rattle.std.proofs.Common.{◌≡◌, false, ℕ, List, [], ◌∷◌, ◌++◌, true, length, arith, ap, sym, subst, ◌∙◌}
use Rattle.std.proofs.lemmas.Result.{err_from_is_err_and}
use Rattle.asl_json_data.specs.Data.{Data, list, dict, chain, pairs}
use Rattle.asl_json.specs.View.{data_of, items_of, members_of}
use Rattle.asl_json_scan.specs.private.Machine.{key, after, value, run}
use Rattle.asl_json_scan.specs.Open.{in_list, in_dict}
use Rattle.asl_json_data.specs.Distinct.{Members, has_key}
use Rattle.asl_json.specs.Keys.{Knows}
use Rattle.asl_json_scan.specs.private.Leads.{WantsValue}
use Rattle.asl_json_scan.proofs.Fronts.{skips_shorter}
use Rattle.asl_json_read.proofs.Turns.{one_member}
use Rattle.asl_json.proofs.Pushing.{pushed_item}
use Rattle.asl_json_scan.proofs.Stretches.{first_closes, first_key, after_closes, after_goes_on, after_halts, text_fails, text_reads, bracket_deep, bracket_reads, first_item, no_items, last_item, next_item, item_halts, wants_more, brace_deep, brace_reads, skip_run, fails_along}
use Rattle.asl_json_read.proofs.reading.+read.Goals as goal

pub members-returns-in-Some-clause-run : goal.members-returns-in-Some-clause-run
members-returns-in-Some-clause-run t c = λ st h.
    rw c.new-members.ensures (first_closes st c.args.bytes.now _ c.in-Some.behind.now c.skip_spaces-rest.ensures.skips c.in-Some.ensures.found)

pub members-loop-keys-init : goal.members-loop-keys-init
members-loop-keys-init t c =
    (λ st h. rw c.new-members.ensures (first_key st c.args.bytes.now _ c.skip_spaces-rest.ensures.skips c.in_default.ensures.none), skips_shorter _ _ c.skip_spaces-rest.ensures.skips, c.skip_spaces-rest.ensures.utf8 c.requires, rw c.new-members.ensures c.new-keys.ensures)

pub members-returns-in-Some-after_byte-clause-run : goal.members-returns-in-Some-after_byte-clause-run
members-returns-in-Some-after_byte-clause-run t c = λ st h.
    let ms = c.loop-keys.members in
    let k = c.in_ok-name.name in
    let d = data_of c.in_ok-member.member in
    one_member (members_of c.members.result.now) ms k d st c.args.bytes.now c.loop-keys.rest.now c.in_ok-name.behind.now c.in_ok-member.behind.now c.members.ensures.members (c.loop-keys.invariant.0 st h) (c.in_ok-name.ensures.run st) (c.in_ok-member.ensures.run (in_dict ms k ∷ st) (omega arith) (λ rest g. tt))
    ∙ after_closes ms k d st c.in_ok-member.behind.now _ c.in-Some-after_byte.closed.now c.skip_spaces-behind.ensures.skips c.in-Some-after_byte.ensures.found
    ∙ ap (λ (x : Members). run true (after (dict (pairs x))) st c.in-Some-after_byte.closed.now) (sym c.in_ok-push.ensures.ok)

pub members-returns-in_default-after_byte-2-clause-run : goal.members-returns-in_default-after_byte-2-clause-run
members-returns-in_default-after_byte-2-clause-run t c = λ st h.
    let ms = c.loop-keys.members in
    let k = c.in_ok-name.name in
    let d = data_of c.in_ok-member.member in
    rw c.syntax.ensures (one_member (members_of c.members.result.now) ms k d st c.args.bytes.now c.loop-keys.rest.now c.in_ok-name.behind.now c.in_ok-member.behind.now c.members.ensures.members (c.loop-keys.invariant.0 st h) (c.in_ok-name.ensures.run st) (c.in_ok-member.ensures.run (in_dict ms k ∷ st) (omega arith) (λ rest g. tt))
    ∙ after_halts ms k d st c.in_ok-member.behind.now _ c.skip_spaces-behind.ensures.skips c.in_default-after_byte.ensures.none c.in_default-after_byte-2.ensures.none)

pub members-loop-keys-preserved : goal.members-loop-keys-preserved
members-loop-keys-preserved t c =
    let ms = c.loop-keys.members in
    let k = c.in_ok-name.name in
    let d = data_of c.in_ok-member.member in (
      λ st h.
          one_member (members_of c.members.result.now) ms k d st c.args.bytes.now c.loop-keys.rest.now c.in_ok-name.behind.now c.in_ok-member.behind.now c.members.ensures.members (c.loop-keys.invariant.0 st h) (c.in_ok-name.ensures.run st) (c.in_ok-member.ensures.run (in_dict ms k ∷ st) (omega arith) (λ rest g. tt))
          ∙ after_goes_on ms k d st c.in_ok-member.behind.now _ c.in-Some-after_byte-2.next.now c.skip_spaces-behind.ensures.skips c.in-Some-after_byte-2.ensures.found
          ∙ ap (λ (x : Members). run true (key x) st c.in-Some-after_byte-2.next.now) (sym c.in_ok-push.ensures.ok),
      omega (arith, ap length c.in-Some-after_byte-2.ensures.found, skips_shorter _ _ c.skip_spaces-behind.ensures.skips, c.in_ok-member.ensures.shorter, c.in_ok-name.ensures.shorter, c.loop-keys.invariant.1),
      c.in-Some-after_byte-2.ensures.utf8 (c.skip_spaces-behind.ensures.utf8 c.in_ok-member.ensures.utf8),
      subst (Knows c.add.new.self) (ap (λ (l : List ℕ). members_of c.members-in-loop-keys.result.now ++ (l, d) ∷ []) c.as_str.ensures ∙ ap (λ (z : Members). z ++ (k, d) ∷ []) c.members-in-loop-keys.ensures.members ∙ sym c.in_ok-push.ensures.ok) (c.in_ok-add.ensures.ok d),
    )

pub value-returns-in_err-content-clause-run : goal.value-returns-in_err-content-clause-run
value-returns-in_err-content-clause-run t c = λ st h w.
    let p = err_from_is_err_and c.from_residual.result c.from_residual.ensures.1 in
    rw (p.1, p.2) (text_fails st c.args.bytes.now _ c.in-Some.inside.now c.in_err-content.field-0.0 c.skip_spaces-rest.ensures.skips c.in-Some.ensures.found c.in_err-content.ensures.broken)

pub value-returns-in-Some-clause-run : goal.value-returns-in-Some-clause-run
value-returns-in-Some-clause-run t c = λ st h w.
    text_reads st c.args.bytes.now _ c.in-Some.inside.now c.in_ok-content.content c.in_ok-content.behind.now c.skip_spaces-rest.ensures.skips c.in-Some.ensures.found c.in_ok-content.ensures.found

pub value-returns-then-levels-eq0-clause-run : goal.value-returns-then-levels-eq0-clause-run
value-returns-then-levels-eq0-clause-run t c = λ st h w.
    rw c.too_deep.ensures (bracket_deep st c.args.bytes.now _ c.in-Some-after_byte.inside.now c.args.levels c.skip_spaces-rest.ensures.skips c.in-Some-after_byte.ensures.found c.if-levels-eq0.true h)

pub value-returns-in_err-items-clause-run : goal.value-returns-in_err-items-clause-run
value-returns-in_err-items-clause-run t c = λ st h w.
    let p = err_from_is_err_and c.from_residual-in_err-items.result c.from_residual-in_err-items.ensures.1 in
    rw (p.1, p.2) (fails_along c.in_err-items.field-0.0 _ _ (bracket_reads st c.args.bytes.now _ c.in-Some-after_byte.inside.now c.args.levels c.skip_spaces-rest.ensures.skips c.in-Some-after_byte.ensures.found c.if-levels-eq0.false h) (c.in_err-items.ensures.run st (omega arith)))

pub value-returns-in-Some-after_byte-clause-run : goal.value-returns-in-Some-after_byte-clause-run
value-returns-in-Some-after_byte-clause-run t c = λ st h w.
    bracket_reads st c.args.bytes.now _ c.in-Some-after_byte.inside.now c.args.levels c.skip_spaces-rest.ensures.skips c.in-Some-after_byte.ensures.found c.if-levels-eq0.false h ∙ c.in_ok-items.ensures.run st (omega arith)

pub value-returns-then-levels-eq0-2-clause-run : goal.value-returns-then-levels-eq0-2-clause-run
value-returns-then-levels-eq0-2-clause-run t c = λ st h w.
    rw c.too_deep-then-levels-eq0-2.ensures (brace_deep st c.args.bytes.now _ c.in-Some-after_byte-2.inside.now c.args.levels c.skip_spaces-rest.ensures.skips c.in-Some-after_byte-2.ensures.found c.if-levels-eq0-2.true h)

pub value-returns-in_err-members-clause-run : goal.value-returns-in_err-members-clause-run
value-returns-in_err-members-clause-run t c = λ st h w.
    let p = err_from_is_err_and c.from_residual-in_err-members.result c.from_residual-in_err-members.ensures.1 in
    rw (p.1, p.2) (fails_along c.in_err-members.field-0.0 _ _ (brace_reads st c.args.bytes.now _ c.in-Some-after_byte-2.inside.now c.args.levels c.skip_spaces-rest.ensures.skips c.in-Some-after_byte-2.ensures.found c.if-levels-eq0-2.false h) (c.in_err-members.ensures.run st (omega arith)))

pub value-returns-in-Some-after_byte-2-clause-run : goal.value-returns-in-Some-after_byte-2-clause-run
value-returns-in-Some-after_byte-2-clause-run t c = λ st h w.
    brace_reads st c.args.bytes.now _ c.in-Some-after_byte-2.inside.now c.args.levels c.skip_spaces-rest.ensures.skips c.in-Some-after_byte-2.ensures.found c.if-levels-eq0-2.false h ∙ c.in_ok-members.ensures.run st (omega arith)

pub value-returns-clause-run : goal.value-returns-clause-run
value-returns-clause-run t c = λ st h w.
    rw (skip_run true value st c.args.bytes.now _ tt c.skip_spaces-rest.ensures.skips) (c.word_value.ensures.run st c.skip_spaces-rest.ensures.skips.stops c.in_default.ensures.none c.in_default-after_byte.ensures.none c.in_default-after_byte-2.ensures.none (sym c.begins_number.ensures ∙ c.if-begins_number.false) (w _ c.skip_spaces-rest.ensures.skips))

pub members-key-requires-clause-known : goal.members-key-requires-clause-known
members-key-requires-clause-known t c = subst (Knows c.loop-keys.keys) (sym c.members.ensures.members) c.loop-keys.invariant.3

pub members-add-requires : goal.members-add-requires
members-add-requires t c = subst (Knows c.loop-keys.keys) (sym c.members-in-loop-keys.ensures.members) c.loop-keys.invariant.3

pub members-push-requires : goal.members-push-requires
members-push-requires t c = subst (λ (z : Members). has_key c.in_ok-name.name z ≡ false) c.members.ensures.members c.in_ok-name.ensures.new

pub value-returns-in_err-found-clause-run : goal.value-returns-in_err-found-clause-run
value-returns-in_err-found-clause-run t c = λ st h w.
    let p = err_from_is_err_and c.from_residual-in_err-found.result c.from_residual-in_err-found.ensures.1 in
    rw (p.1, p.2) (fails_along c.in_err-found.field-0.0 _ _ (skip_run true value st c.args.bytes.now _ tt c.skip_spaces-rest.ensures.skips) (c.in_err-found.ensures.run st))

pub value-returns-then-begins_number-clause-run : goal.value-returns-then-begins_number-clause-run
value-returns-then-begins_number-clause-run t c = λ st h w.
    skip_run true value st c.args.bytes.now _ tt c.skip_spaces-rest.ensures.skips ∙ c.in_ok-found.ensures.run st

-- ---- items

pub items-returns-in-Some-clause-run : goal.items-returns-in-Some-clause-run
items-returns-in-Some-clause-run t c = λ st h.
    rw (c.of_values.ensures, c.new-values.ensures.items) (no_items st c.args.bytes.now _ c.in-Some.behind.now c.skip_spaces-rest.ensures.skips c.in-Some.ensures.found)

pub items-loop-values-init : goal.items-loop-values-init
items-loop-values-init t c =
    (λ st h. rw c.new-values.ensures.items (first_item st c.args.bytes.now _ c.skip_spaces-rest.ensures.skips c.in_default.ensures.none), skips_shorter _ _ c.skip_spaces-rest.ensures.skips, c.skip_spaces-rest.ensures.utf8 c.requires)

pub items-returns-in-Some-after_byte-clause-run : goal.items-returns-in-Some-after_byte-clause-run
items-returns-in-Some-after_byte-clause-run t c = λ st h.
    let vs = c.loop-values.values.items in
    let d = data_of c.in_ok-item.item in
    let so_far = c.loop-values.invariant.0 st h in
    so_far.0 ∙ c.in_ok-item.ensures.run (in_list (items_of vs) ∷ st) (omega arith) so_far.1
    ∙ last_item (items_of vs) d st c.in_ok-item.behind.now _ c.in-Some-after_byte.closed.now c.skip_spaces-behind.ensures.skips c.in-Some-after_byte.ensures.found
    ∙ ap (λ (x : List Data). run true (after (list (chain x))) st c.in-Some-after_byte.closed.now) (pushed_item vs c.push.new.self.items c.in_ok-item.item c.in_ok-push.ensures.items ∙ sym c.of_values-in-Some-after_byte.ensures)

pub items-returns-in_err-item-clause-run : goal.items-returns-in_err-item-clause-run
items-returns-in_err-item-clause-run t c = λ st h.
    let p = err_from_is_err_and c.from_residual.result c.from_residual.ensures.1 in
    let so_far = c.loop-values.invariant.0 st h in
    rw (p.1, p.2) (fails_along c.in_err-item.field-0.0 _ _ so_far.0 (c.in_err-item.ensures.run (in_list (items_of c.loop-values.values.items) ∷ st) (omega arith) so_far.1))

pub items-returns-in_default-after_byte-2-clause-run : goal.items-returns-in_default-after_byte-2-clause-run
items-returns-in_default-after_byte-2-clause-run t c = λ st h.
    let vs = c.loop-values.values.items in
    let d = data_of c.in_ok-item.item in
    let so_far = c.loop-values.invariant.0 st h in
    rw c.syntax.ensures (so_far.0 ∙ c.in_ok-item.ensures.run (in_list (items_of vs) ∷ st) (omega arith) so_far.1
    ∙ item_halts (items_of vs) d st c.in_ok-item.behind.now _ c.skip_spaces-behind.ensures.skips c.in_default-after_byte.ensures.none c.in_default-after_byte-2.ensures.none)

pub items-loop-values-preserved : goal.items-loop-values-preserved
items-loop-values-preserved t c =
    let vs = c.loop-values.values.items in
    let d = data_of c.in_ok-item.item in
    let grown = pushed_item vs c.push.new.self.items c.in_ok-item.item c.in_ok-push.ensures.items in (
      λ st h.
          let so_far = c.loop-values.invariant.0 st h in
          let next = c.in-Some-after_byte-2.next.now in (
            so_far.0 ∙ c.in_ok-item.ensures.run (in_list (items_of vs) ∷ st) (omega arith) so_far.1
                ∙ next_item (items_of vs) d st c.in_ok-item.behind.now _ next c.skip_spaces-behind.ensures.skips c.in-Some-after_byte-2.ensures.found
                ∙ ap (λ (x : List Data). run true value (in_list x ∷ st) next) grown,
            subst (λ (x : List Data). WantsValue (in_list x ∷ st) next) grown (wants_more (items_of vs) d st next),
          ),
      omega (arith, ap length c.in-Some-after_byte-2.ensures.found, skips_shorter _ _ c.skip_spaces-behind.ensures.skips, c.in_ok-item.ensures.shorter, c.loop-values.invariant.1),
      c.in-Some-after_byte-2.ensures.utf8 (c.skip_spaces-behind.ensures.utf8 c.in_ok-item.ensures.utf8),
    )
