use Rattle.std.proofs.Common.{◌≡◌, ◌∙◌, ◌-◌, ap, sym, arith, List, ℕ, map, length, get_or, [], true, false, Some, Option, Vec, Global, Bor}
use Rattle.std.specs.Prelude.{option_map}
use Rattle.std.proofs.lemmas.List.{map_push, length-map, get_or_default}
use Rattle.asl_intrinsic_functions.specs.Names.{takes}
use Rattle.asl_intrinsic.specs.Tree.{Argument}
use Rattle.asl_lint_calls.specs.declared.known.Known as code
use Rattle.asl_lint_calls.specs.Cutting.{arguments_in}
use Rattle.asl_lint_calls.specs.Known.{known, known_call}
use Rattle.asl_lint_calls.specs.Reading.{read_quoted, read_path, read_constant, read_argument, read_arguments, read_call}
use Rattle.asl_lint_calls.specs.private.View.{seen, all_seen}
use Rattle.asl_lint_calls.specs.private.Views.{texts}
use Rattle.asl_lint_calls.proofs.Gathering.{joined, joined_none, grown, missed, finished, as_quoted, as_path, as_call, as_constant, agrees, call_off, headless, pieceless, by_parts, whole_call, other_count, unread}
use Rattle.asl_lint_calls.proofs.calling.+calling.Goals as goal

abbrev nothing : Bor (List ℕ)
nothing = record { ref_ptr = (0, 0); now = [] }

abbrev cut : Option (Vec (Bor (List ℕ)) Global) → Option (List (List ℕ))
cut o = option_map (λ (v : Vec (Bor (List ℕ)) Global). texts v.items) o

pub all_arguments-loop-piece-init : goal.all_arguments-loop-piece-init
all_arguments-loop-piece-init t c = ap (λ (ks : List code.Known). joined (all_seen ks) (option_map (map known) (read_arguments c.args.levels (texts c.args.pieces.now)))) c.new-found.ensures.items ∙ joined_none (option_map (map known) (read_arguments c.args.levels (texts c.args.pieces.now)))

pub all_arguments-returns-in-None : goal.all_arguments-returns-in-None
all_arguments-returns-in-None t c =
    let ps = c.args.pieces.now in
    let i = c.loop-piece.piece-index in
    let p = get_or ps i nothing in
    missed c.args.levels ps i p c.trimmed.result.now (all_seen c.loop-piece.found.items) (option_map (map known) (read_arguments c.args.levels (texts ps))) c.loop-piece-test.true (get_or_default ps i nothing p c.loop-piece-test.true) c.trimmed.ensures
    (ap (option_map seen) (sym c.in-None.is) ∙ c.in_ok-known.ensures) c.loop-piece.invariant

pub all_arguments-loop-piece-preserved : goal.all_arguments-loop-piece-preserved
all_arguments-loop-piece-preserved t c =
    let ps = c.args.pieces.now in
    let i = c.loop-piece.piece-index in
    let p = get_or ps i nothing in
    let k = c.in-Some.known in
    grown c.args.levels ps i p c.trimmed.result.now (all_seen c.loop-piece.found.items) (all_seen c.push.new.self.items) (seen k) (option_map (map known) (read_arguments c.args.levels (texts ps))) c.loop-piece-test.true (get_or_default ps i nothing p c.loop-piece-test.true) c.trimmed.ensures
    (ap (option_map seen) (sym c.in-Some.is) ∙ c.in_ok-known.ensures)
    (ap all_seen c.in_ok-push-in-Some.ensures.items ∙ map_push seen c.loop-piece.found.items k) c.loop-piece.invariant

pub all_arguments-returns : goal.all_arguments-returns
all_arguments-returns t c = finished c.args.levels c.args.pieces.now c.loop-piece.piece-index (all_seen c.loop-piece.found.items) (option_map (map known) (read_arguments c.args.levels (texts c.args.pieces.now))) c.loop-piece-test.false c.loop-piece.invariant

pub argument-returns-then-first_is : goal.argument-returns-then-first_is
argument-returns-then-first_is t c =
    let p = c.args.piece.now in
    agrees c.quoted.result (read_quoted p) (read_argument c.args.levels p) (as_quoted (read_call c.args.levels) p (sym c.first_is.ensures ∙ c.if-first_is.true)) c.quoted.ensures

pub argument-returns-then-first_is-2 : goal.argument-returns-then-first_is-2
argument-returns-then-first_is-2 t c =
    let p = c.args.piece.now in
    agrees c.path.result (read_path p) (read_argument c.args.levels p) (as_path (read_call c.args.levels) p (sym c.first_is.ensures ∙ c.if-first_is.false) (sym c.first_is-else-first_is.ensures ∙ c.if-first_is-2.true)) c.path.ensures

pub argument-returns-then-first_is-3 : goal.argument-returns-then-first_is-3
argument-returns-then-first_is-3 t c =
    let p = c.args.piece.now in
    agrees c.call.result (read_call c.args.levels p) (read_argument c.args.levels p) (as_call (read_call c.args.levels) p (sym c.first_is.ensures ∙ c.if-first_is.false) (sym c.first_is-else-first_is.ensures ∙ c.if-first_is-2.false) (sym c.first_is-else-first_is-2.ensures ∙ c.if-first_is-3.true)) c.call.ensures

pub argument-returns-else-first_is-3 : goal.argument-returns-else-first_is-3
argument-returns-else-first_is-3 t c =
    let p = c.args.piece.now in
    agrees c.constant.result (read_constant p) (read_argument c.args.levels p) (as_constant (read_call c.args.levels) p (sym c.first_is.ensures ∙ c.if-first_is.false) (sym c.first_is-else-first_is.ensures ∙ c.if-first_is-2.false) (sym c.first_is-else-first_is-2.ensures ∙ c.if-first_is-3.false)) c.constant.ensures

pub call-returns-then-levels-eq0 : goal.call-returns-then-levels-eq0
call-returns-then-levels-eq0 t c = ap (option_map known) (sym (call_off c.args.levels c.args.text.now c.if-levels-eq0.true))

pub call-returns-in_default : goal.call-returns-in_default
call-returns-in_default t c = headless c.args.levels c.args.text.now c.if-levels-eq0.false c.in_default.ensures

pub call-returns-in_default-2 : goal.call-returns-in_default-2
call-returns-in_default-2 t c = pieceless c.args.levels c.args.text.now c.in-Some.inside.now c.in-Some.function c.if-levels-eq0.false c.in-Some.ensures (ap cut (sym c.in_default-2.is) ∙ c.in_ok-pieces.ensures)

pub call-returns-in_default-3 : goal.call-returns-in_default-3
call-returns-in_default-3 t c =
    let f = c.in-Some.function in
    let n = c.args.levels - 1 in
    let ps = texts c.in-Some-2.pieces.items in
    let none = ap (option_map (λ (v : Vec code.Known Global). all_seen v.items)) (sym c.in_default-3.is) ∙ c.in_ok-known.ensures ∙ ap (λ (xs : List (Bor (List ℕ))). option_map (map known) (read_arguments n (texts xs))) c.deref.ensures.value in
    sym (unread f (read_arguments n ps) none)
    ∙ ap (option_map known) (sym (by_parts c.args.levels c.args.text.now c.in-Some.inside.now f ps c.if-levels-eq0.false c.in-Some.ensures (ap cut (sym c.in-Some-2.is) ∙ c.in_ok-pieces.ensures)))

pub call-returns-then-not-takes : goal.call-returns-then-not-takes
call-returns-then-not-takes t c =
    let f = c.in-Some.function in
    let n = c.args.levels - 1 in
    let ps = texts c.in-Some-2.pieces.items in
    let ks = all_seen c.in-Some-3.known.items in
    let some = ap (option_map (λ (v : Vec code.Known Global). all_seen v.items)) (sym c.in-Some-3.is) ∙ c.in_ok-known.ensures ∙ ap (λ (xs : List (Bor (List ℕ))). option_map (map known) (read_arguments n (texts xs))) c.deref.ensures.value in
    let many : c.len.result ≡ length ks = omega (arith, c.len.ensures, length-map c.in-Some-3.known.items seen) in
    sym (other_count f ks (read_arguments n ps) some (ap (takes f) (sym many) ∙ sym c.takes.ensures ∙ c.if-not-takes.true))
    ∙ ap (option_map known) (sym (by_parts c.args.levels c.args.text.now c.in-Some.inside.now f ps c.if-levels-eq0.false c.in-Some.ensures (ap cut (sym c.in-Some-2.is) ∙ c.in_ok-pieces.ensures)))

pub call-returns : goal.call-returns
call-returns t c =
    let f = c.in-Some.function in
    let n = c.args.levels - 1 in
    let ps = texts c.in-Some-2.pieces.items in
    let ks = all_seen c.in-Some-3.known.items in
    let some = ap (option_map (λ (v : Vec code.Known Global). all_seen v.items)) (sym c.in-Some-3.is) ∙ c.in_ok-known.ensures ∙ ap (λ (xs : List (Bor (List ℕ))). option_map (map known) (read_arguments n (texts xs))) c.deref.ensures.value in
    let many : c.len.result ≡ length ks = omega (arith, c.len.ensures, length-map c.in-Some-3.known.items seen) in
    ap Some (c.in_ok-known_call.ensures ∙ ap (λ (xs : List code.Known). known_call f (all_seen xs)) c.deref-2.ensures.value)
    ∙ sym (whole_call f ks (read_arguments n ps) some (ap (takes f) (sym many) ∙ sym c.takes.ensures ∙ c.if-not-takes.false))
    ∙ ap (option_map known) (sym (by_parts c.args.levels c.args.text.now c.in-Some.inside.now f ps c.if-levels-eq0.false c.in-Some.ensures (ap cut (sym c.in-Some-2.is) ∙ c.in_ok-pieces.ensures)))
