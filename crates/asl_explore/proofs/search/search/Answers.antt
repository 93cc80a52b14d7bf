use Rattle.std.proofs.Common.{rules, ap, [], ◌∷◌, inl, refl, ◌<◌, ◌≤◌, ◌≡◌, ◌+◌, true, false, sym, ◌∙◌, subst, arith, length}
use Rattle.std.specs.List.{All}
use Rattle.std.proofs.lemmas.List.{length-map}
use Rattle.asl_run_state.specs.Bare.{bare}
use Rattle.asl_run_state.specs.World.{World}
use Rattle.asl_exec.specs.Steps.{opening}
use Rattle.asl_exec.specs.Probes.{setup_of}
use Rattle.asl_run_input.specs.declared.setup.Setup.{Setup}
use Rattle.asl_explore.specs.Settled.{AreSettledFrom}
use Rattle.asl_explore.specs.declared.met.Node.{Node}
use Rattle.asl_explore.specs.Searches.{IsMet, IsReached, worlds_of, outcomes_of}
use Rattle.asl_explore.proofs.Growing.{met-later, later-length}
use Rattle.asl_explore.proofs.Expanding.{shown-as, met-first}
use Rattle.asl_explore.proofs.Ending.{searched-ends}
use Rattle.asl_explore.proofs.Filling.{searched-fills}
use Rattle.asl_explore.proofs.Reached.{first-reached}
use Rattle.asl_explore.proofs.Levels.{level-more, level-first, level-depth, level-end, depth-told}
use Rattle.asl_explore.proofs.Taking.{taken-more, expanded-more, all-whole}
use Rattle.asl_explore.proofs.search.search.Goals as goal
use Rattle.asl_explore.proofs.search.search.Goals.{then-whole, else-whole}

pub returns-clause-closed : goal.returns-clause-closed
returns-clause-closed g c t =
    let ns = c.loop-number.met.nodes.items in
    let inv = c.loop-number.invariant in
    let all = c.is_complete-complete.ensures.yes t in
    let le : length (worlds_of ns) ≤ c.loop-number.number = omega (arith, length-map ns (λ (n : Node). bare n.world), c.loop-number.met.nodes.ok.0, all.1, c.len-2.ensures) in
    record { begins = inv.begins; taken = λ i l d. inv.taken all.0 i (omega (arith, l, le)) d }

pub returns-clause-search : goal.returns-clause-search
returns-clause-search g c =
    let s = setup_of c.args.probe.now in
    let ns = c.loop-number.met.nodes.items in
    let ws = worlds_of ns in
    let os = outcomes_of c.loop-number.found.list.items in
    let inv = c.loop-number.invariant in
    let le : c.is_complete-complete.result ≡ true → length ws ≤ c.loop-number.number = λ t. omega (arith, length-map ns (λ (n : Node). bare n.world), c.loop-number.met.nodes.ok.0, (c.is_complete-complete.ensures.yes t).1, c.len-2.ensures) in
    record {
      shown = inv.shown;
      once = inv.once;
      reached = inv.reached;
      whole = λ t. all-whole c.args.orders s ws os c.loop-number.number (le t) inv.begins (inv.taken (c.is_complete-complete.ensures.yes t).0);
      expanded = λ plain t. record { begins = inv.begins; expanded = λ i d l. inv.expanded plain (c.is_complete-complete.ensures.yes t).0 i d (omega arith) (omega (arith, l, le t)) };
      plain = c.is_reduced.ensures.plain;
      ending = λ r t ends.
          let all = (c.is_complete-complete.ensures.yes t).0 in
          searched-ends c.args.orders s ws os c.args.alone inv.begins (c.is_reduced.ensures.other r)
          (λ plain i d l. inv.expanded plain all i d (omega arith) (omega (arith, l, le t))) (λ i l d. inv.taken all i (omega (arith, l, le t)) d) ends;
      filling = λ t ends. searched-fills c.args.orders s ws os inv.begins (λ i l d. inv.taken (c.is_complete-complete.ensures.yes t).0 i (omega (arith, l, le t)) d) ends;
      depth = depth-told c.args.orders s ws os c.loop-number.level c.loop-number.whole c.depth_of.result c.loop-number.invariant.deep c.depth_of.ensures;
      cut = search rules;
      tried = inl refl;
    }

pub go_on-requires-clause-settled : goal.go_on-requires-clause-settled
go_on-requires-clause-settled g c = subst (λ (s : Setup). AreSettledFrom s c.in_ok-settling.settling.from.items) (sym c.loop-number.invariant.setup) c.in_ok-settling.ensures

pub loop-number-init : goal.loop-number-init
loop-number-init g c =
    let s = setup_of c.args.probe.now in
    let ws = worlds_of c.in-Some.met.nodes.items in
    let os = outcomes_of c.none-found.result.list.items in
    let first : ws ≡ bare (opening s) ∷ [] = rw c.in-Some.is at c.in_ok-met.ensures in
    let begins : IsMet ws os (opening s) = met-first s s ws os refl first in
    record {
      setup = search rules;
      shown = search rules;
      once = search rules;
      begins = begins;
      reached = first-reached c.args.orders s ws first;
      within = search rules;
      taken = search rules;
      depth = search rules;
      end = omega (arith, ap (length {A = World}) first);
      deep = λ every w. level-first c.args.orders s ws os (record { depth = 0; end = 1 }) (omega (arith, ap (length {A = World}) first)) refl begins;
      expanded = search rules;
    }

pub loop-number-preserved : goal.loop-number-preserved
loop-number-preserved g c =
    let s = setup_of c.args.probe.now in
    let z = setup_of c.loop-number.probe in
    let ns = c.loop-number.met.nodes.items in
    let ms = c.go_on.new.met.nodes.items in
    let os = outcomes_of c.loop-number.found.list.items in
    let us = outcomes_of c.go_on.new.found.list.items in
    let i = c.loop-number.number in
    let inv = c.loop-number.invariant in
    let more = later-length (worlds_of ns) (worlds_of ms) os us c.go_on.ensures.later in
    let lt : i < length (worlds_of ns) = omega (arith, length-map ns (λ (n : Node). bare n.world), c.loop-number.met.nodes.ok.0, c.loop-number-test.true, c.len.ensures) in
    record {
      setup = c.go_on.ensures.setup ∙ inv.setup;
      shown = shown-as c.args.orders z s c.loop-number.found.list.items c.go_on.new.found.list.items inv.setup c.go_on.ensures.shown inv.shown;
      once = c.go_on.ensures.once inv.once;
      begins = met-later (worlds_of ns) (worlds_of ms) os us (opening s) c.go_on.ensures.later inv.begins;
      reached = subst (λ (x : Setup). All (IsReached c.args.orders x) (worlds_of ns) → All (IsReached c.args.orders x) (worlds_of ms)) inv.setup c.in_ok-is_enough.ensures.reached inv.reached;
      within = omega (arith, lt, more);
      depth = level-depth (i + 1) c.loop-number.level c.level_after-level.result c.len-in-loop-number.result (omega (arith, inv.depth)) c.level_after-level.ensures.same c.level_after-level.ensures.next;
      end = level-end (i + 1) (length (worlds_of ms)) c.loop-number.level c.level_after-level.result c.len-in-loop-number.result (omega (arith, inv.end, more)) (omega (arith, length-map ms (λ (n : Node). bare n.world), c.go_on.new.met.nodes.ok.0, c.len-in-loop-number.ensures)) c.level_after-level.ensures.same c.level_after-level.ensures.next;
      deep = λ every w.
          let both : (c.loop-number.whole ≡ true) × (c.in_ok-is_enough.is_enough ≡ true) = elim c.if-whole.branch [ then-whole b ↦ (b.if-whole.true, sym b.whole-is ∙ w) | else-whole b ↦ let e : true ≡ false = sym w ∙ b.whole-is ∙ b.if-whole.false in absurd (cc) ] in
          level-more c.args.orders s (worlds_of ns) (worlds_of ms) os us (i + 1) c.len-in-loop-number.result c.loop-number.level c.level_after-level.result inv.end c.go_on.ensures.later
          (omega (arith, length-map ms (λ (n : Node). bare n.world), c.go_on.new.met.nodes.ok.0, c.len-in-loop-number.ensures)) (met-later (worlds_of ns) (worlds_of ms) os us (opening s) c.go_on.ensures.later inv.begins)
          (taken-more c.args.orders s z (worlds_of ns) (worlds_of ms) os us i inv.setup c.go_on.ensures.later inv.within (inv.taken both.0) (c.in_ok-is_enough.ensures.taken both.1))
          c.level_after-level.ensures.same c.level_after-level.ensures.next every (inv.deep every both.0);
      taken = λ w.
          let both : (c.loop-number.whole ≡ true) × (c.in_ok-is_enough.is_enough ≡ true) = elim c.if-whole.branch [ then-whole b ↦ (b.if-whole.true, sym b.whole-is ∙ w) | else-whole b ↦ let e : true ≡ false = sym w ∙ b.whole-is ∙ b.if-whole.false in absurd (cc) ] in
          taken-more c.args.orders s z (worlds_of ns) (worlds_of ms) os us i inv.setup c.go_on.ensures.later inv.within (inv.taken both.0) (c.in_ok-is_enough.ensures.taken both.1);
      expanded = λ plain w.
          let both : (c.loop-number.whole ≡ true) × (c.in_ok-is_enough.is_enough ≡ true) = elim c.if-whole.branch [ then-whole b ↦ (b.if-whole.true, sym b.whole-is ∙ w) | else-whole b ↦ let e : true ≡ false = sym w ∙ b.whole-is ∙ b.if-whole.false in absurd (cc) ] in
          expanded-more c.args.orders s z (worlds_of ns) (worlds_of ms) os us i inv.setup c.go_on.ensures.later inv.within (inv.expanded plain both.0) (c.in_ok-is_enough.ensures.expanded plain both.1);
    }
