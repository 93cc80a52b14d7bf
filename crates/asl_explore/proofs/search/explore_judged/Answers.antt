use Rattle.std.proofs.Common.{rules, List, ◌≡◌, ◌∙◌, ⊎_elim, ap, refl, sym, subst, arith, true, false, [], ◌&&◌}
use Rattle.std.specs.Prelude.{IsSome, is_none, not}
use Rattle.std.specs.List.{All, Contains}
use Rattle.std.proofs.lemmas.List.{length-map}
use Rattle.asl_run_state.specs.Bare.{bare}
use Rattle.asl_explore.specs.declared.met.Node.{Node}
use Rattle.asl_run_state.specs.declared.outcome.Outcome.TheVariants.{TimedOut}
use Rattle.asl_run_input.specs.declared.setup.Setup.{Setup}
use Rattle.asl_exec.specs.Steps.{deadline_of}
use Rattle.asl_exec.specs.Probes.{setup_of}
use Rattle.asl_explore.specs.Endless.{CanEnd}
use Rattle.asl_explore.specs.Orders.{IsWhole}
use Rattle.asl_explore.specs.Calls.{AllAreExpanded, AreCounted, AreMetSoFar}
use Rattle.asl_explore.specs.Searches.{IsReached, Shows, AreAllLate, AreLate, AreOver, outcomes_of, worlds_of}
use Rattle.asl_explore.specs.TimeOver.{IsWitnessed}
use Rattle.asl_explore.specs.declared.found.Found.{Found}
use Rattle.asl_explore.specs.declared.orders.Orders.{Orders}
use Rattle.asl_explore.proofs.AnyMoment.{any-moment}
use Rattle.asl_explore.proofs.Bounding.{all-bounds-met, bounds-later}
use Rattle.asl_explore.proofs.Reached.{closed-reached}
use Rattle.asl_explore.proofs.Clocking.{clock-unread}
use Rattle.asl_explore.specs.private.Searching.{IsSearch}
use Rattle.asl_explore.specs.private.Seeing.{AreSeen}
use Rattle.asl_explore.proofs.Told.{remarks-at}
use Rattle.asl_explore.specs.Judging.{AreJudged}
use Rattle.asl_explore.proofs.Verdicts.{both-false, both-true, judged-less}
use Rattle.asl_explore.proofs.Concluding.{whole-later, to-later, counted-later, all-over, lasso-told}
use Rattle.asl_explore.proofs.search.explore_judged.Goals as goal

pub returns-in_default-clause-judged : goal.returns-in_default-clause-judged
returns-in_default-clause-judged g c = judged-less g.J.Judge.accepts false (c.args.calls && false) c.args.orders c.args.setup c.args.judges.now c.in_ok-refused.refused.items (both-false c.args.calls) (c.in_ok-refused.ensures c.args.orders c.args.setup)

pub returns-in_default-clause-found : goal.returns-in_default-clause-found
returns-in_default-clause-found g c = record {
  shown = search rules;
  once = search rules;
  whole = search rules;
  any_moment = search rules;
  time_over = search rules;
  limited = search rules;
  clock = search rules;
  depth = search rules;
  cut = search rules;
  ends = search rules;
  fills = search rules;
  plain = search rules;
  lasso = search rules;
  late = search rules;
  all_late = search rules;
  calls = search rules;
  bounds = search rules;
  states = c.in_ok-states.ensures.each;
  all_states = c.in_ok-states.ensures.all;
  orders = search rules;
  worlds = record { worlds = []; number_is = refl; reached = search rules; all = search rules; remarks = search rules };
  seen = ⊎_elim (λ e. absurd (cc)) (λ e. absurd (cc));
}

pub returns-clause-judged : goal.returns-clause-judged
returns-clause-judged g c =
    let o = c.args.orders in
    let s = c.args.setup in
    let x = c.in-Some.searched in
    let ws = worlds_of x.met.nodes.items in
    let os = outcomes_of x.found.list.items in
    let h : IsSearch o (not c.args.calls) c.args.limit s x = subst (λ (z : Setup). IsSearch o (not c.args.calls) c.args.limit z x) c.in_ok-probe.ensures.setup (rw c.in-Some.is at c.in_ok-searched.ensures.search) in
    let counted = c.calls_in.ensures.setup ∙ (c.search_for.ensures.setup ∙ c.in_ok-probe.ensures.setup) in
    let known = c.args.calls && c.are_both-complete.result in
    subst (λ (z : Setup). AreJudged g.J.Judge.accepts known o z c.args.judges.now c.in_ok-refusals.refusals.list.items) counted
    (c.in_ok-refusals.ensures.judged os known (λ k.
    let wanted = both-true c.args.calls c.are_both-complete.result k in
    let all = c.are_both-complete.ensures.yes wanted.1 in
    let closed : AllAreExpanded o s ws os = h.expanded (ap not wanted.0) all.0 in (
      (c.are_both-judged.ensures.yes (c.are_all-others.ensures all.1).0).1,
      subst (λ (z : Setup). AllAreExpanded o z (worlds_of c.deref.result.now) os) (sym counted) (subst (λ (ns : List Node). AllAreExpanded o s (worlds_of ns) os) (sym c.deref.ensures.value) closed),
    )))

pub returns-clause-found : goal.returns-clause-found
returns-clause-found g c =
    let o = c.args.orders in
    let s = c.args.setup in
    let x = c.in-Some.searched in
    let fs = x.found.list.items in
    let ns = x.met.nodes.items in
    let ws = worlds_of ns in
    let os = outcomes_of fs in
    let gs = c.put_time_over.new.found.list.items in
    let us = outcomes_of gs in
    let h : IsSearch o (not c.args.calls) c.args.limit s x = subst (λ (z : Setup). IsSearch o (not c.args.calls) c.args.limit z x) c.in_ok-probe.ensures.setup (rw c.in-Some.is at c.in_ok-searched.ensures.search) in
    let later = c.put_time_over.ensures.later [] in
    let opened = c.search_for.ensures.setup ∙ c.in_ok-probe.ensures.setup in
    let counted = c.calls_in.ensures.setup ∙ opened in
    let judged = c.judge_all.ensures.setup ∙ counted in
    let looked = c.endless_in.ensures.setup ∙ judged in
    let timed = c.put_time_over.ensures.setup ∙ looked in
    let seen = c.sights_in.ensures.setup ∙ timed in
    let shown : All (IsWitnessed o s) gs = subst (λ (z : Setup). All (Shows o z) fs → All (IsWitnessed o z) gs) looked c.put_time_over.ensures.shown h.shown in
    let ends : x.complete ≡ true → c.in_ok-endless.endless.whole ≡ true → is_none c.in_ok-endless.endless.endless ≡ true → All (CanEnd x.tried s) ws = λ t whole none. subst (λ (z : Setup). All (CanEnd x.tried z) ws) judged (c.in_ok-endless.ensures.none t whole none) in
    let closed : c.args.calls ≡ true → x.complete ≡ true → AllAreExpanded o s ws os = λ wanted. h.expanded (ap not wanted) in
    let is_counted : c.args.calls ≡ true → x.complete ≡ true → c.in_ok-counted.counted.whole ≡ true → AreCounted o s os c.in_ok-counted.counted.calls.items = λ wanted t whole.
    subst (λ (z : Setup). AllAreExpanded o z ws os → AreCounted o z os c.in_ok-counted.counted.calls.items) opened (c.in_ok-counted.ensures.counted wanted whole) (closed wanted t) in
    record {
      shown = shown;
      once = c.put_time_over.ensures.once h.once;
      whole = λ t. whole-later o s [] [] os us later (h.whole (c.are_both-complete.ensures.yes t).0);
      any_moment = λ t every unread.
          let both = c.are_both-complete.ensures.yes t in
          let all = c.are_all-others.ensures both.1 in
          any-moment s us (clock-unread s.machine c.in_ok-clock.clock c.in_ok-clock.ensures unread)
          (subst (λ (z : Orders). IsWhole z s us) every (whole-later o s [] [] os us later (h.whole both.0)))
          (subst (λ (z : Setup). IsSome (deadline_of z) → Contains us TimedOut) looked (c.in_ok-is_over.ensures.there all.1.1.0 every));
      time_over = λ t every limited.
          let all = c.are_all-others.ensures (c.are_both-complete.ensures.yes t).1 in
          let some : IsSome (deadline_of s) = (cc) in
          subst (λ (z : Setup). IsSome (deadline_of z) → Contains us TimedOut) looked (c.in_ok-is_over.ensures.there all.1.1.0 every) some;
      limited = search rules;
      clock = search rules;
      depth = to-later o s [] [] os us x.depth later h.depth;
      cut = λ f whole.
          let both = c.is_stuck-stuck.ensures whole in
          let le = h.cut (c.are_both-complete.ensures.no f both.1) both.0 in
          omega (arith, le, c.len-worlds.ensures, x.met.nodes.ok.0);
      worlds = record {
        worlds = ws;
        number_is = length-map ns (λ (n : Node). bare n.world) ∙ omega (arith, c.len-worlds.ensures, x.met.nodes.ok.0);
        reached = h.reached;
        all = λ wanted t. closed-reached o s ws os (closed wanted (c.are_both-complete.ensures.yes t).0);
        remarks = λ looks.
            let xs = c.in_ok-sights.sights.sights.items in
            remarks-at c.are_both-complete.result o s (setup_of c.sights_in.new.probe) ws c.setup.result.now.case c.in_ok-states.states.items c.deref-3.result.now xs c.deref-4.result.now c.in_ok-remarks.remarks seen
            (ap (λ (z : Setup). z.case) c.setup.ensures) c.deref-3.ensures.value c.deref-4.ensures.value c.in_ok-states.ensures.each
            (subst (λ (ms : List Node). AreSeen o s (worlds_of ms) xs) c.deref-2.ensures.value (subst (λ (z : Setup). AreSeen o z (worlds_of c.deref-2.result.now) xs) timed (c.in_ok-sights.ensures.seen looks)))
            c.in_ok-remarks.ensures;
      };
      seen = λ w.
          let others = ⊎_elim (λ t. (c.are_both-complete.ensures.yes t).1) (λ f. (c.is_stuck-stuck.ensures f).1) w in
          (c.are_all-others.ensures others).1.1.1;
      ends = λ r t none.
          let both = c.are_both-complete.ensures.yes t in
          h.ending r both.0 (ends both.0 (c.are_all-others.ensures both.1).1.0 none);
      fills = λ t none.
          let both = c.are_both-complete.ensures.yes t in
          h.filling both.0 (ends both.0 (c.are_all-others.ensures both.1).1.0 none);
      plain = λ wanted t. h.plain (ap not wanted);
      lasso = lasso-told x.tried o s (setup_of c.judge_all.new.probe) c.in_ok-endless.endless.endless judged h.tried c.in_ok-endless.ensures.lasso;
      late =
          let over : AreOver gs = all-over o s gs shown in
          subst (λ (z : Setup). AreOver gs → AreLate z gs c.in_ok-late.late.numbers.items) seen
          (subst (λ (xs : List Found). AreOver xs → AreLate (setup_of c.sights_in.new.probe) xs c.in_ok-late.late.numbers.items) c.deref-5.ensures.value c.in_ok-late.ensures.late) over;
      all_late =
          subst (λ (z : Setup). c.in_ok-late.late.marked ≡ true → AreAllLate z gs c.in_ok-late.late.numbers.items) seen
          (subst (λ (xs : List Found). c.in_ok-late.late.marked ≡ true → AreAllLate (setup_of c.sights_in.new.probe) xs c.in_ok-late.late.numbers.items) c.deref-5.ensures.value c.in_ok-late.ensures.all);
      calls = λ wanted t.
          let both = c.are_both-complete.ensures.yes t in
          counted-later o s [] [] os us c.in_ok-counted.counted.calls.items later (is_counted wanted both.0 (c.are_both-judged.ensures.yes (c.are_all-others.ensures both.1).0).0);
      bounds = λ wanted t.
          let both = c.are_both-complete.ensures.yes t in
          let met = subst (λ (z : Setup). All (IsReached o z) ws → AreMetSoFar o z os c.in_ok-counted.counted.calls.items) opened (c.in_ok-counted.ensures.met wanted) h.reached in
          bounds-later o s [] [] os us c.in_ok-counted.counted.calls.items later (all-bounds-met o s os c.in_ok-counted.counted.calls.items met (is_counted wanted both.0 (c.are_both-judged.ensures.yes (c.are_all-others.ensures both.1).0).0));
      states = c.in_ok-states.ensures.each;
      all_states = c.in_ok-states.ensures.all;
      orders = search rules;
    }
