use Rattle.std.proofs.Common.{List, subst, sym}
use Rattle.std.specs.List.{All}
use Rattle.asl_branch_numbers.specs.Numbers.{branches_in}
use Rattle.asl_explore.specs.declared.met.Node.{Node}
use Rattle.asl_explore.specs.Searches.{worlds_of, IsLater, IsReached}
use Rattle.asl_explore.specs.private.Numbered.{AreNumbered}
use Rattle.asl_explore.proofs.Comparing.{numbered-later, numbered-push, worlds-push}
use Rattle.asl_explore.proofs.Growing.{later-same}
use Rattle.asl_explore.proofs.met.Met.put.Goals as goal

pub invariant_of-self : goal.invariant_of-self
invariant_of-self c =
    let met = c.args.self.now in
    record { numbered = numbered-later (branches_in met.branches) (branches_in c.learn.new.self) met.states met.deadline met.nodes.items c.learn.ensures met.numbered }

pub returns-in_err-learn-clause-later : goal.returns-in_err-learn-clause-later
returns-in_err-learn-clause-later c os = later-same (worlds_of c.args.self.now.nodes.items) os

pub returns-in_err-numbers-clause-later : goal.returns-in_err-numbers-clause-later
returns-in_err-numbers-clause-later c os = later-same (worlds_of c.args.self.now.nodes.items) os

pub returns-in-Some-clause-later : goal.returns-in-Some-clause-later
returns-in-Some-clause-later c os = later-same (worlds_of c.args.self.now.nodes.items) os

pub returns-in_err-push-clause-later : goal.returns-in_err-push-clause-later
returns-in_err-push-clause-later c os = subst (λ (ns : List Node). IsLater (worlds_of c.args.self.now.nodes.items) os (worlds_of ns) os) (sym c.in_err-push.ensures.items) (later-same (worlds_of c.args.self.now.nodes.items) os)

pub invariant_of-self-2 : goal.invariant_of-self-2
invariant_of-self-2 c =
    let met = c.args.self.now in
    let ts = branches_in c.learn.new.self in
    let behind = c.requires.behind in
    record {
      numbered = subst (λ (ns : List Node). AreNumbered ts met.states met.deadline ns) (sym c.in_ok-push.ensures.items)
          (numbered-push ts met.states met.deadline met.nodes.items _ (numbered-later (branches_in met.branches) ts met.states met.deadline met.nodes.items c.learn.ensures met.numbered) (record {
            numbers = c.in_ok-numbers.ensures.numbers behind;
            counts = c.in_ok-numbers.ensures.counts behind;
            deadline_is = c.in_ok-numbers.ensures.deadline behind;
          }));
    }

pub returns-clause-reached : goal.returns-clause-reached
returns-clause-reached c o s all here =
    subst (λ (ns : List Node). All (IsReached o s) (worlds_of ns)) (sym c.in_ok-push.ensures.items) (worlds-push (IsReached o s) c.args.self.now.nodes.items _ all here)
