use Rattle.std.proofs.Common.{subst}
use Rattle.asl_explore.specs.declared.orders.Orders.{Orders}
use Rattle.asl_explore.specs.Finding.{IsFound}
use Rattle.asl_cli.proofs.exploring.search_from.Goals as goal

pub returns-clause-found : goal.returns-clause-found
returns-clause-found g c = subst (λ (o : Orders). IsFound o c.args.words.now.calls c.args.words.now.limit c.args.setup c.in_ok-explored.explored) c.orders_for-orders.ensures c.in_ok-explored.ensures
