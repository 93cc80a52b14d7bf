use Rattle.std.proofs.Common.{◌≡◌, ◌≢◌, ◌≤◌, false, List, [], ◌∷◌, length, suc, refl, sym, ap, subst, arith}
use Rattle.asl_json_data.specs.Data.{Data, depth, items_depth, members_depth, chain, pairs}
use Rattle.asl_json_data.specs.Distinct.{Members}
use Rattle.asl_json.specs.View.{data_of}
use Rattle.asl_json.proofs.Sounding.{item_depth, member_depth}
use Rattle.asl_json_same.proofs.Counting.{and_off}
use Rattle.asl_suite_file.specs.Holding.{is_held, are_held}
use Rattle.asl_suite_file.proofs.holding.+held.Goals as goal

unlike : (a b : List Data) → length a ≢ length b → false ≡ are_held (chain a) (chain b)
unlike [] [] ne = absurd (ne refl)
unlike [] (y ∷ ys) ne = refl
unlike (x ∷ xs) [] ne = refl
unlike (x ∷ xs) (y ∷ ys) ne = rw (← unlike xs ys (λ e. ne (ap suc e))) (sym (and_off (is_held x y)))

pub are_held-returns-then-len : goal.are_held-returns-then-len
are_held-returns-then-len t c =
    let ne : length c.args.wanted.now ≢ length c.args.came.now = omega (arith, c.len.ensures, c.len-2.ensures, c.if-len.true) in
    unlike c.args.wanted.now c.args.came.now ne

pub are_held-is_held-requires : goal.are_held-is_held-requires
are_held-is_held-requires t c =
    let within : depth (data_of c.index-items-i.result) ≤ items_depth (chain c.args.wanted.now) = subst (λ (ds : List Data). depth (data_of c.index-items-i.result) ≤ items_depth (chain ds)) c.values-items.ensures (item_depth c.values-items.result.now c.loop-i.i c.index-items-i.result c.loop-i-test.true c.index-items-i.is) in
    omega (arith, within)

pub each_is_held-is_held-requires : goal.each_is_held-is_held-requires
each_is_held-is_held-requires t c =
    let within : depth (data_of c.member-item.result.value) ≤ members_depth (pairs c.args.wanted.now) = subst (λ (ms : Members). depth (data_of c.member-item.result.value) ≤ members_depth (pairs ms)) c.members-members.ensures.members (member_depth c.members-members.result.now c.loop-member.member-index c.member-item.result c.loop-member-test.true c.member-item.is) in
    omega (arith, within)
