use Rattle.std.proofs.Common.{◌≡◌, ◌+◌, ◌<◌, ℕ, zero, suc, Bool, false, List, [], ◌∷◌, slice_index_or, ap, ◌∙◌, arith}
use Rattle.asl_json_data.specs.Text.{is_plain}
use Rattle.asl_json_scan.proofs.front.is_plain_alone.Goals as goal

-- for k numbers from n on, whether each is that of a plain byte
table : ℕ → ℕ → List Bool
table n zero = []
table n (suc k) = is_plain n ∷ table (suc n) k

table_tells : (n k b : ℕ) → b < k → slice_index_or (table n k) b false ≡ is_plain (n + b)
unfolding table
table_tells n zero b lt = absurd (omega arith)
table_tells n (suc k) zero lt = ap is_plain (omega arith)
table_tells n (suc k) (suc b) lt = table_tells (suc n) k b (omega arith) ∙ ap is_plain (omega arith)

pub returns : goal.returns
unfolding is_plain table
returns c =
    let fits = c.ranges.byte.fits in
    let room : c.from.result < 256 = omega (arith, fits, c.from.ensures) in
    let same_byte : 0 + c.from.result ≡ c.args.byte = omega (arith, c.from.ensures) in
    table_tells 0 256 c.from.result room ∙ ap is_plain same_byte
