-- Keys of members that both formats have.
use Rattle.std.specs.Prelude.{ℕ, List, codes}

-- of the moment, with the quotation mark before it
unfoldable pub stamp_key : List ℕ
stamp_key = codes "\"timestamp\":\""

-- of the number of the event before, with a comma before it
unfoldable pub previous_key : List ℕ
previous_key = codes ",\"previousEventId\":"
