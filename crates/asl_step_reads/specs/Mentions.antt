-- A plainer test of texts, by their bytes alone: whether a text may read what stands at a chain of keys of the Context Object.
use Rattle.std.specs.Prelude.{ℕ, List, [], ◌∷◌, drop, Bool, true, false, not, ◌==◌, ◌&&◌, ◌||◌, if◌then◌else◌, Option, Some, None}
use Rattle.asl_json_data.specs.Data.{Data}
use Rattle.asl_path.specs.Grammar.{full_stop, is_name_byte}
use Rattle.asl_intrinsic.specs.Calls.{is_context}
use Rattle.asl_template.specs.Filling.{is_path}
use Rattle.asl_step_reads.specs.Reading.{Keys, some_text}

-- what follows this front of a text; none where the text begins otherwise
abbrev pub behind : List ℕ → List ℕ → Option (List ℕ)
behind [] t = Some t
behind (c ∷ k) [] = None
behind (c ∷ k) (b ∷ t) = if c == b then behind k t else None

abbrev pub holds_of : (List ℕ → Bool) → Option (List ℕ) → Bool
holds_of f None = false
holds_of f (Some t) = f t

-- A path that goes on so behind its root may lead to the keys, to what holds what stands there, or
-- into it. It doesn't where a dot and another name than the next key come, one that only begins with
-- the key among them; all else may.
abbrev pub may_lead : Keys → List ℕ → Bool
may_lead [] t = true
may_lead (k ∷ ks) [] = true
may_lead (k ∷ ks) (c ∷ t) =
    if c == full_stop then holds_of (may_lead ks) (behind k t) else not (is_name_byte c)

-- two dollars stand first, and a path of the Context Object that goes on so may lead there
abbrev pub path_may_lead : Keys → List ℕ → Bool
path_may_lead ks t = is_context t && may_lead ks (drop 2 t)

-- somewhere in the text such a path may begin
abbrev pub some_path_may_lead : Keys → List ℕ → Bool
some_path_may_lead ks [] = false
some_path_may_lead ks (c ∷ t) = path_may_lead ks (c ∷ t) || some_path_may_lead ks t

-- a path of the Context Object that may lead there; in a call, wherever one may begin
abbrev pub text_may_read : Keys → List ℕ → Bool
text_may_read ks t = if is_path t then path_may_lead ks t else some_path_may_lead ks t

-- some text of the value may, whatever it stands for
abbrev pub may_read : Keys → Data → Bool
may_read ks d = some_text (text_may_read ks) d
