-- A request has its id.
use Rattle.std.proofs.Common.{◌≡◌, ℕ, Bool, true, false, cond, List, sym, ap, ◌∙◌}
use Rattle.std.specs.Prelude.{Option, Some, None, Result, Ok, Err, codes}
use Rattle.asl_json_data.specs.Data.{Data, null, boolean, number, text, list, dict}
use Rattle.asl_json.specs.declared.value.Json.{Json}
use Rattle.asl_json.specs.declared.value.Json.TheVariants.{Dict, List as JsonList}
use Rattle.asl_json.specs.View.{data_of, json_of-data_of}
use Rattle.asl_json.specs.Meaning.{value_in}
use Rattle.asl_json_rpc.specs.declared.id.Id.{Id}
use Rattle.asl_json_rpc.specs.declared.id.Id.TheVariants as ids
use Rattle.asl_json_rpc.specs.declared.id.Given.{Given}
use Rattle.asl_json_rpc.specs.declared.id.Given.TheVariants as given
use Rattle.asl_json_rpc.specs.declared.incoming.Incoming.{Incoming}
use Rattle.asl_json_rpc.specs.declared.incoming.Incoming.TheVariants.{Request, Notification, Response}
use Rattle.asl_json_rpc.specs.declared.incoming.CallFault.{CallFault}
use Rattle.asl_json_rpc.specs.declared.incoming.CallFault.TheVariants.{InvalidRequest}
use Rattle.asl_json_rpc.specs.Calls.{is_whole, given_id, known, is_version, is_answer, params_of, params_in, refused, called, call_by, call_of}
use Rattle.asl_json_rpc.specs.Printing.{id_data}

-- a message of this id
abbrev IsRequestOf : Id → Result Incoming CallFault → Type 0
IsRequestOf i r = (m : List ℕ) × (p : Option Json) × (r ≡ Ok (Request i m p))

err_none : (f : CallFault) (c : Incoming) → Err f ≡ Ok c → ⊥
err_none f c e = cc

abbrev call_ok : Incoming → Result Incoming CallFault
call_ok c = Ok c

one_call : (c d : Incoming) → call_ok c ≡ call_ok d → c ≡ d
one_call c d e = cc

notified_none : (n m : List ℕ) (p q : Option Json) (i : Id) → Notification n q ≡ Request i m p → ⊥
notified_none n m p q i e = cc

answered_none : (m : List ℕ) (p : Option Json) (i : Id) → Response ≡ Request i m p → ⊥
answered_none m p i e = cc

same_id : (i j : Id) (m n : List ℕ) (p q : Option Json) → Request j n q ≡ Request i m p → j ≡ i
same_id i j m n p q e = cc

called_id : (n : List ℕ) (g : Given) (o : Option (Option Json)) (i : Id) → IsRequestOf i (called n g o) → g ≡ given.Id i
called_id n g None i h = absurd (err_none (InvalidRequest (known g)) (Request i h.0 h.1) h.2)
called_id n given.Nothing (Some q) i h = absurd (notified_none n h.0 h.1 q i (one_call (Notification n q) (Request i h.0 h.1) h.2))
called_id n (given.Id j) (Some q) i h = ap given.Id (same_id i j h.0 n h.1 q (one_call (Request j n q) (Request i h.0 h.1) h.2))
called_id n given.Other (Some q) i h = absurd (err_none (InvalidRequest (known given.Other)) (Request i h.0 h.1) h.2)

call_id : (o : Option Data) (a : Bool) (g : Given) (p : Option (Option Json)) (i : Id) → IsRequestOf i (call_by o a g p) → g ≡ given.Id i
call_id None true g p i h = absurd (answered_none h.0 h.1 i (one_call Response (Request i h.0 h.1) h.2))
call_id None false g p i h = absurd (err_none (InvalidRequest (known g)) (Request i h.0 h.1) h.2)
call_id (Some (text n)) a g p i h = called_id n g p i h
call_id (Some null) a g p i h = absurd (err_none (InvalidRequest (known g)) (Request i h.0 h.1) h.2)
call_id (Some (boolean b)) a g p i h = absurd (err_none (InvalidRequest (known g)) (Request i h.0 h.1) h.2)
call_id (Some (number s)) a g p i h = absurd (err_none (InvalidRequest (known g)) (Request i h.0 h.1) h.2)
call_id (Some (list ds)) a g p i h = absurd (err_none (InvalidRequest (known g)) (Request i h.0 h.1) h.2)
call_id (Some (dict ms)) a g p i h = absurd (err_none (InvalidRequest (known g)) (Request i h.0 h.1) h.2)

version_id : (b : Bool) (o : Option Data) (a : Bool) (g : Given) (p : Option (Option Json)) (i : Id) → IsRequestOf i (cond b (call_by o a g p) (refused g)) → g ≡ given.Id i
version_id true o a g p i h = call_id o a g p i h
version_id false o a g p i h = absurd (err_none (InvalidRequest (known g)) (Request i h.0 h.1) h.2)

-- ---- the id as a value

one_id : (i j : Id) → given.Id i ≡ given.Id j → i ≡ j
one_id i j e = cc

other_none : (i : Id) → given.Other ≡ given.Id i → ⊥
other_none i e = cc

nothing_none : (i : Id) → given.Nothing ≡ given.Id i → ⊥
nothing_none i e = cc

whole_id : (b : Bool) (s : List ℕ) (i : Id) → cond b (given.Id (ids.Number s)) given.Other ≡ given.Id i → ids.Number s ≡ i
whole_id true s i e = one_id (ids.Number s) i e
whole_id false s i e = absurd (other_none i e)

given_data : (o : Option Data) (i : Id) → given_id o ≡ given.Id i → Some (id_data i) ≡ o
given_data None i e = absurd (nothing_none i e)
given_data (Some null) i e = ap (λ (j : Id). Some (id_data j)) (sym (one_id ids.Null i e))
given_data (Some (boolean b)) i e = absurd (other_none i e)
given_data (Some (number s)) i e = ap (λ (j : Id). Some (id_data j)) (sym (whole_id (is_whole s) s i e))
given_data (Some (text s)) i e = ap (λ (j : Id). Some (id_data j)) (sym (one_id (ids.Text s) i e))
given_data (Some (list ds)) i e = absurd (other_none i e)
given_data (Some (dict ms)) i e = absurd (other_none i e)

pub request_id : (d : Data) (i : Id) (m : List ℕ) (p : Option Json) → call_of d ≡ Ok (Request i m p) → Some (id_data i) ≡ value_in (codes "id") d
request_id d i m p e =
    let g = version_id (is_version (value_in (codes "jsonrpc") d)) (value_in (codes "method") d) (is_answer d) (given_id (value_in (codes "id") d)) (params_in (value_in (codes "params") d)) i (m, p, e) in
    given_data (value_in (codes "id") d) i g

-- ---- the parameters

pub dict_kept : (v : Json) (ms ns : List (List ℕ × Data)) → v ≡ Dict ms → ns ≡ ms → Some (Some (Dict ns)) ≡ params_of (data_of v)
dict_kept v ms ns e f = ap (λ (xs : List (List ℕ × Data)). Some (Some (Dict xs))) f ∙ sym (ap (λ (w : Json). params_of (data_of w)) e ∙ ap (λ (w : Json). Some (Some w)) (json_of-data_of (Dict ms)))

pub list_kept : (v : Json) (ds es : List Data) → v ≡ JsonList ds → es ≡ ds → Some (Some (JsonList es)) ≡ params_of (data_of v)
list_kept v ds es e f = ap (λ (xs : List Data). Some (Some (JsonList xs))) f ∙ sym (ap (λ (w : Json). params_of (data_of w)) e ∙ ap (λ (w : Json). Some (Some w)) (json_of-data_of (JsonList ds)))
