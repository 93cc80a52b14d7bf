-- The fronts of a text, up to an item, to a key and to the value of a member.
use Rattle.std.proofs.Common.{ℕ, List, [], ◌∷◌, ◌++◌, refl, append_assoc}
use Rattle.asl_json_data.specs.Data.{Data}
use Rattle.asl_json_data.specs.Distinct.{Members}
use Rattle.asl_json_data.specs.Grammar.{colon, open_bracket, open_brace, AreSpaces, SpellsKey, Padded, Spells}
use Rattle.asl_json_data.specs.Parts.{comma}
use Rattle.asl_json_scan.specs.Open.{Frame, in_list, in_dict, SpellsFrontItems, SpellsFront, IsOpen, AwaitsKey}

pub item_opens : (st : List Frame) (seen : List Data) (pre front ws : List ℕ) → IsOpen st pre → SpellsFrontItems seen front → AreSpaces ws → IsOpen (in_list seen ∷ st) (pre ++ open_bracket ∷ (front ++ ws))
item_opens st seen pre front ws o f s = record {
  front = pre;
  back = open_bracket ∷ (front ++ ws);
  parts = refl;
  front_is = o;
  back_is = record { tail = front ++ ws; parts = refl; tail_is = record { front = front; back = ws; parts = refl; front_is = f; back_is = s } };
}

pub key_awaited : (st : List Frame) (ms : Members) (pre front ws : List ℕ) → IsOpen st pre → SpellsFront ms front → AreSpaces ws → AwaitsKey st ms (pre ++ open_brace ∷ (front ++ ws))
key_awaited st ms pre front ws o f s = record {
  front = pre;
  back = open_brace ∷ (front ++ ws);
  parts = refl;
  front_is = o;
  back_is = record { tail = front ++ ws; parts = refl; tail_is = record { front = front; back = ws; parts = refl; front_is = f; back_is = s } };
}

pub member_opens : (st : List Frame) (ms : Members) (k pre front key ws : List ℕ) → IsOpen st pre → SpellsFront ms front → SpellsKey k key → AreSpaces ws → IsOpen (in_dict ms k ∷ st) (pre ++ open_brace ∷ (front ++ (key ++ colon ∷ ws)))
member_opens st ms k pre front key ws o f h s = record {
  front = pre;
  back = open_brace ∷ (front ++ (key ++ colon ∷ ws));
  parts = refl;
  front_is = o;
  back_is = record {
    tail = front ++ (key ++ colon ∷ ws);
    parts = refl;
    tail_is = record {
      front = front;
      back = key ++ colon ∷ ws;
      parts = refl;
      front_is = f;
      back_is = record { front = key; back = colon ∷ ws; parts = refl; front_is = h; back_is = record { tail = ws; parts = refl; tail_is = s } };
    };
  };
}

pub items_push : (seen : List Data) (d : Data) (t w : List ℕ) → SpellsFrontItems seen t → Padded (Spells d) w → SpellsFrontItems (seen ++ d ∷ []) (t ++ (w ++ comma ∷ []))
items_push [] d t w h g = record { front = w; back = comma ∷ []; parts = rw h refl; front_is = g; back_is = record { tail = []; parts = refl; tail_is = refl } }
items_push (x ∷ xs) d t w h g = record {
  front = h.front;
  back = comma ∷ (h.back_is.tail ++ (w ++ comma ∷ []));
  parts = rw (h.parts, h.back_is.parts) (simp append_assoc);
  front_is = h.front_is;
  back_is = record { tail = h.back_is.tail ++ (w ++ comma ∷ []); parts = refl; tail_is = items_push xs d h.back_is.tail w h.back_is.tail_is g };
}
