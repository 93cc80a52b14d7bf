-- Inputs go on.
use Rattle.std.proofs.Common.{◌≡◌, ℕ, ◌+◌, List, [], ◌∷◌, ◌++◌, length, refl, sym, ap, subst, ◌∙◌, append_assoc, inl, inr, arith}
use Rattle.std.proofs.lemmas.List.{append-nil}
use Rattle.asl_base_protocol.specs.declared.item.Item.{Item}
use Rattle.asl_base_protocol.specs.declared.part.Part.{Part}
use Rattle.asl_base_protocol.specs.declared.part.Part.TheVariants as parts
use Rattle.asl_base_protocol.specs.declared.part.Turn.{Turn}
use Rattle.asl_base_protocol.specs.declared.part.Turn.TheVariants as turns
use Rattle.asl_base_protocol.specs.declared.reader.Reader.{Reader}
use Rattle.asl_base_protocol.specs.Grammar.{IsText, IsUnfinished, Reads}
use Rattle.asl_base_protocol.specs.Standing.{Stands, TurnIs, Begins, Puts, Goes, IsAfter, GoesOn}

pub nothing_unfinished : IsUnfinished []
nothing_unfinished = inl (record { lines = []; line = []; parts = refl; lines_are = tt; line_is = refl }, omega arith)

pub unfinished : (t : List ℕ) (p : Part) → Stands t p → IsUnfinished t
unfinished t (parts.Header h) (s, short) = inl (record { lines = s.lines; line = h.line.items; parts = s.parts; lines_are = s.lines_are; line_is = s.line_is }, short)
unfinished t (parts.Content f) s = inr (record {
  lines = s.lines;
  body = s.body;
  parts = s.parts;
  lines_are = s.lines_are;
  short = s.short;
  body_is = (length s.body + f.left, s.body_is.0, omega (arith, f.some));
})
unfinished t (parts.Passed p) s = inr (record {
  lines = s.lines;
  body = s.body;
  parts = s.parts;
  lines_are = s.lines_are;
  short = s.short;
  body_is = (p.length, s.body_is.0, omega (arith, p.some, s.body_is.2));
})

-- the rest goes on
pub reads_more : (is : List Item) (rest input more : List ℕ) → Reads is rest input → IsUnfinished (rest ++ more) → Reads is (rest ++ more) (input ++ more)
reads_more [] rest input more h u = (ap (λ (x : List ℕ). x ++ more) h.0, u)
reads_more (i ∷ is) rest input more (text, behind, e, h, g) u =
    (text, behind ++ more, ap (λ (x : List ℕ). x ++ more) e ∙ append_assoc text behind more, h, reads_more is rest behind more g u)

-- the rest becomes whole
pub reads_item : (is : List Item) (i : Item) (rest input more : List ℕ) → Reads is rest input → IsText i (rest ++ more) → Reads (is ++ i ∷ []) [] (input ++ more)
reads_item [] i rest input more h t =
    (input ++ more, [], sym (append-nil (input ++ more)), subst (λ (x : List ℕ). IsText i (x ++ more)) (sym h.0) t, (refl, nothing_unfinished))
reads_item (j ∷ is) i rest input more (text, behind, e, h, g) t =
    (text, behind ++ more, ap (λ (x : List ℕ). x ++ more) e ∙ append_assoc text behind more, h, reads_item is i rest behind more g t)

-- the rest with more bytes is read
pub reads_both : (is js : List Item) (rest last input more : List ℕ) → Reads is rest input → Reads js last (rest ++ more) → Reads (is ++ js) last (input ++ more)
reads_both [] js rest last input more h g = subst (λ (x : List ℕ). Reads js last (x ++ more)) (sym h.0) g
reads_both (i ∷ is) js rest last input more (text, behind, e, h, f) g =
    (text, behind ++ more, ap (λ (x : List ℕ). x ++ more) e ∙ append_assoc text behind more, h, reads_both is js rest last behind more f g)

-- ---- the loop

pub goes_none : (t : List ℕ) (p : Part) (items : List Item) → Stands t p → Goes t [] items items p
goes_none t p items s = record {
  more = [];
  items_are = sym (append-nil items);
  left = t;
  reads = (append-nil t, unfinished t p s);
  stands = s;
}

pub goes_turn : (t used front : List ℕ) (old now new : List Item) (p q : Part) (u : Turn) (g : Goes t used old now p) → TurnIs (g.left ++ front) u → Puts (g.left ++ front) u now new q → Goes t (used ++ front) old new q
goes_turn t used front old now new p q (turns.Item i) g h put = record {
  more = g.more ++ i ∷ [];
  items_are = put.0 ∙ ap (λ (x : List Item). x ++ i ∷ []) g.items_are ∙ append_assoc old g.more (i ∷ []);
  left = [];
  reads = subst (Reads (g.more ++ i ∷ []) []) (append_assoc t used front) (reads_item g.more i g.left (t ++ used) front g.reads h);
  stands = put.1;
}
goes_turn t used front old now new p q (turns.Part r) g h put = record {
  more = g.more;
  items_are = put.0 ∙ g.items_are;
  left = g.left ++ front;
  reads = subst (Reads g.more (g.left ++ front)) (append_assoc t used front) (reads_more g.more g.left (t ++ used) front g.reads (unfinished (g.left ++ front) q put.1));
  stands = put.1;
}

-- so many bytes are used up
pub record Going (begun p : Part) (bytes rest : List ℕ) (old new : List Item) : Type 0 where
  pub used : List ℕ
  pub parts : bytes ≡ used ++ rest
  pub goes : (t : List ℕ) → Stands t begun → Goes t used old new p

pub going_begun : (p : Part) (bytes : List ℕ) (items : List Item) → Going p p bytes bytes items items
going_begun p bytes items = record { used = []; parts = refl; goes = λ t s. goes_none t p items s }

pub going_on : (begun p q : Part) (bytes rest front behind : List ℕ) (old now new : List Item) (u : Turn) → Going begun p bytes rest old now → rest ≡ front ++ behind → ((t : List ℕ) → Stands t p → TurnIs (t ++ front) u) → ((t : List ℕ) → TurnIs t u → Puts t u now new q) → Going begun q bytes behind old new
going_on begun p q bytes rest front behind old now new u g cut turned put = record {
  used = g.used ++ front;
  parts = g.parts ∙ ap (λ (x : List ℕ). g.used ++ x) cut ∙ sym (append_assoc g.used front behind);
  goes = λ t s.
      let f = g.goes t s in
      let h = turned f.left f.stands in
      goes_turn t g.used front old now new p q u f h (put (f.left ++ front) h);
}

pub going_all : (begun p : Part) (bytes rest : List ℕ) (old new : List Item) → Going begun p bytes rest old new → rest ≡ [] → (t : List ℕ) → Stands t begun → Goes t bytes old new p
going_all begun p bytes rest old new g none t s =
    let all : g.used ≡ bytes = sym (append-nil g.used) ∙ sym (g.parts ∙ ap (λ (x : List ℕ). g.used ++ x) none) in
    subst (λ (x : List ℕ). Goes t x old new p) all (g.goes t s)

pub begins_more : (old now new : List Item) → Begins old now → Begins now new → Begins old new
begins_more old now new (a, e) (b, f) = (a ++ b, f ∙ ap (λ (x : List Item). x ++ b) e ∙ append_assoc old a b)

-- ---- the whole reader

pub fed : (input bytes : List ℕ) (items old new : List Item) (r s : Reader) → (a : IsAfter input items r) → Goes a.rest bytes old new s.part → GoesOn input bytes items old new s
fed input bytes items old new r s a g = record {
  more = g.more;
  items_are = g.items_are;
  after = record { rest = g.left; reads = reads_both items g.more a.rest g.left input bytes a.reads g.reads; stands = g.stands };
}
