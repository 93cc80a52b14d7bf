-- A moment has one text.
use Rattle.std.proofs.Common.{◌≡◌, ℕ, List, ◌++◌, ◌/◌, unsigned_abs, sym, ◌∙◌}
use Rattle.std.specs.Prelude.{codes}
use Rattle.jiff_core.proofs.DateLemmas.{epoch_day_injective}
use Rattle.jiff_core.proofs.DateTimeLemmas.{civil_nanos_injective, time_nanos_injective}
use Rattle.jiff_core.specs.declared.civil.date.Date.{Date}
use Rattle.jiff_core.specs.declared.civil.time.Time.{Time}
use Rattle.jiff_core.specs.declared.civil.datetime.DateTime.{DateTime}
use Rattle.jiff_core.specs.DateTime.{civil_nanos}
use Rattle.asl_time.specs.Stamp.{digits, full_date, whole_time, spelled, IsStampOf}

one_date : (a b : Date) → a.year ≡ b.year → a.month ≡ b.month → a.day ≡ b.day → full_date a ≡ full_date b
one_date a b y m d = λ i. digits 4 (unsigned_abs (y i)) ++ codes "-" ++ digits 2 (m i) ++ codes "-" ++ digits 2 (d i)

one_time : (a b : Time) → a.hour ≡ b.hour → a.minute ≡ b.minute → a.second ≡ b.second → whole_time a ≡ whole_time b
one_time a b h m s = λ i. digits 2 (h i) ++ codes ":" ++ digits 2 (m i) ++ codes ":" ++ digits 2 (s i)

one_text : (a b : DateTime) → civil_nanos a ≡ civil_nanos b → spelled a ≡ spelled b
one_text a b e =
    let n = civil_nanos_injective a b e in
    let d = epoch_day_injective a.date b.date n.0 in
    let h = time_nanos_injective a.time b.time n.1 in
    let date = one_date a.date b.date d.0 d.1 d.2 in
    let time = one_time a.time b.time h.0 h.1 h.2 in
    λ i. date i ++ codes "T" ++ time i ++ codes "." ++ digits 3 (h.3 i / 1_000_000) ++ codes "Z"

pub one_stamp : (m : ℕ) (t u : List ℕ) → IsStampOf m t → IsStampOf m u → t ≡ u
one_stamp m t u a b = a.text ∙ one_text a.shown b.shown (a.at_moment ∙ sym b.at_moment) ∙ sym b.text
