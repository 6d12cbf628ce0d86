-- The dump of a lawful trace without a fault is read again.
use Rattle.std.proofs.Common.{◌≡◌, ℕ, ◌≤◌, Bool, true, false, List, [], ◌∷◌, ◌++◌, reverse, Result, Ok, Err, refl, sym}
use Rattle.std.proofs.Common.{ap, subst, ◌∙◌, arith}
use Rattle.std.specs.Prelude.{not, nat_le}
use Rattle.std.specs.List.{AllByRecursion}
use Rattle.std.proofs.lemmas.List.{reverse-append}
use Rattle.std.proofs.lemmas.Bool.Decides.{nat_tests}
use Rattle.bus_trace.specs.LineSet.{LineSet, same_set}
use Rattle.bus_trace.specs.Trace.{drives, driven_after, last_time}
use Rattle.bus_trace.specs.declared.rows.Row.{Row}
use Rattle.bus_trace.specs.declared.rows.Kind.{Kind}
use Rattle.bus_trace.specs.declared.rows.Kind.TheVariants.{Drives}
use Rattle.bus_rules.specs.Seen.{seen, seen_with}
use Rattle.bus_rules.specs.Order.{is_news_of}
use Rattle.bus_rules.specs.Rules.{judged_whole, obeys}
use Rattle.bus_rules.specs.Lawful.{KeepsAll, AreLawful}
use Rattle.bus_rules.specs.declared.verdict.Verdict.{Verdict}
use Rattle.bus_rules.specs.declared.verdict.Verdict.TheVariants.{Lawful, Broken}
use Rattle.bus_rules.proofs.First.{whole_lawful}
use Rattle.trace_text.specs.Readable.{FitsBus, IsTraceRow}
use Rattle.trace_text.proofs.ReadsOnly.{trace_only}
use Rattle.vcd_text.specs.DumpText.{dump_text}
use Rattle.vcd_text.specs.Reading.{vcd_of}
use Rattle.vcd_text.specs.Readable.{IsChange, AreChanges}
use Rattle.vcd_text.proofs.ReadBack.{dump_back}
use Rattle.bus_cli.specs.Judging.{verdict_of}
use Rattle.bus_cli.specs.Vcd.{IsLawful, IsOfLines}
use Rattle.std.proofs.lemmas.Bool.{not-true, leb-true}
use Rattle.bus_base.proofs.Tests.{all_append, all_reverse}

-- rule 2 of a row of lines
differs : (rows : List Row) (row : Row) (lines : LineSet) → row.kind ≡ Drives lines
    → is_news_of (seen rows row) row row.kind ≡ true → same_set (drives rows row.dev) lines ≡ false
unfolding seen_with
differs rows row lines is news =
    let own : LineSet = drives rows row.dev in
    let news_of : not (same_set own (driven_after row.kind own)) ≡ true = ap (is_news_of (seen rows row) row) (sym is)
    ∙ news in
    not-true (same_set own lines) (ap (λ (kind : Kind). not (same_set own (driven_after kind own))) (sym is) ∙ news_of)

change : (rows : List Row) (row : Row) → KeepsAll (obeys rows row) → IsTraceRow row → IsOfLines row → IsChange rows row
unfolding seen_with
change rows row keeps fits (lines, is) = record {
  device = fits.named.device;
  lines = lines;
  kind = is;
  fits = subst FitsBus is fits.lines;
  differs = differs rows row lines is keeps.1.0;
  time = leb-true (last_time rows) row.time keeps.0;
}

changes : (rows : List Row) → AreLawful rows → AllByRecursion IsTraceRow rows → AllByRecursion IsOfLines rows
    → AreChanges rows
changes [] lawful fit driven = tt
changes (row ∷ rows) lawful fit driven = (changes rows lawful.0 fit.1 driven.1, change rows row lawful.1 fit.0 driven.0)

abbrev verdict_back : Result Verdict ℕ → Verdict
verdict_back (Ok v) = v
verdict_back (Err line) = Broken 0 line

pub lawful_back : (bytes : List ℕ) (rows : List Row) (end : ℕ) → IsLawful bytes rows end → AllByRecursion IsOfLines rows
    → vcd_of (dump_text rows end) ≡ Ok (rows, end)
unfolding seen_with
lawful_back bytes rows end (is, lawful) driven =
    let read = trace_only bytes rows end is in
    let verdict : judged_whole (reverse rows) end ≡ Lawful = ap verdict_back (sym (ap verdict_of is) ∙ lawful) in
    let law = (whole_lawful (reverse rows) end).0 verdict in
    let last : last_time (reverse rows) ≤ end = leb-true (last_time (reverse rows)) end law.1.0 in
    dump_back rows end
    (changes (reverse rows) law.0 (all_reverse IsTraceRow rows read.0) (all_reverse IsOfLines rows driven)) last read.1
