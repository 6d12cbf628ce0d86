-- With each row before which and after which no connection stands, RST being false, the measure falls.
use Rattle.measure_laws.proofs
use proofs.Names.{◌≡◌, ◌≤◌, ◌<◌, ◌∙◌, suc, false, List, ◌∷◌, None, sym, wrong, connection, bus, Row, ScenarioValue}
use proofs.Names.{Obeys, IsLeast, IsPrompt, AreOfDevices, from_answered, from_resumed, from_withdrawn, from_arbitration}
use proofs.Names.{from_asking, from_calls, from_free, from_won, obeys_latencies, unreset_due, BusStage, CalmStanding}
use proofs.Names.{HasShortLatencies, NextCalmRow, on_free_bus, in_arbitration, after_arbitration, with_both_ids}
use proofs.Names.{awaiting_answer, after_withdrawal, after_answer, after_takeover, in_reset, none_some, link_none}
use proofs.{Names.{Stood, whole, apart_of, measure}, Apart.{Falls.{passes_falls, strikes_falls}, Future.{ApartParts}}}
use proofs.Apart.{Future.{apart_parts}, Unanswered.{gives_up_falls}, Way.{ApartRow, apart_row, gives_up, passes}}
use proofs.Apart.Way.{strikes}
use Rattle.progress_laws.specs.bus_laws.specs.Stages.{in_connection}

by_row : (s : ScenarioValue) (p : List Row) (row : Row) → Obeys s → IsPrompt s p → ApartParts s p row
    → AreOfDevices p → row.dev < 8 → connection p ≡ None → connection (row ∷ p) ≡ None → (bus p).rst ≡ false
    → (bus (row ∷ p)).rst ≡ false → ApartRow s p row → suc (measure s (row ∷ p)) ≤ measure s p
by_row s p row o prompt parts dv lt was alone calm next (passes lines sel less) =
    passes_falls s p row parts dv lt was alone calm next lines sel less
by_row s p row o prompt parts dv lt was alone calm next (strikes t d bit time is flips sel more) =
    strikes_falls s p row t d bit time is parts dv lt was alone flips sel more
by_row s p row o prompt parts dv lt was alone calm next (gives_up v m c k t0 t1 t2 t3 lines called sel low way pays) =
    gives_up_falls s p row v m c k t0 t1 t2 t3 o prompt parts dv lt was alone calm next lines called sel low way pays

-- A row that is the first due, resets apart, leaves RST false.
next_calm : (s : ScenarioValue) (p : List Row) (row : Row) → HasShortLatencies s → CalmStanding s p
    → IsLeast (unreset_due s p) 8 row → (bus p).rst ≡ false → connection p ≡ None → BusStage s p → NextCalmRow s p row
next_calm s p row fits always m calm was (on_free_bus h) = from_free s p row always h m
next_calm s p row fits always m calm was (in_arbitration a h) = from_arbitration s p a row always h m
next_calm s p row fits always m calm was (after_arbitration c t h) = from_won s p c t row fits always h m
next_calm s p row fits always m calm was (with_both_ids g c k t0 t e h) = from_calls s p g c k t0 t row always e h m
next_calm s p row fits always m calm was (awaiting_answer v g c k t0 t1 t2 x h) =
    from_asking s p v g c k t0 t1 t2 x row fits always h m
next_calm s p row fits always m calm was (after_withdrawal v g c k t0 t1 t2 t3 e h) =
    from_withdrawn s p v g c k t0 t1 t2 t3 row always e h m
next_calm s p row fits always m calm was (after_answer g c k t0 t1 t2 t3 x h) =
    from_answered s p g c k t0 t1 t2 t3 x row always h m
next_calm s p row fits always m calm was (after_takeover c k t0 t1 t2 t3 t4 x e f h) =
    from_resumed s p c k t0 t1 t2 t3 t4 x row always e f h m
next_calm s p row fits always m calm was (in_reset h) = wrong (sym h.reset ∙ calm)
next_calm s p row fits always m calm was (in_connection n e off h) = none_some n (sym was ∙ e)

-- So where no connection stands before it, and none after it.
pub calm_row_falls : (s : ScenarioValue) (p : List Row) (row : Row) → Obeys s → IsPrompt s (row ∷ p)
    → connection p ≡ None → connection (row ∷ p) ≡ None → (bus p).rst ≡ false → CalmStanding s p
    → IsLeast (unreset_due s p) 8 row → suc (measure s (row ∷ p)) ≤ measure s p
calm_row_falls s p row o prompt was alone calm always first =
    let next : (bus (row ∷ p)).rst ≡ false =
    (next_calm s p row (obeys_latencies s o) always first calm was here).calm in
    by_row s p row o prompt.0 (apart_parts s p row dv first.inside was alone next (link_none s p here was)) dv
    first.inside was alone calm next (apart_row s p row (obeys_latencies s o) always first calm was alone here)
  where
    stood : Stood s p
    stood = (whole s p o prompt.0).stood

    dv : AreOfDevices p
    dv = stood.standing.devices

    here : BusStage s p
    here = apart_of s p stood.here was
