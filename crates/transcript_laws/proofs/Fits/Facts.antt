-- Each row of a prompt trace fits.
use Rattle.transcript_laws.proofs
use proofs.Names.{◌≡◌, ◌∙◌, ◌<◌, Bool, true, false, not, ◌&&◌, List, [], ◌∷◌, Option, Some, None, refl, sym, ap, subst}
use proofs.Names.{◌||◌, same_Some, is_some, is_none, if◌then◌else◌, wrong', change_of, rises, call, connection}
use proofs.Names.{connection_after, bus, Change, Connection, Row, ScenarioValue, Obeys, RowReading, row_reading, Link}
use proofs.Names.{Story, aim_of, story, run_state_plain, IsPrompt, IsPlain, AreOfDevices, RunState, run_state}
use proofs.Names.{change_plain, least_is, none_some, by_bool, Whole, whole, OpenedValue, transcribed, is_fresh}
use proofs.Names.{is_alone, fits_linked, fits_first, fits_bus, ends_all, fits_reading, fits_row, is_named, are_named}
use proofs.{Names.{fit}, Fits.{Alone.{begins_alone}, Ends.{ends_fit}, First.{fresh_item, begins_quiet}}}
use proofs.Fits.{Named.{standing as connection_standing, named_selected}, Rows.{going_fits}, Sent.{reset_ends}}
use proofs.{Fits.Sent.{sent_known}, Named.Facts.{named_again}, Opened.{Facts.{opened_all}, Resets.{rst_none, rst_row}}}
use proofs.{Opened.Rows.{going_at}, Undone.Facts.{undoes_row}}

row_by_state : (s : ScenarioValue) (p : List Row) (row : Row) → Obeys s → IsPrompt s (row ∷ p)
    → fits_reading s (transcribed p) (run_state s p).story (row_reading (run_state s p).story.bus_state row) ≡ true
row_by_state s p row o prompt = by_bool (bus (row ∷ p)).rst
    (λ on. ap (λ (q : Bool). if q then is_none (transcribed p).opened || (up && ends_all s b)
    else fits_bus s (transcribed p) b b.bus_state.connection d) (ap (λ (x : Change). x.after.rst) c ∙ on)
    ∙ reset (is_none (transcribed p).opened) up (ends_all s b) (rst_row s p row dv lt on)
    (reset_ends s b was.facts.items.items.checked was.facts.items.items.checks (λ id h. sent_known s p id h)))
    (λ off. ap (λ (q : Bool). if q then is_none (transcribed p).opened || (up && ends_all s b)
    else fits_bus s (transcribed p) b b.bus_state.connection d) (ap (λ (x : Change). x.after.rst) c ∙ off)
    ∙ by_connection off (connection p) refl)
  where
    k : RunState
    k = run_state s p

    b : Story
    b = k.story

    was : Whole s p
    was = whole s p o prompt.0

    dv : AreOfDevices p
    dv = was.stood.standing.devices

    lt : row.dev < 8
    lt = (least_is s p row prompt.1).inside

    pl : IsPlain s p k
    pl = was.stood.plain

    d : RowReading
    d = row_reading b.bus_state row

    c : d.change ≡ change_of p row
    c = change_plain s row p dv lt

    next : d.next ≡ connection (row ∷ p)
    next = λ i. connection_after (pl.connection i) (pl.call i) (c i) row

    up : Bool
    up = rises d.change.own.rst d.change.next.rst

    reset : (a r e : Bool) → (a || r) ≡ true → e ≡ true → (a || (r && e)) ≡ true
    reset true r e x y = refl
    reset false true e x y = y
    reset false false e x y = wrong' x

    -- a connection begins
    first : (n : Connection) → connection p ≡ None → connection (row ∷ p) ≡ Some n
        → fits_first s b (Some n) d.change ≡ true
    first n alone after =
        let quiet = begins_quiet s p row n o prompt was alone after in
        λ i. item n.reselected refl i && not (quiet.command i) && not (quiet.status i)
      where
        item : (q : Bool) → n.reselected ≡ q
            → (n.reselected || (is_fresh b (aim_of b.aims n.initiator) && is_alone s b (aim_of b.aims n.initiator)))
            ≡ true
        item true re = ap
            (λ (q : Bool). q || (is_fresh b (aim_of b.aims n.initiator) && is_alone s b (aim_of b.aims n.initiator))) re
        item false sel =
            (λ i. sel i || (is_fresh b (aim_of b.aims n.initiator) && is_alone s b (aim_of b.aims n.initiator)))
            ∙ (λ i. fresh_item s p row n o prompt was alone after sel i
            && begins_alone s p row n o prompt was alone after sel i)

    apart : (x : Option Connection) → connection p ≡ None → connection (row ∷ p) ≡ x → fits_first s b x d.change ≡ true
    apart None alone after = refl
    apart (Some n) alone after = first n alone after

    same : (m n : Connection) (q : Bool) → (if q then Some m else None) ≡ Some n → m ≡ n
    same m n true e = same_Some m n e
    same m n false e = none_some n e

    -- a connection stands
    inside : (m : Connection) → connection p ≡ Some m → (bus (row ∷ p)).rst ≡ false → (q : Bool) → (bus p).rst ≡ q
        → (t : Option OpenedValue) → (transcribed p).opened ≡ t → (v : Option Link) → b.link ≡ v
        → (x : Option Connection) → connection (row ∷ p) ≡ x → fits_linked s b t v d (is_some x) ≡ true
    inside m con off q calm None et v ev x after = refl
    inside m con off q calm (Some w) et None ev x after = refl
    inside m con off true calm (Some w) et (Some l) ev x after = none_some w (sym (rst_none s p dv calm) ∙ et)
    inside m con off false calm (Some w) et (Some l) ev None after =
        ends_fit s p row m w l o prompt con calm off after et ev
    inside m con off false calm (Some w) et (Some l) ev (Some n) after =
        let is : m ≡ n = same m n (bus (row ∷ p)).bsy
        (sym (λ i. connection_after (con i) (call p) (change_of p row) row) ∙ after) in
        let here : connection p ≡ Some n = con ∙ ap (λ (z : Connection). Some z) is in
        let g = going_at s p row n o prompt here calm after off in
        going_fits s p row n g w l (opened_all s o p prompt.0 n here calm w et) ev
        (undoes_row s p n w o prompt.0 here calm et)

    by_connection : (bus (row ∷ p)).rst ≡ false → (x : Option Connection) → connection p ≡ x
        → fits_bus s (transcribed p) b b.bus_state.connection d ≡ true
    by_connection off None con = ap (λ (y : Option Connection). fits_bus s (transcribed p) b y d) (pl.connection ∙ con)
        ∙ ap (λ (y : Option Connection). fits_first s b y d.change) next ∙ apart (connection (row ∷ p)) con refl
    by_connection off (Some m) con =
        ap (λ (y : Option Connection). fits_bus s (transcribed p) b y d) (pl.connection ∙ con)
        ∙ ap (λ (y : Option Connection). fits_linked s b (transcribed p).opened b.link d (is_some y)) next
        ∙ inside m con off (bus p).rst refl (transcribed p).opened refl b.link refl (connection (row ∷ p)) refl

pub row_fits : (s : ScenarioValue) (p : List Row) (row : Row) → Obeys s → IsPrompt s (row ∷ p)
    → fits_row s (transcribed p) (story s p) row ≡ true
row_fits s p row o prompt =
    let pl = run_state_plain s p (whole s p o prompt.0).stood.standing.devices in
    subst (λ (b : Story). fits_reading s (transcribed p) b (row_reading b.bus_state row) ≡ true) pl.story
    (row_by_state s p row o prompt)

-- The process of the connection has its name.
names_fit : (s : ScenarioValue) (p : List Row) → Obeys s → IsPrompt s p
    → are_named s (transcribed p).opened (story s p).link ≡ true
names_fit s p o prompt = subst (λ (b : Story). are_named s (transcribed p).opened b.link ≡ true) pl.story
    (go (transcribed p).opened refl (run_state s p).story.link refl)
  where
    was : Whole s p
    was = whole s p o prompt

    pl : IsPlain s p (run_state s p)
    pl = was.stood.plain

    no_link : {A : Type 0} (l : Link) → (let a : Option Link = None in a) ≡ Some l → A
    no_link l e = absurd cc

    at : (w : OpenedValue) (l : Link) → (transcribed p).opened ≡ Some w → (run_state s p).story.link ≡ Some l
        → (q : Bool) → (bus p).rst ≡ q → (x : Option Connection) → connection p ≡ x → is_named s w l.item ≡ true
    at w l et ev true calm x con = none_some w (sym (rst_none s p was.stood.standing.devices calm) ∙ et)
    at w l et ev false calm None con = no_link l (sym (was.facts.items.items.apart (pl.connection ∙ con)).0 ∙ ev)
    at w l et ev false calm (Some n) con =
        by_bool n.reselected
        (λ re. named_again s p n w l o prompt con calm et ev re)
        (λ sel. named_selected s p n w l (connection_standing s p n w o prompt con calm et) ev sel)

    go : (t : Option OpenedValue) → (transcribed p).opened ≡ t → (v : Option Link) → (run_state s p).story.link ≡ v
        → are_named s t v ≡ true
    go None et v ev = refl
    go (Some w) et None ev = refl
    go (Some w) et (Some l) ev = at w l et ev (bus p).rst refl (connection p) refl

-- Of all rows.
pub rows_fit : (s : ScenarioValue) (p : List Row) → Obeys s → IsPrompt s p → fit s p ≡ true
rows_fit s [] o prompt = refl
rows_fit s (row ∷ p) o prompt =
    λ i. rows_fit s p o prompt.0 i && row_fits s p row o prompt i && names_fit s (row ∷ p) o prompt i
