-- While RST is true no command is open: the row that raises it ends all that are.
use Rattle.measure_laws.proofs
use proofs.Names.{ℕ, zero, suc, ◌≡◌, ◌<◌, Bool, true, false, ◌&&◌, ◌∙◌, List, [], ◌∷◌, Some, None, refl, sym, ap, subst}
use proofs.Names.{arith, same_Some, list_any, ◌+◌, not, ◌||◌, ◌==◌, if◌then◌else◌, wrong, wrong', Event, bus_off}
use proofs.Names.{change_of, rises, LineSet, bus, drives, driven_after, Row, Change, ScenarioValue, CmdDef, none_at}
use proofs.Names.{command_at, event_sent, RowReading, row_reading, link_events, Item, Sent, command_item, has_item}
use proofs.Names.{is_open, sense_item, Ending, Story, by_reset, story_after_event, story_after_events, story_with_end}
use proofs.Names.{story_with_ends, story_with_over, story_on_bus, AreOfDevices, RunState, run_state, change_plain}
use proofs.{Names.{none_some, raises_or_stands, more_has, own_has}, Lines.Lowers.{Lowers, events_lower, lowers_same}}

-- ---- what an event that names a command leaves of it

ends_more : (s : ScenarioValue) (drops stops : CmdDef → Bool)
    (e : Ending) (l : ℕ) (commands : List CmdDef) (b : Story) (i : Item)
    → has_item b.sent.over i ≡ true → has_item (story_with_ends drops stops e l commands b).sent.over i ≡ true
ends_more s drops stops e l [] b i h = h
ends_more s drops stops e l (c ∷ commands) b i h = ends_more s drops stops e (l + 1) commands _ i
    (go (is_open b.sent l && drops c) (stops c && list_any (λ m. m == l) b.sent.checks))
  where
    go : (q r : Bool) → has_item (if q then story_with_end b (record { command = l; sense = false }) e
        else if r then story_with_over b (sense_item l) else b).sent.over i ≡ true
    go true r = more_has (command_item l) i b.sent.over h
    go false true = more_has (sense_item l) i b.sent.over h
    go false false = h

ends_close : (s : ScenarioValue) (drops stops : CmdDef → Bool) (e : Ending)
    (l w : ℕ) (commands : List CmdDef) (b : Story) (c : CmdDef)
    → command_at commands (suc w) ≡ Some c → drops c ≡ true → has_item b.sent.sent (command_item (suc (l + w))) ≡ true
    → has_item (story_with_ends drops stops e (suc l) commands b).sent.over (command_item (suc (l + w))) ≡ true
ends_close s drops stops e l w [] b c at d sent = none_some c at
ends_close s drops stops e l zero (x ∷ commands) b c at d sent =
    let same : suc (l + 0) ≡ suc l = omega arith in
    let there : has_item b.sent.sent (command_item (suc l)) ≡ true =
    ap (λ (m : ℕ). has_item b.sent.sent (command_item m)) (sym same) ∙ sent in
    let next : Story =
    if is_open b.sent (suc l) && drops x then story_with_end b (record { command = suc l; sense = false }) e
    else if stops x && list_any (λ m. m == suc l) b.sent.checks then story_with_over b (sense_item (suc l)) else b in
    ap (λ (m : ℕ). has_item (story_with_ends drops stops e (suc l) (x ∷ commands) b).sent.over (command_item m)) same
    ∙ ends_more s drops stops e (suc l + 1) commands next (command_item (suc l))
    (by there (ap drops (same_Some x c at) ∙ d) (has_item b.sent.over (command_item (suc l))) refl)
  where
    after : Bool → Story
    after q =
        if q then story_with_end b (record { command = suc l; sense = false }) e
        else if stops x && list_any (λ m. m == suc l) b.sent.checks then story_with_over b (sense_item (suc l))
        else b

    still : (q r : Bool) → has_item b.sent.over (command_item (suc l)) ≡ true
        → has_item (if q then story_with_end b (record { command = suc l; sense = false }) e
        else if r then story_with_over b (sense_item (suc l)) else b).sent.over (command_item (suc l)) ≡ true
    still true r h = more_has (command_item (suc l)) (command_item (suc l)) b.sent.over h
    still false true h = more_has (sense_item (suc l)) (command_item (suc l)) b.sent.over h
    still false false h = h

    by : has_item b.sent.sent (command_item (suc l)) ≡ true → drops x ≡ true
        → (o : Bool) → has_item b.sent.over (command_item (suc l)) ≡ o
        → has_item (after (is_open b.sent (suc l) && drops x)).sent.over (command_item (suc l)) ≡ true
    by there dx true f =
        still (is_open b.sent (suc l) && drops x) (stops x && list_any (λ m. m == suc l) b.sent.checks) f
    by there dx false f = (λ i. has_item (after ((there i && not (f i)) && dx i)).sent.over (command_item (suc l)))
        ∙ own_has (command_item (suc l)) b.sent.over
ends_close s drops stops e l (suc w) (x ∷ commands) b c at d sent =
    let next : Story =
    if is_open b.sent (suc l) && drops x then story_with_end b (record { command = suc l; sense = false }) e
    else if stops x && list_any (λ m. m == suc l) b.sent.checks then story_with_over b (sense_item (suc l)) else b in
    let moved : suc (l + suc w) ≡ suc (suc l + w) = omega arith in
    let one_more : suc (suc l) ≡ suc l + 1 = omega arith in
    (λ i. has_item (story_with_ends drops stops e (sym one_more i) commands next).sent.over (command_item (moved i)))
    ∙ ends_close s drops stops e (suc l) w commands next c at d
    (same_sent (is_open b.sent (suc l) && drops x) (stops x && list_any (λ m. m == suc l) b.sent.checks)
    ∙ ap (λ (m : ℕ). has_item b.sent.sent (command_item m)) (sym moved) ∙ sent)
  where
    same_sent : (q r : Bool) → has_item (if q then story_with_end b (record { command = suc l; sense = false }) e
        else if r then story_with_over b (sense_item (suc l)) else b).sent.sent (command_item (suc (suc l + w)))
        ≡ has_item b.sent.sent (command_item (suc (suc l + w)))
    same_sent true r = refl
    same_sent false true = refl
    same_sent false false = refl

reset_over : (s : ScenarioValue) (b : Story) (dev m : ℕ) (c : CmdDef)
    → command_at s.commands m ≡ Some c → has_item b.sent.sent (command_item m) ≡ true
    → has_item (story_after_event s b (Event.Reset dev)).sent.over (command_item m) ≡ true
reset_over s b dev zero c at sent = none_some c (sym (none_at s.commands) ∙ at)
reset_over s b dev (suc m) c at sent =
    ap (λ (i : ℕ). has_item (story_after_event s b (Event.Reset dev)).sent.over (command_item i)) (sym one_less)
    ∙ ends_close s (λ x. true) (λ x. true) by_reset 0 m s.commands b c at refl
    (ap (λ (i : ℕ). has_item b.sent.sent (command_item i)) one_less ∙ sent)
  where
    one_less : suc (0 + m) ≡ suc m
    one_less = omega arith

-- ---- no command is open

abbrev pub AreClosed : ScenarioValue → Sent → Type 0
AreClosed s b = (m : ℕ) (c : CmdDef) → command_at s.commands m ≡ Some c → is_open b m ≡ false

reset_closes : (s : ScenarioValue) (b : Story) (dev : ℕ) → AreClosed s (story_after_event s b (Event.Reset dev)).sent
reset_closes s b dev n c at = go (has_item b.sent.sent (command_item n)) refl
  where
    next : Sent
    next = (story_after_event s b (Event.Reset dev)).sent

    go : (q : Bool) → has_item b.sent.sent (command_item n) ≡ q → is_open next n ≡ false
    go true e = (λ i. has_item next.sent (command_item n) && not (reset_over s b dev n c at e i))
        ∙ never (has_item next.sent (command_item n))
      where
        never : (q : Bool) → (q && not true) ≡ false
        never true = refl
        never false = refl
    go false e = λ i. (ap (λ (x : List Item). has_item x (command_item n)) (event_sent s b (Event.Reset dev)) ∙ e) i
        && not (has_item next.over (command_item n))

-- ---- a row after which RST is true

abbrev rst_events : Bool → ℕ → List Event
rst_events q dev = if q then Event.Reset dev ∷ [] else []

rst_sent : (s : ScenarioValue) (k : RunState) (row : Row) (d : RowReading)
    → d ≡ row_reading k.story.bus_state row → d.change.after.rst ≡ true
    → (story_after_events s (if d.change.after.rst then record k.story { link = None }
    else story_on_bus s k.story k.story.bus_state.connection d.next d row)
    (if d.change.after.rst then rst_events (rises d.change.own.rst d.change.next.rst) row.dev
    else link_events s k.story k.story.link d)).sent ≡ (story_after_events s (record k.story { link = None })
    (rst_events (rises d.change.own.rst d.change.next.rst) row.dev)).sent
rst_sent s k row d same on = ap (λ (q : Bool). (story_after_events s
    (if q then record k.story { link = None } else story_on_bus s k.story k.story.bus_state.connection d.next d row)
    (if q then rst_events (rises d.change.own.rst d.change.next.rst) row.dev
    else link_events s k.story k.story.link d)).sent) on

pub record UnderReset (s : ScenarioValue) (p : List Row) (row : Row) : Type 0 where
  pub lowers : Lowers (run_state s p).story.sent (run_state s (row ∷ p)).story.sent
  pub raised : rises (drives p row.dev).rst (driven_after row.kind (drives p row.dev)).rst ≡ true
      → AreClosed s (run_state s (row ∷ p)).story.sent
  pub stays : rises (drives p row.dev).rst (driven_after row.kind (drives p row.dev)).rst ≡ false
      → (run_state s (row ∷ p)).story.sent ≡ (run_state s p).story.sent

pub under_reset_row : (s : ScenarioValue) (p : List Row) (row : Row) → AreOfDevices p → row.dev < 8
    → (bus (row ∷ p)).rst ≡ true → UnderReset s p row
under_reset_row s p row dv lt on = record {
  lowers = subst (λ (x : Sent). Lowers k.story.sent x) (sym is) (lowers_by (rises d.change.own.rst d.change.next.rst));
  raised = λ e. subst (λ (x : Sent). AreClosed s x)
      (sym (is ∙ ap (λ (q : Bool). (story_after_events s plain (rst_events q row.dev)).sent) (rise ∙ e)))
      (reset_closes s plain row.dev);
  stays = λ e. is ∙ ap (λ (q : Bool). (story_after_events s plain (rst_events q row.dev)).sent) (rise ∙ e);
}
  where
    k : RunState
    k = run_state s p

    d : RowReading
    d = row_reading k.story.bus_state row

    plain : Story
    plain = record k.story { link = None }

    c : d.change ≡ change_of p row
    c = change_plain s row p dv lt

    rise : rises d.change.own.rst d.change.next.rst
        ≡ rises (drives p row.dev).rst (driven_after row.kind (drives p row.dev)).rst
    rise = ap (λ (x : Change). rises x.own.rst x.next.rst) c

    is : (run_state s (row ∷ p)).story.sent
        ≡ (story_after_events s plain (rst_events (rises d.change.own.rst d.change.next.rst) row.dev)).sent
    is = rst_sent s k row d refl (ap (λ (x : Change). x.after.rst) c ∙ on)

    lowers_by : (q : Bool) → Lowers k.story.sent (story_after_events s plain (rst_events q row.dev)).sent
    lowers_by true = events_lower s plain (Event.Reset row.dev ∷ []) (tt, tt)
    lowers_by false = lowers_same k.story.sent plain.sent refl

pub closed_under_reset : (s : ScenarioValue) (p : List Row) → AreOfDevices p → (bus p).rst ≡ true
    → AreClosed s (run_state s p).story.sent
closed_under_reset s [] dv on = wrong (sym on ∙ bus_off (λ (l : LineSet). l.rst) (λ _ _. refl) refl [] (λ d lt. refl))
closed_under_reset s (row ∷ p) dv on = go (λ f. closed_under_reset s p dv.1 f)
    (rises (drives p row.dev).rst (driven_after row.kind (drives p row.dev)).rst) refl (bus p).rst refl
  where
    u : UnderReset s p row
    u = under_reset_row s p row dv.1 dv.0 on

    go : ((bus p).rst ≡ true → AreClosed s (run_state s p).story.sent) → (q : Bool)
        → rises (drives p row.dev).rst (driven_after row.kind (drives p row.dev)).rst ≡ q → (r : Bool) → (bus p).rst ≡ r
        → AreClosed s (run_state s (row ∷ p)).story.sent
    go before true e r f = u.raised e
    go before false e true f = subst (λ (x : Sent). AreClosed s x) (sym (u.stays e)) (before f)
    go before false e false f = wrong' ((λ i. sym f i || sym e i) ∙ raises_or_stands p row dv.0 on)
