-- A row that begins, carries and tells nothing keeps every wish.
use Rattle.std.proofs.Common.{ℕ, zero, suc, ◌≡◌, ◌==◌, Bool, true, false, List, [], ◌∷◌, ◌∙◌, refl, sym, ap, arith}
use Rattle.std.proofs.Common.{Option, Some, None}
use Rattle.std.proofs.lemmas.Bool.Decides.{nat_tests}
use Rattle.std.specs.Prelude.{if◌then◌else◌, not, drop, slice_set, ◌&&◌, ◌||◌}
use Rattle.bus_rules.specs.bus_trace.specs.declared.Row.{Row}
use Rattle.bus_rules.specs.bus_trace.specs.declared.Kind.{Kind}
use Rattle.bus_rules.specs.bus_trace.specs.declared.Kind.TheVariants.{Drives, Fault}
use Rattle.bus_rules.specs.bus_trace.specs.declared.changes.Change.{Change}
use Rattle.bus_rules.specs.bus_trace.specs.declared.selection.Call.{Call}
use Rattle.bus_rules.specs.bus_trace.specs.declared.connection.Connection.{Connection}
use Rattle.dialogue_model.specs.bus_phases.specs.declared.spoken.Spoken.{Spoken}
use Rattle.bus_rules.specs.bus_trace.specs.Changes.{falls}
use Rattle.bus_rules.specs.bus_trace.specs.Terms.{is_fault, connection_after}
use Rattle.bus_rules.specs.bus_trace.specs.Phases.{changes_phase}
use Rattle.bus_rules.specs.bus_base.specs.declared.Event.{Event}
use Rattle.dialogue_model.specs.scenario.specs.Value.{ScenarioValue}
use Rattle.dialogue_model.specs.story_model.specs.PairAgreements.{PairAgreement, agreements_at_end, agreements_after}
use Rattle.dialogue_model.specs.story_model.specs.BusState.{RowReading, row_reading}
use Rattle.dialogue_model.specs.story_model.specs.Items.{Item}
use Rattle.dialogue_model.specs.story_model.specs.Links.{Link}
use Rattle.dialogue_model.specs.story_model.specs.Story.{Story}
use Rattle.dialogue_model.specs.story_model.specs.HistoryEvents.{row_events_by}
use Rattle.dialogue_model.specs.story_model.specs.TraceHistory.{is_arbitration_entry, story_on_free_bus}
use Rattle.dialogue_model.specs.story_model.specs.TraceHistory.{story_after_calling, story_with_aim, story_after_fault}
use Rattle.dialogue_model.specs.story_model.specs.TraceHistory.{story_in_connection, story_after_crossing, story_on_bus}
use Rattle.dialogue_model.specs.story_model.specs.TraceHistory.{story_by_change}
use Rattle.due_model.specs.RunState.{RunState, process_served}
use Rattle.dialogue_model.specs.scenario.specs.declared.value.HostDef.{HostDef}
use Rattle.dialogue_model.specs.declared.exchange.Hearing.{Hearing}
use Rattle.dialogue_model.specs.Exchange.{Exchange}
use Rattle.due_model.specs.Defs.{host_of}
use Rattle.dialogue_model.specs.Speaking.{speech_in_phase, speech_with_byte}
use Rattle.dialogue_model.specs.Planning.{plan_in_phase, plan_with_byte}
use Rattle.due_model.specs.RunSteps.{run_state, run_state_with, run_state_with_events, leaving_of, exchange_after}
use Rattle.due_model.specs.RunSteps.{served_after, negotiated_by_connection, progress_by_leaving, progress_after}
use Rattle.due_model.specs.Wishes.{IsStillBy, IsStill, is_entry_row, Wishes, wishes_of}
use Rattle.bus_rules.specs.bus_trace.specs.LineSet.{none}
use Rattle.dialogue_model.specs.story_model.specs.BusState.{quiet_bus}
use Rattle.dialogue_model.specs.story_model.specs.Story.{empty_story}
use Rattle.dialogue_model.specs.story_model.specs.TraceHistory.{aim_of}
use Rattle.bus_rules.specs.bus_trace.specs.Trace.{no_times}
use Rattle.dialogue_model.specs.bus_lines.specs.Handshakes.{no_handshakes}
use Rattle.due_model.specs.RunState.{bus_of}
use Rattle.due_model.specs.Wants.{want_time, callee}
use Rattle.dialogue_model.specs.Exchange.{struck_plan}
use Rattle.dialogue_model.specs.declared.exchange.Phase.{Phase}
use Rattle.dialogue_model.specs.declared.exchange.Phase.TheVariants as phases
use Rattle.dialogue_model.specs.declared.exchange.Messages.{Messages}
use Rattle.dialogue_model.specs.declared.exchange.Leaving.{Leaving}
use Rattle.due_model.specs.Sights.{hearing_of, leaving_at, byte_of_phase}

-- ---- the story

drives_on : (s : ScenarioValue) (b : Story) (l : Link) (kind : Kind) → is_fault kind ≡ false
    → story_after_fault b l kind ≡ b
drives_on s b l (Drives lines) e = refl
drives_on s b l (Fault bit) e = cc

goes_on : (s : ScenarioValue) (b : Story) (link : Option Link) (d : RowReading) (row : Row) → is_fault row.kind ≡ false
    → d.crosses ≡ false → story_in_connection s b link d row ≡ b
goes_on s b None d row e c = refl
goes_on s b (Some l) d row e c =
    ap (λ (x : Bool). if x then story_after_crossing s b l d else story_after_fault b l row.kind) c
    ∙ drives_on s b l row.kind e

-- On a free bus it may be an entry into arbitration, which changes the aim of its own device alone.
abbrev but_aims : Story → Story
but_aims b = record b { aims = [] }

free_on : (s : ScenarioValue) (b : Story) (d : RowReading) (row : Row)
    → falls d.change.before.sel d.change.after.sel ≡ false
    → story_on_free_bus s b d row ≡ (if is_arbitration_entry b d then story_with_aim s b row else b)
free_on s b d row f = ap (λ (x : Bool). if is_arbitration_entry b d then story_with_aim s b row
    else if x then story_after_calling s b b.bus_state.call else b) f

aims_only : (s : ScenarioValue) (b : Story) (row : Row) (entry : Bool)
    → but_aims (if entry then story_with_aim s b row else b) ≡ but_aims b
aims_only s b row true = refl
aims_only s b row false = refl

aim_else : (all : List (Option Item)) (at dev : ℕ) (item : Option Item) → (at == dev) ≡ false
    → aim_of (slice_set all at item) dev ≡ aim_of all dev
aim_else [] at dev item e = refl
aim_else (a ∷ all) zero zero item e = cc
aim_else (a ∷ all) zero (suc dev) item e = refl
aim_else (a ∷ all) (suc at) zero item e = refl
aim_else (a ∷ all) (suc at) (suc dev) item e = aim_else all at dev item (grind (arith, nat_tests))

own_aim : (s : ScenarioValue) (b : Story) (row : Row) (dev : ℕ) (entry : Bool) → (entry && row.dev == dev) ≡ false
    → aim_of (if entry then story_with_aim s b row else b).aims dev ≡ aim_of b.aims dev
own_aim s b row dev true e = aim_else b.aims row.dev dev _ e
own_aim s b row dev false e = refl

bus_on : {A : Type 0} (f : Story → A) (s : ScenarioValue) (b : Story) (n next : Option Connection) (d : RowReading)
    (row : Row) → next ≡ n → is_fault row.kind ≡ false → d.crosses ≡ false → f (story_on_free_bus s b d row) ≡ f b
    → f (story_on_bus s b n next d row) ≡ f b
bus_on f s b n next d row en e c free = ap (λ (x : Option Connection). f (story_on_bus s b n x d row)) en ∙ go n
  where
    go : (m : Option Connection) → f (story_on_bus s b m m d row) ≡ f b
    go None = free
    go (Some m) = ap f (goes_on s b b.link d row e c)

-- What an entry keeps, the row keeps.
story_on :
    {A : Type 0} (f : Story → A) (s : ScenarioValue) (k : RunState) (row : Row) (d : RowReading) → IsStillBy s k row d
    → f (if is_arbitration_entry k.story d then story_with_aim s k.story row else k.story) ≡ f k.story
    → f (story_by_change s k.story d row) ≡ f k.story
story_on f s k row d h e = ap (λ (x : Bool). f
    (if x then record k.story { link = None } else story_on_bus s k.story k.story.bus_state.connection d.next d row))
    h.reset
    ∙ bus_on f s k.story k.story.bus_state.connection d.next d row h.connection h.lines h.carries
    (ap f (free_on s k.story d row h.calling) ∙ e)

-- ---- the books

abbrev pub still_talk : Bool → Bool → Bool → Option HostDef → Hearing → Leaving → Exchange → Exchange
still_talk phase crosses fault h w l t = record {
  begun = phase || t.begun;
  speech = if phase then speech_in_phase h w t.speech else if crosses then speech_with_byte w t.speech else t.speech;
  plan =
      if phase then plan_in_phase w l t.plan else if crosses then plan_with_byte w t.plan
      else if fault && not w.change.before.io then struck_plan t.plan else t.plan;
}

-- What a row of no phase, byte or fault does.
by_flags : (phase crosses fault : Bool) → phase ≡ false → crosses ≡ false → fault ≡ false
    → (x : Option HostDef) (w : Hearing) (l : Leaving) (t : Exchange) → still_talk phase crosses fault x w l t ≡ t
by_flags true crosses fault e f g x w l t = cc
by_flags false true fault e f g x w l t = cc
by_flags false false true e f g x w l t = cc
by_flags false false false e f g x w l t = refl

exchange_is : (s : ScenarioValue) (k : RunState) (row : Row) (d : RowReading) (l : Leaving) → IsStillBy s k row d
    → exchange_after s k row d k.story.bus_state.connection d.next l ≡ k.exchange
exchange_is s k row d l h =
    ap (λ (x : Option Connection). exchange_after s k row d k.story.bus_state.connection x l) h.connection
    ∙ go k.story.bus_state.connection
  where
    go : (n : Option Connection) → exchange_after s k row d n n l ≡ k.exchange
    go None = refl
    go (Some n) = by_flags (changes_phase d.change) d.crosses (is_fault row.kind) h.phase h.carries h.lines
        (host_of s n.initiator) (hearing_of k row d) l k.exchange

served_on : (s : ScenarioValue) (k : RunState) (n next : Option Connection) → next ≡ n
    → served_after s k n next ≡ k.served
served_on s k n next e = ap (λ (x : Option Connection). served_after s k n x) e ∙ go n
  where
    go : (m : Option Connection) → served_after s k m m ≡ k.served
    go None = refl
    go (Some m) = refl

negotiated_on : (k : RunState) (n next : Option Connection) → next ≡ n
    → negotiated_by_connection k n next ≡ k.negotiated
negotiated_on k n next e = ap (λ (x : Option Connection). negotiated_by_connection k n x) e ∙ go n
  where
    go : (m : Option Connection) → negotiated_by_connection k m m ≡ k.negotiated
    go None = refl
    go (Some m) = refl

progress_on : (s : ScenarioValue) (k : RunState) (d : RowReading) (n next : Option Connection) (l : Leaving) → next ≡ n
    → changes_phase d.change ≡ false → progress_after s k d n next l ≡ k.progress
progress_on s k d n next l e p = ap (λ (x : Option Connection). progress_after s k d n x l) e ∙ go n
  where
    go : (m : Option Connection) → progress_after s k d m m l ≡ k.progress
    go None = refl
    go (Some m) =
        ap (λ (x : Bool). if x && k.exchange.begun then progress_by_leaving k (process_served s k) l else k.progress) p

agreed_on :
    (all : List PairAgreement) (n : Option Connection) (call : Option Call) (c : Change) (row : Row) (said : Spoken)
    → connection_after n call c row ≡ n → agreements_at_end all n c.after.bsy said ≡ all
agreed_on all None call c row said e = refl
agreed_on all (Some n) call c row said e = go c.after.bsy e
  where
    go : (stands : Bool) → (if stands then Some n else None) ≡ Some n
        → (if stands then all else agreements_after all n said) ≡ all
    go true z = refl
    go false z = cc

-- ---- all of them

row_events_on : (s : ScenarioValue) (k : RunState) (row : Row) (d : RowReading) (l : Leaving)
    → d.next ≡ connection_after k.story.bus_state.connection k.story.bus_state.call d.change row → IsStillBy s k row d
    → wishes_of (run_state_with s k row d [] k.array l) ≡ wishes_of k
row_events_on s k row d l e h =
    let b : but_aims (story_by_change s k.story d row) ≡ but_aims k.story = story_on but_aims s k row d h
    (aims_only s k.story row (is_arbitration_entry k.story d)) in
    let t : exchange_after s k row d k.story.bus_state.connection d.next l ≡ k.exchange = exchange_is s k row d l h in
    let v : served_after s k k.story.bus_state.connection d.next ≡ k.served = served_on
    s k k.story.bus_state.connection d.next h.connection in
    let m : negotiated_by_connection k k.story.bus_state.connection d.next ≡ k.negotiated = negotiated_on
    k k.story.bus_state.connection d.next h.connection in
    let p : progress_after s k d k.story.bus_state.connection d.next l ≡ k.progress = progress_on
    s k d k.story.bus_state.connection d.next l h.connection h.phase in
    let f : (if is_fault row.kind then drop 1 k.faults else k.faults) ≡ k.faults = ap
    (λ (x : Bool). if x then drop 1 k.faults else k.faults) h.lines in
    let a : (if d.change.after.rst then [] else agreements_at_end k.story.bus_state.agreed
    k.story.bus_state.connection d.change.after.bsy k.story.bus_state.dialogue.heard.now) ≡ k.story.bus_state.agreed =
    ap (λ (x : Bool). if x then [] else agreements_at_end k.story.bus_state.agreed
    k.story.bus_state.connection d.change.after.bsy k.story.bus_state.dialogue.heard.now) h.reset
    ∙ agreed_on k.story.bus_state.agreed k.story.bus_state.connection k.story.bus_state.call
    d.change row k.story.bus_state.dialogue.heard.now (sym e ∙ h.connection) in
    λ i. record {
      sent = (b i).sent;
      link = (b i).link;
      carried = (b i).carried;
      array = k.array;
      current_since = k.current_since;
      exchange = t i;
      served = v i;
      agreed = a i;
      negotiated = m i;
      progress = p i;
      faults = f i;
    }

still_on : (s : ScenarioValue) (k : RunState) (row : Row) (d : RowReading)
    → d.next ≡ connection_after k.story.bus_state.connection k.story.bus_state.call d.change row → IsStillBy s k row d
    → wishes_of (run_state_with_events s k row d (row_events_by s k.story d row)) ≡ wishes_of k
still_on s k row d e h = ap (λ (x : List Event). wishes_of (run_state_with_events s k row d x)) h.tells
    ∙ row_events_on s k row d (leaving_of s k k.story.bus_state.connection) e h

pub keeps_wishes : (s : ScenarioValue) (rows : List Row) (row : Row) → IsStill s rows row
    → wishes_of (run_state s (row ∷ rows)) ≡ wishes_of (run_state s rows)
keeps_wishes s rows row h =
    still_on s (run_state s rows) row (row_reading (run_state s rows).story.bus_state row) refl h

-- ---- aims

story_aims : (s : ScenarioValue) (rows : List Row) (row : Row) → IsStill s rows row
    → (run_state s (row ∷ rows)).story.aims
    ≡ (story_by_change s (run_state s rows).story (row_reading (run_state s rows).story.bus_state row) row).aims
story_aims s rows row h = ap (λ (x : List Event).
    (run_state_with_events s (run_state s rows) row (row_reading (run_state s rows).story.bus_state row) x).story.aims)
    h.tells

pub keeps_aims : (s : ScenarioValue) (rows : List Row) (row : Row) → IsStill s rows row
    → is_entry_row s rows row ≡ false → (run_state s (row ∷ rows)).story.aims ≡ (run_state s rows).story.aims
keeps_aims s rows row h e =
    let k : RunState = run_state s rows in
    let d : RowReading = row_reading k.story.bus_state row in
    story_aims s rows row h ∙ story_on (λ b. b.aims) s k row d h
    (ap (λ (x : Bool). (if x then story_with_aim s k.story row else k.story).aims) e)

keeps_aim : (s : ScenarioValue) (rows : List Row) (row : Row) → IsStill s rows row
    → (dev : ℕ) → (is_entry_row s rows row && row.dev == dev) ≡ false
    → aim_of (run_state s (row ∷ rows)).story.aims dev ≡ aim_of (run_state s rows).story.aims dev
keeps_aim s rows row h dev e =
    let k : RunState = run_state s rows in
    let d : RowReading = row_reading k.story.bus_state row in
    ap (λ (x : List (Option Item)). aim_of x dev) (story_aims s rows row h)
    ∙ story_on (λ b. aim_of b.aims dev) s k row d h (own_aim s k.story row dev (is_arbitration_entry k.story d) e)

-- ---- each wish by itself: it is that of what is kept here, and of the level of ATN

abbrev shadow : Wishes → Bool → RunState
shadow w attention = record {
  story = record empty_story {
    bus_state = record quiet_bus { bus = record none { atn = attention }; agreed = w.agreed };
    sent = w.sent;
    link = w.link;
    carried = w.carried;
  };
  array = w.array;
  current_since = w.current_since;
  last = 0;
  ages = no_times;
  owns = [];
  arbitration = None;
  handshakes = no_handshakes;
  exchange = w.exchange;
  served = w.served;
  negotiated = w.negotiated;
  progress = w.progress;
  faults = w.faults;
}

wanted_by : (s : ScenarioValue) (k : RunState) (dev : ℕ)
    → want_time s k dev ≡ want_time s (shadow (wishes_of k) false) dev
wanted_by s k dev = refl

pub keeps_wants : (s : ScenarioValue) (rows : List Row) (row : Row) → IsStill s rows row
    → (dev : ℕ) → want_time s (run_state s (row ∷ rows)) dev ≡ want_time s (run_state s rows) dev
keeps_wants s rows row h dev = wanted_by s (run_state s (row ∷ rows)) dev
    ∙ ap (λ (w : Wishes). want_time s (shadow w false) dev) (keeps_wishes s rows row h)
    ∙ sym (wanted_by s (run_state s rows) dev)

called_by : (s : ScenarioValue) (k : RunState) (dev : ℕ) (aim : Option Item)
    → callee s k dev aim ≡ callee s (shadow (wishes_of k) false) dev aim
called_by s k dev aim = refl

pub keeps_callee : (s : ScenarioValue) (rows : List Row) (row : Row) → IsStill s rows row
    → (dev : ℕ) → (is_entry_row s rows row && row.dev == dev) ≡ false
    → callee s (run_state s (row ∷ rows)) dev (aim_of (run_state s (row ∷ rows)).story.aims dev)
    ≡ callee s (run_state s rows) dev (aim_of (run_state s rows).story.aims dev)
keeps_callee s rows row h dev e =
    let w : wishes_of (run_state s (row ∷ rows)) ≡ wishes_of (run_state s rows) = keeps_wishes s rows row h in
    let a : aim_of (run_state s (row ∷ rows)).story.aims dev ≡ aim_of (run_state s rows).story.aims dev = keeps_aim
    s rows row h dev e in
    called_by s (run_state s (row ∷ rows)) dev (aim_of (run_state s (row ∷ rows)).story.aims dev)
    ∙ (λ i. callee s (shadow (w i) false) dev (a i))
    ∙ sym (called_by s (run_state s rows) dev (aim_of (run_state s rows).story.aims dev))

left_by : (s : ScenarioValue) (k : RunState) (dev : ℕ) (phase : Phase)
    → leaving_at s k dev phase ≡ leaving_at s (shadow (wishes_of k) (bus_of k).atn) dev phase
left_by s k dev phases.DataOut = refl
left_by s k dev phases.DataIn = refl
left_by s k dev phases.Command = refl
left_by s k dev phases.Status = refl
left_by s k dev phases.MessageOut = refl
left_by s k dev phases.MessageIn = refl

pub keeps_leaving : (s : ScenarioValue) (rows : List Row) (row : Row) → IsStill s rows row
    → (bus_of (run_state s (row ∷ rows))).atn ≡ (bus_of (run_state s rows)).atn → (dev : ℕ) (phase : Phase)
    → leaving_at s (run_state s (row ∷ rows)) dev phase ≡ leaving_at s (run_state s rows) dev phase
keeps_leaving s rows row h e dev phase =
    let w : wishes_of (run_state s (row ∷ rows)) ≡ wishes_of (run_state s rows) = keeps_wishes s rows row h in
    left_by s (run_state s (row ∷ rows)) dev phase ∙ (λ i. leaving_at s (shadow (w i) (e i)) dev phase)
    ∙ sym (left_by s (run_state s rows) dev phase)

given_by : (s : ScenarioValue) (k : RunState) (dev : ℕ) (phase : Phase) (messages : Messages) (more place : ℕ)
    → byte_of_phase s k dev phase messages more place
    ≡ byte_of_phase s (shadow (wishes_of k) false) dev phase messages more place
given_by s k dev phases.DataOut messages more place = refl
given_by s k dev phases.DataIn messages more place = refl
given_by s k dev phases.Command messages more place = refl
given_by s k dev phases.Status messages more place = refl
given_by s k dev phases.MessageOut messages more place = refl
given_by s k dev phases.MessageIn messages more place = refl

pub keeps_bytes : (s : ScenarioValue) (rows : List Row) (row : Row) → IsStill s rows row
    → (dev : ℕ) (phase : Phase) (messages : Messages) (more place : ℕ)
    → byte_of_phase s (run_state s (row ∷ rows)) dev phase messages more place
    ≡ byte_of_phase s (run_state s rows) dev phase messages more place
keeps_bytes s rows row h dev phase messages more place =
    given_by s (run_state s (row ∷ rows)) dev phase messages more place
    ∙ ap (λ (w : Wishes). byte_of_phase s (shadow w false) dev phase messages more place) (keeps_wishes s rows row h)
    ∙ sym (given_by s (run_state s rows) dev phase messages more place)
