-- What a row of a connection makes of what is sent and over, and of its link.
use Rattle.story_laws.proofs
use proofs.Names.{inl, inr, ℕ, ◌≡◌, ◌⊎◌, Bool, true, false, not, ◌&&◌, ◌∙◌, List, [], ◌∷◌, Option, Some, None, refl}
use proofs.Names.{sym, ap, subst, list_any, if◌then◌else◌, is_some, slice_index, ⊤, wrong, wrong', Event, ProcId, rises}
use proofs.Names.{LineSet, changes_phase, is_command, receiver_in, Row, Change, Connection, MsgIn, MsgOut}
use proofs.Names.{ScenarioValue, array_after, carried_id, byte_link, fault_link, out_link, carried_link, RowReading}
use proofs.Names.{row_reading, message_out, message_in, CarriedBytes, carried_of, is_whole_block, is_status_phase}
use proofs.Names.{carried_if, queue_events, is_refuse, status_event, status_events, phase_events, is_completion}
use proofs.Names.{end_events, connection_events, link_events, row_events_by, Item, process, has_item, Link, last_out}
use proofs.Names.{last_in, link_after_name, Story, story_after_event, story_after_events, story_in_connection}
use proofs.Names.{story_on_bus, story_by_change, RunState, run_state_after, reading_is, link_after, IsRowIn, reading_in}
use proofs.{Names.{StoryWay, story_way}, Items.Over.{Grows, grows_same, grows_on, events_grow, ends_over}}
use proofs.Items.Stays.{inside_sent}
use Rattle.row_laws.proofs.Common.StoryWays as ways

-- ---- events that end nothing

abbrev pub is_quiet_event : Event → Bool
is_quiet_event (Event.Accept id) = true
is_quiet_event (Event.Refuse id) = true
is_quiet_event (Event.Run id) = true
is_quiet_event (Event.Fail id code) = true
is_quiet_event _ = false

abbrev pub AllQuiet : List Event → Type 0
AllQuiet [] = ⊤
AllQuiet (e ∷ shown) = (is_quiet_event e ≡ true) × AllQuiet shown

pub quiet_event : (s : ScenarioValue) (b : Story) (event : Event) → is_quiet_event event ≡ true
    → (story_after_event s b event).sent ≡ b.sent
quiet_event s b (Event.End id status) e = wrong' e
quiet_event s b (Event.Lost id) e = wrong' e
quiet_event s b (Event.Aborted i t n what) e = wrong' e
quiet_event s b (Event.Reset dev) e = wrong' e
quiet_event s b _ e = refl

pub quiet_events : (s : ScenarioValue) (b : Story) (shown : List Event) → AllQuiet shown
    → (story_after_events s b shown).sent ≡ b.sent
quiet_events s b [] h = refl
quiet_events s b (event ∷ shown) h = quiet_event s (story_after_events s b shown) event h.0 ∙ quiet_events s b shown h.1

pub queue_quiet : (s : ScenarioValue) (b : Story) (c : Option CarriedBytes) (before : LineSet)
    → AllQuiet (queue_events s b c before)
queue_quiet s b None before = tt
queue_quiet s b (Some x) before =
    go (is_command before && is_whole_block x) (is_some (array_after s (Event.Accept x.id ∷ b.history)))
  where
    go : (q r : Bool) → AllQuiet (if q then (if r then Event.Accept x.id else Event.Refuse x.id) ∷ [] else [])
    go true true = (refl, tt)
    go true false = (refl, tt)
    go false r = tt

pub status_quiet : (c : Option CarriedBytes) (after : LineSet) (arrived : List Event) → AllQuiet arrived
    → AllQuiet (status_events c after arrived)
status_quiet None after arrived h = h
status_quiet (Some x) after arrived h =
    go (is_status_phase after && not x.shown && not x.refused && not (list_any (λ e. is_refuse e) arrived)) x.failure
  where
    go : (q : Bool) (f : Option ℕ) → AllQuiet (if q then status_event x.id f ∷ arrived else arrived)
    go true None = (refl, h)
    go true (Some code) = (refl, h)
    go false f = h

pub phase_quiet : (s : ScenarioValue) (b : Story) (c : Option CarriedBytes) (g : Change)
    → AllQuiet (phase_events s b c g)
phase_quiet s b c g = status_quiet c g.after (queue_events s b c g.before) (queue_quiet s b c g.before)

-- ---- what is over after the row

pub row_shows : (s : ScenarioValue) (k : RunState) (row : Row) (n : Connection) (c : Change) (now : Bool) (l : Link)
    → IsRowIn k row n c → is_some (receiver_in n c) ≡ now → k.story.link ≡ Some l
    → row_events_by s k.story (row_reading k.story.bus_state row) row
    ≡ connection_events s k.story l (reading_in k.story.bus_state n c now)
row_shows s k row n c now l r en el =
    ap (λ (d : RowReading). row_events_by s k.story d row) (reading_is k row n c now r en)
    ∙ ap (λ (q : Bool). if q then (if rises c.own.rst c.next.rst then Event.Reset row.dev ∷ [] else [])
    else link_events s k.story k.story.link (reading_in k.story.bus_state n c now)) r.calm
    ∙ ap (λ (x : Option Link). link_events s k.story x (reading_in k.story.bus_state n c now)) el

pub row_sent : (s : ScenarioValue) (k : RunState) (row : Row) (n : Connection) (c : Change) (now : Bool) (l : Link)
    → IsRowIn k row n c → is_some (receiver_in n c) ≡ now → k.story.link ≡ Some l
    → (story_by_change s k.story (row_reading k.story.bus_state row) row).sent ≡ k.story.sent
row_sent s k row n c now l r en el =
    let d = reading_in k.story.bus_state n c now in
    ap (λ (x : RowReading). (story_by_change s k.story x row).sent) (reading_is k row n c now r en)
    ∙ ap (λ (q : Bool). (if q then record k.story { link = None }
    else story_on_bus s k.story k.story.bus_state.connection (Some n) d row).sent) r.calm
    ∙ ap (λ (x : Option Connection). (story_on_bus s k.story x (Some n) d row).sent) r.connection_is
    ∙ ap (λ (x : Option Link). (story_in_connection s k.story x d row).sent) el ∙ inside_sent s k.story l d row

-- The same where the row ends no command; and the command of the link is over with its completion.
pub record OverAfter (s : ScenarioValue) (k : RunState) (row : Row) (c : Change) (l : Link) : Type 0 where
  pub same : (changes_phase c ≡ true) ⊎ (is_completion l c ≡ false)
      → (run_state_after s k row).story.sent ≡ k.story.sent
  pub ended : changes_phase c ≡ false → is_completion l c ≡ true → (id : ProcId) → l.item ≡ Some (process id)
      → has_item (run_state_after s k row).story.sent.over (process id) ≡ true
  pub grows : Grows k.story.sent (run_state_after s k row).story.sent

ends_one : (s : ScenarioValue) (b : Story) (x : Story) (item : Option Item) (id : ProcId) → item ≡ Some (process id)
    → has_item (story_after_events s x (end_events (carried_if b item))).sent.over (process id) ≡ true
ends_one s b x item id e =
    ap (λ (i : Option Item). has_item (story_after_events s x (end_events (carried_if b i))).sent.over (process id)) e
    ∙ ap (λ (d : ProcId). has_item (story_after_events s x (end_events (carried_if b (Some (process id))))).sent.over
    (process d)) (sym (carried_id b.carried id))
    ∙ ends_over s x (carried_of b.carried id).id (slice_index (carried_of b.carried id).status.bytes 0)

pub over_after : (s : ScenarioValue) (k : RunState) (row : Row) (n : Connection) (c : Change) (now : Bool) (l : Link)
    → IsRowIn k row n c → is_some (receiver_in n c) ≡ now → k.story.link ≡ Some l → OverAfter s k row c l
over_after s k row n c now l r en el = record { same = same; ended = ended; grows = grows }
  where
    d : RowReading
    d = row_reading k.story.bus_state row

    changed : Story
    changed = story_by_change s k.story d row

    same_sent : changed.sent ≡ k.story.sent
    same_sent = row_sent s k row n c now l r en el

    shown : row_events_by s k.story d row
        ≡ (if changes_phase c then phase_events s k.story (carried_if k.story l.item) c
        else if is_completion l c then end_events (carried_if k.story l.item) else [])
    shown = row_shows s k row n c now l r en el

    grows : Grows k.story.sent (run_state_after s k row).story.sent
    grows = grows_on k.story.sent changed.sent (run_state_after s k row).story.sent
        (grows_same k.story.sent changed.sent same_sent) (events_grow s changed (row_events_by s k.story d row))

    same : (changes_phase c ≡ true) ⊎ (is_completion l c ≡ false) → (run_state_after s k row).story.sent ≡ k.story.sent
    same w = ap (λ (x : List Event). (story_after_events s changed x).sent) shown
        ∙ go (changes_phase c) (is_completion l c) w ∙ same_sent
      where
        go : (q t : Bool) → (q ≡ true) ⊎ (t ≡ false)
            → (story_after_events s changed (if q then phase_events s k.story (carried_if k.story l.item) c
            else if t then end_events (carried_if k.story l.item) else [])).sent ≡ changed.sent
        go true t z = quiet_events s changed (phase_events s k.story (carried_if k.story l.item) c)
            (phase_quiet s k.story (carried_if k.story l.item) c)
        go false true (inl z) = wrong' z
        go false true (inr z) = wrong z
        go false false z = refl

    ended : changes_phase c ≡ false → is_completion l c ≡ true → (id : ProcId) → l.item ≡ Some (process id)
        → has_item (run_state_after s k row).story.sent.over (process id) ≡ true
    ended f g id e = ap (λ (x : List Event). has_item (story_after_events s changed x).sent.over (process id))
        (shown ∙ (λ i. if f i then phase_events s k.story (carried_if k.story l.item) c
        else if g i then end_events (carried_if k.story l.item) else []))
        ∙ ends_one s k.story changed l.item id e

-- ---- the link after the row

abbrev pub heard_link : ScenarioValue → Story → Link → MsgIn → Link
heard_link s b l m =
    record (link_after_name b.sent s.commands l m) { last = last_in m; before = l.last; undo = carried_if b l.item }

pub data LinkAfter (s : ScenarioValue) (b : Story) (l : Link) (o : Option MsgOut) (t : Option MsgIn)
    (link : Option Link) : Type 0 where
  says : (m : MsgOut) → o ≡ Some m → link ≡ Some (record l { last = last_out m l }) → LinkAfter s b l o t link
  hears : (m : MsgIn) → o ≡ None → t ≡ Some m → link ≡ Some (heard_link s b l m) → LinkAfter s b l o t link
  stays : o ≡ None → t ≡ None → link ≡ Some l → LinkAfter s b l o t link

crossed_link : (s : ScenarioValue) (b : Story) (l : Link) (d : RowReading) (row : Row) → b.link ≡ Some l
    → d.crosses ≡ true → LinkAfter s b l d.out d.into (story_in_connection s b (Some l) d row).link
crossed_link s b l d row el e = go (story_way s b l d row)
  where
    go : {after : Story} → StoryWay s b l d row after → LinkAfter s b l d.out d.into after.link
    go (ways.says m _ f) = says m f (out_link b l m)
    go (ways.hears m _ f g) = hears m f g (carried_link _ _)
    go (ways.carries _ f g) = stays f g (byte_link b l d ∙ el)
    go (ways.stays z) = wrong (sym e ∙ z)

pub link_crossed : (s : ScenarioValue) (k : RunState) (row : Row) (n : Connection) (c : Change) (l : Link)
    → IsRowIn k row n c → is_some (receiver_in n c) ≡ true → k.story.link ≡ Some l
    → LinkAfter s k.story l (message_out k.story.bus_state.dialogue c true)
    (message_in k.story.bus_state.dialogue c true) (run_state_after s k row).story.link
link_crossed s k row n c l r en el = subst
    (λ (x : Option Link). LinkAfter s k.story l (message_out k.story.bus_state.dialogue c true)
    (message_in k.story.bus_state.dialogue c true) x) (sym (link_after s k row n c true r en
    ∙ ap (λ (x : Option Link). (story_in_connection s k.story x (reading_in k.story.bus_state n c true) row).link) el))
    (crossed_link s k.story l (reading_in k.story.bus_state n c true) row el refl)

pub link_still : (s : ScenarioValue) (k : RunState) (row : Row) (n : Connection) (c : Change) (l : Link)
    → IsRowIn k row n c → is_some (receiver_in n c) ≡ false → k.story.link ≡ Some l
    → (run_state_after s k row).story.link ≡ Some l
link_still s k row n c l r en el = link_after s k row n c false r en
    ∙ ap (λ (x : Option Link). (story_in_connection s k.story x (reading_in k.story.bus_state n c false) row).link) el
    ∙ fault_link k.story l row.kind ∙ el
