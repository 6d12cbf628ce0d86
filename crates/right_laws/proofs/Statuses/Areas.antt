-- The status that a process has carried after a row of a connection: the same, unless a byte of STATUS or RESTORE
-- POINTERS crosses (6.4, 6.6.19).
use Rattle.right_laws.proofs
use proofs.Names.{ℕ, ◌≡◌, inl, inr, Bool, true, false, not, ◌&&◌, ◌%◌, ◌∙◌, List, [], ◌∷◌, ◌++◌, length, Option, Some}
use proofs.Names.{None, refl, sym, ap, if◌then◌else◌, is_some, nat_lt, slice_index_or, slice_set, nothing_below, Event}
use proofs.Names.{ProcId, LineSet, is_command, is_data, receiver_in, Kind, Drives, Fault, Row, Change, Connection}
use proofs.Names.{PARITY_ERROR, INITIATOR_DETECTED_ERROR, got_in, got_out, form_in, MsgIn, fresh_bytes, ScenarioValue}
use proofs.Names.{carried_id, ends_carried, check_carried, RowReading, whole_out, whole_in, message_out, message_in}
use proofs.Names.{Area, CarriedBytes, carried_of, with_restored_pointers, carried_after_byte, carried_after_fault}
use proofs.Names.{area_with, is_status_phase, carried_if, link_events, Item, process, abort, Link, Story, by_abort}
use proofs.Names.{by_reset, is_aborted, is_sense_stopped, marked_refused, marked_shown, story_with_end}
use proofs.Names.{story_after_event, story_after_events, story_with_carried, story_after_out, story_after_in}
use proofs.Names.{story_after_byte, carried_after_fault_if, story_after_fault, story_in_connection, one_message}
use proofs.Names.{bytes_of_messages, RunState, carried_here, run_state_after, IsRowIn, reading_in, byte_story, in_known}
use proofs.{Names.{story_row, HasOne, IsReady, IsSmall}, Ran.Lasting.{puts}}

-- ---- events

event_area : (s : ScenarioValue) (b : Story) (e : Event) (id : ProcId)
    → (carried_of (story_after_event s b e).carried id).status ≡ (carried_of b.carried id).status
event_area s b (Event.Accept p) id = refl
event_area s b (Event.Refuse p) id = puts (λ (c : CarriedBytes). c.status) b.carried
    (marked_refused (carried_of b.carried p)) id
    (λ z. ap (λ (x : ProcId). (carried_of b.carried x).status) (sym (carried_id b.carried p) ∙ z))
event_area s b (Event.Run p) id = puts (λ (c : CarriedBytes). c.status) b.carried
    (marked_shown (carried_of b.carried p)) id
    (λ z. ap (λ (x : ProcId). (carried_of b.carried x).status) (sym (carried_id b.carried p) ∙ z))
event_area s b (Event.Fail p code) id = puts (λ (c : CarriedBytes). c.status) b.carried
    (marked_shown (carried_of b.carried p)) id
    (λ z. ap (λ (x : ProcId). (carried_of b.carried x).status) (sym (carried_id b.carried p) ∙ z))
event_area s b (Event.End p status) id =
    ap (λ (x : List CarriedBytes). (carried_of x id).status) (check_carried (story_with_end b p _) p status)
event_area s b (Event.Lost p) id = refl
event_area s b (Event.Aborted i t u what) id = ap (λ (x : List CarriedBytes). (carried_of x id).status)
    (ends_carried (is_aborted i t u what) (is_sense_stopped i t u what) by_abort 1 s.commands b)
event_area s b (Event.Reset dev) id = ap (λ (x : List CarriedBytes). (carried_of x id).status)
    (ends_carried (λ c. true) (λ c. true) by_reset 1 s.commands b)

events_area : (s : ScenarioValue) (b : Story) (shown : List Event) (id : ProcId)
    → (carried_of (story_after_events s b shown).carried id).status ≡ (carried_of b.carried id).status
events_area s b [] id = refl
events_area s b (e ∷ shown) id = event_area s (story_after_events s b shown) e id ∙ events_area s b shown id

-- After a row of a connection.
row_area :
    (s : ScenarioValue) (k : RunState) (row : Row) (n : Connection) (c : Change) (now : Bool) (l : Link) (id : ProcId)
    → IsRowIn k row n c → is_some (receiver_in n c) ≡ now → k.story.link ≡ Some l
    → (carried_here (run_state_after s k row) id).status
    ≡ (carried_of (story_in_connection s k.story (Some l) (reading_in k.story.bus_state n c now) row).carried id).status
row_area s k row n c now l id r en link =
    ap (λ (b : Story). (carried_of b.carried id).status) (story_row s k row n c now r en)
    ∙ events_area s (story_in_connection s k.story k.story.link (reading_in k.story.bus_state n c now) row)
    (link_events s k.story k.story.link (reading_in k.story.bus_state n c now)) id
    ∙ ap (λ (x : Option Link).
    (carried_of (story_in_connection s k.story x (reading_in k.story.bus_state n c now) row).carried id).status) link

-- ---- no byte crosses

fault_area : (b : Story) (l : Link) (kind : Kind) (id : ProcId)
    → (carried_of (story_after_fault b l kind).carried id).status ≡ (carried_of b.carried id).status
fault_area b l (Drives lines) id = refl
fault_area b l (Fault bit) id = go l.item b.bus_state.crossed
  where
    faulted : (c : CarriedBytes) (z : LineSet)
        → ((carried_after_fault c z).status ≡ c.status) × ((carried_after_fault c z).id ≡ c.id)
    faulted c z = by (is_command z) (is_data z)
      where
        by :
            (q r : Bool) → ((if q then record c { struck = true; failure = Some PARITY_ERROR } else if r then record c {
              failure = Some (if z.io then INITIATOR_DETECTED_ERROR else PARITY_ERROR);
            } else c).status ≡ c.status)
            × ((if q then record c { struck = true; failure = Some PARITY_ERROR } else if r then record c {
              failure = Some (if z.io then INITIATOR_DETECTED_ERROR else PARITY_ERROR);
            } else c).id ≡ c.id)
        by true r = (refl, refl)
        by false true = (refl, refl)
        by false false = (refl, refl)

    go : (item : Option Item) (c : Option Change)
        → (carried_of (story_with_carried b (carried_after_fault_if (carried_if b item) c)).carried id).status
        ≡ (carried_of b.carried id).status
    go None c = refl
    go (Some (abort k)) c = refl
    go (Some (process p)) None = puts (λ (c : CarriedBytes). c.status) b.carried (carried_of b.carried p) id
        (λ z. ap (λ (x : ProcId). (carried_of b.carried x).status) (sym (carried_id b.carried p) ∙ z))
    go (Some (process p)) (Some c) =
        let w = faulted (carried_of b.carried p) c.before in
        puts (λ (c : CarriedBytes). c.status) b.carried (carried_after_fault (carried_of b.carried p) c.before) id
        (λ z. w.0 ∙ ap (λ (x : ProcId). (carried_of b.carried x).status) (sym (carried_id b.carried p) ∙ sym w.1 ∙ z))

pub area_stays : (s : ScenarioValue) (k : RunState) (row : Row) (n : Connection) (c : Change) (l : Link) (id : ProcId)
    → IsRowIn k row n c → is_some (receiver_in n c) ≡ false → k.story.link ≡ Some l
    → (carried_here (run_state_after s k row) id).status ≡ (carried_here k id).status
area_stays s k row n c l id r en link = row_area s k row n c false l id r en link ∙ fault_area k.story l row.kind id

-- ---- a byte of STATUS crosses

byte_area : (c : CarriedBytes) (b : LineSet) (byte : ℕ) → is_command b ≡ false → is_data b ≡ false
    → is_status_phase b ≡ true → (carried_after_byte c b byte).status ≡ area_with c.status byte
byte_area c b byte e f g =
    λ i. (if e i then record c { command = area_with c.command byte; block = c.block ++ byte ∷ [] }
    else if f i then record c { moved = area_with c.moved byte }
    else if g i then record c { status = area_with c.status byte } else c).status

pub none_out : (k : RunState) (c : Change) → c.before.msg ≡ false → message_out k.story.bus_state.dialogue c true ≡ None
none_out k c e = λ i. if e i && c.before.cd && not c.before.io
    then whole_out (got_out (fresh_bytes k.story.bus_state.dialogue ++ c.after.data_bits % 256 ∷ [])) else None

pub none_in : (k : RunState) (c : Change) → c.before.msg ≡ false → message_in k.story.bus_state.dialogue c true ≡ None
none_in k c e = λ i. if e i && c.before.cd && c.before.io
    then whole_in (got_in (k.story.bus_state.dialogue.half ++ c.after.data_bits % 256 ∷ [])) else None

ready_one : (c : CarriedBytes) (byte : ℕ) → IsReady c → (status : ℕ) × ((area_with c.status byte).bytes ≡ status ∷ [])
ready_one c byte (inl e) = (
  byte,
  (λ i. if nat_lt c.status.active (length (e i)) then slice_set (e i) c.status.active byte else e i ++ byte ∷ [])
      ∙ ap (λ (q : Bool). if q then slice_set [] c.status.active byte else byte ∷ []) (nothing_below c.status.active),
)
ready_one c byte (inr w) =
    (byte, λ i. if nat_lt (w.1 i) (length (w.0.1 i)) then slice_set (w.0.1 i) (w.1 i) byte else w.0.1 i ++ byte ∷ [])

pub status_crosses :
    (s : ScenarioValue) (k : RunState) (row : Row) (n : Connection) (c : Change) (l : Link) (id : ProcId)
    → IsRowIn k row n c → is_some (receiver_in n c) ≡ true → k.story.link ≡ Some l → l.item ≡ Some (process id)
    → c.before.msg ≡ false → is_command c.before ≡ false → is_data c.before ≡ false → is_status_phase c.before ≡ true
    → IsReady (carried_here k id) → HasOne (carried_here (run_state_after s k row) id)
status_crosses s k row n c l id r en link item msg e f g ready =
    let byte : ℕ = c.after.data_bits % 256 in
    let d : RowReading = reading_in k.story.bus_state n c true in
    let one = ready_one (carried_here k id) byte ready in (
      one.0,
      ap (λ (a : Area). a.bytes) (row_area s k row n c true l id r en link ∙ (λ i. (carried_of
          (if is_some (none_out k c msg i) then story_after_out k.story l (none_out k c msg i) else if is_some (none_in
          k c msg i) then story_after_in s k.story l (none_in k c msg i) else story_after_byte k.story l d).carried
          id).status) ∙ ap (λ (x : CarriedBytes). x.status) (byte_story k.story l d id item msg)
          ∙ byte_area (carried_here k id) c.before byte e f g)
          ∙ one.1,
    )

-- ---- RESTORE POINTERS crosses

pub restore_whole : whole_in (got_in (slice_index_or (bytes_of_messages (one_message MsgIn.RestorePointers)) 0 0 ∷ []))
    ≡ Some MsgIn.RestorePointers
unfolding form_in
restore_whole = refl

pub restore_crosses :
    (s : ScenarioValue) (k : RunState) (row : Row) (n : Connection) (c : Change) (l : Link) (id : ProcId)
    → IsRowIn k row n c → is_some (receiver_in n c) ≡ true → k.story.link ≡ Some l
    → l.item ≡ Some (process id) → message_out k.story.bus_state.dialogue c true ≡ None
    → message_in k.story.bus_state.dialogue c true ≡ Some MsgIn.RestorePointers → (carried_here k id).status.saved ≡ 0
    → IsSmall (carried_here k id) → IsReady (carried_here (run_state_after s k row) id)
restore_crosses s k row n c l id r en link item out into saved small = go small
  where
    area : (carried_here (run_state_after s k row) id).status ≡ (with_restored_pointers (carried_here k id)).status
    area = row_area s k row n c true l id r en link
        ∙ (λ i. (carried_of (if is_some (out i) then story_after_out k.story l (out i)
        else if is_some (into i) then story_after_in s k.story l (into i)
        else story_after_byte k.story l (reading_in k.story.bus_state n c true)).carried id).status)
        ∙ ap (λ (x : CarriedBytes). x.status) (in_known s k.story l MsgIn.RestorePointers id item item)

    go : IsSmall (carried_here k id) → IsReady (carried_here (run_state_after s k row) id)
    go (inl e) = inl (ap (λ (a : Area). a.bytes) area ∙ e)
    go (inr one) = inr ((one.0, ap (λ (a : Area). a.bytes) area ∙ one.1), ap (λ (a : Area). a.active) area ∙ saved)
