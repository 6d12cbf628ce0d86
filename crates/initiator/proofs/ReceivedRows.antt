-- The bytes of data that came to an initiator of its own processes go on row by row.
use Rattle.std.proofs.Common.{ℕ, suc, zero, ◌≡◌, ◌≢◌, ◌+◌, ◌<◌, ◌≤◌, Bool, true, false, List, [], ◌∷◌, ◌++◌, ◌∙◌, refl}
use Rattle.std.proofs.Common.{sym, ap, subst, arith, length, take, set, Option, Some, None}
use Rattle.std.specs.Prelude.{if◌then◌else◌, min, not, ◌&&◌, ◌==◌, ◌%◌, ⊤, is_some, nat_lt, slice_set}
use Rattle.std.proofs.lemmas.Bool.{eq-eqb, eqb-true, eqb-false, lt-ltb, ltb-true, and_right, ltb-false, le-ltb}
use Rattle.std.proofs.lemmas.Bool.Decides.{nat_tests}
use Rattle.std.proofs.lemmas.List.{get_or-set_same, get_or-set_other, length-set, length-append, length-take, take_all}
use Rattle.std.proofs.lemmas.List.{take-set-le, take-append-le}
use Rattle.std.proofs.Math.Seq.{take-set-lt}
use Rattle.bus_base.specs.declared.ProcId.{ProcId}
use Rattle.bus_trace.specs.Phases.{is_data}
use Rattle.bus_trace.specs.Terms.{connection}
use Rattle.bus_trace.specs.declared.Row.{Row}
use Rattle.bus_trace.specs.declared.connection.Connection.{Connection}
use Rattle.cdb_codec.specs.Cdb.{command_of}
use Rattle.cdb_codec.specs.declared.replies.TheConstants.{SENSE_LEN}
use Rattle.scenario.specs.Needs.{need_of, is_write}
use Rattle.scenario.specs.declared.value.CmdDef.{CmdDef}
use Rattle.scenario.specs.Value.{ScenarioValue}
use Rattle.due_model.specs.array_model.specs.Processes.{command_at, same_bool, same_id}
use Rattle.story_model.specs.BusState.{row_reading}
use Rattle.story_model.specs.CarriedBytes.{Area, CarriedBytes, bytes_with, carried_of}
use Rattle.story_model.specs.Items.{Item, process, abort, is_of_host}
use Rattle.story_model.specs.Links.{Link}
use Rattle.due_model.specs.dialogue_model.specs.Hearing.{hearing}
use Rattle.due_model.specs.dialogue_model.specs.declared.exchange.Hearing.{Hearing}
use Rattle.due_model.specs.Plain.{IsPlain, AreOfDevices}
use Rattle.due_model.specs.RunState.{item_of}
use Rattle.due_model.specs.RunSteps.{run_state}
use Rattle.due_model.specs.Sights.{hearing_of}
use Rattle.due_model.specs.Telling.{id_of}
use Rattle.initiator_books.specs.OwnLinks.{own_link}
use Rattle.initiator.specs.Received.{BufferValue, empty_buffer, buffer_with, BufferPairValue, no_buffers, half_of}
use Rattle.initiator.specs.Received.{pair_with, pair_at, buffer_at, received_with, data_room, room_of, buffers_if_own}
use Rattle.initiator.specs.Received.{buffers_of_commands, nothing_received, brings_data, received_after, moved_of}
use Rattle.initiator.specs.Received.{IsBufferOf, AreReceived, undone_by, has_bytes_of, undoes_no_byte}
use Rattle.initiator.specs.Transfers.{active_of}
use Rattle.initiator_books.specs.Wishes.{IsItemIf}
use Rattle.initiator.proofs.MovedBytes.{IsPlaced, brought, brings, reading_of, placed_are, row_moves}
use Rattle.initiator.proofs.OwnedLinks.{IsOwnedIf, IsOwnedOn, links_are}
use Rattle.bus_base.proofs.Tests.{and_first, length_more}
use Rattle.initiator_books.proofs.EndingRows.{one_host}
use Rattle.initiator_books.proofs.StoryEnds.{no_first}
use Rattle.due_model.specs.array_model.proofs.SeatLookups.{same_id_is}
use Rattle.initiator_books.proofs.HeldSteps.{in_range}

-- ---- a buffer

taken : List ℕ → ℕ → BufferValue
taken bytes room = record { bytes = take room bytes; room = room }

in_buffer : (bytes : List ℕ) (room at byte place cap : ℕ) → at ≤ length bytes → room ≤ cap → place ≡ min at cap
    → buffer_with (record { bytes = take room bytes; room = room }) place byte
    ≡ record { bytes = take room (bytes_with bytes at byte); room = room }
in_buffer bytes room at byte place cap within small e = go (nat_lt at room) refl (nat_lt at (length bytes)) refl
  where
    long : length (take room bytes) ≡ min room (length bytes)
    long = length-take room bytes

    go : (p : Bool) → nat_lt at room ≡ p → (q : Bool) → nat_lt at (length bytes) ≡ q
        → (if nat_lt place (length (take room bytes)) then record {
          bytes = slice_set (take room bytes) place byte;
          room = room;
        } else if place == length (take room bytes) && nat_lt place room then record {
          bytes = take room bytes ++ byte ∷ [];
          room = room;
        } else record { bytes = take room bytes; room = room }) ≡ (let x : BufferValue = record {
          bytes = take room (if q then slice_set bytes at byte else bytes ++ byte ∷ []);
          room = room;
        } in x)
    go true f true g =
        let fits : at < room = ltb-true at room f in
        let below : at < length bytes = ltb-true at (length bytes) g in
        let here : place ≡ at = omega (arith, e, small, fits) in
        let l = long in
        let t : nat_lt place (length (take room bytes)) ≡ true = lt-ltb place
        (length (take room bytes)) (omega (arith, here, l, fits, below)) in
        (λ i. if t i then record { bytes = slice_set (take room bytes) place byte; room = room }
        else if place == length (take room bytes) && nat_lt place room then record {
          bytes = take room bytes ++ byte ∷ [];
          room = room;
        } else record { bytes = take room bytes; room = room })
        ∙ (λ i. record { bytes = slice_set (take room bytes) (here i) byte; room = room })
        ∙ (λ i. record { bytes = sym (take-set-lt room bytes at byte fits) i; room = room })
    go true f false g =
        let fits : at < room = ltb-true at room f in
        let end : length bytes ≤ at = ltb-false at (length bytes) g in
        let here : place ≡ at = omega (arith, e, small, fits) in
        let l = long in
        let whole : length bytes ≤ room = omega (arith, within, end, fits) in
        let more = length_more bytes byte in
        let t : nat_lt place (length (take room bytes)) ≡ false = le-ltb place
        (length (take room bytes)) (omega (arith, here, l, end)) in
        let u : (place == length (take room bytes)) ≡ true = eq-eqb place
        (length (take room bytes)) (omega (arith, here, l, within, end, fits)) in
        let w : nat_lt place room ≡ true = lt-ltb place room (omega (arith, here, fits)) in
        (λ i. if t i then record { bytes = slice_set (take room bytes) place byte; room = room }
        else if u i && w i then record { bytes = take room bytes ++ byte ∷ []; room = room }
        else record { bytes = take room bytes; room = room })
        ∙ (λ i. record { bytes = take_all room bytes whole i ++ byte ∷ []; room = room }) ∙ (λ i. record {
          bytes = sym (take_all room (bytes ++ byte ∷ []) (omega (arith, more, within, end, fits))) i;
          room = room;
        })
    go false f q g =
        let past : room ≤ at = ltb-false at room f in
        let l = long in
        let t : nat_lt place (length (take room bytes)) ≡ false = le-ltb place
        (length (take room bytes)) (omega (arith, e, l, past, small)) in
        let u : (place == length (take room bytes) && nat_lt place room) ≡ false = and_right
        (place == length (take room bytes)) (nat_lt place room) (le-ltb place room (omega (arith, e, past, small))) in
        (λ i. if t i then record { bytes = slice_set (take room bytes) place byte; room = room }
        else if u i then record { bytes = take room bytes ++ byte ∷ []; room = room }
        else record { bytes = take room bytes; room = room })
        ∙ (λ i. record { bytes = sym (outside q past) i; room = room })
      where
        outside : (q : Bool) → room ≤ at
            → take room (if q then slice_set bytes at byte else bytes ++ byte ∷ []) ≡ take room bytes
        outside true past = take-set-le room bytes at byte past
        outside false past = take-append-le room bytes (byte ∷ []) (omega (arith, past, within))

-- A byte in the place of one that came before, as the buffer keeps them.
pub kept_byte : (items : List ℕ) (count place byte : ℕ) → place < count → count ≤ length items
    → (let x : BufferValue = record {
      bytes = take count (set items place byte);
      room = length (set items place byte);
    } in x) ≡ buffer_with (record { bytes = take count items; room = length items }) place byte
kept_byte items count place byte lt most =
    let long : length (take count items) ≡ min count (length items) = length-take count items in
    let t : nat_lt place (length (take count items)) ≡ true = lt-ltb place
    (length (take count items)) (omega (arith, long, lt, most)) in
    (λ i. record { bytes = take-set-lt count items place byte lt i; room = length-set items place byte i })
    ∙ (λ i. if sym t i then record { bytes = slice_set (take count items) place byte; room = length items }
    else if place == length (take count items) && nat_lt place (length items) then record {
      bytes = take count items ++ byte ∷ [];
      room = length items;
    } else record { bytes = take count items; room = length items })

buffer_goes_on : (a b : Area) (room place byte cap : ℕ) (v : BufferValue) → IsPlaced a → room ≤ cap
    → place ≡ min a.active cap → b.bytes ≡ bytes_with a.bytes a.active byte → IsBufferOf a room v
    → IsBufferOf b room (buffer_with v place byte)
buffer_goes_on a b room place byte cap v placed small at same h =
    let whole : v ≡ record { bytes = take room a.bytes; room = room } = λ i. record {
      bytes = h.bytes_are i;
      room = h.room_is i;
    } in
    let e : buffer_with v place byte ≡ record { bytes = take room (bytes_with a.bytes a.active byte); room = room } =
    (λ i. buffer_with (whole i) place byte) ∙ in_buffer a.bytes room a.active byte place cap placed.active small at in
    record { room_is = λ i. (e i).room; bytes_are = (λ i. (e i).bytes) ∙ (λ i. take room (sym same i)) }

-- ---- the buffers of all

pair_put : (v : List BufferPairValue) (k n : ℕ) (x : BufferPairValue) → n < length v
    → pair_at (set v k x) n ≡ (if k == n then x else pair_at v n)
pair_put v k n x l = go (k == n) refl
  where
    go : (y : Bool) → (k == n) ≡ y → pair_at (set v k x) n ≡ (if y then x else pair_at v n)
    go true e =
        let here : k ≡ n = eqb-true k n e in
        let within : k < length v = (let z = here in omega arith) in
        (λ i. pair_at (set v k x) (sym here i)) ∙ get_or-set_same v k x no_buffers within
    go false e = let other : n ≢ k = (λ z. eqb-false k n e (sym z)) in get_or-set_other v k n x no_buffers other

half_put : (p : BufferPairValue) (x y : Bool) (place byte : ℕ) → half_of (pair_with p x place byte) y
    ≡ (if same_bool x y then buffer_with (half_of p y) place byte else half_of p y)
half_put p true true place byte = refl
half_put p true false place byte = refl
half_put p false true place byte = refl
half_put p false false place byte = refl

buffer_put : (v : List BufferPairValue) (p id : ProcId) (place byte : ℕ) → id.command < length v
    → buffer_at (received_with v p place byte) id
    ≡ (if same_id p id then buffer_with (buffer_at v id) place byte else buffer_at v id)
buffer_put v p id place byte l =
    (λ i. half_of (pair_put v p.command id.command (pair_with (pair_at v p.command) p.sense place byte) l i) id.sense)
    ∙ go (p.command == id.command) refl
  where
    go : (q : Bool) → (p.command == id.command) ≡ q
        → half_of (if q then pair_with (pair_at v p.command) p.sense place byte else pair_at v id.command) id.sense
        ≡ (if q && same_bool p.sense id.sense then buffer_with (buffer_at v id) place byte else buffer_at v id)
    go true e = (λ i. half_of (pair_with (pair_at v (eqb-true p.command id.command e i)) p.sense place byte) id.sense)
        ∙ half_put (pair_at v id.command) p.sense id.sense place byte
    go false e = refl

-- ---- one row more

abbrev IsOwnIf : ScenarioValue → ℕ → Option ProcId → Type 0
IsOwnIf s dev None = ⊤
IsOwnIf s dev (Some p) = is_of_host (command_at s.commands p.command) dev ≡ true

own_item : (s : ScenarioValue) (dev : ℕ) (item : Option Item) → IsItemIf s dev item → IsOwnIf s dev (id_of item)
own_item s dev None h = tt
own_item s dev (Some (process id)) h = h
own_item s dev (Some (abort n)) h = tt

own_linked : (s : ScenarioValue) (dev : ℕ) (l : Option Link) → IsOwnedIf s dev l → IsOwnIf s dev (id_of (item_of l))
own_linked s dev None h = tt
own_linked s dev (Some l) h = own_item s dev l.item h.item

-- What a byte of data makes of the buffers.
abbrev put_if : List BufferPairValue → Option ProcId → ℕ → ℕ → List BufferPairValue
put_if v None place byte = v
put_if v (Some p) place byte = received_with v p place byte

-- The byte comes to this process in a connection of this initiator.
byte_goes_on : (s : ScenarioValue) (dev initiator : ℕ) (all : List CarriedBytes) (id : ProcId)
    (l known : Option ProcId) (b : Area) (v : List BufferPairValue) (room place byte cap : ℕ) → IsOwnIf s initiator l
    → is_of_host (command_at s.commands id.command) dev ≡ true → known ≡ (if initiator == dev then l else None)
    → ((p : ProcId) → known ≡ Some p → place ≡ min (carried_of all p).moved.active cap)
    → IsPlaced (carried_of all id).moved → room ≤ cap → id.command < length v
    → b.bytes ≡ brought l id byte (carried_of all id).moved → IsBufferOf (carried_of all id).moved room (buffer_at v id)
    → IsBufferOf b room (buffer_at (put_if v known place byte) id)
byte_goes_on s dev initiator all id None known b v room place byte cap owned its is at placed small l same h = subst
    (λ (z : Option ProcId). IsBufferOf b room (buffer_at (put_if v z place byte) id))
    (sym (is ∙ none (initiator == dev)))
    (record { room_is = h.room_is; bytes_are = h.bytes_are ∙ (λ i. take room (sym same i)) })
  where
    none : (q : Bool) → (if q then None else None) ≡ (let x : Option ProcId = None in x)
    none true = refl
    none false = refl
byte_goes_on s dev initiator all id (Some p) known b v room place byte cap owned its is at placed small l same h =
    go (initiator == dev) refl is
  where
    stays : b.bytes ≡ (carried_of all id).moved.bytes → IsBufferOf b room (buffer_at v id)
    stays e = record { room_is = h.room_is; bytes_are = h.bytes_are ∙ (λ i. take room (sym e i)) }

    comes : known ≡ Some p → (r : Bool) → same_id p id ≡ r
        → b.bytes ≡ (if r then bytes_with (carried_of all id).moved.bytes (carried_of all id).moved.active byte
        else (carried_of all id).moved.bytes)
        → IsBufferOf b room (if r then buffer_with (buffer_at v id) place byte else buffer_at v id)
    comes k true e z =
        buffer_goes_on (carried_of all id).moved b room place byte cap (buffer_at v id) placed small
        (at p k ∙ (λ i. min (carried_of all (same_id_is p id e i)).moved.active cap)) z h
    comes k false e z = stays z

    others : (initiator == dev) ≡ false → (r : Bool) → same_id p id ≡ r
        → b.bytes ≡ (if r then bytes_with (carried_of all id).moved.bytes (carried_of all id).moved.active byte
        else (carried_of all id).moved.bytes)
        → IsBufferOf b room (buffer_at v id)
    others f true e z = absurd (eqb-false initiator dev f (one_host (command_at s.commands id.command) initiator dev
        ((λ i. is_of_host (command_at s.commands (sym (same_id_is p id e) i).command) initiator) ∙ owned) its))
    others f false e z = stays z

    go : (q : Bool) → (initiator == dev) ≡ q → known ≡ (if q then Some p else None)
        → IsBufferOf b room (buffer_at (put_if v known place byte) id)
    go true f k = subst (λ (z : Option ProcId). IsBufferOf b room (buffer_at (put_if v z place byte) id))
        (sym k) (subst (λ (z : BufferValue). IsBufferOf b room z) (sym (buffer_put v p id place byte l))
        (comes k (same_id p id) refl same))
    go false f k = subst (λ (z : Option ProcId). IsBufferOf b room (buffer_at (put_if v z place byte) id)) (sym k)
        (others f (same_id p id) refl same)

-- The process of its own connection.
own_process : (dev : ℕ) (n : Connection) (l : Option Link)
    → id_of (item_of (own_link dev (Some n) l)) ≡ (if n.initiator == dev then id_of (item_of l) else None)
own_process dev n l = go (n.initiator == dev)
  where
    go : (q : Bool) → id_of (item_of (if q then l else None)) ≡ (if q then id_of (item_of l) else None)
    go true = refl
    go false = refl

pub quiet : (v : List BufferPairValue) (known : Option ProcId) (place : ℕ) (w : Hearing) (after : Option Connection)
    → brings_data w after ≡ false → received_after v known place w after ≡ v
quiet v None place w after e = refl
quiet v (Some id) place w after e = λ i. if e i then received_with v id place (w.change.after.data_bits % 256) else v

busy : (v : List BufferPairValue) (known : Option ProcId) (place : ℕ) (w : Hearing) (after : Option Connection)
    → brings_data w after ≡ true
    → received_after v known place w after ≡ put_if v known place (w.change.after.data_bits % 256)
busy v None place w after e = refl
busy v (Some id) place w after e = λ i. if e i then received_with v id place (w.change.after.data_bits % 256) else v

after_length : (v : List BufferPairValue) (known : Option ProcId) (place : ℕ) (w : Hearing) (after : Option Connection)
    → length (received_after v known place w after) ≡ length v
after_length v None place w after = refl
after_length v (Some id) place w after = go (brings_data w after)
  where
    go : (q : Bool) → length (if q then received_with v id place (w.change.after.data_bits % 256) else v) ≡ length v
    go true = length-set v id.command (pair_with (pair_at v id.command) id.sense place (w.change.after.data_bits % 256))
    go false = refl

small_room : (s : ScenarioValue) (c : CmdDef) (sense : Bool) → room_of s c sense ≤ 0xffffffff
small_room s c true = omega arith
small_room s c false = go (is_write (command_of c.cdb))
  where
    go : (q : Bool) → (if q then 0 else min (need_of s c) 0xffffffff) ≤ 0xffffffff
    go true = omega arith
    go false = omega arith

pub received_goes_on : (s : ScenarioValue) (rows : List Row) (row : Row) (dev : ℕ)
    (v : List BufferPairValue) (known : Option ProcId) (place : ℕ) (w : Hearing) (after : Option Connection)
    → IsPlain s rows (run_state s rows) → IsPlain s (row ∷ rows) (run_state s (row ∷ rows))
    → hearing_of (run_state s rows) row (row_reading (run_state s rows).story.bus_state row) ≡ hearing rows row
    → AreOfDevices (row ∷ rows) → w ≡ hearing rows row → after ≡ connection (row ∷ rows)
    → known ≡ id_of (item_of (own_link dev (connection rows) (run_state s rows).story.link))
    → place ≡ (active_of (run_state s rows) known).payload → undoes_no_byte s (row ∷ rows) ≡ true
    → AreReceived s rows dev v → AreReceived s (row ∷ rows) dev (received_after v known place w after)
received_goes_on s rows row dev v known place w after p q heard d told stands is at undoes h =
    record {
      long = after_length v known place w after ∙ h.long;
      buffers = λ id c c_is own_is. each id c ((λ i. is_of_host (c_is i) dev) ∙ own_is)
          (brings (row_reading (run_state s rows).story.bus_state row)) refl (h.buffers id c c_is own_is);
    }
  where
    heard_it : w ≡ hearing_of (run_state s rows) row (row_reading (run_state s rows).story.bus_state row)
    heard_it = told ∙ sym heard

    afters : after ≡ (row_reading (run_state s rows).story.bus_state row).next
    afters = stands ∙ sym q.connection

    same_brings : brings_data w after ≡ brings (row_reading (run_state s rows).story.bus_state row)
    same_brings = λ i. (heard_it i).crosses && is_data (heard_it i).change.before && is_some (afters i)
        && not (heard_it i).change.after.rst

    byte_is : w.change.after.data_bits % 256
        ≡ (row_reading (run_state s rows).story.bus_state row).change.after.data_bits % 256
    byte_is = λ i. (heard_it i).change.after.data_bits % 256

    moves : (id : ProcId) → (moved_of (run_state s (row ∷ rows)).story id).bytes
        ≡ brought (if brings (row_reading (run_state s rows).story.bus_state row)
        then id_of (item_of (run_state s rows).story.link) else None) id
        ((row_reading (run_state s rows).story.bus_state row).change.after.data_bits % 256)
        (moved_of (run_state s rows).story id)
    moves id = (row_moves s rows row (and_first (has_bytes_of (run_state s rows).story.carried
        (undone_by (run_state s rows).story.link (row_reading (run_state s rows).story.bus_state row).out))
        (undoes_no_byte s rows) undoes)).bytes refl id

    place_is : (x : ProcId) → known ≡ Some x → place ≡ min (moved_of (run_state s rows).story x).active 0xffffffff
    place_is x z = at ∙ (λ i. (active_of (run_state s rows) (z i)).payload)

    no : {X : Type 0} → false ≡ true → X
    no z = absurd (none z)
      where
        none : false ≡ true → ⊥
        none y = cc

    each : (id : ProcId) (c : CmdDef) → is_of_host (command_at s.commands id.command) dev ≡ true
        → (r : Bool) → brings (row_reading (run_state s rows).story.bus_state row) ≡ r
        → IsBufferOf (moved_of (run_state s rows).story id) (room_of s c id.sense) (buffer_at v id)
        → IsBufferOf (moved_of (run_state s (row ∷ rows)).story id) (room_of s c id.sense)
        (buffer_at (received_after v known place w after) id)
    each id c its false e x =
        let same : (moved_of (run_state s (row ∷ rows)).story id).bytes ≡ (moved_of (run_state s rows).story id).bytes =
        moves id ∙ (λ i. brought (if e i then id_of (item_of (run_state s rows).story.link) else None) id
        ((row_reading (run_state s rows).story.bus_state row).change.after.data_bits % 256)
        (moved_of (run_state s rows).story id)) in
        subst (λ (z : List BufferPairValue). IsBufferOf (moved_of (run_state s (row ∷ rows)).story id)
        (room_of s c id.sense) (buffer_at z id)) (sym (quiet v known place w after (same_brings ∙ e)))
        (record { room_is = x.room_is; bytes_are = x.bytes_are ∙ (λ i. take (room_of s c id.sense) (sym same i)) })
    each id c its true e x = by_connection (run_state s rows).story.bus_state.connection refl
      where
        by_connection : (m : Option Connection) → (run_state s rows).story.bus_state.connection ≡ m
            → IsBufferOf (moved_of (run_state s (row ∷ rows)).story id) (room_of s c id.sense)
            (buffer_at (received_after v known place w after) id)
        by_connection None z = no ((λ i. sym ((reading_of (run_state s rows).story row).idle z) i
            && is_data (row_reading (run_state s rows).story.bus_state row).change.before
            && is_some (row_reading (run_state s rows).story.bus_state row).next
            && not (row_reading (run_state s rows).story.bus_state row).change.after.rst) ∙ e)
        by_connection (Some n) z = subst (λ (y : List BufferPairValue). IsBufferOf
            (moved_of (run_state s (row ∷ rows)).story id) (room_of s c id.sense) (buffer_at y id))
            (sym (busy v known place w after (same_brings ∙ e) ∙ (λ i. put_if v known place (byte_is i)))) (byte_goes_on
            s dev n.initiator (run_state s rows).story.carried id (id_of (item_of (run_state s rows).story.link)) known
            (moved_of (run_state s (row ∷ rows)).story id) v (room_of s c id.sense) place
            ((row_reading (run_state s rows).story.bus_state row).change.after.data_bits % 256) 0xffffffff
            (own_linked s n.initiator (run_state s rows).story.link
            (subst (λ (y : Option Connection). IsOwnedOn s y (run_state s rows).story.link) z (links_are s rows d.1)))
            its (is ∙ (λ i. id_of (item_of (own_link dev ((sym p.connection ∙ z) i) (run_state s rows).story.link)))
            ∙ own_process dev n (run_state s rows).story.link) place_is
            ((placed_are s rows).all.placed id) (small_room s c id.sense)
            (subst (λ (y : ℕ). id.command < y) (sym h.long) (in_range s.commands id.command dev its))
            (moves id ∙ (λ i. brought (if e i then id_of (item_of (run_state s rows).story.link) else None) id
            ((row_reading (run_state s rows).story.bus_state row).change.after.data_bits % 256)
            (moved_of (run_state s rows).story id))) x)

-- ---- before any row

buffers_if : ScenarioValue → ℕ → Option CmdDef → BufferPairValue
buffers_if s dev None = no_buffers
buffers_if s dev (Some c) = buffers_if_own s dev c

command_buffers : (s : ScenarioValue) (dev : ℕ) (commands : List CmdDef) (j : ℕ)
    → pair_at (buffers_of_commands s dev commands) j ≡ buffers_if s dev (command_at commands (suc j))
unfolding buffers_if
command_buffers s dev [] j = refl
command_buffers s dev (c ∷ commands) zero = refl
command_buffers s dev (c ∷ commands) (suc j) = command_buffers s dev commands j

all_buffers : (s : ScenarioValue) (dev n : ℕ)
    → pair_at (nothing_received s dev) n ≡ buffers_if s dev (command_at s.commands n)
unfolding buffers_if
all_buffers s dev zero = λ i. buffers_if s dev (no_first s.commands i)
all_buffers s dev (suc j) = command_buffers s dev s.commands j

buffers_length : (s : ScenarioValue) (dev : ℕ) (commands : List CmdDef)
    → length (buffers_of_commands s dev commands) ≡ length commands
buffers_length s dev [] = refl
buffers_length s dev (c ∷ commands) = ap (λ (n : ℕ). suc n) (buffers_length s dev commands)

own_buffer : (s : ScenarioValue) (dev : ℕ) (c : CmdDef) (sense : Bool) → (c.host == dev) ≡ true
    → half_of (buffers_if_own s dev c) sense ≡ empty_buffer (room_of s c sense)
own_buffer s dev c true e = λ i. half_of
    (if e i then record { command = empty_buffer (data_room s c); sense = empty_buffer SENSE_LEN } else no_buffers) true
own_buffer s dev c false e = λ i. half_of
    (if e i then record { command = empty_buffer (data_room s c); sense = empty_buffer SENSE_LEN } else no_buffers)
    false

pub received_starts : (s : ScenarioValue) (dev : ℕ) (v : List BufferPairValue) → v ≡ nothing_received s dev
    → AreReceived s [] dev v
unfolding buffers_if
received_starts s dev v e = record {
  long = (λ i. length (e i)) ∙ (let x = buffers_length s dev s.commands in omega arith);
  buffers = λ id c c_is own_is.
      let none : buffer_at v id ≡ empty_buffer (room_of s c id.sense) = (λ i. buffer_at (e i) id)
      ∙ (λ i. half_of (all_buffers s dev id.command i) id.sense)
      ∙ (λ i. half_of (buffers_if s dev (c_is i)) id.sense) ∙ own_buffer s dev c id.sense own_is in
      record {
        room_is = λ i. (none i).room;
        bytes_are = (λ i. (none i).bytes) ∙ sym (take_all (room_of s c id.sense) [] (omega arith));
      };
}
