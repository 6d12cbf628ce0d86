-- A row refuses no command where every command that arrives with it is accepted.
use Rattle.delivery_laws.proofs
use proofs.Names.{ℕ, ◌≡◌, Bool, true, false, not, ◌&&◌, ◌||◌, List, [], ◌∷◌, ◌++◌, Option, Some, None, refl, and_from}
use proofs.Names.{and_parts, list_all, list_any, if◌then◌else◌, is_some, and_first, and_second, wrong', Event, ProcId}
use proofs.Names.{rises, LineSet, changes_phase, is_command, Row, ScenarioValue, AbortDef, array_after, RowReading}
use proofs.Names.{CarriedBytes, is_whole_block, is_status_phase, abort_line_at, abort_line_events, bus_free_events}
use proofs.Names.{carried_if, end_events, is_completion, is_refuse, item_abort_events, item_loss_events, link_events}
use proofs.Names.{phase_events, queue_events, row_events_by, status_event, status_events, Item, process, abort, Link}
use proofs.Names.{LastMessage, plain, complete, disconnect, abortive, Story, same_event, has_event, ArrivesNow}

abbrev pub is_taken : Event → Bool
is_taken e = not (is_refuse e)

abbrev pub AreTaken : List Event → Type 0
AreTaken h = list_all (λ (e : Event). is_taken e) h ≡ true

pub taken_both : (xs ys : List Event) → AreTaken xs → AreTaken ys → AreTaken (xs ++ ys)
taken_both [] ys h g = g
taken_both (x ∷ xs) ys h g = and_from (is_taken x) (list_all (λ (e : Event). is_taken e) (xs ++ ys))
    (and_first (is_taken x) (list_all (λ (e : Event). is_taken e) xs) h)
    (taken_both xs ys (and_second (is_taken x) (list_all (λ (e : Event). is_taken e) xs) h) g)

abbrev IsAccepted : ScenarioValue → Story → CarriedBytes → Type 0
IsAccepted s b c = is_some (array_after s (Event.Accept c.id ∷ b.history)) ≡ true

queue_taken : (s : ScenarioValue) (b : Story) (c : Option CarriedBytes) (before : LineSet)
    → ((x : CarriedBytes) → c ≡ Some x → is_whole_block x ≡ true → is_command before ≡ true → IsAccepted s b x)
    → AreTaken (queue_events s b c before)
queue_taken s b None before h = refl
queue_taken s b (Some k) before h = go (is_command before && is_whole_block k) refl
  where
    by : (r : Bool) → r ≡ true → AreTaken ((if r then Event.Accept k.id else Event.Refuse k.id) ∷ [])
    by true e = refl
    by false e = wrong' e

    go : (q : Bool) → (is_command before && is_whole_block k) ≡ q → AreTaken (if q
        then (if is_some (array_after s (Event.Accept k.id ∷ b.history)) then Event.Accept k.id else Event.Refuse k.id)
        ∷ [] else [])
    go true e =
        let two = and_parts (is_command before) (is_whole_block k) e in
        by (is_some (array_after s (Event.Accept k.id ∷ b.history))) (h k refl two.1 two.0)
    go false e = refl

status_taken : (c : Option CarriedBytes) (after : LineSet) (arrived : List Event) → AreTaken arrived
    → AreTaken (status_events c after arrived)
status_taken None after arrived h = h
status_taken (Some k) after arrived h =
    go (is_status_phase after && not k.shown && not k.refused && not (list_any (λ e. is_refuse e) arrived)) k.failure
  where
    go : (q : Bool) (f : Option ℕ) → AreTaken (if q then status_event k.id f ∷ arrived else arrived)
    go true None = h
    go _ _ = h

end_taken : (c : Option CarriedBytes) → AreTaken (end_events c)
end_taken None = refl
end_taken (Some k) = refl

loss_taken : (item : Option Item) → AreTaken (item_loss_events item)
loss_taken None = refl
loss_taken (Some (process id)) = refl
loss_taken (Some (abort k)) = refl

abort_taken : (s : ScenarioValue) (item : Option Item) → AreTaken (item_abort_events s item)
abort_taken s None = refl
abort_taken s (Some (process id)) = refl
abort_taken s (Some (abort k)) = go (abort_line_at s.aborts k)
  where
    go : (a : Option AbortDef) → AreTaken (abort_line_events a)
    go None = refl
    go (Some a) = refl

free_taken : (s : ScenarioValue) (l : Link) (last : LastMessage) → AreTaken (bus_free_events s l last)
free_taken s l plain = loss_taken l.item
free_taken s l complete = refl
free_taken s l disconnect = refl
free_taken s l abortive = abort_taken s l.item

pub row_taken : (s : ScenarioValue) (b : Story) (d : RowReading) (row : Row)
    → ((l : Link) (c : CarriedBytes) → ArrivesNow b d l c → IsAccepted s b c) → AreTaken (row_events_by s b d row)
row_taken s b d row h = go d.change.after.rst refl
  where
    linked : d.change.after.rst ≡ false → (o : Option Link) → b.link ≡ o → AreTaken (link_events s b o d)
    linked calm None e = refl
    linked calm (Some l) e = by (is_some d.next) refl (changes_phase d.change) refl (is_completion l d.change)
      where
        by : (x : Bool) → is_some d.next ≡ x → (y : Bool) → changes_phase d.change ≡ y → (z : Bool)
            → AreTaken (if x then (if y then phase_events s b (carried_if b l.item) d.change
            else if z then end_events (carried_if b l.item) else []) else bus_free_events s l l.last)
        by true f true g z = status_taken (carried_if b l.item) d.change.after
            (queue_events s b (carried_if b l.item) d.change.before)
            (queue_taken s b (carried_if b l.item) d.change.before (λ c i w m. h l c
            (record { link_is = e; carried_is = i; whole = w; calm = calm; stands = f; turns = g; command = m })))
        by true f false g true = end_taken (carried_if b l.item)
        by true f false g false = refl
        by false f y g z = free_taken s l l.last

    reset : (y : Bool) → AreTaken (if y then Event.Reset row.dev ∷ [] else [])
    reset true = refl
    reset false = refl

    go : (x : Bool) → d.change.after.rst ≡ x
        → AreTaken (if x then (if rises d.change.own.rst d.change.next.rst then Event.Reset row.dev ∷ [] else [])
        else link_events s b b.link d)
    go true e = reset (rises d.change.own.rst d.change.next.rst)
    go false e = linked e b.link refl

refusal : (e : Event) (id : ProcId) → is_taken e ≡ true → same_event e (Event.Refuse id) ≡ false
refusal (Event.Refuse p) id h = wrong' h
refusal _ id h = refl

pub never_refused : (h : List Event) (id : ProcId) → AreTaken h → has_event h (Event.Refuse id) ≡ false
never_refused [] id e = refl
never_refused (x ∷ h) id e =
    let two = and_parts (is_taken x) (list_all (λ (y : Event). is_taken y) h) e in
    λ i. refusal x id two.0 i || never_refused h id two.1 i
