-- As a connection of a prompt trace ends with BUS FREE its parts tell what the story has of it: COMMAND COMPLETE or
-- DISCONNECT, an abort, or none of these; and they name its process (6.1.1, 6.6).
use Rattle.transcript_laws.proofs
use proofs.Names.{ℕ, ◌≡◌, ◌∙◌, ◌⊎◌, inl, inr, ◌==◌, Bool, true, false, not, ◌&&◌, List, [], ◌∷◌, ◌++◌, Option, Some}
use proofs.Names.{None, refl, sym, ap, subst, ◌||◌, append-nil, same_Some, is_some, is_none, wrong, wrong', eq_self}
use proofs.Names.{or_second, AbortKind, ProcId, change_of, LineSet, is_command, is_data, is_message_in, is_message_out}
use proofs.Names.{connection, connection_after, receiver_in, bus, Change, Connection, Row, MsgOut, is_nil}
use proofs.Names.{ScenarioValue, Obeys, AbortDef, same_number, process_of, RowReading, row_reading, abort_line_at, Item}
use proofs.Names.{process, abort, Link, LastMessage, plain, abortive, phase_of, message_out_leaving, phase_leaving}
use proofs.Names.{leaving_by, is_naming, abort_opening, Cause, Next, Phase, opening, IsPrompt, IsPlain, RunState}
use proofs.Names.{bus_of, item_of, process_item, run_state, serving_of, task_if, same_kind, reading_is, in_is_whole}
use proofs.Names.{not_both, Gives, Speaks, is_selected, change_plain, least_is, none_some, in_out, out_in, by_bool}
use proofs.Names.{ConnectionRow, connection_row, RowFacts, Stops, ends_here, link_phase, IsClosing, IsServed, LastIn}
use proofs.Names.{Tells, goes_on, naming_goes_on, none_heard, all_given, left_tells, IsHeard, is_heard, never_ends}
use proofs.Names.{in_of, LastBy, Named, known, said, refused, fails_as_left, task_here, sent_asks, Whole, no_summary}
use proofs.Names.{kind_of, summary_of, OpenedValue, opened_connection, held_part, transcribed, Incoming, Part}
use proofs.Names.{Departure, Loss, Leave, Abortion, Summary, are_talk, base_parts, out_parts, parts_now, summary_by}
use proofs.Names.{name_process, is_departure, is_abortion, is_line, closing_parts, fits_end, is_named}
use proofs.Fits.{EndWays.{EndsBy, by_messages, by_giving_up, ends_by}, Named.{Standing, standing, item_is_served}}
use proofs.{Fits.Named.{ServedProcess, served_process}, Held.{Ends.{HeldEnds, ends_start, ends_row}, Last.{some_said}}}
use proofs.{Named.Facts.{named_again}, Opened.Rows.{Holds, always}, Parts.{Base.{base_held}, Ends.{last_held}}}
use proofs.Parts.Ends.{are_silent, ends_told, summary_more, leave_departure, loss_departure, closing_now}
use proofs.Said.Facts.{SaidNames, OutNames, unsaid, told, IsOpened, mild_said, names_hold, opening_words}
use proofs.Said.Naming.{outs_of, outs_now, mild_tame, IsOpening, opening_more, opening_tame, no_abort, opening_names}
use proofs.Said.{Naming.{naming_part, name_steps, names_same}, Out.{abort_messages, abort_said}, Words.{said_of}}
use proofs.{Serving.TurnSteps.{outs_talk}, Talks.{Aborts.{AbortTalk, abort_row}, Again.{AgainTalk, again_start}}}
use proofs.Talks.{Again.{again_row, no_name}, Named.{talk_more}}
use Rattle.due_model.specs.array_model.specs.Processes.{Process}
use Rattle.progress_laws.specs.row_laws.specs.Tells.{of_process, of_abort}
use Rattle.progress_laws.specs.row_laws.proofs.Lines.Crossings.{stays}

-- ---- all that is kept

pub record EndsAll (s : ScenarioValue) (k : RunState) (n : Connection) (o : OpenedValue) : Type 0 where
  pub spoken : SaidNames s k n o
  pub ends : HeldEnds k o
  pub unopened : AbortTalk k o
  pub again : AgainTalk k n o

ends_hold : (s : ScenarioValue) → Holds s (EndsAll s)
ends_hold s = record {
  begins = λ p row n starts now con calm b out fresh. record {
    spoken = (names_hold s).begins p row n starts now con calm b out fresh;
    ends = ends_start s p row n (opened_connection n) starts refl;
    unopened = λ j sv. record { outs = refl; talk = refl };
    again = again_start s p row n (opened_connection n) starts (λ re. now.facts.named n con calm re);
  };
  goes_on = λ p row n g o after made h. record {
    spoken = (names_hold s).goes_on p row n g o after made h.spoken;
    ends = ends_row s p row n g o after made h.spoken.all.bytes h.spoken.all.words h.ends;
    unopened = abort_row s p row n g o after made h.spoken.all h.unopened;
    again = again_row s p row n g o after made h.spoken.all (λ re. (h.spoken.again re).opened.begun) h.again;
  };
}

-- ---- the row

record Ending (s : ScenarioValue) (p : List Row) (row : Row) (n : Connection) (o : OpenedValue) (l : Link) : Type
    0 where
  obeys : Obeys s
  prompt : IsPrompt s p
  stands : connection p ≡ Some n
  calm : (bus p).rst ≡ false
  there : (transcribed p).opened ≡ Some o
  link_is : (run_state s p).story.link ≡ Some l
  here : Standing s p n o
  all : EndsAll s (run_state s p) n o
  stops : Stops s p row n
  tells : Tells s (run_state s p) n
  begun : (run_state s p).exchange.begun ≡ true
  phase : (bus_of (run_state s p)).msg ≡ true → (bus_of (run_state s p)).cd ≡ true
  left : goes_on (phase_leaving (serving_of s (run_state s p) n.target)
      (bus_of (run_state s p)).atn (phase_of (bus_of (run_state s p))))
      ≡ false

ending : (s : ScenarioValue) (p : List Row) (row : Row) (n : Connection) (v : OpenedValue) (l : Link) → Obeys s
    → IsPrompt s (row ∷ p) → connection p ≡ Some n → (bus p).rst ≡ false → (bus (row ∷ p)).rst ≡ false
    → connection (row ∷ p) ≡ None → (transcribed p).opened ≡ Some v → (run_state s p).story.link ≡ Some l
    → Ending s p row n v l
ending s p row n v l o prompt con calm off after there el = by r.facts
  where
    st : Standing s p n v
    st = standing s p n v o prompt.0 con calm there

    was : Whole s p
    was = st.was

    j : RunState
    j = run_state s p

    pl : IsPlain s p j
    pl = was.stood.plain

    r : ConnectionRow s p row n
    r = connection_row s p row n o prompt was.stood con calm off

    change : (row_reading j.story.bus_state row).change ≡ change_of p row
    change = change_plain s row p was.stood.standing.devices (least_is s p row prompt.1).inside

    next : (row_reading j.story.bus_state row).next ≡ None
    next = (λ i. connection_after (pl.connection i) (pl.call i) (change i) row) ∙ after

    by : RowFacts s p row n → Ending s p row n v l
    by (stays g) = none_some n (sym next ∙ ap (λ (d : RowReading). d.next)
        (reading_is j row n g.change (is_some (receiver_in n g.change)) g.row_is refl))
    by (ends_here g) =
        let b : j.exchange.begun ≡ true = pl.begun ∙ g.begun_is in
        record {
          obeys = o;
          prompt = prompt.0;
          stands = con;
          calm = calm;
          there = there;
          link_is = el;
          here = st;
          all = always s (EndsAll s) o (ends_hold s) p prompt.0 n con calm v there;
          stops = g;
          tells = left_tells s p row o prompt was.stood was.facts (fails_as_left s p row o prompt was.stood
              (sent_asks s p row o prompt was.stood was.facts was.sent) was.fails) n
              (record { stands = con; calm = calm; calm_after = off; begun = b; leaves = inr next });
          begun = b;
          phase = λ m. ap (λ (x : LineSet). x.cd) pl.bus
              ∙ (link_phase s p n r.stage (ap (λ (x : LineSet). x.msg) (sym pl.bus) ∙ m)).0;
          left = ap goes_on (λ i. leaving_by (serving_of s j n.target) (sym b i) (bus_of j))
              ∙ ap (λ (x : Option Phase). is_some x) g.whereto;
        }

-- As MESSAGE OUT is left by it all was heard.
heard_of : (s : ScenarioValue) (p : List Row) (row : Row) (n : Connection) (o : OpenedValue) (l : Link)
    → Ending s p row n o l → phase_of (bus_of (run_state s p)) ≡ Phase.MessageOut → IsHeard s (run_state s p)
heard_of s p row n o l h e = is_heard s (run_state s p) n h.here.speaking.units speaks h.begun h.phase h.stops.over e
  where
    pl : IsPlain s p (run_state s p)
    pl = h.here.was.stood.plain

    speaks : Speaks s (run_state s p) n
    speaks = h.here.was.stood.books.speaks n (pl.connection ∙ h.stands) (ap (λ (x : LineSet). x.rst) pl.bus ∙ h.calm)

-- A message phase carries bytes of neither COMMAND nor data.
message_moves : (b : LineSet) → (is_message_in b ≡ true) ⊎ (is_message_out b ≡ true)
    → (is_command b || is_data b) ≡ false
message_moves b (inl e) = go b.msg b.cd b.io e
  where
    go : (m d i : Bool) → (m && d && i) ≡ true → ((not m && d && not i) || (not m && not d)) ≡ false
    go true d i z = refl
    go false d i z = wrong' z
message_moves b (inr e) = go b.msg b.cd b.io e
  where
    go : (m d i : Bool) → (m && d && not i) ≡ true → ((not m && d && not i) || (not m && not d)) ≡ false
    go true d i z = refl
    go false d i z = wrong' z

-- ---- an abort

record TellsAbort (unit : ℕ) (what : AbortKind) (sum : Summary) : Type 0 where
  message : MsgOut
  abort_is : sum.abort ≡ Some message
  unit_is : sum.unit ≡ Some unit
  kind : same_kind (kind_of message sum.tag) what ≡ true

abort_tells : (unit : ℕ) (what : AbortKind)
    → TellsAbort unit what (name_steps no_summary (MsgOut.Identify false unit ∷ abort_messages what))
abort_tells unit AbortKind.All = record { message = MsgOut.Abort; abort_is = refl; unit_is = refl; kind = refl }
abort_tells unit (AbortKind.Tag m) =
    record { message = MsgOut.AbortTag; abort_is = refl; unit_is = refl; kind = eq_self m }
abort_tells unit AbortKind.WholeQueue =
    record { message = MsgOut.ClearQueue; abort_is = refl; unit_is = refl; kind = refl }
abort_tells unit AbortKind.Device =
    record { message = MsgOut.DeviceReset; abort_is = refl; unit_is = refl; kind = refl }

abort_departs : (again : Bool) (a : Summary) (unit : ℕ) (what : AbortKind)
    → (summary_of again a (out_parts (MsgOut.Identify false unit ∷ abort_messages what))).departure ≡ Abortion
abort_departs again a unit AbortKind.All = refl
abort_departs again a unit _ = refl

line_is : (n : Connection) (a : AbortDef) (sum : Summary) → a.host ≡ n.initiator → a.target ≡ n.target
    → TellsAbort a.unit a.what sum → is_line n sum sum.abort (Some a) ≡ true
line_is n a sum host target h =
    ap (λ (o : Option MsgOut). is_line n sum o (Some a)) h.abort_is
    ∙ (λ i. n.initiator == host i && n.target == target i && same_number (h.unit_is i) (Some a.unit) && h.kind i)
    ∙ (λ i. eq_self n.initiator i && eq_self n.target i && eq_self a.unit i && true)

abort_ends : (s : ScenarioValue) (p : List Row) (row : Row) (n : Connection) (o : OpenedValue) (l : Link) (m : ℕ)
    → Ending s p row n o l → l.item ≡ Some (abort m) → fits_end s (run_state s p).story o l
    (closing_parts o (bus_of (run_state s p)) (run_state s p).story.bus_state.dialogue.half) (Some (abort m)) ≡ true
abort_ends s p row n o l m h e = by h.here.served
  where
    k : RunState
    k = run_state s p

    served : k.served ≡ Some (abort m)
    served = item_is_served s p n o l (abort m) h.here h.link_is e

    not_process : {A : Type 0} (id : ProcId) → (let x : Option Item = Some (process id) in x) ≡ Some (abort m) → A
    not_process id z = absurd cc

    same_abort : (x : ℕ) → (let y : Option Item = Some (abort x) in y) ≡ Some (abort m) → x ≡ m
    same_abort x z = ap number (same_Some (abort x) (abort m) z)
      where
        number : Item → ℕ
        number (abort y) = y
        number (process id) = m

    by : IsServed s k n
        → fits_end s k.story o l (closing_parts o (bus_of k) k.story.bus_state.dialogue.half) (Some (abort m)) ≡ true
    by (of_process id pr f x) = not_process id (sym f ∙ served)
    by (of_abort x a f line host target sel alone) =
        ap (λ (parts : List Part). fits_end s k.story o l parts (Some (abort m))) closing
        ∙ ap (λ (c : Connection). is_abortion (summary_by c (parts_now o)).departure l.last
        && is_line c (summary_by c (parts_now o)) (summary_by c (parts_now o)).abort (abort_line_at s.aborts m)
        && are_talk (parts_now o)) h.here.names.all.bytes.connection_is
        ∙ (λ i. is_abortion (departs i) (last i) && is_line n sum sum.abort (at i) && talk i)
        ∙ ap (λ (q : Bool). q && true) (line_is n a sum host target line_told)
      where
        phase : phase_of (bus_of k) ≡ Phase.MessageOut
        phase = (alone h.begun).0

        heard : IsHeard s k
        heard = heard_of s p row n o l h phase

        sum : Summary
        sum = summary_by n (parts_now o)

        last : l.last ≡ abortive
        last = (h.here.was.facts.last n h.stands h.calm).1 l m h.link_is served h.begun heard.last

        at : abort_line_at s.aborts m ≡ Some a
        at = ap (abort_line_at s.aborts) (sym (same_abort x (sym f ∙ served))) ∙ line

        saying : k.exchange.speech.words ≡ abort_opening (Some a)
        saying = opening_words s n k.served k.exchange k.exchange.plan.cause
            (h.here.speaking.speaks h.begun heard.out).words_for (alone h.begun).1
            ∙ ap (opening s n.initiator k.exchange.plan.negotiates) served ∙ ap abort_opening at

        said_is : o.said ≡ MsgOut.Identify false a.unit ∷ abort_messages a.what
        said_is = h.here.speaking.words.whole heard.out heard.last ∙ ap (λ (w : List ℕ). said_of [] w) saying
            ∙ abort_said a (h.here.speaking.units.aborts m a at)

        closing : closing_parts o (bus_of k) k.story.bus_state.dialogue.half ≡ parts_now o
        closing = closing_now o (bus_of k) k.story.bus_state.dialogue.half (message_moves (bus_of k) (inr heard.out))
            (λ i. in_out (bus_of k) heard.out i && not (is_nil k.story.bus_state.dialogue.half))

        outs : outs_of (parts_now o) ≡ MsgOut.Identify false a.unit ∷ abort_messages a.what
        outs = outs_now o ∙ (λ i. (h.all.unopened m served).outs i ++ said_is i)

        named : naming_part sum ≡ name_steps no_summary (MsgOut.Identify false a.unit ∷ abort_messages a.what)
        named = ap (λ (q : Bool). naming_part (summary_of q no_summary (parts_now o))) sel
            ∙ names_same (parts_now o) no_summary ∙ ap (name_steps no_summary) outs

        line_told : TellsAbort a.unit a.what sum
        line_told =
            let w = subst (λ (x : Summary). TellsAbort a.unit a.what x) (sym named) (abort_tells a.unit a.what) in
            record { message = w.message; abort_is = w.abort_is; unit_is = w.unit_is; kind = w.kind }

        departs : sum.departure ≡ Abortion
        departs =
            ap (λ (x : Summary). x.departure) (summary_more n.reselected (base_parts o) (out_parts o.said) no_summary)
            ∙ ap (λ (w : List MsgOut).
            (summary_of n.reselected (summary_of n.reselected no_summary (base_parts o)) (out_parts w)).departure)
            said_is ∙ abort_departs n.reselected (summary_of n.reselected no_summary (base_parts o)) a.unit a.what

        talk : are_talk (parts_now o) ≡ true
        talk =
            talk_more (base_parts o) (out_parts o.said) ∙ (λ i. (h.all.unopened m served).talk i && outs_talk o.said i)

-- ---- a process

-- How its connection ends.
record IsAtEnd (s : ScenarioValue) (p : List Row) (n : Connection) (o : OpenedValue) (l : Link) : Type 0 where
  closing : closing_parts o (bus_of (run_state s p)) (run_state s p).story.bus_state.dialogue.half ≡ parts_now o
  departs : is_departure (summary_by n (parts_now o)).departure l.last ≡ true
  opened : IsOpened (run_state s p)
  more : n.reselected ≡ true → are_talk (base_parts o) ≡ false

leave_is : (d : Departure) (last : LastMessage) → d ≡ Leave → IsClosing last → is_departure d last ≡ true
leave_is d last e (inl f) = λ i. is_departure (e i) (f i)
leave_is d last e (inr f) = λ i. is_departure (e i) (f i)

closing_told : (last : LastMessage) → IsClosing last → ends_told last ≡ true
closing_told last (inl e) = ap ends_told e
closing_told last (inr e) = ap ends_told e

-- After COMMAND COMPLETE or DISCONNECT.
after_messages :
    (s : ScenarioValue) (p : List Row) (row : Row) (n : Connection) (o : OpenedValue) (l : Link) (id : ProcId)
    → Ending s p row n o l → (run_state s p).served ≡ Some (process id)
    → phase_of (bus_of (run_state s p)) ≡ Phase.MessageIn → (bus_of (run_state s p)).atn ≡ false
    → (run_state s p).exchange.plan.next ≡ Next.FreeBus → IsAtEnd s p n o l
after_messages s p row n o l id h served phase quiet free = record {
  closing = closing_now o (bus_of k) half (message_moves (bus_of k) (inl here)) (half_none (is_message_in (bus_of k)));
  departs = leave_is (summary_by n (parts_now o)).departure l.last departs closes;
  opened = record { begun = h.begun; cause = λ z. not_both (bus_of k) here z };
  more = λ re. by_naming re (h.all.again.into re here);
}
  where
    k : RunState
    k = run_state s p

    half : List ℕ
    half = k.story.bus_state.dialogue.half

    pl : IsPlain s p k
    pl = h.here.was.stood.plain

    here : is_message_in (bus_of k) ≡ true
    here = in_of (bus_of k) phase h.phase

    no_out : is_message_out (bus_of k) ≡ false
    no_out = out_in (bus_of k) here

    gives : Gives k
    gives = h.here.was.stood.books.gives n (pl.connection ∙ h.stands) (ap (λ (x : LineSet). x.rst) pl.bus ∙ h.calm)

    none : half ≡ []
    none =
        in_is_whole k gives h.begun here (all_given s k n phase quiet h.stops.over (gives.in_message_in h.begun here))

    half_none : (q : Bool) → (q && not (is_nil half)) ≡ false
    half_none true = ap (λ (x : List ℕ). not (is_nil x)) none
    half_none false = refl

    closes : IsClosing l.last
    closes = subst (LastIn k.exchange.plan (bus_of k).atn l.last) phase (h.tells.last l h.link_is) quiet free

    held : ends_told (last_held o.held) ≡ true
    held = ap ends_told (sym (h.all.ends.same l id h.link_is served no_out)) ∙ closing_told l.last closes

    silent : are_silent o.since ≡ true
    silent = h.all.ends.quiet (some_held o.held held)
      where
        some_held : (x : Option Incoming) → ends_told (last_held x) ≡ true → is_some x ≡ true
        some_held None z = wrong' z
        some_held (Some m) z = refl

    said_none : o.said ≡ []
    said_none = h.here.speaking.bytes no_out

    departs : (summary_by n (parts_now o)).departure ≡ Leave
    departs = ap (λ (parts : List Part). (summary_by n parts).departure)
        ((λ i. base_held o said_none i ++ out_parts (said_none i))
        ∙ append-nil (o.parts ++ (held_part o.held ++ o.since)))
        ∙ leave_departure n o.parts o.since o.held held silent

    by_naming :
        n.reselected ≡ true → (is_naming k.exchange.plan.messages.first ≡ true) ⊎ (are_talk (base_parts o) ≡ false)
        → are_talk (base_parts o) ≡ false
    by_naming re (inr z) = z
    by_naming re (inl z) = go (h.here.was.facts.named n h.stands h.calm re)
      where
        is_free : Next → Bool
        is_free Next.FreeBus = true
        is_free _ = false

        go : Named s k n → are_talk (base_parts o) ≡ false
        go (known m em some nameless) = no_name k.exchange.plan.messages nameless z
        go (said pr m naming into names whole) = wrong' (sym (ap is_free naming.next_is) ∙ ap is_free free)
        go (refused pr m naming out cause names) = not_both (bus_of k) here out

-- After MESSAGE OUT that was no opening.
gives_up : (s : ScenarioValue) (p : List Row) (row : Row) (n : Connection) (o : OpenedValue) (l : Link) (id : ProcId)
    → Ending s p row n o l → (run_state s p).served ≡ Some (process id)
    → phase_of (bus_of (run_state s p)) ≡ Phase.MessageOut → is_selected (run_state s p).exchange.plan.cause ≡ false
    → IsAtEnd s p n o l
gives_up s p row n o l id h served phase cause = record {
  closing = closing_now o (bus_of k) half (message_moves (bus_of k) (inr heard.out))
      (λ i. in_out (bus_of k) heard.out i && not (is_nil half));
  departs = λ i. is_departure (departs i) (last i);
  opened = opened;
  more = λ re. by_naming (h.all.again.out re heard.out);
}
  where
    k : RunState
    k = run_state s p

    half : List ℕ
    half = k.story.bus_state.dialogue.half

    heard : IsHeard s k
    heard = heard_of s p row n o l h phase

    opened : IsOpened k
    opened = record { begun = h.begun; cause = λ z. cause }

    last : l.last ≡ plain
    last = (subst (λ (x : Phase). LastBy l k.exchange.plan k.handshakes.requests k.story.bus_state.dialogue.is_last x)
        phase (((h.here.was.facts.last n h.stands h.calm).0 l id h.link_is served).begun h.begun)).0 heard.last

    departs : (summary_by n (parts_now o)).departure ≡ Loss
    departs = loss_departure n (base_parts o) o.said (mild_tame o.said (mild_said s k n o h.here.speaking opened))
        (some_said s n k o (h.here.speaking.speaks h.begun heard.out) h.here.speaking.words heard.out heard.last)

    by_naming : ((k.exchange.plan.cause ≡ Cause.InMessage) × (is_naming k.exchange.plan.messages.first ≡ true))
        ⊎ (are_talk (base_parts o) ≡ false)
        → are_talk (base_parts o) ≡ false
    by_naming (inr z) = z
    by_naming (inl z) =
        wrong (sym (ap (λ (f : Phase). goes_on (phase_leaving (serving_of s k n.target) (bus_of k).atn f)) phase
        ∙ ap (λ (x : Cause). goes_on (message_out_leaving (serving_of s k n.target) x)) z.0
        ∙ naming_goes_on (serving_of s k n.target) z.1) ∙ h.left)

at_end : (s : ScenarioValue) (p : List Row) (row : Row) (n : Connection)
    (o : OpenedValue) (l : Link) (id : ProcId) (q : Process)
    → Ending s p row n o l → (run_state s p).served ≡ Some (process id) → process_of s id ≡ Some q → IsAtEnd s p n o l
at_end s p row n o l id q h served of = by (ends_by (serving_of s k n.target) (task_here s k q) (bus_of k).atn
    (phase_of (bus_of k)) (ap (task_if s k) (ap (process_item s) served ∙ of)) none h.left)
  where
    k : RunState
    k = run_state s p

    pl : IsPlain s p k
    pl = h.here.was.stood.plain

    none : phase_of (bus_of k) ≡ Phase.MessageOut → k.exchange.plan.said.aborts ≡ None
    none e =
        let heard = heard_of s p row n o l h e in
        none_heard s k n id q (h.here.was.stood.books.speaks n (pl.connection ∙ h.stands)
        (ap (λ (x : LineSet). x.rst) pl.bus ∙ h.calm)) served of h.begun heard.out heard.last heard.named

    by : EndsBy (serving_of s k n.target) (bus_of k).atn (phase_of (bus_of k)) → IsAtEnd s p n o l
    by (by_messages phase quiet free) = after_messages s p row n o l id h served phase quiet free
    by (by_giving_up phase cause) = gives_up s p row n o l id h served phase cause

record EndNames (s : ScenarioValue) (n : Connection) (o : OpenedValue) (id : ProcId) : Type 0 where
  unaborted : is_none (summary_by n (parts_now o)).abort ≡ true
  naming : name_process s n (parts_now o) id ≡ true
  knowing : (not n.reselected || not (are_talk (base_parts o))) ≡ true

process_ends :
    (s : ScenarioValue) (p : List Row) (row : Row) (n : Connection) (o : OpenedValue) (l : Link) (id : ProcId)
    → Ending s p row n o l → l.item ≡ Some (process id) → fits_end s (run_state s p).story o l
    (closing_parts o (bus_of (run_state s p)) (run_state s p).story.bus_state.dialogue.half) (Some (process id)) ≡ true
process_ends s p row n o l id h e =
    ap (λ (parts : List Part). fits_end s k.story o l parts (Some (process id))) end.closing
    ∙ ap (λ (c : Connection). is_none (summary_by c (parts_now o)).abort
    && name_process s c (parts_now o) id && is_departure (summary_by c (parts_now o)).departure l.last
    && (not c.reselected || not (are_talk (base_parts o)) || is_command (bus_of k)))
    h.here.names.all.bytes.connection_is
    ∙ (λ i. w.unaborted i && w.naming i && end.departs i && (w.knowing i || is_command (bus_of k)))
  where
    k : RunState
    k = run_state s p

    served : k.served ≡ Some (process id)
    served = item_is_served s p n o l (process id) h.here h.link_is e

    own : ServedProcess s id
    own = served_process s k n id h.here.served served

    end : IsAtEnd s p n o l
    end = at_end s p row n o l id own.own h served own.own_is

    selected : n.reselected ≡ false → OutNames own.own k o → EndNames s n o id
    selected sel (told a b) =
        let all : IsOpening own.own (outs_of (parts_now o)) = subst
        (λ (x : List MsgOut). IsOpening own.own x) (sym (outs_now o))
        (opening_more own.own (outs_of (base_parts o)) o.said a (mild_said s k n o h.here.speaking b)) in
        let ends = h.here.names.ends id own.own served own.own_is in
        record {
          unaborted = ap (λ (x : Option MsgOut). is_none x)
              (no_abort n (parts_now o) sel (opening_tame own.own (outs_of (parts_now o)) all));
          naming = opening_names s n (parts_now o) id own.own sel own.own_is ends.0 ends.1 all;
          knowing = ap (λ (q : Bool). not q || not (are_talk (base_parts o))) sel;
        }
    selected sel (unsaid a t f) = let z = f h.begun in wrong (sym (ap is_selected z.1) ∙ end.opened.cause z.0)

    both : (a b : Bool) → (a && b) ≡ true → (a ≡ true) × (b ≡ true)
    both true b x = (refl, x)
    both false b x = wrong' x

    reselected : n.reselected ≡ true → EndNames s n o id
    reselected re =
        let more = end.more re in
        let named : is_named s o (Some (process id)) ≡ true = ap (is_named s o) (sym e)
        ∙ named_again s p n o l h.obeys h.prompt h.stands h.calm h.there h.link_is re in
        let two = both (is_none (summary_by n (parts_now o)).abort)
        (are_talk (parts_now o) || name_process s n (parts_now o) id)
        (sym (ap (λ (c : Connection). is_none (summary_by c (parts_now o)).abort
        && (are_talk (parts_now o) || name_process s c (parts_now o) id)) h.here.names.all.bytes.connection_is)
        ∙ named) in
        record {
          unaborted = two.0;
          naming = or_second (are_talk (parts_now o)) (name_process s n (parts_now o) id) two.1
              (talk_more (base_parts o) (out_parts o.said) ∙ ap (λ (q : Bool). q && are_talk (out_parts o.said)) more);
          knowing = λ i. not (re i) || not (more i);
        }

    w : EndNames s n o id
    w =
        by_bool n.reselected
        (λ re. reselected re)
        (λ sel. selected sel (h.here.names.selected sel id own.own served own.own_is))

-- ---- any of them

pub ends_fit : (s : ScenarioValue) (p : List Row) (row : Row) (n : Connection) (v : OpenedValue) (l : Link)
    → Obeys s → IsPrompt s (row ∷ p) → connection p ≡ Some n → (bus p).rst ≡ false → (bus (row ∷ p)).rst ≡ false
    → connection (row ∷ p) ≡ None → (transcribed p).opened ≡ Some v → (run_state s p).story.link ≡ Some l → fits_end s
    (run_state s p).story v l (closing_parts v (row_reading (run_state s p).story.bus_state row).change.before
    (run_state s p).story.bus_state.dialogue.half) l.item ≡ true
ends_fit s p row n v l o prompt con calm off after there el =
    (λ i. fits_end s j.story v l (closing_parts v (before i) j.story.bus_state.dialogue.half) l.item) ∙ go l.item refl
  where
    j : RunState
    j = run_state s p

    h : Ending s p row n v l
    h = ending s p row n v l o prompt con calm off after there el

    pl : IsPlain s p j
    pl = h.here.was.stood.plain

    before : (row_reading j.story.bus_state row).change.before ≡ bus_of j
    before = ap (λ (c : Change). c.before)
        (change_plain s row p h.here.was.stood.standing.devices (least_is s p row prompt.1).inside)
        ∙ sym pl.bus

    go : (x : Option Item) → l.item ≡ x
        → fits_end s j.story v l (closing_parts v (bus_of j) j.story.bus_state.dialogue.half) x ≡ true
    go None e = wrong (sym
        (never_ends (serving_of s j n.target) (bus_of j).atn (phase_of (bus_of j)) (h.tells.naming (ap item_of el ∙ e)))
        ∙ h.left)
    go (Some (process id)) e = process_ends s p row n v l id h e
    go (Some (abort m)) e = abort_ends s p row n v l m h e
