-- What shows no event of a process: a connection whose process is not known yet, that of an abort, RST, and items that
-- are no events.
use Rattle.transcript_laws.proofs
use proofs.Names.{ℕ, ◌≡◌, ◌∙◌, Bool, true, false, List, [], ◌∷◌, ◌++◌, length, reverse, None, refl, sym, ap, subst}
use proofs.Names.{append-nil, if◌then◌else◌, Event, ProcId, Connection, none_some, names_begun, name_sent, named_events}
use proofs.{Names.{Name, Part, Process, Summary, AreEventsSent, IsPast, shown_items}, Past.Closings.{account_by}}
use proofs.Past.{Closings.{leaving_items, connection_items}, Events.{shown_append, past_more}, Own.{connection_names}}
use Rattle.bus_transcript.specs.declared.item.Item.{Item}
use Rattle.due_model.specs.story_model.specs.Items as told

-- That of an abort is the name of no process.
abort_named : (m : ℕ) (names : List Name) (id : ProcId) → name_sent (told.abort m ∷ []) names id ≡ None
abort_named m [] id = refl
abort_named m (x ∷ names) id = refl

-- ---- items of no process

-- Items and events with no process's name.
pub record IsOpenly (new : List Item) (conn : List Event) : Type 0 where
  pub names : names_begun new ≡ []
  pub shown : (refused : List Name) (sent : List told.Item) (names : List Name)
      → shown_items refused new ≡ named_events sent names (reverse conn)

-- The reset of a device, and what is no event.
pub reset_openly : (dev : ℕ) → IsOpenly (Item.Reset dev ∷ []) (Event.Reset dev ∷ [])
reset_openly dev = record { names = refl; shown = λ refused sent names. refl }

pub free_openly : (time : ℕ) → IsOpenly (Item.Free time ∷ []) []
free_openly time = record { names = refl; shown = λ refused sent names. refl }

pub unanswered_openly : (time caller called : ℕ) → IsOpenly (Item.Unanswered time caller called ∷ []) []
unanswered_openly time caller called = record { names = refl; shown = λ refused sent names. refl }

pub openly_past : (list new : List Item) (sent : List told.Item) (conn history : List Event) → IsOpenly new conn
    → AreEventsSent sent conn → IsPast list sent history → IsPast (list ++ new) sent (conn ++ history)
openly_past list new sent conn history h known past = subst (λ (xs : List told.Item). IsPast (list ++ new) xs
    (conn ++ history)) (append-nil sent) (past_more list new sent [] conn history past (record {
      count = ap length h.names;
      known = subst (λ (xs : List told.Item). AreEventsSent xs conn) (sym (append-nil sent)) known;
      numbers = λ id name e. none_some name e;
      shown = λ refused r. h.shown refused (sent ++ []) (names_begun list ++ names_begun new);
    }))

-- ---- a connection with no events of its own

plain_shown : (refused : List Name) (n : Connection) (c : Process) (parts : List Part) (free : Bool) (u : Summary)
    → shown_items refused (account_by c parts).items ≡ []
    → shown_items refused (connection_items n c parts free u) ≡ shown_items refused (leaving_items free c.name u)
plain_shown refused n c parts free u none =
    shown_append refused (account_by c parts).items (leaving_items free c.name u)
    ∙ ap (λ (xs : List Item). xs ++ shown_items refused (leaving_items free c.name u)) none

-- It is cut, or stands, before its process is known.
pub quiet_past : (n : Connection) (c : Process) (parts : List Part) (u : Summary)
    (list : List Item) (sent : List told.Item) (history : List Event)
    → n.reselected ≡ true → ((refused : List Name) (q : Process) → shown_items refused (account_by q parts).items ≡ [])
    → IsPast list sent history → IsPast (list ++ connection_items n c parts false u) sent history
quiet_past n c parts u list sent history again none past =
    openly_past list (connection_items n c parts false u) sent [] history (record {
      names = connection_names n c parts false u ∙ ap (λ (q : Bool). if q then [] else c.name ∷ []) again;
      shown = λ refused sent names. plain_shown refused n c parts false u (none refused c);
    }) tt past

-- That of an abort line, with its event as BUS FREE comes.
pub abort_past : (n : Connection) (c : Process) (parts : List Part) (free : Bool) (u : Summary)
    (m : ℕ) (conn : List Event) (list : List Item) (sent : List told.Item) (history : List Event)
    → n.reselected ≡ false → ((refused : List Name) (q : Process) → shown_items refused (account_by q parts).items ≡ [])
    → AreEventsSent (sent ++ told.abort m ∷ []) conn
    → ((refused : List Name) (sent : List told.Item) (names : List Name)
    → shown_items refused (leaving_items free c.name u) ≡ named_events sent names (reverse conn))
    → IsPast list sent history
    → IsPast (list ++ connection_items n c parts free u) (sent ++ told.abort m ∷ []) (conn ++ history)
abort_past n c parts free u m conn list sent history began none known shown past =
    past_more list (connection_items n c parts free u) sent (told.abort m ∷ []) conn history past (record {
      count = ap length (connection_names n c parts free u ∙ ap (λ (q : Bool). if q then [] else c.name ∷ []) began);
      known = known;
      numbers =
          λ id name e. none_some name (sym (abort_named m (names_begun (connection_items n c parts free u)) id) ∙ e);
      shown = λ refused r. plain_shown refused n c parts free u (none refused c) ∙ shown refused
          (sent ++ told.abort m ∷ []) (names_begun list ++ names_begun (connection_items n c parts free u));
    })
