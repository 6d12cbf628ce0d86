-- In DATA IN what the target serves and gives stays, with each row of a prompt trace; so the byte that crosses is the
-- one that is due (6.1.5.1, 6.1.5.2).
use Rattle.right_laws.proofs
use proofs.Names.{ℕ, ◌≡◌, Bool, true, false, not, ◌&&◌, ◌%◌, ◌∙◌, List, [], ◌∷◌, Option, Some, None, refl, sym, ap}
use proofs.Names.{if◌then◌else◌, is_some, wrong', Event, LineSet, changes_phase, is_command, is_message_out}
use proofs.Names.{is_message_in, is_fault, receiver_in, Row, Change, Connection, dialogue, byte_out, byte_in, byte_else}
use proofs.Names.{heard_with_command, Dialogue, ScenarioValue, Policy, Process, Array, row_reading, CarriedBytes}
use proofs.Names.{end_events, carried_if, row_events_by, Link, policy_of, data_byte, run_length_if, Task}
use proofs.Names.{run_state_plain, target_def_of, ProcessProgress, progress_in, AreOfDevices, RunState, array_of}
use proofs.Names.{or_start, carried_here, process_item, process_served, run_state, run_state_after, array_after_events}
use proofs.Names.{progress_after, progress_by_leaving, leaving_of, task_with, task_if, task_of, given_if, given_of}
use proofs.Names.{reply_now, InConnection, in_connection, dialogue_by, reading_is, IsRowIn, by_option, no_completion}
use proofs.{Names.{stay_shown}, Offers.Steps.{is_data_in, DataKept}}
use Rattle.due_model.specs.array_model.specs.ArrayHistory as Play

-- ---- what a task tells of the bytes

-- The bytes of a process by the array and by how far it has come, whatever it has carried.
abbrev task_by : Array → List ProcessProgress → CarriedBytes → Option Process → Option Task
task_by a made c None = None
task_by a made c (Some t) =
    Some (task_with a (progress_in made t.id) t c (reply_now a t) (Play.reply_in a.replies t.id))

abbrev given_by : Array → Option Process → List ℕ
given_by a None = []
given_by a (Some c) = (reply_now a c).bytes

bytes_same :
    (policy : Policy) (a b : Array) (m xs : List ProcessProgress) (c d : CarriedBytes) (o : Option Process) (x : ℕ)
    → b ≡ a → xs ≡ m
    → data_byte policy (task_by b xs d o) (given_by b o) 0 x ≡ data_byte policy (task_by a m c o) (given_by a o) 0 x
bytes_same policy a b m xs c d None x e f = refl
bytes_same policy a b m xs c d (Some t) x e f =
    λ i. data_byte policy (task_by (e i) (f i) c (Some t)) (given_by (e i) (Some t)) 0 x

length_same : (policy : Policy) (a b : Array) (m xs : List ProcessProgress) (c d : CarriedBytes) (o : Option Process)
    → b ≡ a → xs ≡ m → run_length_if policy (task_by b xs d o) ≡ run_length_if policy (task_by a m c o)
length_same policy a b m xs c d None e f = refl
length_same policy a b m xs c d (Some t) e f = λ i. run_length_if policy (task_by (e i) (f i) c (Some t))

pub bytes_kept : (s : ScenarioValue) (k j : RunState) (policy : Policy) (x : ℕ)
    → process_served s j ≡ process_served s k → array_of s j ≡ array_of s k → j.progress ≡ k.progress
    → data_byte policy (task_of s j) (given_of s j) 0 x ≡ data_byte policy (task_of s k) (given_of s k) 0 x
bytes_kept s k j policy x served array progress = by_option (process_served s k)
    (λ e. (λ z. data_byte policy (task_if s j ((served ∙ e) z)) (given_if s j ((served ∙ e) z)) 0 x)
    ∙ (λ z. data_byte policy (task_if s k (sym e z)) (given_if s k (sym e z)) 0 x))
    (λ q e. (λ z. data_byte policy (task_if s j ((served ∙ e) z)) (given_if s j ((served ∙ e) z)) 0 x)
    ∙ bytes_same policy (array_of s k) (array_of s j) k.progress j.progress (carried_here k q.id) (carried_here j q.id)
    (Some q) x array progress ∙ (λ z. data_byte policy (task_if s k (sym e z)) (given_if s k (sym e z)) 0 x))

-- ---- a row with which the phase stays

not_message : (b : LineSet) → is_data_in b ≡ true
    → (is_message_in b ≡ false) × (is_message_out b ≡ false) × (is_command b ≡ false)
not_message b e = go b.msg b.cd b.io e
  where
    go : (m d i : Bool) → (not m && not d && i) ≡ true
        → ((m && d && i) ≡ false) × ((m && d && not i) ≡ false) × ((not m && d && not i) ≡ false)
    go true d i z = wrong' z
    go false true i z = wrong' z
    go false false i z = (refl, refl, refl)

pub kept_row : (s : ScenarioValue) (p : List Row) (row : Row) (n : Connection) (c : Change) (l : Link) → AreOfDevices p
    → AreOfDevices (row ∷ p) → IsRowIn (run_state s p) row n c → changes_phase c ≡ false → is_data_in c.before ≡ true
    → (run_state s p).story.link ≡ Some l → DataKept s p (row ∷ p) n
kept_row s p row n c l dv dv2 r ep here link = record {
  bytes = λ x. bytes x;
  long = long;
  agreement = agreement;
}
  where
    k : RunState
    k = run_state s p

    j : RunState
    j = run_state_after s k row

    now : Bool
    now = is_some (receiver_in n c)

    i : InConnection s k row n c false now (is_fault row.kind)
    i = in_connection s k row n c false now (is_fault row.kind) r ep refl refl

    lines : (is_message_in c.before ≡ false) × (is_message_out c.before ≡ false) × (is_command c.before ≡ false)
    lines = not_message c.before here

    shown : row_events_by s k.story (row_reading k.story.bus_state row) row ≡ []
    shown = stay_shown s k row n c l now r ep refl link
        ∙ ap (λ (q : Bool). if q then end_events (carried_if k.story l.item) else []) (no_completion l c lines.0)

    array : array_of s j ≡ array_of s k
    array = ap (λ (x : List Event). or_start s (array_after_events s k.array x)) shown

    progress : j.progress ≡ k.progress
    progress = (λ z. progress_after s k (reading_is k row n c now r refl z) (r.connection_is z)
        (reading_is k row n c now r refl z).next (leaving_of s k k.story.bus_state.connection))
        ∙ ap (λ (q : Bool). if q && k.exchange.begun
        then progress_by_leaving k (process_served s k) (leaving_of s k k.story.bus_state.connection) else k.progress)
        ep

    served : process_served s j ≡ process_served s k
    served = ap (process_item s) i.served_is

    policy : Policy
    policy = policy_of (target_def_of s n.target)

    bytes :
        (x : ℕ) → data_byte policy (task_of s j) (given_of s j) 0 x ≡ data_byte policy (task_of s k) (given_of s k) 0 x
    bytes x = bytes_kept s k j policy x served array progress

    long : run_length_if policy (task_of s j) ≡ run_length_if policy (task_of s k)
    long = by_option (process_served s k) (λ e. (λ z. run_length_if policy (task_if s j ((served ∙ e) z)))
        ∙ (λ z. run_length_if policy (task_if s k (sym e z))))
        (λ q e. (λ z. run_length_if policy (task_if s j ((served ∙ e) z))) ∙ length_same policy (array_of s k)
        (array_of s j) k.progress j.progress (carried_here k q.id) (carried_here j q.id) (Some q) array progress
        ∙ (λ z. run_length_if policy (task_if s k (sym e z))))

    heard : (q : Bool) (d : Dialogue) → (dialogue_by false q c d).heard.now.agreement ≡ d.heard.now.agreement
    heard false d = refl
    heard true d = (λ z. (if lines.1 z then byte_out d (c.after.data_bits % 256) (not c.after.atn)
        else if lines.0 z then byte_in d (c.after.data_bits % 256)
        else byte_else d c.before (c.after.data_bits % 256)).heard.now.agreement)
        ∙ ap (λ (x : Bool).
        (if x then record d { heard = heard_with_command d.heard (c.after.data_bits % 256); begun = true }
        else record d { begun = true }).heard.now.agreement) lines.2

    agreement : (dialogue (row ∷ p)).heard.now.agreement ≡ (dialogue p).heard.now.agreement
    agreement =
        ap (λ (d : Dialogue). d.heard.now.agreement) (sym (run_state_plain s (row ∷ p) dv2).dialogue ∙ i.dialogue_is)
        ∙ heard now k.story.bus_state.dialogue
        ∙ ap (λ (d : Dialogue). d.heard.now.agreement) (run_state_plain s p dv).dialogue
