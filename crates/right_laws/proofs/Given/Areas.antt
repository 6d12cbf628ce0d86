-- As a byte of a data phase crosses it comes into the data that the process carries (6.1.5, 6.6.19).
use Rattle.right_laws.proofs
use proofs.Names.{ℕ, ◌≡◌, true, false, ◌%◌, ◌∙◌, Option, Some, ap, if◌then◌else◌, is_some, ProcId, is_command, is_data}
use proofs.Names.{receiver_in, Row, Change, Connection, ScenarioValue, RowReading, Area, CarriedBytes, area_with}
use proofs.Names.{carried_of, link_events, process, Link, Story, story_after_out, story_after_in, story_after_byte}
use proofs.Names.{story_in_connection, RunState, carried_here, run_state_after, IsRowIn, reading_in, byte_moves}
use proofs.{Names.{byte_story, story_row, Load, load}, Ran.{Blocks.{lasting_by}, Lasting.{events_last}}}
use proofs.Statuses.Areas.{none_out, none_in}

pub moved_crosses :
    (s : ScenarioValue) (k : RunState) (row : Row) (n : Connection) (c : Change) (l : Link) (id : ProcId)
    → IsRowIn k row n c → is_some (receiver_in n c) ≡ true → k.story.link ≡ Some l
    → l.item ≡ Some (process id) → c.before.msg ≡ false → is_command c.before ≡ false → is_data c.before ≡ true
    → (carried_here (run_state_after s k row) id).moved.bytes
    ≡ (area_with (carried_here k id).moved (c.after.data_bits % 256)).bytes
moved_crosses s k row n c l id r en link item msg e f =
    let byte : ℕ = c.after.data_bits % 256 in
    let d : RowReading = reading_in k.story.bus_state n c true in
    ap (λ (b : Story). (carried_of b.carried id).moved.bytes) (story_row s k row n c true r en)
    ∙ events_last (λ (x : CarriedBytes). (load x).moved) (lasting_by (λ (x : Load). x.moved)) s
    (story_in_connection s k.story k.story.link d row) (link_events s k.story k.story.link d) id
    ∙ ap (λ (x : Option Link). (carried_of (story_in_connection s k.story x d row).carried id).moved.bytes) link
    ∙ (λ i. (carried_of (if is_some (none_out k c msg i) then story_after_out k.story l (none_out k c msg i)
    else if is_some (none_in k c msg i) then story_after_in s k.story l (none_in k c msg i)
    else story_after_byte k.story l d).carried id).moved.bytes)
    ∙ ap (λ (x : CarriedBytes). x.moved.bytes) (byte_story k.story l d id item msg)
    ∙ ap (λ (x : Area). x.bytes) (byte_moves (carried_here k id) c.before byte e f)
