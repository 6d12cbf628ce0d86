-- A reselection begins: the target has its names to say, and they find a process (6.1.4, 6.6.7, 6.6.17).
use Rattle.story_laws.proofs
use proofs.Names.{ℕ, zero, suc, ◌≡◌, ◌+◌, Bool, true, false, not, ◌&&◌, ◌==◌, ◌∙◌, List, [], ◌∷◌, Option, Some, None}
use proofs.Names.{refl, sym, ap, arith, one-add, same_Some, if◌then◌else◌, is_some, wrong', eq_self, Event, rises, Row}
use proofs.Names.{Connection, ScenarioValue, CmdDef, Tag, number_same, same_number, tag_number, Process, command_at}
use proofs.Names.{process_by, process_if, process_of, events_link, RowReading, row_reading, link_events, row_events_by}
use proofs.Names.{process, Sent, has_item, command_item, is_open, sense_item, link_of, is_of_nexus, is_open_sense}
use proofs.Names.{named_item, named_item_from, story_after_events, aim_of, story_with_restored, story_with_sent}
use proofs.Names.{story_by_change, story_on_bus, RunState, run_state_after, IsFirstRow, none_some, plus_one, by_option}
use proofs.Names.{IsFoundBy}

-- ---- a command that is open is found by its nexus

is_found : (b : Sent) (i t u : ℕ) (tag : Option ℕ) (l w : ℕ) (c : CmdDef) (commands : List CmdDef)
    → command_at commands (suc w) ≡ Some c → is_of_nexus c i t u ≡ true → is_open b (l + w) ≡ true
    → same_number (tag_number c.tag) tag ≡ true → is_some (named_item_from b i t u tag l commands) ≡ true
is_found b i t u tag l w c [] e nexus open_is same = absurd (none_some c e)
is_found b i t u tag l zero c (d ∷ commands) e nexus open_is same =
    let first : d ≡ c = same_Some d c e in
    ap (λ (q : Bool). is_some (if q then Some (command_item l)
    else if is_of_nexus d i t u && is_open_sense b l && same_number None tag then Some (sense_item l)
    else named_item_from b i t u tag (l + 1) commands))
    ((λ k. is_of_nexus (first k) i t u && is_open b l && same_number (tag_number (first k).tag) tag)
    ∙ (λ k. nexus k && (ap (is_open b) (zero_more l) ∙ open_is) k && same k))
  where
    zero_more : (m : ℕ) → m ≡ m + 0
    zero_more m = omega arith
is_found b i t u tag l (suc w) c (d ∷ commands) e nexus open_is same = go (is_of_nexus d i t u && is_open b l
    && same_number (tag_number d.tag) tag) (is_of_nexus d i t u && is_open_sense b l && same_number None tag)
    (is_found b i t u tag (l + 1) w c commands e nexus (ap (is_open b) (sym (plus_one l w)) ∙ open_is) same)
  where
    go : (q r : Bool) → is_some (named_item_from b i t u tag (l + 1) commands) ≡ true
        → is_some (if q then Some (command_item l)
        else if r then Some (sense_item l) else named_item_from b i t u tag (l + 1) commands) ≡ true
    go true r z = refl
    go false true z = refl
    go false false z = z

record IsCommand (s : ScenarioValue) (c : Process) : Type 0 where
  line : CmdDef
  line_is : command_at s.commands c.id.command ≡ Some line
  is : process_by s c.id line ≡ c

command_of_process : (s : ScenarioValue) (t : Process) → process_of s t.id ≡ Some t → IsCommand s t
command_of_process s t e = by_option (command_at s.commands t.id.command)
    (λ f. absurd (none_process (sym (ap (process_if s t.id) f) ∙ e))) (λ c f. record {
      line = c;
      line_is = f;
      is = same_Some (process_by s t.id c) t (sym (ap (process_if s t.id) f) ∙ e);
    })
  where
    none_process : (let a : Option Process = None in a) ≡ Some t → ⊥
    none_process z = cc

-- What the names of an open command find.
pub found_by : (s : ScenarioValue) (b : Sent) (n : Connection) (y : Process) → process_of s y.id ≡ Some y
    → y.id.sense ≡ false → has_item b.sent (process y.id) ≡ true → has_item b.over (process y.id) ≡ false
    → y.initiator ≡ n.initiator → y.target ≡ n.target → IsFoundBy s n b y
found_by s b n y e command sent over ei et l li lt lu = by y.id.command refl
  where
    c : IsCommand s y
    c = command_of_process s y e

    host : c.line.host ≡ l.initiator
    host = sym (λ i. (process_by s (record { command = y.id.command; sense = command i }) c.line).initiator)
        ∙ ap (λ (x : Process). x.initiator) c.is ∙ ei ∙ sym li

    target : c.line.target ≡ l.target
    target = sym (λ i. (process_by s (record { command = y.id.command; sense = command i }) c.line).target)
        ∙ ap (λ (x : Process). x.target) c.is ∙ et ∙ sym lt

    unit : c.line.unit ≡ l.unit
    unit = sym (λ i. (process_by s (record { command = y.id.command; sense = command i }) c.line).unit)
        ∙ ap (λ (x : Process). x.unit) c.is ∙ sym lu

    nexus : is_of_nexus c.line l.initiator l.target l.unit ≡ true
    nexus = (λ i. host i == l.initiator && target i == l.target && unit i == l.unit)
        ∙ (λ i. eq_self l.initiator i && eq_self l.target i && eq_self l.unit i)

    tag : same_number (tag_number c.line.tag) (tag_number y.tag) ≡ true
    tag = ap (λ (t : Tag). same_number (tag_number t) (tag_number y.tag))
        (sym (λ i. (process_by s (record { command = y.id.command; sense = command i }) c.line).tag)
        ∙ ap (λ (x : Process). x.tag) c.is) ∙ number_same (tag_number y.tag)

    id_is : y.id ≡ record { command = y.id.command; sense = false }
    id_is = λ i. record { command = y.id.command; sense = command i }

    is_open_there : is_open b y.id.command ≡ true
    is_open_there = (λ i. has_item b.sent (process (sym id_is i)) && not (has_item b.over (process (sym id_is i))))
        ∙ (λ i. sent i && not (over i))

    zero_none : (commands : List CmdDef) → command_at commands zero ≡ None
    zero_none [] = refl
    zero_none (x ∷ commands) = refl

    by : (m : ℕ) → y.id.command ≡ m → is_some (named_item b s.commands l (tag_number y.tag)) ≡ true
    by zero z = absurd (none_some c.line (sym (zero_none s.commands) ∙ ap (command_at s.commands) (sym z) ∙ c.line_is))
    by (suc w) z = is_found b l.initiator l.target l.unit (tag_number y.tag) 1 w c.line s.commands
        (ap (command_at s.commands) (sym z) ∙ c.line_is) nexus (ap (is_open b) (one-add w ∙ sym z) ∙ is_open_there) tag

-- ---- the first row

-- No command is sent with it.
pub first_sent : (s : ScenarioValue) (k : RunState) (row : Row) (n : Connection) → IsFirstRow k row n
    → k.story.link ≡ None → n.reselected ≡ true → (run_state_after s k row).story.sent ≡ k.story.sent
first_sent s k row n h none re =
    let d : RowReading = row_reading k.story.bus_state row in
    (λ i. (story_after_events s (if h.calm i then record k.story { link = None }
    else story_on_bus s k.story (h.connection_is i) (h.next_is i) d row)
    (if h.calm i then (if rises d.change.own.rst d.change.next.rst then Event.Reset row.dev ∷ [] else [])
    else link_events s k.story (none i) d)).sent) ∙ by n.reselected re
  where
    by : (q : Bool) → q ≡ true → (if q then record k.story { link = Some (link_of n None) }
        else story_with_restored (story_with_sent (record k.story {
          link = Some (link_of n (aim_of k.story.aims n.initiator));
        }) (aim_of k.story.aims n.initiator)) (aim_of k.story.aims n.initiator)).sent ≡ k.story.sent
    by true e = refl
    by false e = wrong' e

-- The connection is of no process yet.
pub first_link : (s : ScenarioValue) (k : RunState) (row : Row) (n : Connection) → IsFirstRow k row n
    → n.reselected ≡ true → (run_state_after s k row).story.link ≡ Some (link_of n None)
first_link s k row n h re =
    let d : RowReading = row_reading k.story.bus_state row in
    events_link s (story_by_change s k.story d row) (row_events_by s k.story d row)
    ∙ (λ i. (if h.calm i then record k.story { link = None }
    else story_on_bus s k.story (h.connection_is i) (h.next_is i) d row).link)
    ∙ by n.reselected re
  where
    by : (q : Bool) → q ≡ true → (if q then record k.story { link = Some (link_of n None) }
        else story_with_restored (story_with_sent (record k.story {
          link = Some (link_of n (aim_of k.story.aims n.initiator));
        }) (aim_of k.story.aims n.initiator)) (aim_of k.story.aims n.initiator)).link ≡ Some (link_of n None)
    by true e = refl
    by false e = wrong' e
