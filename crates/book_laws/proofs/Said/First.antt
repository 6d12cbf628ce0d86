-- A connection begins: what the initiator says first is what it was made for.
use Rattle.book_laws.proofs
use proofs.Names.{ℕ, zero, suc, ◌≡◌, ◌<◌, Bool, true, false, not, ◌&&◌, ◌∙◌, List, [], ◌∷◌, Option, Some, None, refl}
use proofs.Names.{sym, ap, subst, arith, true≢false, inl, inr, cases_Bool, same_Some, if◌then◌else◌, ProcId, LineSet}
use proofs.Names.{is_message_out, Row, Connection, form_out, got_out, out_bytes, MsgOut, reading_out, Dialogue}
use proofs.Names.{is_opening, ScenarioValue, AbortDef, CmdDef, Process, process_of, process_if, process_by, command_at}
use proofs.Names.{row_reading, Item, aim_of, Exchange, no_messages, first_plan, process_opening, abort_opening, Cause}
use proofs.Names.{host_of, opening, RunState, bus_of, run_state_after, first_exchange, exchange_after, served_after}
use proofs.Names.{may_negotiate, item_if, messages_if, leaving_of, ready_of, AreUnits, IsItem, is_process, is_abort}
use proofs.Names.{AimsAreItems, nothing_understood, form_messages, IsFirstRow, SpeaksBy, Speaks}
use proofs.{Carried.Facts.{process_none}, Said.Messages.{opening_reads, abort_opening_reads}}

-- ---- the units that processes and aborts name

pub process_unit : (s : ScenarioValue) (id : ProcId) (t : Process) → AreUnits s → process_of s id ≡ Some t → t.unit < 8
process_unit s id t u e = go (command_at s.commands id.command) refl
  where
    by : (c : CmdDef) (sense : Bool) → (process_by s (record { command = id.command; sense = sense }) c).unit ≡ c.unit
    by c true = refl
    by c false = refl

    go : (c : Option CmdDef) → command_at s.commands id.command ≡ c → t.unit < 8
    go None f = absurd (process_none t (sym (ap (λ (x : Option CmdDef). process_if s id x) f) ∙ e))
    go (Some c) f =
        let same : process_by s id c ≡ t = same_Some (process_by s id c) t
        (sym (ap (λ (x : Option CmdDef). process_if s id x) f) ∙ e) in
        subst (λ (m : ℕ). m < 8) (sym (by c id.sense) ∙ ap (λ (q : Process). q.unit) same) (u.commands id.command c f)

-- ---- the opening of an item

pub record IsOpening (words : List ℕ) : Type 0 where
  pub first : ℕ
  pub rest : List ℕ
  pub some : words ≡ first ∷ rest
  pub whole : form_messages nothing_understood words ≡ true
  pub opens : is_opening (reading_out (got_out (first ∷ []))) ≡ true

-- IDENTIFY may open a connection.
identify_opens : (disc : Bool) (lun : ℕ) → lun < 8
    → is_opening (reading_out (got_out (out_bytes (MsgOut.Identify disc lun)))) ≡ true
unfolding form_out
identify_opens true zero lt = refl
identify_opens disc (suc (suc (suc (suc (suc (suc (suc (suc n)))))))) lt = absurd omega (arith, lt)
identify_opens _ _ lt = refl

pub opening_is : (s : ScenarioValue) (dev : ℕ) (negotiates : Bool) (item : Item) → AreUnits s → IsItem s dev item
    → IsOpening (opening s dev negotiates (Some item))
opening_is s dev negotiates _ u (is_process id p e own) =
    subst (λ (x : Option Process). IsOpening (process_opening (host_of s dev) negotiates x)) (sym e) (record {
      first = _;
      rest = _;
      some = refl;
      whole = opening_reads (host_of s dev) negotiates p (process_unit s id p u e);
      opens = identify_opens (not p.id.sense) p.unit (process_unit s id p u e);
    })
opening_is s dev negotiates _ u (is_abort n a e own) =
    subst (λ (x : Option AbortDef). IsOpening (abort_opening x)) (sym e) (record {
      first = _;
      rest = _;
      some = refl;
      whole = abort_opening_reads a (u.aborts n a e);
      opens = identify_opens false a.unit (u.aborts n a e);
    })

-- ---- the first row

begins_as : (s : ScenarioValue) (n : Connection) (v v' : Option Item) (x x' : Exchange) (d : Dialogue) (b : LineSet)
    → v ≡ v' → x ≡ x' → SpeaksBy s n v' x' d b → SpeaksBy s n v x d b
begins_as s n v v' x x' d b ev ex h = subst (λ (z : Option Item). SpeaksBy s n z x d b) (sym ev)
    (subst (λ (z : Exchange). SpeaksBy s n v' z d b) (sym ex) h)

abbrev first_served : ScenarioValue → RunState → Connection → Option Item
first_served s k n = if n.reselected then item_if (ready_of s k n.target) else aim_of k.story.aims n.initiator

by_way :
    (s : ScenarioValue) (k : RunState) (n : Connection) (item : Option Item) (d : Dialogue) (b : LineSet) (q : Bool)
    → n.reselected ≡ q → AreUnits s → is_message_out b ≡ false
    → (q ≡ false → (i : Item) × (item ≡ Some i) × IsItem s n.initiator i)
    → SpeaksBy s n (if n.reselected then item_if (ready_of s k n.target) else item) (first_exchange s k n item) d b
by_way s k n item d b true e u out known = record {
  before_all = λ f. absurd (true≢false (sym e ∙ f));
  in_message_out = λ f g. absurd (true≢false (sym g ∙ out));
}
by_way s k n item d b false e u out known =
    let aim = known refl in
    let o = opening_is s n.initiator (may_negotiate k n item) aim.0 u aim.2 in
    let negotiates : (not n.reselected && may_negotiate k n item) ≡ may_negotiate k n item = ap
    (λ (r : Bool). not r && may_negotiate k n item) e in
    let plan : (first_exchange s k n item).plan.negotiates ≡ may_negotiate k n item = negotiated n.reselected e in
    let words : (first_exchange s k n item).speech.words ≡ opening s n.initiator (may_negotiate k n item) (Some aim.0) =
    ap (λ (r : Bool). if r then [] else opening s n.initiator (may_negotiate k n item) item) e
    ∙ ap (λ (x : Option Item). opening s n.initiator (may_negotiate k n item) x) aim.1 in
    record {
      before_all = λ f. record {
        cause_is = (elim (cases_Bool n.reselected) [ inl z ↦ rw z | inr z ↦ rw z ]);
        words_are = words ∙ (λ i. opening s n.initiator (sym plan i) (sym aim.1 i))
            ∙ ap (λ (r : Bool). opening s n.initiator (first_exchange s k n item).plan.negotiates
            (if r then item_if (ready_of s k n.target) else item)) (sym e);
        first = o.first;
        rest = o.rest;
        some = words ∙ o.some;
        whole = ap (form_messages nothing_understood) words ∙ o.whole;
      };
      in_message_out = λ f g. absurd (true≢false (sym g ∙ out));
    }
  where
    negotiated : (r : Bool) → r ≡ false → (first_plan r (not r && may_negotiate k n item)
        (if r then messages_if (ready_of s k n.target) else no_messages)).negotiates ≡ may_negotiate k n item
    negotiated true f = absurd (true≢false f)
    negotiated false f = refl

-- A selection is made for an item.
pub speaks_first : (s : ScenarioValue) (k : RunState) (row : Row) (n : Connection) → AreUnits s → AimsAreItems s k
    → IsFirstRow k row n → (n.reselected ≡ false → (item : Item) × (aim_of k.story.aims n.initiator ≡ Some item))
    → Speaks s (run_state_after s k row) n
speaks_first s k row n u aims h aimed =
    let d = row_reading k.story.bus_state row in
    begins_as s n (run_state_after s k row).served (first_served s k n) (run_state_after s k row).exchange
    (first_exchange s k n (aim_of k.story.aims n.initiator)) (run_state_after s k row).story.bus_state.dialogue
    (bus_of (run_state_after s k row)) (λ i. served_after s k (h.connection_is i) (h.next_is i))
    (λ i. exchange_after s k row d (h.connection_is i) (h.next_is i) (leaving_of s k k.story.bus_state.connection))
    (by_way s k n (aim_of k.story.aims n.initiator) (run_state_after s k row).story.bus_state.dialogue
    (bus_of (run_state_after s k row)) n.reselected refl u h.phase
    (λ e. let a = aimed e in (a.0, a.1, aims n.initiator a.0 a.1)))
