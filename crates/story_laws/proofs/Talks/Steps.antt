-- What holds of the process of a connection goes on with each row of it: on what is said, the lines and the link alone.
use Rattle.story_laws.proofs
use proofs.Names.{inl, inr, ℕ, ◌≡◌, ◌⊎◌, ◌<◌, Bool, true, false, not, ◌&&◌, ◌||◌, ◌∙◌, List, length, Some, refl, sym}
use proofs.Names.{ap, subst, arith, not-true, and_parts, wrong, wrong', counted_on, ProcId, rises, falls, LineSet}
use proofs.Names.{is_message_in, is_message_out, Connection, is_abort, MsgIn, MsgOut, ScenarioValue, Process}
use proofs.Names.{is_complete, Item, process, has_item, Sent, Link, last_out, last_in, link_after_name, Story}
use proofs.Names.{bytes_of_messages, Messages, Next, not_both, OnMessages, less_apart, or_first, by_bool}
use proofs.Names.{is_complete_in, is_disconnect_in, frees_bus, plans_well, is_sense_item, is_plain, Talk, awaits}
use proofs.{Names.{HasEnded, last_well, IsNameOf, HasNames, TalksBy, IsTaken}, Items.Row.{heard_link}}
use proofs.Named.Steps.{out_last}
use Rattle.row_laws.specs.ItemTalks.{IsUnnamed}

-- ---- lines

-- REQ and ACK of a phase in which bytes cross one by one (6.1.5.1).
pub record Alternates (b a : LineSet) : Type 0 where
  pub asks : rises b.req a.req ≡ true → not b.ack ≡ true
  pub ends_asking : falls b.req a.req ≡ true → b.ack ≡ true
  pub answers : rises b.ack a.ack ≡ true → b.req ≡ true
  pub ends_answer : falls b.ack a.ack ≡ true → not b.req ≡ true

none_awaits : (r a r' a' : Bool) → (r && not a) ≡ false → rises r r' ≡ false
    → (falls a a' ≡ true → not r ≡ true) → (r' && not a') ≡ false
none_awaits r a false a' e q f = refl
none_awaits r a true true e q f = refl
none_awaits false a true false e q f = wrong q
none_awaits true false true false e q f = wrong e
none_awaits true true true false e q f = wrong' (f refl)

still_awaits : (r a r' a' : Bool) → (r && not a) ≡ true → rises a a' ≡ false
    → (falls r r' ≡ true → a ≡ true) → (r' && not a') ≡ true
still_awaits true false true false e q f = refl
still_awaits true false true true e q f = wrong q
still_awaits true false false a' e q f = wrong' (f refl)
still_awaits true true r' a' e q f = wrong' e
still_awaits false a r' a' e q f = wrong' e

-- ---- no byte crosses, and the phase stays

-- With the completion of a command the process of the link is over.
pub record Completes (l : Link) (b a : LineSet) : Type 0 where
  pub last : is_complete l.last ≡ true
  pub here : is_message_in b ≡ true
  pub calm : a.atn ≡ false
  pub answered : a.ack ≡ true

pub record StaysPhase (n : Connection) (l : Link) (t : Talk) (b : LineSet) (requests : ℕ) (over : List Item) : Type
    0 where
  pub in_same : is_message_in b ≡ is_message_in t.bus
  pub out_same : is_message_out b ≡ is_message_out t.bus
  pub requests_are : is_message_in t.bus ≡ true → requests ≡ t.requests
  pub over_by : (i : Item) → has_item over i ≡ true → (has_item t.over i ≡ true) ⊎ Completes l t.bus b
  pub grows : (i : Item) → has_item t.over i ≡ true → has_item over i ≡ true
  pub ends : n.reselected ≡ false → is_complete l.last ≡ true → is_message_in t.bus ≡ true
      → rises t.bus.ack b.ack ≡ true → b.atn ≡ false → (id : ProcId) → t.served ≡ Some (process id)
      → has_item over (process id) ≡ true
  pub attends : is_message_in t.bus ≡ true → awaits t.bus ≡ false → b.atn ≡ t.bus.atn
  pub alternates : is_message_in t.bus ≡ true → Alternates t.bus b
  pub quiet : is_message_in t.bus ≡ true → rises t.bus.req b.req ≡ false

-- What names a process goes on to do so where the messages and the unit still do.
named_as : (s : ScenarioValue) (t u : Talk) (n : Connection) (l m : Link) → u.served ≡ t.served → (e : HasNames s t n l)
    → OnMessages (IsNameOf e.named) u.messages → (m.unit ≡ e.named.unit) ⊎ IsUnnamed u e.named → HasNames s u n m
named_as s t u n l m same e messages unit = record {
  named = e.named;
  served_is = same ∙ e.served_is;
  is = e.is;
  command = e.command;
  initiator_is = e.initiator_is;
  target_is = e.target_is;
  messages = messages;
  unit = unit;
}

pub stays_by :
    (s : ScenarioValue) (t : Talk) (n : Connection) (l : Link) (b : LineSet) (requests : ℕ) (over : List Item)
    → StaysPhase n l t b requests over → TalksBy s t n l
    → TalksBy s (record t { bus = b; requests = requests; over = over }) n l
stays_by s t n l b requests over w h = record {
  planned = h.planned;
  last = h.last;
  completes = λ z. elim (h.completes z) [ inl g ↦ inl (taken g) | inr g ↦ inr (w.out_same ∙ g.0, g.1) ];
  over = λ i e f. elim (w.over_by i f) [ inl z ↦ ended (h.over i e z) | inr z ↦ completed z ];
  closes = λ rs z here id e. closing rs z (sym w.in_same ∙ here) id e;
  selected = h.selected;
  names = λ r. naming (h.names r);
}
  where
    u : Talk
    u = record t { bus = b; requests = requests; over = over }

    taken : IsTaken t → IsTaken u
    taken g =
        record { here = w.in_same ∙ g.here; begun = g.begun; next_is = g.next_is; all = w.requests_are g.here ∙ g.all }

    ended : HasEnded t → HasEnded u
    ended g = record {
      taken = taken g.taken;
      calm = w.attends g.taken.here g.answered ∙ g.calm;
      answered = none_awaits t.bus.req t.bus.ack b.req b.ack g.answered (w.quiet g.taken.here)
          (w.alternates g.taken.here).ends_answer;
    }

    and_not : (q : Bool) → (q && not true) ≡ false
    and_not true = refl
    and_not false = refl

    completed : Completes l t.bus b → HasEnded u
    completed z = elim (h.completes z.last) [
      | inl g ↦ record { taken = taken g; calm = z.calm; answered = (λ i. b.req && not (z.answered i)) ∙ and_not b.req }
      | inr g ↦ not_both t.bus z.here g.0
    ]

    closing : n.reselected ≡ false → is_complete l.last ≡ true → is_message_in t.bus ≡ true → (id : ProcId)
        → t.served ≡ Some (process id) → (has_item over (process id) ≡ true) ⊎ ((b.atn ≡ true) ⊎ (awaits b ≡ true))
    closing rs z here id e = go (awaits t.bus) refl (h.closes rs z here id e)
      where
        answer : (q : Bool) → rises t.bus.ack b.ack ≡ q → (r : Bool) → b.atn ≡ r → awaits t.bus ≡ true
            → (has_item over (process id) ≡ true) ⊎ ((b.atn ≡ true) ⊎ (awaits b ≡ true))
        answer true x true y a = inr (inl y)
        answer true x false y a = inl (w.ends rs z here x y id e)
        answer false x r y a =
            inr (inr (still_awaits t.bus.req t.bus.ack b.req b.ack a x (w.alternates here).ends_asking))

        go : (q : Bool) → awaits t.bus ≡ q
            → (has_item t.over (process id) ≡ true) ⊎ ((t.bus.atn ≡ true) ⊎ (awaits t.bus ≡ true))
            → (has_item over (process id) ≡ true) ⊎ ((b.atn ≡ true) ⊎ (awaits b ≡ true))
        go q x (inl y) = inl (w.grows (process id) y)
        go true x (inr y) = answer (rises t.bus.ack b.ack) refl b.atn refl x
        go false x (inr (inl y)) = inr (inl (w.attends here x ∙ y))
        go false x (inr (inr y)) = wrong (sym y ∙ x)

    naming : HasNames s t n l → HasNames s u n l
    naming g = named_as s t u n l l refl g g.messages (elim g.unit [
      | inl e ↦ inl e
      | inr v ↦ inr (record {
        here = w.in_same ∙ v.here;
        begun = v.begun;
        none_asked = w.requests_are v.here ∙ v.none_asked;
        first = v.first;
        small = v.small;
      })
    ])

-- ---- a byte of MESSAGE IN crosses

pub record CrossesIn (t : Talk) (b : LineSet) (requests : ℕ) : Type 0 where
  pub here : is_message_in t.bus ≡ true
  pub in_same : is_message_in b ≡ true
  pub begun : t.begun ≡ true
  pub more : t.requests < length (bytes_of_messages t.messages)
  pub requests_are : requests ≡ counted_on t.requests
  pub waits : awaits b ≡ true

-- Nothing is complete, or over, while one is to come.
pub incomplete : (s : ScenarioValue) (t : Talk) (n : Connection) (l : Link) (b : LineSet) (requests : ℕ)
    → CrossesIn t b requests → TalksBy s t n l → is_complete l.last ≡ false
incomplete s t n l b requests w h = by_bool (is_complete l.last) (λ e. elim (h.completes e) [
  | inl k ↦ less_apart t.requests (length (bytes_of_messages t.messages)) w.more k.all
  | inr k ↦ not_both t.bus w.here k.0
]) (λ e. e)

pub unended : {A : Type 0} (s : ScenarioValue) (t : Talk) (n : Connection) (l : Link) (b : LineSet) (requests : ℕ)
    → CrossesIn t b requests → TalksBy s t n l → (i : Item) → t.served ≡ Some i → has_item t.over i ≡ true → A
unended s t n l b requests w h i e f =
    less_apart t.requests (length (bytes_of_messages t.messages)) w.more (h.over i e f).taken.all

-- No message is whole with it.
pub in_part : (s : ScenarioValue) (t : Talk) (n : Connection) (l : Link) (b : LineSet) (requests : ℕ)
    → CrossesIn t b requests → ((c : Process) → IsUnnamed t c → ⊥) → TalksBy s t n l
    → TalksBy s (record t { bus = b; requests = requests }) n l
in_part s t n l b requests w none h = record {
  planned = h.planned;
  last = h.last;
  completes = λ z. wrong (sym z ∙ incomplete s t n l b requests w h);
  over = λ i e f. unended s t n l b requests w h i e f;
  closes = λ rs z here id e. wrong (sym z ∙ incomplete s t n l b requests w h);
  selected = h.selected;
  names = λ r. naming (h.names r);
}
  where
    naming : HasNames s t n l → HasNames s (record t { bus = b; requests = requests }) n l
    naming g = named_as s t (record t { bus = b; requests = requests }) n l l refl g g.messages
        (elim g.unit [ inl e ↦ inl e | inr v ↦ absurd (none g.named v) ])

-- A message is whole with it: one of those that are planned.
pub record HearsWell (t : Talk) (m : MsgIn) : Type 0 where
  pub stays : is_sense_item t.served ≡ true → is_disconnect_in (Some m) ≡ false
  pub completes : is_complete_in (Some m) ≡ true
      → (frees_bus t.next ≡ true) × (length (bytes_of_messages t.messages) ≡ 1)
  pub names : (c : Process) → OnMessages (IsNameOf c) t.messages → IsNameOf c m
  pub first : (c : Process) → IsUnnamed t c → m ≡ MsgIn.Identify c.unit

complete_is : (m : MsgIn) → is_complete (last_in m) ≡ true → is_complete_in (Some m) ≡ true
complete_is MsgIn.CommandComplete e = refl
complete_is _ e = wrong' e

stays_in : (m : MsgIn) → is_disconnect_in (Some m) ≡ false → (is_plain (last_in m) || is_complete (last_in m)) ≡ true
stays_in MsgIn.Disconnect e = wrong e
stays_in _ e = refl

-- Of an automatic REQUEST SENSE the last message is plain, where it is not COMMAND COMPLETE.
pub plain_last : (sense : Bool) (l : Link) → last_well sense l ≡ true → sense ≡ true
    → (is_plain l.before ≡ true) × ((is_plain l.last || is_complete l.last) ≡ true)
plain_last true l e f = and_parts (is_plain l.before) (is_plain l.last || is_complete l.last)
    (and_parts (not (is_complete l.before)) (is_plain l.before && (is_plain l.last || is_complete l.last)) e).1
plain_last false l e f = wrong' f

make_last : (sense : Bool) (l : Link) → is_complete l.before ≡ false
    → (sense ≡ true → (is_plain l.before ≡ true) × ((is_plain l.last || is_complete l.last) ≡ true))
    → last_well sense l ≡ true
make_last true l e f = let w = f refl in λ i. not (e i) && (false || (w.0 i && w.1 i))
make_last false l e f = (λ i. not (e i) && true)

small_count : (a : ℕ) → a < 1 → counted_on a ≡ 1
small_count a lt = let e : a ≡ 0 = omega (arith, lt) in ap counted_on e

pub heard_unit : (s : ScenarioValue) (b : Sent) (l : Link) (m : MsgIn) (c : Process) → l.unit ≡ c.unit → IsNameOf c m
    → (link_after_name b s.commands l m).unit ≡ c.unit
heard_unit s b l (MsgIn.Identify lun) c e f = f
heard_unit s b l _ c e f = e

pub in_whole :
    (s : ScenarioValue) (story : Story) (t : Talk) (n : Connection) (l : Link) (m : MsgIn) (b : LineSet) (requests : ℕ)
    → CrossesIn t b requests → HearsWell t m → TalksBy s t n l
    → TalksBy s (record t { bus = b; requests = requests }) n (heard_link s story l m)
in_whole s story t n l m b requests w hears h = record {
  planned = h.planned;
  last = make_last (is_sense_item t.served) (heard_link s story l m) before
      (λ z. let g = plain_last (is_sense_item t.served) l h.last z in
      (or_first (is_plain l.last) (is_complete l.last) g.1 before, stays_in m (hears.stays z)));
  completes = λ z.
      let g = hears.completes (complete_is m z) in
      inl (record {
        here = w.in_same;
        begun = w.begun;
        next_is = g.0;
        all = w.requests_are ∙ small_count t.requests (subst (λ (x : ℕ). t.requests < x) g.1 w.more) ∙ sym g.1;
      });
  over = λ i e f. unended s t n l b requests w h i e f;
  closes = λ rs z here id e. inr (inr w.waits);
  selected = h.selected;
  names = λ r. naming (h.names r);
}
  where
    before : is_complete l.last ≡ false
    before = incomplete s t n l b requests w h

    naming : HasNames s t n l → HasNames s (record t { bus = b; requests = requests }) n (heard_link s story l m)
    naming g = named_as s t (record t { bus = b; requests = requests }) n l (heard_link s story l m) refl g g.messages
        (inl (elim g.unit [
          | inl e ↦ heard_unit s story.sent l m g.named e (hears.names g.named g.messages)
          | inr v ↦ ap (λ (x : MsgIn). (link_after_name story.sent s.commands l x).unit) (hears.first g.named v)
        ]))

-- ---- a byte of MESSAGE OUT crosses

out_closed : {A : Type 0} (s : ScenarioValue) (t : Talk) (n : Connection) (l : Link) → is_message_out t.bus ≡ true
    → TalksBy s t n l → (i : Item) → t.served ≡ Some i → has_item t.over i ≡ true → A
out_closed s t n l out h i e f = not_both t.bus (h.over i e f).taken.here out

out_named : (s : ScenarioValue) (t : Talk) (n : Connection) (l m : Link) (b : LineSet) (requests : ℕ) (last : Bool)
    → is_message_out t.bus ≡ true → m.unit ≡ l.unit → HasNames s t n l
    → HasNames s (record t { bus = b; requests = requests; is_last = last }) n m
out_named s t n l m b requests last out same h = named_as s t
    (record t { bus = b; requests = requests; is_last = last }) n l m refl h h.messages
    (elim h.unit [ inl e ↦ inl (same ∙ e) | inr v ↦ not_both t.bus v.here out ])

-- No message is whole with it; after the last byte one is.
pub out_part : (s : ScenarioValue) (t : Talk) (n : Connection) (l : Link) (b : LineSet) (requests : ℕ) (last : Bool)
    → is_message_out t.bus ≡ true → is_message_out b ≡ true → last ≡ false → TalksBy s t n l
    → TalksBy s (record t { bus = b; requests = requests; is_last = last }) n l
out_part s t n l b requests last out out' unfinished h = record {
  planned = h.planned;
  last = h.last;
  completes = λ z. inr (out', unfinished);
  over = λ i e f. out_closed s t n l out h i e f;
  closes = λ rs z here id e. not_both b here out';
  selected = h.selected;
  names = λ r. out_named s t n l l b requests last out refl (h.names r);
}

out_plain : (m : MsgOut) (l : Link) → is_plain l.before ≡ true → is_abort m ≡ false
    → (is_plain (last_out m l) || is_complete (last_out m l)) ≡ true
out_plain MsgOut.Abort l e f = wrong f
out_plain MsgOut.AbortTag l e f = wrong f
out_plain MsgOut.ClearQueue l e f = wrong f
out_plain MsgOut.DeviceReset l e f = wrong f
out_plain MsgOut.ParityError l e f = λ i. e i || is_complete l.before
out_plain _ l e f = refl

pub last_before : (sense : Bool) (l : Link) → last_well sense l ≡ true → is_complete l.before ≡ false
last_before sense l e = not-true (is_complete l.before) (and_parts (not (is_complete l.before))
    (not sense || (is_plain l.before && (is_plain l.last || is_complete l.last))) e).0

pub out_whole :
    (s : ScenarioValue) (t : Talk) (n : Connection) (l : Link) (m : MsgOut) (b : LineSet) (requests : ℕ) (last : Bool)
    → is_message_out t.bus ≡ true → is_message_out b ≡ true
    → (is_sense_item t.served ≡ true → is_abort m ≡ false) → TalksBy s t n l
    → TalksBy s (record t { bus = b; requests = requests; is_last = last }) n (record l { last = last_out m l })
out_whole s t n l m b requests last out out' whole h = record {
  planned = h.planned;
  last = make_last (is_sense_item t.served) (record l { last = last_out m l }) before
      (λ z. let k = plain_last (is_sense_item t.served) l h.last z in (k.0, out_plain m l k.0 (whole z)));
  completes = λ z. wrong (sym z ∙ out_last m l before);
  over = λ i e f. out_closed s t n l out h i e f;
  closes = λ rs z here id e. not_both b here out';
  selected = h.selected;
  names = λ r. out_named s t n l (record l { last = last_out m l }) b requests last out refl (h.names r);
}
  where
    before : is_complete l.before ≡ false
    before = last_before (is_sense_item t.served) l h.last

-- ---- a byte of another phase crosses

pub other_crosses : (s : ScenarioValue) (t : Talk) (n : Connection) (l : Link) (b : LineSet) (requests : ℕ)
    → is_message_in t.bus ≡ false → is_message_out t.bus ≡ false → is_message_in b ≡ false → TalksBy s t n l
    → TalksBy s (record t { bus = b; requests = requests }) n l
other_crosses s t n l b requests ein eout ein' h = record {
  planned = h.planned;
  last = h.last;
  completes = λ z. elim (h.completes z) [ inl g ↦ wrong (sym g.here ∙ ein) | inr g ↦ wrong (sym g.0 ∙ eout) ];
  over = λ i e f. wrong (sym (h.over i e f).taken.here ∙ ein);
  closes = λ rs z here id e. wrong (sym here ∙ ein');
  selected = h.selected;
  names = λ r. naming (h.names r);
}
  where
    naming : HasNames s t n l → HasNames s (record t { bus = b; requests = requests }) n l
    naming g = named_as s t (record t { bus = b; requests = requests }) n l l refl g g.messages
        (elim g.unit [ inl e ↦ inl e | inr v ↦ wrong (sym v.here ∙ ein) ])

-- ---- the phase changes

pub record TurnsTo (t : Talk) (l : Link) (b : LineSet) (messages : Messages) (next : Next) : Type 0 where
  pub planned : plans_well (is_sense_item t.served) messages next ≡ true
  pub taken : IsTaken t → (t.bus.atn ≡ true) × (is_message_out b ≡ true)
  pub said : is_message_out t.bus ≡ true → t.is_last ≡ true
  pub names : (c : Process) → OnMessages (IsNameOf c) t.messages → OnMessages (IsNameOf c) messages
  pub named : (c : Process) → IsUnnamed t c → ⊥

pub turns_by : (s : ScenarioValue) (t : Talk) (n : Connection) (l : Link) (b : LineSet) (messages : Messages)
    (next : Next) (requests : ℕ) → TurnsTo t l b messages next → TalksBy s t n l → TalksBy s
    (record t { messages = messages; next = next; begun = true; bus = b; requests = requests; is_last = false }) n l
turns_by s t n l b messages next requests w h = record {
  planned = w.planned;
  last = h.last;
  completes = λ z. inr (out z, refl);
  over = λ i e f. let g = h.over i e f in wrong (sym (w.taken g.taken).0 ∙ g.calm);
  closes = λ rs z here id e. not_both b here (out z);
  selected = h.selected;
  names = λ r. naming (h.names r);
}
  where
    out : is_complete l.last ≡ true → is_message_out b ≡ true
    out z = elim (h.completes z) [ inl g ↦ (w.taken g).1 | inr g ↦ wrong (sym (w.said g.0) ∙ g.1) ]

    naming : HasNames s t n l → HasNames s
        (record t { messages = messages; next = next; begun = true; bus = b; requests = requests; is_last = false }) n l
    naming g = named_as s t
        (record t { messages = messages; next = next; begun = true; bus = b; requests = requests; is_last = false }) n l
        l refl g (w.names g.named g.messages) (elim g.unit [ inl e ↦ inl e | inr v ↦ absurd (w.named g.named v) ])
