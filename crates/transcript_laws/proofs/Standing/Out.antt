-- A byte of MESSAGE OUT crosses: what stands after it.
use Rattle.transcript_laws.proofs
use proofs.Names.{ℕ, ◌≡◌, ◌∙◌, Bool, true, false, not, ◌&&◌, ◌||◌, List, [], ◌∷◌, ◌++◌, Option, Some, None, refl, sym}
use proofs.Names.{ap, subst, ◌%◌, not-true, same_Some, is_some, if◌then◌else◌, wrong, wrong', ProcId, LineSet}
use proofs.Names.{is_command, is_data, is_message_in, is_message_out, Change, Row, MsgOut, ScenarioValue, id_turned}
use proofs.Names.{same_id, RowReading, row_reading, CarriedBytes, carried_of, with_carried, is_status_phase, process}
use proofs.Names.{Sent, Link, last_out, Story, story_with_carried, story_after_crossing, is_parity_error, story}
use proofs.Names.{same_phase_is, put_own, put_other, none_some, by_option, grows_same, names_begun, OpenedValue}
use proofs.Names.{held_part, messages_of, with_said, with_in_if, with_part, with_crossing, TranscriberValue}
use proofs.Names.{transcribed, Incoming, Broken, Part, AreNumbered, are_talk, held_parts, base_parts, is_void, is_known}
use proofs.Names.{AreOwnEvents, is_empty, says_first, is_broken, fits_out, IsBlank, IsServing, no_process, AreKept}
use proofs.Names.{AreAlike, IsFrom, Stage, of_abort, of_none, of_process, StandsLinked, Standing, IsMarked}
use proofs.{Parts.Base.{base_said, base_void}, Serving.Steps.{said_serves, void_serves, broken_serves}}
use proofs.{Serving.Talks.{talk_append, talk_first}, Standing.Crossings.{Crosses, crossing_makes, no_into, out_story}}
use proofs.Standing.{Crossings.{message_story}, Linked.{SameLines, same_lines, transcript_on, story_on, IsOn, books_on}}
use proofs.Standing.{Linked.{Makes, Stands, linked_next}, Open.{alike_self, alike_on, alike_turned, alike_put}}
use proofs.Standing.{Open.{put_each, SameBooks, kept_on, from_on}, Stages.{stage_on}}
use Rattle.bus_transcript.specs.declared.part.Incoming.TheVariants.{Whole}

-- ---- what is said

silent_void : (anew : Bool) (said : List MsgOut) → is_void said ≡ false
    → is_void ((if anew then [] else said) ++ []) ≡ false
silent_void true said e = refl
silent_void false [] e = refl
silent_void false (m ∷ said) e = e

plain_void : (anew : Bool) (said : List MsgOut) (m : MsgOut) → is_parity_error m ≡ false → is_void said ≡ false
    → is_void ((if anew then [] else said) ++ m ∷ []) ≡ false
plain_void true said m f e = f
plain_void false [] m f e = f
plain_void false (x ∷ said) m f e = e

first_void : (anew : Bool) (said : List MsgOut) (m : MsgOut) → is_parity_error m ≡ true → says_first anew said ≡ true
    → is_void ((if anew then [] else said) ++ m ∷ []) ≡ true
first_void true said m f e = f
first_void false [] m f e = f
first_void false (x ∷ said) m f e = wrong' e

is_nothing : (parts : List Part) → is_empty parts ≡ true → parts ≡ []
is_nothing [] e = refl
is_nothing (part ∷ parts) e = wrong' e

pub four_true : (b q r t : Bool) → (b && q && r && t) ≡ true → (b ≡ true) × (q ≡ true) × (r ≡ true) × (t ≡ true)
four_true true true true t e = (refl, refl, refl, e)
four_true true true false t e = wrong' e
four_true true false r t e = wrong' e
four_true false q r t e = wrong' e

-- In MESSAGE OUT there is no other phase.
out_only : (lines : LineSet) → is_message_out lines ≡ true
    → (is_message_in lines ≡ false) × (lines.msg ≡ true) × (is_command lines ≡ false) × (is_data lines ≡ false)
out_only lines e = go lines.msg lines.cd lines.io e
  where
    go : (m d i : Bool) → (m && d && not i) ≡ true
        → ((m && d && i) ≡ false) × (m ≡ true) × ((not m && d && not i) ≡ false) × ((not m && not d) ≡ false)
    go true true true z = wrong' z
    go true true false z = (refl, refl, refl, refl)
    go true false i z = wrong' z
    go false d i z = wrong' z

no_bytes : (lines : LineSet) → is_message_out lines ≡ true → (is_command lines || is_data lines) ≡ false
no_bytes lines e = let g = out_only lines e in λ i. g.2 i || g.3 i

-- ---- the row

-- A byte of MESSAGE OUT.
pub record OutRow (s : ScenarioValue) (rows : List Row) (row : Row)
    (h : StandsLinked s (transcribed rows) (story s rows)) : Type 0 where
  pub on : IsOn s rows row h.opened.connection
  pub crossing : Crosses s rows row h.link
  pub out : is_message_out (story s rows).bus_state.bus ≡ true
  pub numbered : AreNumbered (transcribed rows).processes (names_begun (transcribed rows).items)
  pub marked : (x : ProcId) → IsMarked (story s rows).history (carried_of (story s rows).carried x)

pub lines_on : (s : ScenarioValue) (rows : List Row) (row : Row) (l : Link) → Crosses s rows row l
    → SameLines (story s rows).bus_state.bus (row_reading (story s rows).bus_state row).change.after
lines_on s rows row l g = same_lines (story s rows).bus_state.bus (row_reading
    (story s rows).bus_state row).change.after (same_phase_is (row_reading (story s rows).bus_state row).change g.stays)

pub crossed_on : (s : ScenarioValue) (rows : List Row) (row : Row) (l : Link) → Crosses s rows row l → (x : Change)
    → (if (row_reading (story s rows).bus_state row).crosses then Some (row_reading (story s rows).bus_state row).change
    else None) ≡ Some x → is_command x.before ≡ is_command (row_reading (story s rows).bus_state row).change.after
crossed_on s rows row l g x e =
    let d : RowReading = row_reading (story s rows).bus_state row in
    let same : d.change ≡ x = same_Some d.change x
    (sym (ap (λ (q : Bool). if q then Some d.change else None) g.crosses) ∙ e) in
    ap (λ (c : Change). is_command c.before) (sym same) ∙ sym (lines_on s rows row l g).command

after_said : (s : ScenarioValue) (rows : List Row) (row : Row) (h : StandsLinked s (transcribed rows) (story s rows))
    → OutRow s rows row h
    → {A : Type 0} → is_message_out (row_reading (story s rows).bus_state row).change.after ≡ false → A
after_said s rows row h r e = wrong (sym ((lines_on s rows row h.link r.crossing).out ∙ r.out) ∙ e)

with_said_is : (s : ScenarioValue) (rows : List Row) (row : Row) (h : StandsLinked s (transcribed rows) (story s rows))
    → OutRow s rows row h
    → with_crossing h.opened (story s rows).bus_state.dialogue.is_last (row_reading (story s rows).bus_state row)
    ≡ with_said h.opened (story s rows).bus_state.dialogue.is_last (row_reading (story s rows).bus_state row).out
with_said_is s rows row h r = λ i. if r.out i
    then with_said h.opened (story s rows).bus_state.dialogue.is_last (row_reading (story s rows).bus_state row).out
    else if is_message_in (story s rows).bus_state.bus
    then with_in_if h.opened (row_reading (story s rows).bus_state row).into
    else if is_status_phase (story s rows).bus_state.bus
    then with_part h.opened (Part.Status ((row_reading (story s rows).bus_state row).change.after.data_bits % 256))
    else record h.opened {
      bytes = h.opened.bytes ++ (row_reading (story s rows).bus_state row).change.after.data_bits % 256 ∷ [];
    }

-- ---- no message that makes another void

-- What is said stays in force.
said_stands : (s : ScenarioValue) (rows : List Row) (row : Row)
    (h : StandsLinked s (transcribed rows) (story s rows)) (said : List MsgOut) (l : Link) (c : Story)
    → OutRow s rows row h → is_void said ≡ is_void h.opened.said → l.item ≡ h.link.item → l.undo ≡ h.link.undo
    → c.link ≡ Some l → c.sent ≡ (story s rows).sent → c.carried ≡ (story s rows).carried
    → Stands s rows row h (record h.opened { said = said }) l c []
said_stands s rows row h said l c r void item undo link sent carried = record {
  connection = refl;
  link = link;
  sent = ap (λ (x : Sent). x.sent) sent;
  item = λ began. item;
  marked = λ x. subst (λ (all : List CarriedBytes). IsMarked (story s rows).history (carried_of all x)) (sym carried)
      (r.marked x);
  stage = stage_on s (transcribed rows) (transcript_on rows row (record h.opened { said = said })) (story s rows)
      (story_on s rows row c []) h.opened (record h.opened { said = said }) h.link l h.sent h.conn (record {
        same = books_on s rows row (record h.opened { said = said }) c [] (grows_same (story s rows).sent c.sent sent);
        connection = refl;
        command = (lines_on s rows row h.link r.crossing).command;
        status = (lines_on s rows row h.link r.crossing).status;
        item = item;
        undo = undo;
      }) (base_said h.opened said void) (λ x. alike_self _ _ (same x)) (λ x e f b. subst IsBlank (same x) b)
      (λ id back was st is serving. subst (λ (now : CarriedBytes). IsServing (record h.opened { said = said })
      (is_command (story s rows).bus_state.bus) id now back h.conn (story s rows).history was st)
      (same id) (said_serves h.opened (is_command (story s rows).bus_state.bus) id
      (carried_of (story s rows).carried id) back h.conn (story s rows).history was st said void serving)) h.stage;
  bytes = λ e. h.bytes (sym
      (λ i. (lines_on s rows row h.link r.crossing).command i || (lines_on s rows row h.link r.crossing).data_phase i)
      ∙ e);
  said = λ e. after_said s rows row h r e;
  crossed = crossed_on s rows row h.link r.crossing;
  undone = λ u e f. h.undone u (sym undo ∙ e) f;
}
  where
    same : (x : ProcId) → carried_of (story s rows).carried x ≡ carried_of c.carried x
    same x = ap (λ (all : List CarriedBytes). carried_of all x) (sym carried)

-- ---- MESSAGE PARITY ERROR

-- What it makes void is held, with nothing after it.
record Voids (s : ScenarioValue) (rows : List Row) (row : Row) (h : StandsLinked s (transcribed rows) (story s rows))
    (said : List MsgOut) (l : Link) (c : Story) : Type 0 where
  void : is_void said ≡ true
  held : Incoming
  held_is : h.opened.held ≡ Some held
  since : h.opened.since ≡ []
  backs : (not (is_known h.opened (story s rows).bus_state.bus) || is_some h.link.undo || is_broken h.opened.held)
      ≡ true
  item : l.item ≡ h.link.item
  undo : l.undo ≡ h.link.undo
  link : c.link ≡ Some l
  sent : c.sent ≡ (story s rows).sent

abbrev undone_in : List CarriedBytes → Option CarriedBytes → List CarriedBytes
undone_in all None = all
undone_in all (Some u) = with_carried all u

void_base : (s : ScenarioValue) (rows : List Row) (row : Row)
    (h : StandsLinked s (transcribed rows) (story s rows)) (said : List MsgOut) (l : Link) (c : Story)
    → Voids s rows row h said l c → base_parts (record h.opened { said = said }) ≡ h.opened.parts
void_base s rows row h said l c v = base_void h.opened said v.void v.since

held_talks : (q : Bool) (held : Option Incoming) → are_talk (if q then [] else held_part held) ≡ true
held_talks true held = refl
held_talks false None = refl
held_talks false (Some (Whole m)) = refl
held_talks false (Some Broken) = refl

-- The parts before the message that is void are messages where all are.
before_talk : (o : OpenedValue) → are_talk (base_parts o) ≡ true → are_talk o.parts ≡ true
before_talk o talk = talk_first o.parts (held_parts o ++ o.since) talk

all_talk : (o : OpenedValue) → o.since ≡ [] → are_talk o.parts ≡ true → are_talk (base_parts o) ≡ true
all_talk o none talk = talk_append o.parts (held_parts o ++ o.since) talk
    (talk_append (held_parts o) o.since (held_talks (is_void o.said) o.held) (ap are_talk none))

same_talk : (o : OpenedValue) → o.since ≡ [] → are_talk o.parts ≡ are_talk (base_parts o)
same_talk o none = go (are_talk o.parts) (are_talk (base_parts o)) refl refl
  where
    go : (q r : Bool) → are_talk o.parts ≡ q → are_talk (base_parts o) ≡ r → q ≡ r
    go true true e f = refl
    go false false e f = refl
    go true false e f = sym (all_talk o none e) ∙ f
    go false true e f = sym e ∙ before_talk o f

void_stage : (s : ScenarioValue) (rows : List Row) (row : Row) (h : StandsLinked s (transcribed rows) (story s rows))
    (said : List MsgOut) (l : Link) (c : Story) (undo : Option CarriedBytes) → OutRow s rows row h
    → Voids s rows row h said l c → h.link.undo ≡ undo → c.carried ≡ undone_in (story s rows).carried undo
    → Stage s (transcript_on rows row (record h.opened { said = said })) (story_on s rows row c [])
    (record h.opened { said = said }) l h.sent h.conn
void_stage s rows row h said l c undo r v undo_is carried = go h.stage undo undo_is carried
  where
    t : TranscriberValue
    t = transcribed rows

    b : Story
    b = story s rows

    o : OpenedValue
    o = h.opened

    k' : OpenedValue
    k' = record h.opened { said = said }

    t' : TranscriberValue
    t' = transcript_on rows row (record h.opened { said = said })

    b' : Story
    b' = story_on s rows row c []

    same : SameBooks (transcribed rows) (transcript_on rows row (record h.opened { said = said })) (story s rows)
        (story_on s rows row c [])
    same = books_on s rows row (record h.opened { said = said }) c [] (grows_same (story s rows).sent c.sent v.sent)

    base : base_parts (record h.opened { said = said }) ≡ h.opened.parts
    base = void_base s rows row h said l c v

    lines : SameLines (story s rows).bus_state.bus (row_reading (story s rows).bus_state row).change.after
    lines = lines_on s rows row h.link r.crossing

    known : is_known (record h.opened { said = said }) (row_reading (story s rows).bus_state row).change.after
        ≡ is_known h.opened (story s rows).bus_state.bus
    known = λ i. not h.opened.connection.reselected || not ((ap are_talk base ∙ same_talk h.opened v.since) i)
        || lines.command i

    by : (undo : Option CarriedBytes) → c.carried ≡ undone_in (story s rows).carried undo
        → ((u : CarriedBytes) → undo ≡ Some u → AreAlike u (carried_of (story s rows).carried u.id)) → (x : ProcId)
        → AreAlike (carried_of (story s rows).carried x) (carried_of c.carried x)
    by None e alike x = alike_self _ _ (ap (λ (all : List CarriedBytes). carried_of all x) (sym e))
    by (Some u) e alike x = alike_on (carried_of (story s rows).carried x)
        (carried_of (with_carried (story s rows).carried u) x) (carried_of c.carried x)
        (alike_put (story s rows).carried u (alike_turned u _ (alike u refl)) x)
        (alike_self _ _ (ap (λ (all : List CarriedBytes). carried_of all x) (sym e)))

    blank : (undo : Option CarriedBytes) → c.carried ≡ undone_in (story s rows).carried undo
        → ((u : CarriedBytes) → undo ≡ Some u → IsBlank u) → (x : ProcId)
        → IsBlank (carried_of (story s rows).carried x) → IsBlank (carried_of c.carried x)
    blank None e h x b = subst IsBlank (ap (λ (all : List CarriedBytes). carried_of all x) (sym e)) b
    blank (Some u) e h x b = subst IsBlank (ap (λ (all : List CarriedBytes). carried_of all x) (sym e))
        (put_each IsBlank (story s rows).carried u x (λ _. h u refl) b)

    process_stage : (undo : Option CarriedBytes) → h.link.undo ≡ undo
        → c.carried ≡ undone_in (story s rows).carried undo
        → (id : ProcId) (back : CarriedBytes) (was : Bool) (st : Option ℕ) → h.link.item ≡ Some (process id)
        → ((u : CarriedBytes) → h.link.undo ≡ Some u → u ≡ back) → back.id ≡ id
        → is_known h.opened (story s rows).bus_state.bus ≡ true
        → IsServing h.opened (is_command (story s rows).bus_state.bus) id
        (carried_of (story s rows).carried id) back h.conn (story s rows).history was st
        → AreOwnEvents id h.conn → (are_talk (base_parts h.opened) ≡ true → h.conn ≡ [])
        → IsFrom s (transcribed rows) (story s rows) h.opened h.sent id was st
        → AreKept s (transcribed rows) (story s rows) h.sent (λ x. same_id x id)
        → Stage s (transcript_on rows row (record h.opened { said = said })) (story_on s rows row c [])
        (record h.opened { said = said }) l h.sent h.conn
    process_stage None undo e id back was st is undone own known' serving events talks from kept =
        let broken : is_broken h.opened.held ≡ true =
        sym (λ i. not (known' i) || is_some (undo i) || is_broken h.opened.held) ∙ v.backs in
        let off = (out_only (story s rows).bus_state.bus r.out).2 in
        of_process id back was st (v.item ∙ is) (λ x i. undone x (sym v.undo ∙ i)) own (known ∙ known')
        (subst (λ (q : Bool). IsServing k' q id (carried_of c.carried id) back h.conn (story s rows).history was st)
        (sym (lines.command ∙ off)) (subst (λ (all : List CarriedBytes). IsServing k' false id (carried_of all id) back
        h.conn (story s rows).history was st) (sym e) (broken_serves h.opened id (carried_of (story s rows).carried id)
        back h.conn (story s rows).history was st said v.void broken v.since (subst (λ (q : Bool). IsServing h.opened
        q id (carried_of (story s rows).carried id) back h.conn (story s rows).history was st) off serving)))) events
        (λ talk. talks (all_talk h.opened v.since (sym (ap are_talk base) ∙ talk)))
        (from_on s t t' b b' o k' h.sent id was st same refl from) (kept_on s t t' b b' h.sent (λ x. same_id x id) same
        (λ x no. alike_self _ _ (sym (ap (λ (all : List CarriedBytes). carried_of all x) e))) kept)
    process_stage (Some u) undo e id back was st is undone own known' serving events talks from kept =
        let u_is : u ≡ back = undone u undo in
        let mine : carried_of c.carried id ≡ back = ap (λ (all : List CarriedBytes). carried_of all id) e
        ∙ put_own (story s rows).carried u id (ap (λ (x : CarriedBytes). x.id) u_is ∙ own) ∙ u_is in
        of_process id back was st (v.item ∙ is) (λ x i. undone x (sym v.undo ∙ i)) own (known ∙ known')
        (subst (λ (q : Bool). IsServing k' q id (carried_of c.carried id) back h.conn (story s rows).history was st)
        (sym (lines.command ∙ (out_only (story s rows).bus_state.bus r.out).2))
        (subst (λ (now : CarriedBytes). IsServing k' false id now back h.conn (story s rows).history was st)
        (sym mine) (void_serves h.opened id (carried_of (story s rows).carried id) back h.conn (story s rows).history
        was st said v.held v.void v.held_is v.since (h.bytes (no_bytes (story s rows).bus_state.bus r.out))
        (subst (λ (q : Bool). IsServing h.opened q id (carried_of (story s rows).carried id) back h.conn
        (story s rows).history was st) (out_only (story s rows).bus_state.bus r.out).2 serving)))) events
        (λ talk. talks (all_talk h.opened v.since (sym (ap are_talk base) ∙ talk)))
        (from_on s t t' b b' o k' h.sent id was st same refl from) (kept_on s t t' b b' h.sent
        (λ x. same_id x id) same (λ x no. alike_self _ _ (sym (ap (λ (all : List CarriedBytes). carried_of all x) e
        ∙ put_other (story s rows).carried u id x (ap (λ (y : CarriedBytes). y.id) u_is ∙ own) (id_turned x id no))))
        kept)

    go : Stage s (transcribed rows) (story s rows) h.opened h.link h.sent h.conn
        → (undo : Option CarriedBytes) → h.link.undo ≡ undo → c.carried ≡ undone_in (story s rows).carried undo
        → Stage s (transcript_on rows row (record h.opened { said = said })) (story_on s rows row c [])
        (record h.opened { said = said }) l h.sent h.conn
    go (of_abort j began is no_undo none talk kept) undo e f = of_abort j began (v.item ∙ is)
        (v.undo ∙ no_undo) none (ap are_talk base ∙ before_talk o talk) (kept_on s t t' b b' h.sent no_process same
        (λ x no. by undo f (λ u i. none_some u (sym no_undo ∙ e ∙ i)) x) kept)
    go (of_none re none talk no_command no_status plain blanks undone kept) undo e f = of_none re none
        (ap are_talk base ∙ before_talk o talk) (lines.command ∙ no_command) (lines.status ∙ no_status) (λ j i. plain j
        (sym v.item ∙ i)) (λ id i. blank undo f (λ u z. (undone u (e ∙ z)).0) id (blanks id (sym v.item ∙ i)))
        (λ u i. let g = undone u (sym v.undo ∙ i) in (
          g.0,
          alike_on u (carried_of b.carried u.id) (carried_of c.carried u.id) g.1
              (by undo f (λ x z. (undone x (e ∙ z)).1) u.id),
          λ id z. g.2 id (sym v.item ∙ z),
        )) (kept_on s t t' b b' h.sent no_process same (λ x no. by undo f (λ u z. (undone u (e ∙ z)).1) x) kept)
    go (of_process id back was st is undone own known' serving events talks from kept) undo e f =
        process_stage undo e f id back was st is undone own known' serving events talks from kept

void_stands : (s : ScenarioValue) (rows : List Row) (row : Row) (h : StandsLinked s (transcribed rows) (story s rows))
    (said : List MsgOut) (l : Link) (c : Story) (undo : Option CarriedBytes)
    → OutRow s rows row h → Voids s rows row h said l c → h.link.undo ≡ undo
    → c.carried ≡ undone_in (story s rows).carried undo → Stands s rows row h (record h.opened { said = said }) l c []
void_stands s rows row h said l c undo r v undo_is carried = record {
  connection = refl;
  link = v.link;
  sent = ap (λ (x : Sent). x.sent) v.sent;
  item = λ began. v.item;
  marked = λ x. subst (λ (all : List CarriedBytes). IsMarked (story s rows).history (carried_of all x)) (sym carried)
      (marked undo undo_is x);
  stage = void_stage s rows row h said l c undo r v undo_is carried;
  bytes = λ e. h.bytes (sym
      (λ i. (lines_on s rows row h.link r.crossing).command i || (lines_on s rows row h.link r.crossing).data_phase i)
      ∙ e);
  said = λ e. after_said s rows row h r e;
  crossed = crossed_on s rows row h.link r.crossing;
  undone = λ u e f. h.undone u (sym v.undo ∙ e) f;
}
  where
    marked : (undo : Option CarriedBytes) → h.link.undo ≡ undo
        → (x : ProcId) → IsMarked (story s rows).history (carried_of (undone_in (story s rows).carried undo) x)
    marked None e x = r.marked x
    marked (Some u) e x = put_each (λ c. IsMarked (story s rows).history c) (story s rows).carried u x
        (λ _. h.undone u e v.since) (r.marked x)

-- ---- what stands

pub out_next : (s : ScenarioValue) (rows : List Row) (row : Row) (h : StandsLinked s (transcribed rows) (story s rows))
    → OutRow s rows row h → fits_out h.opened
    (not (is_known h.opened (story s rows).bus_state.bus) || is_some h.link.undo || is_broken h.opened.held)
    (row_reading (story s rows).bus_state row).out (story s rows).bus_state.dialogue.is_last ≡ true
    → Standing s (row ∷ rows)
out_next s rows row h r fits = go (row_reading (story s rows).bus_state row).out refl fits
  where
    b : Story
    b = story s rows

    v : OpenedValue
    v = h.opened

    l : Link
    l = h.link

    anew : Bool
    anew = (story s rows).bus_state.dialogue.is_last

    d : RowReading
    d = row_reading (story s rows).bus_state row

    makes : (o : Option MsgOut) (c : Story) → d.out ≡ o
        → story_after_crossing s (story s rows) h.link (row_reading (story s rows).bus_state row) ≡ c
        → Makes s rows row (record h.opened { said = (if anew then [] else h.opened.said) ++ messages_of o }) c []
    makes o c e f = crossing_makes s rows row h (record h.opened {
      said = (if anew then [] else h.opened.said) ++ messages_of o;
    }) c r.on r.crossing (with_said_is s rows row h r ∙ ap (λ (x : Option MsgOut). with_said h.opened anew x) e) f

    by_parity : (m : MsgOut) (q : Bool) → is_parity_error m ≡ q → d.out ≡ Some m
        → (if q then says_first anew v.said && is_some v.held && is_empty v.since
        && (not (is_known v b.bus_state.bus) || is_some l.undo || is_broken v.held) else not (is_void v.said)) ≡ true
        → Standing s (row ∷ rows)
    by_parity m false g e f =
        let c : Story = record b { link = Some (record l { last = last_out m l }) } in
        linked_next s rows row h (record v { said = (if anew then [] else v.said) ++ m ∷ [] })
        (record l { last = last_out m l }) c [] r.numbered r.on (makes (Some m) c e
        (out_story s b l d m e ∙ ap (λ (q : Bool). story_with_carried c (if q then l.undo else None)) g))
        (said_stands s rows row h ((if anew then [] else v.said) ++ m ∷ []) (record l { last = last_out m l }) c r
        (plain_void anew v.said m g (not-true (is_void v.said) f) ∙ sym (not-true (is_void v.said) f)) refl refl refl
        refl refl)
    by_parity m true g e f = by_option h.link.undo (λ i. let c : Story = record b { link = Some last } in linked_next
        s rows row h (record v { said = (if anew then [] else v.said) ++ m ∷ [] }) last c [] r.numbered r.on (makes
        (Some m) c e (out_story s b l d m e ∙ ap (λ (q : Bool). story_with_carried c (if q then l.undo else None)) g
        ∙ ap (λ (o : Option CarriedBytes). story_with_carried c o) i))
        (by_held h.opened.held refl four.1 c None i refl refl refl))
        (λ u i. let c : Story = record b { link = Some last } in linked_next s rows row h (record v {
          said = (if anew then [] else v.said) ++ m ∷ [];
        }) last (record c { carried = with_carried b.carried u }) [] r.numbered r.on (makes (Some m) (record c {
          carried = with_carried b.carried u;
        }) e (out_story s b l d m e ∙ ap (λ (q : Bool). story_with_carried c (if q then l.undo else None)) g
        ∙ ap (λ (o : Option CarriedBytes). story_with_carried c o) i))
        (by_held h.opened.held refl four.1 (record c { carried = with_carried b.carried u }) (Some u) i refl refl refl))
      where
        last : Link
        last = record h.link { last = last_out m h.link }

        four :
            (says_first anew h.opened.said ≡ true) × (is_some h.opened.held ≡ true) × (is_empty h.opened.since ≡ true)
            × ((not (is_known h.opened (story s rows).bus_state.bus) || is_some h.link.undo || is_broken h.opened.held)
            ≡ true)
        four = four_true (says_first anew h.opened.said) (is_some h.opened.held) (is_empty h.opened.since)
            (not (is_known h.opened (story s rows).bus_state.bus) || is_some h.link.undo || is_broken h.opened.held) f

        by_held : (o : Option Incoming) → h.opened.held ≡ o → is_some o ≡ true
            → (c : Story) (undo : Option CarriedBytes) → h.link.undo ≡ undo
            → c.carried ≡ undone_in (story s rows).carried undo → c.link ≡ Some last → c.sent ≡ (story s rows).sent
            → Stands s rows row h (record h.opened { said = (if anew then [] else h.opened.said) ++ m ∷ [] }) last c []
        by_held None i some c undo z carried link sent = wrong' some
        by_held (Some x) i some c undo z carried link sent =
            void_stands s rows row h ((if anew then [] else h.opened.said) ++ m ∷ []) last c undo r (record {
              void = first_void anew h.opened.said m g four.0;
              held = x;
              held_is = i;
              since = is_nothing h.opened.since four.2;
              backs = four.3;
              item = refl;
              undo = refl;
              link = link;
              sent = sent;
            }) z carried

    go : (o : Option MsgOut) → d.out ≡ o → fits_out h.opened
        (not (is_known h.opened (story s rows).bus_state.bus) || is_some h.link.undo || is_broken h.opened.held) o anew
        ≡ true → Standing s (row ∷ rows)
    go None e f = linked_next s rows row h (record v { said = (if anew then [] else v.said) ++ [] }) l b [] r.numbered
        r.on (makes None b e (message_story s b l d e (no_into b.bus_state row (out_only b.bus_state.bus r.out).0)
        (out_only b.bus_state.bus r.out).1)) (said_stands s rows row h ((if anew then [] else v.said) ++ []) l b r
        (silent_void anew v.said (not-true (is_void v.said) f) ∙ sym (not-true (is_void v.said) f)) refl refl h.link_is
        refl refl)
    go (Some m) e f = by_parity m (is_parity_error m) refl e f
