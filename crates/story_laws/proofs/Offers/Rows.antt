-- Whose synchronous data transfer request is open, in a row that goes on with a phase.
use Rattle.story_laws.proofs
use proofs.Names.{inl, inr, ℕ, ◌≡◌, ◌⊎◌, ◌<◌, ◌+◌, Bool, true, false, not, ◌&&◌, ◌||◌, ◌==◌, ◌∙◌, Option, Some, None}
use proofs.Names.{refl, sym, ap, subst, true≢false, if◌then◌else◌, is_some, wrong, wrong', rises_none, rises, LineSet}
use proofs.Names.{changes_phase, is_command, is_message_out, is_message_in, receiver_in, Change, Connection, Handshakes}
use proofs.Names.{no_handshakes, handshakes_on, asked_if, answered_if, newest_struck_if, is_of_other}
use proofs.Names.{heard_with_command, byte_else, Dialogue, End, Exchange, struck_plan, Messages, SamePhase, in_io}
use proofs.Names.{in_same, counted, not_both, requests_rise, out_same, struck, message_line, out_line, MessageRow}
use proofs.Names.{keeps, asks, awaits, offer_now, IsHeardIn, IsHeardOut, opens, repeats, answers_it, detects, OffersBy}
use Rattle.row_laws.specs.Attention.{answers}

-- ---- what is kept is known otherwise

pub offers_as : (x x' : Exchange) (d d' : Dialogue) (h h' : Handshakes) (b b' : LineSet) → x ≡ x' → d ≡ d' → h ≡ h'
    → b ≡ b' → OffersBy x' d' h' b' → OffersBy x d h b
offers_as x x' d d' h h' b b' ex ed eh eb o =
    subst (λ (z : Exchange). OffersBy z d h b) (sym ex) (subst (λ (z : Dialogue). OffersBy x' z h b) (sym ed)
    (subst (λ (z : Handshakes). OffersBy x' d' z b) (sym eh) (subst (λ (z : LineSet). OffersBy x' d' h' z) (sym eb) o)))

-- ---- no byte crosses

speaks_target : (o : Option End) → is_of_other o End.Initiator ≡ true → o ≡ Some End.Target
speaks_target None e = wrong' e
speaks_target (Some End.Initiator) e = wrong' e
speaks_target (Some End.Target) e = refl

none_some : (o : Option ℕ) → o ≡ None → is_some o ≡ true → ⊥
none_some o e f = true≢false (sym f ∙ ap (λ (z : Option ℕ). is_some z) e)

or_three : (a b c : Bool) → ((a || b) || c) ≡ true → (a ≡ true) ⊎ ((b ≡ true) ⊎ (c ≡ true))
or_three true b c e = inl refl
or_three false true c e = inr (inl refl)
or_three false false c e = inr (inr e)

second_or : (a c : Bool) → ((a || true) || c) ≡ true
second_or true c = refl
second_or false c = refl

count_in : (m : Messages) (x : Exchange) (d : Dialogue) (a b : ℕ) → a ≡ b → IsHeardIn x.plan.messages x.plan.next d b
    → IsHeardIn x.plan.messages x.plan.next d a
count_in m x d a b e h = subst (λ (z : ℕ). IsHeardIn x.plan.messages x.plan.next d z) (sym e) h

pub offers_still : (n : Connection) (c : Change) (x : Exchange) (d : Dialogue) (h h' : Handshakes)
    → SamePhase c.before c.after → receiver_in n c ≡ None
    → (is_message_in c.before ≡ true → MessageRow h d n c) → (c.before.io ≡ true → h'.requests ≡ h.requests)
    → (c.before.io ≡ true → (h.requests == 0) ≡ false → h.struck ≡ true → h'.struck ≡ true) → OffersBy x d h c.before
    → OffersBy x d h' c.after
offers_still n c x d h h' same none row count struck o = record {
  unbegun = o.unbegun;
  settled = λ b m. o.settled b (sym same.msg ∙ m);
  out = λ b m. o.out b (sym (out_same c.before c.after same) ∙ m);
  into = λ b i. count_in x.plan.messages x d h'.requests h.requests (count (in_io c.before (was i))) (o.into b (was i));
  why = λ b i a. why_by b (was i) a (row (was i));
  asks = λ b i t. asks_by b (was i) t (row (was i));
}
  where
    was : is_message_in c.after ≡ true → is_message_in c.before ≡ true
    was i = sym (in_same c.before c.after same) ∙ i

    struck_or : is_message_in c.before ≡ true → (h.requests == 0) ≡ false
        → (h.struck ≡ true) ⊎ (offer_now d ≡ Some End.Target)
        → ((h'.requests == 0) ≡ false) × ((h'.struck ≡ true) ⊎ (offer_now d ≡ Some End.Target))
    struck_or i some (inl s) =
        (ap (λ (z : ℕ). z == 0) (count (in_io c.before i)) ∙ some, inl (struck (in_io c.before i) some s))
    struck_or i some (inr t) = (ap (λ (z : ℕ). z == 0) (count (in_io c.before i)) ∙ some, inr t)

    why_by : x.begun ≡ true → is_message_in c.before ≡ true → c.after.atn ≡ true → MessageRow h d n c
        → ((h'.requests == 0) ≡ false) × ((h'.struck ≡ true) ⊎ (offer_now d ≡ Some End.Target))
    why_by b i a (keeps er e ask) = let w = o.why b i (sym e ∙ a) in struck_or i w.0 w.1
    why_by b i a (asks er e first now) = absurd (none_some (receiver_in n c) none er)
    why_by b i a (answers er some e) =
        go (or_three h.struck (is_of_other (offer_now d) End.Initiator) c.before.atn (sym e ∙ a))
      where
        go : (h.struck ≡ true) ⊎ ((is_of_other (offer_now d) End.Initiator ≡ true) ⊎ (c.before.atn ≡ true))
            → ((h'.requests == 0) ≡ false) × ((h'.struck ≡ true) ⊎ (offer_now d ≡ Some End.Target))
        go (inl s) = struck_or i some (inl s)
        go (inr (inl t)) = struck_or i some (inr (speaks_target (offer_now d) t))
        go (inr (inr q)) = let w = o.why b i q in struck_or i w.0 w.1

    asks_by : x.begun ≡ true → is_message_in c.before ≡ true → offer_now d ≡ Some End.Target → MessageRow h d n c
        → (c.after.atn ≡ true) ⊎ (awaits c.after ≡ true)
    asks_by b i t (keeps er e ask) = elim (o.asks b i t) [ inl q ↦ inl (e ∙ q) | inr q ↦ inr (ask q) ]
    asks_by b i t (asks er e first now) = absurd (none_some (receiver_in n c) none er)
    asks_by b i t (answers er some e) =
        inl (e ∙ (λ j. (h.struck || is_of_other (t j) End.Initiator) || c.before.atn) ∙ second_or h.struck c.before.atn)

out_struck : (x : Exchange) (d : Dialogue) → IsHeardOut x d → IsHeardOut (struck x) d
out_struck x d (opens c ao av v e) = opens c ao av v e
out_struck x d (repeats before c one w p) = repeats before c one w p
out_struck x d (answers_it a c next one e) = answers_it a c next one e
out_struck x d (detects c one e) = detects c one e

pub offers_struck : (x : Exchange) (d : Dialogue) (h : Handshakes) (b : LineSet) (io : Bool) → OffersBy x d h b
    → OffersBy
    (record { begun = x.begun; speech = x.speech; plan = if true && not io then struck_plan x.plan else x.plan }) d h b
offers_struck x d h b true o = o
offers_struck x d h b false o = record {
  unbegun = o.unbegun;
  settled = o.settled;
  out = λ f m. out_struck x d (o.out f m);
  into = o.into;
  why = o.why;
  asks = o.asks;
}

-- ---- REQ and ACK

answered_struck : (q : Bool) (t : ℕ) (h : Handshakes) → (answered_if q t h).struck ≡ h.struck
answered_struck true t h = refl
answered_struck false t h = refl

pub struck_stays : (n : Connection) (c : Change) (t : ℕ) (h : Handshakes) → changes_phase c ≡ false → c.before.io ≡ true
    → receiver_in n c ≡ None → (handshakes_on (Some n) c t h).struck ≡ h.struck
struck_stays n c t h ep io er = (λ i. (if ep i then no_handshakes
    else answered_if (rises c.before.ack c.after.ack) t (asked_if (rises_none c.before.io (rises c.before.req
    c.after.req) n.initiator 0 (if rises c.before.ack c.after.ack then Some n.target else None) io er i) t h)).struck)
    ∙ answered_struck (rises c.before.ack c.after.ack) t h

pub struck_by_fault : (io : Bool) (h : Handshakes) → (h.requests == 0) ≡ false → h.struck ≡ true
    → (newest_struck_if io h).struck ≡ true
struck_by_fault true h some s = ap not some
struck_by_fault false h some s = s

pub request_rises : (n : Connection) (c : Change) (t dev : ℕ) (h : Handshakes) → changes_phase c ≡ false
    → c.before.io ≡ true → receiver_in n c ≡ Some dev → (m : ℕ) → h.requests < m → m < 12
    → (handshakes_on (Some n) c t h).requests ≡ h.requests + 1
request_rises n c t dev h ep io er m lt few = requests_rise n c t dev h ep io er ∙ counted h.requests m lt few

-- ---- a byte crosses

-- Of MESSAGE OUT.
pub offers_said : (c : Change) (x : Exchange) (d : Dialogue) (h : Handshakes) → SamePhase c.before c.after
    → x.begun ≡ true → is_message_out c.before ≡ true → IsHeardOut x d → OffersBy x d h c.after
offers_said c x d h same b m w = record {
  unbegun = λ f. wrong (sym b ∙ f);
  settled = λ f z. wrong (sym (out_line c.before m) ∙ sym same.msg ∙ z);
  out = λ f z. w;
  into = λ f i. not_both c.after i (out_same c.before c.after same ∙ m);
  why = λ f i. not_both c.after i (out_same c.before c.after same ∙ m);
  asks = λ f i. not_both c.after i (out_same c.before c.after same ∙ m);
}

-- Of MESSAGE IN: ATN was false.
pub offers_given : (n : Connection) (c : Change) (x x' : Exchange) (d d' : Dialogue) (h h' : Handshakes)
    → SamePhase c.before c.after → x.begun ≡ true → x'.begun ≡ true → is_message_in c.before ≡ true
    → is_some (receiver_in n c) ≡ true → MessageRow h d n c → OffersBy x d h c.before
    → IsHeardIn x'.plan.messages x'.plan.next d' h'.requests → OffersBy x' d' h' c.after
offers_given n c x x' d d' h h' same b b' m er row o w = by row
  where
    now : is_message_in c.after ≡ true
    now = in_same c.before c.after same ∙ m

    quiet : c.after.atn ≡ c.before.atn → ((h.requests == 0) ≡ true) ⊎ (c.before.atn ≡ false) → c.after.atn ≡ false
    quiet e first = go c.before.atn refl first
      where
        go : (q : Bool) → c.before.atn ≡ q → ((h.requests == 0) ≡ true) ⊎ (c.before.atn ≡ false) → c.after.atn ≡ false
        go false f z = e ∙ f
        go true f (inl z) = wrong (sym z ∙ (o.why b m f).0)
        go true f (inr z) = e ∙ z

    by : MessageRow h d n c → OffersBy x' d' h' c.after
    by (keeps none e ask) = absurd (none_some (receiver_in n c) none er)
    by (answers none some e) = absurd (none_some (receiver_in n c) none er)
    by (asks there e first ask) = record {
      unbegun = λ f. wrong (sym b' ∙ f);
      settled = λ f z. wrong (sym (message_line c.after now) ∙ z);
      out = λ f z. not_both c.after now z;
      into = λ f i. w;
      why = λ f i a. wrong (sym a ∙ quiet e first);
      asks = λ f i t. inr ask;
    }

-- Of another phase.
pub offers_else : (c : Change) (x x' : Exchange) (d : Dialogue) (h h' : Handshakes) (byte : ℕ)
    → SamePhase c.before c.after → x.begun ≡ true → x'.begun ≡ true → is_message_out c.before ≡ false
    → is_message_in c.before ≡ false → OffersBy x d h c.before → OffersBy x' (byte_else d c.before byte) h' c.after
offers_else c x x' d h h' byte same b b' mo mi o = record {
  unbegun = λ f. wrong (sym b' ∙ f);
  settled = λ f z. go (is_command c.before) ∙ o.settled b (sym same.msg ∙ z);
  out = λ f z. wrong (sym (sym (out_same c.before c.after same) ∙ z) ∙ mo);
  into = λ f i. wrong (sym (sym (in_same c.before c.after same) ∙ i) ∙ mi);
  why = λ f i. wrong (sym (sym (in_same c.before c.after same) ∙ i) ∙ mi);
  asks = λ f i. wrong (sym (sym (in_same c.before c.after same) ∙ i) ∙ mi);
}
  where
    go : (q : Bool) → (if q then record d { heard = heard_with_command d.heard byte; begun = true } else record d {
      begun = true;
    }).heard.now.offer ≡ d.heard.now.offer
    go true = refl
    go false = refl
