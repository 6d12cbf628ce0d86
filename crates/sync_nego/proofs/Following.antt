-- Both ends follow what counts of an exchange.
use Rattle.std.proofs.Common.{ℕ, ◌≡◌, Bool, true, false, List, [], ◌∷◌, Option, Some, None, refl, sym, subst, ◌∙◌}
use Rattle.std.proofs.Common.{arith}
use Rattle.std.proofs.lemmas.Bool.Decides.{nat_tests}
use Rattle.bus_trace.specs.declared.agreements.Agreement.{Agreement}
use Rattle.bus_trace.specs.Agreements.{same_agreement}
use Rattle.dialogue_model.specs.bus_phases.specs.declared.words.Word.{Word}
use Rattle.dialogue_model.specs.bus_phases.specs.declared.words.Word.TheVariants as words
use Rattle.dialogue_model.specs.bus_phases.specs.declared.words.End.{End}
use Rattle.dialogue_model.specs.bus_phases.specs.declared.words.End.TheVariants as ends
use Rattle.dialogue_model.specs.bus_phases.specs.declared.spoken.Spoken.{Spoken}
use Rattle.dialogue_model.specs.bus_phases.specs.declared.spoken.CommandBytes.{CommandBytes}
use Rattle.dialogue_model.specs.bus_phases.specs.declared.spoken.Heard.{Heard}
use Rattle.dialogue_model.specs.bus_phases.specs.declared.dialogue.Dialogue.{Dialogue}
use Rattle.dialogue_model.specs.bus_phases.specs.Dialogue.{asynchronous, nothing_spoken, is_same_end, is_of_other}
use Rattle.dialogue_model.specs.bus_phases.specs.Dialogue.{spoken_with_word, spoken_with_offer, spoken_with_reject}
use Rattle.dialogue_model.specs.bus_phases.specs.Dialogue.{heard_with_out, heard_before_in, heard_with_in}
use Rattle.dialogue_model.specs.bus_phases.specs.Dialogue.{heard_with_command, spoken_with_byte}
use Rattle.sync_nego.specs.Negotiation.{Negotiation}
use Rattle.sync_nego.specs.Exchange.{Turn, connects, begins_phase, begins_anew, to_target, begins_message, to_initiator}
use Rattle.sync_nego.specs.Exchange.{in_command, resets, told, Count, connected, said, carried, reset, with_byte}
use Rattle.sync_nego.specs.Exchange.{Counted, or_now, counted, Side, voided, says_offer, hears_offer, says_reject}
use Rattle.sync_nego.specs.Exchange.{hears_reject, side_says, side_hears, side_after, side_by, side}
use Rattle.bus_trace.proofs.SameAgreement.{itself}

-- ---- the same agreement

same_of_third : (a b c : Agreement) → same_agreement a c ≡ true → same_agreement b c ≡ true → same_agreement a b ≡ true
same_of_third a b c x y = grind (arith, nat_tests)

-- ---- what counts, by the rules

abbrev spoken_by : List Count → Spoken
spoken_by [] = nothing_spoken asynchronous
spoken_by (connected ∷ cs) = nothing_spoken (spoken_by cs).agreement
spoken_by (said e w ∷ cs) = spoken_with_word (spoken_by cs) e w
spoken_by (carried b ∷ cs) = spoken_with_byte (spoken_by cs) b
spoken_by (reset ∷ cs) = nothing_spoken asynchronous

abbrev void_by : Option (List Count) → Option Spoken
void_by None = None
void_by (Some cs) = Some (spoken_by cs)

abbrev heard_by : List Count → Option (List Count) → Heard
heard_by now void = record { now = spoken_by now; void = void_by void }

command_byte : (now : List Count) (void : Option (List Count)) (b : ℕ)
    → heard_with_command (heard_by now void) b ≡ heard_by (carried b ∷ now) (with_byte void b)
command_byte now None b = refl
command_byte now (Some cs) b = refl

record IsCounted (d : Dialogue) (c : Counted) : Type 0 where
  heard : d.heard ≡ heard_by c.now c.void
  at_phase : d.at_phase ≡ heard_by c.at_phase c.void_at_phase

parity_error : (now : List Count) (void : Option (List Count))
    → heard_with_out (heard_by now void) words.ParityError
    ≡ heard_by (said ends.Initiator words.ParityError ∷ or_now void now) None
parity_error now None = refl
parity_error now (Some cs) = refl

is_counted : (ts : List Turn) → IsCounted (told ts) (counted ts)
is_counted [] = record { heard = refl; at_phase = refl }
is_counted (connects ∷ ts) =
    let h = (is_counted ts).heard in
    record {
      heard = λ i. record { now = nothing_spoken (h i).now.agreement; void = None };
      at_phase = λ i. record { now = nothing_spoken (h i).now.agreement; void = None };
    }
is_counted (begins_phase ∷ ts) = let h = (is_counted ts).heard in record { heard = h; at_phase = h }
is_counted (begins_anew ∷ ts) = let h = (is_counted ts).at_phase in record { heard = h; at_phase = h }
is_counted (to_target words.ParityError ∷ ts) =
    let h = is_counted ts in
    record {
      heard = (λ i. heard_with_out (h.heard i) words.ParityError) ∙ parity_error (counted ts).now (counted ts).void;
      at_phase = h.at_phase;
    }
is_counted (to_target (words.Offer a) ∷ ts) =
    let h = is_counted ts in
    record { heard = λ i. heard_with_out (h.heard i) (words.Offer a); at_phase = h.at_phase }
is_counted (to_target words.Reject ∷ ts) =
    let h = is_counted ts in
    record { heard = λ i. heard_with_out (h.heard i) words.Reject; at_phase = h.at_phase }
is_counted (to_target words.Restore ∷ ts) =
    let h = is_counted ts in
    record { heard = λ i. heard_with_out (h.heard i) words.Restore; at_phase = h.at_phase }
is_counted (to_target words.DeviceReset ∷ ts) =
    let h = is_counted ts in
    record { heard = λ i. heard_with_out (h.heard i) words.DeviceReset; at_phase = h.at_phase }
is_counted (to_target words.Other ∷ ts) =
    let h = is_counted ts in
    record { heard = λ i. heard_with_out (h.heard i) words.Other; at_phase = h.at_phase }
is_counted (begins_message ∷ ts) =
    let h = is_counted ts in
    record { heard = λ i. heard_before_in (h.heard i); at_phase = h.at_phase }
is_counted (to_initiator w ∷ ts) =
    let h = is_counted ts in
    record { heard = λ i. heard_with_in (h.heard i) w; at_phase = h.at_phase }
is_counted (in_command b ∷ ts) =
    let h = is_counted ts in
    record {
      heard = (λ i. heard_with_command (h.heard i) b) ∙ command_byte (counted ts).now (counted ts).void b;
      at_phase = h.at_phase;
    }
is_counted (resets ∷ ts) = record { heard = refl; at_phase = refl }

-- ---- an end

abbrev other : End → End
other ends.Initiator = ends.Target
other ends.Target = ends.Initiator

abbrev is_own : Option End → End → Bool
is_own None end = false
is_own (Some e) end = is_same_end e end

-- What an end keeps where these have an open request, and answered last.
abbrev flagged : End → Option End → Option End → Negotiation → Side
flagged end o p n = record {
  nego = n;
  asks = is_own o end;
  is_asked = is_of_other o end;
  answers = is_own p end;
  is_answered = is_of_other p end;
}

abbrev spoken : Agreement → Option End → Option End → CommandBytes → Bool → Spoken
spoken b o p k r = record { agreement = b; offer = o; answered = p; command = k; device_reset = r }

pub record Follows (end : End) (s : Spoken) (x : Side) : Type 0 where
  flags : x ≡ flagged end s.offer s.answered x.nego
  agrees : same_agreement x.nego.agreed s.agreement ≡ true

says_offers : (end : End) (o p : Option End) (a b : Agreement) (k : CommandBytes) (r : Bool) (n : Negotiation)
    → same_agreement n.agreed b ≡ true
    → Follows end (spoken_with_offer (spoken b o p k r) end a) (says_offer (flagged end o p n) a)
says_offers ends.Initiator None p a b k r n h = record { flags = refl; agrees = h }
says_offers ends.Initiator (Some ends.Initiator) p a b k r n h = record { flags = refl; agrees = h }
says_offers ends.Initiator (Some ends.Target) p a b k r n h = record { flags = refl; agrees = itself a }
says_offers ends.Target None p a b k r n h = record { flags = refl; agrees = h }
says_offers ends.Target (Some ends.Initiator) p a b k r n h = record { flags = refl; agrees = itself a }
says_offers ends.Target (Some ends.Target) p a b k r n h = record { flags = refl; agrees = h }

hears_offers : (end : End) (o p : Option End) (a b : Agreement) (k : CommandBytes) (r : Bool) (n : Negotiation)
    → same_agreement n.agreed b ≡ true
    → Follows end (spoken_with_offer (spoken b o p k r) (other end) a) (hears_offer (flagged end o p n) a)
hears_offers ends.Initiator None p a b k r n h = record { flags = refl; agrees = h }
hears_offers ends.Initiator (Some ends.Initiator) p a b k r n h = record { flags = refl; agrees = itself a }
hears_offers ends.Initiator (Some ends.Target) p a b k r n h = record { flags = refl; agrees = h }
hears_offers ends.Target None p a b k r n h = record { flags = refl; agrees = h }
hears_offers ends.Target (Some ends.Initiator) p a b k r n h = record { flags = refl; agrees = h }
hears_offers ends.Target (Some ends.Target) p a b k r n h = record { flags = refl; agrees = itself a }

says_rejects : (end : End) (o p : Option End) (b : Agreement) (k : CommandBytes) (r : Bool) (n : Negotiation)
    → same_agreement n.agreed b ≡ true
    → Follows end (spoken_with_reject (spoken b o p k r) end) (says_reject (flagged end o p n))
says_rejects ends.Initiator None None b k r n h = record { flags = refl; agrees = h }
says_rejects ends.Initiator None (Some ends.Initiator) b k r n h = record { flags = refl; agrees = h }
says_rejects ends.Initiator None (Some ends.Target) b k r n h = record { flags = refl; agrees = refl }
says_rejects ends.Initiator (Some ends.Initiator) None b k r n h = record { flags = refl; agrees = h }
says_rejects ends.Initiator (Some ends.Initiator) (Some ends.Initiator) b k r n h = record { flags = refl; agrees = h }
says_rejects ends.Initiator (Some ends.Initiator) (Some ends.Target) b k r n h = record { flags = refl; agrees = refl }
says_rejects ends.Initiator (Some ends.Target) p b k r n h = record { flags = refl; agrees = refl }
says_rejects ends.Target None None b k r n h = record { flags = refl; agrees = h }
says_rejects ends.Target None (Some ends.Initiator) b k r n h = record { flags = refl; agrees = refl }
says_rejects ends.Target None (Some ends.Target) b k r n h = record { flags = refl; agrees = h }
says_rejects ends.Target (Some ends.Initiator) p b k r n h = record { flags = refl; agrees = refl }
says_rejects ends.Target (Some ends.Target) None b k r n h = record { flags = refl; agrees = h }
says_rejects ends.Target (Some ends.Target) (Some ends.Initiator) b k r n h = record { flags = refl; agrees = refl }
says_rejects ends.Target (Some ends.Target) (Some ends.Target) b k r n h = record { flags = refl; agrees = h }

hears_rejects : (end : End) (o p : Option End) (b : Agreement) (k : CommandBytes) (r : Bool) (n : Negotiation)
    → same_agreement n.agreed b ≡ true
    → Follows end (spoken_with_reject (spoken b o p k r) (other end)) (hears_reject (flagged end o p n))
hears_rejects ends.Initiator None None b k r n h = record { flags = refl; agrees = h }
hears_rejects ends.Initiator None (Some ends.Initiator) b k r n h = record { flags = refl; agrees = refl }
hears_rejects ends.Initiator None (Some ends.Target) b k r n h = record { flags = refl; agrees = h }
hears_rejects ends.Initiator (Some ends.Initiator) p b k r n h = record { flags = refl; agrees = refl }
hears_rejects ends.Initiator (Some ends.Target) None b k r n h = record { flags = refl; agrees = h }
hears_rejects ends.Initiator (Some ends.Target) (Some ends.Initiator) b k r n h = record { flags = refl; agrees = refl }
hears_rejects ends.Initiator (Some ends.Target) (Some ends.Target) b k r n h = record { flags = refl; agrees = h }
hears_rejects ends.Target None None b k r n h = record { flags = refl; agrees = h }
hears_rejects ends.Target None (Some ends.Initiator) b k r n h = record { flags = refl; agrees = h }
hears_rejects ends.Target None (Some ends.Target) b k r n h = record { flags = refl; agrees = refl }
hears_rejects ends.Target (Some ends.Initiator) None b k r n h = record { flags = refl; agrees = h }
hears_rejects ends.Target (Some ends.Initiator) (Some ends.Initiator) b k r n h = record { flags = refl; agrees = h }
hears_rejects ends.Target (Some ends.Initiator) (Some ends.Target) b k r n h = record { flags = refl; agrees = refl }
hears_rejects ends.Target (Some ends.Target) p b k r n h = record { flags = refl; agrees = refl }

voided_agrees : (renews : Bool) (n : Negotiation) (a : Agreement) → a.offset ≡ 0
    → same_agreement (voided renews n).agreed a ≡ true
voided_agrees true n a e = grind (arith, nat_tests)
voided_agrees false n a e = grind (arith, nat_tests)

passed : (renews : Bool) (end : End) (o p : Option End) (w : Word) (b : Agreement)
    (k : CommandBytes) (r : Bool) (n : Negotiation) → same_agreement n.agreed b ≡ true
    → Follows end (spoken_with_word (spoken b o p k r) end w) (side_says renews (flagged end o p n) w)
passed renews end o p (words.Offer a) b k r n h = says_offers end o p a b k r n h
passed renews end o p words.Reject b k r n h = says_rejects end o p b k r n h
passed renews end o p words.Restore b k r n h = record { flags = refl; agrees = h }
passed renews end o p words.DeviceReset b k r n h =
    record { flags = refl; agrees = voided_agrees renews n (record b { offset = 0 }) refl }
passed renews end o p words.ParityError b k r n h = record { flags = refl; agrees = h }
passed renews end o p words.Other b k r n h = record { flags = refl; agrees = h }

pub heard : (renews : Bool) (end : End) (o p : Option End) (w : Word) (b : Agreement)
    (k : CommandBytes) (r : Bool) (n : Negotiation) → same_agreement n.agreed b ≡ true
    → Follows end (spoken_with_word (spoken b o p k r) (other end) w) (side_hears renews (flagged end o p n) w)
heard renews end o p (words.Offer a) b k r n h = hears_offers end o p a b k r n h
heard renews end o p words.Reject b k r n h = hears_rejects end o p b k r n h
heard renews end o p words.Restore b k r n h = record { flags = refl; agrees = h }
heard renews end o p words.DeviceReset b k r n h =
    record { flags = refl; agrees = voided_agrees renews n (record b { offset = 0 }) refl }
heard renews end o p words.ParityError b k r n h = record { flags = refl; agrees = h }
heard renews end o p words.Other b k r n h = record { flags = refl; agrees = h }

went_on : (renews : Bool) (end e : End) (w : Word) (s : Spoken) (x : Side) → Follows end s x
    → Follows end (spoken_with_word s e w) (side_after renews end x (said e w))
went_on renews end e w s x h = subst
    (λ (y : Side). Follows end (spoken_with_word s e w) (side_after renews end y (said e w))) (sym h.flags) (go end e)
  where
    go : (end e : End) → Follows end (spoken_with_word s e w)
        (side_after renews end (flagged end s.offer s.answered x.nego) (said e w))
    go ends.Initiator ends.Initiator =
        passed renews ends.Initiator s.offer s.answered w s.agreement s.command s.device_reset x.nego h.agrees
    go ends.Target ends.Target =
        passed renews ends.Target s.offer s.answered w s.agreement s.command s.device_reset x.nego h.agrees
    go ends.Initiator ends.Target =
        heard renews ends.Initiator s.offer s.answered w s.agreement s.command s.device_reset x.nego h.agrees
    go ends.Target ends.Initiator =
        heard renews ends.Target s.offer s.answered w s.agreement s.command s.device_reset x.nego h.agrees

follows : (renews : Bool) (end : End) (own : Agreement) (cs : List Count)
    → Follows end (spoken_by cs) (side_by renews end own cs)
follows renews end own [] = record { flags = refl; agrees = refl }
follows renews end own (connected ∷ cs) = record { flags = refl; agrees = (follows renews end own cs).agrees }
follows renews end own (said e w ∷ cs) =
    went_on renews end e w (spoken_by cs) (side_by renews end own cs) (follows renews end own cs)
follows renews end own (carried b ∷ cs) =
    let h = follows renews end own cs in
    record { flags = h.flags; agrees = h.agrees }
follows renews end own (reset ∷ cs) =
    record { flags = refl; agrees = voided_agrees renews (side_by renews end own cs).nego asynchronous refl }

-- ---- the law

pub holds_what_is_told : (renews : Bool) (end : End) (own : Agreement) (ts : List Turn)
    → same_agreement (side renews end own ts).nego.agreed (told ts).heard.now.agreement ≡ true
holds_what_is_told renews end own ts = subst
    (λ (s : Heard). same_agreement (side renews end own ts).nego.agreed s.now.agreement ≡ true)
    (sym (is_counted ts).heard) (follows renews end own (counted ts).now).agrees

pub hold_the_same : (renews again : Bool) (i t : Agreement) (ts : List Turn)
    → same_agreement (side renews ends.Initiator i ts).nego.agreed (side again ends.Target t ts).nego.agreed ≡ true
hold_the_same renews again i t ts = same_of_third (side renews ends.Initiator i ts).nego.agreed
    (side again ends.Target t ts).nego.agreed (told ts).heard.now.agreement
    (holds_what_is_told renews ends.Initiator i ts) (holds_what_is_told again ends.Target t ts)
