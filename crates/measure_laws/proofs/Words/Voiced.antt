-- Of each prompt trace: what is kept of the place of the next byte in MESSAGE OUT.
use Rattle.measure_laws.proofs
use proofs.Names.{ℕ, ◌≡◌, ◌∙◌, true, false, List, [], ◌∷◌, refl, sym, ap, Option, Some, None, is_some, ◌||◌, wrong}
use proofs.Names.{wrong', change_of, LineSet, changes_phase, connection, is_fault, receiver, bus, Row, Connection}
use proofs.Names.{is_of_device, ScenarioValue, Obeys, begun, begun_after, IsPrompt, BeginsConnection, by_reselection}
use proofs.Names.{by_selection, none_some, RowKindOf, begins_now, connection_row, goes_now, row_kind, RowFacts}
use proofs.{Names.{ends_here, stays, PhaseRow, or_left, whole}, Balances.Facts.{kind_of_row}, Words.VoiceRows.{InWords}}
use proofs.Words.{VoiceRows.{voice_step}, Voices.{VoicedAt}}
use Rattle.progress_laws.specs.row_laws.proofs.Lines.Phases as kinds

received : (o : Option ℕ) (d : ℕ) → is_of_device o d ≡ true → is_some o ≡ true
received None d e = wrong' e
received (Some x) d e = refl

-- A fault row strikes the byte that crossed in the last row.
fault_receives : (s : ScenarioValue) (p : List Row) (row : Row) (n : Connection) → PhaseRow s p n row
    → is_fault row.kind ≡ true → is_some (receiver p) ≡ true
fault_receives s p row n (kinds.opens h e) f = wrong' (sym (ap (λ (r : Row). is_fault r.kind) e) ∙ f)
fault_receives s p row n (kinds.strikes g bit h b got who e) f = received (receiver p) row.dev got
fault_receives s p row n (kinds.leaves atn msg cd io x y h b known asked rest follows e) f =
    wrong' (sym (ap (λ (r : Row). is_fault r.kind) e) ∙ f)
fault_receives s p row n (kinds.hands atn msg cd io y h e) f = wrong' (sym (ap (λ (r : Row). is_fault r.kind) e) ∙ f)
fault_receives s p row n (kinds.releases atn x msg cd h some e) f =
    wrong' (sym (ap (λ (r : Row). is_fault r.kind) e) ∙ f)
fault_receives s p row n (kinds.offers atn x msg cd h e) f = wrong' (sym (ap (λ (r : Row). is_fault r.kind) e) ∙ f)
fault_receives s p row n (kinds.asks_settled bsy atn msg cd io y h e) f =
    wrong' (sym (ap (λ (r : Row). is_fault r.kind) e) ∙ f)
fault_receives s p row n (kinds.asks_offered atn msg cd y h e) f =
    wrong' (sym (ap (λ (r : Row). is_fault r.kind) e) ∙ f)
fault_receives s p row n (kinds.answers atn to msg cd y h rose e) f =
    wrong' (sym (ap (λ (r : Row). is_fault r.kind) e) ∙ f)
fault_receives s p row n (kinds.ends_ack_in atn msg cd y h e) f = wrong' (sym (ap (λ (r : Row). is_fault r.kind) e) ∙ f)
fault_receives s p row n (kinds.gives atn msg cd h e) f = wrong' (sym (ap (λ (r : Row). is_fault r.kind) e) ∙ f)
fault_receives s p row n (kinds.sends atn msg cd x h some e) f = wrong' (sym (ap (λ (r : Row). is_fault r.kind) e) ∙ f)
fault_receives s p row n (kinds.ends_ack_out atn msg cd x h e) f =
    wrong' (sym (ap (λ (r : Row). is_fault r.kind) e) ∙ f)
fault_receives s p row n (kinds.ends_req atn msg cd io x y h e) f =
    wrong' (sym (ap (λ (r : Row). is_fault r.kind) e) ∙ f)
fault_receives s p row n (kinds.asks_next atn msg cd io y h follows e) f =
    wrong' (sym (ap (λ (r : Row). is_fault r.kind) e) ∙ f)
fault_receives s p row n (kinds.ends_ack_pulse io req atn x y h e) f =
    wrong' (sym (ap (λ (r : Row). is_fault r.kind) e) ∙ f)
fault_receives s p row n (kinds.answers_pulse req atn to y h waits rose e) f =
    wrong' (sym (ap (λ (r : Row). is_fault r.kind) e) ∙ f)
fault_receives s p row n (kinds.gives_pulse req atn x h waits other e) f =
    wrong' (sym (ap (λ (r : Row). is_fault r.kind) e) ∙ f)
fault_receives s p row n (kinds.sends_pulse req atn x h waits byte e) f =
    wrong' (sym (ap (λ (r : Row). is_fault r.kind) e) ∙ f)
fault_receives s p row n (kinds.releases_pulse req atn x h none some e) f =
    wrong' (sym (ap (λ (r : Row). is_fault r.kind) e) ∙ f)
fault_receives s p row n (kinds.ends_req_pulse io ack atn x y h e) f =
    wrong' (sym (ap (λ (r : Row). is_fault r.kind) e) ∙ f)
fault_receives s p row n (kinds.changes_pulse ack atn y h other e) f =
    wrong' (sym (ap (λ (r : Row). is_fault r.kind) e) ∙ f)
fault_receives s p row n (kinds.asks_pulse_in ack atn y h byte follows room e) f =
    wrong' (sym (ap (λ (r : Row). is_fault r.kind) e) ∙ f)
fault_receives s p row n (kinds.asks_pulse_out ack atn x h follows room e) f =
    wrong' (sym (ap (λ (r : Row). is_fault r.kind) e) ∙ f)

no_words : {A : Type 0} (p : List Row) (n : Connection) → BeginsConnection p n → begun p ≡ true → InWords (bus p) → A
no_words p n (by_selection h) b here = wrong (sym b ∙ h.begun_is)
no_words p n (by_reselection y h) b here = wrong (sym (ap (λ (l : LineSet). l.io) h.linked.stands.bus_is) ∙ here.io)

pub voiced : (s : ScenarioValue) (p : List Row) → Obeys s → IsPrompt s p → (n : Connection) → connection p ≡ Some n
    → (bus p).rst ≡ false → begun p ≡ true → InWords (bus p) → VoicedAt s p
voiced s [] o prompt n con calm b here = absurd cc
voiced s (row ∷ p) o prompt n con calm b here =
    go (voiced s p o prompt.0) (row_kind s p row n o prompt (whole s p o prompt.0).stood con calm)
  where
    go : ((m : Connection) → connection p ≡ Some m → (bus p).rst ≡ false → begun p ≡ true → InWords (bus p)
        → VoicedAt s p) → RowKindOf s p row n → VoicedAt s (row ∷ p)
    go before (begins_now alone f) = no_words (row ∷ p) n f.begins b here
    go before (goes_now was off) =
        by (connection_row s p row n o prompt (whole s p o prompt.0).stood was off calm).facts
      where
        stood_begun : changes_phase (change_of p row) ≡ false → begun p ≡ true
        stood_begun ep = or_left (begun p)
            ((λ i. sym ep i || begun p) ∙ (λ i. begun_after (begun p) (sym was i) (sym con i) (change_of p row)) ∙ b)

        by : RowFacts s p row n → VoicedAt s (row ∷ p)
        by (ends_here f) = absurd (none_some n (sym f.stopped ∙ con))
        by (stays g) = voice_step s p row n (whole s p o prompt.0).stood.standing.devices
            (whole s (row ∷ p) o prompt).stood.standing.devices.0 was con g here
            (fault_receives s p row n (kind_of_row s p row n o prompt (whole s p o prompt.0).stood was off calm))
            (λ ep w. before n was off (stood_begun ep) w)
