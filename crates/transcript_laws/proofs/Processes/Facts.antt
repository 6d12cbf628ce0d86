-- Of a prompt trace whose rows fit, the transcript begins few names: one for each item that an initiator sent.
use Rattle.transcript_laws.proofs
use proofs.Names.{◌≡◌, ◌∙◌, ◌≤◌, ◌<◌, true, ◌&&◌, List, [], ◌∷◌, length, sym, ap, arith, length-reverse, and_first, Row}
use proofs.Names.{ScenarioValue, Obeys, Story, story, run_state_plain, IsPrompt, run_state, whole, TellsHistory}
use proofs.{Names.{names_begun, transcribed, transcript_of, fit, fits_row, are_named}, Fits.Facts.{rows_fit}}
use proofs.{Processes.Counts.{few_sent}, Standing.{Facts.{standing, named_now, fit_tells}, More.{names_end, names_one}}}
use proofs.Standing.Past.{standing_past}

-- As many as items were sent, where those of the connections that are over have their numbers.
names_sent : (s : ScenarioValue) (p : List Row) → Obeys s → IsPrompt s p → fit s p ≡ true
    → length (names_begun (transcribed p).items) < 4294967290 → length (names_begun (transcript_of p)) ≤ 8256
names_sent s p o prompt e less =
    let past = standing_past s p (standing s p e less) (named_now s p e) in
    let pl = run_state_plain s p (whole s p o prompt).stood.standing.devices in
    let same : length (names_begun (transcript_of p)) ≡ length (run_state s p).story.sent.sent =
    past.count ∙ length-reverse (story s p).sent.sent ∙ ap (λ (b : Story). length b.sent.sent) (sym pl.story) in
    let few = few_sent s p o prompt in
    omega (arith, same, few)

items_few : (s : ScenarioValue) (p : List Row) → Obeys s → IsPrompt s p → fit s p ≡ true
    → length (names_begun (transcribed p).items) ≤ 8256
items_few s [] o prompt e = omega arith
items_few s (row ∷ p) o prompt e =
    let fits = fit s p && fits_row s (transcribed p) (story s p) row in
    let before = items_few s p o prompt.0 (and_first (fit s p) (fits_row s (transcribed p) (story s p) row)
    (and_first fits (are_named s (transcribed (row ∷ p)).opened (story s (row ∷ p)).link) e)) in
    let one = names_one p row in
    let less : length (names_begun (transcribed (row ∷ p)).items) < 4294967290 = omega (arith, before, one) in
    let few = names_sent s (row ∷ p) o prompt e less in
    let ends = names_end (row ∷ p) in
    omega (arith, few, ends)

pub few_names : (s : ScenarioValue) (p : List Row) → Obeys s → IsPrompt s p → fit s p ≡ true
    → length (names_begun (transcript_of p)) ≤ 8256
few_names s p o prompt e =
    let items = items_few s p o prompt e in
    names_sent s p o prompt e (omega (arith, items))

-- So the transcript of a prompt trace has the events of its history.
pub prompt_tells : (s : ScenarioValue) (p : List Row) → Obeys s → IsPrompt s p → TellsHistory s p
prompt_tells s p o prompt =
    let fits = rows_fit s p o prompt in
    let few = few_names s p o prompt fits in
    fit_tells s p fits (omega (arith, few))
