-- The words of a view, and one row more.
use Rattle.std.proofs.Common.{◌≡◌, ◌<◌, ◌∙◌, ℕ, List, [], ◌∷◌, length, refl, sym, ap, subst, arith}
use Rattle.std.specs.Prelude.{slice_index, slice_set}
use Rattle.bus_trace.specs.LineSet.{LineSet, line_of, data_of}
use Rattle.bus_trace.specs.Saved.{driven_in, lines_in, view_in}
use Rattle.bus_trace.specs.Trace.{IsViewOf, bus, drives, driven_after, newer, times_after}
use Rattle.bus_trace.specs.View.{driven_at}
use Rattle.bus_trace.specs.declared.Row.{Row}
use Rattle.bus_trace.specs.declared.line_times.LineTimes.{LineTimes}
use Rattle.bus_trace.specs.declared.saved.SavedView.{SavedView}
use Rattle.bus_trace.proofs.Devices.{below_8}
use Rattle.bus_trace.proofs.Views.{IsViewOf-step}

-- Words of which one is another say what they said, and there what it says.
driven_set
    : (words : List ℕ) → length words ≡ 8 → (word dev : ℕ) → dev < 8
    → driven_in (slice_set words dev word) ≡ slice_set (driven_in words) dev (lines_in word)
driven_set [] long word dev lt = absurd (omega arith)
driven_set (a ∷ []) long word dev lt = absurd (omega arith)
driven_set (a ∷ b ∷ []) long word dev lt = absurd (omega arith)
driven_set (a ∷ b ∷ c ∷ []) long word dev lt = absurd (omega arith)
driven_set (a ∷ b ∷ c ∷ d ∷ []) long word dev lt = absurd (omega arith)
driven_set (a ∷ b ∷ c ∷ d ∷ e ∷ []) long word dev lt = absurd (omega arith)
driven_set (a ∷ b ∷ c ∷ d ∷ e ∷ f ∷ []) long word dev lt = absurd (omega arith)
driven_set (a ∷ b ∷ c ∷ d ∷ e ∷ f ∷ g ∷ []) long word dev lt = absurd (omega arith)
driven_set (a ∷ b ∷ c ∷ d ∷ e ∷ f ∷ g ∷ h ∷ []) long word dev lt =
    let words : List ℕ = a ∷ b ∷ c ∷ d ∷ e ∷ f ∷ g ∷ h ∷ [] in
    below_8 (λ k. driven_in (slice_set words k word) ≡ slice_set (driven_in words) k (lines_in word)) refl refl refl
    refl refl refl refl refl dev lt
driven_set (a ∷ b ∷ c ∷ d ∷ e ∷ f ∷ g ∷ h ∷ i ∷ more) long word dev lt = absurd (omega arith)

pub view_after : (row : Row) (rows : List Row) (words : SavedView) → length words.driven ≡ 8
    → IsViewOf rows (view_in words) → row.dev < 8 → (before next after : LineSet) (next_word after_word : ℕ)
    → before ≡ lines_in words.present → lines_in next_word ≡ next → lines_in after_word ≡ after
    → next ≡ driven_after row.kind (drives rows row.dev) → after ≡ bus (row ∷ rows) → (data_lines : List ℕ)
    → ((line : ℕ) → line < 9
    → slice_index data_lines line ≡ newer (line_of line) before after (slice_index words.data_lines line) row.time)
    → (data_changed : ℕ) → data_changed ≡ newer data_of before after words.data_changed row.time → (times : LineTimes)
    → times ≡ times_after words.times before after row.time → IsViewOf (row ∷ rows) (view_in (record {
      driven = slice_set words.driven row.dev next_word;
      present = after_word;
      data_lines = data_lines;
      data_changed = data_changed;
      times = times;
      last = row.time;
    }))
view_after row rows words long v lt before next after next_word after_word was drawn shown drive now data_lines lines
    data_changed changed times stand =
    let lines : (line : ℕ) → line < 9 → slice_index data_lines line
    ≡ newer (line_of line) (lines_in words.present) after (slice_index words.data_lines line) row.time =
    λ line below. lines line below
    ∙ ap (λ (x : LineSet). newer (line_of line) x after (slice_index words.data_lines line) row.time) was in
    let changed = changed ∙ ap (λ (x : LineSet). newer data_of x after words.data_changed row.time) was in
    let stand = stand ∙ ap (λ (x : LineSet). times_after words.times x after row.time) was in
    let drive = drive ∙ ap (λ (x : LineSet). driven_after row.kind x) (sym (v.drives_are row.dev lt)) in
    let is = IsViewOf-step row rows
    (view_in words) v lt next drive after now data_lines lines data_changed changed times stand in
    let driven = driven_set words.driven long next_word row.dev lt
    ∙ ap (λ (x : LineSet). slice_set (driven_in words.driven) row.dev x) drawn in
    subst (λ (x : LineSet). IsViewOf (row ∷ rows) (record {
      driven = driven_in (slice_set words.driven row.dev next_word);
      present = x;
      data_lines = data_lines;
      data_changed = data_changed;
      times = times;
      last = row.time;
    })) (sym shown) (subst (λ (x : List LineSet). IsViewOf (row ∷ rows) (record {
      driven = x;
      present = after;
      data_lines = data_lines;
      data_changed = data_changed;
      times = times;
      last = row.time;
    })) (sym driven) is)

-- What a device drives, by its word.
pub drives_in : (words : List ℕ) (dev : ℕ) → dev < 8
    → lines_in (slice_index words dev) ≡ driven_at (driven_in words) dev
drives_in words dev lt = below_8 (λ k. lines_in (slice_index words k) ≡ driven_at (driven_in words) k) refl refl refl
    refl refl refl refl refl dev lt
