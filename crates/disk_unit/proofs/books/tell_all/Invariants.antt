use Rattle.std.proofs.Common.{◌≡◌, ℕ, ◌<◌, ◌≤◌, get_or, length, None}
use Rattle.disk_unit.specs.Books.{is_told}
use Rattle.disk_unit.proofs.books.tell_all.Given as goal
use Rattle.array_model.specs.Seats.{attention_if_told}

abbrev pub invariant-loop-dev : goal.invariant-loop-dev
invariant-loop-dev l = record {
  long : length l.attentions ≡ 8;
  done : (k : ℕ) → k < l.dev → get_or l.attentions k None
      ≡ attention_if_told (is_told l.by l.queue.arrived k) (get_or l.initial.attentions k None);
  rest : (k : ℕ) → l.dev ≤ k → get_or l.attentions k None ≡ get_or l.initial.attentions k None;
}
