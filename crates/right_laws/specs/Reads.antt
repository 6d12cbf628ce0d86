-- What a process carries of its data before it runs (6.1.5.1).
use Rattle.std.specs.Prelude.{ℕ, List, if◌then◌else◌}
use Rattle.due_model.specs.array_model.specs.Processes.{Process}
use Rattle.due_model.specs.array_model.specs.Units.{Array}
use Rattle.due_model.specs.Tasks.{is_writing, reply_now}

-- What it sends, or would give if it ran now.
abbrev pub content_now : Array → Process → List ℕ
content_now a p = if is_writing p then p.sent else (reply_now a p).bytes
