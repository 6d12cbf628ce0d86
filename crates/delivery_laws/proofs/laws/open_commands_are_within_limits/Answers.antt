use Rattle.delivery_laws.proofs
use proofs.{Names.{ℕ, ◌≤◌, sym, subst, open_limit_of, run_state}, Queues.{Counts.{open_length}, Open.{open_within}}}
use Rattle.delivery_laws.proofs.laws.open_commands_are_within_limits.Goals as goal

pub returns : goal.returns
returns c = λ s rows dev o prompt. subst (λ (x : ℕ). x ≤ open_limit_of s.hosts dev)
    (sym (open_length (run_state s rows).story.sent dev 1 s.commands)) (open_within s rows o prompt dev)
