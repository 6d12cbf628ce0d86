-- In a prompt trace that has ended each command has its outcome, by what stands in the queues and what is owed to those
-- in a hold.
use Rattle.progress_laws.proofs
use proofs.Names.{◌≡◌, true, ◌∙◌, List, Option, sym, ap, subst, list_all, is_some, Row, ScenarioValue, Obeys, IsSound}
use proofs.Names.{Array, Outcome, outcomes, Story, story, run_state_plain, IsEnded, IsPlain, RunState, array_of}
use proofs.{Names.{or_start, run_state, ItemFacts, PlaceFacts, AreOwed, AreQueued}, Outcomes.Answered.{Resting}}
use proofs.Outcomes.{Answered.{answered_at_rest}, Endings.{have_endings}, Units.{targets_there}}
use proofs.{Queues.Rows.{HasArray}, Quiet.Facts.{Joined, free_when_ended, unwanted_when_ended}}

-- What the plain disk array is after the rows.
pub place_array : (s : ScenarioValue) (p : List Row) → PlaceFacts s p → HasArray s (run_state s p)
place_array s p places = record { array = places.array; array_is = places.array_is; sound = places.sound }

-- What is known of every row.
pub record Known (s : ScenarioValue) (p : List Row) : Type 0 where
  pub items : ItemFacts s p
  pub places : PlaceFacts s p

-- Each command has its outcome.
pub answered_when_ended : (s : ScenarioValue) (p : List Row) → Obeys s → Joined s p → IsEnded s p → Known s p
    → AreQueued s (run_state s p) → AreOwed s (run_state s p).story.sent (array_of s (run_state s p)).holds
    → list_all (λ (o : Option Outcome). is_some o) (outcomes s (story s p)) ≡ true
answered_when_ended s p o j end known queues owed =
    ap (λ (b : Story). list_all (λ (x : Option Outcome). is_some x) (outcomes s b)) (sym pl.story)
    ∙ answered_at_rest s k o rest
    (known.items.items.apart (pl.connection ∙ (free_when_ended s p j end).stands.connection_is)).1
    (λ dev latency lt there. unwanted_when_ended s p j end dev latency lt there)
  where
    k : RunState
    k = run_state s p

    pl : IsPlain s p k
    pl = run_state_plain s p j.stood.standing.devices

    rest : Resting s k
    rest = record {
      items = known.items.items;
      sound = subst (λ (x : Option Array). IsSound s (or_start s x)) (sym known.places.array_is) known.places.sound;
      there = targets_there s p o;
      queued = queues;
      owed = owed;
      endings = have_endings s p;
    }
