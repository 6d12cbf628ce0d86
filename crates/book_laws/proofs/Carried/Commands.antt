-- A command descriptor block that was heard whole is that of the process.
use Rattle.book_laws.proofs
use proofs.Names.{ℕ, ◌≡◌, ◌<◌, Bool, true, false, ◌||◌, ◌∙◌, List, length, Option, Some, None, refl, ap, arith}
use proofs.Names.{has_group_len, ScenarioValue, Process, process_of, carried_id, Item, process, abort, same_bytes}
use proofs.Names.{is_block_of_process, RunState, process_item, process_served, carried_here, AllCarryOwn, CarriesOwn}
use proofs.Carried.{Blocks.{follows_block, block_is_all, same_self}, Facts.{process_id, process_none}}

-- A process is that of its own number.
pub process_own : (s : ScenarioValue) (item : Option Item) (c : Process) → process_item s item ≡ Some c
    → process_of s c.id ≡ Some c
process_own s None c e = absurd (process_none c e)
process_own s (Some (process id)) c e = ap (process_of s) (process_id s id c e) ∙ e
process_own s (Some (abort n)) c e = absurd (process_none c e)

pub own_of : (s : ScenarioValue) (k : RunState) (c : Process) → AllCarryOwn s k → process_of s c.id ≡ Some c
    → CarriesOwn (carried_here k c.id) c
own_of s k c h e = h.each c.id c (ap (process_of s) (carried_id k.story.carried c.id) ∙ e)

pub block_own : (s : ScenarioValue) (k : RunState) (t : Process) → AllCarryOwn s k → process_served s k ≡ Some t
    → has_group_len t.cdb ≡ true → (k.exchange.plan.struck ≡ false → has_group_len (carried_here k t.id).block ≡ true)
    → is_block_of_process s k (Some t) ≡ true
block_own s k t h e whole yet = go k.exchange.plan.struck refl
  where
    go : (q : Bool) → k.exchange.plan.struck ≡ q → (q || same_bytes (carried_here k t.id).block t.cdb) ≡ true
    go true f = refl
    go false f =
        let c = own_of s k t h (process_own s k.served t e) in
        ap (λ (x : List ℕ). same_bytes x t.cdb)
        (block_is_all (carried_here k t.id).block c.command.rest t.cdb c.command.block_is whole (yet f))
        ∙ same_self t.cdb

-- While it is not whole, a byte of the block follows.
pub block_follows : (s : ScenarioValue) (k : RunState) (t : Process) → AllCarryOwn s k
    → process_of s t.id ≡ Some t → has_group_len t.cdb ≡ true → has_group_len (carried_here k t.id).block ≡ false
    → (carried_here k t.id).command.active < length t.cdb
block_follows s k t h e whole yet =
    let c = own_of s k t h e in
    let lt = follows_block (carried_here k t.id).block c.command.rest t.cdb c.command.block_is whole yet in
    let act = c.command.active_is in
    omega arith
