-- The IDs of a calling.
use Rattle.bus_laws.proofs
use proofs.Names.{ℕ, ◌≡◌, ◌≢◌, ◌+◌, ◌^◌, ◌<◌, ◌||◌, ◌&&◌, Bool, true, false, refl, agree_below, agree_below_at}
use proofs.Names.{eqb-true, ne_eqb, and_parts, bit_at, count_ones, ◌==◌, or_second, drives_two_ids, other_id, both_ids}

abbrev good : Bool → ℕ → ℕ → Bool
good m a b = (a == b) || (drives_two_ids a (both_ids m a b)
    && ((other_id (both_ids m a b) a == b) && (bit_at (both_ids m a b).data_bits 8 == 1)))

all_good : (m : Bool) → agree_below (λ a. agree_below (good m a) (λ b. true) 8) (λ a. true) 8 ≡ true
unfolding count_ones
all_good true = refl
all_good false = refl

pub record IsCall (m : Bool) (c i : ℕ) : Type 0 where
  pub two : drives_two_ids c (both_ids m c i) ≡ true
  pub other : other_id (both_ids m c i) c ≡ i
  pub parity : (bit_at (2 ^ c + 2 ^ i + 256) 8 == 1) ≡ true

pub is_call : (m : Bool) (c i : ℕ) → c < 8 → i < 8 → c ≢ i → IsCall m c i
is_call m c i lc lk ne =
    let g : good m c i ≡ true = agree_below_at (good m c) (λ b. true) 8 i
    (agree_below_at (λ a. agree_below (good m a) (λ b. true) 8) (λ a. true) 8 c (all_good m) lc) lk in
    let h = and_parts _ _ (or_second (c == i) (drives_two_ids c (both_ids m c i)
    && ((other_id (both_ids m c i) c == i) && (bit_at (both_ids m c i).data_bits 8 == 1))) g (ne_eqb c i ne)) in
    let j = and_parts (other_id (both_ids m c i) c == i) (bit_at (both_ids m c i).data_bits 8 == 1) h.1 in
    record { two = h.0; other = eqb-true _ _ j.0; parity = j.1 }
