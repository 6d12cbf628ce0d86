-- The bytes of a message that is half sent.
use Rattle.std.specs.Prelude.{ℕ, Bool, true, false, List, [], ◌∷◌}
use Rattle.msg_grammar.specs.declared.message.Got.{Got}
use Rattle.msg_grammar.specs.declared.message.Got.TheVariants.{Whole, More, Unknown}

-- The bytes of a message that is not whole stay.
abbrev pub left_of : {M : Type 0} → Got M → List ℕ → List ℕ
left_of (Whole m n) bytes = []
left_of More bytes = bytes
left_of Unknown bytes = []

abbrev pub is_nil : List ℕ → Bool
is_nil [] = true
is_nil (b ∷ bytes) = false
