-- What follows from two values that differ: anything.
use Rattle.std.proofs.Common.{◌≡◌, Option, Some, None}

pub none_some : {A X : Type 0} (x : X) → (let o : Option X = None in o) ≡ Some x → A
none_some x e = absurd cc

pub some_none : {A X : Type 0} (x : X) → Some x ≡ (let o : Option X = None in o) → A
some_none x e = absurd cc
