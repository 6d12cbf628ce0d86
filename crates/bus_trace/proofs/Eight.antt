-- What eight devices drive, as a list.
use Rattle.std.proofs.Common.{◌≡◌, List, [], ◌∷◌, length, get_or, arith}
use Rattle.bus_trace.specs.LineSet.{LineSet}
use Rattle.bus_trace.specs.View.{View}

-- A list of eight is that of its elements.
pub is_of_eight
    : (xs : List LineSet) → length xs ≡ 8 → (a b c d e f g h a' b' c' d' e' f' g' h' : LineSet)
    → a ≡ get_or xs 0 a'
    → b ≡ get_or xs 1 b'
    → c ≡ get_or xs 2 c'
    → d ≡ get_or xs 3 d'
    → e ≡ get_or xs 4 e'
    → f ≡ get_or xs 5 f'
    → g ≡ get_or xs 6 g'
    → h ≡ get_or xs 7 h'
    → a ∷ b ∷ c ∷ d ∷ e ∷ f ∷ g ∷ h ∷ [] ≡ xs
is_of_eight [] long a b c d e f g h a' b' c' d' e' f' g' h' ea eb ec ed ee ef eg eh = absurd (omega arith)
is_of_eight (x0 ∷ []) long a b c d e f g h a' b' c' d' e' f' g' h' ea eb ec ed ee ef eg eh = absurd (omega arith)
is_of_eight (x0 ∷ x1 ∷ []) long a b c d e f g h a' b' c' d' e' f' g' h' ea eb ec ed ee ef eg eh = absurd (omega arith)
is_of_eight (x0 ∷ x1 ∷ x2 ∷ []) long a b c d e f g h a' b' c' d' e' f' g' h' ea eb ec ed ee ef eg eh =
    absurd (omega arith)
is_of_eight (x0 ∷ x1 ∷ x2 ∷ x3 ∷ []) long a b c d e f g h a' b' c' d' e' f' g' h' ea eb ec ed ee ef eg eh =
    absurd (omega arith)
is_of_eight (x0 ∷ x1 ∷ x2 ∷ x3 ∷ x4 ∷ []) long a b c d e f g h a' b' c' d' e' f' g' h' ea eb ec ed ee ef eg eh =
    absurd (omega arith)
is_of_eight (x0 ∷ x1 ∷ x2 ∷ x3 ∷ x4 ∷ x5 ∷ []) long a b c d e f g h a' b' c' d' e' f' g' h' ea eb ec ed ee ef eg eh =
    absurd (omega arith)
is_of_eight (x0 ∷ x1 ∷ x2 ∷ x3 ∷ x4 ∷ x5 ∷ x6 ∷ []) long a b c d e f g h a' b' c' d' e' f' g' h' ea eb ec ed ee ef eg
    eh = absurd (omega arith)
is_of_eight (x0 ∷ x1 ∷ x2 ∷ x3 ∷ x4 ∷ x5 ∷ x6 ∷ x7 ∷ []) long a b c d e f g h a' b' c' d' e' f' g' h' ea eb ec ed ee ef
    eg eh = λ i. ea i ∷ eb i ∷ ec i ∷ ed i ∷ ee i ∷ ef i ∷ eg i ∷ eh i ∷ []
is_of_eight (x0 ∷ x1 ∷ x2 ∷ x3 ∷ x4 ∷ x5 ∷ x6 ∷ x7 ∷ x8 ∷ xs) long a b c d e f g h a' b' c' d' e' f' g' h' ea eb ec ed
    ee ef eg eh = absurd (omega arith)

-- A view with the same lines.
pub view_with : (v : View) (driven : List LineSet) (present : LineSet) → driven ≡ v.driven → present ≡ v.present
    → record v { driven = driven; present = present } ≡ v
view_with v driven present d p = λ i. record v { driven = d i; present = p i }
