-- What a points text says: its pairs, each with its first byte. Of a text that has not the form this is something, and nobody asks for it.
use Rattle.std.specs.Prelude.{Bool, true, false, cond, List, [], ◌∷◌, ◌++◌, ℕ, zero, suc, ◌+◌, ◌-◌, ◌*◌, eqb, leb, ℤ, pos, negsuc}
use Rattle.polyline.specs.declared.Figure.{Figure}
use Rattle.polyline.specs.declared.Spot.{Spot}

-- a number by its sign and size
abbrev pub signed_by : Bool → ℕ → ℤ
signed_by false n = pos n
signed_by true zero = pos 0
signed_by true (suc n) = negsuc n

-- nothing of a pair that begins at a byte
abbrev pub figure_at : ℕ → Figure
figure_at at = record { begin = at; x = pos 0; negative = false; size = 0 }

-- the number so far
abbrev pub value_of : Figure → ℤ
value_of f = signed_by f.negative f.size

-- a comma ends x, a minus makes negative, and a digit stands behind those before it; `hold` is what is kept of a size
unfoldable pub grown_by : (ℕ → ℕ) → Figure → ℕ → Figure
grown_by hold f b =
    cond (eqb b 44) (record { begin = f.begin; x = value_of f; negative = false; size = 0 })
    (cond (eqb b 45) (record { begin = f.begin; x = f.x; negative = true; size = f.size })
    (record { begin = f.begin; x = f.x; negative = f.negative; size = hold (10 * f.size + (b - 48)) }))

unfoldable pub spot_of : Figure → Spot
spot_of f = record { begin = f.begin; point = record { x = f.x; y = value_of f } }

-- the pairs that end from the byte `at` on, of which one is being read: a space ends a pair
unfoldable pub spots_from : (ℕ → ℕ) → Figure → ℕ → List ℕ → List Spot
spots_from hold f at [] = []
spots_from hold f at (b ∷ bs) =
    cond (eqb b 32) (spot_of f ∷ spots_from hold (figure_at (suc at)) (suc at) bs) (spots_from hold (grown_by hold f b) (suc at) bs)

-- sizes as they are
abbrev pub uncapped : ℕ → ℕ
uncapped n = n

-- sizes up to 2^24, which is beyond every position
abbrev pub capped : ℕ → ℕ
capped n = cond (leb 16777216 n) 16777216 n

-- the end of a text counts as a space
abbrev pub ended : List ℕ → List ℕ
ended text = text ++ 32 ∷ []

unfoldable pub spots_of : List ℕ → List Spot
spots_of text = spots_from uncapped (figure_at 0) 0 (ended text)

-- the same with sizes that fit a machine's number
unfoldable pub capped_spots : List ℕ → List Spot
capped_spots text = spots_from capped (figure_at 0) 0 (ended text)
