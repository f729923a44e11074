-- What reading leaves in the lent buffers: on success the values and then what was there, after a refusal nothing is said.
use Rattle.std.specs.Prelude.{◌≡◌, List, map, ℕ, length, ℤ, Float}
use Rattle.shape.specs.Shape.{points_of}
use Rattle.list.specs.List.{Got, got, stop, ListRooms, Described, described}
use Rattle.list.specs.Steps.{f32_of}
use Rattle.read_steps.specs.Steps.{Front}
use Rattle.codes.specs.Refusal.{refused}
use Rattle.read_list.specs.Answer.{ReadAnswer, done}

-- the lengths of the lent buffers
abbrev pub rooms_of : List ℕ → List Float → List ℤ → List ℤ → ListRooms
rooms_of ns zs ds cs = record { counts = length ns; starts = length zs; deltas = length ds; coefficients = length cs }

-- what follows the starts
abbrev pub RestLeft : Got Described → ReadAnswer → List ℕ → List ℕ → List ℤ → List ℤ → List ℤ → List ℤ → Type 0
RestLeft (got (described a zs ns ds cs) l) r n n' d d' c c' =
    (r ≡ done (length ns) (points_of ns) a) × Front ns n n' × Front ds d d' × Front cs c c'
RestLeft (stop k p) r n n' d d' c c' = r ≡ refused k p

-- the whole list
abbrev pub ListLeft : Got Described → ReadAnswer → List ℕ → List ℕ → List Float → List Float → List ℤ → List ℤ → List ℤ → List ℤ → Type 0
ListLeft (got (described a zs ns ds cs) l) r n n' s s' d d' c c' =
    (r ≡ done (length ns) (points_of ns) a) × Front ns n n' × Front (map f32_of zs) s s' × Front ds d d' × Front cs c c'
ListLeft (stop k p) r n n' s s' d d' c c' = r ≡ refused k p
