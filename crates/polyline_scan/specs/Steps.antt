-- What going through a points text speaks of: one byte, and what all of them leave.
use Rattle.std.specs.Prelude.{◌≡◌, cond, List, [], ℕ, ◌+◌, ◌^◌, ◌<◌, eqb, length, ℤ, Option, Some}
use Rattle.std.proofs.lemmas.List.Edits.{sets}
use Rattle.polyline.specs.declared.Spot.{Spot}
use Rattle.polyline.specs.declared.Track.{Track}
use Rattle.polyline.specs.Judged.{Judged}
use Rattle.polyline.specs.Judged as judged
use Rattle.polyline.specs.Tracked.{Empty, Came, Halt}
use Rattle.polyline.specs.Spots.{figure_at, grown_by, spot_of, capped}
use Rattle.polyline.specs.Read.{judged_of, track_from, step_deltas, deltas_from}
use Rattle.polyline_pairs.specs.Fits.{Held, OnTrack}
use Rattle.polyline_scan.specs.declared.Run.{Run}
use Rattle.polyline_scan.specs.Turned.{Turned, On, Stop}

pub record RunHeld (run : Run) : Type 0 where
  pub figure : Held run.figure
  pub track : OnTrack run.track

-- two cells more can be counted; a first pair has none
abbrev pub spare_by : Option Track → ℕ → Type 0
spare_by Empty held = Unit {0}
spare_by (Some t) held = held + 2 < 2 ^ 64

pub record Spare (t : Option Track) (held : ℕ) : Type 0 where
  pub cells : spare_by t held

-- ---- one byte

-- a pair that ends, where the next begins at `after`
abbrev pub ended_of : Judged → Run → ℕ → Turned
ended_of (judged.On t) run after = On (record { figure = figure_at after; track = Some t; held = run.held + length (step_deltas run.track (spot_of run.figure).point) })
ended_of (judged.Stop code) run after = Stop code run.figure.begin

unfoldable pub pair_ends : Run → ℕ → Turned
pair_ends run after = ended_of (judged_of run.track (spot_of run.figure).point) run after

unfoldable pub turned_of : Run → ℕ → ℕ → Turned
turned_of run b after =
    cond (eqb b 32) (pair_ends run after) (On (record { figure = grown_by capped run.figure b; track = run.track; held = run.held }))

-- the numbers that are stored: none of a pair that is refused
abbrev pub stored_by : Judged → List ℤ → List ℤ
stored_by (judged.On t) ds = ds
stored_by (judged.Stop code) ds = []

unfoldable pub end_deltas : Run → List ℤ
end_deltas run = stored_by (judged_of run.track (spot_of run.figure).point) (step_deltas run.track (spot_of run.figure).point)

unfoldable pub turn_deltas : Run → ℕ → List ℤ
turn_deltas run b = cond (eqb b 32) (end_deltas run) []

-- ---- a text

-- what going through pairs answers, and leaves in cells that held d before
abbrev pub scan_leaves : List Spot → Turned → List ℤ → List ℤ → Type 0
scan_leaves ss (On run) d d' =
    (track_from Empty ss ≡ Came run.track) × (run.held ≡ length (deltas_from Empty ss)) × (d' ≡ sets d 0 (deltas_from Empty ss))
scan_leaves ss (Stop code place) d d' = track_from Empty ss ≡ Halt code place

pub record ScanLeaves (ss : List Spot) (r : Turned) (d d' : List ℤ) : Type 0 where
  pub leaves : scan_leaves ss r d d'
