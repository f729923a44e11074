-- Laws of going through a text: a pair that ends and is stored, one byte, and a turn of the loop.
use mathlib.Core.Path.{◌≡◌, refl, sym, ap, ◌∙◌}
use mathlib.Core.Bool.{Bool, true, false}
use Rattle.std.specs.Prelude.{Option, Some, Err}
use mathlib.Core.List.{List, [], ◌∷◌, ◌++◌}
use Prim.Native.Nat.{ℕ, suc, ◌+◌, ◌*◌, ◌^◌, ◌<◌, ◌≤◌}
use native.Mathlib.Numerals.{add-one}
use native.Mathlib.Omega.{arith}
use lib.Dec.{eqb}
use lib.IntN.{ℤ}
use lib.ListN.{length, get_or, drop, length-append, drop_of_length-le, get_or-append}
use lib.Seq.{drop-cons, sets, length-sets, get_or-append_seam}
use borrow.Author.Tests.{eq-eqb, ne_eqb, eqb-true, eqb-false}
use Rattle.codes.specs.Refusal.{Refusal}
use Rattle.codes.proofs.Refusals.{same_refusal}
use Rattle.codes.specs.declared.Code.{Code}
use Rattle.control_points.specs.declared.Pair.{Pair}
use Rattle.write_steps.proofs.Stores.{sets_append}
use Rattle.polyline.specs.declared.Figure.{Figure}
use Rattle.polyline.specs.declared.Spot.{Spot}
use Rattle.polyline.specs.declared.Track.{Track}
use Rattle.polyline.specs.Tracked.{Empty}
use Rattle.polyline.specs.Judged.{Judged}
use Rattle.polyline.specs.Judged as judged
use Rattle.polyline.specs.Tracked.{Halt}
use Rattle.polyline.specs.Spots.{figure_at, grown_by, spot_of, spots_from, capped, capped_spots, ended}
use Rattle.polyline.specs.Read.{track_to, step_deltas, judged_of, track_from, deltas_from}
use Rattle.polyline.proofs.Tracks.{judged_on, walk_on, walk_stop}
use Rattle.polyline_scan.specs.declared.Run.{Run}
use Rattle.polyline_scan.specs.Turned.{Turned, On, Stop}
use Rattle.polyline_scan.specs.Steps.{RunHeld, Spare, pair_ends, turned_of, end_deltas, turn_deltas, ScanLeaves}
use Rattle.polyline_pairs.proofs.Numbers.{figure_held, grown_held, track_held}

-- ---- a pair ends

begins : (run : Run) (s : Spot) → s ≡ spot_of run.figure → s.begin ≡ run.figure.begin
unfolding spot_of
begins run s e = rw e

pub byte_inside : (text : List ℕ) (i : ℕ) {b : ℕ} → i < length text → b ≡ get_or text i 0 → b ≡ get_or (ended text) i 0
byte_inside text i h is = is ∙ sym (get_or-append text (32 ∷ []) 0 i h)

pub byte_end : (text : List ℕ) (i : ℕ) → length text ≤ i → i ≤ length text → 32 ≡ get_or (ended text) i 0
byte_end text i h g = let e : i ≡ length text = omega arith in rw e (sym (get_or-append_seam text 32 [] 0))

-- ---- a turn of the loop

-- the pairs from byte i on
abbrev rest : List ℕ → Run → ℕ → List Spot
rest text run i = spots_from capped run.figure i (drop i (ended text))

-- cells that so many bytes can have made: none before the first pair ends, and none for it
abbrev counts_by : Option Track → ℕ → ℕ → Type 0
counts_by Empty held n = held ≡ 0
counts_by (Some t) held n = held + 2 ≤ 2 * n

pub record Counts (t : Option Track) (held n : ℕ) : Type 0 where
  pub by : counts_by t held n

pub spare : (t : Option Track) (held n : ℕ) → Counts t held n → n < 2 ^ 63 → Spare t held
spare Empty held n c h = record { cells = tt }
spare (Some t) held n c h = record { cells = omega (arith, c.by) }

counts_more : (t : Option Track) (held n : ℕ) → Counts t held n → Counts t held (suc n)
counts_more Empty held n c = record { by = c.by }
counts_more (Some t) held n c = record { by = omega (arith, c.by) }

counts_on : (t : Option Track) (q : Pair) (u : Track) (held n : ℕ) → Counts t held n → u ≡ track_to t q → Counts (Some u) (held + length (step_deltas t q)) (suc n)
unfolding track_to step_deltas
counts_on Empty q u held n c e = rw e (record { by = omega (arith, c.by) })
counts_on (Some t) q u held n c e = rw e (record { by = omega (arith, c.by) })

-- before byte i: what is left comes to the whole
pub record Going (text : List ℕ) (d₀ d : List ℤ) (run : Run) (i : ℕ) : Type 0 where
  pub turns : i ≤ length text + 1
  pub kept : length d ≡ length d₀
  pub few : Counts run.track run.held i
  pub fits : RunHeld run
  pub walk : track_from run.track (rest text run i) ≡ track_from Empty (capped_spots text)
  pub many : run.held + length (deltas_from run.track (rest text run i)) ≡ length (deltas_from Empty (capped_spots text))
  pub so : sets d run.held (deltas_from run.track (rest text run i)) ≡ sets d₀ 0 (deltas_from Empty (capped_spots text))

zero_plus : (n : ℕ) → 0 + n ≡ n
zero_plus n = omega arith

pub going_begin : (text : List ℕ) (d : List ℤ) (f : Figure) → f ≡ figure_at 0 → Going text d d (record { figure = f; track = Empty; held = 0 }) 0
unfolding capped_spots
going_begin text d f e =
    rw e (record {
      turns = omega arith;
      kept = refl;
      few = record { by = refl };
      fits = record { figure = figure_held 0; track = record { held = tt } };
      walk = refl;
      many = zero_plus (length (deltas_from Empty (capped_spots text)));
      so = refl;
    })

-- a pair at the front
abbrev Front : Run → ℕ → List ℕ → List Spot
Front run i bs = spot_of run.figure ∷ spots_from capped (figure_at (suc i)) (suc i) bs

deltas_front : (t : Option Track) (s : Spot) (ss : List Spot) (u : Track) → u ≡ track_to t s.point → deltas_from t (s ∷ ss) ≡ step_deltas t s.point ++ deltas_from (Some u) ss
unfolding deltas_from
deltas_front t s ss u e = rw e

module _ (text : List ℕ) (d₀ d d' : List ℤ) (run : Run) (i : ℕ) (g : Going text d₀ d run i) (h : i ≤ length text) (b : ℕ) (at : b ≡ get_or (ended text) i 0) where
  bytes : drop i (ended text) ≡ b ∷ drop (suc i) (ended text)
  bytes = drop-cons (ended text) i 0 (omega (arith, length-append text (32 ∷ []))) ∙ ap (λ (k : ℕ). k ∷ drop (suc i) (ended text)) (sym at)

  spots_space : b ≡ 32 → rest text run i ≡ Front run i (drop (suc i) (ended text))
  unfolding spots_from
  spots_space e = rw (bytes, eq-eqb b 32 e)

  spots_inside : (b ≡ 32 → ⊥) → rest text run i ≡ spots_from capped (grown_by capped run.figure b) (suc i) (drop (suc i) (ended text))
  unfolding spots_from
  spots_inside n = rw (bytes, ne_eqb b 32 n)

  inside : (b ≡ 32 → ⊥) → (u : Run) → On u ≡ turned_of run b (i + 1) → d' ≡ sets d run.held (turn_deltas run b) → Going text d₀ d' u (i + 1)
  unfolding turned_of turn_deltas
  inside n u e x =
      let z : u ≡ record { figure = grown_by capped run.figure b; track = run.track; held = run.held } = cc (ne_eqb b 32 n) in
      let y : d' ≡ d = rw (ne_eqb b 32 n) at x in
      rw (z, y, add-one i) (record {
        turns = omega arith;
        kept = g.kept;
        few = counts_more run.track run.held i g.few;
        fits = record { figure = grown_held run.figure b g.fits.figure; track = g.fits.track };
        walk = rw (spots_inside n) at g.walk;
        many = rw (spots_inside n) at g.many;
        so = rw (spots_inside n) at g.so;
      })

  space_on : b ≡ 32 → (t u : _) → judged_of run.track (spot_of run.figure).point ≡ judged.On t → On u ≡ turned_of run b (i + 1)
      → d' ≡ sets d run.held (turn_deltas run b) → Going text d₀ d' u (i + 1)
  unfolding turned_of turn_deltas pair_ends end_deltas
  space_on e t u j r x =
      let q = (spot_of run.figure).point in
      let ss = spots_from capped (figure_at (suc i)) (suc i) (drop (suc i) (ended text)) in
      let p = judged_on run.track q t j in
      let z : u ≡ record { figure = figure_at (i + 1); track = Some t; held = run.held + length (step_deltas run.track q) } = cc (rw (eq-eqb b 32 e, j) at r) in
      let y : d' ≡ sets d run.held (step_deltas run.track q) = rw (eq-eqb b 32 e, j) at x in
      let f = deltas_front run.track (spot_of run.figure) ss t p.is in
      rw (z, add-one i) (record {
        turns = omega arith;
        kept = ap length y ∙ length-sets d run.held (step_deltas run.track q) ∙ g.kept;
        few = counts_on run.track q t run.held i g.few p.is;
        fits = record { figure = figure_held (suc i); track = track_held run.track q t g.fits.track p };
        walk = sym (walk_on run.track (spot_of run.figure) ss t j) ∙ rw (spots_space e) at g.walk;
        many = omega (arith, rw (spots_space e, f) at g.many, length-append (step_deltas run.track q) (deltas_from (Some t) ss));
        so = rw y (sym (sets_append d run.held (step_deltas run.track q) (deltas_from (Some t) ss))) ∙ rw (spots_space e, f) at g.so;
      })

  space_stop : b ≡ 32 → (code : Code) (place : ℕ) (c : Code) → judged_of run.track (spot_of run.figure).point ≡ judged.Stop c → Stop code place ≡ turned_of run b (i + 1)
      → track_from Empty (capped_spots text) ≡ Halt code place
  unfolding turned_of pair_ends
  space_stop e code place c j r =
      let ss = spots_from capped (figure_at (suc i)) (suc i) (drop (suc i) (ended text)) in
      let z : Stop code place ≡ Stop c run.figure.begin = rw (eq-eqb b 32 e, j) at r in
      let same = same_refusal z in
      sym (rw (spots_space e) at g.walk) ∙ walk_stop run.track (spot_of run.figure) ss c j ∙ rw (same.0, same.1, begins run (spot_of run.figure) refl)

  space_goes : b ≡ 32 → (t : Track) (code : Code) (place : ℕ) → judged_of run.track (spot_of run.figure).point ≡ judged.On t → Stop code place ≡ turned_of run b (i + 1) → ⊥
  unfolding turned_of pair_ends
  space_goes e t code place j r = let y = rw (eq-eqb b 32 e, j) at r in cc

  space_halts : b ≡ 32 → (u : Run) (c : Code) → judged_of run.track (spot_of run.figure).point ≡ judged.Stop c → On u ≡ turned_of run b (i + 1) → ⊥
  unfolding turned_of pair_ends
  space_halts e u c j r = let y = rw (eq-eqb b 32 e, j) at r in cc

  inside_goes : (b ≡ 32 → ⊥) → (code : Code) (place : ℕ) → Stop code place ≡ turned_of run b (i + 1) → ⊥
  unfolding turned_of
  inside_goes n code place r = let y = rw (ne_eqb b 32 n) at r in cc

  pub going_on : (r : Turned) → (r ≡ turned_of run b (i + 1)) × (d' ≡ sets d run.held (turn_deltas run b)) → (u : Run) → r ≡ On u → Going text d₀ d' u (i + 1)
  going_on r e u is = go (eqb b 32) refl (judged_of run.track (spot_of run.figure).point) refl
    where
      go : (t : Bool) → eqb b 32 ≡ t → (j : Judged) → judged_of run.track (spot_of run.figure).point ≡ j → Going text d₀ d' u (i + 1)
      go true x (judged.On t) y = space_on (eqb-true b 32 x) t u y (sym is ∙ e.0) e.1
      go true x (judged.Stop c) y = absurd (space_halts (eqb-true b 32 x) u c y (sym is ∙ e.0))
      go false x j y = inside (eqb-false b 32 x) u (sym is ∙ e.0) e.1

  halts : (r : Turned) → (r ≡ turned_of run b (i + 1)) × (d' ≡ sets d run.held (turn_deltas run b)) → (code : Code) (place : ℕ) → r ≡ Stop code place
      → track_from Empty (capped_spots text) ≡ Halt code place
  halts r e code place is = go (eqb b 32) refl (judged_of run.track (spot_of run.figure).point) refl
    where
      go : (t : Bool) → eqb b 32 ≡ t → (j : Judged) → judged_of run.track (spot_of run.figure).point ≡ j → track_from Empty (capped_spots text) ≡ Halt code place
      go true x (judged.On t) y = absurd (space_goes (eqb-true b 32 x) t code place y (sym is ∙ e.0))
      go true x (judged.Stop c) y = space_stop (eqb-true b 32 x) code place c y (sym is ∙ e.0)
      go false x j y = absurd (inside_goes (eqb-false b 32 x) code place (sym is ∙ e.0))

  pub going_stops : (r : Turned) → (r ≡ turned_of run b (i + 1)) × (d' ≡ sets d run.held (turn_deltas run b)) → (f : Refusal) → r ≡ Err f → (answer : Turned) → answer ≡ Err f
      → ScanLeaves (capped_spots text) answer d₀ d'
  going_stops r e (code, place) is answer same = rw same (record { leaves = halts r e code place is })

pub going_done : (text : List ℕ) (d₀ d : List ℤ) (run : Run) (i : ℕ) → Going text d₀ d run i → length text < i → ScanLeaves (capped_spots text) (On run) d₀ d
unfolding spots_from track_from deltas_from
going_done text d₀ d run i g h =
    let le : length (ended text) ≤ i = omega (arith, length-append text (32 ∷ [])) in
    let n : drop i (ended text) ≡ [] = drop_of_length-le (ended text) le in
    let m = rw n at g.many in
    record { leaves = (sym (rw n at g.walk), omega (arith, m), rw n at g.so) }

-- the end of the text ends a pair
pub going_last : (text : List ℕ) (d₀ d d' : List ℤ) (run : Run) (i : ℕ) → Going text d₀ d run i → i ≡ length text → (r : Turned)
    → (r ≡ turned_of run 32 (length text + 1)) × (d' ≡ sets d run.held (turn_deltas run 32)) → ScanLeaves (capped_spots text) r d₀ d'
going_last text d₀ d d' run i g is r e = go r refl
  where
    answered : (r ≡ turned_of run 32 (i + 1)) × (d' ≡ sets d run.held (turn_deltas run 32))
    answered = rw is e

    byte : 32 ≡ get_or (ended text) i 0
    byte = byte_end text i (omega arith) (omega arith)

    go : (t : Turned) → r ≡ t → ScanLeaves (capped_spots text) r d₀ d'
    go (On u) x = rw x (going_done text d₀ d' u (i + 1) (going_on text d₀ d d' run i g (omega arith) 32 byte r answered u x) (omega arith))
    go (Err f) x = going_stops text d₀ d d' run i g (omega arith) 32 byte r answered f x r x

-- Assumes nothing.
