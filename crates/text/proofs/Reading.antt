-- Reading a text byte by byte: the numbers that are stored, before what the rest of the text comes to, are what the whole text comes to.
use mathlib.Core.Path.{◌≡◌, refl, sym, ap, ◌∙◌}
use mathlib.Core.List.{List, [], ◌∷◌, ◌++◌, append_assoc, append-nil}
use Prim.Native.Nat.{ℕ, zero, suc, ◌+◌, ◌-◌, ◌<◌, ◌≤◌}
use native.Mathlib.Numerals.{add-one}
use native.Mathlib.Omega.{arith}
use lib.ListN.{length, take, drop, get_or, set, length-append, length-set, drop_of_length-le}
use lib.Seq.{drop-cons, take-suc-set, length-take-le}
use Rattle.std.specs.Prelude.{None, Result, Ok, Err}
use Rattle.text.specs.declared.Step.{Step}
use Rattle.text.specs.declared.Step.TheVariants.{On, Ends, Stranger, Great}
use Rattle.text.specs.declared.ParseError.{ParseError}
use Rattle.text.specs.declared.ParseError.TheVariants as error
use Rattle.text.specs.Text.{Scan, Turned, Text, all, stop, after, follow, text_from, text_of, ended, step_of, turn_leaves, TurnLeaves, ReadAs}

-- ---- one turn

pub turn_full : {left at held n : ℕ} {step : Step} {before now : List ℕ} → step ≡ Ends n → left ≡ 0 → TurnLeaves left at held step (Err (error.Full at)) before now
turn_full e none = record { leaves = rw (e, none) refl }

pub turn_ends : {left at held n : ℕ} {step : Step} {before : List ℕ} → step ≡ Ends n → 0 < left → TurnLeaves left at held step (Ok (None, held + 1)) before (set before held n)
turn_ends {left = zero} e some = let no : ⊥ = omega arith in absurd no
turn_ends {left = suc left} e some = record { leaves = rw e (refl, refl) }

pub turn_on : {left at held : ℕ} {scan : Scan} {step : Step} {before : List ℕ} → step ≡ On scan → TurnLeaves left at held step (Ok (scan, held)) before before
turn_on e = record { leaves = rw e (refl, refl) }

pub turn_stranger : {left at held : ℕ} {step : Step} {before now : List ℕ} → step ≡ Stranger → TurnLeaves left at held step (Err (error.Stranger at)) before now
turn_stranger e = record { leaves = rw e refl }

pub turn_great : {left at held : ℕ} {step : Step} {before now : List ℕ} → step ≡ Great → TurnLeaves left at held step (Err (error.Great at)) before now
turn_great e = record { leaves = rw e refl }

-- ---- what a turn's answer tells

stops_not : {why : ParseError} {scan : Scan} {held : ℕ} → ◌≡◌ {A = Turned} (Err why) (Ok (scan, held)) → ⊥
stops_not e = cc

stop_inside : {why other : ParseError} → ◌≡◌ {A = Turned} (Err why) (Err other) → why ≡ other
stop_inside e = cc

pair_inside : {p q : Scan × ℕ} → ◌≡◌ {A = Turned} (Ok p) (Ok q) → p ≡ q
pair_inside e = cc

scan_inside : {scan other : Scan} {held more : ℕ} → ◌≡◌ {A = Turned} (Ok (scan, held)) (Ok (other, more)) → scan ≡ other
scan_inside e = ap (λ (p : Scan × ℕ). p.0) (pair_inside e)

held_inside : {scan other : Scan} {held more : ℕ} → ◌≡◌ {A = Turned} (Ok (scan, held)) (Ok (other, more)) → held ≡ more
held_inside e = ap (λ (p : Scan × ℕ). p.1) (pair_inside e)

after_none : (t : Text) → t ≡ after [] t
after_none (all xs) = refl
after_none (stop why) = refl

after_after : (xs ys : List ℕ) (t : Text) → after xs (after ys t) ≡ after (xs ++ ys) t
after_after xs ys (all zs) = ap all (sym (append_assoc xs ys zs))
after_after xs ys (stop why) = refl

-- what is stored, before what is left
record Onward (whole : Text) (room : ℕ) (go : ℕ → Scan → Text) (now : List ℕ) (scan : Scan) (held : ℕ) : Type 0 where
  rest : whole ≡ after (take held now) (go (room - held) scan)
  kept : length now ≡ room
  within : held ≤ room

module _ {whole : Text} {room held : ℕ} (at : ℕ) (go : ℕ → Scan → Text) (before now : List ℕ) (kept : length before ≡ room) (within : held ≤ room) where
  onward : (step : Step) (left : ℕ) {scan : Scan} {more : ℕ} {r : Turned} → left ≡ room - held → whole ≡ after (take held before) (follow left at go step)
      → turn_leaves left at held step r before now → r ≡ Ok (scan, more) → Onward whole room go now scan more
  onward (On on) left {scan} {more} l so_far leaves r =
      let same : ◌≡◌ {A = Turned} (Ok (on, held)) (Ok (scan, more)) = sym leaves.0 ∙ r in
      let s : on ≡ scan = scan_inside same in
      let h : held ≡ more = held_inside same in
      rw (sym s, sym h, leaves.1) (record { rest = rw (sym l) so_far; kept = kept; within = within })
  onward (Ends n) zero l so_far leaves r = absurd (stops_not (sym leaves ∙ r))
  onward (Ends n) (suc left) {scan} {more} l so_far leaves r =
      let same : ◌≡◌ {A = Turned} (Ok (None, held + 1)) (Ok (scan, more)) = sym leaves.0 ∙ r in
      let s : None ≡ scan = scan_inside same in
      let h : held + 1 ≡ more = held_inside same in
      let fewer : left ≡ room - (held + 1) = omega arith in
      let stored : take (held + 1) (set before held n) ≡ take held before ++ (n ∷ []) = rw (add-one held) (take-suc-set before held n (omega arith)) in
      rw (sym s, sym h, leaves.1) (record {
        rest = so_far ∙ after_after (take held before) (n ∷ []) (go left None) ∙ ap (λ (xs : List ℕ). after xs (go left None)) (sym stored) ∙ ap (λ (k : ℕ). after (take (held + 1) (set before held n)) (go k None)) fewer;
        kept = length-set before held n ∙ kept;
        within = omega arith;
      })
  onward Stranger left l so_far leaves r = absurd (stops_not (sym leaves ∙ r))
  onward Great left l so_far leaves r = absurd (stops_not (sym leaves ∙ r))

  stopped : (step : Step) (left : ℕ) {why : ParseError} {r : Turned} → whole ≡ after (take held before) (follow left at go step)
      → turn_leaves left at held step r before now → r ≡ Err why → whole ≡ stop why
  stopped (On on) left so_far leaves r = absurd (stops_not (sym r ∙ leaves.0))
  stopped (Ends n) zero so_far leaves r = so_far ∙ ap stop (stop_inside (sym leaves ∙ r))
  stopped (Ends n) (suc left) so_far leaves r = absurd (stops_not (sym r ∙ leaves.0))
  stopped Stranger left so_far leaves r = so_far ∙ ap stop (stop_inside (sym leaves ∙ r))
  stopped Great left so_far leaves r = so_far ∙ ap stop (stop_inside (sym leaves ∙ r))

-- ---- the loop

-- before byte i: the numbers that are stored, and what the rest of the text comes to
pub record Going (room : ℕ) (text now : List ℕ) (scan : Scan) (held i : ℕ) : Type 0 where
  pub rest : text_of room text ≡ after (take held now) (text_from (room - held) i scan (drop i (ended text)))
  pub kept : length now ≡ room
  pub within : held ≤ room
  pub at : i ≤ length text + 1

pub going_begin : (text now : List ℕ) → Going (length now) text now None 0 0
going_begin text now =
    let whole : length now - 0 ≡ length now = omega arith in
    record {
      rest = rw whole (after_none (text_of (length now) text));
      kept = refl;
      within = omega arith;
      at = omega arith;
    }

length_ended : (text : List ℕ) → length (ended text) ≡ length text + 1
length_ended text = length-append text (32 ∷ [])

module _ {room held i b : ℕ} {text before now : List ℕ} {scan : Scan} {r : Turned} (going : Going room text before scan held i) (inside : i ≤ length text) (byte : b ≡ get_or (ended text) i 0)
    (leaves : TurnLeaves (length before - held) i held (step_of scan b) r before now) where
  abbrev behind : ℕ → Scan → Text
  behind k s = text_from k (suc i) s (drop (suc i) (ended text))

  opened : text_from (room - held) i scan (drop i (ended text)) ≡ follow (room - held) i behind (step_of scan b)
  unfolding text_from
  opened =
      ap (text_from (room - held) i scan) (drop-cons (ended text) i 0 (omega (arith, length_ended text)))
      ∙ ap (λ (x : ℕ). follow (room - held) i behind (step_of scan x)) (sym byte)

  so_far : text_of room text ≡ after (take held before) (follow (length before - held) i behind (step_of scan b))
  so_far = rw going.kept (going.rest ∙ ap (after (take held before)) opened)

  pub going_on : {on : Scan} {more : ℕ} → r ≡ Ok (on, more) → Going room text now on more (i + 1)
  going_on {on} {more} answer =
      let o : Onward (text_of room text) room behind now on more = onward i behind before now going.kept going.within (step_of scan b) (length before - held) (ap (λ (k : ℕ). k - held) going.kept) so_far leaves.leaves answer in
      record {
        rest = rw (add-one i) o.rest;
        kept = o.kept;
        within = o.within;
        at = omega arith;
      }

  pub going_stops : {why : ParseError} {given : Result ℕ ParseError} → r ≡ Err why → given ≡ Err why → ReadAs (text_of room text) given now
  going_stops answer is = rw (stopped i behind before now going.kept going.within (step_of scan b) (length before - held) so_far leaves.leaves answer) is

pub going_done : {room held i : ℕ} {text now : List ℕ} {scan : Scan} → Going room text now scan held i → length text < i → ReadAs (text_of room text) (Ok held) now
unfolding text_from
going_done {room} {held} {i} {text} {now} {scan} going past =
    let none : drop i (ended text) ≡ [] = drop_of_length-le (ended text) {i = i} (omega (arith, length_ended text)) in
    let is : text_of room text ≡ all (take held now) = going.rest ∙ ap (λ (bs : List ℕ). after (take held now) (text_from (room - held) i scan bs)) none ∙ ap all (append-nil (take held now)) in
    let size : length (take held now) ≡ held = length-take-le held now (omega (arith, going.kept, going.within)) in
    rw (is, size) (refl, refl)

-- Assumes nothing.
